use Rattle.std.proofs.Common.{◌∙◌, ap}
use Rattle.aq_set_read.specs.Gathered.{Gathered, named}
use Rattle.aq_set_read.proofs.CollectorLaws.{lookup_named}
use Rattle.aq_set_read.proofs.collector.Collector.named.Goals as goal

pub returns : goal.returns
returns c = c.copied.ensures ∙ c.get.ensures.value ∙ lookup_named c.self.inside.names.entries c.args.name.now ∙ ap (λ (g : Gathered). named g.names c.args.name.now) c.self.view_is
