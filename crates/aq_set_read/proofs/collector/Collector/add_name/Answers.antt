use Rattle.std.proofs.Common.{◌∙◌, ap, List, ℕ}
use Rattle.std.specs.Str.{bytes_eq}
use Rattle.indexmap.specs.IndexMap.{insert_entry}
use Rattle.aq_set_read.specs.Gathered.{Gathered, named, with_name}
use Rattle.aq_set_read.proofs.CollectorLaws.{names_added, name_added, gathered_of}
use Rattle.aq_set_read.proofs.collector.Collector.add_name.Goals as goal

pub returns-clause-added : goal.returns-clause-added
returns-clause-added c =
    let absent = ap (λ (g : Gathered). named g.names c.args.name.now) c.self.view_is ∙ c.requires in
    let e = c.in-Ok.ensures.entries ∙ ap (λ (key : List ℕ). insert_entry bytes_eq c.self.inside.names.entries key c.args.made) (c.in_ok-key.ensures ∙ c.as_slice.ensures) ∙ names_added c.self.inside.names.entries c.args.name.now c.args.made absent in
    let inside = gathered_of c.self.inside.exprs c.self.inside.nodes c.self.inside.names.entries c.self.inside.sets c.self.inside.claims in
    name_added inside c.insert.new.self.entries c.args.name.now c.args.made e ∙ ap (λ (g : Gathered). with_name c.args.name.now c.args.made g) c.self.view_is
