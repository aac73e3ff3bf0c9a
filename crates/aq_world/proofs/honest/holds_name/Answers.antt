use Rattle.std.proofs.Common.{◌∙◌, ap, is_some}
use Rattle.aq_world.proofs.FilesLemmas.{is_some-place_of}
use Rattle.aq_world.proofs.honest.holds_name.Goals as goal

pub returns : goal.returns
returns c = c.is_some.ensures ∙ ap is_some c.place_named.ensures ∙ is_some-place_of c.args.files.now c.args.name.now
