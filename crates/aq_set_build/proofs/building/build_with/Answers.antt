use Rattle.std.proofs.Common.{rules}
use Rattle.aq_set_build.proofs.CoverLemmas.{valid_exprs}
use Rattle.aq_set_build.proofs.building.build_with.Goals as goal

pub build_at-requires-clause-valid : goal.build_at-requires-clause-valid
build_at-requires-clause-valid c = let v = valid_exprs c.args.sets.now c.requires.valid in search rules
