use Rattle.std.proofs.Common.{◌≡◌, ◌++◌, map, drop}
use Rattle.aq_set_read.specs.Meaning.{cond_of}
use Rattle.aq_set_read.proofs.claims.conds_of.Given as goal

abbrev pub invariant-loop-cond : goal.invariant-loop-cond
invariant-loop-cond l = l.conds ++ map cond_of (drop l.cond-index l.when) ≡ map cond_of l.when
