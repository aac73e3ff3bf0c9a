use Rattle.std.proofs.Common.{◌≡◌, ◌++◌, drop, Ok}
use Rattle.aq_base.specs.Checks.{all_checked, ◌>>=◌}
use Rattle.aq_owing.specs.Asking.{bound_cond}
use Rattle.aq_owing.proofs.bind.guards_of.Given as goal

abbrev pub invariant-loop-cond : goal.invariant-loop-cond
invariant-loop-cond l = all_checked (bound_cond l.program l.name) l.conds ≡ (all_checked (bound_cond l.program l.name) (drop l.cond-index l.conds) >>= λ rest. Ok (l.guards ++ rest))
