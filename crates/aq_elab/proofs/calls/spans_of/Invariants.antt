use Rattle.std.proofs.Common.{◌≡◌, ◌++◌, drop, Ok}
use Rattle.std.specs.List.{All}
use Rattle.aq_base.specs.Checks.{all_checked, ◌>>=◌}
use Rattle.aq_elab.specs.Bounds.{IsShort}
use Rattle.aq_elab.specs.Spots.{span_of}
use Rattle.aq_elab.specs.declared.scope.Role.TheVariants as roles
use Rattle.aq_elab.proofs.calls.spans_of.Given as goal

abbrev pub invariant-loop-spot : goal.invariant-loop-spot
invariant-loop-spot l = record {
  spans : all_checked (span_of l.scope roles.Qubit) l.spots ≡ (all_checked (span_of l.scope roles.Qubit) (drop l.spot-index l.spots) >>= λ rest. Ok (l.spans.items ++ rest));
  short : All IsShort l.spans.items;
}
