use Rattle.std.proofs.Common.{◌≡◌, ◌+◌, ◌*◌, take}
use Rattle.aq_sets.specs.Caps.{capped}
use Rattle.aq_sets.specs.Sizes.{size_of, place, power_place}
use Rattle.aq_set_build.proofs.places.+place.Given as goal

abbrev pub decreases-place_at : goal.decreases-place_at
decreases-place_at l = 4 * l.expr + 3

abbrev pub decreases-place_whole : goal.decreases-place_whole
decreases-place_whole l = 4 * l.expr + 2

abbrev pub decreases-place_tensor : goal.decreases-place_tensor
decreases-place_tensor l = 4 * l.expr + 1

abbrev pub decreases-place_power : goal.decreases-place_power
decreases-place_power l = 4 * l.expr + 1

-- the place of the first factors
abbrev pub invariant-place_power-loop-done : goal.invariant-place_power-loop-done
invariant-place_power-loop-done l = record {
  start : l.start ≡ (size_of l.exprs l.base).qubits * l.done;
  told : l.whole ≡ capped (power_place l.done (size_of l.exprs l.base) (place l.exprs l.base) (take ((size_of l.exprs l.base).qubits * l.done) l.word));
}
