use Rattle.std.proofs.Common.{◌≡◌, take}
use Rattle.aq_store.proofs.levels.with_places.Given as goal

abbrev pub invariant-loop-place : goal.invariant-loop-place
invariant-loop-place l = l.ids.items ≡ take l.place-index l.places
