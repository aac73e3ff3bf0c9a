use Rattle.std.proofs.Common.{◌≡◌, ℕ, List, ◌∷◌, map}
use Rattle.aq_sets.specs.Caps.{capped}
use Rattle.aq_set_build.proofs.PlaceLemmas.{cut}
use Rattle.aq_set_build.proofs.places.side_word.Given as goal

abbrev pub invariant-loop-level : goal.invariant-loop-level
invariant-loop-level l = (numbers : List ℕ) → l.shape ≡ map capped numbers → l.list.items ≡ l.first ∷ cut numbers l.word l.level
