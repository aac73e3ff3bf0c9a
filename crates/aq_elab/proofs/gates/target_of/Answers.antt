use Rattle.std.proofs.Common.{◌≡◌, ℕ, List, [], ◌∷◌, ◌++◌, refl, sym, ap, ◌∙◌}
use Rattle.aq_elab.specs.Calls.{last}
use Rattle.aq_elab.proofs.gates.target_of.Goals as goal

last-push : (qs : List ℕ) (q : ℕ) → last (qs ++ q ∷ []) ≡ q
last-push [] q = refl
last-push (p ∷ []) q = refl
last-push (p ∷ r ∷ rs) q = last-push (r ∷ rs) q

pub returns-in-Some : goal.returns-in-Some
returns-in-Some c = sym (ap last c.in-Some.ensures.cases.0 ∙ last-push c.in-Some.field-0-1.now _)
