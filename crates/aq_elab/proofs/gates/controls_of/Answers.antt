use Rattle.std.proofs.Common.{◌≡◌, ℕ, List, [], ◌∷◌, ◌++◌, refl, sym, ap, ◌∙◌}
use Rattle.aq_elab.specs.Calls.{all_but_last}
use Rattle.aq_elab.proofs.gates.controls_of.Goals as goal

all_but_last-push : (qs : List ℕ) (q : ℕ) → all_but_last (qs ++ q ∷ []) ≡ qs
all_but_last-push [] q = refl
all_but_last-push (p ∷ []) q = refl
all_but_last-push (p ∷ r ∷ rs) q = ap (λ xs. p ∷ xs) (all_but_last-push (r ∷ rs) q)

pub returns-in-Some : goal.returns-in-Some
returns-in-Some c = sym (ap all_but_last c.in-Some.ensures.cases.0 ∙ all_but_last-push _ _)
