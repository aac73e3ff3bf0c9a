-- One gate more.
use Rattle.std.proofs.Common.{◌≡◌, ◌∙◌, ◌<◌, ◌-◌, ◌++◌, ℕ, zero, suc, List, [], ◌∷◌, sym, arith, append_assoc, append-nil, refl}
use Rattle.std.proofs.lemmas.Bool.{ne_eqb}
use Rattle.aq_trial.specs.Trials.{drawn, gates_from, next, on_one, on_two, step_from}
use Rattle.aq_trial.specs.declared.gates.Gate.{Gate}

pub gates_more : (q n x : ℕ) (front new all : List Gate) → 0 < n → front ++ gates_from q n x ≡ all
    → new ≡ front ++ ((step_from q x).gate ∷ []) → new ++ gates_from q (n - 1) (step_from q x).at ≡ all
unfolding gates_from
gates_more q zero x front new all some same grown = absurd (omega arith)
gates_more q (suc n) x front new all some same grown =
    let less : suc n - 1 ≡ n = omega arith in
    rw (less, grown) (append_assoc front ((step_from q x).gate ∷ []) (gates_from q n (step_from q x).at) ∙ same)

pub gates_all : (q n x : ℕ) (front all : List Gate) → n ≡ 0 → front ++ gates_from q n x ≡ all → front ≡ all
unfolding gates_from
gates_all q zero x front all none same = sym (append-nil front) ∙ same
gates_all q (suc n) x front all none same = absurd (omega arith)

pub on_one_else : (q k x : ℕ) → (k ≡ 0 → ⊥) → (k ≡ 1 → ⊥) → (k ≡ 2 → ⊥) → on_two q k (drawn q x) (next x) ≡ on_one q k x
on_one_else q k x none one two = rw (ne_eqb k 0 none, ne_eqb k 1 one, ne_eqb k 2 two) refl
