-- The one vector of a set by its name.
use Rattle.std.proofs.Common.{◌≡◌, ℕ, ◌<◌, ◌≤◌, Bool, true, false, cond, List, [], ◌∷◌, ◌++◌, All, length, Some, ap, sym, subst, arith}
use Rattle.std.specs.List.{find}
use Rattle.std.specs.Str.{bytes_eq}
use Rattle.std.proofs.lemmas.List.Elements.{All-head, All-tail}
use Rattle.aq_sets.specs.Valid.{IsValidSets}
use Rattle.aq_sets.specs.Vectors.{Vector}
use Rattle.aq_sets.specs.declared.sets.NamedSet.{NamedSet}
use Rattle.aq_sets.specs.declared.sets.Sets.{Sets}
use Rattle.aq_plain.specs.Listing.{states_of}
use Rattle.aq_plain.specs.Vectors.{StateVector}
use Rattle.aq_top.specs.Replay.{set_named}

found_in : {A : Type 0} (P : A → Type 0) (test : A → Bool) (xs : List A) (x : A) → All P xs → find test xs ≡ Some x → P x
found_in P test [] x all e = absurd (cc e)
found_in P test (y ∷ ys) x all e = by_test (found_in P test ys x (All-tail P y ys all)) (test y) e
  where
    by_test : (find test ys ≡ Some x → P x) → (b : Bool) → cond b (Some y) (find test ys) ≡ Some x → P x
    by_test in_rest true h = let same : y ≡ x = cc in subst P same (All-head P y ys all)
    by_test in_rest false h = in_rest h

-- the expression of a set of valid sets is there
pub set_there : (s : Sets) (name : List ℕ) (set : NamedSet) → IsValidSets s → Some set ≡ set_named s.sets name → set.expr < length s.exprs
set_there s name set valid e = found_in (λ n. n.expr < length s.exprs) (λ n. bytes_eq n.name name) s.sets set valid.sets (sym e)

-- a list of at most one vector, with a last one
pub only_one : (n : ℕ) (vs : List Vector) (rest : List StateVector) (v : StateVector) → length vs ≤ 1 → states_of n vs ≡ rest ++ v ∷ []
    → (vs ≡ v.amps ∷ []) × (v.qubits ≡ n)
only_one n [] [] v few e = absurd (cc e)
only_one n [] (r ∷ rest) v few e = absurd (cc e)
only_one n (x ∷ []) [] v few e =
    let same : ◌≡◌ {A = StateVector} (record { qubits = n; amps = x }) v = cc in
    (ap (λ (s : StateVector). s.amps ∷ []) same, sym (ap (λ (s : StateVector). s.qubits) same))
only_one n (x ∷ []) (r ∷ []) v few e = absurd (cc e)
only_one n (x ∷ []) (r ∷ q ∷ rest) v few e = absurd (cc e)
only_one n (x ∷ y ∷ vs) rest v few e = absurd (omega (arith, few))

-- no vector isn't one
pub none_at_all : (n : ℕ) (vs : List Vector) → states_of n vs ≡ [] → length vs ≡ 1 → ⊥
none_at_all n [] e one = cc
none_at_all n (x ∷ vs) e one = cc
