-- A bracket has few terms: their indices differ, and each is below 2 to the number of its qubits.
use Rattle.std.proofs.Common.{◌≡◌, ℕ, ◌^◌, ◌<◌, ◌≤◌, Bool, true, false, ◌||◌, nat_eq, List, [], ◌∷◌, map, Some, length, get_or, All, refl, sym, ap, subst, arith}
use Rattle.std.specs.Prelude.{slice_get}
use Rattle.std.specs.List.{AllByRecursion, IsDistinct, list_any}
use Rattle.std.proofs.lemmas.Bool.{eqb-true}
use Rattle.std.proofs.lemmas.Nat.{pow_below}
use Rattle.std.proofs.lemmas.List.{length-map}
use Rattle.std.proofs.lemmas.List.Elements.{recursion_from_All}
use Rattle.std.proofs.lemmas.Map.Steps.{length-le_from_distinct_below}
use Rattle.std.proofs.lemmas.Option.{slice_get-get_or}
use Rattle.aq_base.specs.Limits.{most_qubits}
use Rattle.aq_sets.specs.Sizes.{Size, size_of}
use Rattle.aq_sets.specs.Valid.{IsValidExpr, IsShort, HasFewTerms}
use Rattle.aq_sets.specs.declared.sets.Expr.{Expr}
use Rattle.aq_sets.specs.declared.sets.Expr.TheVariants as expr
use Rattle.aq_sets.specs.declared.sets.Term.{Term}
use Rattle.aq_sets.proofs.ExprLaws.{size-is}

abbrev indices : List Term → List ℕ
indices terms = map (λ (t : Term). t.index) terms

-- an index that is there is below what each is below
there-below : (n q : ℕ) (terms : List Term) → AllByRecursion (λ (t : Term). t.index < n) terms → list_any (nat_eq q) (indices terms) ≡ true → q < n
there-below n q [] h e = absurd cc
there-below n q (t ∷ ts) h e = by (nat_eq q t.index) refl e (there-below n q ts h.1)
  where
    by : (b : Bool) → nat_eq q t.index ≡ b → (b || list_any (nat_eq q) (indices ts)) ≡ true → (list_any (nat_eq q) (indices ts) ≡ true → q < n) → q < n
    by true is k more = subst (λ m. m < n) (sym (eqb-true q t.index is)) h.0
    by false is k more = more k

few_terms : (qubits : ℕ) (terms : List Term) → qubits ≤ most_qubits → All (λ (t : Term). t.index < 2 ^ qubits) terms → IsDistinct nat_eq (indices terms) → IsShort terms
few_terms qubits terms few below distinct =
    let h = recursion_from_All (λ (t : Term). t.index < 2 ^ qubits) terms below in
    let le = length-le_from_distinct_below (indices terms) (2 ^ qubits) distinct (λ q e. there-below (2 ^ qubits) q terms h e) in
    let long = length-map terms (λ (t : Term). t.index) in
    let small = pow_below qubits 32 (omega (arith, few)) in
    omega (arith, le, long, small)

module _ (exprs : List Expr) (valid : (i : ℕ) (e : Expr) → slice_get exprs i ≡ Some e → IsValidExpr exprs i e)
    (qubits : (i : ℕ) → i < length exprs → (0 < (size_of exprs i).qubits) × ((size_of exprs i).qubits ≤ most_qubits)) where
  expr-short : (i : ℕ) (e : Expr) → i < length exprs → slice_get exprs i ≡ Some e → HasFewTerms e
  expr-short i (expr.Kets n terms) lt at =
      let h = valid i (expr.Kets n terms) at in
      let is : (size_of exprs i).qubits ≡ n = ap (λ (s : Size). s.qubits) (size-is exprs i (expr.Kets n terms) at h) in
      few_terms n terms (omega (arith, is, (qubits i lt).1)) h.1 h.2
  expr-short i (expr.All n) lt at = tt
  expr-short i (expr.Tensor left right) lt at = tt
  expr-short i (expr.Union left right) lt at = tt
  expr-short i (expr.Power base times) lt at = tt

  -- in valid expressions
  pub terms-short : All HasFewTerms exprs
  terms-short i d lt = expr-short i (get_or exprs i d) lt (slice_get-get_or exprs i d lt)
