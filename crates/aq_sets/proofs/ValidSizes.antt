-- Expressions behind others: those before them keep their sizes and stay valid.
use Rattle.std.proofs.Common.{◌≡◌, ℕ, zero, suc, ◌<◌, ◌≤◌, List, [], ◌∷◌, ◌++◌, Some, length, false, refl, sym, ap, ◌∙◌, arith}
use Rattle.std.specs.Prelude.{slice_get}
use Rattle.std.specs.List.{AllByRecursion, IsDistinct}
use Rattle.std.specs.Str.{bytes_eq}
use Rattle.std.proofs.lemmas.Cmp.{nat_list_eq_equiv}
use Rattle.std.proofs.lemmas.List.{get_or_push}
use Rattle.std.proofs.lemmas.List.Sums.{fold-append}
use Rattle.aq_sets.specs.Tables.{table, at_position}
use Rattle.aq_sets.specs.Sizes.{Size, no_size, size_step, size_of}
use Rattle.aq_sets.specs.Valid.{IsValidExpr}
use Rattle.aq_sets.specs.declared.sets.Expr.{Expr}
use Rattle.aq_sets.specs.declared.sets.Expr.TheVariants as expr
use Rattle.aq_sets.proofs.TableLaws.{get_or-grown, length-table, table-push}

-- ---- sizes

pub size-stays : (xs ys : List Expr) (i : ℕ) → i < length xs → size_of (xs ++ ys) i ≡ size_of xs i
unfolding size_of
size-stays xs ys i lt =
    let long = length-table size_step xs in
    ap (λ (t : List Size). at_position no_size t i) (fold-append (λ done e. done ++ size_step done e ∷ []) [] xs ys)
    ∙ get_or-grown size_step (table size_step xs) ys i no_size (omega (arith, lt, long))

pub size-last : (xs : List Expr) (e : Expr) → size_of (xs ++ e ∷ []) (length xs) ≡ size_step (table size_step xs) e
unfolding size_of
size-last xs e =
    ap (λ (t : List Size). at_position no_size t (length xs)) (table-push size_step xs e)
    ∙ get_or_push (table size_step xs) (size_step (table size_step xs) e) no_size (length xs) (length-table size_step xs)

-- ---- positions

pub slice_get-front : {A : Type 0} (xs ys : List A) (i : ℕ) → i < length xs → slice_get (xs ++ ys) i ≡ slice_get xs i
slice_get-front [] ys i lt = absurd (omega (arith, lt))
slice_get-front (x ∷ xs) ys zero lt = refl
slice_get-front (x ∷ xs) ys (suc i) lt = slice_get-front xs ys i (omega (arith, lt))

pub slice_get-last : {A : Type 0} (xs : List A) (x : A) → slice_get (xs ++ x ∷ []) (length xs) ≡ Some x
slice_get-last [] x = refl
slice_get-last (y ∷ xs) x = slice_get-last xs x

-- ---- validity

pub valid-stays : (xs ys : List Expr) (i : ℕ) (e : Expr) → i ≤ length xs → IsValidExpr xs i e → IsValidExpr (xs ++ ys) i e
valid-stays xs ys i (expr.Kets qubits terms) le h = h
valid-stays xs ys i (expr.All qubits) le h = h
valid-stays xs ys i (expr.Tensor left right) le h = h
valid-stays xs ys i (expr.Union left right) le h =
    let l = size-stays xs ys left (omega (arith, le, h.0)) in
    let r = size-stays xs ys right (omega (arith, le, h.1)) in
    (h.0, h.1, ap (λ (s : Size). s.qubits) l ∙ h.2 ∙ sym (ap (λ (s : Size). s.qubits) r))
valid-stays xs ys i (expr.Power base times) le h = h

-- ---- lists

pub holds_more : {A : Type 0} (P R : A → Type 0) → ((x : A) → P x → R x) → (xs : List A) → AllByRecursion P xs → AllByRecursion R xs
holds_more P R f [] h = tt
holds_more P R f (x ∷ xs) h = (f x h.0, holds_more P R f xs h.1)

pub holds_behind : {A : Type 0} (P : A → Type 0) (xs : List A) (x : A) → AllByRecursion P xs → P x → AllByRecursion P (xs ++ x ∷ [])
holds_behind P [] x h p = (p, tt)
holds_behind P (y ∷ xs) x h p = (h.0, holds_behind P xs x h.1 p)

pub holds_between : {A : Type 0} (P : A → Type 0) (xs ys : List A) (x : A) → AllByRecursion P (xs ++ ys) → P x → AllByRecursion P (xs ++ x ∷ ys)
holds_between P [] ys x h p = (p, h)
holds_between P (y ∷ xs) ys x h p = (h.0, holds_between P xs ys x h.1 p)

-- one that differs from all may stand between them
pub distinct_between : (xs ys : List (List ℕ)) (x : List ℕ) → IsDistinct bytes_eq (xs ++ ys) → AllByRecursion (λ y. bytes_eq x y ≡ false) (xs ++ ys) → IsDistinct bytes_eq (xs ++ x ∷ ys)
unfolding IsDistinct
distinct_between [] ys x d h = (h, d)
distinct_between (y ∷ xs) ys x d h = (holds_between (λ z. bytes_eq y z ≡ false) xs ys x d.0 (nat_list_eq_equiv.symm y x ∙ h.0), distinct_between xs ys x d.1 h.1)
