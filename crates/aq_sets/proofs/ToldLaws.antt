-- Sizes that are told up to a limit, by the sizes of the expressions before.
use Rattle.std.proofs.Common.{◌≡◌, ℕ, zero, suc, ◌+◌, ◌*◌, ◌^◌, ◌<◌, ◌≤◌, max, List, [], ◌∷◌, ◌++◌, Some, Result, length, get_or, take, refl, sym, ap, ◌∙◌, IfOk, arith}
use Rattle.std.specs.Prelude.{slice_get, replicate, map}
use Rattle.std.specs.List.{repeat}
use Rattle.std.proofs.Math.Nat.{min-eq_left}
use Rattle.std.proofs.Math.Pow.{pow_mono}
use Rattle.std.proofs.lemmas.List.{length-map, length-take-le, get_or-map, map-append, map_push, append-nil, append_assoc}
use Rattle.std.proofs.lemmas.Option.{slice_get_within, slice_get_read, get_or_from_slice_get}
use Rattle.std.proofs.lemmas.Result.{IfOk-weaker}
use Rattle.aq_sets.specs.Tables.{table}
use Rattle.aq_sets.specs.Sizes.{Size, no_size, larger, united_shape, size_step, size_of}
use Rattle.aq_sets.specs.Valid.{IsValidSets}
use Rattle.aq_sets.specs.declared.sets.Term.{Term}
use Rattle.aq_sets.specs.declared.sets.Expr.{Expr}
use Rattle.aq_sets.specs.declared.sets.Expr.TheVariants as expr
use Rattle.aq_sets.specs.declared.sets.Sets.{Sets}
use Rattle.aq_sets.specs.Caps.{most_told, capped, capped_size, capped_sizes}
use Rattle.aq_sets.specs.ValidExprs.{AreValidExprs}
use Rattle.aq_sets.specs.declared.sizes.Size as told
use Rattle.aq_sets.proofs.TableLaws.{length-table, earlier, at_step, take-table}
use Rattle.aq_sets.proofs.ExprLaws.{tensor_size, union_size, power_size, size-is}
use Rattle.aq_sets.proofs.CapLaws.{capped-product, capped-sum, capped-power, capped-united_shape, capped-repeat, capped-replicate}
use Rattle.aq_sets.proofs.SizeLaws.{has_shape, there}

pub valid_exprs : (s : Sets) → IsValidSets s → AreValidExprs s.exprs
valid_exprs s h = record { each = h.exprs; qubits = h.qubits; short = h.short }

-- what a call gives that gives what is the same
pub gives_same : {A E : Type 0} (r : Result A E) (a b : A) → a ≡ b → IfOk r (λ x. x ≡ a) → IfOk r (λ x. x ≡ b)
gives_same r a b e h = IfOk-weaker r (λ x. x ≡ a) (λ x. x ≡ b) (λ x s. s ∙ e) h

pub expr_at : (exprs : List Expr) (i : ℕ) (x e : Expr) → i < length exprs → x ≡ get_or exprs i x → x ≡ e → slice_get exprs i ≡ Some e
expr_at exprs i x e lt is same = slice_get_read exprs (length exprs) i x refl lt is ∙ ap Some same

-- ---- the sizes before a position

pub length-done : (exprs : List Expr) (done : List told.Size) (i : ℕ) → i < length exprs → done ≡ capped_sizes (take i exprs) → length done ≡ i
unfolding capped_sizes
length-done exprs done i lt e =
    ap length e ∙ length-map (table size_step (take i exprs)) capped_size ∙ length-table size_step (take i exprs) ∙ length-take-le i exprs (omega arith)

pub done_at : (exprs : List Expr) (done : List told.Size) (i j : ℕ) (s : told.Size) → i < length exprs → done ≡ capped_sizes (take i exprs) → j < i
    → s ≡ get_or done j s → s ≡ capped_size (size_of exprs j)
unfolding capped_sizes size_of
done_at exprs done i j s lt e less is =
    let n : length (table size_step (take i exprs)) ≡ i = length-table size_step (take i exprs) ∙ length-take-le i exprs (omega arith) in
    is ∙ ap (λ t. get_or t j s) e ∙ get_or-map capped_size (table size_step (take i exprs)) j no_size s (omega arith)
    ∙ ap capped_size (earlier size_step no_size exprs i j (omega arith) less)

pub length-told : (exprs : List Expr) (list : List told.Size) → list ≡ capped_sizes exprs → length list ≡ length exprs
unfolding capped_sizes
length-told exprs list e = ap length e ∙ length-map (table size_step exprs) capped_size ∙ length-table size_step exprs

pub told_at : (exprs : List Expr) (list : List told.Size) (i : ℕ) (s : told.Size) → list ≡ capped_sizes exprs → i < length exprs → s ≡ get_or list i s
    → s ≡ capped_size (size_of exprs i)
unfolding capped_sizes size_of
told_at exprs list i s e lt is =
    let n = length-table size_step exprs in
    is ∙ ap (λ t. get_or t i s) e ∙ get_or-map capped_size (table size_step exprs) i no_size s (omega arith)

pub sizes_none : [] ≡ capped_sizes []
unfolding capped_sizes
sizes_none = refl

pub sizes_more : (exprs : List Expr) (i : ℕ) (e : Expr) → slice_get exprs i ≡ Some e
    → capped_sizes (take i exprs) ++ capped_size (size_of exprs i) ∷ [] ≡ capped_sizes (take (i + 1) exprs)
unfolding capped_sizes size_of
sizes_more exprs i e h =
    ap (λ s. map capped_size (table size_step (take i exprs)) ++ capped_size s ∷ []) (at_step size_step no_size exprs i e h)
    ∙ sym (map_push capped_size (table size_step (take i exprs)) (size_step (table size_step (take i exprs)) e))
    ∙ ap (map capped_size) (sym (take-table size_step exprs i e h))

-- ---- one size

pub told_kets : (exprs : List Expr) (valid : AreValidExprs exprs) (i q : ℕ) (terms : List Term) → slice_get exprs i ≡ Some (expr.Kets q terms)
    → record { qubits = q; count = 1; shape = replicate q 1; nodes = capped (1 + length terms) } ≡ capped_size (size_of exprs i)
told_kets exprs valid i q terms h =
    (λ k. record { qubits = q; count = 1; shape = sym (capped-replicate q 1 (omega arith)) k; nodes = capped (1 + length terms) })
    ∙ ap capped_size (sym (size-is exprs i (expr.Kets q terms) h (valid.each i (expr.Kets q terms) h)))

-- the number of qubits of an expression, by what it is put together from
pub few_qubits : (exprs : List Expr) → AreValidExprs exprs → (i : ℕ) (e : Expr) → slice_get exprs i ≡ Some e → (size_of exprs i).qubits ≤ 16
few_qubits exprs valid i e h = (valid.qubits i (slice_get_within exprs i e h)).1

pub few_all : (exprs : List Expr) → AreValidExprs exprs → (i q : ℕ) → slice_get exprs i ≡ Some (expr.All q) → q ≤ 16
few_all exprs valid i q h =
    let s = ap (λ (z : Size). z.qubits) (size-is exprs i (expr.All q) h (valid.each i (expr.All q) h)) in
    let few = few_qubits exprs valid i (expr.All q) h in
    omega arith

pub told_all : (exprs : List Expr) (valid : AreValidExprs exprs) (i q : ℕ) → slice_get exprs i ≡ Some (expr.All q)
    → record { qubits = q; count = 2 ^ q; shape = replicate q 2; nodes = 1 } ≡ capped_size (size_of exprs i)
told_all exprs valid i q h =
    let few = few_all exprs valid i q h in
    let low : q ≤ 64 = omega arith in
    let small : 2 ^ q ≤ most_told = pow_mono low in
    (λ k. record { qubits = q; count = sym (min-eq_left small) k; shape = sym (capped-replicate q 2 (omega arith)) k; nodes = 1 })
    ∙ ap capped_size (sym (size-is exprs i (expr.All q) h (valid.each i (expr.All q) h)))

abbrev pub told_tensor : told.Size → told.Size → told.Size
told_tensor a b = record { qubits = a.qubits + b.qubits; count = capped (a.count * b.count); shape = a.shape ++ b.shape; nodes = capped (1 + capped (a.nodes + b.nodes)) }

told_tensor-is : (l r : Size) → told_tensor (capped_size l) (capped_size r) ≡ capped_size (tensor_size l r)
told_tensor-is l r =
    let nodes : capped (1 + capped (capped l.nodes + capped r.nodes)) ≡ capped (1 + (l.nodes + r.nodes)) = omega arith in
    (λ k. record { qubits = l.qubits + r.qubits; count = capped-product l.count r.count k; shape = sym (map-append capped l.shape r.shape) k; nodes = nodes k })

pub few_tensor : (exprs : List Expr) → AreValidExprs exprs → (i l r : ℕ) (a b : told.Size) → slice_get exprs i ≡ Some (expr.Tensor l r)
    → a ≡ capped_size (size_of exprs l) → b ≡ capped_size (size_of exprs r) → a.qubits + b.qubits ≤ 16
few_tensor exprs valid i l r a b h x y =
    let s = ap (λ (z : Size). z.qubits) (size-is exprs i (expr.Tensor l r) h (valid.each i (expr.Tensor l r) h)) in
    let few = few_qubits exprs valid i (expr.Tensor l r) h in
    omega (arith, ap (λ (z : told.Size). z.qubits) x, ap (λ (z : told.Size). z.qubits) y)

pub told_tensor-at : (exprs : List Expr) (valid : AreValidExprs exprs) (i l r : ℕ) (a b : told.Size) → slice_get exprs i ≡ Some (expr.Tensor l r)
    → a ≡ capped_size (size_of exprs l) → b ≡ capped_size (size_of exprs r) → told_tensor a b ≡ capped_size (size_of exprs i)
told_tensor-at exprs valid i l r a b h x y =
    (λ k. told_tensor (x k) (y k)) ∙ told_tensor-is (size_of exprs l) (size_of exprs r)
    ∙ ap capped_size (sym (size-is exprs i (expr.Tensor l r) h (valid.each i (expr.Tensor l r) h)))

abbrev pub told_union : told.Size → told.Size → told.Size
told_union a b = record { qubits = a.qubits; count = capped (a.count + b.count); shape = map capped (united_shape a.shape b.shape); nodes = capped (1 + capped (a.nodes + b.nodes)) }

told_union-is : (l r : Size) → told_union (capped_size l) (capped_size r) ≡ capped_size (union_size l r)
told_union-is l r =
    let nodes : capped (1 + capped (capped l.nodes + capped r.nodes)) ≡ capped (1 + (l.nodes + r.nodes)) = omega arith in
    (λ k. record { qubits = l.qubits; count = capped-sum l.count r.count k; shape = capped-united_shape l.shape r.shape k; nodes = nodes k })

pub same_shapes : (exprs : List Expr) → AreValidExprs exprs → (i l r : ℕ) (a b : told.Size) → slice_get exprs i ≡ Some (expr.Union l r)
    → a ≡ capped_size (size_of exprs l) → b ≡ capped_size (size_of exprs r) → length a.shape ≡ length b.shape
same_shapes exprs valid i l r a b h x y =
    let v = valid.each i (expr.Union l r) h in
    let lt = slice_get_within exprs i (expr.Union l r) h in
    ap (λ (z : told.Size). length z.shape) x ∙ length-map (size_of exprs l).shape capped ∙ has_shape exprs valid l (omega (arith, v.0))
    ∙ v.2 ∙ sym (ap (λ (z : told.Size). length z.shape) y ∙ length-map (size_of exprs r).shape capped ∙ has_shape exprs valid r (omega (arith, v.1)))

pub told_union-at : (exprs : List Expr) (valid : AreValidExprs exprs) (i l r : ℕ) (a b : told.Size) → slice_get exprs i ≡ Some (expr.Union l r)
    → a ≡ capped_size (size_of exprs l) → b ≡ capped_size (size_of exprs r) → told_union a b ≡ capped_size (size_of exprs i)
told_union-at exprs valid i l r a b h x y =
    (λ k. told_union (x k) (y k)) ∙ told_union-is (size_of exprs l) (size_of exprs r)
    ∙ ap capped_size (sym (size-is exprs i (expr.Union l r) h (valid.each i (expr.Union l r) h)))

abbrev pub told_power : told.Size → ℕ → told.Size
told_power a times = record { qubits = a.qubits * times; count = capped (a.count ^ times); shape = repeat times a.shape; nodes = capped (times + a.nodes) }

told_power-is : (b : Size) (times : ℕ) → told_power (capped_size b) times ≡ capped_size (power_size b times)
told_power-is b times =
    let nodes : capped (times + capped b.nodes) ≡ capped (times + b.nodes) = omega arith in
    (λ k. record { qubits = b.qubits * times; count = capped-power b.count times k; shape = capped-repeat times b.shape k; nodes = nodes k })

pub few_power : (exprs : List Expr) → AreValidExprs exprs → (i base times : ℕ) (a : told.Size) → slice_get exprs i ≡ Some (expr.Power base times)
    → a ≡ capped_size (size_of exprs base) → a.qubits * times ≤ 16
few_power exprs valid i base times a h x =
    let s = ap (λ (z : Size). z.qubits) (size-is exprs i (expr.Power base times) h (valid.each i (expr.Power base times) h)) in
    let few = few_qubits exprs valid i (expr.Power base times) h in
    let same : a.qubits * times ≡ (size_of exprs i).qubits = ap (λ (z : told.Size). z.qubits * times) x ∙ sym s in
    omega arith

pub told_power-at : (exprs : List Expr) (valid : AreValidExprs exprs) (i base times : ℕ) (a : told.Size) → slice_get exprs i ≡ Some (expr.Power base times)
    → a ≡ capped_size (size_of exprs base) → told_power a times ≡ capped_size (size_of exprs i)
told_power-at exprs valid i base times a h x =
    ap (λ z. told_power z times) x ∙ told_power-is (size_of exprs base) times
    ∙ ap capped_size (sym (size-is exprs i (expr.Power base times) h (valid.each i (expr.Power base times) h)))

-- ---- steps of loops

pub united-first : (xs ys : List ℕ) → 0 < length xs → length xs ≡ length ys → get_or (united_shape xs ys) 0 0 ≡ get_or xs 0 0 + get_or ys 0 0
united-first [] ys some e = absurd (omega arith)
united-first (x ∷ xs) [] some e = absurd (omega arith)
united-first (x ∷ xs) (y ∷ ys) some e = refl

get_or-larger : (xs ys : List ℕ) (i : ℕ) → length xs ≡ length ys → get_or (larger xs ys) i 0 ≡ max (get_or xs i 0) (get_or ys i 0)
get_or-larger [] [] i e = refl
get_or-larger [] (y ∷ ys) i e = absurd (omega arith)
get_or-larger (x ∷ xs) [] i e = absurd (omega arith)
get_or-larger (x ∷ xs) (y ∷ ys) zero e = refl
get_or-larger (x ∷ xs) (y ∷ ys) (suc i) e = get_or-larger xs ys i (omega arith)

pub united-later : (xs ys : List ℕ) (i : ℕ) → 0 < i → length xs ≡ length ys → get_or (united_shape xs ys) i 0 ≡ max (get_or xs i 0) (get_or ys i 0)
united-later [] [] i some e = refl
united-later [] (y ∷ ys) i some e = absurd (omega arith)
united-later (x ∷ xs) [] i some e = absurd (omega arith)
united-later (x ∷ xs) (y ∷ ys) zero some e = absurd (omega arith)
united-later (x ∷ xs) (y ∷ ys) (suc i) some e = get_or-larger xs ys i (omega arith)

pub repeat_more : {A : Type 0} (k : ℕ) (xs : List A) → repeat k xs ++ xs ≡ repeat (suc k) xs
repeat_more zero xs = sym (append-nil xs)
repeat_more (suc k) xs = append_assoc xs (repeat k xs) xs ∙ ap (λ zs. xs ++ zs) (repeat_more k xs)

-- ---- what is told

pub told_everywhere : (exprs : List Expr) (i : ℕ) → i < length exprs → slice_get (capped_sizes exprs) i ≡ Some (capped_size (size_of exprs i))
told_everywhere exprs i lt =
    let n = length-told exprs (capped_sizes exprs) refl in
    let e = there (capped_sizes exprs) i (omega arith) in
    e.1 ∙ ap Some (told_at exprs (capped_sizes exprs) i e.0 refl lt (sym (get_or_from_slice_get (capped_sizes exprs) i e.0 e.0 e.1)))
