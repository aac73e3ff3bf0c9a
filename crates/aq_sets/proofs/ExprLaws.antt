-- What an expression lists and how large it is, by what the expressions that it names list and how large they are.
use Rattle.std.proofs.Common.{◌≡◌, ℕ, zero, suc, ◌+◌, ◌*◌, ◌^◌, ◌<◌, List, [], ◌∷◌, ◌++◌, Some, length, ap, ◌∙◌, arith}
use Rattle.std.specs.Prelude.{slice_get, replicate}
use Rattle.std.specs.List.{repeat}
use Rattle.std.proofs.lemmas.Option.{slice_get_within}
use Rattle.aq_sets.specs.Vectors.{Listed, nothing_listed, listed, tensored, united, power, kets_vector, basis, listed_step, lists}
use Rattle.aq_sets.specs.Sizes.{Size, no_size, united_shape, size_step, size_of}
use Rattle.aq_sets.specs.Valid.{IsValidExpr}
use Rattle.aq_sets.specs.ValidExprs.{AreValidExprs}
use Rattle.aq_sets.specs.declared.sets.Expr.{Expr}
use Rattle.aq_sets.specs.declared.sets.Expr.TheVariants as expr
use Rattle.aq_sets.proofs.TableLaws.{earlier, at_step}

abbrev pub listed_by : (ℕ → Listed) → Expr → Listed
listed_by f (expr.Kets qubits terms) = listed (kets_vector qubits terms ∷ [])
listed_by f (expr.All qubits) = listed (basis qubits)
listed_by f (expr.Tensor left right) = tensored (f left) (f right)
listed_by f (expr.Union left right) = united (f left) (f right)
listed_by f (expr.Power base times) = power times (f base)

abbrev pub tensor_size : Size → Size → Size
tensor_size l r = record { qubits = l.qubits + r.qubits; count = l.count * r.count; shape = l.shape ++ r.shape; nodes = 1 + (l.nodes + r.nodes) }

abbrev pub union_size : Size → Size → Size
union_size l r = record { qubits = l.qubits; count = l.count + r.count; shape = united_shape l.shape r.shape; nodes = 1 + (l.nodes + r.nodes) }

abbrev pub power_size : Size → ℕ → Size
power_size b times = record { qubits = b.qubits * times; count = b.count ^ times; shape = repeat times b.shape; nodes = times + b.nodes }

abbrev pub size_by : (ℕ → Size) → Expr → Size
size_by f (expr.Kets qubits terms) = record { qubits = qubits; count = 1; shape = replicate qubits 1; nodes = 1 + length terms }
size_by f (expr.All qubits) = record { qubits = qubits; count = 2 ^ qubits; shape = replicate qubits 2; nodes = 1 }
size_by f (expr.Tensor left right) = tensor_size (f left) (f right)
size_by f (expr.Union left right) = union_size (f left) (f right)
size_by f (expr.Power base times) = power_size (f base) times

pub lists-is : (exprs : List Expr) (i : ℕ) (e : Expr) → slice_get exprs i ≡ Some e → IsValidExpr exprs i e → lists exprs i ≡ listed_by (lists exprs) e
unfolding lists
lists-is exprs i (expr.Kets qubits terms) h v = at_step listed_step nothing_listed exprs i (expr.Kets qubits terms) h
lists-is exprs i (expr.All qubits) h v = at_step listed_step nothing_listed exprs i (expr.All qubits) h
lists-is exprs i (expr.Tensor left right) h v =
    let lt = slice_get_within exprs i (expr.Tensor left right) h in
    let l = earlier listed_step nothing_listed exprs i left (omega arith) v.0 in
    let r = earlier listed_step nothing_listed exprs i right (omega arith) v.1 in
    at_step listed_step nothing_listed exprs i (expr.Tensor left right) h ∙ (λ k. tensored (l k) (r k))
lists-is exprs i (expr.Union left right) h v =
    let lt = slice_get_within exprs i (expr.Union left right) h in
    let l = earlier listed_step nothing_listed exprs i left (omega arith) v.0 in
    let r = earlier listed_step nothing_listed exprs i right (omega arith) v.1 in
    at_step listed_step nothing_listed exprs i (expr.Union left right) h ∙ (λ k. united (l k) (r k))
lists-is exprs i (expr.Power base times) h v =
    let lt = slice_get_within exprs i (expr.Power base times) h in
    at_step listed_step nothing_listed exprs i (expr.Power base times) h
    ∙ ap (power times) (earlier listed_step nothing_listed exprs i base (omega arith) v)

pub size-is : (exprs : List Expr) (i : ℕ) (e : Expr) → slice_get exprs i ≡ Some e → IsValidExpr exprs i e → size_of exprs i ≡ size_by (size_of exprs) e
unfolding size_of
size-is exprs i (expr.Kets qubits terms) h v = at_step size_step no_size exprs i (expr.Kets qubits terms) h
size-is exprs i (expr.All qubits) h v = at_step size_step no_size exprs i (expr.All qubits) h
size-is exprs i (expr.Tensor left right) h v =
    let lt = slice_get_within exprs i (expr.Tensor left right) h in
    let l = earlier size_step no_size exprs i left (omega arith) v.0 in
    let r = earlier size_step no_size exprs i right (omega arith) v.1 in
    at_step size_step no_size exprs i (expr.Tensor left right) h ∙ (λ k. tensor_size (l k) (r k))
size-is exprs i (expr.Union left right) h v =
    let lt = slice_get_within exprs i (expr.Union left right) h in
    let l = earlier size_step no_size exprs i left (omega arith) v.0 in
    let r = earlier size_step no_size exprs i right (omega arith) v.1 in
    at_step size_step no_size exprs i (expr.Union left right) h ∙ (λ k. union_size (l k) (r k))
size-is exprs i (expr.Power base times) h v =
    let lt = slice_get_within exprs i (expr.Power base times) h in
    at_step size_step no_size exprs i (expr.Power base times) h
    ∙ ap (λ s. power_size s times) (earlier size_step no_size exprs i base (omega arith) v)

-- a power has a factor
pub some_times : (exprs : List Expr) → AreValidExprs exprs → (i base times : ℕ) → slice_get exprs i ≡ Some (expr.Power base times) → 0 < times
some_times exprs valid i base zero h =
    let s = ap (λ (z : Size). z.qubits) (size-is exprs i (expr.Power base zero) h (valid.each i (expr.Power base zero) h)) in
    let some = (valid.qubits i (slice_get_within exprs i (expr.Power base zero) h)).0 in
    absurd (omega arith)
some_times exprs valid i base (suc times) h = omega arith
