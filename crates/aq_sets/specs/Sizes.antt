-- How large an expression is. The numbers have no width: names that are used in names can make them as large as one likes.
use Rattle.std.specs.Prelude.{ℕ, zero, suc, ◌+◌, ◌-◌, ◌*◌, ◌^◌, List, [], ◌∷◌, ◌++◌, length, replicate, take, drop, min, max, nat_lt, if◌then◌else◌}
use Rattle.std.specs.List.{fold, repeat}
use Rattle.aq_sets.specs.Tables.{table, at_position}
use Rattle.aq_sets.specs.declared.sets.Expr.{Expr}
use Rattle.aq_sets.specs.declared.sets.Expr.TheVariants as expr

-- the number of qubits; the number of vectors; one number of choices for each qubit; and the number of nodes with names
-- written out, where a term counts as a node and a power of k as k nodes
pub record Size : Type 0 where
  pub qubits : ℕ
  pub count : ℕ
  pub shape : List ℕ
  pub nodes : ℕ

abbrev pub no_size : Size
no_size = record { qubits = 0; count = 0; shape = []; nodes = 0 }

-- the larger number of each two; the numbers behind the end of the shorter list stay
abbrev pub larger : List ℕ → List ℕ → List ℕ
larger [] ys = ys
larger (x ∷ xs) [] = x ∷ xs
larger (x ∷ xs) (y ∷ ys) = max x y ∷ larger xs ys

-- the choices of a union: at the first qubit those of both sides, and below the larger number
abbrev pub united_shape : List ℕ → List ℕ → List ℕ
united_shape [] ys = ys
united_shape (x ∷ xs) [] = x ∷ xs
united_shape (x ∷ xs) (y ∷ ys) = (x + y) ∷ larger xs ys

abbrev pub size_step : List Size → Expr → Size
size_step done (expr.Kets qubits terms) = record { qubits = qubits; count = 1; shape = replicate qubits 1; nodes = 1 + length terms }
size_step done (expr.All qubits) = record { qubits = qubits; count = 2 ^ qubits; shape = replicate qubits 2; nodes = 1 }
size_step done (expr.Tensor left right) =
    let l = at_position no_size done left in
    let r = at_position no_size done right in
    record { qubits = l.qubits + r.qubits; count = l.count * r.count; shape = l.shape ++ r.shape; nodes = 1 + (l.nodes + r.nodes) }
size_step done (expr.Union left right) =
    let l = at_position no_size done left in
    let r = at_position no_size done right in
    record { qubits = l.qubits; count = l.count + r.count; shape = united_shape l.shape r.shape; nodes = 1 + (l.nodes + r.nodes) }
size_step done (expr.Power base times) =
    let b = at_position no_size done base in
    record { qubits = b.qubits * times; count = b.count ^ times; shape = repeat times b.shape; nodes = times + b.nodes }

-- the size of the expression at a position
unfoldable pub size_of : List Expr → ℕ → Size
size_of exprs i = at_position no_size (table size_step exprs) i

-- the qubits alone
abbrev pub qubits_step : List ℕ → Expr → ℕ
qubits_step done (expr.Kets qubits terms) = qubits
qubits_step done (expr.All qubits) = qubits
qubits_step done (expr.Tensor left right) = at_position 0 done left + at_position 0 done right
qubits_step done (expr.Union left right) = at_position 0 done left
qubits_step done (expr.Power base times) = at_position 0 done base * times

-- how many words a shape has: one choice for each qubit
abbrev pub words : List ℕ → ℕ
words shape = fold (λ product n. product * n) 1 shape

-- ---- places
--
-- A word has one choice for each qubit. It leads to a position among the vectors that an expression lists.

abbrev pub Placing : Type 0
Placing = List ℕ → ℕ

-- where every word leads to the first vector
abbrev pub first_place : Placing
first_place word = 0

-- the digits of a word as a binary number
abbrev pub number_of : Placing
number_of word = fold (λ n digit. 2 * n + digit) 0 word

-- a choice past the number of choices means the last one
abbrev pub shortened : List ℕ → List ℕ → List ℕ
shortened [] word = word
shortened (n ∷ shape) [] = []
shortened (n ∷ shape) (choice ∷ word) = min choice (n - 1) ∷ shortened shape word

-- the choices below the first qubit
abbrev pub lower : List ℕ → List ℕ
lower shape = drop 1 shape

-- how many choices there are at the first qubit
abbrev pub first_number : List ℕ → ℕ
first_number [] = 0
first_number (n ∷ shape) = n

-- the place of the left part among the left vectors, and for each of them one for each right vector
abbrev pub tensor_place : Size → Size → Placing → Placing → Placing
tensor_place l r left right word = left (take l.qubits word) * r.count + right (drop l.qubits word)

-- The first choice tells the side: those of the left side come first, and the right vectors stand behind the left ones. On
-- either side a later choice past that side's number means that side's last choice.
abbrev pub union_place : Size → Size → Placing → Placing → Placing
union_place l r left right [] = 0
union_place l r left right (choice ∷ word) =
    if nat_lt choice (first_number l.shape)
    then left (choice ∷ shortened (lower l.shape) word)
    else l.count + right ((choice - first_number l.shape) ∷ shortened (lower r.shape) word)

-- a power is the tensor product of so many times the base, from the left to the right
abbrev pub power_place : ℕ → Size → Placing → Placing
power_place zero b base word = 0
power_place (suc zero) b base word = base word
power_place (suc (suc n)) b base word =
    power_place (suc n) b base (take (b.qubits * suc n) word) * b.count + base (drop (b.qubits * suc n) word)

abbrev pub place_step : (ℕ → Size) → List Placing → Expr → Placing
place_step size done (expr.Kets qubits terms) = first_place
place_step size done (expr.All qubits) = number_of
place_step size done (expr.Tensor left right) = tensor_place (size left) (size right) (at_position first_place done left) (at_position first_place done right)
place_step size done (expr.Union left right) = union_place (size left) (size right) (at_position first_place done left) (at_position first_place done right)
place_step size done (expr.Power base times) = power_place times (size base) (at_position first_place done base)

-- the place to which a word leads in the list of the expression at a position
unfoldable pub place : List Expr → ℕ → Placing
place exprs i = at_position first_place (table (place_step (size_of exprs)) exprs) i
