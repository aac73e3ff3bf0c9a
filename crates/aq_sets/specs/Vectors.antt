-- The vectors that an expression lists, in order.
use Rattle.std.specs.Prelude.{ℕ, zero, suc, ◌^◌, ◌==◌, List, [], ◌∷◌, ◌++◌, map, if◌then◌else◌}
use Rattle.std.specs.List.{find, flat_map, range_with_len}
use Rattle.std.specs.Option.{option_map_or}
use Rattle.aq_ring.specs.Fractions.{Amplitude}
use Rattle.aq_ring.specs.Amplitudes.{amplitude_zero, amplitude_one, product}
use Rattle.aq_sets.specs.Tables.{table, at_position}
use Rattle.aq_sets.specs.declared.sets.Term.{Term}
use Rattle.aq_sets.specs.declared.sets.Expr.{Expr}
use Rattle.aq_sets.specs.declared.sets.Expr.TheVariants as expr

abbrev pub Vector : Type 0
Vector = List Amplitude

-- the vector of n qubits with these entries
abbrev pub entries : ℕ → (ℕ → Amplitude) → Vector
entries n f = map f (range_with_len 0 (2 ^ n))

-- each term's amplitude at its index, and zero elsewhere
abbrev pub kets_entry : List Term → ℕ → Amplitude
kets_entry terms x = option_map_or (λ t. t.amp) (find (λ t. t.index == x) terms) amplitude_zero

unfoldable pub kets_vector : ℕ → List Term → Vector
kets_vector n terms = entries n (kets_entry terms)

-- a basis vector
unfoldable pub basis_vector : ℕ → ℕ → Vector
basis_vector n i = entries n (λ x. if x == i then amplitude_one else amplitude_zero)

-- all basis vectors, in the order of the index
abbrev pub basis : ℕ → List Vector
basis n = map (basis_vector n) (range_with_len 0 (2 ^ n))

-- the tensor product: each entry of the left times each of the right, the left one outermost
unfoldable pub tensor : Vector → Vector → Vector
tensor u v = flat_map (λ a. map (product a) v) u

abbrev pub tensors : List Vector → List Vector → List Vector
tensors us vs = flat_map (λ u. map (tensor u) vs) us

-- the products that a tensor product takes, with the left operand first
abbrev pub pairs : Vector → Vector → List (Amplitude × Amplitude)
pairs u v = flat_map (λ a. map (λ b. (a, b)) v) u

abbrev pub all_pairs : List Vector → List Vector → List (Amplitude × Amplitude)
all_pairs us vs = flat_map (λ u. flat_map (pairs u) vs) us

-- the vectors, and the products that are taken for them
pub record Listed : Type 0 where
  pub vectors : List Vector
  pub products : List (Amplitude × Amplitude)

abbrev pub nothing_listed : Listed
nothing_listed = record { vectors = []; products = [] }

abbrev pub listed : List Vector → Listed
listed vs = record { vectors = vs; products = [] }

abbrev pub tensored : Listed → Listed → Listed
tensored l r = record { vectors = tensors l.vectors r.vectors; products = l.products ++ (r.products ++ all_pairs l.vectors r.vectors) }

abbrev pub united : Listed → Listed → Listed
united l r = record { vectors = l.vectors ++ r.vectors; products = l.products ++ r.products }

-- the tensor product of so many times the base, from the left to the right
abbrev pub power : ℕ → Listed → Listed
power zero base = nothing_listed
power (suc zero) base = base
power (suc (suc n)) base = tensored (power (suc n) base) base

abbrev pub listed_step : List Listed → Expr → Listed
listed_step done (expr.Kets qubits terms) = listed (kets_vector qubits terms ∷ [])
listed_step done (expr.All qubits) = listed (basis qubits)
listed_step done (expr.Tensor left right) = tensored (at_position nothing_listed done left) (at_position nothing_listed done right)
listed_step done (expr.Union left right) = united (at_position nothing_listed done left) (at_position nothing_listed done right)
listed_step done (expr.Power base times) = power times (at_position nothing_listed done base)

-- what the expression at a position lists
unfoldable pub lists : List Expr → ℕ → Listed
lists exprs i = at_position nothing_listed (table listed_step exprs) i

abbrev pub vectors_of : List Expr → ℕ → List Vector
vectors_of exprs i = (lists exprs i).vectors

-- the products of entries in the tensors and powers of an expression
abbrev pub products_of : List Expr → ℕ → List (Amplitude × Amplitude)
products_of exprs i = (lists exprs i).products
