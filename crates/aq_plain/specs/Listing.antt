-- What is given where the vectors of an expression are listed, and where that stops.
use Rattle.std.specs.Prelude.{◌≡◌, ℕ, ◌<◌, ◌≤◌, ◌==◌, List, [], ◌∷◌, Result, Ok, Err, All, Some, length, map, slice_get, if◌then◌else◌}
use Rattle.std.specs.List.{Contains}
use Rattle.aq_ring.specs.Fractions.{Amplitude}
use Rattle.aq_ring.specs.Amplitudes.{FitsAmplitudeProduct}
use Rattle.aq_sets.specs.Vectors.{Vector, Listed, nothing_listed, united, lists, vectors_of, products_of}
use Rattle.aq_sets.specs.Sizes.{size_of}
use Rattle.aq_sets.specs.declared.sets.Expr.{Expr}
use Rattle.aq_sets.specs.declared.sets.Expr.TheVariants as expr
use Rattle.aq_plain.specs.Vectors.{StateVector}
use Rattle.aq_plain.specs.declared.stop.VectorStop.{VectorStop}
use Rattle.aq_plain.specs.declared.stop.VectorStop.TheVariants as stop

-- two amplitudes that are multiplied, the left operand first
abbrev pub Operands : Type 0
Operands = Amplitude × Amplitude

-- each product fits
pub record AllFit (products : List Operands) : Type 0 where
  pub each : All (λ p. FitsAmplitudeProduct p.0 p.1) products

-- a product that is among these and doesn't fit
pub record IsWideAmong (products : List Operands) (left right : Amplitude) : Type 0 where
  pub member : Contains products (left, right)
  pub wide : FitsAmplitudeProduct left right → ⊥

-- why these products weren't all taken; want of memory has no cause
abbrev pub StopsAmong : List Operands → VectorStop → Type 0
StopsAmong products (stop.Wide left right) = IsWideAmong products left right
StopsAmong products stop.TooMany = ⊥
StopsAmong products stop.Memory = Unit {0}

-- what a call gives that takes these products: all of them fit, or one that doesn't is told
abbrev pub Takes : {A : Type 0} → List Operands → (A → Type 0) → Result A VectorStop → Type 0
Takes products Holds (Ok x) = Holds x × AllFit products
Takes products Holds (Err e) = StopsAmong products e

-- the vectors as states of n qubits
abbrev pub states_of : ℕ → List Vector → List StateVector
states_of n vs = map (λ v. record { qubits = n; amps = v }) vs

-- What the vectors of the expression at a position are given as, where at most so many are wanted.
abbrev pub VectorsGive : List Expr → ℕ → ℕ → Result (List StateVector) VectorStop → Type 0
VectorsGive exprs i most (Ok states) =
    (length (vectors_of exprs i) ≤ most) × (states ≡ states_of (size_of exprs i).qubits (vectors_of exprs i)) × AllFit (products_of exprs i)
VectorsGive exprs i most (Err (stop.Wide left right)) = (length (vectors_of exprs i) ≤ most) × IsWideAmong (products_of exprs i) left right
VectorsGive exprs i most (Err stop.TooMany) = most < length (vectors_of exprs i)
VectorsGive exprs i most (Err stop.Memory) = Unit {0}

-- ---- the parts of a union

-- what the expressions at these positions list, one after the other
abbrev pub lists_in_turn : List Expr → List ℕ → Listed
lists_in_turn exprs [] = nothing_listed
lists_in_turn exprs (i ∷ rest) = united (lists exprs i) (lists_in_turn exprs rest)

-- an expression that isn't a union or a power of one
abbrev pub IsWhole : Expr → Type 0
IsWhole (expr.Kets qubits terms) = Unit {0}
IsWhole (expr.All qubits) = Unit {0}
IsWhole (expr.Tensor left right) = Unit {0}
IsWhole (expr.Union left right) = ⊥
IsWhole (expr.Power base times) = times ≡ 1 → ⊥

-- a part of the expression at position i: it stands no later, and is whole
pub record IsPartOf (exprs : List Expr) (i part : ℕ) : Type 0 where
  pub within : part ≤ i
  pub whole : (e : Expr) → slice_get exprs part ≡ Some e → IsWhole e

-- whole expressions that list in turn what the expression at position i lists
pub record ArePartsOf (exprs : List Expr) (i : ℕ) (parts : List ℕ) : Type 0 where
  pub same : lists_in_turn exprs parts ≡ lists exprs i
  pub each : All (IsPartOf exprs i) parts

-- the positions that an expression which isn't whole puts behind each other, the first one last
abbrev pub opened : Expr → List ℕ
opened (expr.Union left right) = right ∷ left ∷ []
opened (expr.Power base times) = if times == 1 then base ∷ [] else []
opened e = []

-- the position of an expression that is whole
abbrev pub kept : Expr → ℕ → List ℕ
kept (expr.Union left right) i = []
kept (expr.Power base times) i = if times == 1 then [] else i ∷ []
kept e i = i ∷ []
