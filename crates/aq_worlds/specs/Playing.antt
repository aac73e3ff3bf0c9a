-- Worlds as they are played: which world of the definitions one is, and what is done to its vectors.
use Rattle.std.specs.Prelude.{ℕ, Bool, true, false, not, List, map, filter, length, All, Contains, Option, Some, None, ◌≡◌}
use Rattle.std.specs.List.{flat_map, list_all}
use Rattle.aq_ring.specs.Fractions.{Amplitude}
use Rattle.aq_ring.specs.Vectors.{is_zero_vector}
use Rattle.aq_prog.specs.Gates.{apply_gate, project, FitsGate}
use Rattle.aq_prog.specs.Runs.{flipped}
use Rattle.aq_prog.specs.declared.gate.Gate.{Gate}
use Rattle.aq_prog.specs.declared.stmt.Guard.{Guard}
use Rattle.aq_prog.specs.declared.stmt.Stmt.{Stmt}
use Rattle.aq_plain.specs.Replaying.{ArePlayable, IsPlayableStmt}
use Rattle.aq_plain.specs.Vectors.{StateVector}
use Rattle.aq_obligations.specs.Claims.{ClaimCase}
use Rattle.aq_obligations.specs.Covering.{Met, Meets, meets_of, branch_meets}
use Rattle.aq_obligations.specs.Worlds.{World, Spread, branch, in_worlds, spread}
use Rattle.aq_correct.specs.WorldLaws.{is_alive}
use Rattle.aq_worlds.specs.declared.stop.Stop.{Stop}
use Rattle.aq_worlds.specs.declared.stop.Stop.TheVariants as stop
use Rattle.aq_worlds.specs.declared.world.PlainWorld.{PlainWorld}

-- the amplitudes of vectors
abbrev pub amps_of : List StateVector → List (List Amplitude)
amps_of vectors = map (λ v. v.amps) vectors

-- the world of this case that it is
abbrev pub world_of : ClaimCase → PlainWorld → World
world_of c w = record { case = c; start = w.start; bits = w.bits; outcomes = w.outcomes; vectors = amps_of w.vectors.items }

-- each vector is on n qubits
abbrev pub AreOn : ℕ → List StateVector → Type 0
AreOn n vectors = All (λ v. v.qubits ≡ n) vectors

-- the vector after a gate, and after an outcome
abbrev pub with_gate : Gate → StateVector → StateVector
with_gate gate v = record { qubits = v.qubits; amps = apply_gate v.qubits gate v.amps }

abbrev pub with_half : ℕ → Bool → StateVector → StateVector
with_half qubit outcome v = record { qubits = v.qubits; amps = project v.qubits qubit outcome v.amps }

abbrev pub with_reset : ℕ → Bool → StateVector → StateVector
with_reset qubit outcome v = record { qubits = v.qubits; amps = flipped v.qubits qubit outcome (project v.qubits qubit outcome v.amps) }

-- the gate doesn't fit on one of the vectors
pub record HasUnfit (gate : Gate) (vectors : List StateVector) : Type 0 where
  pub vector : StateVector
  pub listed : Contains vectors vector
  pub wide : FitsGate vector.qubits gate vector.amps → ⊥

-- a number doesn't fit, as this says; want of memory is free
abbrev pub StopsFor : Type 0 → Stop → Type 0
StopsFor P stop.Width = P
StopsFor P stop.Memory = Unit {0}

-- every vector of the world is zero
abbrev pub is_nothing : PlainWorld → Bool
is_nothing w = list_all (λ v. is_zero_vector v.amps) w.vectors.items

abbrev pub lives : PlainWorld → Bool
lives w = not (is_nothing w)

-- a bit of the program whose value isn't known
abbrev pub is_unknown : Option (Option Bool) → Bool
is_unknown (Some None) = true
is_unknown (Some (Some b)) = false
is_unknown None = false

-- the world is one of n qubits and m bits
pub record IsSized (n m : ℕ) (w : PlainWorld) : Type 0 where
  pub start : length w.start ≡ m
  pub bits : length w.bits ≡ m
  pub vectors : AreOn n w.vectors.items

abbrev pub AreSized : ℕ → ℕ → List PlainWorld → Type 0
AreSized n m worlds = All (IsSized n m) worlds

-- the list is these worlds of the case, each of n qubits and m bits
pub record Gives (n m : ℕ) (c : ClaimCase) (list : List PlainWorld) (those : List World) : Type 0 where
  pub worlds : map (world_of c) list ≡ those
  pub sized : AreSized n m list

-- of all these worlds, which have equally many qubits and bits, some have been spread: the list is what comes of those, but
-- for worlds whose every vector is zero
abbrev pub Collects : (ℕ → Spread) → List PlainWorld → List PlainWorld → List PlainWorld → Type 0
Collects S all some list =
    (n m : ℕ) (c : ClaimCase) → AreSized n m all → Gives n m c list (filter is_alive (flat_map (S n) (map (world_of c) some)))

-- the list is what comes of the worlds, but for worlds whose every vector is zero
abbrev pub Leaves : (ℕ → Spread) → List PlainWorld → List PlainWorld → Type 0
Leaves S worlds list = Collects S worlds worlds list

-- one of the gates that are met doesn't fit on one of the vectors of the world that meets it
pub record MeetsUnfit (n : ℕ) (all : List Met) : Type 0 where
  pub met : Met
  pub is_met : Contains all met
  pub vector : List Amplitude
  pub there : Contains met.world.vectors vector
  pub wide : FitsGate n met.gate vector → ⊥

-- the worlds meet a gate that doesn't fit
abbrev pub AreUnfit : (ℕ → Meets) → List PlainWorld → Type 0
AreUnfit M worlds = (n m : ℕ) (c : ClaimCase) → AreSized n m worlds → MeetsUnfit n (flat_map (M n) (map (world_of c) worlds))

-- what statements in order make of a world
abbrev pub spread_of : List Stmt → ℕ → Spread
spread_of body n = in_worlds (map (spread n) body)

-- a branch by what is known of its bit
abbrev pub branch_of : Guard → List Stmt → List Stmt → ℕ → Spread
branch_of guard when_true when_false n = branch guard (spread_of when_true n) (spread_of when_false n)

abbrev pub branch_met : Guard → List Stmt → List Stmt → ℕ → Meets
branch_met guard when_true when_false n = branch_meets guard (meets_of n when_true) (meets_of n when_false)

-- the worlds and the statements have the same numbers of qubits and bits
pub record CanPlay (worlds : List PlainWorld) (body : List Stmt) : Type 0 where
  pub qubits : ℕ
  pub bits : ℕ
  pub sized : AreSized qubits bits worlds
  pub playable : ArePlayable qubits bits body

pub record CanPlayStmt (worlds : List PlainWorld) (s : Stmt) : Type 0 where
  pub qubits : ℕ
  pub bits : ℕ
  pub sized : AreSized qubits bits worlds
  pub playable : IsPlayableStmt qubits bits s
