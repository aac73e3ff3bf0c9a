-- The worlds of an obligation, and the refutation that they give.
--
-- A world is what several runs have in common: a case of the assumption, the bits that are known, and the outcomes. It has
-- a vector for each one that the case lists. A bit is decided only where the run hangs on it, 0 before 1. So the worlds
-- come in a fixed order, and the first place of the first world that escapes the goal is one state.
use Rattle.std.specs.Prelude.{◌≡◌, ℕ, ◌==◌, Bool, true, false, not, List, [], ◌∷◌, ◌++◌, map, filter, All, length, Option, Some, None, slice_get, slice_set, unwrap_or, replicate, option_and_then, if◌then◌else◌, ◌⊎◌}
use Rattle.std.specs.List.{list_any, list_all, flat_map}
use Rattle.aq_ring.specs.Fractions.{Amplitude}
use Rattle.aq_ring.specs.Vectors.{IsZeroVector, is_zero_vector}
use Rattle.aq_prog.specs.Gates.{apply_gate, project}
use Rattle.aq_prog.specs.Runs.{flipped}
use Rattle.aq_prog.specs.Digits.{tabulate}
use Rattle.aq_prog.specs.declared.stmt.Guard.{Guard}
use Rattle.aq_prog.specs.declared.stmt.Stmt.{Stmt, fold-Stmt}
use Rattle.aq_prog.specs.declared.stmt.Stmt.TheOpen.{Stmt-F}
use Rattle.aq_obligations.specs.Claims.{ClaimCase, Holds}
use Rattle.aq_obligations.specs.Obligations.{Meaning, Shown, run_of}

-- bits of which some are known
abbrev pub Partial : Type 0
Partial = List (Option Bool)

pub record World : Type 0 where
  pub case : ClaimCase
  pub start : Partial  -- the bits at the beginning, as far as they are fixed
  pub bits : Partial  -- the bits now
  pub outcomes : List Bool
  pub vectors : List (List Amplitude)  -- one for each vector of the case, in its order

-- the world in which the bit had this value from the beginning
abbrev pub decided : ℕ → Bool → World → World
decided bit b w = record { case = w.case; start = slice_set w.start bit (Some b); bits = slice_set w.bits bit (Some b); outcomes = w.outcomes; vectors = w.vectors }

-- the worlds with each value of the bit that isn't ruled out, 0 before 1; the bit may be known, or be none of the program's
abbrev pub either : ℕ → Option (Option Bool) → World → List World
either bit (Some None) w = decided bit false w ∷ decided bit true w ∷ []
either bit (Some (Some b)) w = w ∷ []
either bit None w = w ∷ []

abbrev pub split : ℕ → World → List World
split bit w = either bit (slice_get w.bits bit) w

-- what a statement makes of a world
abbrev pub Spread : Type 0
Spread = World → List World

abbrev pub in_worlds : List Spread → Spread
in_worlds [] w = w ∷ []
in_worlds (s ∷ rest) w = flat_map (in_worlds rest) (s w)

abbrev pub with_vectors : (List Amplitude → List Amplitude) → World → World
with_vectors f w = record { case = w.case; start = w.start; bits = w.bits; outcomes = w.outcomes; vectors = map f w.vectors }

abbrev pub stored : Option ℕ → Bool → Partial → Partial
stored None b bits = bits
stored (Some bit) b bits = slice_set bits bit (Some b)

-- the world after an outcome of a measurement
abbrev pub measured_world : ℕ → ℕ → Option ℕ → Bool → World → World
measured_world n qubit bit b w = record {
  case = w.case;
  start = w.start;
  bits = stored bit b w.bits;
  outcomes = w.outcomes ++ b ∷ [];
  vectors = map (project n qubit b) w.vectors;
}

abbrev pub reset_world : ℕ → ℕ → Bool → World → World
reset_world n qubit b w = with_vectors (flipped n qubit b) (measured_world n qubit None b w)

-- a bit has the guard's value
abbrev pub agrees : Guard → Bool → Bool
agrees guard b = if guard.value then b else not b

-- the guard is known to hold; as in a run, it doesn't hold on a bit that is none of the program's
abbrev pub is_known : Guard → Option (Option Bool) → Bool
is_known guard (Some (Some b)) = agrees guard b
is_known guard (Some None) = false
is_known guard None = false

-- the branch that a known value of the bit takes
abbrev pub branch : Guard → Spread → Spread → World → List World
branch guard when_true when_false w = if is_known guard (slice_get w.bits guard.bit) then when_true w else when_false w

-- the worlds of an assumption, by what is known of its bit
abbrev pub assumed_worlds : Guard → Option (Option Bool) → World → List World
assumed_worlds guard (Some None) w = decided guard.bit guard.value w ∷ []
assumed_worlds guard (Some (Some b)) w = if agrees guard b then w ∷ [] else []
assumed_worlds guard None w = []

-- one level of a statement, in which the statements inside already stand as what they make of a world; fragments have no
-- loop and no assertion, and such a statement would leave a world as it is
abbrev pub spread_step : ℕ → Stmt-F Spread → Spread
spread_step n (Stmt-F.Gate gate) w = with_vectors (apply_gate n gate) w ∷ []
spread_step n (Stmt-F.Measure qubit bit) w = measured_world n qubit bit false w ∷ measured_world n qubit bit true w ∷ []
spread_step n (Stmt-F.Reset qubit) w = reset_world n qubit false w ∷ reset_world n qubit true w ∷ []
spread_step n (Stmt-F.If guard when_true when_false) w =
    flat_map (branch guard (in_worlds when_true) (in_worlds when_false)) (split guard.bit w)
spread_step n (Stmt-F.While guard claim body line) w = w ∷ []
spread_step n (Stmt-F.Assert claim line) w = w ∷ []
spread_step n (Stmt-F.Assume guard) w = assumed_worlds guard (slice_get w.bits guard.bit) w

abbrev pub spread : ℕ → Stmt → Spread
spread n = fold-Stmt Spread (spread_step n)

-- the bits with the guard's bit known, or nothing where it is known to be otherwise or is none of the program's
abbrev pub fixing_as : Option (Option Bool) → Guard → Partial → Option Partial
fixing_as (Some None) guard bits = Some (slice_set bits guard.bit (Some guard.value))
fixing_as (Some (Some b)) guard bits = if agrees guard b then Some bits else None
fixing_as None guard bits = None

abbrev pub fixing : List Guard → Partial → Option Partial
fixing [] bits = Some bits
fixing (g ∷ gs) bits = option_and_then (fixing gs) (fixing_as (slice_get bits g.bit) g bits)

abbrev pub given_guards : Option Guard → List Guard
given_guards None = []
given_guards (Some g) = g ∷ []

-- the bits at the start, before any condition
abbrev pub first_bits : Meaning → Partial
first_bits o = if o.start then replicate o.bits (Some false) else replicate o.bits None

abbrev pub starting : ClaimCase → Option Partial → List World
starting c None = []
starting c (Some bits) = record { case = c; start = bits; bits = bits; outcomes = []; vectors = c.vectors } ∷ []

-- the world of each case whose conditions don't contradict each other, the given guard or the start
abbrev pub start_worlds : Meaning → List World
start_worlds o = flat_map (λ c. starting c (fixing (c.when ++ given_guards o.given) (first_bits o))) o.assumed

abbrev pub mentions : ℕ → ClaimCase → Bool
mentions bit c = list_any (λ g. g.bit == bit) c.when

-- the bits that the goal's conditions mention, in order
abbrev pub mentioned : Meaning → List ℕ
mentioned o = filter (λ bit. list_any (mentions bit) o.goal) (tabulate o.bits (λ bit. bit))

abbrev pub is_nought : World → Bool
is_nought w = list_all is_zero_vector w.vectors

-- the worlds in order, those left out whose every vector is zero
abbrev pub worlds : Meaning → List World
worlds o = filter (λ w. not (is_nought w))
    (flat_map (in_worlds (map split (mentioned o))) (flat_map (in_worlds (map (spread o.qubits) o.fragment)) (start_worlds o)))

-- partial bits with 0 for those that were never decided
abbrev pub filled : Partial → List Bool
filled bits = map (λ b. unwrap_or b false) bits

-- a vector of a world doesn't escape the goal
abbrev pub IsKept : Meaning → World → List Amplitude → Type 0
IsKept o w v = IsZeroVector v ⊎ Holds o.goal (filled w.bits) v

-- The refutation: the first world that has a vector which escapes the goal, and in it the first such place.
pub record IsRefutation (o : Meaning) (r : Shown) : Type 0 where
  pub earlier : List World
  pub world : World
  pub later : List World
  pub worlds_are : worlds o ≡ earlier ++ world ∷ later
  pub earlier_kept : All (λ w. All (IsKept o w) w.vectors) earlier
  pub before : List (List Amplitude)
  pub escaping : List Amplitude
  pub after : List (List Amplitude)
  pub vectors_are : world.vectors ≡ before ++ escaping ∷ after
  pub before_kept : All (IsKept o world) before
  pub nonzero : IsZeroVector escaping → ⊥
  pub escapes : Holds o.goal (filled world.bits) escaping → ⊥
  pub bits_are : r.bits ≡ filled world.start
  pub state_is : slice_get world.case.vectors (length before) ≡ Some r.state
  pub outcomes_are : r.outcomes ≡ world.outcomes
  pub end_bits_are : r.end_bits ≡ (run_of o r.bits r.state r.outcomes).last.bits
  pub end_is : r.end ≡ (run_of o r.bits r.state r.outcomes).last.vector
