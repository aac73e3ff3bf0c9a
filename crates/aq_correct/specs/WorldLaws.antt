-- What the worlds of an obligation are for: each run is in one of them, and what they hold decides the obligation.
use Rattle.std.specs.Prelude.{◌≡◌, ℕ, Bool, true, false, not, List, [], ◌∷◌, ◌++◌, map, filter, All, Contains, length, Some, IfSome, slice_get, ◌⊎◌}
use Rattle.std.specs.List.{flat_map}
use Rattle.aq_ring.specs.Fractions.{Amplitude}
use Rattle.aq_ring.specs.Amplitudes.{FitsAmplitudeProduct}
use Rattle.aq_ring.specs.Vectors.{IsZeroVector}
use Rattle.aq_prog.specs.Gates.{FitsGate}
use Rattle.aq_prog.specs.Runs.{has_bit}
use Rattle.aq_obligations.specs.Claims.{ClaimCase, are_met, Holds}
use Rattle.aq_obligations.specs.Obligations.{Meaning, Shown, IsStart, run_of, IsWhole, IsTrueOf, IsCounterexample}
use Rattle.aq_obligations.specs.Wide.{WideGate, WideComparison}
use Rattle.aq_prog.specs.declared.stmt.Stmt.{Stmt}
use Rattle.aq_obligations.specs.Worlds.{World, Spread, in_worlds, spread, split, mentioned, is_nought, given_guards, fixing, first_bits, starting, worlds, filled, IsKept, IsRefutation}
use Rattle.aq_obligations.specs.Covering.{matches, takes, Met, met, meets_of}
use Rattle.aq_prog.specs.Cuts.{AreUncut}

-- the case's world at the start, where it has one
abbrev pub start_of : Meaning → ClaimCase → List World
start_of o c = starting c (fixing (c.when ++ given_guards o.given) (first_bits o))

-- the worlds that come of one at the start
abbrev pub worlds_from : Meaning → World → List World
worlds_from o w = filter (λ x. not (is_nought x)) (flat_map (in_worlds (map split (mentioned o))) (in_worlds (map (spread o.qubits) o.fragment) w))

-- the worlds of a case
abbrev pub worlds_of : Meaning → ClaimCase → List World
worlds_of o c = flat_map (worlds_from o) (start_of o c)

-- the case may start with these bits
pub record StartsWith (o : Meaning) (c : ClaimCase) (bits : List Bool) : Type 0 where
  pub sized : length bits ≡ o.bits
  pub met : are_met c.when bits ≡ true
  pub given : IfSome o.given (λ g. has_bit g bits ≡ true)
  pub zeros : o.start ≡ true → All (λ b. b ≡ false) bits

-- The world has at this place the end of the run from these bits and this vector under its outcomes. Whatever bits it leaves
-- open, the goal asks nothing of them.
pub record HasEnd (o : Meaning) (w : World) (place : ℕ) (bits : List Bool) (v : List Amplitude) : Type 0 where
  pub whole : IsWhole (run_of o bits v w.outcomes)
  pub vector : slice_get w.vectors place ≡ Some (run_of o bits v w.outcomes).last.vector
  pub bits_match : matches w.bits (run_of o bits v w.outcomes).last.bits ≡ true
  pub asks : (c : ClaimCase) → Contains o.goal c → are_met c.when (filled w.bits) ≡ are_met c.when (run_of o bits v w.outcomes).last.bits
  pub goal : (u : List Amplitude) → Holds o.goal (filled w.bits) u → Holds o.goal (run_of o bits v w.outcomes).last.bits u
  pub goal_of_run : (u : List Amplitude) → Holds o.goal (run_of o bits v w.outcomes).last.bits u → Holds o.goal (filled w.bits) u

-- The worlds are those of the cases, in order. A run of a case, from a place of its list, whose end isn't zero is in exactly
-- one of the case's worlds, which has its end at that place. And each vector of a world is the end of a run: of every run
-- from the place under the world's outcomes, with bits that agree with the world's start.
pub record WorldsCoverRuns : Type 0 where
  pub by_case : (o : Meaning) → worlds o ≡ flat_map (worlds_of o) o.assumed
  pub one_world : (o : Meaning) (c : ClaimCase) (bits : List Bool) (place : ℕ) (v : List Amplitude) (outcomes : List Bool) → AreUncut o.fragment
      → StartsWith o c bits → slice_get c.vectors place ≡ Some v → IsWhole (run_of o bits v outcomes) → (IsZeroVector (run_of o bits v outcomes).last.vector → ⊥)
      → (w : World) × (filter (takes bits outcomes) (worlds_of o c) ≡ w ∷ []) × (w.outcomes ≡ outcomes) × HasEnd o w place bits v
  pub ends : (o : Meaning) (w : World) (bits : List Bool) (place : ℕ) (v : List Amplitude) → AreUncut o.fragment
      → Contains (worlds o) w → matches w.start bits ≡ true → slice_get w.case.vectors place ≡ Some v → IsStart o bits v × HasEnd o w place bits v
  pub sized : (o : Meaning) (w : World) → AreUncut o.fragment → Contains (worlds o) w → Contains o.assumed w.case × (length w.vectors ≡ length w.case.vectors)

-- The obligation is true exactly where each vector of each world is kept, so exactly where no world has one that escapes;
-- and its refutation is a counterexample.
pub record WorldsDecide : Type 0 where
  pub true_of : (o : Meaning) → AreUncut o.fragment → All (λ w. All (IsKept o w) w.vectors) (worlds o) → IsTrueOf o
  pub kept_of : (o : Meaning) → AreUncut o.fragment → IsTrueOf o → All (λ w. All (IsKept o w) w.vectors) (worlds o)
  pub counterexample : (o : Meaning) (r : Shown) → AreUncut o.fragment → IsRefutation o r → IsCounterexample o r
  pub not_both : (o : Meaning) (r : Shown) → IsCounterexample o r → IsTrueOf o → ⊥

-- what an escape shows, by the world that has it and the vector of the case at its place
abbrev pub shown_by_escape : Meaning → World → List Amplitude → List Amplitude → Shown
shown_by_escape o w u v = record { bits = filled w.start; state = u; outcomes = w.outcomes; end_bits = (run_of o (filled w.start) u w.outcomes).last.bits; end = v }

-- An obligation is true or has a refutation, and then one: the first vector that escapes, from the first world on.
pub record WorldsRefute : Type 0 where
  pub true_or_refuted : (o : Meaning) → AreUncut o.fragment → IsTrueOf o ⊎ ((r : Shown) × IsRefutation o r)
  pub one_refutation : (o : Meaning) (r q : Shown) → IsRefutation o r → IsRefutation o q → r ≡ q
  pub escape : (o : Meaning) (earlier : List World) (w : World) (later : List World) (before : List (List Amplitude)) (v : List Amplitude) (after : List (List Amplitude)) (u : List Amplitude) → AreUncut o.fragment
      → worlds o ≡ earlier ++ w ∷ later → All (λ x. All (IsKept o x) x.vectors) earlier
      → w.vectors ≡ before ++ v ∷ after → All (IsKept o w) before → (IsZeroVector v → ⊥) → (Holds o.goal (filled w.bits) v → ⊥)
      → slice_get w.case.vectors (length before) ≡ Some u → IsRefutation o (shown_by_escape o w u v)

-- The gates that the worlds meet are those of the runs: one that doesn't fit makes the obligation wide, and where each fits
-- no gate does.
pub record WorldsMeetGates : Type 0 where
  pub wide_gate : (o : Meaning) (e : Met) (v : List Amplitude) → AreUncut o.fragment → Contains (met o) e → Contains e.world.vectors v → (FitsGate o.qubits e.gate v → ⊥) → WideGate o
  pub no_wide_gate : (o : Meaning) → AreUncut o.fragment → ((e : Met) (v : List Amplitude) → Contains (met o) e → Contains e.world.vectors v → FitsGate o.qubits e.gate v) → WideGate o → ⊥

-- A product that doesn't fit, of an entry of a world's vector and one of a goal vector for the world's bits, makes the
-- obligation wide.
pub record WorldsCompare : Type 0 where
  pub wide_comparison : (o : Meaning) (w : World) (v : List Amplitude) (c : ClaimCase) (u : List Amplitude) (left right : Amplitude) → AreUncut o.fragment
      → Contains (worlds o) w → Contains w.vectors v → Contains o.goal c → are_met c.when (filled w.bits) ≡ true → Contains c.vectors u
      → Contains v left → Contains u right → (FitsAmplitudeProduct left right → ⊥) → WideComparison o

abbrev pub is_alive : World → Bool
is_alive w = not (is_nought w)

-- Worlds whose every vector is zero may be left out as soon as they come up: nothing but such worlds comes of them, and what
-- they meet are zero vectors, on which each gate fits. And worlds may be played statement by statement.
pub record NoughtWorlds : Type 0 where
  pub step : (S : Spread) (rest : List Spread) (ws : List World) → flat_map (in_worlds (S ∷ rest)) ws ≡ flat_map (in_worlds rest) (flat_map S ws)
  pub dropped : (n : ℕ) (body : List Stmt) (ws : List World)
      → filter is_alive (flat_map (in_worlds (map (spread n) body)) (filter is_alive ws)) ≡ filter is_alive (flat_map (in_worlds (map (spread n) body)) ws)
  pub dropped_at_end : (bits : List ℕ) (ws : List World)
      → filter is_alive (flat_map (in_worlds (map split bits)) (filter is_alive ws)) ≡ filter is_alive (flat_map (in_worlds (map split bits)) ws)
  pub met_zero : (n : ℕ) (body : List Stmt) (w : World) → is_nought w ≡ true → All (λ e. All IsZeroVector e.world.vectors) (meets_of n body w)
