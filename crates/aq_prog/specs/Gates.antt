-- What gates and measurements do to a vector of n qubits.
use Rattle.std.specs.Prelude.{◌≡◌, ℕ, zero, suc, ◌<◌, ◌≢◌, ◌==◌, Bool, true, List, [], ◌∷◌, length, slice_index_or, if◌then◌else◌, nat_eq}
use Rattle.std.specs.List.{list_all, All, IsDistinct}
use Rattle.aq_ring.specs.Fractions.{Amplitude}
use Rattle.aq_ring.specs.Amplitudes.{amplitude_zero, sum, turn, quotient, FitsSum, FitsQuotient}
use Rattle.aq_prog.specs.Digits.{digit, with_digit, amplitude_at, tabulate}
use Rattle.aq_prog.specs.declared.gate.Entry.{Entry}
use Rattle.aq_prog.specs.declared.gate.Entry.TheVariants as entry
use Rattle.aq_prog.specs.declared.gate.Gate.{Gate}

-- p divided by sqrt(2) so many times
abbrev pub divided : ℕ → Amplitude → Amplitude
divided zero p = p
divided (suc e) p = quotient (divided e p)

-- what a matrix entry makes of an amplitude
abbrev pub term : Entry → Amplitude → Amplitude
term entry.Zero p = amplitude_zero
term (entry.Unit j e) p = divided e (turn j p)

-- the entry of a matrix in this row and column
abbrev pub entry_at : List (List Entry) → ℕ → ℕ → Entry
entry_at rows row column = slice_index_or (slice_index_or rows row []) column entry.Zero

-- every control digit is 1
abbrev pub is_controlled : ℕ → List ℕ → ℕ → Bool
is_controlled n controls x = list_all (λ c. digit n c x == 1) controls

-- the term of a gate at an index, from the amplitude whose target digit is the column
abbrev pub term_at : ℕ → Gate → List Amplitude → ℕ → ℕ → Amplitude
term_at n gate v x column = term (entry_at gate.matrix.rows (digit n gate.target x) column) (amplitude_at v (with_digit n gate.target column x))

-- the new amplitude at an index: the matrix row of the target's digit times the two amplitudes that differ in that digit
abbrev pub gate_entry : ℕ → Gate → List Amplitude → ℕ → Amplitude
gate_entry n gate v x = if is_controlled n gate.controls x
    then sum (term_at n gate v x 0) (term_at n gate v x 1)
    else amplitude_at v x

-- the vector after a gate
unfoldable pub apply_gate : ℕ → Gate → List Amplitude → List Amplitude
apply_gate n gate v = tabulate (length v) (gate_entry n gate v)

-- the projection on the kets in which the qubit has this digit: the vector after that outcome, not normalised
unfoldable pub project : ℕ → ℕ → Bool → List Amplitude → List Amplitude
project n qubit outcome v =
    tabulate (length v) (λ x. if digit n qubit x == (if outcome then 1 else 0) then amplitude_at v x else amplitude_zero)

-- the gate x on a qubit
abbrev pub flip_gate : ℕ → Gate
flip_gate qubit = record {
  controls = [];
  target = qubit;
  matrix = record { rows = (entry.Zero ∷ entry.Unit 0 0 ∷ []) ∷ (entry.Unit 0 0 ∷ entry.Zero ∷ []) ∷ [] };
}

-- each of so many divisions fits
abbrev pub FitsDivided : ℕ → Amplitude → Type 0
FitsDivided zero p = Unit {0}
FitsDivided (suc e) p = FitsDivided e p × FitsQuotient (divided e p)

-- the divisions of a term fit; a turn always does
abbrev pub FitsTerm : Entry → Amplitude → Type 0
FitsTerm entry.Zero p = Unit {0}
FitsTerm (entry.Unit j e) p = FitsDivided e (turn j p)

-- at an index, the divisions of both terms and their sum fit
pub record FitsGateAt (n : ℕ) (gate : Gate) (v : List Amplitude) (x : ℕ) : Type 0 where
  pub left : is_controlled n gate.controls x ≡ true → FitsTerm (entry_at gate.matrix.rows (digit n gate.target x) 0) (amplitude_at v (with_digit n gate.target 0 x))
  pub right : is_controlled n gate.controls x ≡ true → FitsTerm (entry_at gate.matrix.rows (digit n gate.target x) 1) (amplitude_at v (with_digit n gate.target 1 x))
  pub sums : is_controlled n gate.controls x ≡ true → FitsSum (term_at n gate v x 0) (term_at n gate v x 1)

-- they fit at every index
pub record FitsGate (n : ℕ) (gate : Gate) (v : List Amplitude) : Type 0 where
  pub at : (x : ℕ) → x < length v → FitsGateAt n gate v x

-- an entry keeps its bounds: fewer than eight turns, and at most one division by sqrt(2)
abbrev pub IsEntry : Entry → Type 0
IsEntry entry.Zero = Unit {0}
IsEntry (entry.Unit j e) = (j < 8) × (e < 2)

-- each entry of a matrix keeps its bounds
abbrev pub AreEntries : List (List Entry) → Type 0
AreEntries rows = (row column : ℕ) → IsEntry (entry_at rows row column)

-- a gate on n qubits: its entries keep their bounds, and its target and its controls are different qubits below n
pub record IsValidGate (n : ℕ) (gate : Gate) : Type 0 where
  pub entries : AreEntries gate.matrix.rows
  pub target : gate.target < n
  pub controls : All (λ c. (c < n) × (c ≢ gate.target)) gate.controls
  pub distinct : IsDistinct nat_eq gate.controls

-- the vector after gates in this order
abbrev pub apply_gates : ℕ → List Gate → List Amplitude → List Amplitude
apply_gates n [] v = v
apply_gates n (gate ∷ rest) v = apply_gates n rest (apply_gate n gate v)
