-- The first sum or quotient of a gate that doesn't fit.
--
-- At an index the divisions of the left term come first, then those of the right term, then the sum. Indices come in
-- order from 0.
use Rattle.std.specs.Prelude.{◌≡◌, ◌⊎◌, ℕ, ◌<◌, true, List, length, Result, MatchResult}
use Rattle.aq_ring.specs.Fractions.{Amplitude}
use Rattle.aq_ring.specs.Amplitudes.{sum, turn, FitsSum, FitsQuotient}
use Rattle.aq_prog.specs.Digits.{digit, with_digit, amplitude_at}
use Rattle.aq_prog.specs.Gates.{divided, term, entry_at, is_controlled, FitsDivided, FitsTerm, FitsGateAt}
use Rattle.aq_prog.specs.declared.gate.Entry.{Entry}
use Rattle.aq_prog.specs.declared.gate.Entry.TheVariants as entry
use Rattle.aq_prog.specs.declared.gate.Gate.{Gate}
use Rattle.aq_plain.specs.declared.row.WideSum.{WideSum}

-- q is the operand of the first division of p by sqrt(2) that doesn't fit, of so many one after the other
pub record IsWideDivision (times : ℕ) (p q : Amplitude) : Type 0 where
  pub before : ℕ
  pub within : before < times
  pub fits : FitsDivided before p
  pub operand : q ≡ divided before p
  pub wide : FitsQuotient (divided before p) → ⊥

-- q is the operand of the first division of a term that doesn't fit
abbrev pub IsWideTerm : Entry → Amplitude → Amplitude → Type 0
IsWideTerm entry.Zero p q = ⊥
IsWideTerm (entry.Unit j e) p q = IsWideDivision e (turn j p) q

-- a matrix row with the entries e and f on the amplitudes p and q: the divisions of both terms and their sum fit
pub record FitsRow (e f : Entry) (p q : Amplitude) : Type 0 where
  pub left : FitsTerm e p
  pub right : FitsTerm f q
  pub sums : FitsSum (term e p) (term f q)

-- a row that fits on every two amplitudes
pub record AlwaysFits (e f : Entry) : Type 0 where
  pub on : (p q : Amplitude) → FitsRow e f p q

-- a division of the left term doesn't fit
pub record IsWideLeft (e : Entry) (p left right : Amplitude) : Type 0 where
  pub operand : IsWideTerm e p left
  pub same : right ≡ left

-- the left term fits, and a division of the right term doesn't
pub record IsWideRight (e f : Entry) (p q left right : Amplitude) : Type 0 where
  pub fits : FitsTerm e p
  pub operand : IsWideTerm f q left
  pub same : right ≡ left

-- both terms fit, and their sum doesn't
pub record IsWideSum (e f : Entry) (p q left right : Amplitude) : Type 0 where
  pub fits_left : FitsTerm e p
  pub fits_right : FitsTerm f q
  pub left_is : left ≡ term e p
  pub right_is : right ≡ term f q
  pub wide : FitsSum (term e p) (term f q) → ⊥

-- the operands of the first sum or quotient of a row that doesn't fit; for a quotient both are its one operand
abbrev pub IsWideRow : Entry → Entry → Amplitude → Amplitude → Amplitude → Amplitude → Type 0
IsWideRow e f p q left right = IsWideLeft e p left right ⊎ (IsWideRight e f p q left right ⊎ IsWideSum e f p q left right)

-- what a call gives that adds the terms of a row: their sum where all fits, else the operands
abbrev pub RowGives : Entry → Entry → Amplitude → Amplitude → Result Amplitude WideSum → Type 0
RowGives e f p q result = MatchResult result (λ r. FitsRow e f p q × (r ≡ sum (term e p) (term f q))) (λ w. IsWideRow e f p q w.left w.right)

-- a row of a gate's matrix on two amplitudes
abbrev pub FitsRowOf : Gate → ℕ → Amplitude → Amplitude → Type 0
FitsRowOf gate row p q = FitsRow (entry_at gate.matrix.rows row 0) (entry_at gate.matrix.rows row 1) p q

abbrev pub row_of : Gate → ℕ → Amplitude → Amplitude → Amplitude
row_of gate row p q = sum (term (entry_at gate.matrix.rows row 0) p) (term (entry_at gate.matrix.rows row 1) q)

-- the entry of a gate's matrix in the row of the index
abbrev pub row_entry : ℕ → Gate → ℕ → ℕ → Entry
row_entry n gate x column = entry_at gate.matrix.rows (digit n gate.target x) column

-- the amplitude at the index with the target's digit set to the column
abbrev pub paired : ℕ → Gate → List Amplitude → ℕ → ℕ → Amplitude
paired n gate v x column = amplitude_at v (with_digit n gate.target column x)

-- the operands of the first sum or quotient of a gate at an index that doesn't fit
pub record IsWideAt (n : ℕ) (gate : Gate) (v : List Amplitude) (x : ℕ) (left right : Amplitude) : Type 0 where
  pub controlled : is_controlled n gate.controls x ≡ true
  pub row : IsWideRow (row_entry n gate x 0) (row_entry n gate x 1) (paired n gate v x 0) (paired n gate v x 1) left right

-- the operands of the first one of all, at the first index that has one
pub record IsFirstWide (n : ℕ) (gate : Gate) (v : List Amplitude) (left right : Amplitude) : Type 0 where
  pub index : ℕ
  pub within : index < length v
  pub before : (x : ℕ) → x < index → FitsGateAt n gate v x
  pub here : IsWideAt n gate v index left right
