-- A gate played in place, pair by pair.
use Rattle.std.proofs.Common.{◌≡◌, ◌≢◌, ◌⊎◌, ℕ, ◌+◌, ◌-◌, ◌*◌, ◌/◌, ◌%◌, ◌^◌, ◌<◌, ◌≤◌, Bool, true, false, cond, List, Result, length, get_or, set, refl, sym, ap, ◌∙◌, subst, ⊎_elim, arith}
use Rattle.std.proofs.Math.Nat.{div-mul-le_self, lt-div-mul-add}
use Rattle.std.proofs.lemmas.Bool.{cases_eq, cases_lt}
use Rattle.std.proofs.lemmas.Nat.{div-mul-add}
use Rattle.std.proofs.lemmas.List.Folds.{list_all_at}
use Rattle.std.specs.Prelude.{◌==◌, Contains}
use Rattle.std.specs.List.{All}
use Rattle.std.specs.Bool.{OnTrue}
use Rattle.std.proofs.lemmas.List.{set-get_or, get_or-set_same, get_or-set_other, length-set, ext_get_or, get_or_read}
use Rattle.aq_ring.specs.Fractions.{Amplitude}
use Rattle.aq_ring.specs.Amplitudes.{amplitude_zero, sum, turn}
use Rattle.aq_ring.specs.Quads.{turned_by}
use Rattle.aq_ring.proofs.AmplitudeLaws.{sum-zero, sum_comm, lowest_form-own}
use Rattle.aq_prog.specs.Digits.{weight, digit, with_digit, amplitude_at}
use Rattle.aq_prog.specs.Gates.{term, term_at, entry_at, is_controlled, gate_entry, apply_gate, IsValidGate, FitsGate, FitsGateAt, IsEntry}
use Rattle.aq_prog.specs.declared.gate.Entry.{Entry}
use Rattle.aq_prog.specs.declared.gate.Entry.TheVariants as entry
use Rattle.aq_prog.specs.declared.gate.Gate.{Gate}
use Rattle.aq_prog.proofs.DigitLaws.{weight-positive, digit-below, digit-with_digit, with_digit-with_digit, with_digit-own, with_digit-below, controlled-other, length-tabulate, get_or-tabulate}
use Rattle.aq_plain.specs.Wide.{AlwaysFits, FitsRow, FitsRowOf, row_of, RowGives, row_entry, paired}
use Rattle.aq_plain.specs.declared.row.WideSum.{WideSum}
use Rattle.aq_plain.specs.Small.{AreNear, IsNear, IsSmallAmplitude}
use Rattle.aq_plain.proofs.SmallLaws.{near_row_fits, small_row_fits, term_of_zero}

pub RowGives-same : (rows : List (List Entry)) (d e : ℕ) (p q s t : Amplitude) (r : Result Amplitude WideSum)
    → d ≡ e → p ≡ s → q ≡ t → RowGives (entry_at rows d 0) (entry_at rows d 1) p q r → RowGives (entry_at rows e 0) (entry_at rows e 1) s t r
RowGives-same rows d e p q s t r a b c h =
    subst (λ (k : ℕ). RowGives (entry_at rows k 0) (entry_at rows k 1) s t r) a
    (subst (λ (k : Amplitude). RowGives (entry_at rows d 0) (entry_at rows d 1) k t r) b
    (subst (λ (k : Amplitude). RowGives (entry_at rows d 0) (entry_at rows d 1) p k r) c h))

-- the indices of a pair
pub low-is : (n q x : ℕ) → x - digit n q x * weight n q ≡ with_digit n q 0 x
low-is n q x = omega arith

pub high-is : (n q x : ℕ) → x - digit n q x * weight n q + weight n q ≡ with_digit n q 1 x
high-is n q x = omega arith

pub high-below : (n q x d w len : ℕ) → d ≡ digit n q x → w ≡ weight n q → len ≡ 2 ^ n → q < n → x < len → x - d * w + w < len
high-below n q x d w len a b e in_q h =
    let same : x - d * w + w ≡ with_digit n q 1 x = (λ i. x - a i * b i + b i) ∙ high-is n q x in
    rw (same, e) (with_digit-below n q 1 x in_q (omega arith) (rw e at h))

pub read-low : (n : ℕ) (gate : Gate) (v : List Amplitude) (x d w : ℕ) (p : Amplitude) → d ≡ digit n gate.target x → w ≡ weight n gate.target
    → x < length v → p ≡ get_or v (x - d * w) p → p ≡ paired n gate v x 0
read-low n gate v x d w p a b h e =
    get_or_read v (x - d * w) p (omega arith) e amplitude_zero
    ∙ ap (λ i. get_or v i amplitude_zero) ((λ i. x - a i * b i) ∙ low-is n gate.target x)

pub read-high : (n : ℕ) (gate : Gate) (v : List Amplitude) (x d w : ℕ) (p : Amplitude) → d ≡ digit n gate.target x → w ≡ weight n gate.target
    → length v ≡ 2 ^ n → gate.target < n → x < length v → p ≡ get_or v (x - d * w + w) p → p ≡ paired n gate v x 1
read-high n gate v x d w p a b s in_q h e =
    get_or_read v (x - d * w + w) p (high-below n gate.target x d w (length v) a b s in_q h) e amplitude_zero
    ∙ ap (λ i. get_or v i amplitude_zero) ((λ i. x - a i * b i + b i) ∙ high-is n gate.target x)

-- x is the first index of the pair of k
pub record IsPairOf (n q x k : ℕ) : Type 0 where
  pub low : with_digit n q 0 k ≡ x
  pub high : with_digit n q 1 k ≡ x + weight n q

pair_of : (n q x k : ℕ) → digit n q x ≡ 0 → with_digit n q 0 k ≡ x → IsPairOf n q x k
pair_of n q x k zero_digit e = record {
  low = e;
  high = sym (with_digit-with_digit n q 1 0 k (omega arith)) ∙ ap (with_digit n q 1) e ∙ second;
}
  where
    second : with_digit n q 1 x ≡ x + weight n q
    second = let z : digit n q x * weight n q ≡ 0 = rw zero_digit (omega arith) in omega arith

low_of_first : (n q x : ℕ) → digit n q x ≡ 0 → with_digit n q 0 x ≡ x
low_of_first n q x zero_digit = ap (λ d. with_digit n q d x) (sym zero_digit) ∙ with_digit-own n q x

low_of_second : (n q x : ℕ) → digit n q x ≡ 0 → with_digit n q 0 (x + weight n q) ≡ x
low_of_second n q x zero_digit =
    ap (with_digit n q 0) (sym (pair_of n q x x zero_digit (low_of_first n q x zero_digit)).high)
    ∙ with_digit-with_digit n q 0 1 x (omega arith) ∙ low_of_first n q x zero_digit

-- new is the vector after the gate at each pair whose first index is below x, and old elsewhere
pub record IsPartly (n : ℕ) (gate : Gate) (old new : List Amplitude) (x : ℕ) : Type 0 where
  pub size : length new ≡ length old
  pub done : (k : ℕ) → k < length old → with_digit n gate.target 0 k < x → amplitude_at new k ≡ gate_entry n gate old k
  pub left : (k : ℕ) → x ≤ with_digit n gate.target 0 k → amplitude_at new k ≡ amplitude_at old k

pub IsPartly-none : (n : ℕ) (gate : Gate) (v : List Amplitude) → IsPartly n gate v v 0
IsPartly-none n gate v = record { size = refl; done = λ k h lt. absurd (omega arith); left = λ k h. refl }

-- the whole
pub IsPartly-all : (n : ℕ) (gate : Gate) (old new : List Amplitude) (x : ℕ) → length old ≤ x → IsPartly n gate old new x → new ≡ apply_gate n gate old
unfolding apply_gate
IsPartly-all n gate old new x e h = ext_get_or amplitude_zero new _ (h.size ∙ sym (length-tabulate (length old) (gate_entry n gate old)))
    (λ k lt. let less : k < length old = rw h.size at lt in h.done k less (omega arith) ∙ sym (get_or-tabulate (length old) (gate_entry n gate old) amplitude_zero k less))

-- ---- a pair that is written
pub entry_of : (n : ℕ) (gate : Gate) (v : List Amplitude) (k d : ℕ) (p q : Amplitude) → is_controlled n gate.controls k ≡ true
    → digit n gate.target k ≡ d → paired n gate v k 0 ≡ p → paired n gate v k 1 ≡ q → gate_entry n gate v k ≡ row_of gate d p q
entry_of n gate v k d p q c a b e =
    ap (λ t. cond t (sum (term_at n gate v k 0) (term_at n gate v k 1)) (amplitude_at v k)) c
    ∙ (λ i. row_of gate (a i) (b i) (e i))

pub FitsRow-at : (n : ℕ) (gate : Gate) (v : List Amplitude) (x d : ℕ) (p q : Amplitude) → is_controlled n gate.controls x ≡ true
    → digit n gate.target x ≡ d → paired n gate v x 0 ≡ p → paired n gate v x 1 ≡ q → FitsGateAt n gate v x → FitsRowOf gate d p q
FitsRow-at n gate v x d p q c a b e f =
    let at : FitsRow (row_entry n gate x 0) (row_entry n gate x 1) (paired n gate v x 0) (paired n gate v x 1) = record { left = f.left c; right = f.right c; sums = f.sums c } in
    subst (λ (k : ℕ). FitsRowOf gate k p q) a
    (subst (λ (k : Amplitude). FitsRowOf gate (digit n gate.target x) k q) b
    (subst (λ (k : Amplitude). FitsRowOf gate (digit n gate.target x) (paired n gate v x 0) k) e at))

pub low_kept : (n : ℕ) (gate : Gate) (old new : List Amplitude) (x : ℕ) → digit n gate.target x ≡ 0 → IsPartly n gate old new x → amplitude_at new x ≡ amplitude_at old x
low_kept n gate old new x first part = part.left x (let e = low_of_first n gate.target x first in omega arith)

pub high_kept : (n : ℕ) (gate : Gate) (old new : List Amplitude) (x : ℕ) → digit n gate.target x ≡ 0 → IsPartly n gate old new x
    → amplitude_at new (x + weight n gate.target) ≡ amplitude_at old (x + weight n gate.target)
high_kept n gate old new x first part = part.left (x + weight n gate.target) (let e = low_of_second n gate.target x first in omega arith)

-- the two amplitudes of the pair, as each of its indices sees them
paired_low : (n : ℕ) (gate : Gate) (old new : List Amplitude) (x k : ℕ) → digit n gate.target x ≡ 0 → IsPartly n gate old new x → IsPairOf n gate.target x k → paired n gate old k 0 ≡ amplitude_at new x
paired_low n gate old new x k first part pair = ap (amplitude_at old) pair.low ∙ sym (low_kept n gate old new x first part)

paired_high : (n : ℕ) (gate : Gate) (old new : List Amplitude) (x k : ℕ) → digit n gate.target x ≡ 0 → IsPartly n gate old new x → IsPairOf n gate.target x k → paired n gate old k 1 ≡ amplitude_at new (x + weight n gate.target)
paired_high n gate old new x k first part pair = ap (amplitude_at old) pair.high ∙ sym (high_kept n gate old new x first part)

second_digit : (n q x : ℕ) → digit n q x ≡ 0 → digit n q (x + weight n q) ≡ 1
second_digit n q x first = ap (digit n q) (sym (pair_of n q x x first (low_of_first n q x first)).high) ∙ digit-with_digit n q 1 x (omega arith)

pub second_below : (n q x len : ℕ) → q < n → len ≡ 2 ^ n → x < len → digit n q x ≡ 0 → x + weight n q < len
second_below n q x len in_q e h first =
    let same = (pair_of n q x x first (low_of_first n q x first)).high in
    rw e (rw same at (with_digit-below n q 1 x in_q (omega arith) (rw e at h)))

-- the controls see one value at both indices of a pair
pair_control : (n : ℕ) (gate : Gate) (x k : ℕ) → IsValidGate n gate → IsPairOf n gate.target x k → is_controlled n gate.controls x ≡ is_controlled n gate.controls k
pair_control n gate x k valid pair =
    ap (is_controlled n gate.controls) (sym pair.low) ∙ controlled-other n gate.target 0 k gate.controls valid.target (omega arith) valid.controls

pub top_fits : (n : ℕ) (gate : Gate) (old new : List Amplitude) (x : ℕ) → IsValidGate n gate → x < length old → FitsGate n gate old
    → digit n gate.target x ≡ 0 → is_controlled n gate.controls x ≡ true → IsPartly n gate old new x
    → FitsRowOf gate 0 (amplitude_at new x) (amplitude_at new (x + weight n gate.target))
top_fits n gate old new x valid h fits first c part =
    let pair = pair_of n gate.target x x first (low_of_first n gate.target x first) in
    FitsRow-at n gate old x 0 _ _ c first (paired_low n gate old new x x first part pair) (paired_high n gate old new x x first part pair) (fits.at x h)

pub bottom_fits : (n : ℕ) (gate : Gate) (old new : List Amplitude) (x : ℕ) → IsValidGate n gate → length old ≡ 2 ^ n → x < length old → FitsGate n gate old
    → digit n gate.target x ≡ 0 → is_controlled n gate.controls x ≡ true → IsPartly n gate old new x
    → FitsRowOf gate 1 (amplitude_at new x) (amplitude_at new (x + weight n gate.target))
bottom_fits n gate old new x valid size h fits first c part =
    let k = x + weight n gate.target in
    let pair = pair_of n gate.target x k first (low_of_second n gate.target x first) in
    FitsRow-at n gate old k 1 _ _ (sym (pair_control n gate x k valid pair) ∙ c) (second_digit n gate.target x first)
    (paired_low n gate old new x k first part pair) (paired_high n gate old new x k first part pair)
    (fits.at k (second_below n gate.target x (length old) valid.target size h first))

-- a digit stays up to the next multiple of its weight
digit_stays : (n q x z : ℕ) → x ≤ z → z < (x / weight n q + 1) * weight n q → digit n q z ≡ digit n q x
digit_stays n q x z le lt =
    let m = x / weight n q in
    let least = div-mul-le_self x (weight n q) in
    let e : z ≡ m * weight n q + (z - m * weight n q) = omega arith in
    ap (λ j. j % 2) (ap (λ j. j / weight n q) e ∙ div-mul-add m (weight n q) (z - m * weight n q) (omega arith))

-- a control has digit 0 where the pair of k begins
uncontrolled : (n : ℕ) (gate : Gate) (k q : ℕ) → IsValidGate n gate → Contains gate.controls q → digit n q (with_digit n gate.target 0 k) ≡ 0
    → is_controlled n gate.controls k ≡ false
uncontrolled n gate k q valid control none =
    let first = with_digit n gate.target 0 k in
    sym (controlled-other n gate.target 0 k gate.controls valid.target (omega arith) valid.controls)
    ∙ list_all_at (λ j. digit n j first == 1) gate.controls control.0 q control.1 (ap (λ j. digit n j first == 1) control.2 ∙ ap (λ d. d == 1) none)

-- a digit of q at x for which no pair that begins there is changed
abbrev pub Hinders : ℕ → Gate → ℕ → ℕ → Type 0
Hinders n gate x q = ((q ≡ gate.target) × (digit n q x ≡ 1)) ⊎ (Contains gate.controls q × (digit n q x ≡ 0))

-- so the pairs stay that begin from x on where this digit stays
pub IsPartly-skip : (n : ℕ) (gate : Gate) (old new : List Amplitude) (x q y : ℕ) → IsValidGate n gate → Hinders n gate x q
    → y ≡ (x / weight n q + 1) * weight n q → IsPartly n gate old new x → IsPartly n gate old new y
IsPartly-skip n gate old new x q y valid why e h = record {
  size = h.size;
  done = λ k lt less. ⊎_elim (λ before. h.done k lt before) (here k less) (cases_lt (with_digit n gate.target 0 k) x);
  left = λ k less. h.left k (let b = lt-div-mul-add {a = x} {b = weight n q} (weight-positive n q) in omega arith);
}
  where
    here : (k : ℕ) → with_digit n gate.target 0 k < y → x ≤ with_digit n gate.target 0 k → amplitude_at new k ≡ gate_entry n gate old k
    here k less from =
        let first = with_digit n gate.target 0 k in
        let stays : digit n q first ≡ digit n q x = digit_stays n q x first from (rw e at less) in
        let is_first : digit n gate.target first ≡ 0 = digit-with_digit n gate.target 0 k (omega arith) in
        ⊎_elim
        (λ target. absurd (let z : digit n q first ≡ 0 = ap (λ j. digit n j first) target.0 ∙ is_first in let o = target.1 in omega arith))
        (λ control. h.left k from ∙ sym (ap (λ t. cond t (sum (term_at n gate old k 0) (term_at n gate old k 1)) (amplitude_at old k)) (uncontrolled n gate k q valid control.0 (stays ∙ control.1))))
        why

sets-other : (v : List Amplitude) (i j k : ℕ) (a b : Amplitude) → k ≢ i → k ≢ j → amplitude_at (set (set v i a) j b) k ≡ amplitude_at v k
sets-other v i j k a b p q = get_or-set_other (set v i a) j k b amplitude_zero q ∙ get_or-set_other v i k a amplitude_zero p

sets-first : (v : List Amplitude) (i j : ℕ) (a b : Amplitude) → i ≢ j → i < length v → amplitude_at (set (set v i a) j b) i ≡ a
sets-first v i j a b ne h = get_or-set_other (set v i a) j i b amplitude_zero ne ∙ get_or-set_same v i a amplitude_zero h

sets-second : (v : List Amplitude) (i j : ℕ) (a b : Amplitude) → j < length v → amplitude_at (set (set v i a) j b) j ≡ b
sets-second v i j a b h = get_or-set_same (set v i a) j b amplitude_zero (let e = length-set v i a in omega arith)

abbrev pub written : ℕ → Gate → List Amplitude → ℕ → List Amplitude
written w gate v x =
    set (set v x (row_of gate 0 (amplitude_at v x) (amplitude_at v (x + w)))) (x + w) (row_of gate 1 (amplitude_at v x) (amplitude_at v (x + w)))

written-length : (w : ℕ) (gate : Gate) (v : List Amplitude) (x : ℕ) → length (written w gate v x) ≡ length v
written-length w gate v x = length-set (set v x (row_of gate 0 (amplitude_at v x) (amplitude_at v (x + w)))) (x + w) _ ∙ length-set v x _

written-other : (w : ℕ) (gate : Gate) (v : List Amplitude) (x k : ℕ) → k ≢ x → k ≢ x + w → amplitude_at (written w gate v x) k ≡ amplitude_at v k
written-other w gate v x k a b =
    sets-other v x (x + w) k (row_of gate 0 (amplitude_at v x) (amplitude_at v (x + w))) (row_of gate 1 (amplitude_at v x) (amplitude_at v (x + w))) a b

written-first : (w : ℕ) (gate : Gate) (v : List Amplitude) (x : ℕ) → 0 < w → x < length v → amplitude_at (written w gate v x) x ≡ row_of gate 0 (amplitude_at v x) (amplitude_at v (x + w))
written-first w gate v x pos h =
    sets-first v x (x + w) (row_of gate 0 (amplitude_at v x) (amplitude_at v (x + w))) (row_of gate 1 (amplitude_at v x) (amplitude_at v (x + w))) (omega arith) h

written-second : (w : ℕ) (gate : Gate) (v : List Amplitude) (x : ℕ) → x + w < length v → amplitude_at (written w gate v x) (x + w) ≡ row_of gate 1 (amplitude_at v x) (amplitude_at v (x + w))
written-second w gate v x h =
    sets-second v x (x + w) (row_of gate 0 (amplitude_at v x) (amplitude_at v (x + w))) (row_of gate 1 (amplitude_at v x) (amplitude_at v (x + w))) h

-- the pair at x is written
pub IsPartly-written : (n : ℕ) (gate : Gate) (old new : List Amplitude) (x : ℕ) → IsValidGate n gate → length old ≡ 2 ^ n → x < length old
    → digit n gate.target x ≡ 0 → is_controlled n gate.controls x ≡ true → IsPartly n gate old new x
    → IsPartly n gate old (written (weight n gate.target) gate new x) (x + 1)
IsPartly-written n gate old new x valid size h first c part = record {
  size = written-length w gate new x ∙ part.size;
  done = λ k lt less. ⊎_elim (here k) (λ other. other_kept k other ∙ part.done k lt (omega arith)) (cases_eq (with_digit n gate.target 0 k) x);
  left = λ k less. other_kept k (omega arith) ∙ part.left k (omega arith);
}
  where
    w : ℕ
    w = weight n gate.target

    other_kept : (k : ℕ) → with_digit n gate.target 0 k ≢ x → amplitude_at (written w gate new x) k ≡ amplitude_at new k
    other_kept k other =
        written-other w gate new x k (λ e. other (ap (with_digit n gate.target 0) e ∙ low_of_first n gate.target x first))
        (λ e. other (ap (with_digit n gate.target 0) e ∙ low_of_second n gate.target x first))

    at_digit : (k d : ℕ) → digit n gate.target k ≡ d → with_digit n gate.target 0 k ≡ x → amplitude_at (written w gate new x) k ≡ row_of gate d (amplitude_at new x) (amplitude_at new (x + w))
        → amplitude_at (written w gate new x) k ≡ gate_entry n gate old k
    at_digit k d e same value =
        let pair = pair_of n gate.target x k first same in
        value ∙ sym (entry_of n gate old k d _ _ (sym (pair_control n gate x k valid pair) ∙ c) e (paired_low n gate old new x k first part pair) (paired_high n gate old new x k first part pair))

    index_first : (k : ℕ) → digit n gate.target k ≡ 0 → with_digit n gate.target 0 k ≡ x → k ≡ x
    index_first k e same = sym (low_of_first n gate.target k e) ∙ same

    index_second : (k : ℕ) → digit n gate.target k ≡ 1 → with_digit n gate.target 0 k ≡ x → k ≡ x + w
    index_second k e same = sym (with_digit-own n gate.target k) ∙ ap (λ d. with_digit n gate.target d k) e ∙ (pair_of n gate.target x k first same).high

    here : (k : ℕ) → with_digit n gate.target 0 k ≡ x → amplitude_at (written w gate new x) k ≡ gate_entry n gate old k
    here k same = ⊎_elim
        (λ (e : digit n gate.target k ≡ 0). at_digit k 0 e same (ap (amplitude_at (written w gate new x)) (index_first k e same) ∙ written-first w gate new x (weight-positive n gate.target) (rw part.size h)))
        (λ (e : digit n gate.target k ≢ 0). let one : digit n gate.target k ≡ 1 = (let b = digit-below n gate.target k in omega arith) in
        at_digit k 1 one same (ap (amplitude_at (written w gate new x)) (index_second k one same)
        ∙ written-second w gate new x (rw part.size (second_below n gate.target x (length old) valid.target size h first))))
        (cases_eq (digit n gate.target k) 0)

pub IsPartly-step : (n : ℕ) (gate : Gate) (old new next : List Amplitude) (x w : ℕ) → w ≡ weight n gate.target → IsValidGate n gate → length old ≡ 2 ^ n → x < length old
    → digit n gate.target x ≡ 0 → is_controlled n gate.controls x ≡ true → IsPartly n gate old new x
    → next ≡ written w gate new x → IsPartly n gate old next (x + 1)
IsPartly-step n gate old new next x w a valid size h first c part e =
    rw (e ∙ ap (λ k. written k gate new x) a) (IsPartly-written n gate old new x valid size h first c part)

-- ---- rows that always fit
pub fits_by_rows : (n : ℕ) (gate : Gate) (v : List Amplitude) → AlwaysFits (entry_at gate.matrix.rows 0 0) (entry_at gate.matrix.rows 0 1) → AlwaysFits (entry_at gate.matrix.rows 1 0) (entry_at gate.matrix.rows 1 1) → FitsGate n gate v
fits_by_rows n gate v top bottom = record { at = λ x h. of_row x (row_at x) }
  where
    of_row : (x : ℕ) → AlwaysFits (row_entry n gate x 0) (row_entry n gate x 1) → FitsGateAt n gate v x
    of_row x h = let f = h.on (paired n gate v x 0) (paired n gate v x 1) in record { left = λ c. f.left; right = λ c. f.right; sums = λ c. f.sums }

    row_at : (x : ℕ) → AlwaysFits (row_entry n gate x 0) (row_entry n gate x 1)
    row_at x = ⊎_elim
        (λ (e : digit n gate.target x ≡ 0). subst (λ (d : ℕ). AlwaysFits (entry_at gate.matrix.rows d 0) (entry_at gate.matrix.rows d 1)) (sym e) top)
        (λ (e : digit n gate.target x ≢ 0). let one : 1 ≡ digit n gate.target x = (let b = digit-below n gate.target x in omega arith) in
        subst (λ (d : ℕ). AlwaysFits (entry_at gate.matrix.rows d 0) (entry_at gate.matrix.rows d 1)) one bottom)
        (cases_eq (digit n gate.target x) 0)

-- ---- a term beside zero
pub zero_after : (e f : Entry) (p q r : Amplitude) → f ≡ entry.Zero → r ≡ term e p → r ≡ sum (term e p) (term f q)
zero_after e f p q r z same = same ∙ sym (sum-zero (term e p)) ∙ sum_comm amplitude_zero (term e p) ∙ sym (ap (λ (g : Entry). sum (term e p) (term g q)) z)

pub zero_before : (e f : Entry) (p q r : Amplitude) → e ≡ entry.Zero → r ≡ term f q → r ≡ sum (term e p) (term f q)
zero_before e f p q r z same = same ∙ sym (sum-zero (term f q)) ∙ sym (ap (λ (g : Entry). sum (term g p) (term f q)) z)

-- ---- small amplitudes
pub on_true : (b : Bool) (P Q : Type 0) → (P → Q) → OnTrue b P → OnTrue b Q
on_true true P Q f h = f h
on_true false P Q f h = h

-- a gate fits where each of its rows does on what is true of all amplitudes
fits_on_all : (n : ℕ) (gate : Gate) (v : List Amplitude) (P : Amplitude → Type 0) → IsValidGate n gate → length v ≡ 2 ^ n → All P v
    → ((e f : Entry) (p q : Amplitude) → IsEntry e → IsEntry f → P p → P q → FitsRow e f p q) → FitsGate n gate v
fits_on_all n gate v P valid size all rows = record { at = at }
  where
    here : (x column : ℕ) → x < length v → column < 2 → P (paired n gate v x column)
    here x column h b = all (with_digit n gate.target column x) amplitude_zero (rw size (with_digit-below n gate.target column x valid.target b (rw size at h)))

    at : (x : ℕ) → x < length v → FitsGateAt n gate v x
    at x h =
        let row = rows (row_entry n gate x 0) (row_entry n gate x 1) (paired n gate v x 0) (paired n gate v x 1)
        (valid.entries (digit n gate.target x) 0) (valid.entries (digit n gate.target x) 1) (here x 0 h (omega arith)) (here x 1 h (omega arith)) in
        record { left = λ c. row.left; right = λ c. row.right; sums = λ c. row.sums }

pub fits_on_small : (n : ℕ) (gate : Gate) (v : List Amplitude) → IsValidGate n gate → length v ≡ 2 ^ n → All IsSmallAmplitude v → FitsGate n gate v
fits_on_small n gate v valid size all = fits_on_all n gate v IsSmallAmplitude valid size all small_row_fits

pub fits_on_near : (n : ℕ) (gate : Gate) (v : List Amplitude) → IsValidGate n gate → length v ≡ 2 ^ n → AreNear v → FitsGate n gate v
fits_on_near n gate v valid size near = fits_on_all n gate v (IsNear near.low) valid size near.each (λ e f p q. near_row_fits near.low e f p q near.few)

-- the pair at x, which isn't written yet
pub small_low : (n : ℕ) (gate : Gate) (old new : List Amplitude) (x : ℕ) → All IsSmallAmplitude old → x < length old → digit n gate.target x ≡ 0 → IsPartly n gate old new x
    → IsSmallAmplitude (amplitude_at new x)
small_low n gate old new x all h first part = subst IsSmallAmplitude (sym (low_kept n gate old new x first part)) (all x amplitude_zero h)

pub small_high : (n : ℕ) (gate : Gate) (old new : List Amplitude) (x : ℕ) → All IsSmallAmplitude old → gate.target < n → length old ≡ 2 ^ n → x < length old
    → digit n gate.target x ≡ 0 → IsPartly n gate old new x → IsSmallAmplitude (amplitude_at new (x + weight n gate.target))
small_high n gate old new x all in_n size h first part =
    subst IsSmallAmplitude (sym (high_kept n gate old new x first part))
    (all (x + weight n gate.target) amplitude_zero (second_below n gate.target x (length old) in_n size h first))

-- ---- two zeros
row_of_zeros : (gate : Gate) (row : ℕ) (p q : Amplitude) → p ≡ amplitude_zero → q ≡ amplitude_zero → row_of gate row p q ≡ amplitude_zero
row_of_zeros gate row p q a b =
    (λ i. sum (term_of_zero (entry_at gate.matrix.rows row 0) p a i) (term_of_zero (entry_at gate.matrix.rows row 1) q b i)) ∙ sum-zero amplitude_zero

-- stay as they are
pub zeros_stay : (gate : Gate) (v : List Amplitude) (x w : ℕ) → amplitude_at v x ≡ amplitude_zero → amplitude_at v (x + w) ≡ amplitude_zero → v ≡ written w gate v x
zeros_stay gate v x w a b =
    let first : set v x (row_of gate 0 (amplitude_at v x) (amplitude_at v (x + w))) ≡ v =
    ap (set v x) (row_of_zeros gate 0 _ _ a b ∙ sym a) ∙ set-get_or v x amplitude_zero in
    sym (ap (λ u. set u (x + w) (row_of gate 1 (amplitude_at v x) (amplitude_at v (x + w)))) first
    ∙ ap (set v (x + w)) (row_of_zeros gate 1 _ _ a b ∙ sym b) ∙ set-get_or v (x + w) amplitude_zero)

-- ---- an amplitude as it is
turn_none : (p : Amplitude) → turn 0 p ≡ p
unfolding turn turned_by
turn_none p = lowest_form-own p

pub left_alone : (e f : Entry) (p q : Amplitude) → e ≡ entry.Unit 0 0 → f ≡ entry.Zero → sum (term e p) (term f q) ≡ p
left_alone e f p q a b = (λ i. sum (term (a i) p) (term (b i) q)) ∙ sum_comm (turn 0 p) amplitude_zero ∙ sum-zero (turn 0 p) ∙ turn_none p

pub right_alone : (e f : Entry) (p q : Amplitude) → e ≡ entry.Zero → f ≡ entry.Unit 0 0 → sum (term e p) (term f q) ≡ q
right_alone e f p q a b = (λ i. sum (term (a i) p) (term (b i) q)) ∙ sum-zero (turn 0 q) ∙ turn_none q
