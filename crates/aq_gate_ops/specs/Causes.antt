-- Why a gate gives up: the numbers that don't fit.
use Rattle.std.specs.Prelude.{◌≡◌, ℕ, ◌<◌, ◌⊎◌, true, List, [], ◌∷◌, ◌++◌, length, slice_get, Some}
use Rattle.aq_ring.specs.Fractions.{Amplitude}
use Rattle.aq_label.specs.Parts.{turns, FitsSums, FitsQuotients}
use Rattle.aq_prog.specs.Digits.{digit, with_digit}
use Rattle.aq_prog.specs.Gates.{entry_at, is_controlled}
use Rattle.aq_prog.specs.declared.gate.Entry.{Entry}
use Rattle.aq_prog.specs.declared.gate.Entry.TheVariants as entry
use Rattle.aq_prog.specs.declared.gate.Gate.{Gate}
use Rattle.aq_store.specs.Nodes.{vector_of, tree, labels_at}
use Rattle.aq_store.specs.declared.lsta.Lsta.{Lsta}
use Rattle.aq_store.specs.declared.node.Node.{Node}
use Rattle.aq_store.specs.declared.store.Stop.{Stop}
use Rattle.aq_store.specs.declared.store.Stop.TheVariants.{Spent, Wide, WideParts, Memory}
use Rattle.aq_gate_ops.specs.Action.{controlled, IsTermOf}

module _ {L : Type 0} where
  -- the cause is a sum or a quotient that doesn't fit, and P tells of its operands
  abbrev pub IsWide : (L → L → Type 0) → Stop L → Type 0
  IsWide P Spent = ⊥
  IsWide P (Wide l r) = P l r
  IsWide P (WideParts l r) = ⊥
  IsWide P Memory = ⊥

  -- where the cause is a sum or a quotient that doesn't fit, P tells of its operands; else it is want of steps or of memory
  abbrev pub IsCause : (L → L → Type 0) → Stop L → Type 0
  IsCause P Spent = Unit {0}
  IsCause P (Wide l r) = P l r
  IsCause P (WideParts l r) = ⊥
  IsCause P Memory = Unit {0}

module _ {L : Type 0} (parts : L → List Amplitude) (count : ℕ) where
  -- l is x, turned as the entry says, and its quotient by sqrt(2) doesn't fit; it is both operands
  pub record IsWideTerm (e : Entry) (x l r : L) : Type 0 where
    pub turn : ℕ
    pub is : e ≡ entry.Unit turn 1
    pub turned : parts l ≡ turns turn (parts x)
    pub unfit : ¬ FitsQuotients (parts l)
    pub same : r ≡ l

  -- l and r are the terms of p and q, and their sum doesn't fit
  pub record IsWideSum (first second : Entry) (p q l r : L) : Type 0 where
    pub left : IsTermOf parts count first p l
    pub right : IsTermOf parts count second q r
    pub unfit : ¬ FitsSums (parts l) (parts r)

  -- a quotient of the terms of p and q, or their sum, doesn't fit
  abbrev pub IsWideMix : Entry → Entry → L → L → L → L → Type 0
  IsWideMix first second p q l r = IsWideTerm first p l r ⊎ (IsWideTerm second q l r ⊎ IsWideSum first second p q l r)

  module _ (n : ℕ) (gate : Gate) where
    -- at an index where the controls from depth d on are 1, row b of two halves below the target doesn't fit
    pub record IsWideRow (b d : ℕ) (u w : List L) (l r : L) : Type 0 where
      pub index : ℕ
      pub on : controlled n d gate.controls index ≡ true
      pub first : L
      pub second : L
      pub left : slice_get u index ≡ Some first
      pub right : slice_get w index ≡ Some second
      pub unfit : IsWideMix (entry_at gate.matrix.rows b 0) (entry_at gate.matrix.rows b 1) first second l r

    -- at an index where the controls from depth d on are 1, the gate on v doesn't fit
    pub record IsWideActed (d : ℕ) (v : List L) (l r : L) : Type 0 where
      pub index : ℕ
      pub on : controlled n d gate.controls index ≡ true
      pub first : L
      pub second : L
      pub left : slice_get v (with_digit n gate.target 0 index) ≡ Some first
      pub right : slice_get v (with_digit n gate.target 1 index) ≡ Some second
      pub unfit : IsWideMix (entry_at gate.matrix.rows (digit n gate.target index) 0) (entry_at gate.matrix.rows (digit n gate.target index) 1) first second l r

    -- some row doesn't fit for some word, of which us and ws tell the halves
    pub record IsRowCause (d : ℕ) (us ws : List ℕ → List L) (l r : L) : Type 0 where
      pub row : ℕ
      pub within : row < 2
      pub word : List ℕ
      pub wide : IsWideRow row d (us word) (ws word) l r

    -- the gate doesn't fit for some word, of which vs tells the vector
    pub record IsActCause (d : ℕ) (vs : List ℕ → List L) (l r : L) : Type 0 where
      pub word : List ℕ
      pub wide : IsWideActed d (vs word) l r

  -- a row of the labels of two leaves doesn't fit
  pub record IsWideLeaves (gate : Gate) (table : List (Node L)) (left right : ℕ) (l r : L) : Type 0 where
    pub row : ℕ
    pub within : row < 2
    pub first : L
    pub second : L
    pub left_at : labels_at table left ≡ first ∷ []
    pub right_at : labels_at table right ≡ second ∷ []
    pub unfit : IsWideMix (entry_at gate.matrix.rows row 0) (entry_at gate.matrix.rows row 1) first second l r

  -- of a place, of a pair, of two places, and of two pairs
  abbrev pub PlaceCause : Gate → List ℕ → ℕ → List (Node L) → ℕ → L → L → Type 0
  PlaceCause gate shape d table i = IsActCause (length shape) gate d (λ word. tree table word i)

  abbrev pub PairCause : Gate → List ℕ → ℕ → List (Node L) → ℕ × ℕ → L → L → Type 0
  PairCause gate shape d table p = IsActCause (length shape) gate d (λ word. tree table word p.0 ++ tree table word p.1)

  abbrev pub RowsCause : Gate → List ℕ → ℕ → List (Node L) → ℕ × ℕ → L → L → Type 0
  RowsCause gate shape d table p = IsRowCause (length shape) gate d (λ word. tree table word p.0) (λ word. tree table word p.1)

  abbrev pub RowPairsCause : Gate → List ℕ → ℕ → List (Node L) → ℕ × ℕ → ℕ × ℕ → L → L → Type 0
  RowPairsCause gate shape d table p q =
      IsRowCause (length shape) gate d (λ word. tree table word p.0 ++ tree table word p.1) (λ word. tree table word q.0 ++ tree table word q.1)

  -- at an index of a word's vector where the controls are 1, a quotient of the gate's terms or their sum doesn't fit
  pub record IsGateCause (gate : Gate) (table : List (Node L)) (lsta : Lsta) (l r : L) : Type 0 where
    pub word : List ℕ
    pub index : ℕ
    pub on : is_controlled (length lsta.shape.items) gate.controls index ≡ true
    pub first : L
    pub second : L
    pub left : slice_get (vector_of table lsta word) (with_digit (length lsta.shape.items) gate.target 0 index) ≡ Some first
    pub right : slice_get (vector_of table lsta word) (with_digit (length lsta.shape.items) gate.target 1 index) ≡ Some second
    pub unfit : IsWideMix (entry_at gate.matrix.rows (digit (length lsta.shape.items) gate.target index) 0)
        (entry_at gate.matrix.rows (digit (length lsta.shape.items) gate.target index) 1) first second l r
