-- Macros whose numbers are those of nodes in the table, and the edges between them.
use Rattle.std.specs.Prelude.{◌≡◌, ◌≢◌, ◌⊎◌, ℕ, ◌<◌, List, [], ◌∷◌, length, slice_get, Some, Contains, flat_map}
use Rattle.aq_ring.specs.Fractions.{Amplitude}
use Rattle.aq_ring.specs.Amplitudes.{amplitude_zero}
use Rattle.aq_ring.specs.Vectors.{IsZeroVector, scaled}
use Rattle.aq_label.specs.Ratios.{IsProportionalAndFits}
use Rattle.aq_store.specs.declared.node.Node.{Node}
use Rattle.aq_store.specs.Nodes.{HasShape, pairs_at}
use Rattle.aq_cert.specs.declared.cert.Rel.{Rel}
use Rattle.aq_cert.specs.declared.cert.Macro.{Macro}
use Rattle.aq_cert.specs.declared.cert.End.{End}
use Rattle.aq_cert.specs.declared.cert.End.TheVariants as «end»
use Rattle.aq_cert.specs.Meaning.{amplitudes}

module _ {L : Type 0} (table : List (Node L)) where
  -- the macro's nodes have these shapes: the left ones the left's, and those of a goal that goal's
  pub record IsOfLevel (left : List ℕ) (rest : ℕ → List ℕ) (m : Macro) : Type 0 where
    pub domain : (x : ℕ) → Contains m.domain x → HasShape table left x
    pub deep : (k : ℕ) (rel : Rel) → slice_get m.rels k ≡ Some rel → length (rest rel.goal) ≡ length left
    pub pairs : (k : ℕ) (rel : Rel) (p : ℕ × ℕ) → slice_get m.rels k ≡ Some rel → Contains rel.pairs p
        → HasShape table left p.0 × HasShape table (rest rel.goal) p.1

  -- Entry (r, d) for a relation: r is a relation of the same goal, d is a choice of that goal, and the relation contains, for
  -- each pair of r, the pair of left children and the pair of right children under the left's choice and d.
  pub record IsStepOf (c : ℕ) (rest : ℕ → List ℕ) (rels : List Rel) (s : ℕ × ℕ) (to : Rel) : Type 0 where
    pub source : Rel
    pub here : slice_get rels s.0 ≡ Some source
    pub same_goal : source.goal ≡ to.goal
    pub choices : ℕ
    pub later : List ℕ
    pub shape : rest source.goal ≡ choices ∷ later
    pub choice : s.1 < choices
    pub pairs : (p l r : ℕ × ℕ) → Contains source.pairs p → slice_get (pairs_at table p.0) c ≡ Some l → slice_get (pairs_at table p.1) s.1 ≡ Some r
        → Contains to.pairs (l.0, r.0) × Contains to.pairs (l.1, r.1)

  -- The edge under choice c: the macro that it leads to contains both children of each member of the domain, and there is one
  -- entry for each relation of that macro.
  pub record IsEdge (c : ℕ) (rest : ℕ → List ℕ) (m to : Macro) (from : List (ℕ × ℕ)) : Type 0 where
    pub domain : (x : ℕ) (p : ℕ × ℕ) → Contains m.domain x → slice_get (pairs_at table x) c ≡ Some p → Contains to.domain p.0 × Contains to.domain p.1
    pub one_each : length from ≡ length to.rels
    pub steps : (k : ℕ) (s : ℕ × ℕ) (rel : Rel) → slice_get from k ≡ Some s → slice_get to.rels k ≡ Some rel → IsStepOf c rest m.rels s rel

module _ {L : Type 0} (parts : L → List Amplitude) (table : List (Node L)) where
  -- each vector of the word at these nodes is zero
  abbrev pub IsZeroOn : List ℕ → List ℕ → Type 0
  IsZeroOn domain word = (x : ℕ) → Contains domain x → IsZeroVector (amplitudes parts table word x)

  -- one factor takes each left vector of the pairs to the right one
  pub record IsRelated (pairs : List (ℕ × ℕ)) (word other : List ℕ) : Type 0 where
    pub left : Amplitude
    pub right : Amplitude
    pub left_nonzero : left ≢ amplitude_zero
    pub right_nonzero : right ≢ amplitude_zero
    pub same : (p : ℕ × ℕ) → Contains pairs p → scaled left (amplitudes parts table word p.0) ≡ scaled right (amplitudes parts table other p.1)

  -- the labels of the pairs' left leaves, one after the other, and those of their right leaves
  abbrev pub left_labels : List (ℕ × ℕ) → List Amplitude
  left_labels pairs = flat_map (λ (p : ℕ × ℕ). amplitudes parts table [] p.0) pairs

  abbrev pub right_labels : List (ℕ × ℕ) → List Amplitude
  right_labels pairs = flat_map (λ (p : ℕ × ℕ). amplitudes parts table [] p.1) pairs

  -- what a comparison of the labels finds to be all zero, or the same up to a factor
  abbrev pub AreAlike : List (ℕ × ℕ) → Type 0
  AreAlike pairs = (IsZeroVector (left_labels pairs) × IsZeroVector (right_labels pairs)) ⊎ IsProportionalAndFits (left_labels pairs) (right_labels pairs)

  -- at the last level: all labels of the domain are zero, or those of a relation are alike
  abbrev pub IsEnd : Macro → End → Type 0
  IsEnd m «end».Zero = IsZeroOn m.domain []
  IsEnd m («end».Rel r) = (rel : Rel) × (slice_get m.rels r ≡ Some rel) × AreAlike rel.pairs
