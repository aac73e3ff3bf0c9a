-- Relations that relate no words under two choices, and places of which no word has a vector that isn't zero.
use Rattle.std.specs.Prelude.{◌⊎◌, ℕ, List, Contains}
use Rattle.aq_ring.specs.Fractions.{Amplitude}
use Rattle.aq_store.specs.declared.node.Node.{Node}
use Rattle.aq_store.specs.Kinds.{IsNull, IsNeverZero}
use Rattle.aq_store.specs.Nodes.{HasShape}
use Rattle.aq_store.specs.Words.{IsWord}
use Rattle.aq_cert.specs.declared.cert.Rel.{Rel}
use Rattle.aq_cert.specs.Macros.{IsRelated}
use Rattle.aq_include.specs.declared.places.Opened.{Opened}
use Rattle.aq_include.specs.Steps.{opened_children_of, pair_children_of}

module _ {L : Type 0} (parts : L → List Amplitude) (table : List (Node L)) where
  -- each place is always zero
  abbrev pub AreNull : List ℕ → Type 0
  AreNull places = (x : ℕ) → Contains places x → IsNull parts table x

  -- one of two nodes is always zero, and the other never
  abbrev pub AreApart : ℕ → ℕ → Type 0
  AreApart x y = (IsNull parts table x × IsNeverZero parts table y) ⊎ (IsNeverZero parts table x × IsNull parts table y)

  -- some opened pair has such children under a choice of the goal
  pub record HasApart (d : ℕ) (os : List Opened) : Type 0 where
    pub pair : ℕ × ℕ
    pub listed : Contains (opened_children_of table d os) pair
    pub apart : AreApart pair.0 pair.1

  -- the children of the relation's pairs under choice c of the left and d of the goal relate no words of their shapes
  pub record IsHopeless (c : ℕ) (rel : Rel) (d : ℕ) : Type 0 where
    pub none : (left later word other : List ℕ)
        → ((q : ℕ × ℕ) → Contains (pair_children_of table c d rel.pairs) q → HasShape table left q.0 × HasShape table later q.1)
        → IsWord left word → IsWord later other
        → ¬ (IsRelated parts table (pair_children_of table c d rel.pairs) word other)
