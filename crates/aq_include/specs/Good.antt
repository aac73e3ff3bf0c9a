-- A macro over nodes is good where it holds every word, as its edges or its end show.
use Rattle.std.specs.Prelude.{◌≡◌, ℕ, ◌+◌, List, [], ◌∷◌, length, slice_get, Some, Contains}
use Rattle.aq_ring.specs.Fractions.{Amplitude}
use Rattle.aq_store.specs.declared.node.Node.{Node}
use Rattle.aq_store.specs.declared.lsta.Lsta.{Lsta}
use Rattle.aq_cert.specs.declared.cert.Rel.{Rel}
use Rattle.aq_cert.specs.declared.cert.Macro.{Macro}
use Rattle.aq_cert.specs.declared.cert.Edge.{Edge}
use Rattle.aq_cert.specs.declared.cert.End.{End}
use Rattle.aq_cert.specs.Rows.{item_at}
use Rattle.aq_cert.specs.Goals.{goal_rest}
use Rattle.aq_cert.specs.Macros.{IsOfLevel, IsEdge, IsEnd}
use Rattle.aq_cert.specs.Held.{IsHeld}

-- the roots, all with one another
pub record IsRoot (left : Lsta) (goals : List Lsta) (m : Macro) : Type 0 where
  pub domain : Contains m.domain left.root
  pub pairs : (k : ℕ) (rel : Rel) → slice_get m.rels k ≡ Some rel
      → (goal : Lsta) × (slice_get goals rel.goal ≡ Some goal) × Contains rel.pairs (left.root, goal.root)

module _ {L : Type 0} (parts : L → List Amplitude) (table : List (Node L)) where
  -- an end of a macro, with which it holds the empty word
  pub record IsGoodEnd (rest : ℕ → List ℕ) (m : Macro) (e : End) : Type 0 where
    pub is_end : IsEnd parts table m e
    pub holds : IsHeld parts table rest m []

  -- a macro of level k is good where each choice has an edge to a good macro, and at the last level by its end
  unfoldable pub IsGood : List Lsta → List (List Macro) → List (List (List Edge)) → List End → List ℕ → ℕ → ℕ → Type 0
  IsGood goals macros edges ends [] k i =
      (m : Macro) × (item_at macros k i ≡ Some m) × IsOfLevel table [] (goal_rest goals k) m
      × ((e : End) × (slice_get ends i ≡ Some e) × IsGoodEnd (goal_rest goals k) m e)
  IsGood goals macros edges ends (n ∷ shape) k i =
      (m : Macro) × (item_at macros k i ≡ Some m) × IsOfLevel table (n ∷ shape) (goal_rest goals k) m
      × ((es : List Edge) × (item_at edges k i ≡ Some es) × (length es ≡ n)
      × ((c : ℕ) (e : Edge) → slice_get es c ≡ Some e
      → (to : Macro) × (item_at macros (k + 1) e.to ≡ Some to) × IsEdge table c (goal_rest goals k) m to e.from
      × IsGood goals macros edges ends shape (k + 1) e.to))
