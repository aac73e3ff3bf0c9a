-- Unions of automata: the root has the choices of one part after the other's.
use Rattle.std.specs.Prelude.{◌≡◌, ℕ, ◌+◌, ◌<◌, List, [], ◌∷◌, map, take, length, sum_by, slice_get, Option, Some}
use Rattle.aq_store.specs.declared.node.Node.{Node}
use Rattle.aq_store.specs.declared.lsta.Lsta.{Lsta}
use Rattle.aq_store.specs.Nodes.{FitsStore, vector_of}
use Rattle.aq_store.specs.Words.{IsWord, shortened, first_number, lower, united_shape, united_shapes}
use Rattle.aq_measure_ops.specs.declared.joining.Joined.{Joined}

abbrev pub shape_of : Lsta → List ℕ
shape_of lsta = lsta.shape.items

-- how many choices the root of an automaton has
abbrev pub first_choices : Lsta → ℕ
first_choices lsta = first_number lsta.shape.items

-- how many choices come before those of the part at a position
abbrev pub choices_before : List Lsta → ℕ → ℕ
choices_before parts k = sum_by first_choices (take k parts)

module _ {L : Type 0} where
  -- From a choice of the root on are the choices of a part. Below, a choice past the part's number means the part's last one.
  pub record HasPart (old new : List (Node L)) (part : Lsta) (start : ℕ) (made : Lsta) : Type 0 where
    pub words : (choice c : ℕ) (word : List ℕ) → choice ≡ start + c → c < first_choices part → IsWord (lower made.shape.items) word
        → vector_of new made (choice ∷ word) ≡ vector_of old part (c ∷ shortened (lower part.shape.items) word)

  -- made is the union of two automata
  pub record IsUnited (old new : List (Node L)) (first second : Lsta) (made : Joined) : Type 0 where
    pub shape : made.lsta.shape.items ≡ united_shape first.shape.items second.shape.items
    pub fits : FitsStore new made.lsta
    pub left_choices : made.left_choices ≡ first_choices first
    pub right_choices : made.right_choices ≡ first_choices second
    pub left : HasPart old new first 0 made.lsta
    pub right : HasPart old new second (first_choices first) made.lsta

  -- made is the union of all parts
  pub record AreUnited (old new : List (Node L)) (parts : List Lsta) (made : Lsta) : Type 0 where
    pub shape : made.shape.items ≡ united_shapes (map shape_of parts)
    pub fits : FitsStore new made
    pub each : (k : ℕ) (part : Lsta) → slice_get parts k ≡ Some part → HasPart old new part (choices_before parts k) made

  -- each part fits the store
  pub record AllFit (table : List (Node L)) (parts : List Lsta) : Type 0 where
    pub each : (k : ℕ) (part : Lsta) → slice_get parts k ≡ Some part → FitsStore table part

-- each part has so many levels
pub record HaveLevels (count : ℕ) (parts : List Lsta) : Type 0 where
  pub each : (k : ℕ) (part : Lsta) → slice_get parts k ≡ Some part → length part.shape.items ≡ count
