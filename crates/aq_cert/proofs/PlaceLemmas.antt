-- The nodes at the places of a level have its shape.
use Rattle.std.proofs.Common.{◌≡◌, ℕ, zero, suc, ◌<◌, List, [], ◌∷◌, length, drop, slice_get, Some, refl, ap, subst, arith}
use Rattle.std.specs.List.{slice_index}
use Rattle.std.proofs.lemmas.Option.{slice_get-get_or}
use Rattle.aq_store.specs.declared.node.Node.{Node}
use Rattle.aq_store.specs.declared.lsta.Lsta.{Lsta}
use Rattle.aq_store.specs.Nodes.{HasShape, FitsStore}
use Rattle.aq_store.specs.Levels.{next_level, levels_from, levels_of}
use Rattle.aq_store.proofs.LevelLemmas.{Each, level_next}
use Rattle.aq_cert.specs.Rows.{row_at}

module _ {L : Type 0} (table : List (Node L)) where
  one-root : (shape : List ℕ) (root : ℕ) → HasShape table shape root → Each (HasShape table shape) (root ∷ [])
  one-root shape root h = record { at = by }
    where
      by : (c i : ℕ) → slice_get (root ∷ []) c ≡ Some i → HasShape table shape i
      by zero i e = let s : root ≡ i = cc in subst (HasShape table shape) s h
      by (suc c) i e = cc

  level-shape : (shape level : List ℕ) → Each (HasShape table shape) level → (k p : ℕ) → p < length (row_at (levels_from table shape level) k)
      → HasShape table (drop k shape) (slice_index (row_at (levels_from table shape level) k) p)
  level-shape [] level f zero p less = f.at p (slice_index level p) (slice_get-get_or level p 0 less)
  level-shape [] level f (suc k) p less = absurd (omega arith)
  level-shape (n ∷ shape) level f zero p less = f.at p (slice_index level p) (slice_get-get_or level p 0 less)
  level-shape (n ∷ shape) level f (suc k) p less =
      level-shape shape (next_level table level) (level_next table (n ∷ shape) level (next_level table level) 0 (omega arith) f refl) k p less

  -- the node at a place of a level
  pub place-shape : (lsta : Lsta) → FitsStore table lsta → (k p : ℕ) → p < length (row_at (levels_of table lsta) k)
      → HasShape table (drop k lsta.shape.items) (slice_index (row_at (levels_of table lsta) k) p)
  place-shape lsta fits k p less = level-shape lsta.shape.items (lsta.root ∷ []) (one-root lsta.shape.items lsta.root fits) k p less

  pub first-level : (shape level : List ℕ) → row_at (levels_from table shape level) 0 ≡ level
  first-level [] level = refl
  first-level (n ∷ shape) level = refl

  -- place 0 of the first level is the root
  pub root-place : (lsta : Lsta) → slice_index (row_at (levels_of table lsta) 0) 0 ≡ lsta.root
  root-place lsta = ap (λ (l : List ℕ). slice_index l 0) (first-level lsta.shape.items (lsta.root ∷ []))
