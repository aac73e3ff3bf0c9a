-- Which worlds of the definitions kept ones are, after a step.
use Rattle.std.proofs.Common.{◌≡◌, ℕ, ◌<◌, Bool, true, false, not, ◌&&◌, List, [], ◌∷◌, map, All, length, refl, sym, ap, ap₂, subst, ◌∙◌}
use Rattle.std.specs.List.{list_all}
use Rattle.std.proofs.lemmas.List.Elements.{All-head, All-tail}
use Rattle.aq_ring.specs.Fractions.{Amplitude}
use Rattle.aq_ring.specs.Amplitudes.{amplitude_zero}
use Rattle.aq_ring.specs.Vectors.{IsZeroVector, is_zero_vector}
use Rattle.aq_ring.proofs.VectorLaws.{is_zero_of_zero}
use Rattle.aq_store.specs.Nodes.{Extends, FitsStore, HasShape, tree}
use Rattle.aq_store.specs.Parts.{part_vector}
use Rattle.aq_store.specs.declared.lsta.Lsta.{Lsta}
use Rattle.aq_store.specs.declared.node.Node.{Node}
use Rattle.aq_store.proofs.ShapeLemmas.{tree-Extends-shape}
use Rattle.aq_store.proofs.TableLemmas.{HasShape-Extends}
use Rattle.aq_obligations.specs.Worlds.{Partial}
use Rattle.aq_correct.specs.WorldLaws.{is_alive}
use Rattle.aq_symbolic.proofs.NonzeroLemmas.{zero_part, zero_test}
use Rattle.aq_symbolic.specs.Steps.{HasFields, IsMapped, IsSameSet}
use Rattle.aq_symbolic.specs.Worlds.{IsNothing, IsSized, IsView, Pick, View, vector_at, world_of}
use Rattle.aq_symbolic.specs.declared.kept.World.{World}

module _ {L : Type 0} (parts : L → List Amplitude) where
  zero_picks : (table : List (Node L)) (lsta : Lsta) (picks : List Pick) → ((p : Pick) → IsZeroVector (vector_at parts table lsta p)) → list_all is_zero_vector (map (vector_at parts table lsta) picks) ≡ true
  zero_picks table lsta [] z = refl
  zero_picks table lsta (p ∷ picks) z = ap₂ (λ (a b : Bool). a && b) (zero_test (vector_at parts table lsta p) (z p)) (zero_picks table lsta picks z)

  -- a world whose every vector is zero is none, however it is looked at
  pub nothing_dead : (v : View) (table : List (Node L)) (w : World) → IsNothing parts table w → is_alive (world_of parts v table w) ≡ false
  nothing_dead v table w z = ap not (zero_picks table w.lsta (v.picks w.case) (λ p. zero_part parts (tree table p.word w.lsta.root) (z.zero p.word) p.part))

  -- the table has grown
  same_picks : (old new : List (Node L)) (lsta : Lsta) → Extends old new → FitsStore old lsta → (picks : List Pick) → map (vector_at parts new lsta) picks ≡ map (vector_at parts old lsta) picks
  same_picks old new lsta x s [] = refl
  same_picks old new lsta x s (p ∷ picks) =
      ap₂ (λ (a : List Amplitude) (b : List (List Amplitude)). a ∷ b) (ap (part_vector parts p.part) (tree-Extends-shape old new x lsta.shape.items lsta.root s p.word)) (same_picks old new lsta x s picks)

  pub world_kept : (v : View) (old new : List (Node L)) (w : World) → Extends old new → FitsStore old w.lsta → world_of parts v new w ≡ world_of parts v old w
  world_kept v old new w x s =
      let e = same_picks old new w.lsta x s (v.picks w.case) in
      (λ i. record { case = v.case w.case; start = w.start; bits = w.bits; outcomes = w.outcomes; vectors = e i })

  -- the automaton is the same
  pub world_same : (v : View) (table : List (Node L)) (w u : World) (start bits : Partial) (outcomes : List Bool) → HasFields w start bits outcomes u → IsSameSet w.lsta u.lsta
      → world_of parts v table u ≡ record { case = v.case w.case; start = start; bits = bits; outcomes = outcomes; vectors = map (vector_at parts table w.lsta) (v.picks w.case) }
  world_same v table w u start bits outcomes f s = λ i. record {
    case = v.case (f.case i);
    start = f.start i;
    bits = f.bits i;
    outcomes = f.outcomes i;
    vectors = map (λ (p : Pick). part_vector parts p.part (tree table p.word (s.root i))) (v.picks (f.case i));
  }

module _ {L : Type 0} (parts : L → List Amplitude) (count : ℕ) where
  mapped_picks : (F : List Amplitude → List Amplitude) (old new : List (Node L)) (lsta made : Lsta) → IsMapped parts count F old new lsta made → (picks : List Pick) → All (λ p. p.part < count) picks
      → map (vector_at parts new made) picks ≡ map F (map (vector_at parts old lsta) picks)
  mapped_picks F old new lsta made m [] a = refl
  mapped_picks F old new lsta made m (p ∷ picks) a =
      ap₂ (λ (x : List Amplitude) (y : List (List Amplitude)). x ∷ y) (m.words p.word p.part (All-head (λ (q : Pick). q.part < count) p picks a))
      (mapped_picks F old new lsta made m picks (All-tail (λ (q : Pick). q.part < count) p picks a))

  -- the automaton is what F makes of it
  pub world_mapped : (F : List Amplitude → List Amplitude) (old new : List (Node L)) (v : View) (w u : World) (start bits : Partial) (outcomes : List Bool) → IsView count v
      → HasFields w start bits outcomes u → IsMapped parts count F old new w.lsta u.lsta
      → world_of parts v new u ≡ record { case = v.case w.case; start = start; bits = bits; outcomes = outcomes; vectors = map F (map (vector_at parts old w.lsta) (v.picks w.case)) }
  world_mapped F old new v w u start bits outcomes proper f m =
      let e : map (vector_at parts new u.lsta) (v.picks u.case) ≡ map F (map (vector_at parts old w.lsta) (v.picks w.case))
      = ap (λ c. map (vector_at parts new u.lsta) (v.picks c)) f.case ∙ mapped_picks F old new w.lsta u.lsta m (v.picks w.case) (proper w.case) in
      (λ i. record { case = v.case (f.case i); start = f.start i; bits = f.bits i; outcomes = f.outcomes i; vectors = e i })

-- ---- sizes

module _ {L : Type 0} where
  pub sized_kept : (n m : ℕ) (old new : List (Node L)) (w : World) → Extends old new → IsSized n m old w → IsSized n m new w
  sized_kept n m old new w x s = record { start = s.start; bits = s.bits; levels = s.levels; fits = HasShape-Extends old new x w.lsta.shape.items w.lsta.root s.fits }

  pub sized_same : (n m : ℕ) (table : List (Node L)) (w u : World) (start bits : Partial) (outcomes : List Bool) → HasFields w start bits outcomes u → IsSameSet w.lsta u.lsta
      → length start ≡ length w.start → length bits ≡ length w.bits → IsSized n m table w → IsSized n m table u
  sized_same n m table w u start bits outcomes f t a b s = record {
    start = ap length f.start ∙ a ∙ s.start;
    bits = ap length f.bits ∙ b ∙ s.bits;
    levels = ap length t.shape ∙ s.levels;
    fits = subst (λ (i : ℕ). HasShape table u.lsta.shape.items i) (sym t.root) (subst (λ (l : List ℕ). HasShape table l w.lsta.root) (sym t.shape) s.fits);
  }

  pub sized_mapped : (parts : L → List Amplitude) (count : ℕ) (F : List Amplitude → List Amplitude) (n m : ℕ) (old new : List (Node L)) (w u : World) (start bits : Partial) (outcomes : List Bool)
      → HasFields w start bits outcomes u → IsMapped parts count F old new w.lsta u.lsta → length start ≡ length w.start → length bits ≡ length w.bits → IsSized n m old w → IsSized n m new u
  sized_mapped parts count F n m old new w u start bits outcomes f t a b s = record {
    start = ap length f.start ∙ a ∙ s.start;
    bits = ap length f.bits ∙ b ∙ s.bits;
    levels = ap length t.shape ∙ s.levels;
    fits = t.fits;
  }
