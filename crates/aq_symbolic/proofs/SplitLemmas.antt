-- Worlds in which a bit is decided: which worlds of the definitions they are.
use Rattle.std.proofs.Common.{◌≡◌, ℕ, suc, ◌≤◌, inl, inr, Bool, true, false, cond, List, [], ◌∷◌, map, All, set, slice_get, Option, None, Some, refl, sym, ap, ap₂, subst, ◌∙◌, arith}
use Rattle.std.proofs.lemmas.List.{length-set}
use Rattle.std.proofs.lemmas.List.Elements.{All-nil, All-cons}
use Rattle.aq_ring.specs.Fractions.{Amplitude}
use Rattle.aq_prog.specs.declared.stmt.Guard.{Guard}
use Rattle.aq_store.specs.declared.node.Node.{Node}
use Rattle.aq_obligations.specs.Worlds.{assumed_worlds, decided, either, is_known, split}
use Rattle.aq_obligations.specs.Worlds as meant
use Rattle.aq_symbolic.specs.Splitting.{IsAssumed, IsDecided, IsSplit}
use Rattle.aq_symbolic.specs.Steps.{HasFields, IsSameSet, is_unknown}
use Rattle.aq_symbolic.specs.Weights.{open_bits, open_from, weight, weights}
use Rattle.aq_symbolic.specs.Worlds.{AreSized, ComesFrom, IsSized, View, world_of}
use Rattle.aq_symbolic.specs.declared.kept.World.{World}
use Rattle.aq_symbolic.proofs.WeightLemmas.{open-set, open-set-le, weight_half, weight_le, weights_none, weights_one, weights_two}
use Rattle.aq_symbolic.proofs.WorldLemmas.{sized_same, world_same}

-- a copy is decided as the world is
pub decided_copy : (bit : ℕ) (b : Bool) (w k u : World) → HasFields w w.start w.bits w.outcomes k → IsSameSet w.lsta k.lsta → IsDecided bit b k u → IsDecided bit b w u
decided_copy bit b w k u f s d = record {
  fields = record {
    case = d.fields.case ∙ f.case;
    start = d.fields.start ∙ ap (λ l. set l bit (Some b)) f.start;
    bits = d.fields.bits ∙ ap (λ l. set l bit (Some b)) f.bits;
    outcomes = d.fields.outcomes ∙ f.outcomes;
  };
  set = record { root = d.set.root ∙ s.root; shape = d.set.shape ∙ s.shape };
}

pub either_open : (bit : ℕ) (x : Option (Option Bool)) (w : meant.World) → is_unknown x ≡ true → either bit x w ≡ decided bit false w ∷ decided bit true w ∷ []
either_open bit None w e = cc
either_open bit (Some None) w e = refl
either_open bit (Some (Some b)) w e = cc

pub either_closed : (bit : ℕ) (x : Option (Option Bool)) (w : meant.World) → is_unknown x ≡ false → either bit x w ≡ w ∷ []
either_closed bit None w e = refl
either_closed bit (Some None) w e = cc
either_closed bit (Some (Some b)) w e = refl

assumed_open : (g : Guard) (x : Option (Option Bool)) (w : meant.World) → is_unknown x ≡ true → assumed_worlds g x w ≡ decided g.bit g.value w ∷ []
assumed_open g None w e = cc
assumed_open g (Some None) w e = refl
assumed_open g (Some (Some b)) w e = cc

assumed_holds : (g : Guard) (x : Option (Option Bool)) (w : meant.World) → is_known g x ≡ true → assumed_worlds g x w ≡ w ∷ []
assumed_holds g None w e = cc
assumed_holds g (Some None) w e = cc
assumed_holds g (Some (Some b)) w e = ap (λ t. cond t (w ∷ []) []) e

assumed_fails : (g : Guard) (x : Option (Option Bool)) (w : meant.World) → is_unknown x ≡ false → is_known g x ≡ false → assumed_worlds g x w ≡ []
assumed_fails g None w u e = refl
assumed_fails g (Some None) w u e = cc
assumed_fails g (Some (Some b)) w u e = ap (λ t. cond t (w ∷ []) []) e

-- ---- what is seen of them
module _ {L : Type 0} (parts : L → List Amplitude) (v : View) (table : List (Node L)) where
  decided_seen : (bit : ℕ) (b : Bool) (w u : World) → IsDecided bit b w u → world_of parts v table u ≡ decided bit b (world_of parts v table w)
  decided_seen bit b w u d = world_same parts v table w u (set w.start bit (Some b)) (set w.bits bit (Some b)) w.outcomes d.fields d.set

  pub split_seen : (bit : ℕ) (w : World) (list : List World) → IsSplit bit w list → map (world_of parts v table) list ≡ split bit (world_of parts v table w)
  split_seen bit w list (inl h) =
      ap (map (world_of parts v table)) h.list_is ∙ ap₂ (λ (x y : meant.World). x ∷ y ∷ []) (decided_seen bit false w h.zero h.zero_is) (decided_seen bit true w h.other h.other_is)
      ∙ sym (either_open bit (slice_get w.bits bit) (world_of parts v table w) h.open_bit)
  split_seen bit w list (inr h) = ap (map (world_of parts v table)) h.list_is ∙ sym (either_closed bit (slice_get w.bits bit) (world_of parts v table w) h.closed_bit)

  pub assumed_seen : (g : Guard) (w : World) (list : List World) → IsAssumed g w list → map (world_of parts v table) list ≡ assumed_worlds g (slice_get w.bits g.bit) (world_of parts v table w)
  assumed_seen g w list (inl h) =
      ap (map (world_of parts v table)) h.list_is ∙ ap (λ (x : meant.World). x ∷ []) (decided_seen g.bit g.value w h.world h.world_is)
      ∙ sym (assumed_open g (slice_get w.bits g.bit) (world_of parts v table w) h.open_bit)
  assumed_seen g w list (inr h) = elim h.told [
    | inl t ↦ ap (map (world_of parts v table)) t.1 ∙ sym (assumed_holds g (slice_get w.bits g.bit) (world_of parts v table w) t.0)
    | inr t ↦ ap (map (world_of parts v table)) t.1 ∙ sym (assumed_fails g (slice_get w.bits g.bit) (world_of parts v table w) h.closed_bit t.0)
  ]

-- ---- their sizes
module _ {L : Type 0} (n m : ℕ) (table : List (Node L)) where
  pub decided_sized : (bit : ℕ) (b : Bool) (w u : World) → IsDecided bit b w u → IsSized n m table w → IsSized n m table u
  decided_sized bit b w u d s =
      sized_same n m table w u (set w.start bit (Some b)) (set w.bits bit (Some b)) w.outcomes d.fields d.set (length-set w.start bit (Some b)) (length-set w.bits bit (Some b)) s

  one_sized : (w : World) (list : List World) → list ≡ w ∷ [] → IsSized n m table w → AreSized n m table list
  one_sized w list e s = subst (λ (l : List World). AreSized n m table l) (sym e) (All-cons (IsSized n m table) w [] s (All-nil (IsSized n m table)))

  pub split_sized : (bit : ℕ) (w : World) (list : List World) → IsSplit bit w list → IsSized n m table w → AreSized n m table list
  split_sized bit w list (inl h) s =
      subst (λ (l : List World). AreSized n m table l) (sym h.list_is)
      (All-cons (IsSized n m table) h.zero (h.other ∷ []) (decided_sized bit false w h.zero h.zero_is s) (All-cons (IsSized n m table) h.other [] (decided_sized bit true w h.other h.other_is s) (All-nil (IsSized n m table))))
  split_sized bit w list (inr h) s = one_sized w list h.list_is s

  pub assumed_sized : (g : Guard) (w : World) (list : List World) → IsAssumed g w list → IsSized n m table w → AreSized n m table list
  assumed_sized g w list (inl h) s = one_sized h.world list h.list_is (decided_sized g.bit g.value w h.world h.world_is s)
  assumed_sized g w list (inr h) s = elim h.told [
    | inl t ↦ one_sized w list t.1 s
    | inr t ↦ subst (λ (l : List World). AreSized n m table l) (sym t.1) (All-nil (IsSized n m table))
  ]

-- ---- where they come from
pub from_self : (w u : World) → u.case ≡ w.case → u.lsta.shape.items ≡ w.lsta.shape.items → ComesFrom (w ∷ []) u
from_self w u c s = record { world = w; listed = (0, omega arith, refl); case = c; shape = s }

pub from_one : (w u : World) (list : List World) → list ≡ u ∷ [] → ComesFrom (w ∷ []) u → All (ComesFrom (w ∷ [])) list
from_one w u list e f = subst (λ (l : List World). All (ComesFrom (w ∷ [])) l) (sym e) (All-cons (ComesFrom (w ∷ [])) u [] f (All-nil (ComesFrom (w ∷ []))))

pub from_two : (w u t : World) (list : List World) → list ≡ u ∷ t ∷ [] → ComesFrom (w ∷ []) u → ComesFrom (w ∷ []) t → All (ComesFrom (w ∷ [])) list
from_two w u t list e f g =
    subst (λ (l : List World). All (ComesFrom (w ∷ [])) l) (sym e) (All-cons (ComesFrom (w ∷ [])) u (t ∷ []) f (All-cons (ComesFrom (w ∷ [])) t [] g (All-nil (ComesFrom (w ∷ [])))))

decided_from : (bit : ℕ) (b : Bool) (w u : World) → IsDecided bit b w u → ComesFrom (w ∷ []) u
decided_from bit b w u d = from_self w u d.fields.case d.set.shape

pub split_from : (bit : ℕ) (w : World) (list : List World) → IsSplit bit w list → All (ComesFrom (w ∷ [])) list
split_from bit w list (inl h) = from_two w h.zero h.other list h.list_is (decided_from bit false w h.zero h.zero_is) (decided_from bit true w h.other h.other_is)
split_from bit w list (inr h) = from_one w w list h.list_is (from_self w w refl refl)

pub assumed_from : (g : Guard) (w : World) (list : List World) → IsAssumed g w list → All (ComesFrom (w ∷ [])) list
assumed_from g w list (inl h) = from_one w h.world list h.list_is (decided_from g.bit g.value w h.world h.world_is)
assumed_from g w list (inr h) = elim h.told [
  | inl t ↦ from_one w w list t.1 (from_self w w refl refl)
  | inr t ↦ subst (λ (l : List World). All (ComesFrom (w ∷ [])) l) (sym t.1) (All-nil (ComesFrom (w ∷ [])))
]

-- ---- their weights
decided_open : (named : ℕ → Bool) (bit : ℕ) (b : Bool) (w u : World) → is_unknown (slice_get w.bits bit) ≡ true → named bit ≡ true → IsDecided bit b w u → open_bits named w ≡ suc (open_bits named u)
decided_open named bit b w u e h d =
    let less = open-set named 0 bit w.bits bit b (omega arith) e h in
    let same = ap (open_from named 0) d.fields.bits in
    omega (arith, less, same)

decided_lighter : (named : ℕ → Bool) (k bit : ℕ) (b : Bool) (w u : World) → IsDecided bit b w u → weight named k u ≤ weight named k w
decided_lighter named k bit b w u d =
    let less = open-set-le named 0 w.bits bit b in
    let same = ap (open_from named 0) d.fields.bits in
    weight_le named k k u w d.set.shape (omega (arith, less, same))

pub split_lighter : (named : ℕ → Bool) (k bit : ℕ) (w : World) (list : List World) → named bit ≡ true → IsSplit bit w list → weights named k list ≤ weights named k (w ∷ [])
split_lighter named k bit w list h (inl s) =
    let zero = weight_half named k s.zero w s.zero_is.set.shape (decided_open named bit false w s.zero s.open_bit h s.zero_is) in
    let other = weight_half named k s.other w s.other_is.set.shape (decided_open named bit true w s.other s.open_bit h s.other_is) in
    let both = ap (weights named k) s.list_is ∙ weights_two named k s.zero s.other in
    let one = weights_one named k w in
    omega (arith, zero, other, both, one)
split_lighter named k bit w list h (inr s) = let e = ap (weights named k) s.list_is in omega (arith, e)

pub assumed_lighter : (named : ℕ → Bool) (k : ℕ) (g : Guard) (w : World) (list : List World) → IsAssumed g w list → weights named k list ≤ weights named k (w ∷ [])
assumed_lighter named k g w list (inl h) =
    let less = decided_lighter named k g.bit g.value w h.world h.world_is in
    let a = ap (weights named k) h.list_is ∙ weights_one named k h.world in
    let b = weights_one named k w in
    omega (arith, less, a, b)
assumed_lighter named k g w list (inr h) = elim h.told [
  | inl t ↦ (let e = ap (weights named k) t.1 in omega (arith, e))
  | inr t ↦ (let e = ap (weights named k) t.1 in let z = weights_none named k in omega (arith, e, z))
]
