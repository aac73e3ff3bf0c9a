-- What is read below a place.
use Rattle.std.proofs.Common.{◌≡◌, ℕ, ◌<◌, List, [], ◌∷◌, ◌++◌, length, slice_get, Some, refl, ap, subst, ◌∙◌, arith}
use Rattle.aq_ring.specs.Fractions.{Amplitude}
use Rattle.aq_store.specs.Nodes.{HasShape, IsLeaf, joined, labels_at, pairs_at, tree}
use Rattle.aq_store.specs.Words.{IsWord}
use Rattle.aq_store.proofs.MeansLemmas.{opened}
use Rattle.aq_set_build.specs.Tensors.{Table}
use Rattle.aq_decide.specs.Reading.{Reads}

none_left : (word : List ℕ) → length word ≡ 0 → word ≡ []
none_left [] e = refl
none_left (choice ∷ word) e = absurd (omega (arith, e))

pub leaf : (table : Table) (word : List ℕ) (id : ℕ) → length word ≡ 0 → Reads table word id → IsLeaf table id
unfolding HasShape
leaf table word id e r = by r.shape r.shaped (subst (IsWord r.shape) (none_left word e) r.is_word)
  where
    by : (shape : List ℕ) → HasShape table shape id → IsWord shape [] → IsLeaf table id
    by [] s w = s
    by (n ∷ shape) s w = absurd w

-- of a word with a first choice
pub below : (table : Table) (choice : ℕ) (rest : List ℕ) (id : ℕ) → Reads table (choice ∷ rest) id
    → (choice < length (pairs_at table id)) × ((q : ℕ × ℕ) → slice_get (pairs_at table id) choice ≡ Some q → Reads table rest q.0 × Reads table rest q.1)
below table choice rest id r = by r.shape r.shaped r.is_word
  where
    by : (shape : List ℕ) → HasShape table shape id → IsWord shape (choice ∷ rest)
        → (choice < length (pairs_at table id)) × ((q : ℕ × ℕ) → slice_get (pairs_at table id) choice ≡ Some q → Reads table rest q.0 × Reads table rest q.1)
    by [] s w = absurd w
    by (n ∷ shape) s w =
        let o = opened table n shape id s in
        (let many = o.1 in let less = w.0 in omega (arith, many, less), λ q e. (record { shape = shape; shaped = o.3.left choice q e; is_word = w.1 }, record { shape = shape; shaped = o.3.right choice q e; is_word = w.1 }))

pub leaf_entry : (table : Table) (word : List ℕ) (id : ℕ) (a : Amplitude) → length word ≡ 0 → labels_at table id ≡ a ∷ [] → tree table word id ≡ a ∷ []
unfolding tree
leaf_entry table word id a e h = ap (λ (w : List ℕ). tree table w id) (none_left word e) ∙ h

pub both_entries : (table : Table) (choice : ℕ) (rest : List ℕ) (id : ℕ) (q : ℕ × ℕ) → slice_get (pairs_at table id) choice ≡ Some q → tree table (choice ∷ rest) id ≡ tree table rest q.0 ++ tree table rest q.1
unfolding tree
both_entries table choice rest id q e = ap (joined (tree table rest)) e
