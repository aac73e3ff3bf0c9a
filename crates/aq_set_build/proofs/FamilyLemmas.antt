-- Nodes by what the words of their pairs give.
use Rattle.std.proofs.Common.{◌≡◌, ℕ, zero, suc, ◌<◌, List, [], ◌∷◌, ◌++◌, length, slice_get, Some, refl, sym, ap₂, subst, ◌∙◌, arith}
use Rattle.aq_ring.specs.Fractions.{Amplitude}
use Rattle.aq_store.specs.declared.node.Node.TheVariants.{Leaf, Inner}
use Rattle.aq_store.specs.declared.lsta.Lsta.{Lsta}
use Rattle.aq_store.specs.Nodes.{EachPair, HasHeight, HasShape, Extends}
use Rattle.aq_store.specs.Means.{under, MeansPair, MeanPairs}
use Rattle.aq_store.specs.Words.{IsWord}
use Rattle.aq_store.proofs.ShapeLemmas.{EachPair-none, EachPair-more, shape_height, same_element}
use Rattle.aq_store.proofs.MeansLemmas.{Means-Extends, Means-same, means_node}
use Rattle.aq_sets.specs.Vectors.{Vector}
use Rattle.aq_set_build.specs.Tensors.{Table}
use Rattle.aq_set_build.specs.Families.{Gives, IsFamily}
use Rattle.aq_set_build.proofs.ScaleLemmas.{leaf_means}

pub gives_leaf : (f : List ℕ → Vector) (table : Table) (id : ℕ) (a : Amplitude) → slice_get table id ≡ Some (Leaf a) → f [] ≡ a ∷ [] → Gives f table [] id
gives_leaf f table id a at is = leaf_means (λ word v. IsWord [] word → v ≡ f word) table id a at (λ h. sym is) (λ c word h. absurd h)

pub gives_same : (f g : List ℕ → Vector) (table : Table) (shape : List ℕ) (id : ℕ) → ((word : List ℕ) → IsWord shape word → f word ≡ g word) → Gives f table shape id → Gives g table shape id
gives_same f g table shape id same m =
    Means-same (λ word v. IsWord shape word → v ≡ f word) (λ word v. IsWord shape word → v ≡ g word) table shape id (λ word v h w. h w ∙ same word w) m

pub gives-Extends : (f : List ℕ → Vector) (old new : Table) → Extends old new → (shape : List ℕ) (id : ℕ) → Gives f old shape id → Gives f new shape id
gives-Extends f old new x shape id m = Means-Extends (λ word v. IsWord shape word → v ≡ f word) old new x shape id m

-- two places side by side
pub gives_pair : (f g h : List ℕ → Vector) (table : Table) (n c : ℕ) (shape : List ℕ) (l r : ℕ) → Gives f table shape l → Gives g table shape r
    → ((word : List ℕ) → IsWord shape word → h (c ∷ word) ≡ f word ++ g word)
    → MeansPair (under (λ word v. IsWord (n ∷ shape) word → v ≡ h word) c) table shape (l, r)
gives_pair f g h table n c shape l r p q is = record {
  left = p.shaped;
  right = q.shaped;
  words = λ word w. ap₂ (λ u v. u ++ v) (p.words word w.1) (q.words word w.1) ∙ sym (is word w.1);
}

gives_node : (h : List ℕ → Vector) (table : Table) (shape : List ℕ) (id : ℕ) (qs : List (ℕ × ℕ)) → slice_get table id ≡ Some (Inner qs) → 0 < length qs
    → MeanPairs (λ word v. IsWord (length qs ∷ shape) word → v ≡ h word) table shape qs → Gives h table (length qs ∷ shape) id
gives_node h table shape id qs made some pairs =
    means_node (λ word v. IsWord (length qs ∷ shape) word → v ≡ h word) table shape (length qs) id qs made refl some pairs
    (λ w. absurd w) (λ c word le w. absurd (let lt = w.0 in omega arith))

-- a node with one pair
pub gives_one : (h : List ℕ → Vector) (table : Table) (shape : List ℕ) (id l r : ℕ) → slice_get table id ≡ Some (Inner ((l, r) ∷ []))
    → MeansPair (under (λ word v. IsWord (1 ∷ shape) word → v ≡ h word) 0) table shape (l, r) → Gives h table (1 ∷ shape) id
gives_one h table shape id l r made pair =
    gives_node h table shape id ((l, r) ∷ []) made (omega arith) (record { each = by })
  where
    by : (c : ℕ) (q : ℕ × ℕ) → slice_get ((l, r) ∷ []) c ≡ Some q → MeansPair (under (λ word v. IsWord (1 ∷ shape) word → v ≡ h word) c) table shape q
    by zero q e = subst (MeansPair (under (λ word v. IsWord (1 ∷ shape) word → v ≡ h word) 0) table shape) (same_element ((l, r) ∷ []) 0 (l, r) q refl e) pair
    by (suc c) q e = cc

-- a node with two pairs
pub gives_two : (h : List ℕ → Vector) (table : Table) (shape : List ℕ) (id : ℕ) (p s : ℕ × ℕ) → slice_get table id ≡ Some (Inner (p ∷ s ∷ []))
    → MeansPair (under (λ word v. IsWord (2 ∷ shape) word → v ≡ h word) 0) table shape p → MeansPair (under (λ word v. IsWord (2 ∷ shape) word → v ≡ h word) 1) table shape s
    → Gives h table (2 ∷ shape) id
gives_two h table shape id p s made first second =
    gives_node h table shape id (p ∷ s ∷ []) made (omega arith) (record { each = by })
  where
    by : (c : ℕ) (q : ℕ × ℕ) → slice_get (p ∷ s ∷ []) c ≡ Some q → MeansPair (under (λ word v. IsWord (2 ∷ shape) word → v ≡ h word) c) table shape q
    by zero q e = subst (MeansPair (under (λ word v. IsWord (2 ∷ shape) word → v ≡ h word) 0) table shape) (same_element (p ∷ s ∷ []) 0 p q refl e) first
    by (suc zero) q e = subst (MeansPair (under (λ word v. IsWord (2 ∷ shape) word → v ≡ h word) 1) table shape) (same_element (p ∷ s ∷ []) 1 s q refl e) second
    by (suc (suc c)) q e = cc

-- places of one shape may stand in a node
pub one_height : (table : Table) (shape : List ℕ) (l r : ℕ) → HasShape table shape l → HasShape table shape r → (h : ℕ) × EachPair (HasHeight table h) ((l, r) ∷ [])
one_height table shape l r p q =
    (length shape, EachPair-more (HasHeight table (length shape)) l r [] (shape_height table shape l p) (shape_height table shape r q) (EachPair-none (HasHeight table (length shape))))

pub two_heights : (table : Table) (shape : List ℕ) (l r m s : ℕ) → HasShape table shape l → HasShape table shape r → HasShape table shape m → HasShape table shape s
    → (h : ℕ) × EachPair (HasHeight table h) ((l, r) ∷ (m, s) ∷ [])
two_heights table shape l r m s p q u v = (
  length shape,
  EachPair-more (HasHeight table (length shape)) l r ((m, s) ∷ []) (shape_height table shape l p) (shape_height table shape r q)
      (EachPair-more (HasHeight table (length shape)) m s [] (shape_height table shape m u) (shape_height table shape s v) (EachPair-none (HasHeight table (length shape)))),
)

-- the automaton of a place
pub is_family : (f : List ℕ → Vector) (table : Table) (shape levels : List ℕ) (made : Lsta) → made.shape.items ≡ levels → shape ≡ levels → Gives f table shape made.root → IsFamily f table levels made
is_family f table shape levels made is same m =
    let g = subst (λ u. Gives f table u made.root) same m in
    record { shape = is; fits_store = subst (λ u. HasShape table u made.root) (sym is) g.shaped; words = g.words }
