-- Automata of lists of vectors, and of their products.
use Rattle.std.proofs.Common.{◌≡◌, ℕ, inl, inr, zero, suc, ◌+◌, ◌*◌, ◌/◌, ◌%◌, ◌<◌, ◌≤◌, ◌⊎◌, List, [], ◌∷◌, ◌++◌, length, take, drop, map, slice_get, None, Some, All, refl, sym, ap, ap₂, subst, ◌∙◌, arith}
use Rattle.std.specs.List.{flat_map, Contains}
use Rattle.std.proofs.Math.Nat.{mul-le-mul_right}
use Rattle.std.proofs.Math.Seq.{take-append_seam, drop-append_seam}
use Rattle.std.proofs.lemmas.Bool.{cases_lt}
use Rattle.std.proofs.lemmas.List.{length-map, length-append}
use Rattle.std.proofs.lemmas.List.Elements.{All-nil, All-append}
use Rattle.std.proofs.lemmas.Option.{slice_get_within, get_or_from_slice_get}
use Rattle.aq_ring.specs.Fractions.{Amplitude}
use Rattle.aq_store.specs.declared.lsta.Lsta.{Lsta}
use Rattle.aq_store.specs.Nodes.{HasShape, Extends, tree, vector_of, pairs_at}
use Rattle.aq_store.specs.Words.{IsWord}
use Rattle.aq_store.proofs.TableLemmas.{HasShape-Extends, slice_get-some}
use Rattle.aq_store.proofs.ShapeLemmas.{tree-Extends-shape, same_length}
use Rattle.aq_store.proofs.RunLemmas.{slice_get-append_left, slice_get-append_right}
use Rattle.aq_store.proofs.MeansLemmas.{opened, tree-choice, tree-short, tree-beyond}
use Rattle.aq_sets.specs.Vectors.{Vector, tensor, tensors, pairs, all_pairs}
use Rattle.aq_sets.specs.Sizes.{Placing}
use Rattle.aq_sets.proofs.PlaceLaws.{length-word, word_front, word_back}
use Rattle.aq_sets.proofs.SizeLaws.{length-tensors}
use Rattle.aq_set_build.specs.Products.{AllFit, IsWideAmong}
use Rattle.aq_set_build.specs.Tensors.{Table, IsTensor, IsTensorCause}
use Rattle.aq_set_build.specs.Listing.{Lists}
use Rattle.aq_set_build.proofs.ProductLemmas.{contains_flat, Fits}
use Rattle.aq_set_build.proofs.ScaleLemmas.{leaf_more}

-- ---- positions in lists
slice_get-of_map : {X Y : Type 0} (f : X → Y) (xs : List X) (k : ℕ) (x : X) → slice_get xs k ≡ Some x → slice_get (map f xs) k ≡ Some (f x)
slice_get-of_map f [] k x e = absurd (no e)
  where
    no : {X : Type 0} {x : X} → None ≡ Some x → ⊥
    no e = cc
slice_get-of_map f (y ∷ ys) zero x e = ap (λ o. Some (f o)) (let s : y ≡ x = cc in s)
slice_get-of_map f (y ∷ ys) (suc k) x e = slice_get-of_map f ys k x e

pub contains_at : {X : Type 0} (xs : List X) (k : ℕ) (x : X) → slice_get xs k ≡ Some x → Contains xs x
contains_at xs k x e = (k, slice_get_within xs k x e, get_or_from_slice_get xs k x x e)

pub tensors_at : (us vs : List Vector) (a b : ℕ) (u v : Vector) → slice_get us a ≡ Some u → slice_get vs b ≡ Some v → slice_get (tensors us vs) (a * length vs + b) ≡ Some (tensor u v)
tensors_at [] vs a b u v e f = absurd (no e)
  where
    no : {X : Type 0} {x : X} → None ≡ Some x → ⊥
    no e = cc
tensors_at (x ∷ us) vs zero b u v e f =
    let same : x ≡ u = cc in
    let lt = slice_get_within vs b v f in
    let at : 0 * length vs + b ≡ b = omega arith in
    ap (slice_get (map (tensor x) vs ++ tensors us vs)) at
    ∙ slice_get-append_left (map (tensor x) vs) (tensors us vs) b (let n = length-map vs (tensor x) in omega arith)
    ∙ slice_get-of_map (tensor x) vs b v f ∙ ap (λ y. Some (tensor y v)) same
tensors_at (x ∷ us) vs (suc a) b u v e f =
    let n = length-map vs (tensor x) in
    slice_get-append_right (map (tensor x) vs) (tensors us vs) (suc a * length vs + b) (a * length vs + b) (omega arith) ∙ tensors_at us vs a b u v e f

pub all_flat : {X Y : Type 0} (P : Y → Type 0) (f : X → List Y) (xs : List X) → ((k : ℕ) (x : X) → slice_get xs k ≡ Some x → All P (f x)) → All P (flat_map f xs)
all_flat P f [] h = All-nil P
all_flat P f (x ∷ xs) h = All-append P (f x) (flat_map f xs) (h 0 x refl) (all_flat P f xs (λ k y e. h (suc k) y e))

-- ---- words
pub word_both : (s t v w : List ℕ) → IsWord s v → IsWord t w → IsWord (s ++ t) (v ++ w)
word_both [] t [] w h g = g
word_both [] t (c ∷ v) w h g = absurd h
word_both (n ∷ s) t [] w h g = absurd h
word_both (n ∷ s) t (c ∷ v) w h g = (h.0, word_both s t v w h.1 g)

-- each vector of a list has a word that leads to it
abbrev pub Covers : List Vector → Placing → List ℕ → Type 0
Covers vs leads levels = (k : ℕ) → k < length vs → (word : List ℕ) × IsWord levels word × (leads word ≡ k)

-- where two words lead that stand one behind the other
abbrev pub both_lead : List ℕ → ℕ → Placing → Placing → Placing
both_lead s n f g word = f (take (length s) word) * n + g (drop (length s) word)

module _ (us vs : List Vector) (f g : Placing) (s t : List ℕ) where
  parts_of_word : (v w : List ℕ) → IsWord s v → (take (length s) (v ++ w) ≡ v) × (drop (length s) (v ++ w) ≡ w)
  parts_of_word v w h =
      let n = length-word s v h in (
        ap (λ k. take k (v ++ w)) (sym n) ∙ take-append_seam v w,
        ap (λ k. drop k (v ++ w)) (sym n) ∙ drop-append_seam v w,
      )

  pub covers_tensor : Covers us f s → Covers vs g t → Covers (tensors us vs) (both_lead s (length vs) f g) (s ++ t)
  covers_tensor h c k lt = by (length vs) refl
    where
      by : (n : ℕ) → length vs ≡ n → (word : List ℕ) × IsWord (s ++ t) word × (both_lead s (length vs) f g word ≡ k)
      by zero e = absurd (let n = length-tensors us vs in let z : length us * length vs ≡ 0 = ap (λ m. length us * m) e ∙ (let y : length us * 0 ≡ 0 = omega arith in y) in omega arith)
      by (suc n) e =
          let m = length-tensors us vs in
          let all : length us * length vs ≡ length us * suc n = ap (λ m. length us * m) e in
          let b : k % suc n < suc n = omega arith in
          let back : k / suc n * suc n + k % suc n ≡ k = omega arith in
          let a : k / suc n < length us = elim (cases_lt (k / suc n) (length us)) [ inl y ↦ y | inr y ↦ absurd (let z = mul-le-mul_right (suc n) y in omega arith) ] in
          let v = h (k / suc n) a in
          let w = c (k % suc n) (omega arith) in
          let p = parts_of_word v.0 w.0 v.1 in (
            v.0 ++ w.0,
            word_both s t v.0 w.0 v.1 w.1,
            ap₂ (λ x y. f x * length vs + g y) p.0 p.1 ∙ ap₂ (λ x y. x * length vs + y) v.2 w.2 ∙ ap (λ z. k / suc n * z + k % suc n) e ∙ back,
          )

  pub lists_tensor : (old new : Table) (l r made : Lsta) → Lists us f s old l → Lists vs g t old r → IsTensor old new l r made → Lists (tensors us vs) (both_lead s (length vs) f g) (s ++ t) new made
  lists_tensor old new l r made p q h = record {
    shape = h.shape ∙ ap₂ (λ x y. x ++ y) p.shape q.shape;
    fits_store = h.fits_store;
    words = λ word w.
        let n = ap length p.shape in
        let last : vector_of new made word ≡ tensor (vector_of old l (take (length s) word)) (vector_of old r (drop (length s) word)) =
        (h.words word).is ∙ ap₂ (λ x y. tensor (vector_of old l (take x word)) (vector_of old r (drop y word))) n n in
        tensors_at us vs (f (take (length s) word)) (g (drop (length s) word)) _ _ (p.words (take (length s) word) (word_front s t word w)) (q.words (drop (length s) word) (word_back s t word w))
        ∙ ap Some (sym last);
  }

  pub fits_tensor : (old new : Table) (l r made : Lsta) → Covers us f s → Covers vs g t → Lists us f s old l → Lists vs g t old r → IsTensor old new l r made → AllFit (all_pairs us vs)
  fits_tensor old new l r made c d p q h =
      all_flat Fits (λ u. flat_map (pairs u) vs) us (λ a u e. all_flat Fits (pairs u) vs (λ b v i.
      let x = c a (slice_get_within us a u e) in
      let y = d b (slice_get_within vs b v i) in
      let first : vector_of old l x.0 ≡ u = some_one (sym (p.words x.0 x.1) ∙ ap (slice_get us) x.2 ∙ e) in
      let second : vector_of old r y.0 ≡ v = some_one (sym (q.words y.0 y.1) ∙ ap (slice_get vs) y.2 ∙ i) in
      let k = parts_of_word x.0 y.0 x.1 in
      let n = ap length p.shape in
      let here : AllFit (pairs (vector_of old l (take (length l.shape.items) (x.0 ++ y.0))) (vector_of old r (drop (length l.shape.items) (x.0 ++ y.0)))) = (h.words (x.0 ++ y.0)).fits in
      subst AllFit
      (ap₂ (λ m o. pairs (vector_of old l (take m (x.0 ++ y.0))) (vector_of old r (drop o (x.0 ++ y.0)))) n n
      ∙ ap₂ (λ m o. pairs (vector_of old l m) (vector_of old r o)) k.0 k.1 ∙ ap₂ pairs first second) here))
    where
      some_one : {x y : Vector} → Some x ≡ Some y → x ≡ y
      some_one e = cc

-- ---- a word that gives something is one of the shape
half_some : (a b c : ℕ) → 0 < c → c ≡ a + b → b ≡ a → 0 < a
half_some a b c h e f = omega arith

pub tree_word : (table : Table) (shape : List ℕ) (id : ℕ) → HasShape table shape id → (word : List ℕ) → 0 < length (tree table word id) → IsWord shape word
unfolding HasShape
tree_word table [] id s [] h = tt
tree_word table [] id s (c ∷ word) h = absurd (let e = ap length (leaf_more table id c word s.label s.here) in omega arith)
tree_word table (n ∷ shape) id s [] h = absurd (let e = ap length (tree-short table n shape id s) in omega arith)
tree_word table (n ∷ shape) id s (c ∷ word) h = by (λ i t k. tree_word table shape i t word k) (cases_lt c n)
  where
    by : ((i : ℕ) → HasShape table shape i → 0 < length (tree table word i) → IsWord shape word) → (c < n) ⊎ (n ≤ c) → IsWord (n ∷ shape) (c ∷ word)
    by below (inl lt) =
        let o = opened table n shape id s in
        let at = slice_get-some (pairs_at table id) c (let e = o.1 in omega arith) in
        let left = o.3.left c at.0 at.1 in
        let right = o.3.right c at.0 at.1 in
        let e = ap length (tree-choice table id c word at.0 at.1) ∙ length-append (tree table word at.0.0) (tree table word at.0.1) in
        let some = half_some (length (tree table word at.0.0)) (length (tree table word at.0.1)) (length (tree table (c ∷ word) id)) h e
        (same_length table shape at.0.1 at.0.0 right left word) in
        (lt, below at.0.0 left some)
    by below (inr le) = absurd (let e = ap length (tree-beyond table n shape id c word s le) in omega arith)

no_pairs : (u : Vector) → pairs u [] ≡ []
no_pairs [] = refl
no_pairs (a ∷ u) = no_pairs u

pub some_first : (u w : Vector) (p : Amplitude × Amplitude) → Contains (pairs u w) p → 0 < length u
some_first [] w p h = absurd (omega (arith, h.1))
some_first (a ∷ u) w p h = omega arith

pub some_second : (u w : Vector) (p : Amplitude × Amplitude) → Contains (pairs u w) p → 0 < length w
some_second u [] p h = absurd (let e = ap length (no_pairs u) in omega (arith, h.1))
some_second u (b ∷ w) p h = omega arith

pub cause_tensor : (us vs : List Vector) (f g : Placing) (s t : List ℕ) (table : Table) (l r : Lsta) → Lists us f s table l → Lists vs g t table r → (x y : Amplitude) → IsTensorCause table l r x y
    → IsWideAmong (all_pairs us vs) x y
cause_tensor us vs f g s t table l r p q x y h =
    let m = h.among.member in
    let v = subst (λ z. IsWord z h.first) p.shape (tree_word table l.shape.items l.root p.fits_store h.first (some_first _ _ (x, y) m)) in
    let w = subst (λ z. IsWord z h.second) q.shape (tree_word table r.shape.items r.root q.fits_store h.second (some_second (vector_of table l h.first) (vector_of table r h.second) (x, y) m)) in
    let a = contains_at us (f h.first) (vector_of table l h.first) (p.words h.first v) in
    let b = contains_at vs (g h.second) (vector_of table r h.second) (q.words h.second w) in
    record {
      member = contains_flat (λ u. flat_map (pairs u) vs) us (vector_of table l h.first) (x, y) a (contains_flat (pairs (vector_of table l h.first)) vs (vector_of table r h.second) (x, y) b m);
      wide = h.among.wide;
    }

-- ---- as the store grows
pub lists-Extends : (vs : List Vector) (f : Placing) (s : List ℕ) (old new : Table) → Extends old new → (made : Lsta) → Lists vs f s old made → Lists vs f s new made
lists-Extends vs f s old new x made p = record {
  shape = p.shape;
  fits_store = HasShape-Extends old new x made.shape.items made.root p.fits_store;
  words = λ word w. p.words word w ∙ ap Some (sym (tree-Extends-shape old new x made.shape.items made.root p.fits_store word));
}

-- a copy
pub lists_copy : (vs : List Vector) (f : Placing) (s : List ℕ) (table : Table) (made copy : Lsta) → copy.root ≡ made.root → copy.shape.items ≡ made.shape.items → Lists vs f s table made
    → Lists vs f s table copy
lists_copy vs f s table made copy e i p = record {
  shape = i ∙ p.shape;
  fits_store = subst (λ u. HasShape table u copy.root) (sym i) (subst (λ k. HasShape table made.shape.items k) (sym e) p.fits_store);
  words = λ word w. p.words word w ∙ ap (λ k. Some (tree table word k)) (sym e);
}
