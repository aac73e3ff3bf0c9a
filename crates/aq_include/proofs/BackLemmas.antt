-- What a macro holds, the macro under a choice holds.
use Rattle.std.proofs.Common.{◌≡◌, ℕ, suc, ◌+◌, ◌*◌, ◌<◌, ◌⊎◌, inl, inr, List, [], ◌∷◌, ◌++◌, length, slice_get, Some, Contains, refl, sym, ap, ap₂, subst, ◌∙◌, arith}
use Rattle.std.specs.List.{flat_map}
use Rattle.std.proofs.lemmas.List.{length-append, length-map}
use Rattle.aq_ring.specs.Fractions.{Amplitude}
use Rattle.aq_ring.specs.Amplitudes.{product}
use Rattle.aq_ring.specs.Vectors.{IsZeroVector, scaled}
use Rattle.aq_store.specs.declared.node.Node.{Node}
use Rattle.aq_store.specs.Nodes.{HasShape, tree}
use Rattle.aq_store.proofs.ShapeLemmas.{same_length, same_element}
use Rattle.aq_cert.specs.declared.cert.Rel.{Rel}
use Rattle.aq_cert.specs.declared.cert.Macro.{Macro}
use Rattle.aq_store.specs.Words.{IsWord}
use Rattle.aq_cert.specs.Meaning.{amplitudes}
use Rattle.aq_cert.specs.Macros.{IsOfLevel, IsZeroOn, IsRelated}
use Rattle.aq_cert.specs.Held.{IsHeldBy, IsHeld}
use Rattle.aq_cert.proofs.StepLemmas.{zero-left, zero-right, append-split, scaled-append, children, amplitudes-step}
use Rattle.aq_cert.proofs.HeldLemmas.{IsBelow}
use Rattle.aq_include.specs.Hopeless.{AreNull}
use Rattle.aq_include.specs.Steps.{IsChild, IsOnly, IsBack, Keeps, pair_children_of}
use Rattle.aq_include.proofs.ChildLemmas.{child-of}

half : (a b : ℕ) → a + a ≡ b + b → a ≡ b
half a b e = omega arith

module _ {L : Type 0} (parts : L → List Amplitude) (count : ℕ) (all_parts : (x : L) → length (parts x) ≡ count) where
  amplitudes-count : (xs : List L) → length (flat_map parts xs) ≡ length xs * count
  amplitudes-count [] = omega arith
  amplitudes-count (x ∷ xs) = length-append (parts x) (flat_map parts xs) ∙ ap₂ (λ m n. m + n) (all_parts x) (amplitudes-count xs) ∙ omega arith

  -- places of one shape have as many amplitudes for a word
  pub same-amplitudes : (table : List (Node L)) (shape : List ℕ) (i j : ℕ) → HasShape table shape i → HasShape table shape j → (word : List ℕ)
      → length (amplitudes parts table word i) ≡ length (amplitudes parts table word j)
  same-amplitudes table shape i j a b word =
      amplitudes-count (tree table word i) ∙ ap (λ n. n * count) (same_length table shape i j a b word) ∙ sym (amplitudes-count (tree table word j))

  module _ (table : List (Node L)) where
    zero-child : (c n : ℕ) (left : List ℕ) (xs : List ℕ) (word : List ℕ) (y : ℕ) → IsZeroOn parts table xs (c ∷ word) → (h : IsChild table c xs y) → IsZeroVector (amplitudes parts table word y)
    zero-child c n left xs word y zero h =
        let z : IsZeroVector (amplitudes parts table word h.pair.0 ++ amplitudes parts table word h.pair.1) =
        subst IsZeroVector (amplitudes-step parts table c h.parent h.pair word h.here) (zero h.parent h.listed) in
        elim h.is [
          | inl e ↦ subst (λ i. IsZeroVector (amplitudes parts table word i)) (sym e) (zero-left _ _ z)
          | inr e ↦ subst (λ i. IsZeroVector (amplitudes parts table word i)) (sym e) (zero-right _ _ z)
        ]

    -- a factor that takes a joined vector to another takes each part to the other's
    split-same : (s t : Amplitude) (u v a b : List Amplitude) → length u ≡ length v → length a ≡ length b → scaled s (u ++ v) ≡ scaled t (a ++ b)
        → (scaled s u ≡ scaled t a) × (scaled s v ≡ scaled t b)
    split-same s t u v a b m n e =
        let joined : scaled s u ++ scaled s v ≡ scaled t a ++ scaled t b = sym (scaled-append s u v) ∙ e ∙ scaled-append t a b in
        let whole : length u + length v ≡ length a + length b =
        ap₂ (λ i j. i + j) (sym (length-map u (product s))) (sym (length-map v (product s)))
        ∙ sym (length-append (scaled s u) (scaled s v)) ∙ ap length joined ∙ length-append (scaled t a) (scaled t b)
        ∙ ap₂ (λ i j. i + j) (length-map a (product t)) (length-map b (product t)) in
        let same : length u ≡ length a = half (length u) (length a) (ap (λ k. length u + k) m ∙ whole ∙ ap (λ k. length a + k) (sym n)) in
        append-split (scaled s u) (scaled s v) (scaled t a) (scaled t b) (length-map u (product s) ∙ same ∙ sym (length-map a (product t))) joined

    related-back : (c n d : ℕ) (left later : List ℕ) (rel to : Rel) (word other : List ℕ) → c < n
        → ((p : ℕ × ℕ) → Contains rel.pairs p → HasShape table (n ∷ left) p.0 × HasShape table (d ∷ later) p.1) → (e : ℕ) → e < d
        → IsOnly table c rel e to → IsRelated parts table rel.pairs (c ∷ word) (e ∷ other) → IsRelated parts table to.pairs word other
    related-back c n d left later rel to word other less shapes e less_d h r = record {
      left = r.left;
      right = r.right;
      left_nonzero = r.left_nonzero;
      right_nonzero = r.right_nonzero;
      same = λ q listed.
          let k = h.only q listed in
          let s = shapes k.parent k.listed in
          let a = children table n left c k.parent.0 s.0 less in
          let b = children table d later e k.parent.1 s.1 less_d in
          let x : a.0 ≡ k.left = same_element _ c a.0 k.left a.1.here k.left_here in
          let y : b.0 ≡ k.right = same_element _ e b.0 k.right b.1.here k.right_here in
          let both = split-same r.left r.right (amplitudes parts table word a.0.0) (amplitudes parts table word a.0.1)
          (amplitudes parts table other b.0.0) (amplitudes parts table other b.0.1)
          (same-amplitudes table left a.0.0 a.0.1 a.1.left a.1.right word)
          (same-amplitudes table later b.0.0 b.0.1 b.1.left b.1.right other)
          (sym (ap (scaled r.left) (amplitudes-step parts table c k.parent.0 a.0 word a.1.here)) ∙ r.same k.parent k.listed
          ∙ ap (scaled r.right) (amplitudes-step parts table e k.parent.1 b.0 other b.1.here)) in
          elim k.is [
            | inl is ↦
                let f : q ≡ (a.0.0, b.0.0) = is ∙ sym (ap₂ (λ (i j : ℕ × ℕ). (i.0, j.0)) x y) in
                subst (λ (z : ℕ × ℕ). scaled r.left (amplitudes parts table word z.0) ≡ scaled r.right (amplitudes parts table other z.1)) (sym f) both.0
            | inr is ↦
                let f : q ≡ (a.0.1, b.0.1) = is ∙ sym (ap₂ (λ (i j : ℕ × ℕ). (i.1, j.1)) x y) in
                subst (λ (z : ℕ × ℕ). scaled r.left (amplitudes parts table word z.0) ≡ scaled r.right (amplitudes parts table other z.1)) (sym f) both.1
          ];
    }

    one-more : (xs : List ℕ) (k : ℕ) → length xs ≡ suc k → (n : ℕ) × (later : List ℕ) × (xs ≡ n ∷ later)
    one-more [] k e = absurd (omega arith)
    one-more (x ∷ xs) k e = (x, xs, refl)

    -- the children of a relation's pairs relate what is left of the words
    children-related : (c n k : ℕ) (left later : List ℕ) (rel : Rel) (word other : List ℕ) → c < n
        → ((p : ℕ × ℕ) → Contains rel.pairs p → HasShape table (n ∷ left) p.0 × HasShape table (k ∷ later) p.1) → (e : ℕ) → e < k
        → IsRelated parts table rel.pairs (c ∷ word) (e ∷ other) → IsRelated parts table (pair_children_of table c e rel.pairs) word other
    children-related c n k left later rel word other less shapes e less_k related =
        let to : Rel = record { goal = rel.goal; pairs = pair_children_of table c e rel.pairs } in
        related-back c n k left later rel to word other less shapes e less_k
        (record { same_goal = refl; only = λ q listed. child-of table c e rel.pairs q listed }) related

    by-rel : (c n : ℕ) (left : List ℕ) (rest below : ℕ → List ℕ) (m to : Macro) → c < n → IsOfLevel table (n ∷ left) rest m → Keeps parts table c left rest below m to → (word : List ℕ) → IsWord left word
        → (number : ℕ) (rel : Rel) → slice_get m.rels number ≡ Some rel → (k : ℕ) (later : List ℕ) → rest rel.goal ≡ k ∷ later → (other : List ℕ) → IsWord (k ∷ later) other
        → IsRelated parts table rel.pairs (c ∷ word) other → IsHeldBy parts table below to word
    by-rel c n left rest below m to less level keeps word of_left number rel here k later s [] is_word related = absurd is_word
    by-rel c n left rest below m to less level keeps word of_left number rel here k later s (e ∷ other) is_word related =
        keeps.related number rel e k later word other here s is_word.0 of_left is_word.1
        (children-related c n k left later rel word other less
        (λ p listed. let z = level.pairs number rel p here listed in (z.0, subst (λ sh. HasShape table sh p.1) s z.1)) e is_word.0 related)

    pub held-back : (c n : ℕ) (left : List ℕ) (rest below : ℕ → List ℕ) (m to : Macro) → c < n → IsBelow rest below
        → IsOfLevel table (n ∷ left) rest m → IsBack table c m to → AreNull parts table to.domain ⊎ Keeps parts table c left rest below m to → (word : List ℕ) → IsWord left word
        → IsHeld parts table rest m (c ∷ word) → IsHeld parts table below to word
    held-back c n left rest below m to less under level back (inl null) word of_left held = inl (λ y listed. (null y listed).zero word)
    held-back c n left rest below m to less under level back (inr keeps) word of_left (inl zero) =
        inl (λ y listed. zero-child c n left m.domain word y zero (back.domain y listed))
    held-back c n left rest below m to less under level back (inr keeps) word of_left (inr h) =
        let s = one-more (rest h.rel.goal) (length left) (level.deep h.number h.rel h.here ∙ omega arith) in
        inr (by-rel c n left rest below m to less level keeps word of_left h.number h.rel h.here s.0 s.1 s.2 h.other (subst (λ sh. IsWord sh h.other) s.2 h.is_word) h.related)
