-- Automata of expressions, kind by kind.
use Rattle.std.proofs.Common.{◌≡◌, ℕ, zero, suc, ◌+◌, ◌-◌, ◌*◌, ◌^◌, ◌<◌, ◌≤◌, All, List, ◌++◌, length, take, drop, map, slice_get, Some, replicate, sym, ap, ap₂, subst, ◌∙◌, arith}
use Rattle.std.specs.List.{repeat, range_with_len, flat_map}
use Rattle.std.proofs.lemmas.List.{append-nil, length-append, length-replicate, take-append-drop}
use Rattle.std.proofs.Math.Seq.{take-append_seam, drop-append_seam}
use Rattle.std.proofs.lemmas.List.Elements.{All-nil, All-append, Contains-append_left, Contains-append_right}
use Rattle.aq_ring.specs.Fractions.{Amplitude}
use Rattle.aq_store.specs.declared.lsta.Lsta.{Lsta}
use Rattle.aq_store.specs.Nodes.{vector_of}
use Rattle.aq_store.specs.Words.{IsWord}
use Rattle.aq_sets.specs.Vectors.{Vector, Listed, tensors, pairs, all_pairs, kets_vector, basis_vector, power, lists, vectors_of, products_of}
use Rattle.aq_sets.specs.Sizes.{Size, size_of, Placing, place, number_of, power_place, tensor_place}
use Rattle.aq_sets.specs.declared.sets.Expr.{Expr}
use Rattle.aq_sets.specs.declared.sets.Expr.TheVariants as expr
use Rattle.aq_sets.specs.declared.sets.Term.{Term}
use Rattle.aq_sets.specs.ValidExprs.{AreValidExprs}
use Rattle.aq_sets.proofs.ExprLaws.{listed_by, size_by, lists-is, size-is, some_times}
use Rattle.aq_sets.proofs.PlaceLaws.{place_by, place-is, word_front, word_back, length-word}
use Rattle.aq_sets.proofs.SizeLaws.{has_shape, has_count, length-repeat, length-tensor}
use Rattle.aq_sets.proofs.ToldLaws.{repeat_more}
use Rattle.std.proofs.lemmas.Option.{slice_get_within}
use Rattle.aq_set_build.specs.Products.{AllFit, IsWideAmong}
use Rattle.aq_set_build.specs.Tensors.{Table, IsTensor, IsTensorCause}
use Rattle.aq_set_build.specs.Families.{IsFamily}
use Rattle.aq_set_build.specs.Bases.{numbered}
use Rattle.aq_set_build.specs.Powers.{PowerGives, IsPower, IsPowerCause}
use Rattle.aq_set_build.specs.Listing.{Lists, IsBuilt, IsMade}
use Rattle.aq_set_build.proofs.ProductLemmas.{Fits, contains_flat}
use Rattle.aq_set_build.proofs.HalfLemmas.{number-below}
use Rattle.aq_set_build.proofs.ListLemmas.{Covers, both_lead, lists_tensor, fits_tensor, cause_tensor, covers_tensor, tensors_at, all_flat, contains_at, word_both, tree_word, some_first, some_second}

both_some : (a b c : ℕ) → c ≡ a * b → 0 < c → (0 < a) × (0 < b)
both_some zero b c e h = absurd (let z : 0 * b ≡ 0 = omega arith in omega arith)
both_some (suc a) zero c e h = absurd (let z : suc a * 0 ≡ 0 = omega arith in omega arith)
both_some (suc a) (suc b) c e h = (omega arith, omega arith)

-- what an expression is, by one step
module _ (exprs : List Expr) (valid : AreValidExprs exprs) where
  -- an automaton that lists what one step tells, and whose products fit
  pub made_by : (i : ℕ) (e : Expr) → slice_get exprs i ≡ Some e → (table : Table) (made : Lsta)
      → Lists (listed_by (lists exprs) e).vectors (place_by (size_of exprs) (place exprs) e) (size_by (size_of exprs) e).shape table made → AllFit (listed_by (lists exprs) e).products
      → IsMade exprs i table made
  made_by i e at table made p fits =
      let v = valid.each i e at in
      let l = lists-is exprs i e at v in
      let s = size-is exprs i e at v in
      let q = place-is exprs i e at v in
      record {
        built = subst (λ (z : Listed). Lists z.vectors (place exprs i) (size_of exprs i).shape table made) (sym l)
            (subst (λ (z : Placing). Lists (listed_by (lists exprs) e).vectors z (size_of exprs i).shape table made) (sym q)
            (subst (λ (z : Size). Lists (listed_by (lists exprs) e).vectors (place_by (size_of exprs) (place exprs) e) z.shape table made) (sym s) p));
        fits = subst (λ (z : Listed). AllFit z.products) (sym l) fits;
      }

  pub wide_by : (i : ℕ) (e : Expr) → slice_get exprs i ≡ Some e → (x y : Amplitude) → IsWideAmong (listed_by (lists exprs) e).products x y → IsWideAmong (products_of exprs i) x y
  wide_by i e at x y h = subst (λ (z : Listed). IsWideAmong z.products x y) (sym (lists-is exprs i e at (valid.each i e at))) h

  pub made_kets : (i q : ℕ) (terms : List Term) → slice_get exprs i ≡ Some (expr.Kets q terms) → (table : Table) (made : Lsta) → IsFamily (λ word. kets_vector q terms) table (replicate q 1) made
      → IsMade exprs i table made
  unfolding place_by
  made_kets i q terms at table made p =
      made_by i (expr.Kets q terms) at table made (record { shape = p.shape; fits_store = p.fits_store; words = λ word w. ap Some (sym (p.words word w)) }) (All-nil Fits)

  basis_at : (q k a n : ℕ) → k < n → slice_get (map (basis_vector q) (range_with_len a n)) k ≡ Some (basis_vector q (a + k))
  basis_at q k a zero lt = absurd (omega arith)
  basis_at q zero a (suc n) lt = let e : a ≡ a + 0 = omega arith in ap (λ m. Some (basis_vector q m)) e
  basis_at q (suc k) a (suc n) lt = let e : a + 1 + k ≡ a + suc k = omega arith in basis_at q k (a + 1) n (omega arith) ∙ ap (λ m. Some (basis_vector q m)) e

  pub made_all : (i q : ℕ) → slice_get exprs i ≡ Some (expr.All q) → (table : Table) (made : Lsta) → IsFamily (numbered q) table (replicate q 2) made → IsMade exprs i table made
  unfolding place_by
  made_all i q at table made p =
      made_by i (expr.All q) at table made (record {
        shape = p.shape;
        fits_store = p.fits_store;
        words = λ word w.
            let b = number-below q word w in
            let e : 0 + number_of word ≡ number_of word = omega arith in
            basis_at q (number_of word) 0 (2 ^ q) b.0 ∙ ap (λ m. Some (basis_vector q m)) e ∙ ap Some (sym (p.words word w));
      }) (All-nil Fits)

  -- each vector of an expression has a word that leads to it
  abbrev pub Covered : ℕ → Type 0
  Covered i = Covers (vectors_of exprs i) (place exprs i) (size_of exprs i).shape

  pub same_lead : (l r : ℕ) → l < length exprs → r < length exprs → (word : List ℕ)
      → both_lead (size_of exprs l).shape (length (vectors_of exprs r)) (place exprs l) (place exprs r) word ≡ tensor_place (size_of exprs l) (size_of exprs r) (place exprs l) (place exprs r) word
  same_lead l r a b word =
      let n = has_shape exprs valid l a in
      let m = has_count exprs valid r b in
      (λ k. place exprs l (take (n k) word) * m k + place exprs r (drop (n k) word))

  pub made_tensor : (i l r : ℕ) → slice_get exprs i ≡ Some (expr.Tensor l r) → l < length exprs → r < length exprs → Covered l → Covered r → (old new : Table) (first second made : Lsta)
      → IsMade exprs l old first → IsMade exprs r old second → IsTensor old new first second made → IsMade exprs i new made
  unfolding place_by
  made_tensor i l r at a b c d old new first second made p q h =
      let here = lists_tensor (vectors_of exprs l) (vectors_of exprs r) (place exprs l) (place exprs r) (size_of exprs l).shape (size_of exprs r).shape old new first second made p.built q.built h in
      let fits = fits_tensor (vectors_of exprs l) (vectors_of exprs r) (place exprs l) (place exprs r) (size_of exprs l).shape (size_of exprs r).shape old new first second made c d p.built q.built h in
      made_by i (expr.Tensor l r) at new made (record {
        shape = here.shape;
        fits_store = here.fits_store;
        words = λ word w. ap (slice_get (tensors (vectors_of exprs l) (vectors_of exprs r))) (sym (same_lead l r a b word)) ∙ here.words word w;
      }) (All-append Fits (products_of exprs l) (products_of exprs r ++ all_pairs (vectors_of exprs l) (vectors_of exprs r)) p.fits
      (All-append Fits (products_of exprs r) (all_pairs (vectors_of exprs l) (vectors_of exprs r)) q.fits fits))

  pub wide_left : (i l r : ℕ) → slice_get exprs i ≡ Some (expr.Tensor l r) → (x y : Amplitude) → IsWideAmong (products_of exprs l) x y → IsWideAmong (products_of exprs i) x y
  wide_left i l r at x y h = wide_by i (expr.Tensor l r) at x y (record {
    member = Contains-append_left (products_of exprs l) (products_of exprs r ++ all_pairs (vectors_of exprs l) (vectors_of exprs r)) (x, y) h.member;
    wide = h.wide;
  })

  pub wide_right : (i l r : ℕ) → slice_get exprs i ≡ Some (expr.Tensor l r) → (x y : Amplitude) → IsWideAmong (products_of exprs r) x y → IsWideAmong (products_of exprs i) x y
  wide_right i l r at x y h = wide_by i (expr.Tensor l r) at x y (record {
    member = Contains-append_right (products_of exprs l) (products_of exprs r ++ all_pairs (vectors_of exprs l) (vectors_of exprs r)) (x, y)
        (Contains-append_left (products_of exprs r) (all_pairs (vectors_of exprs l) (vectors_of exprs r)) (x, y) h.member);
    wide = h.wide;
  })

  pub wide_tensor : (i l r : ℕ) → slice_get exprs i ≡ Some (expr.Tensor l r) → (table : Table) (first second : Lsta) → IsBuilt exprs l table first → IsBuilt exprs r table second
      → (x y : Amplitude) → IsTensorCause table first second x y → IsWideAmong (products_of exprs i) x y
  wide_tensor i l r at table first second p q x y h =
      let k = cause_tensor (vectors_of exprs l) (vectors_of exprs r) (place exprs l) (place exprs r) (size_of exprs l).shape (size_of exprs r).shape table first second p q x y h in
      wide_by i (expr.Tensor l r) at x y (record {
        member = Contains-append_right (products_of exprs l) (products_of exprs r ++ all_pairs (vectors_of exprs l) (vectors_of exprs r)) (x, y)
            (Contains-append_right (products_of exprs r) (all_pairs (vectors_of exprs l) (vectors_of exprs r)) (x, y) k.member);
        wide = k.wide;
      })

  -- ---- powers
  module _ (base : ℕ) (within : base < length exprs) where
    shape_of_base : length (size_of exprs base).shape ≡ (size_of exprs base).qubits
    shape_of_base = has_shape exprs valid base within

    -- how one factor more leads
    lead_more : (n : ℕ) (word : List ℕ)
        → both_lead (repeat (suc n) (size_of exprs base).shape) (length (vectors_of exprs base)) (power_place (suc n) (size_of exprs base) (place exprs base)) (place exprs base) word
        ≡ power_place (suc (suc n)) (size_of exprs base) (place exprs base) word
    lead_more n word =
        let m = length-repeat (suc n) (size_of exprs base).shape ∙ ap (λ k. k * suc n) shape_of_base in
        let c = has_count exprs valid base within in
        (λ k. power_place (suc n) (size_of exprs base) (place exprs base) (take (m k) word) * c k + place exprs base (drop (m k) word))

    pub covers_power : (n : ℕ) → Covered base → Covers (power (suc n) (lists exprs base)).vectors (power_place (suc n) (size_of exprs base) (place exprs base)) (repeat (suc n) (size_of exprs base).shape)
    covers_power zero c = λ k lt. let h = c k lt in (h.0, subst (λ s. IsWord s h.0) (sym (append-nil (size_of exprs base).shape)) h.1, h.2)
    covers_power (suc n) c = λ k lt.
        let h = covers_tensor (power (suc n) (lists exprs base)).vectors (vectors_of exprs base) (power_place (suc n) (size_of exprs base) (place exprs base)) (place exprs base)
        (repeat (suc n) (size_of exprs base).shape) (size_of exprs base).shape (covers_power n c) c k lt in
        (h.0, subst (λ s. IsWord s h.0) (repeat_more (suc n) (size_of exprs base).shape) h.1, sym (lead_more n h.0) ∙ h.2)

    -- what a word of a power gives
    pub gives_power : (table : Table) (b : Lsta) → IsBuilt exprs base table b → (n : ℕ) (word : List ℕ) (v : Vector) → IsWord (repeat (suc n) (size_of exprs base).shape) word
        → PowerGives table b (suc n) word v
        → slice_get (power (suc n) (lists exprs base)).vectors (power_place (suc n) (size_of exprs base) (place exprs base) word) ≡ Some v
    gives_power table b p zero word v w h = p.words word (subst (λ s. IsWord s word) (append-nil (size_of exprs base).shape) w) ∙ ap Some (sym h)
    gives_power table b p (suc n) word v w h =
        let s = (size_of exprs base).shape in
        let x : IsWord (repeat (suc n) s ++ s) word = subst (λ t. IsWord t word) (sym (repeat_more (suc n) s)) w in
        let m : length (repeat (suc n) s) ≡ length b.shape.items * suc n = length-repeat (suc n) s ∙ ap (λ t. length t * suc n) (sym p.shape) in
        let front : IsWord (repeat (suc n) s) (take (length b.shape.items * suc n) word) = subst (λ k. IsWord (repeat (suc n) s) (take k word)) m (word_front (repeat (suc n) s) s word x) in
        let back : IsWord s (drop (length b.shape.items * suc n) word) = subst (λ k. IsWord s (drop k word)) m (word_back (repeat (suc n) s) s word x) in
        let first = gives_power table b p n (take (length b.shape.items * suc n) word) h.0 front h.1 in
        let second = p.words (drop (length b.shape.items * suc n) word) back in
        let at = tensors_at (power (suc n) (lists exprs base)).vectors (vectors_of exprs base) _ _ _ _ first second in
        let e = ap (λ k. power_place (suc n) (size_of exprs base) (place exprs base) (take k word) * length (vectors_of exprs base) + place exprs base (drop k word)) (sym m) in
        ap (slice_get (power (suc (suc n)) (lists exprs base)).vectors) (sym (lead_more n word)) ∙ ap (slice_get (power (suc (suc n)) (lists exprs base)).vectors) (sym e) ∙ at ∙ ap Some (sym h.2.is)

    -- each word of the right length gives something
    pub Whole : Table → Lsta → ℕ → Type 0
    Whole table b n = (word : List ℕ) → length word ≡ length b.shape.items * suc n → (v : Vector) × PowerGives table b (suc n) word v

    whole_less : (table : Table) (b : Lsta) (n : ℕ) → Whole table b (suc n) → Whole table b n
    unfolding Whole
    whole_less table b n h word long =
        let more = word ++ replicate (length b.shape.items) 0 in
        let all : length (word ++ replicate (length b.shape.items) 0) ≡ length b.shape.items * suc (suc n) =
        length-append word (replicate (length b.shape.items) 0) ∙ ap₂ (λ x y. x + y) long (length-replicate (length b.shape.items) 0)
        ∙ (let e : length b.shape.items * suc n + length b.shape.items ≡ length b.shape.items * suc (suc n) = omega arith in e) in
        let g = h (word ++ replicate (length b.shape.items) 0) all in
        let same : take (length b.shape.items * suc n) (word ++ replicate (length b.shape.items) 0) ≡ word = ap (λ k. take k (word ++ replicate (length b.shape.items) 0)) (sym long) ∙ take-append_seam word (replicate (length b.shape.items) 0) in
        (g.1.0, subst (λ w. PowerGives table b (suc n) w g.1.0) same g.1.1)

    some_one : {x y : Vector} → Some x ≡ Some y → x ≡ y
    some_one e = cc

    pairs_power : (table : Table) (b : Lsta) → IsBuilt exprs base table b → (n : ℕ) → Covered base → Whole table b (suc n)
        → AllFit (all_pairs (power (suc n) (lists exprs base)).vectors (vectors_of exprs base))
    unfolding Whole
    pairs_power table b p n c h =
        let s = (size_of exprs base).shape in
        all_flat Fits (λ u. flat_map (pairs u) (vectors_of exprs base)) (power (suc n) (lists exprs base)).vectors (λ a u e. all_flat Fits (pairs u) (vectors_of exprs base) (λ k v i.
        let x = covers_power n c a (slice_get_within (power (suc n) (lists exprs base)).vectors a u e) in
        let y = c k (slice_get_within (vectors_of exprs base) k v i) in
        let m : length (repeat (suc n) s) ≡ length b.shape.items * suc n = length-repeat (suc n) s ∙ ap (λ t. length t * suc n) (sym p.shape) in
        let lx : length x.0 ≡ length b.shape.items * suc n = length-word (repeat (suc n) s) x.0 x.1 ∙ m in
        let ly : length y.0 ≡ length b.shape.items = length-word s y.0 y.1 ∙ ap length (sym p.shape) in
        let all : length (x.0 ++ y.0) ≡ length b.shape.items * suc (suc n) = length-append x.0 y.0 ∙ ap₂ (λ q r. q + r) lx ly
        ∙ (let z : length b.shape.items * suc n + length b.shape.items ≡ length b.shape.items * suc (suc n) = omega arith in z) in
        let g = h (x.0 ++ y.0) all in
        let front : take (length b.shape.items * suc n) (x.0 ++ y.0) ≡ x.0 = ap (λ q. take q (x.0 ++ y.0)) (sym lx) ∙ take-append_seam x.0 y.0 in
        let back : drop (length b.shape.items * suc n) (x.0 ++ y.0) ≡ y.0 = ap (λ q. drop q (x.0 ++ y.0)) (sym lx) ∙ drop-append_seam x.0 y.0 in
        let gives = subst (λ w. PowerGives table b (suc n) w g.1.0) front g.1.1 in
        let first : g.1.0 ≡ u = some_one (sym (gives_power table b p n x.0 g.1.0 x.1 gives) ∙ ap (slice_get (power (suc n) (lists exprs base)).vectors) x.2 ∙ e) in
        let second : vector_of table b y.0 ≡ v = some_one (sym (p.words y.0 y.1) ∙ ap (slice_get (vectors_of exprs base)) y.2 ∙ i) in
        subst AllFit (ap₂ pairs first (ap (vector_of table b) back ∙ second)) g.1.2.fits))

    pub fits_power : (table : Table) (b : Lsta) → IsBuilt exprs base table b → (n : ℕ) → Covered base → AllFit (products_of exprs base) → Whole table b n → AllFit (power (suc n) (lists exprs base)).products
    fits_power table b p zero c f h = f
    fits_power table b p (suc n) c f h =
        All-append Fits (power (suc n) (lists exprs base)).products (products_of exprs base ++ all_pairs (power (suc n) (lists exprs base)).vectors (vectors_of exprs base))
        (fits_power table b p n c f (whole_less table b n h))
        (All-append Fits (products_of exprs base) (all_pairs (power (suc n) (lists exprs base)).vectors (vectors_of exprs base)) f (pairs_power table b p n c h))

    pub made_power : (i n : ℕ) → slice_get exprs i ≡ Some (expr.Power base (suc n)) → Covered base → (old new : Table) (b made : Lsta) → IsMade exprs base old b → IsPower (suc n) old new b made → IsMade exprs i new made
    unfolding place_by Whole
    made_power i n at c old new b made p h =
        let s = (size_of exprs base).shape in
        made_by i (expr.Power base (suc n)) at new made (record {
          shape = h.shape ∙ ap (repeat (suc n)) p.built.shape;
          fits_store = h.fits_store;
          words = λ word w. gives_power old b p.built n word (vector_of new made word) w (h.words word);
        }) (fits_power old b p.built n c p.fits (λ word long. (vector_of new made word, h.words word)))

    -- ---- causes of powers
    pub wide_base : (n : ℕ) (x y : Amplitude) → IsWideAmong (products_of exprs base) x y → IsWideAmong (power (suc n) (lists exprs base)).products x y
    wide_base zero x y h = h
    wide_base (suc n) x y h =
        let k = wide_base n x y h in
        record {
          member = Contains-append_left (power (suc n) (lists exprs base)).products (products_of exprs base ++ all_pairs (power (suc n) (lists exprs base)).vectors (vectors_of exprs base)) (x, y) k.member;
          wide = k.wide;
        }

    wide_last : (n : ℕ) (x y : Amplitude) → IsWideAmong (all_pairs (power (suc n) (lists exprs base)).vectors (vectors_of exprs base)) x y → IsWideAmong (power (suc (suc n)) (lists exprs base)).products x y
    wide_last n x y h = record {
      member = Contains-append_right (power (suc n) (lists exprs base)).products (products_of exprs base ++ all_pairs (power (suc n) (lists exprs base)).vectors (vectors_of exprs base)) (x, y)
          (Contains-append_right (products_of exprs base) (all_pairs (power (suc n) (lists exprs base)).vectors (vectors_of exprs base)) (x, y) h.member);
      wide = h.wide;
    }

    wide_more : (n k : ℕ) (x y : Amplitude) → IsWideAmong (power (suc n) (lists exprs base)).products x y → IsWideAmong (power (suc (k + n)) (lists exprs base)).products x y
    wide_more n zero x y h = let e : n ≡ 0 + n = omega arith in subst (λ m. IsWideAmong (power (suc m) (lists exprs base)).products x y) e h
    wide_more n (suc k) x y h =
        let g = wide_more n k x y h in
        let e : suc (k + n) ≡ suc k + n = omega arith in
        subst (λ m. IsWideAmong (power (suc m) (lists exprs base)).products x y) e (record {
          member = Contains-append_left (power (suc (k + n)) (lists exprs base)).products (products_of exprs base ++ all_pairs (power (suc (k + n)) (lists exprs base)).vectors (vectors_of exprs base)) (x, y) g.member;
          wide = g.wide;
        })

    -- a word that gives something is one of the power's shape
    power_word : (table : Table) (b : Lsta) → IsBuilt exprs base table b → (n : ℕ) (word : List ℕ) (v : Vector) → PowerGives table b (suc n) word v → 0 < length v → IsWord (repeat (suc n) (size_of exprs base).shape) word
    power_word table b p zero word v h some =
        let w = tree_word table b.shape.items b.root p.fits_store word (let e = ap length h in omega arith) in
        subst (λ s. IsWord s word) (p.shape ∙ sym (append-nil (size_of exprs base).shape)) w
    power_word table b p (suc n) word v h some =
        let s = (size_of exprs base).shape in
        let e : length v ≡ length h.0 * length (vector_of table b (drop (length b.shape.items * suc n) word)) = ap length h.2.is ∙ length-tensor h.0 (vector_of table b (drop (length b.shape.items * suc n) word)) in
        let z = both_some (length h.0) (length (vector_of table b (drop (length b.shape.items * suc n) word))) (length v) e some in
        let front = power_word table b p n (take (length b.shape.items * suc n) word) h.0 h.1 z.0 in
        let back = subst (λ t. IsWord t (drop (length b.shape.items * suc n) word)) p.shape (tree_word table b.shape.items b.root p.fits_store (drop (length b.shape.items * suc n) word) z.1) in
        let whole = word_both (repeat (suc n) s) s (take (length b.shape.items * suc n) word) (drop (length b.shape.items * suc n) word) front back in
        subst (λ t. IsWord t word) (repeat_more (suc n) s) (subst (IsWord (repeat (suc n) s ++ s)) (take-append-drop (length b.shape.items * suc n) word) whole)

    pub wide_power : (i times : ℕ) → slice_get exprs i ≡ Some (expr.Power base times) → (table : Table) (b : Lsta) → IsBuilt exprs base table b → (x y : Amplitude) → IsPowerCause times table b x y
        → IsWideAmong (products_of exprs i) x y
    wide_power i times at table b p x y h =
        let m = h.among.member in
        let w = power_word table b p h.fewer h.first h.vector h.gives (some_first h.vector (vector_of table b h.second) (x, y) m) in
        let v = subst (λ z. IsWord z h.second) p.shape (tree_word table b.shape.items b.root p.fits_store h.second (some_second h.vector (vector_of table b h.second) (x, y) m)) in
        let a = contains_at (power (suc h.fewer) (lists exprs base)).vectors _ h.vector (gives_power table b p h.fewer h.first h.vector w h.gives) in
        let c = contains_at (vectors_of exprs base) (place exprs base h.second) (vector_of table b h.second) (p.words h.second v) in
        let among = wide_last h.fewer x y (record {
          member = contains_flat (λ u. flat_map (pairs u) (vectors_of exprs base)) (power (suc h.fewer) (lists exprs base)).vectors h.vector (x, y) a (contains_flat (pairs h.vector) (vectors_of exprs base) (vector_of table b h.second) (x, y) c m);
          wide = h.among.wide;
        }) in
        let e : suc (times - suc (suc h.fewer) + suc h.fewer) ≡ times = (let lt = h.less in omega arith) in
        wide_by i (expr.Power base times) at x y (subst (λ k. IsWideAmong (power k (lists exprs base)).products x y) e (wide_more (suc h.fewer) (times - suc (suc h.fewer)) x y among))

  -- ---- what a valid expression says of itself
  pub kets_valid : (i q : ℕ) (terms : List Term) → slice_get exprs i ≡ Some (expr.Kets q terms) → (q ≤ 64) × (0 < length terms) × All (λ t. t.index < 2 ^ q) terms
  kets_valid i q terms at =
      let v = valid.each i (expr.Kets q terms) at in
      let s = ap (λ (z : Size). z.qubits) (size-is exprs i (expr.Kets q terms) at v) in
      let few = (valid.qubits i (slice_get_within exprs i (expr.Kets q terms) at)).1 in
      (omega arith, v.0, v.1)

  pub all_valid : (i q : ℕ) → slice_get exprs i ≡ Some (expr.All q) → 0 < q
  all_valid i q at =
      let s = ap (λ (z : Size). z.qubits) (size-is exprs i (expr.All q) at (valid.each i (expr.All q) at)) in
      let some = (valid.qubits i (slice_get_within exprs i (expr.All q) at)).0 in
      omega arith

  -- ---- powers of so many times
  pub wide_base_at : (i base times : ℕ) → base < length exprs → slice_get exprs i ≡ Some (expr.Power base times) → (x y : Amplitude) → IsWideAmong (products_of exprs base) x y
      → IsWideAmong (products_of exprs i) x y
  wide_base_at i base zero within at x y h = absurd (let some = some_times exprs valid i base zero at in omega arith)
  wide_base_at i base (suc n) within at x y h = wide_by i (expr.Power base (suc n)) at x y (wide_base base within n x y h)

  pub made_power_at : (i base times : ℕ) → (within : base < length exprs) → slice_get exprs i ≡ Some (expr.Power base times) → Covered base → (old new : Table) (b made : Lsta)
      → IsMade exprs base old b → IsPower times old new b made → IsMade exprs i new made
  made_power_at i base zero within at c old new b made p h = absurd (let some = some_times exprs valid i base zero at in omega arith)
  made_power_at i base (suc n) within at c old new b made p h = made_power base within i n at c old new b made p h
