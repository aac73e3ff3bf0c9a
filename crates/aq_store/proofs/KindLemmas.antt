-- Nodes whose vectors are all zero, and nodes of which none is.
use Rattle.std.proofs.Common.{◌≡◌, ◌≢◌, ℕ, zero, suc, ◌+◌, ◌<◌, ◌≤◌, ◌⊎◌, inl, inr, List, [], ◌∷◌, ◌++◌, length, slice_get, Option, None, Some, refl, sym, ap, subst, ◌∙◌, arith, append-nil}
use Rattle.std.specs.List.{flat_map}
use Rattle.std.proofs.lemmas.Bool.{cases_lt}
use Rattle.std.proofs.lemmas.List.{length-append, take_at, drop_at}
use Rattle.std.proofs.lemmas.List.Concat.{flat_map-append}
use Rattle.std.proofs.lemmas.List.Elements.{All-nil, All-append, All-take, All-drop}
use Rattle.std.proofs.lemmas.Option.{slice_get_past, slice_get_within}
use Rattle.aq_ring.specs.Fractions.{Amplitude}
use Rattle.aq_ring.specs.Amplitudes.{amplitude_zero}
use Rattle.aq_ring.specs.Vectors.{IsZeroVector}
use Rattle.aq_store.specs.Kinds.{IsZeroAt, IsNull, IsNeverZero, HasState, IsSomewhere, IsKind, AreKinds, IsKept, IsKindOfPair, IsKindOfPairs, IsKindOfLabel, IsKindOfNode, StandsBelow}
use Rattle.aq_store.specs.Nodes.{EachPair, HasHeight, HasShape, Extends, IsGrown, MayStand, tree, labels_of, pairs_of}
use Rattle.aq_store.specs.Runs.{compress, run_of}
use Rattle.aq_store.specs.Words.{IsWord}
use Rattle.aq_store.specs.declared.kind.Kind.{Kind}
use Rattle.aq_store.specs.declared.kind.Kind.TheVariants.{AlwaysZero, NeverZero, Unknown}
use Rattle.aq_store.specs.declared.node.Node.{Node}
use Rattle.aq_store.specs.declared.node.Node.TheVariants.{Leaf, Inner}
use Rattle.aq_store.proofs.MeansLemmas.{tree-choice, tree-past, tree-inner}
use Rattle.aq_store.proofs.RunLemmas.{before, run_choice, run_next, run_some, before-start, before-end}
use Rattle.aq_store.proofs.ShapeLemmas.{same_element}
use Rattle.aq_store.proofs.TableLemmas.{Extends-push, EachPair-map, HasHeight-within, slice_get-last, slice_get-push, slice_get-some, tree-Extends}

-- ---- the pairs of the runs so far
pub record EachBefore (P : ℕ × ℕ → Type 0) (ps : List (ℕ × ℕ)) (index : ℕ) : Type 0 where
  pub each : (c : ℕ) (p : ℕ × ℕ) → c < before (compress ps) index → slice_get ps c ≡ Some p → P p

module _ (P : ℕ × ℕ → Type 0) (ps : List (ℕ × ℕ)) where
  pub before-none : EachBefore P ps 0
  before-none = record { each = λ c p less here. absurd (omega (arith, before-start ps, less)) }

  pub before-more : (index count : ℕ) (p : ℕ × ℕ) → slice_get (compress ps) index ≡ Some (run_of p count) → P p → EachBefore P ps index → EachBefore P ps (index + 1)
  before-more index count p run one done = record {
    each = λ c q less here. elim (cases_lt c (before (compress ps) index)) [
      | inl early ↦ done.each c q early here
      | inr late ↦
          (let next = run_next ps index count p run in
          let mine = run_choice ps index count c p run late (omega (arith, next, less)) in
          subst P (same_element ps c p q mine here) one)
    ];
  }

  pub before-whole : (index : ℕ) → length (compress ps) ≤ index → EachBefore P ps index → (c : ℕ) (p : ℕ × ℕ) → slice_get ps c ≡ Some p → P p
  before-whole index past done c p here =
      let within = slice_get_within ps c p here in
      done.each c p (omega (arith, before-end ps index past, within)) here

-- a list with a pair has a run
pub some-run : (ps : List (ℕ × ℕ)) → 0 < length ps → 0 < length (compress ps)
some-run ps some = elim (cases_lt 0 (length (compress ps))) [
  | inl lt ↦ lt
  | inr le ↦ (let a = before-end ps 0 le in let b = before-start ps in absurd (omega (arith, a, b, some)))
]

-- the first pair of a run
pub run-pair : (ps : List (ℕ × ℕ)) (index count : ℕ) (p : ℕ × ℕ) → slice_get (compress ps) index ≡ Some (run_of p count) → 0 < count → slice_get ps (before (compress ps) index) ≡ Some p
run-pair ps index count p run some = run_choice ps index count (before (compress ps) index) p run (omega arith) (omega (arith, some))

pub run-within : (n : ℕ) (ps : List (ℕ × ℕ)) (index count : ℕ) (p : ℕ × ℕ) → EachPair (λ i. i < n) ps → slice_get (compress ps) index ≡ Some (run_of p count) → (p.0 < n) × (p.1 < n)
run-within n ps index count p each run =
    let at = run-pair ps index count p run (run_some ps index (run_of p count) run) in
    (each.left (before (compress ps) index) p at, each.right (before (compress ps) index) p at)

-- ---- the kind of pairs
never-unknown : (kinds : List Kind) (p : ℕ × ℕ) → IsKindOfPair kinds p NeverZero → IsKindOfPair kinds p Unknown
never-unknown kinds p (inl h) = inl (λ e. (let z = sym h ∙ e in cc))
never-unknown kinds p (inr h) = inr (λ e. (let z = sym h ∙ e in cc))

-- pairs of two kinds
other-kind : (kinds : List Kind) (ps : List (ℕ × ℕ)) (c d : ℕ) (p q : ℕ × ℕ) (kind here : Kind) → slice_get ps c ≡ Some p → slice_get ps d ≡ Some q → IsKindOfPair kinds p kind → IsKindOfPair kinds q here → here ≢ kind
    → IsKindOfPairs kinds ps Unknown
other-kind kinds ps c d p q AlwaysZero AlwaysZero at there one two ne = absurd (ne refl)
other-kind kinds ps c d p q AlwaysZero NeverZero at there one two ne = (d, q, there, never-unknown kinds q two)
other-kind kinds ps c d p q AlwaysZero Unknown at there one two ne = (d, q, there, two)
other-kind kinds ps c d p q NeverZero here at there one two ne = (c, p, at, never-unknown kinds p one)
other-kind kinds ps c d p q Unknown here at there one two ne = (c, p, at, one)

pub runs-differ : (kinds : List Kind) (ps : List (ℕ × ℕ)) (i j m n : ℕ) (p q : ℕ × ℕ) (kind here : Kind) → slice_get (compress ps) i ≡ Some (run_of p m) → slice_get (compress ps) j ≡ Some (run_of q n)
    → IsKindOfPair kinds p kind → IsKindOfPair kinds q here → here ≢ kind → IsKindOfPairs kinds ps Unknown
runs-differ kinds ps i j m n p q kind here run other one two ne =
    other-kind kinds ps (before (compress ps) i) (before (compress ps) j) p q kind here (run-pair ps i m p run (run_some ps i (run_of p m) run)) (run-pair ps j n q other (run_some ps j (run_of q n) other)) one two ne

pub runs-alike : (kinds : List Kind) (ps : List (ℕ × ℕ)) (i m index : ℕ) (p : ℕ × ℕ) (kind : Kind) → slice_get (compress ps) i ≡ Some (run_of p m) → length (compress ps) ≤ index
    → EachBefore (λ q. IsKindOfPair kinds q kind) ps index → IsKindOfPairs kinds ps kind
runs-alike kinds ps i m index p AlwaysZero run past done = before-whole (λ q. IsKindOfPair kinds q AlwaysZero) ps index past done
runs-alike kinds ps i m index p NeverZero run past done = before-whole (λ q. IsKindOfPair kinds q NeverZero) ps index past done
runs-alike kinds ps i m index p Unknown run past done =
    let at = run-pair ps i m p run (run_some ps i (run_of p m) run) in
    (before (compress ps) i, p, at, before-whole (λ q. IsKindOfPair kinds q Unknown) ps index past done (before (compress ps) i) p at)

-- ---- vectors that are zero
abbrev IsNothing : Amplitude → Type 0
IsNothing p = p ≡ amplitude_zero

zero-append : (u v : List Amplitude) → IsZeroVector u → IsZeroVector v → IsZeroVector (u ++ v)
zero-append u v a b = All-append IsNothing u v a b

zero-left : (u v : List Amplitude) → IsZeroVector (u ++ v) → IsZeroVector u
zero-left u v z = subst IsZeroVector (take_at u v (length u) refl) (All-take IsNothing (length u) (u ++ v) z)

zero-right : (u v : List Amplitude) → IsZeroVector (u ++ v) → IsZeroVector v
zero-right u v z = subst IsZeroVector (drop_at u v (length u) refl) (All-drop IsNothing (length u) (u ++ v) z)

module _ {L : Type 0} (table : List (Node L)) where
  -- a place of a table of some shape
  shape-of : (id : ℕ) (ps : List (ℕ × ℕ)) → slice_get table id ≡ Some (Inner ps) → (shape : List ℕ) → HasShape table shape id
      → (n : ℕ) × (later : List ℕ) × (shape ≡ n ∷ later) × (length ps ≡ n) × EachPair (HasShape table later) ps
  unfolding HasShape
  shape-of id ps at [] h = let e = sym h.here ∙ at in cc
  shape-of id ps at (n ∷ later) h =
      let same : h.0 ≡ ps = (let e = sym h.1.here ∙ at in cc) in
      (n, later, refl, sym (ap length same) ∙ h.2, subst (EachPair (HasShape table later)) same h.3)

  leaf-shape : (id : ℕ) (l : L) → slice_get table id ≡ Some (Leaf l) → (shape : List ℕ) → HasShape table shape id → shape ≡ []
  unfolding HasShape
  leaf-shape id l at [] h = refl
  leaf-shape id l at (n ∷ later) h = let e = sym h.1.here ∙ at in cc

  -- a word of a shape
  some-word : (shape : List ℕ) (id : ℕ) → HasShape table shape id → (word : List ℕ) × IsWord shape word
  unfolding HasShape
  some-word [] id h = ([], tt)
  some-word (n ∷ shape) id h =
      let p = slice_get-some h.0 0 h.1.some in
      let w = some-word shape p.0.0 (h.3.left 0 p.0 p.1) in
      (0 ∷ w.0, (subst (λ k. 0 < k) h.2 h.1.some, w.1))

module _ {L : Type 0} (parts : L → List Amplitude) (table : List (Node L)) where
  -- one choice more
  step : (id c : ℕ) (ps : List (ℕ × ℕ)) (p : ℕ × ℕ) (word : List ℕ) → slice_get table id ≡ Some (Inner ps) → slice_get ps c ≡ Some p
      → flat_map parts (tree table (c ∷ word) id) ≡ flat_map parts (tree table word p.0) ++ flat_map parts (tree table word p.1)
  step id c ps p word at here =
      ap (flat_map parts) (tree-choice table id c word p (ap (λ o. slice_get (pairs_of o) c) at ∙ here)) ∙ flat_map-append parts (tree table word p.0) (tree table word p.1)

  none-zero : (word : List ℕ) (id : ℕ) → tree table word id ≡ [] → IsZeroAt parts table word id
  none-zero word id e = subst (λ v. IsZeroVector (flat_map parts v)) (sym e) (All-nil IsNothing)

  -- ---- leaves
  label-vector : (id : ℕ) (l : L) → slice_get table id ≡ Some (Leaf l) → flat_map parts (tree table [] id) ≡ parts l
  unfolding tree
  label-vector id l at = ap (λ o. flat_map parts (labels_of o)) at ∙ append-nil (parts l)

  null-leaf : (id : ℕ) (l : L) → slice_get table id ≡ Some (Leaf l) → IsZeroVector (parts l) → IsNull parts table id
  null-leaf id l at z = record { zero = by }
    where
      by : (word : List ℕ) → IsZeroAt parts table word id
      by [] = subst IsZeroVector (sym (label-vector id l at)) z
      by (c ∷ word) = none-zero (c ∷ word) id (tree-past table id c word (ap (λ o. slice_get (pairs_of o) c) at))

  never-leaf : (id : ℕ) (l : L) → slice_get table id ≡ Some (Leaf l) → ¬ (IsZeroVector (parts l)) → IsNeverZero parts table id
  never-leaf id l at some = record { some = λ shape word h w. by word (subst (λ s. IsWord s word) (leaf-shape table id l at shape h) w) }
    where
      by : (word : List ℕ) → IsWord [] word → ¬ (IsZeroAt parts table word id)
      by [] w z = some (subst IsZeroVector (label-vector id l at) z)
      by (c ∷ word) w z = absurd w

  -- ---- inner nodes
  null-inner : (id : ℕ) (ps : List (ℕ × ℕ)) → slice_get table id ≡ Some (Inner ps) → ((c : ℕ) (p : ℕ × ℕ) → slice_get ps c ≡ Some p → IsNull parts table p.0 × IsNull parts table p.1) → IsNull parts table id
  null-inner id ps at each = record { zero = by }
    where
      under : (c : ℕ) (word : List ℕ) (o : Option (ℕ × ℕ)) → slice_get ps c ≡ o → IsZeroAt parts table (c ∷ word) id
      under c word None e = none-zero (c ∷ word) id (tree-past table id c word (ap (λ o. slice_get (pairs_of o) c) at ∙ e))
      under c word (Some p) e =
          let both = each c p e in
          subst IsZeroVector (sym (step id c ps p word at e)) (zero-append _ _ (both.0.zero word) (both.1.zero word))

      by : (word : List ℕ) → IsZeroAt parts table word id
      by [] = none-zero [] id (tree-inner table id ps at)
      by (c ∷ word) = under c word (slice_get ps c) refl

  never-inner : (id : ℕ) (ps : List (ℕ × ℕ)) → slice_get table id ≡ Some (Inner ps)
      → ((c : ℕ) (p : ℕ × ℕ) → slice_get ps c ≡ Some p → IsNeverZero parts table p.0 ⊎ IsNeverZero parts table p.1) → IsNeverZero parts table id
  never-inner id ps at each = record {
    some = λ shape word h w.
        let s = shape-of table id ps at shape h in
        by s.0 s.1 s.3 s.4 word (subst (λ l. IsWord l word) s.2 w);
  }
    where
      by : (n : ℕ) (later : List ℕ) → length ps ≡ n → EachPair (HasShape table later) ps → (word : List ℕ) → IsWord (n ∷ later) word → ¬ (IsZeroAt parts table word id)
      by n later long shapes [] w z = absurd w
      by n later long shapes (c ∷ word) w z =
          let p = slice_get-some ps c (omega (arith, long, w.0)) in
          let whole = subst IsZeroVector (step id c ps p.0 word at p.1) z in
          elim (each c p.0 p.1) [
            | inl left ↦ left.some later word (shapes.left c p.0 p.1) w.1 (zero-left _ _ whole)
            | inr right ↦ right.some later word (shapes.right c p.0 p.1) w.1 (zero-right _ _ whole)
          ]

  some-inner : (id c : ℕ) (ps : List (ℕ × ℕ)) (p : ℕ × ℕ) → slice_get table id ≡ Some (Inner ps) → slice_get ps c ≡ Some p → IsSomewhere parts table p.0 ⊎ IsSomewhere parts table p.1
      → IsSomewhere parts table id
  some-inner id c ps p at here one = record {
    state = λ shape h. (let s = shape-of table id ps at shape h in subst (λ l. HasState parts table l id) (sym s.2) (by s.0 s.1 s.3 s.4 one));
  }
    where
      by : (n : ℕ) (later : List ℕ) → length ps ≡ n → EachPair (HasShape table later) ps → IsSomewhere parts table p.0 ⊎ IsSomewhere parts table p.1 → HasState parts table (n ∷ later) id
      by n later long shapes (inl left) =
          let s = left.state later (shapes.left c p here) in
          let less : c < n = (let k = slice_get_within ps c p here in omega (arith, k, long)) in
          record { word = c ∷ s.word; is_word = (less, s.is_word); nonzero = λ z. s.nonzero (zero-left _ _ (subst IsZeroVector (step id c ps p s.word at here) z)) }
      by n later long shapes (inr right) =
          let s = right.state later (shapes.right c p here) in
          let less : c < n = (let k = slice_get_within ps c p here in omega (arith, k, long)) in
          record { word = c ∷ s.word; is_word = (less, s.is_word); nonzero = λ z. s.nonzero (zero-right _ _ (subst IsZeroVector (step id c ps p s.word at here) z)) }

  -- a node that is never zero isn't always zero
  never-somewhere : (id : ℕ) → IsNeverZero parts table id → IsSomewhere parts table id
  never-somewhere id never = record {
    state = λ shape h. (let w = some-word table shape id h in record { word = w.0; is_word = w.1; nonzero = never.some shape w.0 h w.1 });
  }

  -- ---- kinds
  pub other-somewhere : (id : ℕ) (kind : Kind) → IsKind parts table id kind → kind ≢ AlwaysZero → IsSomewhere parts table id
  other-somewhere id AlwaysZero is ne = absurd (ne refl)
  other-somewhere id NeverZero is ne = never-somewhere id is
  other-somewhere id Unknown is ne = is

  not-null : (kinds : List Kind) (id : ℕ) → ((id : ℕ) (kind : Kind) → slice_get kinds id ≡ Some kind → IsKind parts table id kind) → id < length kinds → slice_get kinds id ≢ Some AlwaysZero → IsSomewhere parts table id
  not-null kinds id all within ne = (let k = slice_get-some kinds id within in other-somewhere id k.0 (all id k.0 k.1) (λ e. ne (k.1 ∙ ap Some e)))

  inner-kind : (kinds : List Kind) (id : ℕ) (ps : List (ℕ × ℕ)) (kind : Kind) → slice_get table id ≡ Some (Inner ps) → EachPair (λ i. i < length kinds) ps
      → ((id : ℕ) (kind : Kind) → slice_get kinds id ≡ Some kind → IsKind parts table id kind) → IsKindOfPairs kinds ps kind → IsKind parts table id kind
  inner-kind kinds id ps AlwaysZero at within all h = null-inner id ps at (λ c p here. (let both = h c p here in (all p.0 AlwaysZero both.0, all p.1 AlwaysZero both.1)))
  inner-kind kinds id ps NeverZero at within all h =
      never-inner id ps at (λ c p here. elim (h c p here) [ inl left ↦ inl (all p.0 NeverZero left) | inr right ↦ inr (all p.1 NeverZero right) ])
  inner-kind kinds id ps Unknown at within all h =
      some-inner id h.0 ps h.1 at h.2
      (elim h.3 [
        | inl left ↦ inl (not-null kinds h.1.0 all (within.left h.0 h.1 h.2) left)
        | inr right ↦ inr (not-null kinds h.1.1 all (within.right h.0 h.1 h.2) right)
      ])

  leaf-kind : (id : ℕ) (l : L) (kind : Kind) → slice_get table id ≡ Some (Leaf l) → IsKindOfLabel (parts l) kind → IsKind parts table id kind
  leaf-kind id l AlwaysZero at h = null-leaf id l at h
  leaf-kind id l NeverZero at h = never-leaf id l at h
  leaf-kind id l Unknown at h = absurd h

-- ---- a table that has grown
module _ {L : Type 0} where
  HasShape-before : (old new : List (Node L)) → Extends old new → (h id : ℕ) → HasHeight old h id → (shape : List ℕ) → HasShape new shape id → HasShape old shape id
  unfolding HasShape HasHeight
  HasShape-before old new x zero id s [] t = s
  HasShape-before old new x zero id s (n ∷ shape) t = let e = sym (x.keeps id _ s.here) ∙ t.1.here in cc
  HasShape-before old new x (suc h) id s [] t = let e = sym (x.keeps id _ s.1.here) ∙ t.here in cc
  HasShape-before old new x (suc h) id s (n ∷ shape) t =
      let same : s.0 ≡ t.0 = (let e = sym (x.keeps id _ s.1.here) ∙ t.1.here in cc) in
      let there : (c : ℕ) (p : ℕ × ℕ) → slice_get s.0 c ≡ Some p → slice_get t.0 c ≡ Some p = λ c p at. ap (λ l. slice_get l c) (sym same) ∙ at in (
        s.0,
        s.1,
        ap length same ∙ t.2,
        record {
          left = λ c p at. HasShape-before old new x h p.0 (s.2.left c p at) shape (t.3.left c p (there c p at));
          right = λ c p at. HasShape-before old new x h p.1 (s.2.right c p at) shape (t.3.right c p (there c p at));
        },
      )

  IsKind-Extends : (parts : L → List Amplitude) (old new : List (Node L)) → Extends old new → (h id : ℕ) → HasHeight old h id → (kind : Kind) → IsKind parts old id kind → IsKind parts new id kind
  IsKind-Extends parts old new x h id s AlwaysZero k = record { zero = λ word. subst (λ v. IsZeroVector (flat_map parts v)) (sym (tree-Extends old new x h id s word)) (k.zero word) }
  IsKind-Extends parts old new x h id s NeverZero k = record {
    some = λ shape word t w z. k.some shape word (HasShape-before old new x h id s shape t) w (subst (λ v. IsZeroVector (flat_map parts v)) (tree-Extends old new x h id s word) z);
  }
  IsKind-Extends parts old new x h id s Unknown k = record {
    state = λ shape t. (let u = k.state shape (HasShape-before old new x h id s shape t) in
        record { word = u.word; is_word = u.is_word; nonzero = λ z. u.nonzero (subst (λ v. IsZeroVector (flat_map parts v)) (tree-Extends old new x h id s u.word) z) });
  }

  pub stands-below : (table : List (Node L)) (node : Node L) (n : ℕ) → MayStand table node → n ≡ length table → StandsBelow n node
  stands-below table (Leaf l) n m e = tt
  stands-below table (Inner ps) n m e = (m.0, EachPair-map _ _ ps (λ i h. (let k = HasHeight-within table m.1.0 i h in omega (arith, k, e))) m.1.1)

  -- a node more, and its kind
  pub kinds-push : (parts : L → List Amplitude) (old new : List (Node L)) (kinds : List Kind) (node : Node L) (kind : Kind) → IsKept parts old kinds → IsGrown node old new → StandsBelow (length kinds) node
      → IsKindOfNode parts kinds node kind → IsKept parts new (kinds ++ kind ∷ [])
  kinds-push parts old new kinds node kind kept grown stands is = record {
    formed = grown.formed;
    known = subst (λ t. AreKinds parts t (kinds ++ kind ∷ [])) (sym grown.is) (record {
      all = length-append kinds (kind ∷ []) ∙ ap (λ n. n + 1) kept.known.all ∙ sym (length-append old (node ∷ []));
      each = λ id k at. elim (slice_get-push kinds kind id k at) [
        | inl earlier ↦ early id k earlier
        | inr last ↦ subst (IsKind parts (old ++ node ∷ []) id) last.1 (subst (λ i. IsKind parts (old ++ node ∷ []) i kind) (sym (last.0 ∙ kept.known.all)) (own node (slice_get-last old node) stands is))
      ];
    });
  }
    where
      early : (id : ℕ) (k : Kind) → slice_get kinds id ≡ Some k → IsKind parts (old ++ node ∷ []) id k
      early id k at =
          let within : id < length old = (let w = slice_get_within kinds id k at in omega (arith, w, kept.known.all)) in
          let h = kept.formed.heights id within in
          IsKind-Extends parts old (old ++ node ∷ []) (Extends-push old node) h.0 id h.1 k (kept.known.each id k at)

      own : (x : Node L) → slice_get (old ++ node ∷ []) (length old) ≡ Some x → StandsBelow (length kinds) x → IsKindOfNode parts kinds x kind → IsKind parts (old ++ node ∷ []) (length old) kind
      own (Leaf l) at s i = leaf-kind parts (old ++ node ∷ []) (length old) l kind at i
      own (Inner ps) at s i = inner-kind parts (old ++ node ∷ []) kinds (length old) ps kind at s.1 early i

  -- the same, as a store reads its kinds
  pub kinds-grown : (parts : L → List Amplitude) (inside table new : List (Node L)) (kinds slice all : List Kind) (node : Node L) (kind : Kind) → inside ≡ table → IsKept parts inside kinds → IsGrown node table new
      → slice ≡ kinds → StandsBelow (length slice) node → IsKindOfNode parts slice node kind → all ≡ kinds ++ kind ∷ [] → IsKept parts new all
  kinds-grown parts inside table new kinds slice all node kind view kept grown read stands is pushed =
      subst (IsKept parts new) (sym pushed)
      (kinds-push parts table new kinds node kind (subst (λ t. IsKept parts t kinds) view kept) grown (subst (λ (l : List Kind). StandsBelow (length l) node) read stands)
      (subst (λ l. IsKindOfNode parts l node kind) read is))

  -- a place that isn't in the table has no vector
  null-past : (parts : L → List Amplitude) (table : List (Node L)) (id : ℕ) → slice_get table id ≡ None → IsNull parts table id
  unfolding tree
  null-past parts table id none = record { zero = by }
    where
      short : tree table [] id ≡ []
      short = ap labels_of none

      by : (word : List ℕ) → IsZeroAt parts table word id
      by [] = none-zero parts table [] id short
      by (c ∷ word) = none-zero parts table (c ∷ word) id (tree-past table id c word (ap (λ o. slice_get (pairs_of o) c) none))

  -- a place behind a store's kinds
  pub kind-past : (parts : L → List Amplitude) (inside table : List (Node L)) (kinds slice : List Kind) (i id : ℕ) → inside ≡ table → IsKept parts inside kinds → slice ≡ kinds → i ≡ id
      → length slice ≤ i → IsNull parts table id
  kind-past parts inside table kinds slice i id view kept read e past =
      null-past parts table id (slice_get_past table id (omega (arith, e, past, ap length read, ap length view, kept.known.all)))
