-- Macros over places, read as nodes, are the macros that they were written from.
use Rattle.std.proofs.Common.{◌≡◌, ℕ, zero, suc, ◌+◌, ◌<◌, ◌≤◌, inl, inr, List, [], ◌∷◌, length, map, slice_get, Option, Some, None, Contains, refl, sym, ap₂, subst, ◌∙◌, arith, sum_by}
use Rattle.std.specs.List.{AllZip, slice_index}
use Rattle.std.proofs.lemmas.Bool.{cases_lt}
use Rattle.std.proofs.lemmas.List.Sums.{sum_by-cons}
use Rattle.std.proofs.lemmas.Option.{get_or_from_slice_get}
use Rattle.aq_store.specs.declared.node.Node.{Node}
use Rattle.aq_store.specs.declared.lsta.Lsta.{Lsta}
use Rattle.aq_cert.specs.declared.cert.Rel.{Rel}
use Rattle.aq_cert.specs.declared.cert.Macro.{Macro}
use Rattle.aq_cert.specs.Rows.{item_of, item_at, list_of, row_at, row_of, row_length}
use Rattle.aq_cert.specs.Valid.{read_pairs, read_rel, read_macro, left_level, goal_level}
use Rattle.aq_cert.specs.Placed.{IsAt, IsPairAt, IsPlacedRel, IsPlacedMacro, ArePlaced}
use Rattle.aq_cert.proofs.MemberLemmas.{of-none, of-cons, in-head, in-tail, row-within}

module _ {X Y : Type 0} (R : X → Y → Type 0) where
  -- a member on the one side has one on the other
  pub member-right : (xs : List X) (ys : List Y) → AllZip R xs ys → (x : X) → Contains xs x → (y : Y) × Contains ys y × R x y
  member-right [] ys h x k = absurd (of-none x k)
  member-right (z ∷ xs) [] h x k = absurd h
  member-right (z ∷ xs) (y ∷ ys) h x k = elim (of-cons z xs x k) [
    | inl e ↦ (y, in-head y ys, subst (λ w. R w y) (sym e) h.0)
    | inr t ↦ (let r = member-right xs ys h.1 x t in (r.0, in-tail y ys r.0 r.1, r.2))
  ]

  pub member-left : (xs : List X) (ys : List Y) → AllZip R xs ys → (y : Y) → Contains ys y → (x : X) × Contains xs x × R x y
  member-left xs [] h y k = absurd (of-none y k)
  member-left [] (z ∷ ys) h y k = absurd h
  member-left (x ∷ xs) (z ∷ ys) h y k = elim (of-cons z ys y k) [
    | inl e ↦ (x, in-head x xs, subst (λ w. R x w) (sym e) h.0)
    | inr t ↦ (let r = member-left xs ys h.1 y t in (r.0, in-tail x xs r.0 r.1, r.2))
  ]

  pub get-left : (xs : List X) (ys : List Y) (k : ℕ) (y : Y) → AllZip R xs ys → slice_get ys k ≡ Some y → (x : X) × (slice_get xs k ≡ Some x) × R x y
  get-left xs [] k y h e = cc
  get-left [] (z ∷ ys) k y h e = absurd h
  get-left (x ∷ xs) (z ∷ ys) zero y h e = let s : z ≡ y = cc in (x, refl, subst (λ w. R x w) s h.0)
  get-left (x ∷ xs) (z ∷ ys) (suc k) y h e = get-left xs ys k y h.1 e

  pub get-right : (xs : List X) (ys : List Y) (k : ℕ) (x : X) → AllZip R xs ys → slice_get xs k ≡ Some x → (y : Y) × (slice_get ys k ≡ Some y) × R x y
  get-right [] ys k x h e = cc
  get-right (z ∷ xs) [] k x h e = absurd h
  get-right (z ∷ xs) (y ∷ ys) zero x h e = let s : z ≡ x = cc in (y, refl, subst (λ w. R w y) s h.0)
  get-right (z ∷ xs) (y ∷ ys) (suc k) x h e = get-right xs ys k x h.1 e

  pub zip-length : (xs : List X) (ys : List Y) → AllZip R xs ys → length ys ≡ length xs
  zip-length [] [] h = refl
  zip-length [] (y ∷ ys) h = absurd h
  zip-length (x ∷ xs) [] h = absurd h
  zip-length (x ∷ xs) (y ∷ ys) h = omega (arith, zip-length xs ys h.1)

  pub zip-sum : (f : X → ℕ) (g : Y → ℕ) → ((x : X) (y : Y) → R x y → g y ≡ f x) → (xs : List X) (ys : List Y) → AllZip R xs ys → sum_by g ys ≡ sum_by f xs
  zip-sum f g e [] [] h = refl
  zip-sum f g e [] (y ∷ ys) h = absurd h
  zip-sum f g e (x ∷ xs) [] h = absurd h
  zip-sum f g e (x ∷ xs) (y ∷ ys) h = sum_by-cons g y ys ∙ ap₂ (λ a b. a + b) (e x y h.0) (zip-sum f g e xs ys h.1) ∙ sym (sum_by-cons f x xs)

-- reading gives the nodes again
read-nodes : (level xs ys : List ℕ) → AllZip (IsAt level) xs ys → map (slice_index level) ys ≡ xs
read-nodes level [] [] h = refl
read-nodes level [] (y ∷ ys) h = absurd h
read-nodes level (x ∷ xs) [] h = absurd h
read-nodes level (x ∷ xs) (y ∷ ys) h = ap₂ (λ z zs. z ∷ zs) (get_or_from_slice_get level y x 0 h.0) (read-nodes level xs ys h.1)

pairs-read : (left right : List ℕ) (ps qs : List (ℕ × ℕ)) → AllZip (IsPairAt left right) ps qs → read_pairs left right qs ≡ ps
pairs-read left right [] [] h = refl
pairs-read left right [] (q ∷ qs) h = absurd h
pairs-read left right (p ∷ ps) [] h = absurd h
pairs-read left right (p ∷ ps) (q ∷ qs) h =
    ap₂ (λ z zs. z ∷ zs) (ap₂ (λ a b. (a, b)) (get_or_from_slice_get left q.0 p.0 0 h.0.0) (get_or_from_slice_get right q.1 p.1 0 h.0.1)) (pairs-read left right ps qs h.1)

module _ {L : Type 0} (table : List (Node L)) (left : Lsta) (goals : List Lsta) where
  abbrev IsPlacedHere : ℕ → Macro → Macro → Type 0
  IsPlacedHere k = IsPlacedMacro (length goals) (left_level table left goals k) (λ g. goal_level table left goals g k)

  rel-read : (k : ℕ) (r s : Rel) → IsPlacedRel (length goals) (left_level table left goals k) (λ g. goal_level table left goals g k) r s → read_rel table left goals k s ≡ r
  rel-read k r s h =
      let pairs : read_pairs (left_level table left goals k) (goal_level table left goals s.goal k) s.pairs ≡ r.pairs = pairs-read _ _ r.pairs s.pairs h.pairs in
      λ j. record { goal = h.same_goal j; pairs = pairs j }

  rels-read : (k : ℕ) (rs ss : List Rel) → AllZip (IsPlacedRel (length goals) (left_level table left goals k) (λ g. goal_level table left goals g k)) rs ss → map (read_rel table left goals k) ss ≡ rs
  rels-read k [] [] h = refl
  rels-read k [] (s ∷ ss) h = absurd h
  rels-read k (r ∷ rs) [] h = absurd h
  rels-read k (r ∷ rs) (s ∷ ss) h = ap₂ (λ z zs. z ∷ zs) (rel-read k r s h.0) (rels-read k rs ss h.1)

  pub macro-read : (k : ℕ) (m n : Macro) → IsPlacedHere k m n → read_macro table left goals k n ≡ m
  macro-read k m n h =
      let domain : map (slice_index (left_level table left goals k)) n.domain ≡ m.domain = read-nodes _ m.domain n.domain h.domain in
      let rels : map (read_rel table left goals k) n.rels ≡ m.rels = rels-read k m.rels n.rels h.rels in
      λ j. record { domain = domain j; rels = rels j }

  -- what stands in a row was written from what stands there
  pub row-left : (macros rows : List (List Macro)) (k i : ℕ) (n : Macro) → ArePlaced table left goals macros rows → item_at rows k i ≡ Some n → (m : Macro) × (item_at macros k i ≡ Some m) × IsPlacedHere k m n
  row-left macros rows k i n h here =
      let less : k < length macros = omega (arith, row-within rows k i n here, h.levels) in
      let r = get-left (IsPlacedHere k) (row_at macros k) (row_at rows k) i n (h.each k less) (to-row (slice_get rows k) here) in
      (r.0, from-row (slice_get macros k) r.1, r.2)
    where
      to-row : {X : Type 0} (o : Option (List X)) {x : X} → item_of o i ≡ Some x → slice_get (list_of o) i ≡ Some x
      to-row None {x = x} e = cc
      to-row (Some xs) e = e

      from-row : {X : Type 0} (o : Option (List X)) {x : X} → slice_get (list_of o) i ≡ Some x → item_of o i ≡ Some x
      from-row None {x = x} e = cc
      from-row (Some xs) e = e

  pub row-right : (macros rows : List (List Macro)) (k i : ℕ) (m : Macro) → ArePlaced table left goals macros rows → item_at macros k i ≡ Some m → (n : Macro) × (item_at rows k i ≡ Some n) × IsPlacedHere k m n
  row-right macros rows k i m h here =
      let less : k < length macros = row-within macros k i m here in
      let r = get-right (IsPlacedHere k) (row_at macros k) (row_at rows k) i m (h.each k less) (to-row (slice_get macros k) here) in
      (r.0, from-row (slice_get rows k) r.1, r.2)
    where
      to-row : {X : Type 0} (o : Option (List X)) {x : X} → item_of o i ≡ Some x → slice_get (list_of o) i ≡ Some x
      to-row None {x = x} e = cc
      to-row (Some xs) e = e

      from-row : {X : Type 0} (o : Option (List X)) {x : X} → slice_get (list_of o) i ≡ Some x → item_of o i ≡ Some x
      from-row None {x = x} e = cc
      from-row (Some xs) e = e

  row-count : {X : Type 0} (o : Option (List X)) → row_of o ≡ length (list_of o)
  row-count None = refl
  row-count (Some xs) = refl

  past-none : {X : Type 0} (rows : List (List X)) (k : ℕ) → length rows ≤ k → row_length rows k ≡ 0
  past-none [] k le = refl
  past-none (r ∷ rows) zero le = absurd (omega arith)
  past-none (r ∷ rows) (suc k) le = past-none rows k (omega arith)

  -- rows are as long as they were
  pub rows-length : (macros rows : List (List Macro)) (k : ℕ) → ArePlaced table left goals macros rows → row_length rows k ≡ row_length macros k
  rows-length macros rows k h = elim (cases_lt k (length macros)) [
    | inl less ↦ row-count (slice_get rows k) ∙ zip-length (IsPlacedHere k) (row_at macros k) (row_at rows k) (h.each k less) ∙ sym (row-count (slice_get macros k))
    | inr past ↦ past-none rows k (omega (arith, h.levels)) ∙ sym (past-none macros k past)
  ]
