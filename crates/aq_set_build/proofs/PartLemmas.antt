-- Unions that are taken apart stay what they are.
use Rattle.std.proofs.Common.{◌≡◌, ℕ, ◌+◌, ◌-◌, ◌*◌, ◌^◌, ◌<◌, ◌≤◌, Bool, true, false, cond, ltb, eqb, eqb-true, min, max, List, [], ◌∷◌, ◌++◌, length, reverse, slice_get, Some, All, refl, sym, ap, ap₂, subst, ◌∙◌, arith}
use Rattle.std.proofs.Math.Nat.{pow-suc, pow-zero, one-mul}
use Rattle.std.proofs.lemmas.Bool.{ltb-true, ltb-false}
use Rattle.std.proofs.lemmas.List.{append_assoc, append-nil, reverse-append}
use Rattle.std.proofs.lemmas.List.Elements.{All-nil, All-cons, All-append, All-pop}
use Rattle.std.proofs.lemmas.Option.{slice_get_within}
use Rattle.aq_sets.specs.Vectors.{Listed, united, lists}
use Rattle.aq_sets.specs.Sizes.{Size, size_of, larger, united_shape, Placing, place, shortened, lower, first_number, union_place}
use Rattle.aq_sets.specs.declared.sets.Expr.{Expr}
use Rattle.aq_sets.specs.declared.sets.Expr.TheVariants as expr
use Rattle.aq_sets.specs.ValidExprs.{AreValidExprs}
use Rattle.aq_sets.proofs.ExprLaws.{lists-is, size-is, size_by, some_times}
use Rattle.aq_sets.proofs.PlaceLaws.{place_by, place-is}
use Rattle.aq_sets.proofs.SizeLaws.{has_shape}
use Rattle.aq_set_build.specs.Unions.{opened, kept, opening_steps, listed_all, shape_all, place_all, nodes_all, AreAlike, IsBelow, IsOpening}

-- ---- shapes of unions
pub larger_none : (a : List ℕ) → larger a [] ≡ a
larger_none [] = refl
larger_none (x ∷ a) = refl

pub first_of_union : (a b : List ℕ) → first_number (united_shape a b) ≡ first_number a + first_number b
first_of_union [] b = omega arith
first_of_union (x ∷ a) [] = omega arith
first_of_union (x ∷ a) (y ∷ b) = refl

pub lower_of_union : (a b : List ℕ) → lower (united_shape a b) ≡ larger (lower a) (lower b)
lower_of_union [] b = refl
lower_of_union (x ∷ a) [] = sym (larger_none a)
lower_of_union (x ∷ a) (y ∷ b) = refl

larger_assoc : (a b c : List ℕ) → larger (larger a b) c ≡ larger a (larger b c)
larger_assoc [] b c = refl
larger_assoc (x ∷ a) [] c = refl
larger_assoc (x ∷ a) (y ∷ b) [] = refl
larger_assoc (x ∷ a) (y ∷ b) (z ∷ c) = ap₂ (λ p q. p ∷ q) (let e : max (max x y) z ≡ max x (max y z) = omega arith in e) (larger_assoc a b c)

pub union_assoc : (a b c : List ℕ) → united_shape (united_shape a b) c ≡ united_shape a (united_shape b c)
union_assoc [] b c = refl
union_assoc (x ∷ a) [] c = refl
union_assoc (x ∷ a) (y ∷ b) [] = refl
union_assoc (x ∷ a) (y ∷ b) (z ∷ c) = ap₂ (λ p q. p ∷ q) (let e : x + y + z ≡ x + (y + z) = omega arith in e) (larger_assoc a b c)

pub union_none : (a : List ℕ) → united_shape a [] ≡ a
union_none [] = refl
union_none (x ∷ a) = refl

shortened_left : (a b w : List ℕ) → length a ≡ length b → shortened a (shortened (larger a b) w) ≡ shortened a w
shortened_left [] [] w e = refl
shortened_left [] (y ∷ b) w e = absurd (omega arith)
shortened_left (x ∷ a) [] w e = absurd (omega arith)
shortened_left (x ∷ a) (y ∷ b) [] e = refl
shortened_left (x ∷ a) (y ∷ b) (c ∷ w) e = ap₂ (λ p q. p ∷ q) (let m : min (min c (max x y - 1)) (x - 1) ≡ min c (x - 1) = omega arith in m) (shortened_left a b w (omega arith))

shortened_right : (a b w : List ℕ) → length a ≡ length b → shortened b (shortened (larger a b) w) ≡ shortened b w
shortened_right [] [] w e = refl
shortened_right [] (y ∷ b) w e = absurd (omega arith)
shortened_right (x ∷ a) [] w e = absurd (omega arith)
shortened_right (x ∷ a) (y ∷ b) [] e = refl
shortened_right (x ∷ a) (y ∷ b) (c ∷ w) e = ap₂ (λ p q. p ∷ q) (let m : min (min c (max x y - 1)) (y - 1) ≡ min c (y - 1) = omega arith in m) (shortened_right a b w (omega arith))

length_lower : (a b : List ℕ) → length a ≡ length b → length (lower a) ≡ length (lower b)
length_lower [] [] e = refl
length_lower [] (y ∷ b) e = absurd (omega arith)
length_lower (x ∷ a) [] e = absurd (omega arith)
length_lower (x ∷ a) (y ∷ b) e = omega arith

-- ---- where the words of a union lead
picks_by : (c x y f a b q m n : ℕ) (s t u : Bool) → ltb c f ≡ s → ltb c x ≡ t → ltb (c - x) y ≡ u → f ≡ x + y
    → cond s (cond t a (m + b)) (m + n + q) ≡ cond t a (m + cond u b (n + q))
picks_by c x y f a b q m n true true u i j k e = refl
picks_by c x y f a b q m n true false true i j k e = refl
picks_by c x y f a b q m n true false false i j k e = absurd (let lt = ltb-true c f i in let le = ltb-false c x j in let ge = ltb-false (c - x) y k in omega arith)
picks_by c x y f a b q m n false true u i j k e = absurd (let le = ltb-false c f i in let lt = ltb-true c x j in omega arith)
picks_by c x y f a b q m n false false true i j k e = absurd (let le = ltb-false c f i in let ge = ltb-false c x j in let lt = ltb-true (c - x) y k in omega arith)
picks_by c x y f a b q m n false false false i j k e = omega arith

-- where a word leads whose first choice may be the first expression's
abbrev head_lead : Size → Placing → Placing → ℕ → List ℕ → ℕ
head_lead s f rest c w = cond (ltb c (first_number s.shape)) (f (c ∷ shortened (lower s.shape) w)) (s.count + rest ((c - first_number s.shape) ∷ w))

union_lead : (l r : Size) (f g : Placing) (c : ℕ) (w : List ℕ) → length l.shape ≡ length r.shape → union_place l r f g (c ∷ shortened (lower (united_shape l.shape r.shape)) w) ≡ cond
    (ltb c (first_number l.shape)) (f (c ∷ shortened (lower l.shape) w)) (l.count + g ((c - first_number l.shape) ∷ shortened (lower r.shape) w))
union_lead l r f g c w same =
    let low = lower_of_union l.shape r.shape in
    let e = length_lower l.shape r.shape same in
    let a : shortened (lower l.shape) (shortened (lower (united_shape l.shape r.shape)) w) ≡ shortened (lower l.shape) w =
    ap (λ s. shortened (lower l.shape) (shortened s w)) low ∙ shortened_left (lower l.shape) (lower r.shape) w e in
    let b : shortened (lower r.shape) (shortened (lower (united_shape l.shape r.shape)) w) ≡ shortened (lower r.shape) w =
    ap (λ s. shortened (lower r.shape) (shortened s w)) low ∙ shortened_right (lower l.shape) (lower r.shape) w e in
    (λ k. cond (ltb c (first_number l.shape)) (f (c ∷ a k)) (l.count + g ((c - first_number l.shape) ∷ b k)))

union_step : (l r : Size) (f g rest : Placing) (c : ℕ) (w : List ℕ) → length l.shape ≡ length r.shape
    → cond (ltb c (first_number (united_shape l.shape r.shape))) (union_place l r f g (c ∷ shortened (lower (united_shape l.shape r.shape)) w))
    (l.count + r.count + rest ((c - first_number (united_shape l.shape r.shape)) ∷ w))
    ≡ cond (ltb c (first_number l.shape)) (f (c ∷ shortened (lower l.shape) w)) (l.count + head_lead r g rest (c - first_number l.shape) w)
union_step l r f g rest c w same =
    let x = first_number l.shape in
    let y = first_number r.shape in
    let first = first_of_union l.shape r.shape in
    let n : c - first_number (united_shape l.shape r.shape) ≡ c - x - y = omega arith in
    ap₂ (λ p q. cond (ltb c (first_number (united_shape l.shape r.shape))) p (l.count + r.count + rest (q ∷ w))) (union_lead l r f g c w same) n
    ∙ picks_by c x y (first_number (united_shape l.shape r.shape)) (f (c ∷ shortened (lower l.shape) w)) (g ((c - x) ∷ shortened (lower r.shape) w)) (rest ((c - x - y) ∷ w)) l.count r.count _ _ _ refl refl refl first

-- ---- lists
united_assoc : (a b c : Listed) → united (united a b) c ≡ united a (united b c)
united_assoc a b c = λ k. record { vectors = append_assoc a.vectors b.vectors c.vectors k; products = append_assoc a.products b.products c.products k }

module _ (exprs : List Expr) where
  pub alike_refl : (xs : List ℕ) → AreAlike exprs xs xs
  alike_refl xs = record { listed = refl; shape = refl; places = λ word. refl }

  pub alike_then : (xs ys zs : List ℕ) → AreAlike exprs xs ys → AreAlike exprs ys zs → AreAlike exprs xs zs
  alike_then xs ys zs h g = record { listed = h.listed ∙ g.listed; shape = h.shape ∙ g.shape; places = λ word. h.places word ∙ g.places word }

  alike_more : (p : ℕ) (xs ys : List ℕ) → AreAlike exprs xs ys → AreAlike exprs (p ∷ xs) (p ∷ ys)
  unfolding listed_all shape_all place_all
  alike_more p xs ys h = record {
    listed = ap (united (lists exprs p)) h.listed;
    shape = ap (united_shape (size_of exprs p).shape) h.shape;
    places = by;
  }
    where
      by : (word : List ℕ) → place_all exprs (p ∷ xs) word ≡ place_all exprs (p ∷ ys) word
      by [] = refl
      by (c ∷ w) = ap (λ k. cond (ltb c (first_number (size_of exprs p).shape)) (place exprs p (c ∷ shortened (lower (size_of exprs p).shape) w)) ((size_of exprs p).count + k))
          (h.places ((c - first_number (size_of exprs p).shape) ∷ w))

  pub alike_front : (ps xs ys : List ℕ) → AreAlike exprs xs ys → AreAlike exprs (ps ++ xs) (ps ++ ys)
  alike_front [] xs ys h = h
  alike_front (p ∷ ps) xs ys h = alike_more p (ps ++ xs) (ps ++ ys) (alike_front ps xs ys h)

  union_places : (i l r : ℕ) (rest : List ℕ) → length (size_of exprs l).shape ≡ length (size_of exprs r).shape → size_of exprs i ≡ size_by (size_of exprs) (expr.Union l r)
      → place exprs i ≡ place_by (size_of exprs) (place exprs) (expr.Union l r) → (word : List ℕ) → place_all exprs (i ∷ rest) word ≡ place_all exprs (l ∷ r ∷ rest) word
  unfolding place_all place_by
  union_places i l r rest same s q [] = refl
  union_places i l r rest same s q (c ∷ w) =
      (λ k. head_lead (s k) (q k) (place_all exprs rest) c w) ∙ union_step (size_of exprs l) (size_of exprs r) (place exprs l) (place exprs r) (place_all exprs rest) c w same

  power_places : (i b : ℕ) (rest : List ℕ) → (size_of exprs i).shape ≡ (size_of exprs b).shape → (size_of exprs i).count ≡ (size_of exprs b).count
      → place exprs i ≡ place exprs b → (word : List ℕ) → place_all exprs (i ∷ rest) word ≡ place_all exprs (b ∷ rest) word
  unfolding place_all
  power_places i b rest s n q [] = refl
  power_places i b rest s n q (c ∷ w) =
      (λ k. cond (ltb c (first_number (s k))) (q k (c ∷ shortened (lower (s k)) w)) (n k + place_all exprs rest ((c - first_number (s k)) ∷ w)))

  alike_union : AreValidExprs exprs → (i l r : ℕ) → slice_get exprs i ≡ Some (expr.Union l r) → (rest : List ℕ) → AreAlike exprs (i ∷ rest) (l ∷ r ∷ rest)
  unfolding listed_all shape_all place_all place_by
  alike_union valid i l r at rest =
      let n = slice_get_within exprs i (expr.Union l r) at in
      let v = valid.each i (expr.Union l r) at in
      let q = place-is exprs i (expr.Union l r) at v in
      let s = size-is exprs i (expr.Union l r) at v in
      let same : length (size_of exprs l).shape ≡ length (size_of exprs r).shape =
      has_shape exprs valid l (let z = v.0 in omega arith) ∙ v.2 ∙ sym (has_shape exprs valid r (let z = v.1 in omega arith)) in
      record {
        listed = ap (λ (z : Listed). united z (listed_all exprs rest)) (lists-is exprs i (expr.Union l r) at v) ∙ united_assoc (lists exprs l) (lists exprs r) (listed_all exprs rest);
        shape = ap (λ (z : Size). united_shape z.shape (shape_all exprs rest)) s ∙ union_assoc (size_of exprs l).shape (size_of exprs r).shape (shape_all exprs rest);
        places = union_places i l r rest same s q;
      }

  one_power : (n : ℕ) → n ^ 1 ≡ n
  one_power n = pow-suc n 0 ∙ ap (λ k. k * n) (pow-zero n) ∙ one-mul n

  alike_power : AreValidExprs exprs → (i b : ℕ) → slice_get exprs i ≡ Some (expr.Power b 1) → (rest : List ℕ) → AreAlike exprs (i ∷ rest) (b ∷ rest)
  unfolding listed_all shape_all place_by
  alike_power valid i b at rest =
      let v = valid.each i (expr.Power b 1) at in
      let q : place exprs i ≡ place exprs b = place-is exprs i (expr.Power b 1) at v in
      let s = size-is exprs i (expr.Power b 1) at v in
      let shape : (size_of exprs i).shape ≡ (size_of exprs b).shape = ap (λ (z : Size). z.shape) s ∙ append-nil (size_of exprs b).shape in
      let number : (size_of exprs i).count ≡ (size_of exprs b).count = ap (λ (z : Size). z.count) s ∙ one_power (size_of exprs b).count in
      record {
        listed = ap (λ (z : Listed). united z (listed_all exprs rest)) (lists-is exprs i (expr.Power b 1) at v);
        shape = ap (λ z. united_shape z (shape_all exprs rest)) shape;
        places = power_places i b rest shape number q;
      }

  -- ---- one expression that is taken apart
  open_power : AreValidExprs exprs → (i base times : ℕ) (b : Bool) → eqb times 1 ≡ b → slice_get exprs i ≡ Some (expr.Power base times) → (rest : List ℕ)
      → AreAlike exprs (i ∷ rest) (cond b [] (i ∷ []) ++ (reverse (cond b (base ∷ []) []) ++ rest))
  open_power valid i base times true one at rest = alike_power valid i base (at ∙ ap (λ n. Some (expr.Power base n)) (eqb-true times 1 one)) rest
  open_power valid i base times false one at rest = alike_refl (i ∷ rest)

  alike_open : AreValidExprs exprs → (i : ℕ) (e : Expr) → slice_get exprs i ≡ Some e → (rest : List ℕ) → AreAlike exprs (i ∷ rest) (kept e i ++ (reverse (opened e) ++ rest))
  alike_open valid i (expr.Kets q terms) at rest = alike_refl (i ∷ rest)
  alike_open valid i (expr.All q) at rest = alike_refl (i ∷ rest)
  alike_open valid i (expr.Tensor l r) at rest = alike_refl (i ∷ rest)
  alike_open valid i (expr.Union l r) at rest = alike_union valid i l r at rest
  alike_open valid i (expr.Power base times) at rest = open_power valid i base times (eqb times 1) refl at rest

  below_base : (top i base times : ℕ) (b : Bool) → eqb times 1 ≡ b → IsBelow exprs top i → base < i → (size_of exprs i).qubits ≡ (size_of exprs base).qubits * times
      → All (IsBelow exprs top) (cond b (base ∷ []) [])
  below_base top i base times true one h lt q =
      let t = eqb-true times 1 one in
      let z : (size_of exprs base).qubits * times ≡ (size_of exprs base).qubits = ap (λ n. (size_of exprs base).qubits * n) t ∙ (let y : (size_of exprs base).qubits * 1 ≡ (size_of exprs base).qubits = omega arith in y) in
      All-cons (IsBelow exprs top) base [] (let k = h.0 in omega arith, sym z ∙ sym q ∙ h.1) (All-nil (IsBelow exprs top))
  below_base top i base times false one h lt q = All-nil (IsBelow exprs top)

  below_open : AreValidExprs exprs → (top i : ℕ) (e : Expr) → slice_get exprs i ≡ Some e → IsBelow exprs top i → All (IsBelow exprs top) (opened e)
  below_open valid top i (expr.Kets q terms) at h = All-nil (IsBelow exprs top)
  below_open valid top i (expr.All q) at h = All-nil (IsBelow exprs top)
  below_open valid top i (expr.Tensor l r) at h = All-nil (IsBelow exprs top)
  below_open valid top i (expr.Union l r) at h =
      let v = valid.each i (expr.Union l r) at in
      let q : (size_of exprs i).qubits ≡ (size_of exprs l).qubits = ap (λ (z : Size). z.qubits) (size-is exprs i (expr.Union l r) at v) in
      All-cons (IsBelow exprs top) r (l ∷ []) (let k = h.0 in let j = v.1 in omega arith, sym v.2 ∙ sym q ∙ h.1)
      (All-cons (IsBelow exprs top) l [] (let k = h.0 in let j = v.0 in omega arith, sym q ∙ h.1) (All-nil (IsBelow exprs top)))
  below_open valid top i (expr.Power base times) at h =
      let v = valid.each i (expr.Power base times) at in
      below_base top i base times (eqb times 1) refl h v (ap (λ (z : Size). z.qubits) (size-is exprs i (expr.Power base times) at v))

  below_one : (top i : ℕ) → IsBelow exprs top i → All (IsBelow exprs top) (i ∷ [])
  below_one top i h = All-cons (IsBelow exprs top) i [] h (All-nil (IsBelow exprs top))

  kept_power : (top i : ℕ) (b : Bool) → IsBelow exprs top i → All (IsBelow exprs top) (cond b [] (i ∷ []))
  kept_power top i true h = All-nil (IsBelow exprs top)
  kept_power top i false h = below_one top i h

  below_kept : (top i : ℕ) (e : Expr) → IsBelow exprs top i → All (IsBelow exprs top) (kept e i)
  below_kept top i (expr.Kets q terms) h = below_one top i h
  below_kept top i (expr.All q) h = below_one top i h
  below_kept top i (expr.Tensor l r) h = below_one top i h
  below_kept top i (expr.Union l r) h = All-nil (IsBelow exprs top)
  below_kept top i (expr.Power base times) h = kept_power top i (eqb times 1) h

  pub last_below : (top : ℕ) (old new : List ℕ) (i : ℕ) → old ≡ new ++ i ∷ [] → All (IsBelow exprs top) old → All (IsBelow exprs top) new × IsBelow exprs top i
  last_below top old new i e h = All-pop (IsBelow exprs top) old new (Some i) e h

  pub opening_step : AreValidExprs exprs → (top i : ℕ) (e : Expr) → slice_get exprs i ≡ Some e → (parts work old : List ℕ) → old ≡ work ++ i ∷ [] → IsOpening exprs top parts old
      → IsOpening exprs top (parts ++ kept e i) (work ++ opened e)
  opening_step valid top i e at parts work old is h =
      let last = last_below top old work i is h.waiting in
      let front : parts ++ reverse old ≡ parts ++ i ∷ reverse work = ap (λ w. parts ++ w) (ap reverse is ∙ reverse-append work (i ∷ [])) in
      let back : parts ++ (kept e i ++ (reverse (opened e) ++ reverse work)) ≡ (parts ++ kept e i) ++ reverse (work ++ opened e) =
      ap (λ w. parts ++ (kept e i ++ w)) (sym (reverse-append work (opened e))) ∙ sym (append_assoc parts (kept e i) (reverse (work ++ opened e))) in
      record {
        alike = subst (AreAlike exprs (top ∷ [])) back
            (alike_then (top ∷ []) (parts ++ i ∷ reverse work) (parts ++ (kept e i ++ (reverse (opened e) ++ reverse work))) (subst (AreAlike exprs (top ∷ [])) front h.alike)
            (alike_front parts (i ∷ reverse work) (kept e i ++ (reverse (opened e) ++ reverse work)) (alike_open valid i e at (reverse work))));
        below = All-append (IsBelow exprs top) parts (kept e i) h.below (below_kept top i e last.1);
        waiting = All-append (IsBelow exprs top) work (opened e) last.0 (below_open valid top i e at last.1);
      }

  -- ---- nodes
  pub nodes-append : (xs ys : List ℕ) → nodes_all exprs (xs ++ ys) ≡ nodes_all exprs xs + nodes_all exprs ys
  unfolding nodes_all
  nodes-append [] ys = omega arith
  nodes-append (x ∷ xs) ys = let e = nodes-append xs ys in omega arith

  pub one_node : (i : ℕ) → nodes_all exprs (i ∷ []) ≡ (size_of exprs i).nodes
  unfolding nodes_all
  one_node i = omega arith

  abbrev OpensNodes : ℕ → List ℕ → List ℕ → ℕ → Type 0
  OpensNodes i here below steps = (nodes_all exprs here + nodes_all exprs below + steps ≤ (size_of exprs i).nodes) × (nodes_all exprs below < (size_of exprs i).nodes)

  nodes_power : (i base times : ℕ) (b : Bool) → eqb times 1 ≡ b → 0 < times → (size_of exprs i).nodes ≡ times + (size_of exprs base).nodes
      → OpensNodes i (cond b [] (i ∷ [])) (cond b (base ∷ []) []) (cond b 1 0)
  unfolding nodes_all
  nodes_power i base times true one some e = let t = eqb-true times 1 one in (omega arith, omega arith)
  nodes_power i base times false one some e = (omega arith, omega arith)

  nodes_open : AreValidExprs exprs → (i : ℕ) (e : Expr) → slice_get exprs i ≡ Some e → OpensNodes i (kept e i) (opened e) (opening_steps e)
  unfolding nodes_all
  nodes_open valid i (expr.Kets q terms) at = let n = ap (λ (z : Size). z.nodes) (size-is exprs i (expr.Kets q terms) at (valid.each i (expr.Kets q terms) at)) in (omega arith, omega arith)
  nodes_open valid i (expr.All q) at = let n = ap (λ (z : Size). z.nodes) (size-is exprs i (expr.All q) at (valid.each i (expr.All q) at)) in (omega arith, omega arith)
  nodes_open valid i (expr.Tensor l r) at = let n = ap (λ (z : Size). z.nodes) (size-is exprs i (expr.Tensor l r) at (valid.each i (expr.Tensor l r) at)) in (omega arith, omega arith)
  nodes_open valid i (expr.Union l r) at = let n = ap (λ (z : Size). z.nodes) (size-is exprs i (expr.Union l r) at (valid.each i (expr.Union l r) at)) in (omega arith, omega arith)
  nodes_open valid i (expr.Power base times) at =
      nodes_power i base times (eqb times 1) refl (some_times exprs valid i base times at) (ap (λ (z : Size). z.nodes) (size-is exprs i (expr.Power base times) at (valid.each i (expr.Power base times) at)))

  pub nodes_step : AreValidExprs exprs → (i : ℕ) (e : Expr) → slice_get exprs i ≡ Some e → (parts work old : List ℕ) → old ≡ work ++ i ∷ []
      → (nodes_all exprs (parts ++ kept e i) + nodes_all exprs (work ++ opened e) + opening_steps e ≤ nodes_all exprs parts + nodes_all exprs old)
      × (nodes_all exprs (work ++ opened e) < nodes_all exprs old) × (1 ≤ nodes_all exprs old)
  nodes_step valid i e at parts work old is =
      let h = nodes_open valid i e at in
      let a = nodes-append parts (kept e i) in
      let b = nodes-append work (opened e) in
      let c = ap (nodes_all exprs) is ∙ nodes-append work (i ∷ []) in
      let d = one_node i in
      let x = h.0 in
      let y = h.1 in
      (omega arith, omega arith, omega arith)

  pub nodes_none : nodes_all exprs [] ≡ 0
  unfolding nodes_all
  nodes_none = refl

  pub last_within : (top i : ℕ) (parts work old : List ℕ) → old ≡ work ++ i ∷ [] → top < length exprs → IsOpening exprs top parts old → i < length exprs
  last_within top i parts work old is lt h = let last = (last_below top old work i is h.waiting).1.0 in omega arith

  -- ---- the sides of an expression
  pub opening_union : AreValidExprs exprs → (i l r : ℕ) → slice_get exprs i ≡ Some (expr.Union l r) → IsOpening exprs i [] (r ∷ l ∷ [])
  opening_union valid i l r at =
      let v = valid.each i (expr.Union l r) at in
      let q : (size_of exprs i).qubits ≡ (size_of exprs l).qubits = ap (λ (z : Size). z.qubits) (size-is exprs i (expr.Union l r) at v) in
      record {
        alike = alike_union valid i l r at [];
        below = All-nil (IsBelow exprs i);
        waiting = All-cons (IsBelow exprs i) r (l ∷ []) (v.1, sym v.2 ∙ sym q) (All-cons (IsBelow exprs i) l [] (v.0, sym q) (All-nil (IsBelow exprs i)));
      }

  pub fewer_union : AreValidExprs exprs → (i l r : ℕ) → slice_get exprs i ≡ Some (expr.Union l r) → nodes_all exprs (r ∷ l ∷ []) < (size_of exprs i).nodes
  unfolding nodes_all
  fewer_union valid i l r at = let n = ap (λ (z : Size). z.nodes) (size-is exprs i (expr.Union l r) at (valid.each i (expr.Union l r) at)) in omega arith

  pub opening_power : AreValidExprs exprs → (i b times : ℕ) → times ≡ 1 → slice_get exprs i ≡ Some (expr.Power b times) → IsOpening exprs i [] (b ∷ [])
  opening_power valid i b times one at =
      let h : slice_get exprs i ≡ Some (expr.Power b 1) = at ∙ ap (λ n. Some (expr.Power b n)) one in
      let v = valid.each i (expr.Power b 1) h in
      let q : (size_of exprs i).qubits ≡ (size_of exprs b).qubits * 1 = ap (λ (z : Size). z.qubits) (size-is exprs i (expr.Power b 1) h v) in
      record {
        alike = alike_power valid i b h [];
        below = All-nil (IsBelow exprs i);
        waiting = All-cons (IsBelow exprs i) b [] (v, (let e : (size_of exprs b).qubits ≡ (size_of exprs i).qubits = omega arith in e)) (All-nil (IsBelow exprs i));
      }

  pub fewer_power : AreValidExprs exprs → (i b times : ℕ) → times ≡ 1 → slice_get exprs i ≡ Some (expr.Power b times) → nodes_all exprs (b ∷ []) < (size_of exprs i).nodes
  unfolding nodes_all
  fewer_power valid i b times one at = let n = ap (λ (z : Size). z.nodes) (size-is exprs i (expr.Power b times) at (valid.each i (expr.Power b times) at)) in omega arith

pub none_left : (xs : List ℕ) → length xs ≡ 0 → xs ≡ []
none_left [] e = refl
none_left (x ∷ xs) e = absurd (omega arith)
