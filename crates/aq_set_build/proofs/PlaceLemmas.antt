-- Where words lead, side by side.
use Rattle.std.proofs.Common.{◌≡◌, ℕ, zero, suc, ◌+◌, ◌-◌, ◌*◌, ◌<◌, ◌≤◌, cond, ltb, min, List, [], ◌∷◌, ◌++◌, length, take, drop, get_or, map, slice_get, Some, refl, sym, ap, ap₂, ◌∙◌, arith}
use Rattle.std.proofs.Math.Nat.{mul-le-mul_left}
use Rattle.std.proofs.lemmas.List.{take-take, take_all, take_rest, drop-take, length-map, length-drop, length-take-le}
use Rattle.std.proofs.lemmas.Option.{slice_get_within, get_or_from_slice_get}
use Rattle.aq_sets.specs.Caps.{most_told, capped, capped_size, capped_sizes}
use Rattle.aq_sets.specs.Sizes.{Size, size_of, Placing, place, number_of, power_place, shortened, lower, first_number}
use Rattle.aq_sets.specs.declared.sizes.Size as told
use Rattle.aq_sets.specs.declared.sets.Expr.{Expr}
use Rattle.aq_sets.specs.declared.sets.Expr.TheVariants as expr
use Rattle.aq_sets.specs.declared.sets.Term.{Term}
use Rattle.aq_sets.specs.ValidExprs.{AreValidExprs}
use Rattle.aq_sets.proofs.CapLaws.{capped-sum, capped-product}
use Rattle.aq_sets.proofs.ExprLaws.{size-is}
use Rattle.aq_sets.proofs.PlaceLaws.{place_by, place-is}
use Rattle.aq_sets.proofs.SizeLaws.{has_shape}
use Rattle.aq_sets.proofs.ToldLaws.{told_at, length-told}
use Rattle.aq_set_build.specs.Places.{Enters, IsNoUnion}
use Rattle.aq_set_build.proofs.CoverLemmas.{chosen, other, lt-ltb, le-ltb}

-- ---- words of sides
shortened_push : (s w : List ℕ) (i : ℕ) → length s ≡ length w → i < length w
    → shortened (take (i + 1) s) (take (i + 1) w) ≡ shortened (take i s) (take i w) ++ min (get_or w i 0) (get_or s i 0 - 1) ∷ []
shortened_push [] [] i e lt = absurd (omega arith)
shortened_push [] (c ∷ w) i e lt = absurd (omega arith)
shortened_push (n ∷ s) [] i e lt = absurd (omega arith)
shortened_push (n ∷ s) (c ∷ w) zero e lt = refl
shortened_push (n ∷ s) (c ∷ w) (suc i) e lt =
    let next : suc i + 1 ≡ suc (i + 1) = omega arith in
    ap (λ k. shortened (take k (n ∷ s)) (take k (c ∷ w))) next ∙ ap (λ l. min c (n - 1) ∷ l) (shortened_push s w i (omega arith) (omega arith))

length-shortened : (s w : List ℕ) → length s ≡ length w → length (shortened s w) ≡ length w
length-shortened [] w e = refl
length-shortened (n ∷ s) [] e = refl
length-shortened (n ∷ s) (c ∷ w) e = ap suc (length-shortened s w (omega arith))

-- the later choices of the first i levels, each cut to its level
abbrev pub cut : List ℕ → List ℕ → ℕ → List ℕ
cut s w i = shortened (lower (take i s)) (lower (take i w))

pub cut_push : (s w : List ℕ) (i : ℕ) → length s ≡ length w → 0 < i → i < length w → cut s w (i + 1) ≡ cut s w i ++ min (get_or w i 0) (get_or s i 0 - 1) ∷ []
cut_push [] w i e some lt = absurd (omega arith)
cut_push (n ∷ s) [] i e some lt = absurd (omega arith)
cut_push (n ∷ s) (c ∷ w) zero e some lt = absurd (omega arith)
cut_push (n ∷ s) (c ∷ w) (suc i) e some lt =
    let next : suc i + 1 ≡ suc (i + 1) = omega arith in
    ap (λ k. cut (n ∷ s) (c ∷ w) k) next ∙ shortened_push s w i (omega arith) (omega arith)

pub get_or-told : (s : List ℕ) (i : ℕ) → get_or (map capped s) i 0 ≡ capped (get_or s i 0)
get_or-told [] i = refl
get_or-told (n ∷ s) zero = refl
get_or-told (n ∷ s) (suc i) = get_or-told s i

-- one more of them
pub cut_more : (numbers shape word items pushed : List ℕ) (first level choice last : ℕ) → length shape ≡ length word → 1 ≤ level → level < length word → shape ≡ map capped numbers
    → items ≡ first ∷ cut numbers word level → pushed ≡ items ++ choice ∷ [] → last ≡ get_or shape level 0 - 1 → choice ≡ min (get_or word level 0) last → get_or word level 0 < most_told
    → pushed ≡ first ∷ cut numbers word (level + 1)
cut_more numbers shape word items pushed first level choice last same some lt e h push l c few =
    let n : length numbers ≡ length word = sym (ap length e ∙ length-map numbers capped) ∙ same in
    let g : get_or shape level 0 ≡ capped (get_or numbers level 0) = ap (λ z. get_or z level 0) e ∙ get_or-told numbers level in
    let m : choice ≡ min (get_or word level 0) (get_or numbers level 0 - 1) = omega arith in
    push ∙ ap (λ z. z ++ choice ∷ []) h ∙ ap (λ z. first ∷ (cut numbers word level ++ z ∷ [])) m ∙ ap (λ z. first ∷ z) (sym (cut_push numbers word level n some lt))

first_is : (s : List ℕ) → get_or s 0 0 ≡ first_number s
first_is [] = refl
first_is (n ∷ s) = refl

-- a word of a side, of the choices of a union's word
abbrev pub IsSideWord : List ℕ → ℕ → List ℕ → List ℕ → Type 0
IsSideWord told first word rest = (numbers : List ℕ) → told ≡ map capped numbers → rest ≡ first ∷ shortened (lower numbers) (lower word)

length-side : (s : List ℕ) (c : ℕ) (word rest : List ℕ) → length s ≡ length word → 0 < length word → rest ≡ c ∷ shortened (lower s) (lower word) → length rest ≡ length word
length-side s c [] rest e some h = absurd (omega arith)
length-side [] c (b ∷ w) rest e some h = absurd (omega arith)
length-side (n ∷ s) c (b ∷ w) rest e some h = ap length h ∙ ap suc (length-shortened s w (omega arith))

-- ---- numbers that are told
pub both_told : (p c f x y z : ℕ) → p ≡ capped x → c ≡ capped y → f ≡ capped z → capped (capped (p * c) + f) ≡ capped (x * y + z)
both_told p c f x y z a b d = (λ k. capped (capped (a k * b k) + d k)) ∙ ap (λ w. capped (w + capped z)) (capped-product x y) ∙ capped-sum (x * y) z

-- ---- powers
pub power_more : (b : Size) (f : Placing) (word : List ℕ) (i : ℕ) → power_place (suc i) b f (take (b.qubits * suc i) word)
    ≡ power_place i b f (take (b.qubits * i) word) * b.count + f (take b.qubits (drop (b.qubits * i) word))
power_more b f word zero =
    let none : b.qubits * 0 ≡ 0 = omega arith in
    let one : b.qubits * 1 ≡ b.qubits = omega arith in
    ap (λ k. f (take k word)) one ∙ ap (λ k. f (take b.qubits (drop k word))) (sym none) ∙ (let e : f (take b.qubits (drop (b.qubits * 0) word)) ≡ 0 * b.count + f (take b.qubits (drop (b.qubits * 0) word)) = omega arith in e)
power_more b f word (suc n) =
    let q = b.qubits in
    let more : q * suc (suc n) ≡ q * suc n + q = omega arith in
    let front : take (q * suc n) (take (q * suc (suc n)) word) ≡ take (q * suc n) word = take-take (q * suc n) (q * suc (suc n)) word (omega arith) in
    let back : drop (q * suc n) (take (q * suc (suc n)) word) ≡ take q (drop (q * suc n) word) = ap (λ k. drop (q * suc n) (take k word)) more ∙ drop-take (q * suc n) q word in
    (λ k. power_place (suc n) b f (front k) * b.count + f (back k))

-- ---- parts of words
pub part_is : (word : List ℕ) (start width q i : ℕ) → start ≡ q * i → take (start + width - start) (drop start word) ≡ take width (drop (q * i) word)
part_is word start width q i e =
    let n : start + width - start ≡ width = omega arith in
    ap (λ k. take k (drop start word)) n ∙ ap (λ k. take width (drop k word)) e

pub part_long : (word : List ℕ) (start width : ℕ) → start + width ≤ length word → length (take (start + width - start) (drop start word)) ≡ width
part_long word start width le =
    let n : start + width - start ≡ width = omega arith in
    let d = length-drop start word in
    ap (λ k. length (take k (drop start word))) n ∙ length-take-le width (drop start word) (omega arith)

pub part_within : (q i times start width long : ℕ) → start ≡ q * i → width ≡ q → i < times → long ≡ q * times → start + width ≤ long
part_within q i times start width long s w lt e =
    let some : suc i ≤ times = omega arith in
    let m : q * suc i ≤ q * times = mul-le-mul_left q some in
    let more : q * suc i ≡ q * i + q = omega arith in
    omega arith

pub front_long : (word : List ℕ) (seam : ℕ) → seam ≤ length word → length (take seam word) ≡ seam
front_long word seam le = length-take-le seam word le

pub back_long : (word : List ℕ) (seam : ℕ) → length (take (length word - seam) (drop seam word)) ≡ length word - seam
back_long word seam = ap length (take_rest word seam) ∙ length-drop seam word

pub capped_small : (p n : ℕ) → p < n → n ≤ most_told → capped p ≡ p
capped_small p n lt le = omega arith

-- ---- what is no union
pub no_union_of : (exprs : List Expr) (i : ℕ) (x : Expr) → x ≡ get_or exprs i x → ((l r : ℕ) → x ≡ expr.Union l r → ⊥) → IsNoUnion exprs i
no_union_of exprs i x is h = record { none = λ l r at. h l r (is ∙ get_or_from_slice_get exprs i (expr.Union l r) x at) }

pub power_no_union : (x : Expr) (b times l r : ℕ) → x ≡ expr.Power b times → x ≡ expr.Union l r → ⊥
power_no_union x b times l r p u = cc

-- ---- one step
module _ (exprs : List Expr) (valid : AreValidExprs exprs) where
  pub enters_self : (i : ℕ) (word : List ℕ) → Enters exprs i word 0 i word
  enters_self i word = record {
    earlier = omega arith;
    level = refl;
    long = refl;
    before = 0;
    is_told = refl;
    leads = omega arith;
  }

  pub enters_then : (i j k a b : ℕ) (u v w : List ℕ) → Enters exprs i u a j v → Enters exprs j v b k w → Enters exprs i u (capped (a + b)) k w
  enters_then i j k a b u v w h g = record {
    earlier = let x = h.earlier in let y = g.earlier in omega arith;
    level = g.level ∙ h.level;
    long = g.long ∙ h.long;
    before = h.before + g.before;
    is_told = ap₂ (λ x y. capped (x + y)) h.is_told g.is_told ∙ capped-sum h.before g.before;
    leads = let x = h.leads in let y = g.leads in omega arith;
  }

  pub entered : (i j a p : ℕ) (u v : List ℕ) → Enters exprs i u a j v → p ≡ capped (place exprs j v) → capped (a + p) ≡ capped (place exprs i u)
  entered i j a p u v h e =
      ap₂ (λ x y. capped (x + y)) h.is_told e ∙ capped-sum h.before (place exprs j v) ∙ ap capped (sym h.leads)

  pub enters_base : (i b : ℕ) (word : List ℕ) → slice_get exprs i ≡ Some (expr.Power b 1) → Enters exprs i word 0 b word
  unfolding place_by
  enters_base i b word at =
      let v = valid.each i (expr.Power b 1) at in
      let q : place exprs i ≡ place exprs b = place-is exprs i (expr.Power b 1) at v in
      let s = ap (λ (z : Size). z.qubits) (size-is exprs i (expr.Power b 1) at v) in
      record {
        earlier = omega (arith, v);
        level = omega arith;
        long = refl;
        before = 0;
        is_told = refl;
        leads = ap (λ f. f word) q ∙ (let e : place exprs b word ≡ 0 + place exprs b word = omega arith in e);
      }

  -- the levels of the sides of a union
  pub sides_long : (i l r : ℕ) → slice_get exprs i ≡ Some (expr.Union l r) → (l < i) × (r < i) × (i < length exprs)
      × (length (size_of exprs l).shape ≡ (size_of exprs i).qubits) × (length (size_of exprs r).shape ≡ (size_of exprs i).qubits) × (0 < (size_of exprs i).qubits)
  sides_long i l r at =
      let n = slice_get_within exprs i (expr.Union l r) at in
      let v = valid.each i (expr.Union l r) at in
      let q : (size_of exprs i).qubits ≡ (size_of exprs l).qubits = ap (λ (z : Size). z.qubits) (size-is exprs i (expr.Union l r) at v) in
      (v.0, v.1, n, has_shape exprs valid l (let z = v.0 in omega arith) ∙ sym q, has_shape exprs valid r (let z = v.1 in omega arith) ∙ sym v.2 ∙ sym q, (valid.qubits i n).0)

  -- what is told of the sides of a union
  pub sides_told : (sizes : List told.Size) → sizes ≡ capped_sizes exprs → (i l r : ℕ) → slice_get exprs i ≡ Some (expr.Union l r) → (a b : told.Size) → a ≡ get_or sizes l a → b ≡ get_or sizes r b
      → (a ≡ capped_size (size_of exprs l)) × (b ≡ capped_size (size_of exprs r)) × (length a.shape ≡ (size_of exprs i).qubits) × (length b.shape ≡ (size_of exprs i).qubits)
  sides_told sizes e i l r at a b x y =
      let s = sides_long i l r at in
      let p = told_at exprs sizes l a e (let u = s.0 in let v = s.2 in omega arith) x in
      let q = told_at exprs sizes r b e (let u = s.1 in let v = s.2 in omega arith) y in (
        p,
        q,
        ap (λ (z : told.Size). length z.shape) p ∙ length-map (size_of exprs l).shape capped ∙ s.3,
        ap (λ (z : told.Size). length z.shape) q ∙ length-map (size_of exprs r).shape capped ∙ s.4,
      )

  union_at : (i l r c : ℕ) (w : List ℕ) → slice_get exprs i ≡ Some (expr.Union l r) → place exprs i (c ∷ w) ≡ cond (ltb c (first_number (size_of exprs l).shape))
      (place exprs l (c ∷ shortened (lower (size_of exprs l).shape) w)) ((size_of exprs l).count + place exprs r ((c - first_number (size_of exprs l).shape) ∷ shortened (lower (size_of exprs r).shape) w))
  unfolding place_by
  union_at i l r c w at = ap (λ f. f (c ∷ w)) (place-is exprs i (expr.Union l r) at (valid.each i (expr.Union l r) at))

  side_levels : (i l r : ℕ) → slice_get exprs i ≡ Some (expr.Union l r) → ((size_of exprs l).qubits ≡ (size_of exprs i).qubits) × ((size_of exprs r).qubits ≡ (size_of exprs i).qubits)
  side_levels i l r at =
      let v = valid.each i (expr.Union l r) at in
      let q : (size_of exprs i).qubits ≡ (size_of exprs l).qubits = ap (λ (z : Size). z.qubits) (size-is exprs i (expr.Union l r) at v) in
      (sym q, sym v.2 ∙ sym q)

  pub enters_left : (i l r c : ℕ) (word rest : List ℕ) (a : told.Size) → slice_get exprs i ≡ Some (expr.Union l r) → length word ≡ (size_of exprs i).qubits
      → a ≡ capped_size (size_of exprs l) → c ≡ get_or word 0 0 → c < get_or a.shape 0 0 → IsSideWord a.shape c word rest → Enters exprs i word 0 l rest
  enters_left i l r c [] rest a at long is e lt h = absurd (let s = sides_long i l r at in let t = s.5 in omega arith)
  enters_left i l r c (b ∷ w) rest a at long is e lt h =
      let s = sides_long i l r at in
      let n = (size_of exprs l).shape in
      let x : a.shape ≡ map capped n = ap (λ (z : told.Size). z.shape) is in
      let f : get_or a.shape 0 0 ≡ capped (first_number n) = ap (λ z. get_or z 0 0) x ∙ get_or-told n 0 ∙ ap capped (first_is n) in
      let word_is : rest ≡ b ∷ shortened (lower n) w = h n x ∙ ap (λ z. z ∷ shortened (lower n) w) e in
      let low : b < first_number n = omega arith in
      record {
        earlier = let t = s.0 in omega arith;
        level = (side_levels i l r at).0;
        long = length-side n c (b ∷ w) rest (s.3 ∙ sym long) (omega arith) (h n x);
        before = 0;
        is_told = refl;
        leads = union_at i l r b w at ∙ chosen (ltb b (first_number n)) _ _ (lt-ltb b (first_number n) low) ∙ ap (place exprs l) (sym word_is)
            ∙ (let z : place exprs l rest ≡ 0 + place exprs l rest = omega arith in z);
      }

  pub enters_right : (i l r c d : ℕ) (word rest : List ℕ) (a b : told.Size) → slice_get exprs i ≡ Some (expr.Union l r) → length word ≡ (size_of exprs i).qubits
      → a ≡ capped_size (size_of exprs l) → b ≡ capped_size (size_of exprs r) → c ≡ get_or word 0 0 → c < most_told → get_or a.shape 0 0 ≤ c → d ≡ c - get_or a.shape 0 0
      → IsSideWord b.shape d word rest → Enters exprs i word a.count r rest
  enters_right i l r c d [] rest a b at long is its e few le minus h = absurd (let s = sides_long i l r at in let t = s.5 in omega arith)
  enters_right i l r c d (k ∷ w) rest a b at long is its e few le minus h =
      let s = sides_long i l r at in
      let n = (size_of exprs l).shape in
      let m = (size_of exprs r).shape in
      let x : a.shape ≡ map capped n = ap (λ (z : told.Size). z.shape) is in
      let y : b.shape ≡ map capped m = ap (λ (z : told.Size). z.shape) its in
      let f : get_or a.shape 0 0 ≡ capped (first_number n) = ap (λ z. get_or z 0 0) x ∙ get_or-told n 0 ∙ ap capped (first_is n) in
      let high : first_number n ≤ k = omega arith in
      let same : d ≡ k - first_number n = omega arith in
      let word_is : rest ≡ (k - first_number n) ∷ shortened (lower m) w = h m y ∙ ap (λ z. z ∷ shortened (lower m) w) same in
      record {
        earlier = let t = s.1 in omega arith;
        level = (side_levels i l r at).1;
        long = length-side m d (k ∷ w) rest (s.4 ∙ sym long) (omega arith) (h m y);
        before = (size_of exprs l).count;
        is_told = ap (λ (z : told.Size). z.count) is;
        leads = union_at i l r k w at ∙ other (ltb k (first_number n)) _ _ (le-ltb k (first_number n) high)
            ∙ ap (λ z. (size_of exprs l).count + place exprs r z) (sym word_is);
      }

  -- ---- tensor products and powers
  pub factors_told : (sizes : List told.Size) → sizes ≡ capped_sizes exprs → (i l r : ℕ) → slice_get exprs i ≡ Some (expr.Tensor l r) → (a b : told.Size) → a ≡ get_or sizes l a → b ≡ get_or sizes r b
      → (a ≡ capped_size (size_of exprs l)) × (b ≡ capped_size (size_of exprs r)) × ((size_of exprs i).qubits ≡ a.qubits + b.qubits)
  factors_told sizes e i l r at a b x y =
      let n = slice_get_within exprs i (expr.Tensor l r) at in
      let v = valid.each i (expr.Tensor l r) at in
      let s = ap (λ (z : Size). z.qubits) (size-is exprs i (expr.Tensor l r) at v) in
      let p = told_at exprs sizes l a e (let u = v.0 in omega arith) x in
      let q = told_at exprs sizes r b e (let u = v.1 in omega arith) y in
      (p, q, s ∙ ap₂ (λ (z w : told.Size). z.qubits + w.qubits) (sym p) (sym q))

  pub tensor_told : (i l r first second : ℕ) (word : List ℕ) (a b : told.Size) → slice_get exprs i ≡ Some (expr.Tensor l r) → a ≡ capped_size (size_of exprs l) → b ≡ capped_size (size_of exprs r)
      → first ≡ capped (place exprs l (take a.qubits word)) → second ≡ capped (place exprs r (drop a.qubits word)) → capped (capped (first * b.count) + second) ≡ capped (place exprs i word)
  unfolding place_by
  tensor_told i l r first second word a b at p q h g =
      let n = ap (λ (z : told.Size). z.qubits) p in
      both_told first b.count second (place exprs l (take (size_of exprs l).qubits word)) (size_of exprs r).count (place exprs r (drop (size_of exprs l).qubits word))
      (h ∙ ap (λ k. capped (place exprs l (take k word))) n) (ap (λ (z : told.Size). z.count) q) (g ∙ ap (λ k. capped (place exprs r (drop k word))) n)
      ∙ ap (λ f. capped (f word)) (sym (place-is exprs i (expr.Tensor l r) at (valid.each i (expr.Tensor l r) at)))

  pub base_within : (sizes : List told.Size) → sizes ≡ capped_sizes exprs → (i b times : ℕ) → slice_get exprs i ≡ Some (expr.Power b times) → (b < i) × (b < length sizes) × (b < length exprs) × ((size_of exprs i).qubits ≤ 16)
  base_within sizes e i b times at =
      let n = slice_get_within exprs i (expr.Power b times) at in
      let v = valid.each i (expr.Power b times) at in
      let t = length-told exprs sizes e in
      (v, omega (arith, v), omega (arith, v), (valid.qubits i n).1)

  pub factors_within : (sizes : List told.Size) → sizes ≡ capped_sizes exprs → (i l r : ℕ) → slice_get exprs i ≡ Some (expr.Tensor l r)
      → (l < i) × (r < i) × (l < length sizes) × (r < length sizes) × (l < length exprs) × (r < length exprs)
  factors_within sizes e i l r at =
      let n = slice_get_within exprs i (expr.Tensor l r) at in
      let v = valid.each i (expr.Tensor l r) at in
      let t = length-told exprs sizes e in
      (v.0, v.1, omega (arith, v.0), omega (arith, v.1), omega (arith, v.0), omega (arith, v.1))

  pub base_told : (sizes : List told.Size) → sizes ≡ capped_sizes exprs → (i b times : ℕ) → slice_get exprs i ≡ Some (expr.Power b times) → (a : told.Size) → a ≡ get_or sizes b a
      → (a ≡ capped_size (size_of exprs b)) × (b < i) × (i < length exprs) × ((size_of exprs i).qubits ≡ (size_of exprs b).qubits * times)
  base_told sizes e i b times at a x =
      let n = slice_get_within exprs i (expr.Power b times) at in
      let v = valid.each i (expr.Power b times) at in
      (told_at exprs sizes b a e (omega (arith, v)) x, v, n, ap (λ (z : Size). z.qubits) (size-is exprs i (expr.Power b times) at v))

  pub power_told : (i b times told : ℕ) (word : List ℕ) → slice_get exprs i ≡ Some (expr.Power b times) → length word ≡ (size_of exprs b).qubits * times
      → told ≡ capped (power_place times (size_of exprs b) (place exprs b) (take ((size_of exprs b).qubits * times) word)) → told ≡ capped (place exprs i word)
  unfolding place_by
  power_told i b times told word at long h =
      h ∙ ap (λ w. capped (power_place times (size_of exprs b) (place exprs b) w)) (take_all ((size_of exprs b).qubits * times) word (omega arith))
      ∙ ap (λ f. capped (f word)) (sym (place-is exprs i (expr.Power b times) at (valid.each i (expr.Power b times) at)))

  pub power_step : (b i width told count factor : ℕ) (word : List ℕ) → width ≡ (size_of exprs b).qubits → count ≡ capped (size_of exprs b).count
      → told ≡ capped (power_place i (size_of exprs b) (place exprs b) (take ((size_of exprs b).qubits * i) word)) → factor ≡ capped (place exprs b (take width (drop ((size_of exprs b).qubits * i) word)))
      → capped (capped (told * count) + factor) ≡ capped (power_place (i + 1) (size_of exprs b) (place exprs b) (take ((size_of exprs b).qubits * (i + 1)) word))
  power_step b i width told count factor word w c h g =
      let next : i + 1 ≡ suc i = omega arith in
      both_told told count factor _ _ _ h c (g ∙ ap (λ k. capped (place exprs b (take k (drop ((size_of exprs b).qubits * i) word)))) w)
      ∙ ap capped (sym (power_more (size_of exprs b) (place exprs b) word i))
      ∙ ap (λ k. capped (power_place k (size_of exprs b) (place exprs b) (take ((size_of exprs b).qubits * k) word))) (sym next)

  pub kets_told : (i q : ℕ) (terms : List Term) (word : List ℕ) → slice_get exprs i ≡ Some (expr.Kets q terms) → 0 ≡ capped (place exprs i word)
  unfolding place_by
  kets_told i q terms word at = ap (λ f. capped (f word)) (sym (place-is exprs i (expr.Kets q terms) at (valid.each i (expr.Kets q terms) at)))

  pub basis_told : (i q : ℕ) (word : List ℕ) → slice_get exprs i ≡ Some (expr.All q) → capped (number_of word) ≡ capped (place exprs i word)
  unfolding place_by
  basis_told i q word at = ap (λ f. capped (f word)) (sym (place-is exprs i (expr.All q) at (valid.each i (expr.All q) at)))
