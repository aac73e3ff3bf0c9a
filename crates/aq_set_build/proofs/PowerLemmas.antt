-- Powers, one time more.
use Rattle.std.proofs.Common.{◌≡◌, ℕ, zero, suc, ◌+◌, ◌-◌, ◌*◌, ◌^◌, ◌<◌, ◌≤◌, List, ◌++◌, length, take, drop, refl, sym, ap, subst, ◌∙◌, arith}
use Rattle.std.specs.List.{repeat}
use Rattle.std.proofs.Math.Nat.{mul-le-mul_left, mul-le-mul_right}
use Rattle.std.proofs.lemmas.List.{append-nil}
use Rattle.aq_ring.specs.Fractions.{Amplitude}
use Rattle.aq_store.specs.declared.lsta.Lsta.{Lsta}
use Rattle.aq_store.specs.Nodes.{FitsStore, Extends, vector_of}
use Rattle.aq_store.proofs.ShapeLemmas.{tree-Extends-shape}
use Rattle.aq_sets.specs.Vectors.{Vector, pairs}
use Rattle.aq_sets.proofs.SizeLaws.{length-repeat}
use Rattle.aq_sets.proofs.ToldLaws.{repeat_more}
use Rattle.aq_set_build.specs.Budgets.{weight}
use Rattle.aq_set_build.specs.Products.{IsTensorOf, IsWideAmong}
use Rattle.aq_set_build.specs.Tensors.{Table, IsTensor, IsTensorCause}
use Rattle.aq_set_build.specs.Powers.{IsPower, IsPowerCause}
use Rattle.aq_set_build.proofs.WeightLemmas.{AreSome, many, weight-is, leaves-append, many_some, power_some}

-- ---- weights
leaves : List ℕ → ℕ
leaves s = many s * 2 ^ length s

leaves_some : (s : List ℕ) → AreSome s → 1 ≤ leaves s
unfolding leaves
leaves_some s some = omega (arith, mul-le-mul_left (many s) (power_some (length s)), many_some s some)

leaves-more : (n : ℕ) (b : List ℕ) → AreSome b → leaves (repeat n b) ≤ leaves (repeat (suc n) b)
unfolding leaves
leaves-more n b some =
    let e = leaves-append b (repeat n b) in
    let h = leaves_some b some in
    omega (arith, mul-le-mul_right (many (repeat n b) * 2 ^ length (repeat n b)) h)

leaves_grow : (n k : ℕ) (b : List ℕ) → AreSome b → leaves (repeat n b) ≤ leaves (repeat (n + k) b)
leaves_grow n zero b some = let e : n + zero ≡ n = omega arith in subst (λ m. leaves (repeat n b) ≤ leaves (repeat m b)) (sym e) (omega arith)
leaves_grow n (suc k) b some =
    let e : n + suc k ≡ suc (n + k) = omega arith in
    subst (λ m. leaves (repeat n b) ≤ leaves (repeat m b)) (sym e) (let a = leaves_grow n k b some in let c = leaves-more (n + k) b some in omega arith)

pub power_weight : (n t : ℕ) (b : List ℕ) → AreSome b → n ≤ t → weight (repeat n b) ≤ weight (repeat t b)
unfolding leaves
power_weight n t b some le =
    let e : n + (t - n) ≡ t = omega arith in
    let g = subst (λ m. leaves (repeat n b) ≤ leaves (repeat m b)) e (leaves_grow n (t - n) b some) in
    omega (arith, weight-is (repeat n b), weight-is (repeat t b), g)

-- the tensor product of n times the base and the base
pub more_weight : (n t : ℕ) (b made : List ℕ) → AreSome b → made ≡ repeat n b → suc n ≤ t → weight (made ++ b) ≤ weight (repeat t b)
more_weight n t b made some is le =
    subst (λ s. weight s ≤ weight (repeat t b)) (sym (ap (λ s. s ++ b) is ∙ repeat_more n b)) (power_weight (suc n) t b some le)

pub first_weight : (t : ℕ) (b : List ℕ) → AreSome b → 2 ≤ t → weight (b ++ b) ≤ weight (repeat t b)
first_weight t b some le = more_weight 1 t b b some (sym (append-nil b)) le

-- ---- what the steps come to
pub first_cost : (t w x : ℕ) → 2 ≤ t → x ≤ w → 2 * x ≤ (t - 1) * (2 * w)
first_cost t w x le h =
    let one : 1 ≤ t - 1 = omega arith in
    omega (arith, mul-le-mul_right (2 * w) one)

pub more_cost : (n w x : ℕ) → 1 ≤ n → x ≤ w → (n - 1) * (2 * w) + 2 * x ≤ n * (2 * w)
more_cost zero w x some h = absurd (omega arith)
more_cost (suc n) w x some h = let e : suc n - 1 ≡ n = omega arith in rw e (omega arith)

pub last_cost : (n t w : ℕ) → n < t → n * (2 * w) ≤ (t - 1) * (2 * w)
last_cost n t w lt = let le : n ≤ t - 1 = omega arith in mul-le-mul_right (2 * w) le

-- ---- meanings
same_of : (u w x y v : Vector) → u ≡ w → x ≡ y → IsTensorOf u x v → IsTensorOf w y v
same_of u w x y v a b h = subst (λ z. IsTensorOf w z v) b (subst (λ z. IsTensorOf z x v) a h)

pub power_first : (old new : Table) (base made : Lsta) → IsTensor old new base base made → IsPower 2 old new base made
power_first old new base made h =
    let b = base.shape.items in
    let one : length base.shape.items ≡ length base.shape.items * 1 = omega arith in
    record {
      shape = h.shape ∙ ap (λ s. b ++ s) (sym (append-nil b));
      fits_store = h.fits_store;
      words = λ word. (
        vector_of old base (take (length base.shape.items * 1) word),
        refl,
        same_of _ _ _ _ (vector_of new made word) (ap (λ k. vector_of old base (take k word)) one) (ap (λ k. vector_of old base (drop k word)) one) (h.words word),
      );
    }

pub power_more : (start old new : Table) → Extends start old → (m : ℕ) (base made next : Lsta) → FitsStore start base → IsPower (suc m) start old base made → IsTensor old new made base next
    → IsPower (suc (suc m)) start new base next
power_more start old new x m base made next fits p h =
    let long : length made.shape.items ≡ length base.shape.items * suc m = ap length p.shape ∙ length-repeat (suc m) base.shape.items in
    record {
      shape = h.shape ∙ ap (λ s. s ++ base.shape.items) p.shape ∙ repeat_more (suc m) base.shape.items;
      fits_store = h.fits_store;
      words = λ word. (
        vector_of old made (take (length base.shape.items * suc m) word),
        p.words (take (length base.shape.items * suc m) word),
        same_of _ _ _ _ (vector_of new next word) (ap (λ k. vector_of old made (take k word)) long)
            (ap (λ k. vector_of old base (drop k word)) long ∙ tree-Extends-shape start old x base.shape.items base.root fits (drop (length base.shape.items * suc m) word)) (h.words word),
      );
    }

-- ---- causes
pub power_cause_first : (t : ℕ) (table : Table) (base : Lsta) → 2 ≤ t → (l r : Amplitude) → IsTensorCause table base base l r → IsPowerCause t table base l r
power_cause_first t table base le l r h = record {
  fewer = 0;
  less = omega arith;
  first = h.first;
  second = h.second;
  vector = vector_of table base h.first;
  gives = refl;
  among = h.among;
}

pub power_cause_more : (t m : ℕ) (start old : Table) → Extends start old → (base made : Lsta) → FitsStore start base → IsPower (suc m) start old base made → suc m < t → (l r : Amplitude)
    → IsTensorCause old made base l r → IsPowerCause t start base l r
power_cause_more t m start old x base made fits p lt l r h = record {
  fewer = m;
  less = lt;
  first = h.first;
  second = h.second;
  vector = vector_of old made h.first;
  gives = p.words h.first;
  among = subst (λ u. IsWideAmong (pairs (vector_of old made h.first) u) l r) (tree-Extends-shape start old x base.shape.items base.root fits h.second) h.among;
}

pub power_at : (n m : ℕ) → n ≡ m → (old new : Table) (base made : Lsta) → IsPower n old new base made → IsPower m old new base made
power_at n m e old new base made p = subst (λ k. IsPower k old new base made) e p
