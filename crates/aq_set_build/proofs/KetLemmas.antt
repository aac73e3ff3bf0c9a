-- Brackets and bases, level by level.
use Rattle.std.proofs.Common.{◌≡◌, ℕ, zero, suc, ◌+◌, ◌-◌, ◌*◌, ◌^◌, ◌<◌, ◌≤◌, inl, inr, List, [], ◌∷◌, ◌++◌, length, get_or, replicate, slice_get, Some, All, refl, sym, ap, subst, ◌∙◌, arith}
use Rattle.std.proofs.lemmas.Option.{slice_get_read, slice_get_within}
use Rattle.std.proofs.lemmas.List.Elements.{All-head}
use Rattle.std.proofs.Math.Nat.{mul-le-mul_left}
use Rattle.aq_ring.specs.Amplitudes.{amplitude_zero, amplitude_one}
use Rattle.aq_store.specs.declared.node.Node.TheVariants.{Leaf, Inner}
use Rattle.aq_store.specs.Nodes.{Extends}
use Rattle.aq_store.proofs.RunLemmas.{slice_get-append_cases}
use Rattle.aq_store.specs.Words.{IsWord}
use Rattle.aq_sets.specs.Vectors.{kets_vector, basis_vector}
use Rattle.aq_sets.specs.Sizes.{number_of}
use Rattle.aq_sets.specs.declared.sets.Term.{Term}
use Rattle.aq_set_build.specs.Tensors.{Table}
use Rattle.aq_set_build.specs.Brackets.{low_terms, high_terms, IsKets, AreZeros}
use Rattle.aq_set_build.specs.Bases.{IsBasis, IsNothing}
use Rattle.aq_set_build.proofs.HalfLemmas.{kets-halves, kets-last, kets-nothing, nothing-halves, basis-low, basis-high, basis-first, number-more, number-below}
use Rattle.aq_set_build.proofs.FamilyLemmas.{gives_leaf, gives-Extends, gives_pair, gives_one, gives_two}

-- ---- brackets
pub kets_leaf : (table : Table) (id n : ℕ) (ts : List Term) (t : Term) → n ≡ 0 → 0 < length ts → t ≡ get_or ts 0 t → All (λ t. t.index < 2 ^ n) ts → slice_get table id ≡ Some (Leaf t.amp) → IsKets n ts table id
kets_leaf table id n [] t e some read all at = absurd (omega arith)
kets_leaf table id n (s ∷ ts) t e some read all at =
    let lt : s.index < 2 ^ 0 = subst (λ k. s.index < 2 ^ k) e (All-head (λ t. t.index < 2 ^ n) s ts all) in
    subst (λ k. IsKets k (s ∷ ts) table id) (sym e)
    (gives_leaf (λ word. kets_vector 0 (s ∷ ts)) table id s.amp (at ∙ ap (λ (x : Term). Some (Leaf x.amp)) read) (kets-last s ts lt))

pub kets_node : (table : Table) (n m : ℕ) (ts : List Term) (id l r : ℕ) → n ≡ suc m → slice_get table id ≡ Some (Inner ((l, r) ∷ []))
    → IsKets m (low_terms (2 ^ m) ts) table l → IsKets m (high_terms (2 ^ m) ts) table r → IsKets n ts table id
kets_node table n m ts id l r e made p q =
    subst (λ k. IsKets k ts table id) (sym e)
    (gives_one (λ word. kets_vector (suc m) ts) table (replicate m 1) id l r made
    (gives_pair (λ word. kets_vector m (low_terms (2 ^ m) ts)) (λ word. kets_vector m (high_terms (2 ^ m) ts)) (λ word. kets_vector (suc m) ts) table 1 0 (replicate m 1) l r p q
    (λ word w. kets-halves m ts)))

pub kets-Extends : (old new : Table) → Extends old new → (n : ℕ) (ts : List Term) (id : ℕ) → IsKets n ts old id → IsKets n ts new id
kets-Extends old new x n ts id m = gives-Extends (λ word. kets_vector n ts) old new x (replicate n 1) id m

pub kets_empty : (table : Table) (n : ℕ) (ts : List Term) (id : ℕ) → length ts ≡ 0 → IsKets n [] table id → IsKets n ts table id
kets_empty table n [] id e m = m
kets_empty table n (t ∷ ts) id e m = absurd (omega arith)

-- ---- zeros
pub zero_first : (table : Table) (id n : ℕ) → n ≡ 0 → slice_get table id ≡ Some (Leaf amplitude_zero) → IsKets n [] table id
zero_first table id n e at = subst (λ k. IsKets k [] table id) (sym e) (gives_leaf (λ word. kets_vector 0 []) table id amplitude_zero at kets-nothing)

pub zero_next : (table : Table) (n m z id : ℕ) → n ≡ suc m → slice_get table id ≡ Some (Inner ((z, z) ∷ [])) → IsKets m [] table z → IsKets n [] table id
zero_next table n m z id e made p = kets_node table n m [] id z z e made p p

pub zero_read : (table : Table) (zs : List ℕ) (h z : ℕ) → AreZeros table zs → h < length zs → z ≡ get_or zs h z → IsKets h [] table z
zero_read table zs h z all lt read = all.each h z (slice_get_read zs (length zs) h z refl lt read)

pub zeros-Extends : (old new : Table) → Extends old new → (zs : List ℕ) → AreZeros old zs → AreZeros new zs
zeros-Extends old new x zs all = record { each = λ h i at. kets-Extends old new x h [] i (all.each h i at) }

pub zeros_none : (table : Table) (zs : List ℕ) → zs ≡ [] → AreZeros table zs
zeros_none table zs e = record { each = λ h i at. absurd (let none = slice_get_within zs h i at in let z = ap length e in omega arith) }

pub zeros_more : (old new : Table) → Extends old new → (zs all : List ℕ) (z : ℕ) → all ≡ zs ++ z ∷ [] → AreZeros old zs → IsKets (length zs) [] new z → AreZeros new all
zeros_more old new x zs all z is done last = record {
  each = λ h i at. elim (slice_get-append_cases zs (z ∷ []) h i (ap (λ l. slice_get l h) (sym is) ∙ at)) [
    | inl e ↦ kets-Extends old new x h [] i (done.each h i e)
    | inr e ↦ by h i (h - length zs) refl e.0 e.1
  ];
}
  where
    by : (h i k : ℕ) → h - length zs ≡ k → length zs ≤ h → slice_get (z ∷ []) (h - length zs) ≡ Some i → IsKets h [] new i
    by h i zero e le at =
        let same : h ≡ length zs = omega arith in
        let value : Some z ≡ Some i = ap (λ k. slice_get (z ∷ []) k) (sym e) ∙ at in
        let here : z ≡ i = cc in
        subst (λ k. IsKets k [] new i) (sym same) (subst (IsKets (length zs) [] new) here last)
    by h i (suc k) e le at = absurd (let lt = slice_get_within (z ∷ []) (h - length zs) i at in omega arith)

-- ---- what a bracket takes: h levels below, and a and b terms of k
pub kets_left : (h n a b k : ℕ) → n ≡ suc h → a + b ≡ k → 0 < k → (h + 1) * a ≤ (n + 1) * k
kets_left h n a b k e f some =
    let le : a ≤ k = omega arith in
    let m = mul-le-mul_left (h + 1) le in
    let s : (n + 1) * k ≡ (h + 1) * k + k = subst (λ x. (x + 1) * k ≡ (h + 1) * k + k) (sym e) (omega arith) in
    omega arith

pub kets_both : (h n a b k : ℕ) → n ≡ suc h → a + b ≡ k → 0 < k → (h + 1) * a + (h + 1) * b + 1 ≤ (n + 1) * k
kets_both h n a b k e f some =
    let s : (n + 1) * k ≡ (h + 1) * k + k = subst (λ x. (x + 1) * k ≡ (h + 1) * k + k) (sym e) (omega arith) in
    let t : (h + 1) * k ≡ (h + 1) * a + (h + 1) * b = ap (λ x. (h + 1) * x) (sym f) ∙ (let u : (h + 1) * (a + b) ≡ (h + 1) * a + (h + 1) * b = omega arith in u) in
    omega arith

-- ---- bases
pub basis_leaf : (table : Table) (id n : ℕ) → n ≡ 0 → slice_get table id ≡ Some (Leaf amplitude_one) → IsBasis n table id
basis_leaf table id n e at =
    subst (λ k. IsBasis k table id) (sym e) (gives_leaf (λ word. basis_vector 0 (number_of word)) table id amplitude_one at basis-first)

pub nothing_leaf : (table : Table) (id n : ℕ) → n ≡ 0 → slice_get table id ≡ Some (Leaf amplitude_zero) → IsNothing n table id
nothing_leaf table id n e at = subst (λ k. IsNothing k table id) (sym e) (gives_leaf (λ word. kets_vector 0 []) table id amplitude_zero at kets-nothing)

pub nothing_node : (table : Table) (n m z id : ℕ) → n ≡ suc m → slice_get table id ≡ Some (Inner ((z, z) ∷ (z, z) ∷ [])) → IsNothing m table z → IsNothing n table id
nothing_node table n m z id e made p =
    let pair = λ (c : ℕ). gives_pair (λ word. kets_vector m []) (λ word. kets_vector m []) (λ word. kets_vector (suc m) []) table 2 c (replicate m 2) z z p p (λ word w. nothing-halves m) in
    subst (λ k. IsNothing k table id) (sym e) (gives_two (λ word. kets_vector (suc m) []) table (replicate m 2) id (z, z) (z, z) made (pair 0) (pair 1))

first_half : (m : ℕ) (word : List ℕ) → IsWord (replicate m 2) word → basis_vector (suc m) (number_of (0 ∷ word)) ≡ basis_vector m (number_of word) ++ kets_vector m []
first_half m word w =
    let b = number-below m word w in
    let e : number_of (0 ∷ word) ≡ number_of word = number-more 0 word ∙ (let f : 0 * 2 ^ length word + number_of word ≡ number_of word = omega arith in f) in
    ap (basis_vector (suc m)) e ∙ basis-low m (number_of word) b.0

second_half : (m : ℕ) (word : List ℕ) → IsWord (replicate m 2) word → basis_vector (suc m) (number_of (1 ∷ word)) ≡ kets_vector m [] ++ basis_vector m (number_of word)
second_half m word w =
    let b = number-below m word w in
    let p : 2 ^ length word ≡ 2 ^ m = ap (λ k. 2 ^ k) b.1 in
    let e : number_of (1 ∷ word) ≡ 2 ^ m + number_of word = number-more 1 word ∙ (let f : 1 * 2 ^ length word + number_of word ≡ 2 ^ m + number_of word = omega arith in f) in
    ap (basis_vector (suc m)) e ∙ basis-high m (number_of word)

pub basis_node : (table : Table) (n m s z id : ℕ) → n ≡ suc m → slice_get table id ≡ Some (Inner ((s, z) ∷ (z, s) ∷ [])) → IsBasis m table s → IsNothing m table z → IsBasis n table id
basis_node table n m s z id e made p q =
    subst (λ k. IsBasis k table id) (sym e)
    (gives_two (λ word. basis_vector (suc m) (number_of word)) table (replicate m 2) id (s, z) (z, s) made
    (gives_pair (λ word. basis_vector m (number_of word)) (λ word. kets_vector m []) (λ word. basis_vector (suc m) (number_of word)) table 2 0 (replicate m 2) s z p q (first_half m))
    (gives_pair (λ word. kets_vector m []) (λ word. basis_vector m (number_of word)) (λ word. basis_vector (suc m) (number_of word)) table 2 1 (replicate m 2) z s q p (second_half m)))

pub basis-Extends : (old new : Table) → Extends old new → (n id : ℕ) → IsBasis n old id → IsBasis n new id
basis-Extends old new x n id m = gives-Extends (λ word. basis_vector n (number_of word)) old new x (replicate n 2) id m

pub nothing-Extends : (old new : Table) → Extends old new → (n id : ℕ) → IsNothing n old id → IsNothing n new id
nothing-Extends old new x n id m = gives-Extends (λ word. kets_vector n []) old new x (replicate n 2) id m
