-- Numbers that are told up to 2^64, put together.
use Rattle.std.proofs.Common.{◌≡◌, ℕ, zero, suc, ◌+◌, ◌*◌, ◌^◌, ◌<◌, ◌≤◌, Bool, true, false, ◌||◌, if◌then◌else◌, List, [], ◌∷◌, ◌++◌, All, length, drop, get_or, refl, ap, ap₂, sym, ◌∙◌, subst, arith, drop-cons, add-one}
use Rattle.std.specs.List.{sum_by, count_by, range_with_len}
use Rattle.std.proofs.lemmas.List.Sums.{sum_by-cons, sum_by-append}
use Rattle.std.proofs.Math.Nat.{pow-le-pow_right, min-eq_left, min-eq_right}
use Rattle.aq_sets.specs.Sizes.{size_of, words}
use Rattle.aq_sets.specs.declared.sets.Sets.{Sets}
use Rattle.aq_sets.specs.Caps.{capped, capped_size, capped_sizes}
use Rattle.aq_sets.specs.declared.sizes.Size as told_size
use Rattle.aq_sets.proofs.CapLaws.{capped-sum, capped-product, capped-words}
use Rattle.aq_sets.proofs.ToldLaws.{told_at, length-told}
use Rattle.aq_prog.specs.declared.program.Program.{Program}
use Rattle.aq_obligations.specs.Bound.{IsBoundCase}
use Rattle.aq_obligations.specs.Enough.{statements, outcomes, guards, conditions, all_guards, mentioned_bits, words_of, weight_of, enough}
use Rattle.aq_obligations.specs.Worlds.{given_guards}
use Rattle.aq_obligations.specs.declared.bound.BoundCase.{BoundCase}
use Rattle.aq_obligations.specs.declared.bound.Obligation.{Obligation}
use Rattle.aq_obligations.specs.Counting.{is_named, is_named_in}
use Rattle.aq_obligations.proofs.GuardLaws.{named_append}

pub sum_told : (x y a b : ℕ) → x ≡ capped a → y ≡ capped b → capped (x + y) ≡ capped (a + b)
sum_told x y a b e f = ap₂ (λ m n. capped (m + n)) e f ∙ capped-sum a b

pub product_told : (x y a b : ℕ) → x ≡ capped a → y ≡ capped b → capped (x * y) ≡ capped (a * b)
product_told x y a b e f = ap₂ (λ m n. capped (m * n)) e f ∙ capped-product a b

pub two_small : (x e : ℕ) → x ≡ capped e → x < 64 → 2 ^ x ≡ capped (2 ^ e)
two_small x e h lt =
    let same : x ≡ e = omega (arith, h, lt) in
    let some : 0 < 2 = omega arith in
    let few : e ≤ 64 = omega (arith, h, lt) in
    let le : 2 ^ e ≤ 2 ^ 64 = pow-le-pow_right some few in
    ap (λ (n : ℕ). 2 ^ n) same ∙ sym (min-eq_left le)

pub two_large : (x e : ℕ) → x ≡ capped e → 64 ≤ x → 2 ^ 64 ≡ capped (2 ^ e)
two_large x e h ge =
    let some : 0 < 2 = omega arith in
    let many : 64 ≤ e = omega (arith, h, ge) in
    let le : 2 ^ 64 ≤ 2 ^ e = pow-le-pow_right some many in
    sym (min-eq_right le)

-- ---- one item more of a sum

pub sum_more : {A : Type 0} (f : A → ℕ) (items : List A) (i : ℕ) (d : A) (sum x new whole : ℕ) → i < length items → x ≡ capped (f (get_or items i d)) → new ≡ capped (sum + x)
    → capped (sum + sum_by f (drop i items)) ≡ whole → capped (new + sum_by f (drop (i + 1) items)) ≡ whole
sum_more {A = A} f items i d sum x new whole h e g w =
    let cut : sum_by f (drop i items) ≡ f (get_or items i d) + sum_by f (drop (i + 1) items)
    = ap (sum_by f) (drop-cons items i d h) ∙ sum_by-cons f (get_or items i d) (drop (suc i) items)
    ∙ ap (λ (k : ℕ). f (get_or items i d) + sum_by f (drop k items)) (sym (add-one i)) in
    by_parts (f (get_or items i d)) (sum_by f (drop i items)) (sum_by f (drop (i + 1) items)) cut e w
  where
    by_parts : (one now later : ℕ) → now ≡ one + later → x ≡ capped one → capped (sum + now) ≡ whole → capped (new + later) ≡ whole
    by_parts one now later c b a = omega (arith, c, b, a, g)

-- the size at a position
told_of : (s : Sets) (sizes : List told_size.Size) (i : ℕ) (x : told_size.Size) → sizes ≡ capped_sizes s.exprs → i < length sizes → x ≡ get_or sizes i x → x ≡ capped_size (size_of s.exprs i)
told_of s sizes i x e h is = told_at s.exprs sizes i x e (omega (arith, h, length-told s.exprs sizes e)) is

pub words_told : (s : Sets) (sizes : List told_size.Size) (c : BoundCase) (x : told_size.Size) (w : ℕ) → sizes ≡ capped_sizes s.exprs → c.set < length sizes → x ≡ get_or sizes c.set x → w ≡ capped (words x.shape)
    → w ≡ capped (words_of s c)
words_told s sizes c x w e h is told =
    told ∙ ap (λ (z : told_size.Size). capped (words z.shape)) (told_of s sizes c.set x e h is) ∙ capped-words (size_of s.exprs c.set).shape

pub weight_told : (s : Sets) (sizes : List told_size.Size) (c : BoundCase) (x : told_size.Size) (w p : ℕ) → sizes ≡ capped_sizes s.exprs → c.set < length sizes → x ≡ get_or sizes c.set x → w ≡ capped (words x.shape)
    → p ≡ capped (x.nodes * w) → p ≡ capped (weight_of s c)
weight_told s sizes c x w p e h is told product =
    product ∙ product_told x.nodes w (size_of s.exprs c.set).nodes (words_of s c) (ap (λ (z : told_size.Size). z.nodes) (told_of s sizes c.set x e h is)) (words_told s sizes c x w e h is told)

-- ---- one bit more

range_end : (a n : ℕ) → range_with_len a (suc n) ≡ range_with_len a n ++ (a + n) ∷ []
range_end a zero = let e : a ≡ a + 0 = omega arith in ap (λ (k : ℕ). k ∷ []) e
range_end a (suc n) =
    let e : (a + 1) + n ≡ a + suc n = omega arith in
    ap (λ (l : List ℕ). a ∷ l) (range_end (a + 1) n) ∙ ap (λ (k : ℕ). a ∷ (range_with_len (a + 1) n ++ k ∷ [])) e

one_counted : (p : ℕ → Bool) (n : ℕ) → count_by p (n ∷ []) ≡ (if p n then 1 else 0)
one_counted p n = by_test (p n)
  where
    by_test : (b : Bool) → 0 + (if b then 1 else 0) ≡ (if b then 1 else 0)
    by_test true = refl
    by_test false = refl

pub count_more : (p : ℕ → Bool) (n count : ℕ) → count ≡ count_by p (range_with_len 0 n) → count + (if p n then 1 else 0) ≡ count_by p (range_with_len 0 (n + 1))
count_more p n count e =
    let first : n ≡ 0 + n = omega arith in
    ap (λ (k : ℕ). k + (if p n then 1 else 0)) e ∙ ap (λ (k : ℕ). count_by p (range_with_len 0 n) + k) (sym (one_counted p n))
    ∙ sym (sum_by-append (λ (x : ℕ). if p x then 1 else 0) (range_with_len 0 n) (n ∷ []))
    ∙ ap (λ (l : List ℕ). count_by p l) (ap (λ (k : ℕ). range_with_len 0 n ++ k ∷ []) first ∙ sym (range_end 0 n)) ∙ ap (λ (k : ℕ). count_by p (range_with_len 0 k)) (sym (add-one n))

pub one_few : (b : Bool) → (if b then 1 else 0) ≤ 1
one_few true = omega arith
one_few false = omega arith

-- ---- the whole number

entries_told : (q x : ℕ) → q ≤ 16 → x ≡ 2 ^ suc q → x ≡ capped (2 ^ suc q)
entries_told q x h e =
    let some : 0 < 2 = omega arith in
    let few : suc q ≤ 64 = omega (arith, h) in
    let le : 2 ^ suc q ≤ 2 ^ 64 = pow-le-pow_right some few in
    e ∙ sym (min-eq_left le)

pub steps_told : (q e W L V X power from statements goal weights entries worlds first both runs builds all : ℕ) → q ≤ 16 → power ≡ capped (2 ^ e) → from ≡ capped W → statements ≡ capped L → goal ≡ capped V → weights ≡ capped X
    → entries ≡ 2 ^ suc q → worlds ≡ capped (power * from) → first ≡ capped (worlds * entries) → both ≡ capped (statements + goal) → runs ≡ capped (first * both) → builds ≡ capped (entries * weights)
    → all ≡ capped (runs + builds) → capped (8 * all) ≡ capped (8 * (2 ^ e * W * 2 ^ suc q * (L + V) + 2 ^ suc q * X))
steps_told q e W L V X power from statements goal weights entries worlds first both runs builds all few hp hf hl hg hx he hw h1 hb hr hu ha =
    let told = entries_told q entries few he in
    let worlds_is = hw ∙ product_told power from (2 ^ e) W hp hf in
    let first_is = h1 ∙ product_told worlds entries (2 ^ e * W) (2 ^ suc q) worlds_is told in
    let both_is = hb ∙ sum_told statements goal L V hl hg in
    let runs_is = hr ∙ product_told first both (2 ^ e * W * 2 ^ suc q) (L + V) first_is both_is in
    let builds_is = hu ∙ product_told entries weights (2 ^ suc q) X told hx in
    let all_is = ha ∙ sum_told runs builds (2 ^ e * W * 2 ^ suc q * (L + V)) (2 ^ suc q * X) runs_is builds_is in
    let eight : 8 ≡ capped 8 = omega arith in
    product_told 8 all 8 (2 ^ e * W * 2 ^ suc q * (L + V) + 2 ^ suc q * X) eight all_is

-- the cases of an obligation name expressions that are there
pub cases_within : (p : Program) (s : Sets) (cases same : List BoundCase) (sizes : List told_size.Size) → same ≡ cases → sizes ≡ capped_sizes s.exprs → All (IsBoundCase p s) cases
    → All (λ c. c.set < length sizes) same
cases_within p s cases same sizes e f a =
    subst (λ (k : ℕ). All (λ (c : BoundCase). c.set < k) same) (sym (length-told s.exprs sizes f))
    (subst (λ (l : List BoundCase). All (λ (c : BoundCase). c.set < length s.exprs) l) (sym e) (λ i d h. (a i d h).there))

pub case_within : (n : ℕ) (cases : List BoundCase) (i : ℕ) (c : BoundCase) → i < length cases → c ≡ get_or cases i c → All (λ c. c.set < n) cases → c.set < n
case_within n cases i c h is a = subst (λ (k : BoundCase). k.set < n) (sym is) (a i c h)

pub suc_told : (x y a : ℕ) → x ≡ capped a → y ≡ capped (1 + x) → y ≡ capped (suc a)
suc_told x y a e f = omega (arith, e, f)

named_guards : (o : Obligation) (bit : ℕ) → is_named_in bit o ≡ is_named bit (all_guards o)
named_guards o bit =
    let from = conditions o.from in
    let goal = conditions o.goal.cases in
    let given = given_guards o.given in
    ap (λ (b : Bool). is_named bit (guards o.fragment) || (is_named bit given || b)) (sym (named_append bit from goal))
    ∙ ap (λ (b : Bool). is_named bit (guards o.fragment) || b) (sym (named_append bit given (from ++ goal)))
    ∙ sym (named_append bit (guards o.fragment) (given ++ (from ++ goal)))

pub mentioned_told : (p : Program) (o : Obligation) → count_by (λ bit. is_named_in bit o) (range_with_len 0 p.bits) ≡ mentioned_bits p o
mentioned_told p o = ap (λ (test : ℕ → Bool). count_by test (range_with_len 0 p.bits)) (λ i. λ bit. named_guards o bit i)

pub enough_is : (p : Program) (s : Sets) (o : Obligation) (x : ℕ)
    → x ≡ capped (8 * (2 ^ (outcomes o.fragment + mentioned_bits p o) * sum_by (words_of s) o.from * 2 ^ suc p.qubits * (suc (statements o.fragment) + sum_by (words_of s) o.goal.cases)
    + 2 ^ suc p.qubits * (sum_by (weight_of s) o.from + sum_by (weight_of s) o.goal.cases)))
    → x ≡ capped (enough p s o)
unfolding enough
enough_is p s o x e = e

pub sum_capped : (a b : ℕ) → capped (capped a + b) ≡ capped (a + b)
sum_capped a b = omega arith
