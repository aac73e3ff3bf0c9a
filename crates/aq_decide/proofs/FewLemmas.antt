-- How many worlds come of a case, and what playing them takes.
use Rattle.std.proofs.Common.{◌≡◌, ℕ, zero, suc, ◌+◌, ◌-◌, ◌*◌, ◌^◌, ◌<◌, ◌≤◌, ◌==◌, ◌||◌, Bool, true, false, cond, List, [], ◌∷◌, ◌++◌, map, length, replicate, slice_get, slice_set, slice_index_or, Option, None, Some, All, Contains, refl, sym, ap, ap₂, ◌∙◌, arith, eq-eqb, length-append}
use Rattle.std.specs.List.{count_by, flat_map, range_with_len, sum_by}
use Rattle.std.proofs.Math.Nat.{mul-le-mul_left, mul-le-mul_right}
use Rattle.std.proofs.Math.Pow.{pow_mono}
use Rattle.std.proofs.lemmas.List.{length-map, length-replicate}
use Rattle.std.proofs.lemmas.Nat.{pow_pos}
use Rattle.std.proofs.lemmas.List.Elements.{All-head, All-tail, All-weaker, All-contains_itself, filter_passes}
use Rattle.std.proofs.lemmas.List.Sums.{sum_by-cons, sum_by-append}
use Rattle.aq_ring.specs.Fractions.{Amplitude}
use Rattle.aq_prog.specs.Digits.{tabulate}
use Rattle.aq_prog.specs.declared.program.Program.{Program}
use Rattle.aq_prog.specs.declared.stmt.Guard.{Guard}
use Rattle.aq_sets.specs.Sizes.{size_of}
use Rattle.aq_sets.specs.declared.sets.Sets.{Sets}
use Rattle.aq_store.specs.Nodes.{FitsStore}
use Rattle.aq_obligations.specs.Claims.{ClaimCase}
use Rattle.aq_obligations.specs.Counting.{is_named}
use Rattle.aq_obligations.specs.Enough.{all_guards, conditions, guards, mentioned_bits, outcomes, words_of}
use Rattle.aq_obligations.specs.Worlds.{Partial, either, given_guards, in_worlds, split}
use Rattle.aq_obligations.specs.Worlds as meant
use Rattle.aq_obligations.specs.declared.bound.BoundCase.{BoundCase}
use Rattle.aq_obligations.specs.declared.bound.Obligation.{Obligation}
use Rattle.aq_decide.specs.Splitting.{asked_bits, is_asked}
use Rattle.aq_symbolic.specs.Playing.{named_in}
use Rattle.aq_set_build.specs.Tensors.{Table}
use Rattle.aq_symbolic.specs.Splitting.{AreSplit, Sight, seen}
use Rattle.aq_symbolic.specs.Steps.{is_unknown}
use Rattle.aq_symbolic.specs.Weights.{AreNamed, open_bits, open_from, open_one, price, weight, weights}
use Rattle.aq_symbolic.specs.Worlds.{AllFitStore}
use Rattle.aq_symbolic.specs.declared.kept.World.{World}
use Rattle.aq_symbolic.proofs.WeightLemmas.{open-set, price_some, price_within}
use Rattle.aq_decide.specs.Budgets.{prices, split_budget, spread_weight}
use Rattle.aq_decide.specs.Splitting.{AreDecided}

power : (m : ℕ) → 2 ^ suc m ≡ 2 * 2 ^ m
power m = simp native.Mathlib.Numerals.unary_clauses (omega arith)

-- ---- bits that are named
-- one of the obligation's guards is on the bit
abbrev pub named_all : Obligation → ℕ → Bool
named_all o bit = is_named bit (all_guards o)

or_left : (a b : Bool) → a ≡ true → (a || b) ≡ true
or_left true b e = refl
or_left false b e = cc e

or_right : (a b : Bool) → b ≡ true → (a || b) ≡ true
or_right true b e = refl
or_right false b e = e

named_append : (bit : ℕ) (gs hs : List Guard) → is_named bit (gs ++ hs) ≡ (is_named bit gs || is_named bit hs)
named_append bit [] hs = refl
named_append bit (g ∷ gs) hs = ap (λ b. g.bit == bit || b) (named_append bit gs hs) ∙ or_assoc (g.bit == bit) (is_named bit gs) (is_named bit hs)
  where
    or_assoc : (a b c : Bool) → (a || (b || c)) ≡ ((a || b) || c)
    or_assoc true b c = refl
    or_assoc false b c = refl

named_front : (bit : ℕ) (gs hs : List Guard) → is_named bit gs ≡ true → is_named bit (gs ++ hs) ≡ true
named_front bit gs hs e = named_append bit gs hs ∙ or_left (is_named bit gs) (is_named bit hs) e

named_back : (bit : ℕ) (gs hs : List Guard) → is_named bit hs ≡ true → is_named bit (gs ++ hs) ≡ true
named_back bit gs hs e = named_append bit gs hs ∙ or_right (is_named bit gs) (is_named bit hs) e

named_there : (gs : List Guard) (g : Guard) → Contains gs g → is_named g.bit gs ≡ true
named_there [] g h = absurd (omega (arith, h.1))
named_there (x ∷ gs) g h = by h.0 h.1 h.2 (λ c. named_there gs g c)
  where
    by : (k : ℕ) → k < length (x ∷ gs) → slice_index_or (x ∷ gs) k g ≡ g → (Contains gs g → is_named g.bit gs ≡ true) → is_named g.bit (x ∷ gs) ≡ true
    by zero lt e next = or_left (x.bit == g.bit) (is_named g.bit gs) (eq-eqb x.bit g.bit (ap (λ (y : Guard). y.bit) e))
    by (suc k) lt e next = or_right (x.bit == g.bit) (is_named g.bit gs) (next (k, omega (arith, lt), e))

named_asked : (bit : ℕ) (cases : List BoundCase) → is_asked cases bit ≡ is_named bit (conditions cases)
named_asked bit [] = refl
named_asked bit (c ∷ cases) = ap (λ b. is_named bit c.when || b) (named_asked bit cases) ∙ sym (named_append bit c.when (conditions cases))

pub fragment_named : (o : Obligation) → AreNamed (named_all o) (guards o.fragment)
fragment_named o =
    All-weaker (Contains (guards o.fragment)) (λ (g : Guard). named_all o g.bit ≡ true)
    (λ g c. named_front g.bit (guards o.fragment) (given_guards o.given ++ (conditions o.from ++ conditions o.goal.cases)) (named_there (guards o.fragment) g c))
    (guards o.fragment) (All-contains_itself (guards o.fragment))

asked_named : (o : Obligation) (bit : ℕ) → is_asked o.goal.cases bit ≡ true → named_all o bit ≡ true
asked_named o bit e =
    named_back bit (guards o.fragment) (given_guards o.given ++ (conditions o.from ++ conditions o.goal.cases))
    (named_back bit (given_guards o.given) (conditions o.from ++ conditions o.goal.cases)
    (named_back bit (conditions o.from) (conditions o.goal.cases) (sym (named_asked bit o.goal.cases) ∙ e)))

fragment_within : (o : Obligation) (bit : ℕ) → named_in o.fragment bit ≡ true → named_all o bit ≡ true
fragment_within o bit e = named_front bit (guards o.fragment) (given_guards o.given ++ (conditions o.from ++ conditions o.goal.cases)) e

all_within : (o : Obligation) (bit : ℕ) → named_all o bit ≡ true → named_all o bit ≡ true
all_within o bit e = e

-- ---- how many are open
open_one_within : (a b : Bool) → (a ≡ true → b ≡ true) → (x : Option Bool) → open_one a x ≤ cond b 1 0
open_one_within true b f None = let e = ap {B = ℕ} (λ (c : Bool). cond c 1 0) (f refl) in omega (arith, e)
open_one_within false b f None = omega arith
open_one_within a b f (Some c) = omega arith

open_within : (fewer more : ℕ → Bool) → ((bit : ℕ) → fewer bit ≡ true → more bit ≡ true) → (k : ℕ) (bits : Partial) → open_from fewer k bits ≤ count_by more (range_with_len k (length bits))
unfolding open_from
open_within fewer more f k [] = omega arith
open_within fewer more f k (x ∷ bits) =
    let rest = open_within fewer more f (suc k) bits in
    let e : suc k ≡ k + 1 = omega arith in
    let same = ap (λ j. count_by more (range_with_len j (length bits))) e in
    let cons = sum_by-cons (λ b. cond (more b) 1 0) k (range_with_len (k + 1) (length bits)) in
    let here = open_one_within (fewer k) (more k) (f k) x in
    omega (arith, rest, same, cons, here)

-- ---- a case at the start
module _ (p : Program) (s : Sets) (o : Obligation) (c : BoundCase) (levels : length (size_of s.exprs c.set).shape ≡ p.qubits) where
  price_is : price (size_of s.exprs c.set).shape ≡ words_of s c * 2 ^ suc p.qubits
  price_is = let e : length (size_of s.exprs c.set).shape + 1 ≡ suc p.qubits = omega (arith, levels) in ap (λ n. words_of s c * 2 ^ n) e

  weight_within : (named : ℕ → Bool) → ((bit : ℕ) → named bit ≡ true → named_all o bit ≡ true) → (w : World) → w.lsta.shape.items ≡ (size_of s.exprs c.set).shape → length w.bits ≡ p.bits
      → weight named (outcomes o.fragment) w ≤ spread_weight p s o c
  weight_within named f w shape long =
      let M = outcomes o.fragment in
      let U = mentioned_bits p o in
      let open_le : open_bits named w ≤ U = (let a = open_within named (named_all o) f 0 w.bits in let b = ap (λ n. count_by (named_all o) (range_with_len 0 n)) long in omega (arith, a, b)) in
      let le : 2 ^ (M + open_bits named w) ≤ 2 ^ (M + U) = pow_mono (let x : M + open_bits named w ≤ M + U = omega (arith, open_le) in x) in
      let cost = ap price shape ∙ price_is in
      let a : weight named M w ≡ (words_of s c * 2 ^ suc p.qubits) * 2 ^ (M + open_bits named w) = ap (λ n. n * 2 ^ (M + open_bits named w)) cost in
      let b : (words_of s c * 2 ^ suc p.qubits) * 2 ^ (M + open_bits named w) ≤ (words_of s c * 2 ^ suc p.qubits) * 2 ^ (M + U) = mul-le-mul_left (words_of s c * 2 ^ suc p.qubits) le in
      let d : (words_of s c * 2 ^ suc p.qubits) * 2 ^ (M + U) ≡ spread_weight p s o c = omega arith in
      omega (arith, a, b, d)

  first_within : (number : ℕ) (shape : List ℕ) (named : ℕ → Bool) → ((bit : ℕ) → named bit ≡ true → named_all o bit ≡ true) → (first : List World)
      → All (λ (w : World). (w.lsta.shape.items ≡ (size_of s.exprs c.set).shape) × (length w.bits ≡ p.bits)) first → length first ≤ 1 → weights named (outcomes o.fragment) first ≤ spread_weight p s o c
  first_within number shape named f [] all few = omega arith
  first_within number shape named f (w ∷ []) all few =
      let h = All-head (λ (x : World). (x.lsta.shape.items ≡ (size_of s.exprs c.set).shape) × (length x.bits ≡ p.bits)) w [] all in
      let a = weight_within named f w h.0 h.1 in
      let b = sum_by-cons (weight named (outcomes o.fragment)) w [] in
      omega (arith, a, b)
  first_within number shape named f (w ∷ u ∷ first) all few = absurd (omega (arith, few))

  pub first_light : (first : List World) → All (λ (w : World). (w.lsta.shape.items ≡ (size_of s.exprs c.set).shape) × (length w.bits ≡ p.bits)) first → length first ≤ 1
      → (weights (named_all o) (outcomes o.fragment) first ≤ spread_weight p s o c) × (weights (named_in o.fragment) (outcomes o.fragment) first ≤ spread_weight p s o c)
  first_light first all few = (first_within 0 [] (named_all o) (all_within o) first all few, first_within 0 [] (named_in o.fragment) (fragment_within o) first all few)

-- ---- decisions
-- an automaton is seen as so many vectors as its words come to
abbrev by_price : Sight
by_price k root shape = replicate (price shape) []

heavy : (ℕ → Bool) → meant.World → ℕ
heavy named u = length u.vectors * 2 ^ open_from named 0 u.bits

heavy_seen : (named : ℕ → Bool) (cases : ℕ → ClaimCase) (w : World) → heavy named (seen cases by_price w) ≡ weight named 0 w
unfolding heavy
heavy_seen named cases w =
    let empty : List Amplitude = [] in
    let n = length-replicate (price w.lsta.shape.items) empty in
    let e : open_from named 0 w.bits ≡ 0 + open_bits named w = omega arith in
    ap₂ (λ x y. x * 2 ^ y) n e

heavy_all : (named : ℕ → Bool) (cases : ℕ → ClaimCase) (ws : List World) → sum_by (heavy named) (map (seen cases by_price) ws) ≡ weights named 0 ws
heavy_all named cases [] = refl
heavy_all named cases (w ∷ ws) =
    let a = sum_by-cons (heavy named) (seen cases by_price w) (map (seen cases by_price) ws) in
    let b = sum_by-cons (weight named 0) w ws in
    let h = heavy_seen named cases w in
    let rest = heavy_all named cases ws in
    omega (arith, a, b, h, rest)

halved : (named : ℕ → Bool) (k : ℕ) (b : Bool) (u : meant.World) → named k ≡ true → slice_get u.bits k ≡ Some None → 2 * heavy named (meant.decided k b u) ≡ heavy named u
unfolding heavy
halved named k b u on e =
    let i : k ≡ 0 + k = omega arith in
    let s = open-set named 0 k u.bits k b i (ap is_unknown e) on in
    let q = ap (λ n. 2 ^ n) s ∙ power (open_from named 0 (slice_set u.bits k (Some b))) in
    let m : length u.vectors * (2 * 2 ^ open_from named 0 (slice_set u.bits k (Some b))) ≡ 2 * (length u.vectors * 2 ^ open_from named 0 (slice_set u.bits k (Some b))) = omega arith in
    sym m ∙ sym (ap (λ n. length u.vectors * n) q)

split_heavy : (named : ℕ → Bool) (k : ℕ) (u : meant.World) → named k ≡ true → sum_by (heavy named) (split k u) ≤ heavy named u
split_heavy named k u on = by (slice_get u.bits k) refl
  where
    single : (w : meant.World) → sum_by (heavy named) (w ∷ []) ≡ heavy named w
    single w = sum_by-cons (heavy named) w [] ∙ omega arith

    by : (x : Option (Option Bool)) → slice_get u.bits k ≡ x → sum_by (heavy named) (either k x u) ≤ heavy named u
    by None e = let a = single u in omega (arith, a)
    by (Some (Some b)) e = let a = single u in omega (arith, a)
    by (Some None) e =
        let a = sum_by-cons (heavy named) (meant.decided k false u) (meant.decided k true u ∷ []) in
        let b = single (meant.decided k true u) in
        let f = halved named k false u on e in
        let t = halved named k true u on e in
        omega (arith, a, b, f, t)

flat_heavy : (named : ℕ → Bool) (S : meant.World → List meant.World) → ((u : meant.World) → sum_by (heavy named) (S u) ≤ heavy named u) → (us : List meant.World) → sum_by (heavy named) (flat_map S us) ≤ sum_by (heavy named) us
flat_heavy named S f [] = omega arith
flat_heavy named S f (u ∷ us) =
    let a = sum_by-append (heavy named) (S u) (flat_map S us) in
    let b = sum_by-cons (heavy named) u us in
    let here = f u in
    let rest = flat_heavy named S f us in
    omega (arith, a, b, here, rest)

decided_heavy : (named : ℕ → Bool) (bits : List ℕ) → All (λ k. named k ≡ true) bits → (u : meant.World) → sum_by (heavy named) (in_worlds (map split bits) u) ≤ heavy named u
decided_heavy named [] all u = let a = sum_by-cons (heavy named) u [] in omega (arith, a)
decided_heavy named (k ∷ bits) all u =
    let a = flat_heavy named (in_worlds (map split bits)) (decided_heavy named bits (All-tail (λ j. named j ≡ true) k bits all)) (split k u) in
    let b = split_heavy named k u (All-head (λ j. named j ≡ true) k bits all) in
    omega (arith, a, b)

asked_all : (o : Obligation) (m : ℕ) → All (λ k. named_all o k ≡ true) (asked_bits o.goal.cases m)
asked_all o m = All-weaker (λ k. is_asked o.goal.cases k ≡ true) (λ k. named_all o k ≡ true) (λ k e. asked_named o k e) (asked_bits o.goal.cases m) (filter_passes (is_asked o.goal.cases) (tabulate m (λ bit. bit)))

no_case : ClaimCase
no_case = record { vectors = []; when = [] }

prices_within : (named : ℕ → Bool) (ws : List World) → prices ws ≤ weights named 0 ws
prices_within named [] = omega arith
prices_within named (w ∷ ws) =
    let a = sum_by-cons (λ (u : World). price u.lsta.shape.items) w ws in
    let b = sum_by-cons (weight named 0) w ws in
    let here = price_within named 0 w in
    let rest = prices_within named ws in
    omega (arith, a, b, here, rest)

-- what is left in the end comes to no more than what there was before the decisions
pub decided_light : (o : Obligation) (m : ℕ) (ends list : List World) → AreDecided (asked_bits o.goal.cases m) ends list → prices list ≤ weights (named_all o) 0 ends
decided_light o m ends list d =
    let named = named_all o in
    let cases : ℕ → ClaimCase = λ k. no_case in
    let a = prices_within named list in
    let b = heavy_all named cases list in
    let e = ap (sum_by (heavy named)) (d.worlds cases by_price) in
    let f = flat_heavy named (in_worlds (map split (asked_bits o.goal.cases m))) (decided_heavy named (asked_bits o.goal.cases m) (asked_all o m)) (map (seen cases by_price) ends) in
    let g = heavy_all named cases ends in
    omega (arith, a, b, e, f, g)

-- ---- how many are added
-- an automaton is seen as one vector
by_one : Sight
by_one k root shape = [] ∷ []

-- worlds, each twice for each bit that may be decided
abbrev in_all : (ℕ → Bool) → List World → ℕ
in_all named ws = sum_by (λ w. 2 ^ open_bits named w) ws

one_seen : (named : ℕ → Bool) (cases : ℕ → ClaimCase) (w : World) → heavy named (seen cases by_one w) ≡ 2 ^ open_bits named w
unfolding heavy by_one
one_seen named cases w = let e : 1 * 2 ^ open_bits named w ≡ 2 ^ open_bits named w = omega arith in e

ones_all : (named : ℕ → Bool) (cases : ℕ → ClaimCase) (ws : List World) → sum_by (heavy named) (map (seen cases by_one) ws) ≡ in_all named ws
ones_all named cases [] = refl
ones_all named cases (w ∷ ws) =
    let a = sum_by-cons (heavy named) (seen cases by_one w) (map (seen cases by_one) ws) in
    let b = sum_by-cons (λ (u : World). 2 ^ open_bits named u) w ws in
    let h = one_seen named cases w in
    let rest = ones_all named cases ws in
    omega (arith, a, b, h, rest)

split_some : (k : ℕ) (u : meant.World) → 1 ≤ length (split k u)
split_some k u = by (slice_get u.bits k)
  where
    by : (x : Option (Option Bool)) → 1 ≤ length (either k x u)
    by None = omega arith
    by (Some (Some b)) = omega arith
    by (Some None) = omega arith

split_more : (k : ℕ) (us : List meant.World) → length us ≤ length (flat_map (split k) us)
split_more k [] = omega arith
split_more k (u ∷ us) =
    let a = length-append (split k u) (flat_map (split k) us) in
    let here = split_some k u in
    let rest = split_more k us in
    omega (arith, a, here, rest)

with_added : (cases : List BoundCase) (ws : List World) → length ws + split_budget cases ws ≡ in_all (is_asked cases) ws
with_added cases [] = refl
with_added cases (w ∷ ws) =
    let a = sum_by-cons (λ (u : World). 2 ^ open_bits (is_asked cases) u - 1) w ws in
    let b = sum_by-cons (λ (u : World). 2 ^ open_bits (is_asked cases) u) w ws in
    let some = pow_pos (open_bits (is_asked cases) w) in
    let rest = with_added cases ws in
    omega (arith, a, b, some, rest)

-- none is lost when a bit is decided
pub split_longer : (bit : ℕ) (ws list : List World) → AreSplit bit ws list → length ws ≤ length list
split_longer bit ws list d =
    let cases : ℕ → ClaimCase = λ k. no_case in
    let see = seen cases by_one in
    let a = length-map ws see in
    let b = length-map list see in
    let e = ap {B = ℕ} (λ (us : List meant.World). length us) (d.worlds cases by_one) in
    let more = split_more bit (map see ws) in
    omega (arith, a, b, e, more)

-- and those that are added are no longer owed
pub split_left : (cases : List BoundCase) (bit : ℕ) (ws list : List World) → is_asked cases bit ≡ true → AreSplit bit ws list → length list + split_budget cases list ≤ length ws + split_budget cases ws
split_left cases bit ws list asked d =
    let named = is_asked cases in
    let none : ℕ → ClaimCase = λ k. no_case in
    let a = ones_all named none list in
    let b = ones_all named none ws in
    let e = ap (sum_by (heavy named)) (d.worlds none by_one) in
    let f = flat_heavy named (split bit) (λ u. split_heavy named bit u asked) (map (seen none by_one) ws) in
    let x = with_added cases list in
    let y = with_added cases ws in
    omega (arith, a, b, e, f, x, y)

open_one_more : (a b : Bool) → (a ≡ true → b ≡ true) → (x : Option Bool) → open_one a x ≤ open_one b x
open_one_more true b f None = let e = ap {B = ℕ} (λ (c : Bool). cond c 1 0) (f refl) in omega (arith, e)
open_one_more false b f None = omega arith
open_one_more a b f (Some c) = omega arith

open_more : (fewer more : ℕ → Bool) → ((bit : ℕ) → fewer bit ≡ true → more bit ≡ true) → (k : ℕ) (bits : Partial) → open_from fewer k bits ≤ open_from more k bits
unfolding open_from
open_more fewer more f k [] = omega arith
open_more fewer more f k (x ∷ bits) =
    let rest = open_more fewer more f (suc k) bits in
    let here = open_one_more (fewer k) (more k) (f k) x in
    omega (arith, rest, here)

one_light : (o : Obligation) (table : Table) (w : World) → FitsStore table w.lsta → 2 ^ open_bits (is_asked o.goal.cases) w - 1 ≤ weight (named_all o) 0 w
one_light o table w fits =
    let le : 2 ^ open_bits (is_asked o.goal.cases) w ≤ 2 ^ open_bits (named_all o) w = pow_mono (open_more (is_asked o.goal.cases) (named_all o) (asked_named o) 0 w.bits) in
    let power = 2 ^ open_bits (named_all o) w in
    let some = mul-le-mul_right power (price_some table w.lsta fits) in
    let e : weight (named_all o) 0 w ≡ price w.lsta.shape.items * power = ap (λ n. price w.lsta.shape.items * 2 ^ n) (let z : 0 + open_bits (named_all o) w ≡ open_bits (named_all o) w = omega arith in z) in
    omega (arith, le, some, e)

-- the worlds that are added come to no more than those that there are
pub added_light : (o : Obligation) (table : Table) (ws : List World) → AllFitStore table ws → split_budget o.goal.cases ws ≤ weights (named_all o) 0 ws
added_light o table [] fit = omega arith
added_light o table (w ∷ ws) fit =
    let a = sum_by-cons (λ (u : World). 2 ^ open_bits (is_asked o.goal.cases) u - 1) w ws in
    let b = sum_by-cons (weight (named_all o) 0) w ws in
    let here = one_light o table w (All-head (λ (u : World). FitsStore table u.lsta) w ws fit) in
    let rest = added_light o table ws (All-tail (λ (u : World). FitsStore table u.lsta) w ws fit) in
    omega (arith, a, b, here, rest)
