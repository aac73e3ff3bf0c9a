-- Work that is put off: the positions of expressions, of which the last comes first.
use Rattle.std.proofs.Common.{◌≡◌, ℕ, zero, suc, ◌+◌, ◌<◌, ◌≤◌, Bool, true, false, cond, eqb, List, [], ◌∷◌, ◌++◌, Some, length, get_or, take, refl, sym, ap, ◌∙◌, subst, arith}
use Rattle.std.proofs.Common.{eqb-true}
use Rattle.std.specs.Prelude.{slice_get}
use Rattle.std.specs.List.{All}
use Rattle.std.proofs.lemmas.List.{append_assoc, append-nil, take_more, take_all}
use Rattle.std.proofs.lemmas.List.Elements.{All-nil, All-cons, All-pop}
use Rattle.std.proofs.lemmas.Option.{slice_get_within, same_Some}
use Rattle.std.proofs.lemmas.Bool.{eqb-false}
use Rattle.aq_sets.specs.Vectors.{Vector, Listed, nothing_listed, listed, united, power, tensors, all_pairs, kets_vector, basis, lists}
use Rattle.aq_sets.specs.Sizes.{Size, size_of}
use Rattle.aq_sets.specs.declared.sets.Term.{Term}
use Rattle.aq_sets.specs.declared.sets.Expr.{Expr}
use Rattle.aq_sets.specs.declared.sets.Expr.TheVariants as expr
use Rattle.aq_sets.specs.ValidExprs.{AreValidExprs}
use Rattle.aq_plain.specs.Listing.{lists_in_turn, IsWhole, IsPartOf, opened, kept, AllFit, StopsAmong}
use Rattle.aq_plain.specs.declared.stop.VectorStop.{VectorStop}
use Rattle.aq_sets.proofs.ExprLaws.{lists-is, size-is, some_times}
use Rattle.aq_plain.proofs.TakeLaws.{fit_none, fit_append, fit_same, fit_power, stops_left, stops_right, stops_same, stops_power, stops_power_of, power_vectors}

-- what the work lists that is put off, from the last position to the first
abbrev pub pending : List Expr → List ℕ → Listed
pending exprs [] = nothing_listed
pending exprs (i ∷ rest) = united (pending exprs rest) (lists exprs i)

-- how many nodes that work has
abbrev pub nodes_in : List Expr → List ℕ → ℕ
nodes_in exprs [] = 0
nodes_in exprs (i ∷ rest) = (size_of exprs i).nodes + nodes_in exprs rest

-- ---- lists, one behind the other

pub united_assoc : (a b c : Listed) → united (united a b) c ≡ united a (united b c)
united_assoc a b c = λ k. record { vectors = append_assoc a.vectors b.vectors c.vectors k; products = append_assoc a.products b.products c.products k }

pub united_none : (a : Listed) → united a nothing_listed ≡ a
united_none a = λ k. record { vectors = append-nil a.vectors k; products = append-nil a.products k }

pub in_turn-append : (exprs : List Expr) (xs ys : List ℕ) → lists_in_turn exprs (xs ++ ys) ≡ united (lists_in_turn exprs xs) (lists_in_turn exprs ys)
in_turn-append exprs [] ys = refl
in_turn-append exprs (x ∷ xs) ys =
    ap (united (lists exprs x)) (in_turn-append exprs xs ys) ∙ sym (united_assoc (lists exprs x) (lists_in_turn exprs xs) (lists_in_turn exprs ys))

pending-append : (exprs : List Expr) (xs ys : List ℕ) → pending exprs (xs ++ ys) ≡ united (pending exprs ys) (pending exprs xs)
pending-append exprs [] ys = sym (united_none (pending exprs ys))
pending-append exprs (x ∷ xs) ys =
    ap (λ a. united a (lists exprs x)) (pending-append exprs xs ys) ∙ united_assoc (pending exprs ys) (pending exprs xs) (lists exprs x)

pub pending_push : (exprs : List Expr) (work : List ℕ) (i : ℕ) → pending exprs (work ++ i ∷ []) ≡ united (lists exprs i) (pending exprs work)
pending_push exprs work i = pending-append exprs work (i ∷ [])

nodes-append : (exprs : List Expr) (xs ys : List ℕ) → nodes_in exprs (xs ++ ys) ≡ nodes_in exprs xs + nodes_in exprs ys
nodes-append exprs [] ys = omega arith
nodes-append exprs (x ∷ xs) ys = let e = nodes-append exprs xs ys in omega arith

-- ---- one expression that is opened

opens_power : (exprs : List Expr) (i base times : ℕ) (b : Bool) → eqb times 1 ≡ b → lists exprs i ≡ power times (lists exprs base)
    → united (lists_in_turn exprs (cond b [] (i ∷ []))) (pending exprs (cond b (base ∷ []) [])) ≡ lists exprs i
opens_power exprs i base times true one e = sym (e ∙ ap (λ n. power n (lists exprs base)) (eqb-true times 1 one))
opens_power exprs i base times false one e = united_none (united (lists exprs i) nothing_listed) ∙ united_none (lists exprs i)

pub opens : (exprs : List Expr) → AreValidExprs exprs → (i : ℕ) (e : Expr) → slice_get exprs i ≡ Some e
    → united (lists_in_turn exprs (kept e i)) (pending exprs (opened e)) ≡ lists exprs i
opens exprs valid i (expr.Kets qubits terms) h = united_none (united (lists exprs i) nothing_listed) ∙ united_none (lists exprs i)
opens exprs valid i (expr.All qubits) h = united_none (united (lists exprs i) nothing_listed) ∙ united_none (lists exprs i)
opens exprs valid i (expr.Tensor left right) h = united_none (united (lists exprs i) nothing_listed) ∙ united_none (lists exprs i)
opens exprs valid i (expr.Union left right) h = sym (lists-is exprs i (expr.Union left right) h (valid.each i (expr.Union left right) h))
opens exprs valid i (expr.Power base times) h =
    opens_power exprs i base times (eqb times 1) refl (lists-is exprs i (expr.Power base times) h (valid.each i (expr.Power base times) h))

part_alone : (exprs : List Expr) (top i : ℕ) (e : Expr) → slice_get exprs i ≡ Some e → i ≤ top → IsWhole e → All (IsPartOf exprs top) (i ∷ [])
part_alone exprs top i e h le w =
    All-cons (IsPartOf exprs top) i [] (record { within = le; whole = λ f g. subst IsWhole (same_Some e f (sym h ∙ g)) w }) (All-nil (IsPartOf exprs top))

part_power : (exprs : List Expr) (top i base times : ℕ) (b : Bool) → eqb times 1 ≡ b → slice_get exprs i ≡ Some (expr.Power base times) → i ≤ top
    → All (IsPartOf exprs top) (cond b [] (i ∷ []))
part_power exprs top i base times true one h le = All-nil (IsPartOf exprs top)
part_power exprs top i base times false one h le = part_alone exprs top i (expr.Power base times) h le (eqb-false times 1 one)

pub kept_parts : (exprs : List Expr) (top i : ℕ) (e : Expr) → slice_get exprs i ≡ Some e → i ≤ top → All (IsPartOf exprs top) (kept e i)
kept_parts exprs top i (expr.Kets qubits terms) h le = part_alone exprs top i (expr.Kets qubits terms) h le tt
kept_parts exprs top i (expr.All qubits) h le = part_alone exprs top i (expr.All qubits) h le tt
kept_parts exprs top i (expr.Tensor left right) h le = part_alone exprs top i (expr.Tensor left right) h le tt
kept_parts exprs top i (expr.Union left right) h le = All-nil (IsPartOf exprs top)
kept_parts exprs top i (expr.Power base times) h le = part_power exprs top i base times (eqb times 1) refl h le

below_power : (top base : ℕ) (b : Bool) → base ≤ top → All (λ j. j ≤ top) (cond b (base ∷ []) [])
below_power top base true h = All-cons (λ j. j ≤ top) base [] h (All-nil (λ j. j ≤ top))
below_power top base false h = All-nil (λ j. j ≤ top)

pub opened_below : (exprs : List Expr) → AreValidExprs exprs → (top i : ℕ) (e : Expr) → slice_get exprs i ≡ Some e → i ≤ top → All (λ j. j ≤ top) (opened e)
opened_below exprs valid top i (expr.Kets qubits terms) h le = All-nil (λ j. j ≤ top)
opened_below exprs valid top i (expr.All qubits) h le = All-nil (λ j. j ≤ top)
opened_below exprs valid top i (expr.Tensor left right) h le = All-nil (λ j. j ≤ top)
opened_below exprs valid top i (expr.Union left right) h le =
    let v = valid.each i (expr.Union left right) h in
    All-cons (λ j. j ≤ top) right (left ∷ []) (omega (arith, v.1)) (All-cons (λ j. j ≤ top) left [] (omega (arith, v.0)) (All-nil (λ j. j ≤ top)))
opened_below exprs valid top i (expr.Power base times) h le =
    let v = valid.each i (expr.Power base times) h in
    below_power top base (eqb times 1) (omega (arith, v))

fewer_power : (exprs : List Expr) (n base times : ℕ) (b : Bool) → 0 < times → n ≡ times + (size_of exprs base).nodes → nodes_in exprs (cond b (base ∷ []) []) < n
fewer_power exprs n base times true some e = omega arith
fewer_power exprs n base times false some e = omega arith

pub fewer_nodes : (exprs : List Expr) → AreValidExprs exprs → (i : ℕ) (e : Expr) → slice_get exprs i ≡ Some e → nodes_in exprs (opened e) < (size_of exprs i).nodes
fewer_nodes exprs valid i (expr.Kets qubits terms) h =
    omega (arith, ap (λ (z : Size). z.nodes) (size-is exprs i (expr.Kets qubits terms) h (valid.each i (expr.Kets qubits terms) h)))
fewer_nodes exprs valid i (expr.All qubits) h =
    omega (arith, ap (λ (z : Size). z.nodes) (size-is exprs i (expr.All qubits) h (valid.each i (expr.All qubits) h)))
fewer_nodes exprs valid i (expr.Tensor left right) h =
    omega (arith, ap (λ (z : Size). z.nodes) (size-is exprs i (expr.Tensor left right) h (valid.each i (expr.Tensor left right) h)))
fewer_nodes exprs valid i (expr.Union left right) h =
    omega (arith, ap (λ (z : Size). z.nodes) (size-is exprs i (expr.Union left right) h (valid.each i (expr.Union left right) h)))
fewer_nodes exprs valid i (expr.Power base times) h =
    fewer_power exprs (size_of exprs i).nodes base times (eqb times 1) (some_times exprs valid i base times h)
    (ap (λ (z : Size). z.nodes) (size-is exprs i (expr.Power base times) h (valid.each i (expr.Power base times) h)))

-- ---- steps of the loop over the work

pub step_same : (exprs : List Expr) → AreValidExprs exprs → (i : ℕ) (e : Expr) → slice_get exprs i ≡ Some e → (parts work : List ℕ)
    → united (lists_in_turn exprs (parts ++ kept e i)) (pending exprs (work ++ opened e)) ≡ united (lists_in_turn exprs parts) (pending exprs (work ++ i ∷ []))
step_same exprs valid i e h parts work =
    let P = lists_in_turn exprs parts in
    let K = lists_in_turn exprs (kept e i) in
    let O = pending exprs (opened e) in
    let W = pending exprs work in
    (λ k. united (in_turn-append exprs parts (kept e i) k) (pending-append exprs work (opened e) k))
    ∙ united_assoc P K (united O W)
    ∙ ap (united P) (sym (united_assoc K O W) ∙ ap (λ a. united a W) (opens exprs valid i e h) ∙ sym (pending_push exprs work i))

pub step_fewer : (exprs : List Expr) → AreValidExprs exprs → (i : ℕ) (e : Expr) → slice_get exprs i ≡ Some e → (work : List ℕ)
    → nodes_in exprs (work ++ opened e) < nodes_in exprs (work ++ i ∷ [])
step_fewer exprs valid i e h work =
    let fewer = fewer_nodes exprs valid i e h in
    let a = nodes-append exprs work (opened e) in
    let b = nodes-append exprs work (i ∷ []) in
    omega arith

-- ---- a part that is listed

pub two_times : (exprs : List Expr) → AreValidExprs exprs → (i base times : ℕ) → slice_get exprs i ≡ Some (expr.Power base times)
    → ((e : Expr) → slice_get exprs i ≡ Some e → IsWhole e) → 2 ≤ times
two_times exprs valid i base times h whole =
    let some = some_times exprs valid i base times h in
    let not_one = whole (expr.Power base times) h in
    omega arith

pub popped_below : (top : ℕ) (old new : List ℕ) (i : ℕ) → old ≡ new ++ i ∷ [] → All (λ j. j ≤ top) old → All (λ j. j ≤ top) new × (i ≤ top)
popped_below top old new i e h = All-pop (λ j. j ≤ top) old new (Some i) e h

-- ---- steps of the loop over the parts

pub in_turn_more : (exprs : List Expr) (parts : List ℕ) (i : ℕ) → i < length parts
    → united (lists_in_turn exprs (take i parts)) (lists exprs (get_or parts i 0)) ≡ lists_in_turn exprs (take (i + 1) parts)
in_turn_more exprs parts i lt =
    ap (united (lists_in_turn exprs (take i parts))) (sym (united_none (lists exprs (get_or parts i 0))))
    ∙ sym (ap (lists_in_turn exprs) (take_more parts i 0 lt) ∙ in_turn-append exprs (take i parts) (get_or parts i 0 ∷ []))

pub in_turn_all : (exprs : List Expr) (parts : List ℕ) (i : ℕ) → length parts ≤ i → lists_in_turn exprs (take i parts) ≡ lists_in_turn exprs parts
in_turn_all exprs parts i le = ap (lists_in_turn exprs) (take_all i parts le)

pub stops_in_turn : (exprs : List Expr) (parts : List ℕ) (i : ℕ) (e : VectorStop) → i < length parts
    → StopsAmong (lists exprs (get_or parts i 0)).products e → StopsAmong (lists_in_turn exprs parts).products e
stops_in_turn exprs [] i e lt h = absurd (omega arith)
stops_in_turn exprs (p ∷ ps) zero e lt h = stops_left (lists exprs p).products (lists_in_turn exprs ps).products e h
stops_in_turn exprs (p ∷ ps) (suc i) e lt h =
    stops_right (lists exprs p).products (lists_in_turn exprs ps).products e (stops_in_turn exprs ps i e (omega arith) h)

-- ---- what a part lists

pub few_kets : (exprs : List Expr) → AreValidExprs exprs → (i q : ℕ) (terms : List Term) → slice_get exprs i ≡ Some (expr.Kets q terms) → q ≤ 16
few_kets exprs valid i q terms h =
    let s = ap (λ (z : Size). z.qubits) (size-is exprs i (expr.Kets q terms) h (valid.each i (expr.Kets q terms) h)) in
    let few = (valid.qubits i (slice_get_within exprs i (expr.Kets q terms) h)).1 in
    omega arith

-- what is taken for a part, by what is taken for those that it names
pub takes_tensor : (exprs : List Expr) → AreValidExprs exprs → (i l r : ℕ) → slice_get exprs i ≡ Some (expr.Tensor l r) → (us vs rows : List Vector)
    → us ≡ (lists exprs l).vectors → AllFit (lists exprs l).products → vs ≡ (lists exprs r).vectors → AllFit (lists exprs r).products
    → rows ≡ tensors us vs → AllFit (all_pairs us vs)
    → (rows ≡ (lists exprs i).vectors) × AllFit (lists exprs i).products
takes_tensor exprs valid i l r h us vs rows a p b q made fits =
    let s = lists-is exprs i (expr.Tensor l r) h (valid.each i (expr.Tensor l r) h) in
    let last : AllFit (all_pairs (lists exprs l).vectors (lists exprs r).vectors) = fit_same _ _ (λ k. all_pairs (a k) (b k)) fits in (
      made ∙ (λ k. tensors (a k) (b k)) ∙ ap (λ (z : Listed). z.vectors) (sym s),
      fit_same _ _ (ap (λ (z : Listed). z.products) (sym s))
          (fit_append (lists exprs l).products ((lists exprs r).products ++ all_pairs (lists exprs l).vectors (lists exprs r).vectors) p
          (fit_append (lists exprs r).products (all_pairs (lists exprs l).vectors (lists exprs r).vectors) q last)),
    )

pub stops_tensor_left : (exprs : List Expr) → AreValidExprs exprs → (i l r : ℕ) → slice_get exprs i ≡ Some (expr.Tensor l r) → (e : VectorStop)
    → StopsAmong (lists exprs l).products e → StopsAmong (lists exprs i).products e
stops_tensor_left exprs valid i l r h e w =
    let s = lists-is exprs i (expr.Tensor l r) h (valid.each i (expr.Tensor l r) h) in
    stops_same _ _ e (ap (λ (z : Listed). z.products) (sym s))
    (stops_left (lists exprs l).products ((lists exprs r).products ++ all_pairs (lists exprs l).vectors (lists exprs r).vectors) e w)

pub stops_tensor_right : (exprs : List Expr) → AreValidExprs exprs → (i l r : ℕ) → slice_get exprs i ≡ Some (expr.Tensor l r) → (e : VectorStop)
    → StopsAmong (lists exprs r).products e → StopsAmong (lists exprs i).products e
stops_tensor_right exprs valid i l r h e w =
    let s = lists-is exprs i (expr.Tensor l r) h (valid.each i (expr.Tensor l r) h) in
    stops_same _ _ e (ap (λ (z : Listed). z.products) (sym s))
    (stops_right (lists exprs l).products ((lists exprs r).products ++ all_pairs (lists exprs l).vectors (lists exprs r).vectors) e
    (stops_left (lists exprs r).products (all_pairs (lists exprs l).vectors (lists exprs r).vectors) e w))

pub stops_tensor : (exprs : List Expr) → AreValidExprs exprs → (i l r : ℕ) → slice_get exprs i ≡ Some (expr.Tensor l r) → (us vs : List Vector) (e : VectorStop)
    → us ≡ (lists exprs l).vectors → vs ≡ (lists exprs r).vectors → StopsAmong (all_pairs us vs) e → StopsAmong (lists exprs i).products e
stops_tensor exprs valid i l r h us vs e a b w =
    let s = lists-is exprs i (expr.Tensor l r) h (valid.each i (expr.Tensor l r) h) in
    stops_same _ _ e (ap (λ (z : Listed). z.products) (sym s))
    (stops_right (lists exprs l).products ((lists exprs r).products ++ all_pairs (lists exprs l).vectors (lists exprs r).vectors) e
    (stops_right (lists exprs r).products (all_pairs (lists exprs l).vectors (lists exprs r).vectors) e
    (stops_same (all_pairs us vs) (all_pairs (lists exprs l).vectors (lists exprs r).vectors) e (λ k. all_pairs (a k) (b k)) w)))

pub takes_power : (exprs : List Expr) → AreValidExprs exprs → (i base times : ℕ) → slice_get exprs i ≡ Some (expr.Power base times) → (vs rows : List Vector)
    → vs ≡ (lists exprs base).vectors → AllFit (lists exprs base).products → rows ≡ (power times (listed vs)).vectors → AllFit (power times (listed vs)).products
    → (rows ≡ (lists exprs i).vectors) × AllFit (lists exprs i).products
takes_power exprs valid i base times h vs rows a p made fits =
    let s = lists-is exprs i (expr.Power base times) h (valid.each i (expr.Power base times) h) in
    let own : AllFit (power times (listed (lists exprs base).vectors)).products = fit_same _ _ (λ k. (power times (listed (a k))).products) fits in (
      made ∙ (λ k. (power times (listed (a k))).vectors) ∙ power_vectors (lists exprs base) times ∙ ap (λ (z : Listed). z.vectors) (sym s),
      fit_same _ _ (ap (λ (z : Listed). z.products) (sym s)) (fit_power (lists exprs base) times p own),
    )

-- a power of one or more has the products of its base
pub stops_power_base : (exprs : List Expr) → AreValidExprs exprs → (i base times : ℕ) → slice_get exprs i ≡ Some (expr.Power base times) → (e : VectorStop)
    → StopsAmong (lists exprs base).products e → StopsAmong (lists exprs i).products e
stops_power_base exprs valid i base times h e w =
    let s = lists-is exprs i (expr.Power base times) h (valid.each i (expr.Power base times) h) in
    stops_same _ _ e (ap (λ (z : Listed). z.products) (sym s)) (stops_power (lists exprs base) 1 times e (omega arith) (some_times exprs valid i base times h) w)

pub stops_power_at : (exprs : List Expr) → AreValidExprs exprs → (i base times : ℕ) → slice_get exprs i ≡ Some (expr.Power base times) → (vs : List Vector) (e : VectorStop)
    → vs ≡ (lists exprs base).vectors → StopsAmong (power times (listed vs)).products e → StopsAmong (lists exprs i).products e
stops_power_at exprs valid i base times h vs e a w =
    let s = lists-is exprs i (expr.Power base times) h (valid.each i (expr.Power base times) h) in
    stops_same _ _ e (ap (λ (z : Listed). z.products) (sym s)) (stops_power_of (lists exprs base) times e (stops_same _ _ e (λ k. (power times (listed (a k))).products) w))

pub takes_kets : (exprs : List Expr) → AreValidExprs exprs → (i q : ℕ) (terms : List Term) → slice_get exprs i ≡ Some (expr.Kets q terms) → (rows : List Vector)
    → rows ≡ kets_vector q terms ∷ [] → (rows ≡ (lists exprs i).vectors) × AllFit (lists exprs i).products
takes_kets exprs valid i q terms h rows made =
    let s = lists-is exprs i (expr.Kets q terms) h (valid.each i (expr.Kets q terms) h) in
    (made ∙ ap (λ (z : Listed). z.vectors) (sym s), fit_same _ _ (ap (λ (z : Listed). z.products) (sym s)) fit_none)

pub takes_all : (exprs : List Expr) → AreValidExprs exprs → (i q : ℕ) → slice_get exprs i ≡ Some (expr.All q) → (rows : List Vector)
    → rows ≡ basis q → (rows ≡ (lists exprs i).vectors) × AllFit (lists exprs i).products
takes_all exprs valid i q h rows made =
    let s = lists-is exprs i (expr.All q) h (valid.each i (expr.All q) h) in
    (made ∙ ap (λ (z : Listed). z.vectors) (sym s), fit_same _ _ (ap (λ (z : Listed). z.products) (sym s)) fit_none)
