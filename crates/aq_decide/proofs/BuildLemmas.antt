-- Automata of cases, one after the other.
use Rattle.std.proofs.Common.{◌≡◌, ℕ, ◌+◌, ◌<◌, Bool, true, false, cond, List, [], ◌∷◌, ◌++◌, filter, length, take, get_or, slice_get, Some, Contains, sym, ap, ◌∙◌, subst, arith, append-nil}
use Rattle.std.proofs.lemmas.List.{take_more}
use Rattle.std.proofs.lemmas.List.Elements.{Contains-get_or, filter-append}
use Rattle.std.proofs.lemmas.List.Sums.{sum_by_more, sum_by_more_le}
use Rattle.std.proofs.lemmas.Option.{get_or_from_slice_get}
use Rattle.aq_ring.specs.Fractions.{Amplitude}
use Rattle.aq_sets.specs.Sizes.{place, size_of}
use Rattle.aq_sets.specs.Vectors.{vectors_of, products_of}
use Rattle.aq_sets.specs.declared.sets.Sets.{Sets}
use Rattle.aq_store.specs.Count.{Count}
use Rattle.aq_store.specs.Nodes.{Extends}
use Rattle.aq_store.specs.declared.lsta.Lsta.{Lsta}
use Rattle.aq_store.specs.declared.store.Stop.{Stop}
use Rattle.aq_obligations.specs.Asking.{products_in}
use Rattle.aq_obligations.specs.Claims.{are_met}
use Rattle.aq_obligations.specs.Worlds.{Partial, filled}
use Rattle.aq_obligations.specs.declared.bound.BoundCase.{BoundCase}
use Rattle.aq_set_build.specs.Budgets.{build_budget}
use Rattle.aq_set_build.specs.Growth.{Grows, StopsFor}
use Rattle.aq_set_build.specs.Listing.{IsBuilt, IsMade}
use Rattle.aq_set_build.specs.Products.{IsWideAmong}
use Rattle.aq_set_build.specs.Tensors.{Table}
use Rattle.aq_set_build.proofs.GrowthLemmas.{grows_then, stops_then}
use Rattle.aq_set_build.proofs.ListLemmas.{lists-Extends, lists_copy}
use Rattle.aq_symbolic.specs.Steps.{IsSameSet}
use Rattle.aq_decide.specs.Budgets.{build_all}
use Rattle.aq_decide.specs.Goals.{AreBuilt, AreMade, met_cases}
use Rattle.aq_decide.proofs.Elements.{flat_contains, some_is, zip_left, zip_push, zip_weaker}

-- ---- as the store grows
pub built_extends : (s : Sets) (old new : Table) → Extends old new → (cases : List BoundCase) (list : List Lsta) → AreBuilt s cases old list → AreBuilt s cases new list
built_extends s old new x cases list h = zip_weaker (λ (c : BoundCase) (m : Lsta). IsBuilt s.exprs c.set old m) (λ (c : BoundCase) (m : Lsta). IsBuilt s.exprs c.set new m)
    (λ c m b. lists-Extends (vectors_of s.exprs c.set) (place s.exprs c.set) (size_of s.exprs c.set).shape old new x m b) cases list h

pub made_extends : (s : Sets) (old new : Table) → Extends old new → (cases : List BoundCase) (list : List Lsta) → AreMade s cases old list → AreMade s cases new list
made_extends s old new x cases list h = zip_weaker (λ (c : BoundCase) (m : Lsta). IsMade s.exprs c.set old m) (λ (c : BoundCase) (m : Lsta). IsMade s.exprs c.set new m)
    (λ c m b. record { built = lists-Extends (vectors_of s.exprs c.set) (place s.exprs c.set) (size_of s.exprs c.set).shape old new x m b.built; fits = b.fits }) cases list h

pub built_of : (s : Sets) (table : Table) (cases : List BoundCase) (list : List Lsta) → AreMade s cases table list → AreBuilt s cases table list
built_of s table cases list h = zip_weaker (λ (c : BoundCase) (m : Lsta). IsMade s.exprs c.set table m) (λ (c : BoundCase) (m : Lsta). IsBuilt s.exprs c.set table m) (λ c m b. b.built) cases list h

-- ---- a case more
pub made_more : (s : Sets) (old new : Table) (cases : List BoundCase) (k j : ℕ) (c : BoundCase) (list next : List Lsta) (made : Lsta) → j ≡ k + 1 → next ≡ list ++ made ∷ [] → k < length cases → c ≡ get_or cases k c
    → Extends old new → AreMade s (take k cases) old list → IsMade s.exprs c.set new made → AreMade s (take j cases) new next
made_more s old new cases k j c list next made ej en lt e x h m =
    let here : AreMade s (take k cases ++ c ∷ []) new (list ++ made ∷ [])
    = zip_push (λ (d : BoundCase) (y : Lsta). IsMade s.exprs d.set new y) (take k cases) list c made (made_extends s old new x (take k cases) list h) m in
    let cut : take (k + 1) cases ≡ take k cases ++ c ∷ [] = take_more cases k c lt ∙ ap (λ (y : BoundCase). take k cases ++ y ∷ []) (sym e) in
    subst (λ (i : ℕ). AreMade s (take i cases) new next) (sym ej)
    (subst (λ (l : List BoundCase). AreMade s l new next) (sym cut) (subst (λ (l : List Lsta). AreMade s (take k cases ++ c ∷ []) new l) (sym en) here))

budget_more : (s : Sets) (cases : List BoundCase) (k : ℕ) (c : BoundCase) → k < length cases → c ≡ get_or cases k c → build_all s (take k cases) + build_budget s.exprs c.set ≡ build_all s (take (k + 1) cases)
budget_more s cases k c lt e =
    let f : BoundCase → ℕ = λ d. build_budget s.exprs d.set in
    let a = sum_by_more f cases k c lt in
    let b = ap f e in
    omega (arith, a, b)

pub grows_more : (s : Sets) (a b t : Table) (cases : List BoundCase) (k j : ℕ) (c : BoundCase) (u v w : Count) → j ≡ k + 1 → k < length cases → c ≡ get_or cases k c
    → Grows (build_all s (take k cases)) a b u v → Grows (build_budget s.exprs c.set) b t v w → Grows (build_all s (take j cases)) a t u w
grows_more s a b t cases k j c u v w ej lt e g h =
    let m = budget_more s cases k c lt e in
    let i = ap (λ n. build_all s (take n cases)) ej in
    grows_then (build_all s (take k cases)) (build_budget s.exprs c.set) (build_all s (take j cases)) a b t u v w g h (omega (arith, m, i))

pub grows_at : (s : Sets) (a b t : Table) (cases : List BoundCase) (k : ℕ) (c : BoundCase) (u v w : Count) → k < length cases → c ≡ get_or cases k c
    → Grows (build_all s (take k cases)) a b u v → Grows (build_budget s.exprs c.set) b t v w → Grows (build_all s cases) a t u w
grows_at s a b t cases k c u v w lt e g h =
    let f : BoundCase → ℕ = λ d. build_budget s.exprs d.set in
    let le = sum_by_more_le f cases k c lt in
    let i = ap f e in
    grows_then (build_all s (take k cases)) (build_budget s.exprs c.set) (build_all s cases) a b t u v w g h (omega (arith, le, i))

-- a product of one case is one of all
among : (s : Sets) (cases : List BoundCase) (c : BoundCase) → Contains cases c → (l r : Amplitude) → IsWideAmong (products_of s.exprs c.set) l r → IsWideAmong (products_in s cases) l r
among s cases c there l r h = record { member = flat_contains (λ (d : BoundCase). products_of s.exprs d.set) cases c (l, r) there h.member; wide = h.wide }

pub stops_at : (s : Sets) (a b : Table) (cases : List BoundCase) (k : ℕ) (c : BoundCase) (u v w : Count) (why : Stop Amplitude) → k < length cases → c ≡ get_or cases k c
    → Grows (build_all s (take k cases)) a b u v → StopsFor (IsWideAmong (products_of s.exprs c.set)) (build_budget s.exprs c.set) v w why
    → StopsFor (IsWideAmong (products_in s cases)) (build_all s cases) u w why
stops_at s a b cases k c u v w why lt e g h =
    let f : BoundCase → ℕ = λ d. build_budget s.exprs d.set in
    let le = sum_by_more_le f cases k c lt in
    let i = ap f e in
    let there : Contains cases c = subst (λ (d : BoundCase). Contains cases d) (sym e) (Contains-get_or cases k c lt) in
    stops_then (IsWideAmong (products_of s.exprs c.set)) (IsWideAmong (products_in s cases)) (build_all s (take k cases)) (build_budget s.exprs c.set) (build_all s cases) a b u v w why g
    (omega (arith, le, i)) (among s cases c there) h

-- ---- the cases whose conditions hold
met_test : Partial → BoundCase → Bool
met_test bits c = are_met c.when (filled bits)

met_more : (cases : List BoundCase) (bits : Partial) (k : ℕ) (d : BoundCase) → k < length cases
    → met_cases (take (k + 1) cases) bits ≡ met_cases (take k cases) bits ++ filter (λ (c : BoundCase). are_met c.when (filled bits)) (get_or cases k d ∷ [])
met_more cases bits k d lt =
    ap (λ l. met_cases l bits) (take_more cases k d lt) ∙ filter-append (λ (c : BoundCase). are_met c.when (filled bits)) (take k cases) (get_or cases k d ∷ [])

copy_built : (s : Sets) (table : Table) (c : BoundCase) (made copy : Lsta) → IsSameSet made copy → IsBuilt s.exprs c.set table made → IsBuilt s.exprs c.set table copy
copy_built s table c made copy e b = lists_copy (vectors_of s.exprs c.set) (place s.exprs c.set) (size_of s.exprs c.set).shape table made copy e.root e.shape b

-- one that holds
pub met_next : (cases : List BoundCase) (goals : List Lsta) (bits : Partial) (k : ℕ) (d : BoundCase) (made copy : Lsta) (list : List Lsta) → k < length cases → slice_get cases k ≡ Some d → slice_get goals k ≡ Some made
    → are_met d.when (filled bits) ≡ true → IsSameSet made copy → (s : Sets) (table : Table) → AreBuilt s cases table goals → AreBuilt s (met_cases (take k cases) bits) table list
    → AreBuilt s (met_cases (take (k + 1) cases) bits) table (list ++ copy ∷ [])
met_next cases goals bits k d made copy list lt e i met same s table all h =
    let z = zip_left (λ (c : BoundCase) (m : Lsta). IsBuilt s.exprs c.set table m) cases goals k d all e in
    let is : made ≡ z.0 = some_is made z.0 (sym i ∙ z.1) in
    let b = copy_built s table d made copy same (subst (λ (m : Lsta). IsBuilt s.exprs d.set table m) (sym is) z.2) in
    let g : get_or cases k d ≡ d = get_or_from_slice_get cases k d d e in
    let kept : filter (λ (c : BoundCase). are_met c.when (filled bits)) (get_or cases k d ∷ []) ≡ d ∷ [] =
    ap (λ (x : BoundCase). filter (λ (c : BoundCase). are_met c.when (filled bits)) (x ∷ [])) g ∙ ap (λ (t : Bool). cond t (d ∷ []) []) met in
    subst (λ (l : List BoundCase). AreBuilt s l table (list ++ copy ∷ [])) (sym (met_more cases bits k d lt ∙ ap (λ (l : List BoundCase). met_cases (take k cases) bits ++ l) kept))
    (zip_push (λ (c : BoundCase) (m : Lsta). IsBuilt s.exprs c.set table m) (met_cases (take k cases) bits) list d copy h b)

-- one that doesn't
pub met_past : (cases : List BoundCase) (bits : Partial) (k : ℕ) (d : BoundCase) (list : List Lsta) → k < length cases → slice_get cases k ≡ Some d → are_met d.when (filled bits) ≡ false
    → (s : Sets) (table : Table) → AreBuilt s (met_cases (take k cases) bits) table list → AreBuilt s (met_cases (take (k + 1) cases) bits) table list
met_past cases bits k d list lt e met s table h =
    let g : get_or cases k d ≡ d = get_or_from_slice_get cases k d d e in
    let kept : filter (λ (c : BoundCase). are_met c.when (filled bits)) (get_or cases k d ∷ []) ≡ [] =
    ap (λ (x : BoundCase). filter (λ (c : BoundCase). are_met c.when (filled bits)) (x ∷ [])) g ∙ ap (λ (t : Bool). cond t (d ∷ []) []) met in
    subst (λ (l : List BoundCase). AreBuilt s l table list) (sym (met_more cases bits k d lt ∙ ap (λ (l : List BoundCase). met_cases (take k cases) bits ++ l) kept ∙ append-nil (met_cases (take k cases) bits))) h
