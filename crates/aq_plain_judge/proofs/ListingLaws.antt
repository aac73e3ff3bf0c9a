-- The vectors that cases list.
use Rattle.std.proofs.Common.{◌≡◌, ℕ, zero, suc, ◌+◌, ◌<◌, Bool, true, false, not, List, [], ◌∷◌, ◌++◌, Contains, length, take, get_or, Option, Some, None, unwrap_or, if◌then◌else◌, refl, ap, sym, ◌∙◌, subst, arith, inr}
use Rattle.std.specs.Prelude.{slice_get, option_map}
use Rattle.std.specs.Option.{option_map_or}
use Rattle.std.proofs.lemmas.List.{map-append, length-map}
use Rattle.std.proofs.lemmas.List.Elements.{All-append, All-cons, All-nil, Contains-append_left, Contains-append_right}
use Rattle.std.proofs.lemmas.Option.{slice_get-map}
use Rattle.aq_ring.specs.Fractions.{Amplitude}
use Rattle.aq_prog.specs.Runs.{has_bit}
use Rattle.aq_prog.specs.declared.program.Program.{Program}
use Rattle.aq_prog.specs.declared.stmt.Guard.{Guard}
use Rattle.aq_sets.specs.Sizes.{size_of}
use Rattle.aq_sets.specs.Vectors.{vectors_of, products_of}
use Rattle.aq_sets.specs.declared.sets.Sets.{Sets}
use Rattle.aq_plain.specs.Listing.{states_of}
use Rattle.aq_plain.specs.Vectors.{StateVector}
use Rattle.aq_obligations.specs.Asking.{case_of, products_in, meaning_of}
use Rattle.aq_obligations.specs.Bound.{IsBoundCase}
use Rattle.aq_obligations.specs.Covering.{matches}
use Rattle.aq_obligations.specs.Wide.{IsWide}
use Rattle.aq_obligations.specs.Worlds.{Partial, filled}
use Rattle.aq_obligations.specs.declared.bound.BoundCase.{BoundCase}
use Rattle.aq_obligations.specs.declared.bound.Obligation.{Obligation}
use Rattle.aq_worlds.specs.Asked.{AreListedBy}
use Rattle.aq_worlds.specs.Playing.{AreOn, StopsFor, amps_of}
use Rattle.aq_worlds.specs.declared.stop.Stop.{Stop}
use Rattle.aq_worlds.specs.declared.stop.Stop.TheVariants as stop
use Rattle.aq_plain_judge.specs.declared.listing.GoalCase.{GoalCase}
use Rattle.aq_plain_judge.specs.Listing.{AreGoal, HasWide, case_states, claim_of}
use Rattle.aq_plain_judge.proofs.SearchLaws.{all_one, take_more}

-- what a part stops for, the whole stops for
pub stops_too : (P Q : Type 0) (e : Stop) → (P → Q) → StopsFor P e → StopsFor Q e
stops_too P Q stop.Width f p = f p
stops_too P Q stop.Memory f p = tt

pub some_is : {A : Type 0} (x y : A) → ◌≡◌ {A = Option A} (Some x) (Some y) → x ≡ y
some_is x y e = cc

-- ---- states
pub amps_is : (n : ℕ) (vs : List (List Amplitude)) → amps_of (states_of n vs) ≡ vs
amps_is n [] = refl
amps_is n (v ∷ vs) = ap (λ (l : List (List Amplitude)). v ∷ l) (amps_is n vs)

states_on : (n q : ℕ) (vs : List (List Amplitude)) → q ≡ n → AreOn n (states_of q vs)
states_on n q [] e = All-nil (λ (w : StateVector). w.qubits ≡ n)
states_on n q (v ∷ vs) e = All-cons (λ (w : StateVector). w.qubits ≡ n) (record { qubits = q; amps = v }) (states_of q vs) e (states_on n q vs e)

by_got : (q : ℕ) (o : Option (List Amplitude)) (v : StateVector) → ◌≡◌ {A = Option StateVector} (option_map (λ u. record { qubits = q; amps = u }) o) (Some v) → (o ≡ Some v.amps) × (v.qubits ≡ q)
by_got q None v e = cc
by_got q (Some u) v e = let is = some_is (record { qubits = q; amps = u }) v e in (ap (λ (w : StateVector). Some w.amps) is, sym (ap (λ (w : StateVector). w.qubits) is))

-- the state at a place, by the vector there
pub state_there : (s : Sets) (c : BoundCase) (k : ℕ) (v : StateVector) → slice_get (case_states s c) k ≡ Some v → (slice_get (vectors_of s.exprs c.set) k ≡ Some v.amps) × (v.qubits ≡ (size_of s.exprs c.set).qubits)
state_there s c k v e =
    by_got (size_of s.exprs c.set).qubits (slice_get (vectors_of s.exprs c.set) k) v
    (sym (slice_get-map (λ (u : List Amplitude). record { qubits = (size_of s.exprs c.set).qubits; amps = u }) (vectors_of s.exprs c.set) k) ∙ e)

pub states_long : (s : Sets) (c : BoundCase) (list : List StateVector) (k : ℕ) → list ≡ case_states s c → k < length (vectors_of s.exprs c.set) → k < length list
states_long s c list k e h =
    subst (λ (l : List StateVector). k < length l) (sym e)
    (let m : length (case_states s c) ≡ length (vectors_of s.exprs c.set) = length-map (vectors_of s.exprs c.set) (λ (u : List Amplitude). record { qubits = (size_of s.exprs c.set).qubits; amps = u }) in omega (arith, h, m))

pub listed_by : (p : Program) (s : Sets) (c : BoundCase) (list : List StateVector) → IsBoundCase p s c → list ≡ case_states s c → AreListedBy p s c list
listed_by p s c list b e = record {
  amps = ap amps_of e ∙ amps_is (size_of s.exprs c.set).qubits (vectors_of s.exprs c.set);
  qubits = subst (AreOn p.qubits) (sym e) (states_on p.qubits (size_of s.exprs c.set).qubits (vectors_of s.exprs c.set) b.qubits);
}

-- ---- the goal
pub claim_is : (s : Sets) (c : BoundCase) (g : GoalCase) → g.when ≡ c.when → g.vectors ≡ case_states s c → claim_of g ≡ case_of s c
claim_is s c g e f = λ i. record { vectors = (ap amps_of f ∙ amps_is (size_of s.exprs c.set).qubits (vectors_of s.exprs c.set)) i; when = e i }

pub no_goal : (p : Program) (s : Sets) → AreGoal p s [] []
no_goal p s = record { claims = refl; on = All-nil (λ (g : GoalCase). AreOn p.qubits g.vectors) }

pub goal_more : (p : Program) (s : Sets) (cases : List BoundCase) (i : ℕ) (c : BoundCase) (goal : List GoalCase) (g : GoalCase) → i < length cases → c ≡ get_or cases i c → claim_of g ≡ case_of s c → AreOn p.qubits g.vectors
    → AreGoal p s (take i cases) goal → AreGoal p s (take (i + 1) cases) (goal ++ g ∷ [])
goal_more p s cases i c goal g h is e on before = record {
  claims = map-append claim_of goal (g ∷ []) ∙ (λ i. before.claims i ++ e i ∷ []) ∙ sym (take_more (case_of s) cases i c h is);
  on = All-append (λ (x : GoalCase). AreOn p.qubits x.vectors) goal (g ∷ []) before.on (all_one (λ (x : GoalCase). AreOn p.qubits x.vectors) g on);
}

-- ---- products that don't fit
pub wide_in : (s : Sets) (cases : List BoundCase) (c : BoundCase) → Contains cases c → HasWide (products_of s.exprs c.set) → HasWide (products_in s cases)
wide_in s cases c m w = at_place cases m.0 m.1 (sym m.2)
  where
    at_place : (cs : List BoundCase) (i : ℕ) → i < length cs → c ≡ get_or cs i c → HasWide (products_in s cs)
    at_place [] i h is = absurd (omega (arith, h))
    at_place (x ∷ xs) zero h is =
        let t : Contains (products_of s.exprs x.set) (w.left, w.right) = subst (λ (d : BoundCase). Contains (products_of s.exprs d.set) (w.left, w.right)) is w.taken in
        record { left = w.left; right = w.right; taken = Contains-append_left (products_of s.exprs x.set) (products_in s xs) (w.left, w.right) t; wide = w.wide }
    at_place (x ∷ xs) (suc i) h is =
        let r = at_place xs i (omega (arith, h)) is in
        record { left = r.left; right = r.right; taken = Contains-append_right (products_of s.exprs x.set) (products_in s xs) (r.left, r.right) r.taken; wide = r.wide }

pub wide_before : (p : Program) (s : Sets) (o : Obligation) → HasWide (products_in s o.from) → IsWide (meaning_of p s o)
wide_before p s o w =
    inr (inr (record { left = w.left; right = w.right; taken = Contains-append_left (products_in s o.from) (products_in s o.goal.cases) (w.left, w.right) w.taken; wide = w.wide }))

pub wide_after : (p : Program) (s : Sets) (o : Obligation) → HasWide (products_in s o.goal.cases) → IsWide (meaning_of p s o)
wide_after p s o w =
    inr (inr (record { left = w.left; right = w.right; taken = Contains-append_right (products_in s o.from) (products_in s o.goal.cases) (w.left, w.right) w.taken; wide = w.wide }))

-- ---- bits that aren't known count as 0
pub filled_has : (g : Guard) (bits : Partial) → has_bit g (filled bits) ≡ option_map_or (λ b. if g.value then unwrap_or b false else not (unwrap_or b false)) (slice_get bits g.bit) false
filled_has g bits =
    ap (λ o. option_map_or (λ (b : Bool). if g.value then b else not b) o false) (slice_get-map (λ (b : Option Bool). unwrap_or b false) bits g.bit) ∙ through (slice_get bits g.bit)
  where
    through : (o : Option (Option Bool)) → option_map_or (λ (b : Bool). if g.value then b else not b) (option_map (λ (b : Option Bool). unwrap_or b false) o) false ≡ option_map_or (λ b. if g.value then unwrap_or b false else not (unwrap_or b false)) o false
    through None = refl
    through (Some b) = refl

pub matches_filled : (bits : Partial) → matches bits (filled bits) ≡ true
matches_filled [] = refl
matches_filled (None ∷ bits) = matches_filled bits
matches_filled (Some true ∷ bits) = matches_filled bits
matches_filled (Some false ∷ bits) = matches_filled bits
