-- The worlds of all cases, case by case.
use Rattle.std.proofs.Common.{◌≡◌, ℕ, zero, suc, ◌+◌, ◌<◌, ◌≤◌, slice_index_or, List, [], ◌∷◌, ◌++◌, length, take, get_or, slice_get, Some, All, Contains, refl, sym, ap, ◌∙◌, subst, arith, append-nil}
use Rattle.std.specs.List.{flat_map}
use Rattle.std.proofs.Math.Seq.{take-length}
use Rattle.std.proofs.lemmas.List.{take_more, map-append}
use Rattle.std.proofs.lemmas.List.Concat.{flat_map-append}
use Rattle.std.proofs.lemmas.List.Elements.{All-nil, All-more, All-contains}
use Rattle.std.proofs.lemmas.List.Sums.{sum_by-append, sum_by-take-le, sum_by_more, sum_by_more_le}
use Rattle.std.proofs.lemmas.Option.{get_or_from_slice_get}
use Rattle.aq_ring.specs.Fractions.{Amplitude}
use Rattle.aq_prog.specs.Cuts.{AreUncut}
use Rattle.aq_prog.specs.declared.program.Program.{Program}
use Rattle.aq_sets.specs.Sizes.{place, size_of}
use Rattle.aq_sets.specs.Vectors.{vectors_of}
use Rattle.aq_sets.specs.declared.sets.Sets.{Sets}
use Rattle.aq_store.specs.Count.{Count}
use Rattle.aq_store.specs.Nodes.{Extends, total_cost}
use Rattle.aq_store.specs.declared.lsta.Lsta.{Lsta}
use Rattle.aq_store.specs.declared.store.Stop.{Stop}
use Rattle.aq_store.specs.declared.store.Stop.TheVariants.{Spent, Wide, WideParts, Memory}
use Rattle.aq_obligations.specs.Asking.{case_of, cases_of, meaning_of}
use Rattle.aq_obligations.specs.Claims.{ClaimCase}
use Rattle.aq_obligations.specs.Covering.{meets_of}
use Rattle.aq_obligations.specs.Wide.{WideGate}
use Rattle.aq_obligations.specs.Worlds.{start_worlds}
use Rattle.aq_obligations.specs.Worlds as meant
use Rattle.aq_obligations.specs.declared.bound.BoundCase.{BoundCase}
use Rattle.aq_obligations.specs.declared.bound.Obligation.{Obligation}
use Rattle.aq_correct.specs.WorldLaws.{WorldsCoverRuns, WorldsMeetGates, start_of, worlds_of}
use Rattle.aq_set_build.specs.Growth.{Grows}
use Rattle.aq_set_build.specs.Listing.{IsBuilt}
use Rattle.aq_set_build.specs.Tensors.{Table}
use Rattle.aq_set_build.proofs.GrowthLemmas.{grows_none, grows_then}
use Rattle.aq_set_build.proofs.ListLemmas.{lists-Extends}
use Rattle.aq_symbolic.specs.Weights.{price}
use Rattle.aq_symbolic.specs.declared.kept.World.{World}
use Rattle.aq_decide.specs.Budgets.{play_all, play_budget, prices, spread_all, spread_weight}
use Rattle.aq_decide.specs.Kept.{AreWorlds, IsWorld}
use Rattle.aq_decide.specs.Playing.{CaseFits}
use Rattle.aq_decide.specs.Stops.{GivesUpFor}
use Rattle.aq_decide.specs.Goals.{AreBuilt}
use Rattle.aq_decide.proofs.Elements.{contains_flat, flat_contains, get_at, some_is, zip_length, zip_right, zip_weaker}
use Rattle.aq_decide.proofs.TwinLemmas.{zip_append}

-- ---- as the store grows
pub worlds_extend : (s : Sets) (cases : List BoundCase) (old new : Table) → Extends old new → (ws : List World) (us : List meant.World) → AreWorlds s cases old ws us → AreWorlds s cases new ws us
worlds_extend s cases old new x ws us h = zip_weaker (IsWorld s cases old) (IsWorld s cases new) (λ w u i. record {
  bound = i.bound;
  number = i.number;
  is = record {
    case = i.is.case;
    start = i.is.start;
    bits = i.is.bits;
    outcomes = i.is.outcomes;
    vectors = lists-Extends u.vectors (place s.exprs i.bound.set) (size_of s.exprs i.bound.set).shape old new x w.lsta i.is.vectors;
  };
}) ws us h

-- the automaton at a position, and its case
pub source_at : (s : Sets) (old new : Table) → Extends old new → (cases : List BoundCase) (sources : List Lsta) (k : ℕ) (c : BoundCase) (l : Lsta) → AreBuilt s cases old sources → k < length sources
    → c ≡ get_or cases k c → l ≡ get_or sources k l → (slice_get cases k ≡ Some c) × IsBuilt s.exprs c.set new l
source_at s old new x cases sources k c l built lt e i =
    let long = zip_length (λ (d : BoundCase) (m : Lsta). IsBuilt s.exprs d.set old m) cases sources built in
    let at = get_at cases k c (omega (arith, lt, long)) e in
    let z = zip_right (λ (d : BoundCase) (m : Lsta). IsBuilt s.exprs d.set old m) cases sources k l built (get_at sources k l lt i) in
    let same : z.0 ≡ c = some_is z.0 c (sym z.1 ∙ at) in
    (at, lists-Extends (vectors_of s.exprs c.set) (place s.exprs c.set) (size_of s.exprs c.set).shape old new x l (subst (λ (d : BoundCase). IsBuilt s.exprs d.set old l) same z.2))

pub as_many : (s : Sets) (table : Table) (cases : List BoundCase) (sources : List Lsta) → AreBuilt s cases table sources → length cases ≡ length sources
as_many s table cases sources built = zip_length (λ (d : BoundCase) (m : Lsta). IsBuilt s.exprs d.set table m) cases sources built

module _ (p : Program) (s : Sets) (o : Obligation) where
  -- the worlds of some of the cases
  abbrev pub worlds_in : List BoundCase → List meant.World
  worlds_in cases = flat_map (worlds_of (meaning_of p s o)) (cases_of s cases)

  -- what there is once some of the cases are done
  pub record IsDone (old new : Table) (before now : Count) (cases : List BoundCase) (list : List World) : Type 0 where
    pub worlds : AreWorlds s o.from new list (worlds_in cases)
    pub fits : All (CaseFits p s o) cases
    pub few : prices list ≤ spread_all p s o cases
    pub grows : Grows (play_all p s o cases) old new before now

  worlds_more : (cases : List BoundCase) (c : BoundCase) → worlds_in (cases ++ c ∷ []) ≡ worlds_in cases ++ worlds_of (meaning_of p s o) (case_of s c)
  worlds_more cases c =
      let W = worlds_of (meaning_of p s o) in
      ap (flat_map W) (map-append (case_of s) cases (c ∷ [])) ∙ flat_map-append W (cases_of s cases) (case_of s c ∷ []) ∙ ap (λ l. worlds_in cases ++ l) (append-nil (W (case_of s c)))

  pub done_none : (table : Table) (count : Count) → total_cost table ≤ count.taken → IsDone table table count count [] []
  done_none table count paid = record { worlds = tt; fits = All-nil (CaseFits p s o); few = omega arith; grows = grows_none table count paid }

  pub done_more : (a b t : Table) (u v w : Count) (cases : List BoundCase) (k j : ℕ) (c : BoundCase) (list more next : List World) → j ≡ k + 1 → next ≡ list ++ more → k < length cases → slice_get cases k ≡ Some c
      → IsDone a b u v (take k cases) list → AreWorlds s o.from t more (worlds_of (meaning_of p s o) (case_of s c)) → CaseFits p s o c → prices more ≤ spread_weight p s o c
      → Grows (play_budget p s o c) b t v w → IsDone a t u w (take j cases) next
  done_more a b t u v w cases k j c list more next ej en lt e d worlds fits few grows =
      let g : get_or cases k c ≡ c = get_or_from_slice_get cases k c c e in
      let cut : take (k + 1) cases ≡ take k cases ++ c ∷ [] = take_more cases k c lt ∙ ap (λ (y : BoundCase). take k cases ++ y ∷ []) g in
      let both = zip_append (IsWorld s o.from t) list more (worlds_in (take k cases)) (worlds_of (meaning_of p s o) (case_of s c)) (worlds_extend s o.from b t grows.keeps list (worlds_in (take k cases)) d.worlds) worlds in
      let spread = sum_by_more (spread_weight p s o) cases k c lt in
      let play = sum_by_more (play_budget p s o) cases k c lt in
      let spread_here = ap (spread_weight p s o) g in
      let play_here = ap (play_budget p s o) g in
      let sum = sum_by-append (λ (x : World). price x.lsta.shape.items) list more in
      let here : IsDone a t u w (take (k + 1) cases) (list ++ more) = record {
        worlds = subst (λ l. AreWorlds s o.from t (list ++ more) (worlds_in l)) (sym cut) (subst (λ l. AreWorlds s o.from t (list ++ more) l) (sym (worlds_more (take k cases) c)) both);
        fits = All-more (CaseFits p s o) cases k c lt d.fits (subst (CaseFits p s o) (sym g) fits);
        few = omega (arith, sum, spread, spread_here, few, d.few);
        grows = grows_then (play_all p s o (take k cases)) (play_budget p s o c) (play_all p s o (take (k + 1) cases)) a b t u v w d.grows grows (omega (arith, play, play_here));
      } in
      subst (λ (l : List World). IsDone a t u w (take j cases) l) (sym en) (subst (λ (i : ℕ). IsDone a t u w (take i cases) (list ++ more)) (sym ej) here)

  -- a case whose play gives up
  pub done_stops : (a b : Table) (u v : Count) (cases : List BoundCase) (k : ℕ) (c : BoundCase) (list : List World) (W : Type 0) (why : Stop Amplitude) → k < length cases → slice_get cases k ≡ Some c
      → IsDone a b u v (take k cases) list → GivesUpFor W (play_budget p s o c) v why → GivesUpFor W (play_all p s o cases) u why
  done_stops a b u v cases k c list W why lt e d h =
      let g : get_or cases k c ≡ c = get_or_from_slice_get cases k c c e in
      let le = sum_by_more_le (play_budget p s o) cases k c lt in
      let here = ap (play_budget p s o) g in
      by why h (omega (arith, le, here, d.grows.cheap)) d.grows.limit
    where
      by : (why : Stop Amplitude) → GivesUpFor W (play_budget p s o c) v why → v.taken + play_budget p s o c ≤ u.taken + play_all p s o cases → v.limit ≡ u.limit → GivesUpFor W (play_all p s o cases) u why
      by Spent h le same = omega (arith, h, le, same)
      by (Wide l r) h le same = h
      by (WideParts l r) h le same = h
      by Memory h le same = tt

  pub done_within : (a b : Table) (u v : Count) (cases : List BoundCase) (k : ℕ) (list : List World) → IsDone a b u v (take k cases) list → Grows (play_all p s o cases) a b u v
  done_within a b u v cases k list d =
      let le = sum_by-take-le (play_budget p s o) cases k in
      record { keeps = d.grows.keeps; paid = d.grows.paid; limit = d.grows.limit; cheap = omega (arith, le, d.grows.cheap) }

  -- all of them
  pub all_done : (a b : Table) (u v : Count) (k : ℕ) (sources : List Lsta) (list : List World) (first : Table) → AreBuilt s o.from first sources → length sources ≤ k → k ≤ length sources → IsDone a b u v (take k o.from) list
      → IsDone a b u v o.from list
  all_done a b u v k sources list first built le ge d =
      let long = as_many s first o.from sources built in
      let e : k ≡ length o.from = omega (arith, le, ge, long) in
      subst (λ (l : List BoundCase). IsDone a b u v l list) (ap (λ n. take n o.from) e ∙ take-length o.from) d

  pub done_within_more : (a b t : Table) (u v w : Count) (cases : List BoundCase) (k : ℕ) (c : BoundCase) (list : List World) → k < length cases → slice_get cases k ≡ Some c
      → IsDone a b u v (take k cases) list → Grows (play_budget p s o c) b t v w → Grows (play_all p s o cases) a t u w
  done_within_more a b t u v w cases k c list lt e d grows =
      let g : get_or cases k c ≡ c = get_or_from_slice_get cases k c c e in
      let le = sum_by_more_le (play_budget p s o) cases k c lt in
      let here = ap (play_budget p s o) g in
      grows_then (play_all p s o (take k cases)) (play_budget p s o c) (play_all p s o cases) a b t u v w d.grows grows (omega (arith, le, here))

  pub done_worlds : WorldsCoverRuns → (table : Table) (list : List World) → AreWorlds s o.from table list (worlds_in o.from) → AreWorlds s o.from table list (meant.worlds (meaning_of p s o))
  done_worlds law table list h = subst (λ l. AreWorlds s o.from table list l) (sym (law.by_case (meaning_of p s o))) h

  contains_of : (cases : List BoundCase) (d : ClaimCase) → Contains (cases_of s cases) d → (c : BoundCase) × Contains cases c × (case_of s c ≡ d)
  contains_of [] d h = absurd (omega (arith, h.1))
  contains_of (c ∷ cases) d h = by h.0 h.1 h.2 (contains_of cases d)
    where
      by : (k : ℕ) → k < length (cases_of s (c ∷ cases)) → slice_index_or (cases_of s (c ∷ cases)) k d ≡ d → (Contains (cases_of s cases) d → (x : BoundCase) × Contains cases x × (case_of s x ≡ d))
          → (x : BoundCase) × Contains (c ∷ cases) x × (case_of s x ≡ d)
      by zero lt e rest = (c, (0, omega arith, refl), e)
      by (suc k) lt e rest = let r = rest (k, omega (arith, lt), e) in (r.0, (suc r.1.0, (let n = r.1.1 in omega (arith, n)), r.1.2), r.2)

  pub done_fits : WorldsMeetGates → AreUncut o.fragment → All (CaseFits p s o) o.from → WideGate (meaning_of p s o) → ⊥
  done_fits law uncut all = law.no_wide_gate (meaning_of p s o) uncut (λ e v h in_vectors.
      let m = meaning_of p s o in
      let a = contains_flat (meets_of p.qubits o.fragment) (start_worlds m) e h in
      let b = contains_flat (λ (d : ClaimCase). start_of m d) m.assumed a.0 a.1 in
      let c = contains_of o.from b.0 b.1 in
      let started = subst (λ d. Contains (start_of m d) a.0) (sym c.2) b.2 in
      All-contains (CaseFits p s o) o.from c.0 all c.1 e v (flat_contains (meets_of p.qubits o.fragment) (start_of m (case_of s c.0)) a.0 e started a.2) in_vectors)
