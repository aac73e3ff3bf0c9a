-- An obligation as a whole.
use Rattle.std.proofs.Common.{◌⊎◌, inl, inr, ℕ, ◌+◌, ◌<◌, ◌≤◌, List, [], length, All, Contains, ◌∙◌, arith, ⊎_elim}
use Rattle.std.proofs.lemmas.List.Elements.{All-contains, All-weaker, Contains-append_cases, Contains-append_left, Contains-append_right}
use Rattle.aq_ring.specs.Fractions.{Amplitude}
use Rattle.aq_ring.specs.Amplitudes.{FitsAmplitudeProduct}
use Rattle.aq_prog.specs.declared.program.Program.{Program}
use Rattle.aq_sets.specs.Vectors.{products_of}
use Rattle.aq_sets.specs.declared.sets.Sets.{Sets}
use Rattle.aq_sets.proofs.SizeLaws.{has_shape}
use Rattle.aq_store.specs.Count.{Count}
use Rattle.aq_store.specs.declared.lsta.Lsta.{Lsta}
use Rattle.aq_store.specs.declared.store.Stop.{Stop}
use Rattle.aq_store.specs.declared.store.Stop.TheVariants.{Spent, Wide, WideParts, Memory}
use Rattle.aq_include.specs.Costs.{Takes}
use Rattle.aq_obligations.specs.Asking.{meaning_of, products_in}
use Rattle.aq_obligations.specs.Bound.{IsBoundCase}
use Rattle.aq_obligations.specs.Enough.{enough}
use Rattle.aq_obligations.specs.Wide.{IsWide, WideComparison, WideGate, WideSet}
use Rattle.aq_obligations.specs.declared.bound.BoundCase.{BoundCase}
use Rattle.aq_obligations.specs.declared.bound.Obligation.{Obligation}
use Rattle.aq_set_build.specs.Growth.{Grows, StopsFor}
use Rattle.aq_set_build.specs.Listing.{IsMade}
use Rattle.aq_set_build.specs.Products.{IsWideAmong}
use Rattle.aq_set_build.specs.Tensors.{Table}
use Rattle.aq_set_build.proofs.CoverLemmas.{valid_exprs}
use Rattle.aq_symbolic.specs.declared.kept.World.{World}
use Rattle.aq_decide.specs.Asked.{CanBeDecided}
use Rattle.aq_decide.specs.Budgets.{build_all, judge_budget, play_all, prices, spread_all}
use Rattle.aq_decide.specs.Deciding.{Decides, IsShort}
use Rattle.aq_decide.specs.Goals.{AreMade}
use Rattle.aq_decide.specs.Judging.{IsPaidFor, Judges}
use Rattle.aq_decide.specs.Stops.{GivesUpFor}
use Rattle.aq_decide.specs.declared.decision.Decision.{Decision}
use Rattle.aq_decide.specs.declared.decision.Decision.TheVariants as decision
use Rattle.aq_decide.proofs.Elements.{contains_flat, contains_get, zip_left}
use Rattle.aq_decide.proofs.SumLemmas.{HasLevels, all_steps}

module _ (p : Program) (s : Sets) (o : Obligation) (asked : CanBeDecided p s o) where
  pub all_there : (cases : List BoundCase) → All (IsBoundCase p s) cases → All (λ c. c.set < length s.exprs) cases
  all_there cases h = All-weaker (IsBoundCase p s) (λ (c : BoundCase). c.set < length s.exprs) (λ c b. b.there) cases h

  all_levels : (cases : List BoundCase) → All (IsBoundCase p s) cases → All (HasLevels p s) cases
  all_levels cases h = All-weaker (IsBoundCase p s) (HasLevels p s) (λ c b. has_shape s.exprs (valid_exprs s asked.sets) c.set b.there ∙ b.qubits) cases h

  pub total : (ws : List World) → prices ws ≤ spread_all p s o o.from → build_all s o.goal.cases + build_all s o.from + play_all p s o o.from + judge_budget s o ws ≤ enough p s o
  total ws few = all_steps p s o ws (all_levels o.from asked.bound.from) (all_levels o.goal.cases asked.bound.goal) few

  pub no_worlds : build_all s o.goal.cases + build_all s o.from + play_all p s o o.from + judge_budget s o [] ≤ enough p s o
  no_worlds = total [] (omega arith)

  -- ---- why it gives up
  wide_set : (l r : Amplitude) → Contains (products_in s o.from) (l, r) ⊎ Contains (products_in s o.goal.cases) (l, r) → (FitsAmplitudeProduct l r → ⊥) → IsWide (meaning_of p s o)
  wide_set l r (inl h) wide = inr (inr (record { left = l; right = r; taken = Contains-append_left (products_in s o.from) (products_in s o.goal.cases) (l, r) h; wide = wide }))
  wide_set l r (inr h) wide = inr (inr (record { left = l; right = r; taken = Contains-append_right (products_in s o.from) (products_in s o.goal.cases) (l, r) h; wide = wide }))

  pub goals_stop : (c0 c1 : Count) (why : Stop Amplitude) → StopsFor (IsWideAmong (products_in s o.goal.cases)) (build_all s o.goal.cases) c0 c1 why → GivesUpFor (IsWide (meaning_of p s o)) (enough p s o) c0 why
  goals_stop c0 c1 Spent h = let le = no_worlds in let lt = h.1 in omega (arith, le, lt)
  goals_stop c0 c1 (Wide l r) h = absurd h
  goals_stop c0 c1 (WideParts l r) h = wide_set l r (inr h.member) h.wide
  goals_stop c0 c1 Memory h = tt

  pub sources_stop : (t0 t1 : Table) (c0 c1 c2 : Count) (why : Stop Amplitude) → Grows (build_all s o.goal.cases) t0 t1 c0 c1 → StopsFor (IsWideAmong (products_in s o.from)) (build_all s o.from) c1 c2 why
      → GivesUpFor (IsWide (meaning_of p s o)) (enough p s o) c0 why
  sources_stop t0 t1 c0 c1 c2 Spent g h = let le = no_worlds in let lt = h.1 in omega (arith, le, lt, g.cheap, g.limit)
  sources_stop t0 t1 c0 c1 c2 (Wide l r) g h = absurd h
  sources_stop t0 t1 c0 c1 c2 (WideParts l r) g h = wide_set l r (inl h.member) h.wide
  sources_stop t0 t1 c0 c1 c2 Memory g h = tt

  pub worlds_stop : (t0 t1 t2 : Table) (c0 c1 c2 : Count) (why : Stop Amplitude) → Grows (build_all s o.goal.cases) t0 t1 c0 c1 → Grows (build_all s o.from) t1 t2 c1 c2
      → GivesUpFor (WideGate (meaning_of p s o)) (play_all p s o o.from) c2 why → GivesUpFor (IsWide (meaning_of p s o)) (enough p s o) c0 why
  worlds_stop t0 t1 t2 c0 c1 c2 Spent g f h = let le = no_worlds in omega (arith, le, h, g.cheap, g.limit, f.cheap, f.limit)
  worlds_stop t0 t1 t2 c0 c1 c2 (Wide l r) g f h = inl h
  worlds_stop t0 t1 t2 c0 c1 c2 (WideParts l r) g f h = inl h
  worlds_stop t0 t1 t2 c0 c1 c2 Memory g f h = tt

  pub judge_stop : (t0 t1 t2 t3 : Table) (c0 c1 c2 c3 : Count) (ws : List World) (why : Stop Amplitude) → prices ws ≤ spread_all p s o o.from → Grows (build_all s o.goal.cases) t0 t1 c0 c1 → Grows (build_all s o.from) t1 t2 c1 c2
      → Grows (play_all p s o o.from) t2 t3 c2 c3 → GivesUpFor (WideComparison (meaning_of p s o)) (judge_budget s o ws) c3 why → GivesUpFor (IsWide (meaning_of p s o)) (enough p s o) c0 why
  judge_stop t0 t1 t2 t3 c0 c1 c2 c3 ws Spent few g f e h = let le = total ws few in omega (arith, le, h, g.cheap, g.limit, f.cheap, f.limit, e.cheap, e.limit)
  judge_stop t0 t1 t2 t3 c0 c1 c2 c3 ws (Wide l r) few g f e h = inr (inl h)
  judge_stop t0 t1 t2 t3 c0 c1 c2 c3 ws (WideParts l r) few g f e h = inr (inl h)
  judge_stop t0 t1 t2 t3 c0 c1 c2 c3 ws Memory few g f e h = tt

  -- ---- what it takes
  pub goals_within : (t0 t1 : Table) (c0 c1 : Count) → Grows (build_all s o.goal.cases) t0 t1 c0 c1 → c1.taken ≤ c0.taken + enough p s o
  goals_within t0 t1 c0 c1 g = let le = no_worlds in omega (arith, le, g.cheap)

  pub sources_within : (t0 t1 t2 : Table) (c0 c1 c2 : Count) → Grows (build_all s o.goal.cases) t0 t1 c0 c1 → Grows (build_all s o.from) t1 t2 c1 c2 → c2.taken ≤ c0.taken + enough p s o
  sources_within t0 t1 t2 c0 c1 c2 g f = let le = no_worlds in omega (arith, le, g.cheap, f.cheap)

  pub worlds_within : (t0 t1 t2 t3 : Table) (c0 c1 c2 c3 : Count) → Grows (build_all s o.goal.cases) t0 t1 c0 c1 → Grows (build_all s o.from) t1 t2 c1 c2 → Grows (play_all p s o o.from) t2 t3 c2 c3 → c3.taken ≤ c0.taken + enough p s o
  worlds_within t0 t1 t2 t3 c0 c1 c2 c3 g f e = let le = no_worlds in omega (arith, le, g.cheap, f.cheap, e.cheap)

  pub all_within : (t0 t1 t2 t3 : Table) (c0 c1 c2 c3 c4 : Count) (ws : List World) → prices ws ≤ spread_all p s o o.from → Grows (build_all s o.goal.cases) t0 t1 c0 c1 → Grows (build_all s o.from) t1 t2 c1 c2
      → Grows (play_all p s o o.from) t2 t3 c2 c3 → Takes (judge_budget s o ws) c3 c4 → c4.taken ≤ c0.taken + enough p s o
  all_within t0 t1 t2 t3 c0 c1 c2 c3 c4 ws few g f e h = let le = total ws few in omega (arith, le, g.cheap, f.cheap, e.cheap, h.cheap)

  -- ---- what is decided
  fits_in : (cases : List BoundCase) (table : Table) (list : List Lsta) → AreMade s cases table list → (l r : Amplitude) → Contains (products_in s cases) (l, r) → FitsAmplitudeProduct l r
  fits_in cases table list made l r h =
      let a = contains_flat (λ (c : BoundCase). products_of s.exprs c.set) cases (l, r) h in
      let k = contains_get cases a.0 a.1 in
      let z = zip_left (λ (c : BoundCase) (m : Lsta). IsMade s.exprs c.set table m) cases list k.0 a.0 made k.1 in
      All-contains (λ (q : Amplitude × Amplitude). FitsAmplitudeProduct q.0 q.1) (products_of s.exprs a.0.set) (l, r) z.2.fits a.2

  no_wide_set : (t u : Table) (goals sources : List Lsta) → AreMade s o.goal.cases t goals → AreMade s o.from u sources → WideSet (meaning_of p s o) → ⊥
  no_wide_set t u goals sources g f w = w.wide (⊎_elim
      (λ h. fits_in o.from u sources f w.left w.right h) (λ h. fits_in o.goal.cases t goals g w.left w.right h)
      (Contains-append_cases (products_in s o.from) (products_in s o.goal.cases) (w.left, w.right) w.taken))

  pub decides_of : (t u : Table) (goals sources : List Lsta) → AreMade s o.goal.cases t goals → AreMade s o.from u sources → (WideGate (meaning_of p s o) → ⊥) → (d : Decision) → Judges p s o d → Decides p s o d
  decides_of t u goals sources g f gates (decision.Holds certs) h = record { certified = h.0; kept = h.1; no_wide_gate = gates; no_wide_set = no_wide_set t u goals sources g f }
  decides_of t u goals sources g f gates (decision.Escapes world word state) h = h

pub short_of : (cases : ℕ) (before now : Count) (d : Decision) → IsPaidFor cases before now d → IsShort cases now d
short_of cases before now (decision.Holds certs) h = omega (arith, h)
short_of cases before now (decision.Escapes world word state) h = tt
