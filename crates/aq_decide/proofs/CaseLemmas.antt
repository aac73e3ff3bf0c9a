-- The worlds of a case, from its automaton.
use Rattle.std.proofs.Common.{◌≡◌, ℕ, ◌+◌, ◌≤◌, inl, inr, List, ◌++◌, map, length, slice_get, Option, Some, All, Contains, refl, sym, ap, ◌∙◌, subst, arith}
use Rattle.std.proofs.Math.Nat.{mul-le-mul_left}
use Rattle.std.proofs.lemmas.List.Elements.{All-contains, All-weaker}
use Rattle.aq_ring.specs.Fractions.{Amplitude}
use Rattle.aq_prog.specs.declared.program.Program.{Program}
use Rattle.aq_sets.specs.Sizes.{size_of}
use Rattle.aq_sets.specs.declared.sets.Sets.{Sets}
use Rattle.aq_sets.proofs.SizeLaws.{has_shape}
use Rattle.aq_store.specs.Count.{Count}
use Rattle.aq_store.specs.Nodes.{FitsStore, HasShape}
use Rattle.aq_store.specs.Stops.{GivesUp}
use Rattle.aq_store.specs.declared.lsta.Lsta.{Lsta}
use Rattle.aq_store.specs.declared.store.Stop.{Stop}
use Rattle.aq_store.specs.declared.store.Stop.TheVariants.{Spent, Wide, WideParts, Memory}
use Rattle.aq_gate_ops.specs.Accounts.{IsStopped}
use Rattle.aq_gate_ops.specs.Causes.{IsCause}
use Rattle.aq_obligations.specs.Asking.{case_of, meaning_of}
use Rattle.aq_obligations.specs.Bound.{IsBoundCase}
use Rattle.aq_obligations.specs.Enough.{outcomes, statements}
use Rattle.aq_obligations.specs.Wide.{WideGate}
use Rattle.aq_obligations.specs.Worlds.{Partial, fixing, given_guards}
use Rattle.aq_obligations.specs.declared.bound.BoundCase.{BoundCase}
use Rattle.aq_obligations.specs.declared.bound.Obligation.{Obligation}
use Rattle.aq_correct.specs.WorldLaws.{WorldsMeetGates, start_of, worlds_of}
use Rattle.aq_decide.specs.Asked.{CanBeDecided}
use Rattle.aq_decide.specs.Splitting.{asked_bits}
use Rattle.aq_decide.specs.Starting.{bits_before}
use Rattle.aq_set_build.specs.Growth.{Grows}
use Rattle.aq_set_build.specs.Listing.{IsBuilt}
use Rattle.aq_set_build.specs.Tensors.{Table}
use Rattle.aq_set_build.proofs.CoverLemmas.{valid_exprs}
use Rattle.aq_symbolic.specs.Moves.{of_body}
use Rattle.aq_symbolic.specs.Playing.{Goes, IsUnfit, ShowsAll, named_in, steps_for}
use Rattle.aq_symbolic.specs.Splitting.{SharesSet}
use Rattle.aq_symbolic.specs.Steps.{Keeps}
use Rattle.aq_symbolic.specs.Weights.{weights}
use Rattle.aq_symbolic.specs.Worlds.{AreSized, ComesFrom, IsSized, View, world_of}
use Rattle.aq_symbolic.specs.declared.kept.World.{World}
use Rattle.aq_decide.specs.Budgets.{play_budget, prices, split_budget, spread_weight}
use Rattle.aq_decide.specs.Kept.{AreWorlds, alone}
use Rattle.aq_decide.specs.Starting.{BeginsIf}
use Rattle.aq_decide.specs.Playing.{CaseFits}
use Rattle.aq_decide.specs.Splitting.{AreDecided, HasBits, HaveBits}
use Rattle.aq_decide.specs.Stops.{GivesUpFor}
use Rattle.aq_decide.proofs.Elements.{get_contains}
use Rattle.aq_decide.proofs.FewLemmas.{added_light, decided_light, first_light, fragment_named, named_all}
use Rattle.aq_decide.proofs.FitLemmas.{case_fits, case_unfit}
use Rattle.aq_decide.proofs.ShowLemmas.{IsKeptOf, case_worlds, end_worlds, places, start_twins, whole_proper, whole_shows, whole_view}
use Rattle.aq_decide.proofs.StandLemmas.{Stands}
use Rattle.aq_decide.proofs.StartLemmas.{IsBegun, before-length, begun, begun_sized, fixing-length}
use Rattle.aq_decide.proofs.TwinLemmas.{AreTwins}

-- why a call gives up
pub gives_up : (P : Amplitude → Amplitude → Type 0) (W : Type 0) (bound most : ℕ) (before now : Count) (why : Stop Amplitude) → bound ≤ most → ((l r : Amplitude) → P l r → W) → IsStopped bound before now why → IsCause P why
    → GivesUpFor W most before why
gives_up P W bound most before now Spent le f s c = let h = s.spent refl in omega (arith, h, le)
gives_up P W bound most before now (Wide l r) le f s c = f l r c
gives_up P W bound most before now (WideParts l r) le f s c = absurd c
gives_up P W bound most before now Memory le f s c = tt

-- a call that gives up after another
pub gives_up_later : (W : Type 0) (bound most : ℕ) (start before now : Count) (why : Stop Amplitude) → before.limit ≡ start.limit → before.taken + bound ≤ start.taken + most → GivesUp bound before now why → GivesUpFor W most start why
gives_up_later W bound most start before now Spent same le g = let h = g.spent refl in omega (arith, h, le, same)
gives_up_later W bound most start before now (Wide l r) same le g = elim g.alone [ inl e ↦ cc | inr e ↦ cc ]
gives_up_later W bound most start before now (WideParts l r) same le g = elim g.alone [ inl e ↦ cc | inr e ↦ cc ]
gives_up_later W bound most start before now Memory same le g = tt

module _ (p : Program) (s : Sets) (o : Obligation) (asked : CanBeDecided p s o) (c : BoundCase) (number : ℕ) (listed : slice_get o.from number ≡ Some c) where
  of_from : Contains o.from c
  of_from = get_contains o.from number c listed

  bound : IsBoundCase p s c
  bound = All-contains (IsBoundCase p s) o.from c asked.bound.from of_from

  levels : length (size_of s.exprs c.set).shape ≡ p.qubits
  levels = has_shape s.exprs (valid_exprs s asked.sets) c.set bound.there ∙ bound.qubits

  abbrev fixed : Option Partial
  fixed = fixing (c.when ++ given_guards o.given) (bits_before o.start p.bits)

  module _ (old : Table) (lsta : Lsta) (first : List World) (built : IsBuilt s.exprs c.set old lsta) (begins : BeginsIf number lsta fixed first) where
    all_begun : All (IsBegun p.bits number lsta) first × (length first ≤ 1)
    all_begun = begun p.bits number lsta fixed first (fixing-length p.bits (c.when ++ given_guards o.given) (bits_before o.start p.bits) (before-length o.start p.bits)) begins

    pub first_sized : AreSized p.qubits p.bits old first
    first_sized = All-weaker (IsBegun p.bits number lsta) (IsSized p.qubits p.bits old) (λ w. begun_sized p.qubits p.bits number old lsta w (ap length built.shape ∙ levels) built.fits_store) first all_begun.0

    light : (weights (named_all o) (outcomes o.fragment) first ≤ spread_weight p s o c) × (weights (named_in o.fragment) (outcomes o.fragment) first ≤ spread_weight p s o c)
    light = first_light p s o c levels first
        (All-weaker (IsBegun p.bits number lsta) (λ (w : World). (w.lsta.shape.items ≡ (size_of s.exprs c.set).shape) × (length w.bits ≡ p.bits)) (λ w h. (h.shape ∙ built.shape, h.bits)) first all_begun.0) all_begun.1

    -- to play them leaves room for a step for each world that may come of them
    pub play_leaves : steps_for o.fragment first + spread_weight p s o c ≤ play_budget p s o c
    play_leaves = let a = mul-le-mul_left (statements o.fragment) light.1 in omega (arith, a)

    pub play_within : steps_for o.fragment first ≤ play_budget p s o c
    play_within = let a = play_leaves in omega (arith, a)

    pub unfit_wide : WorldsMeetGates → IsUnfit alone 1 (of_body o.fragment) old first → WideGate (meaning_of p s o)
    unfit_wide law u = case_unfit p s o asked.sets c bound.there law asked.bound.uncut of_from old number lsta first built fixed refl begins first_sized u

    abbrev view : View
    view = whole_view (case_of s c) (size_of s.exprs c.set).shape

    twins : AreTwins (Stands (places s asked.sets c bound.there) (size_of s.exprs c.set).count) (map (world_of alone view old) first) (start_of (meaning_of p s o) (case_of s c))
    twins = start_twins s asked.sets c bound.there old number lsta fixed first built begins

    module _ (new : Table) (ends : List World) (goes : Goes alone 1 o.fragment old new first ends) where
      pub ends_bits : HaveBits p.bits ends
      ends_bits = All-weaker (IsSized p.qubits p.bits new) (HasBits p.bits) (λ w h. record { start = h.start; bits = h.bits }) ends (goes.sized p.qubits p.bits first_sized)

      pub fits : CaseFits p s o c
      fits = case_fits p s o asked.sets c bound.there (map (world_of alone view old) first) twins
          (goes.fits p.qubits p.bits view (whole_proper (case_of s c) (size_of s.exprs c.set).shape) first_sized)

      light_ends : weights (named_all o) 0 ends ≤ spread_weight p s o c
      light_ends =
          let b = goes.lighter (named_all o) 0 (fragment_named o) in
          let e : outcomes o.fragment + 0 ≡ outcomes o.fragment = omega arith in
          let d = ap (λ n. weights (named_all o) n first) e in
          omega (arith, b, d, light.0)

      pub split_within : steps_for o.fragment first + split_budget o.goal.cases ends ≤ play_budget p s o c
      split_within =
          let fit = All-weaker (IsSized p.qubits p.bits new) (λ (w : World). FitsStore new w.lsta) (λ w h. h.fits) ends (goes.sized p.qubits p.bits first_sized) in
          let a = added_light o new ends fit in
          let b = light_ends in
          let d = play_leaves in
          omega (arith, a, b, d)

      module _ (list : List World) (decided : AreDecided (asked_bits o.goal.cases p.bits) ends list) where
        pub few : prices list ≤ spread_weight p s o c
        few =
            let a = decided_light o p.bits ends list decided in
            let b = light_ends in
            omega (arith, a, b)

        one_kept : (w : World) → SharesSet ends w → IsKeptOf s asked.sets c bound.there new number w
        one_kept w h =
            let sized = All-contains (IsSized p.qubits p.bits new) ends h.world (goes.sized p.qubits p.bits first_sized) h.listed in
            let from = All-contains (ComesFrom first) ends h.world goes.from h.listed in
            let b = All-contains (IsBegun p.bits number lsta) first from.world all_begun.0 from.listed in
            record {
              case = h.case ∙ from.case ∙ b.case;
              shape_is = h.set.shape ∙ from.shape ∙ b.shape ∙ built.shape;
              fits = subst (λ (u : List ℕ). HasShape new u w.lsta.root) (sym h.set.shape) (subst (λ (k : ℕ). HasShape new h.world.lsta.shape.items k) (sym h.set.root) sized.fits);
            }

        pub worlds : AreWorlds s o.from new list (worlds_of (meaning_of p s o) (case_of s c))
        worlds =
            let shows = All-weaker (IsBegun p.bits number lsta) (ShowsAll 1 view) (λ w h. whole_shows (case_of s c) w (size_of s.exprs c.set).shape (h.shape ∙ built.shape)) first all_begun.0 in
            end_worlds s asked.sets c bound.there o.from new number list (worlds_of (meaning_of p s o) (case_of s c)) listed
            (All-weaker (SharesSet ends) (IsKeptOf s asked.sets c bound.there new number) one_kept list decided.sets)
            (case_worlds s asked.sets c bound.there p o old new first ends list twins
            (goes.whole p.qubits p.bits view (whole_proper (case_of s c) (size_of s.exprs c.set).shape) shows first_sized) decided)

-- ---- growth
pub grows_played : (bound most : ℕ) (old new : Table) (before now : Count) → bound ≤ most → Keeps old new before now → now.taken ≤ before.taken + bound → Grows most old new before now
grows_played bound most old new before now le k cheap = record { keeps = k.table; paid = k.paid; limit = k.limit; cheap = omega (arith, le, cheap) }

-- and then the counter alone goes on
pub grows_split : (bound more most : ℕ) (old new : Table) (before mid now : Count) → bound + more ≤ most → Keeps old new before mid → mid.taken ≤ before.taken + bound → mid.taken ≤ now.taken → now.limit ≡ mid.limit
    → now.taken ≤ mid.taken + more → Grows most old new before now
grows_split bound more most old new before mid now le k first later limit second =
    record { keeps = k.table; paid = omega (arith, k.paid, later); limit = limit ∙ k.limit; cheap = omega (arith, le, first, second) }
