-- What is shown of a world's vector is of the run that leads to it.
use Rattle.std.proofs.Common.{◌≡◌, ℕ, ◌^◌, Bool, List, length, ap, sym, ◌∙◌, subst, inl}
use Rattle.std.specs.Prelude.{slice_get}
use Rattle.std.proofs.lemmas.List.Elements.{All-contains}
use Rattle.aq_ring.specs.Fractions.{Amplitude}
use Rattle.aq_ring.specs.Vectors.{IsZeroVector}
use Rattle.aq_prog.specs.Runs.{State}
use Rattle.aq_prog.specs.declared.program.Program.{Program}
use Rattle.aq_prog.specs.declared.stmt.Stmt.{Stmt}
use Rattle.aq_sets.specs.Laws.{VectorLaws}
use Rattle.aq_sets.specs.Sizes.{place, size_of}
use Rattle.aq_sets.specs.Vectors.{vectors_of}
use Rattle.aq_sets.specs.declared.sets.Sets.{Sets}
use Rattle.aq_plain.specs.Replaying.{ArePlayable, start_of}
use Rattle.aq_plain.specs.Vectors.{IsStateVector, StateVector}
use Rattle.aq_plain.specs.declared.replay_stop.Played.{Played as Reached}
use Rattle.aq_obligations.specs.Asking.{meaning_of}
use Rattle.aq_obligations.specs.Bound.{IsBoundCase}
use Rattle.aq_obligations.specs.Claims.{ClaimCase}
use Rattle.aq_obligations.specs.Obligations.{IsCounterexample}
use Rattle.aq_obligations.specs.Wide.{IsWide}
use Rattle.aq_obligations.specs.Worlds.{IsRefutation, filled}
use Rattle.aq_obligations.specs.declared.bound.Obligation.{Obligation}
use Rattle.aq_correct.specs.WorldLaws.{WorldsDecide, WorldsRefute, shown_by_escape}
use Rattle.aq_report.specs.Verdicts.{IsRefutedBy, shown_by}
use Rattle.aq_report.specs.declared.verdict.Refutation.{Refutation}
use Rattle.aq_report.specs.declared.verdict.Why.{Why}
use Rattle.aq_report.specs.declared.verdict.Why.TheVariants as why
use Rattle.aq_symbolic.specs.declared.kept.World.{World}
use Rattle.aq_decide.specs.Asked.{CanBeDecided}
use Rattle.aq_decide.proofs.Elements.{get_contains}
use Rattle.aq_judge.specs.Refuting.{EndsAlive, HasWideStep, IsEndOf, IsShownBy, StopsFor}

-- what a part stops for, the whole stops for
pub stops_too : (P Q : Type 0) (e : Why) → (P → Q) → StopsFor P e → StopsFor Q e
stops_too P Q why.Width f p = f p
stops_too P Q why.Steps f p = absurd p
stops_too P Q why.Memory f p = tt

at_run : (P : ℕ → List Stmt → State → Type 0) (n q : ℕ) (body b : List Stmt) (s t : State) → n ≡ q → body ≡ b → s ≡ t → P n body s → P q b t
at_run P n q body b s t e f g h = subst (P q b) g (subst (λ (l : List Stmt). P q l s) f (subst (λ (k : ℕ). P k body s) e h))

-- the state is one of the program's
pub is_state : VectorLaws → (p : Program) (s : Sets) (o : Obligation) → CanBeDecided p s o → (w : World) (state : List Amplitude) → IsShownBy p s o w state → IsStateVector p.qubits state
is_state law p s o asked w state shown =
    let f = shown.first in
    let c = f.case in
    let bound = All-contains (IsBoundCase p s) o.from c asked.bound.from (get_contains o.from w.case c f.number) in
    let at = ap (λ (d : ClaimCase). slice_get d.vectors (place s.exprs c.set shown.word)) (sym f.of_case) ∙ f.state_is in
    record {
      size = All-contains (λ (v : List Amplitude). length v ≡ 2 ^ (size_of s.exprs c.set).qubits) (vectors_of s.exprs c.set) state (law.long s asked.sets c.set bound.there)
          (get_contains (vectors_of s.exprs c.set) (place s.exprs c.set shown.word) state at) ∙ ap (λ (n : ℕ). 2 ^ n) bound.qubits;
      few = asked.program.qubits;
    }

-- the statements, bits, state and outcomes are those of the run from the state to the world's vector
pub record IsRunOf (p : Program) (o : Obligation) (w : World) (state : List Amplitude) (body : List Stmt) (bits : List Bool) (vector : StateVector) (outcomes : List Bool) : Type 0 where
  pub body_is : body ≡ o.fragment
  pub bits_are : bits ≡ filled w.start
  pub qubits_are : vector.qubits ≡ p.qubits
  pub state_is : vector.amps ≡ state
  pub outcomes_are : outcomes ≡ w.outcomes

module _ (refute : WorldsRefute) (decide : WorldsDecide) (p : Program) (s : Sets) (o : Obligation) (asked : CanBeDecided p s o) (w : World) (state : List Amplitude) (shown : IsShownBy p s o w state) where
  escape : IsRefutation (meaning_of p s o) (shown_by_escape (meaning_of p s o) shown.first.world state shown.first.escape.escaping)
  escape =
      let f = shown.first in
      let e = f.escape in
      refute.escape (meaning_of p s o) f.earlier f.world f.later e.before e.escaping e.after state asked.bound.uncut f.worlds_are f.earlier_kept e.vectors_are e.before_kept e.nonzero e.escapes
      (ap (slice_get f.world.case.vectors) e.place_is ∙ f.state_is)

  counter : IsCounterexample (meaning_of p s o) (shown_by_escape (meaning_of p s o) shown.first.world state shown.first.escape.escaping)
  counter = decide.counterexample (meaning_of p s o) _ asked.bound.uncut escape

  module _ (body : List Stmt) (bits : List Bool) (vector : StateVector) (outcomes : List Bool) (r : IsRunOf p o w state body bits vector outcomes) where
    bits_from : bits ≡ filled shown.first.world.start
    bits_from = r.bits_are ∙ ap filled (sym shown.first.start)

    outcomes_from : outcomes ≡ shown.first.world.outcomes
    outcomes_from = r.outcomes_are ∙ sym shown.first.outcomes

    start_is : start_of bits vector.amps outcomes ≡ start_of (filled shown.first.world.start) state shown.first.world.outcomes
    start_is = λ i. start_of (bits_from i) (r.state_is i) (outcomes_from i)

    pub run_playable : ArePlayable vector.qubits (length bits) body
    run_playable =
        let many : length bits ≡ p.bits = ap length bits_from ∙ counter.start.sized in
        let here : ArePlayable p.qubits p.bits o.fragment = record { claims = length p.claims; valid = asked.bound.fragment } in
        subst (λ (l : List Stmt). ArePlayable vector.qubits (length bits) l) (sym r.body_is)
        (subst (λ (m : ℕ). ArePlayable vector.qubits m o.fragment) (sym many) (subst (λ (n : ℕ). ArePlayable n p.bits o.fragment) (sym r.qubits_are) here))

    pub run_ends : EndsAlive vector.qubits body (start_of bits vector.amps outcomes)
    run_ends =
        let here : EndsAlive p.qubits o.fragment (start_of (filled shown.first.world.start) state shown.first.world.outcomes)
        = record {
          uncut = asked.bound.uncut;
          whole = counter.whole;
          alive = λ z. counter.nonzero (subst IsZeroVector (sym counter.end_is) z);
        } in
        at_run EndsAlive p.qubits vector.qubits o.fragment body _ _ (sym r.qubits_are) (sym r.body_is) (sym start_is) here

    pub run_wide : HasWideStep vector.qubits body (start_of bits vector.amps outcomes) → IsWide (meaning_of p s o)
    run_wide h =
        let g = at_run HasWideStep vector.qubits p.qubits body o.fragment _ _ r.qubits_are r.body_is start_is h in
        inl (record { bits = filled shown.first.world.start; vector = state; outcomes = shown.first.world.outcomes; start = counter.start; step = g.step; played = g.played; wide = g.wide })

    pub run_shown : (e : Reached) → IsEndOf vector.qubits body (start_of bits vector.amps outcomes) e
        → IsRefutedBy (meaning_of p s o) (record { bits = bits; state = vector; outcomes = outcomes; end_bits = e.bits; end = e.vector })
    run_shown e h =
        let m = meaning_of p s o in
        let g = at_run (λ n l t. IsEndOf n l t e) vector.qubits p.qubits body o.fragment _ _ r.qubits_are r.body_is start_is h in
        let told : Refutation = record { bits = bits; state = vector; outcomes = outcomes; end_bits = e.bits; end = e.vector } in
        let same : shown_by told ≡ shown_by_escape m shown.first.world state shown.first.escape.escaping
        = λ i. record { bits = bits_from i; state = r.state_is i; outcomes = outcomes_from i; end_bits = g.bits i; end = (g.vector ∙ sym counter.end_is) i } in
        let refuted = subst (IsRefutation m) (sym same) escape in
        record { state_qubits = r.qubits_are; end_qubits = g.qubits; refutation = refuted; counterexample = decide.counterexample m (shown_by told) asked.bound.uncut refuted }
