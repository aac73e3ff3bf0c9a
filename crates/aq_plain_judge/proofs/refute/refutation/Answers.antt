use Rattle.std.proofs.Common.{List, Bool, ◌∙◌, ap, subst}
use Rattle.std.proofs.lemmas.Result.{err_from_is_err_and}
use Rattle.aq_sets.specs.Vectors.{products_of}
use Rattle.aq_plain.specs.Replaying.{start_of}
use Rattle.aq_obligations.specs.Asking.{meaning_of}
use Rattle.aq_obligations.specs.Wide.{IsWide}
use Rattle.aq_obligations.specs.Worlds.{filled}
use Rattle.aq_plain_judge.specs.Listing.{HasWide}
use Rattle.aq_plain_judge.specs.Refuting.{HasWideStep, IsEndOf}
use Rattle.aq_plain_judge.proofs.ListingLaws.{stops_too}
use Rattle.aq_plain_judge.proofs.ShowLaws.{IsRunOf, run_ends, run_playable, run_shown, run_wide, state_wide, within_case}
use Rattle.aq_plain_judge.proofs.refute.refutation.Goals as goal

pub state_at-requires-clause-within : goal.state_at-requires-clause-within
state_at-requires-clause-within c =
    within_case c.args.program.now c.args.sets.now c.args.obligation.now c.args.case.now c.args.world.now c.args.place c.requires.asked c.requires.played c.requires.alive

pub returns-in_err-state-clause-err : goal.returns-in_err-state-clause-err
returns-in_err-state-clause-err c =
    let p = err_from_is_err_and c.from_residual-in_err-state.result c.from_residual-in_err-state.ensures.1 in
    let s = c.args.sets.now in
    let o = c.args.obligation.now in
    rw (p.1, p.2)
    (stops_too (HasWide (products_of s.exprs c.args.case.now.set)) (IsWide (meaning_of c.args.program.now s o)) _ (state_wide c.args.program.now s o c.args.case.now c.requires.listed) c.in_err-state.ensures.err)

pub end_of_run-requires-clause-playable : goal.end_of_run-requires-clause-playable
end_of_run-requires-clause-playable c =
    let run : IsRunOf c.args.program.now c.args.sets.now c.args.obligation.now c.args.case.now c.args.world.now c.args.place c.as_slice-body.result.now c.as_slice-3.result.now c.in_ok-state.state c.as_slice-4.result.now
    = record {
      asked = c.requires.asked;
      listed = c.requires.listed;
      played = c.requires.played;
      body_is = c.as_slice-body.ensures;
      bits_are = c.as_slice-3.ensures ∙ c.in_ok-bits.ensures ∙ ap filled c.as_slice.ensures;
      state_is = c.in_ok-state.ensures.ok;
      outcomes_are = c.as_slice-4.ensures ∙ c.in_ok-outcomes.ensures ∙ c.as_slice-2.ensures;
    } in
    run_playable _ _ _ _ _ _ _ _ _ _ run c.requires.bits

pub end_of_run-requires-clause-ends : goal.end_of_run-requires-clause-ends
end_of_run-requires-clause-ends c =
    let run : IsRunOf c.args.program.now c.args.sets.now c.args.obligation.now c.args.case.now c.args.world.now c.args.place c.as_slice-body.result.now c.as_slice-3.result.now c.in_ok-state.state c.as_slice-4.result.now
    = record {
      asked = c.requires.asked;
      listed = c.requires.listed;
      played = c.requires.played;
      body_is = c.as_slice-body.ensures;
      bits_are = c.as_slice-3.ensures ∙ c.in_ok-bits.ensures ∙ ap filled c.as_slice.ensures;
      state_is = c.in_ok-state.ensures.ok;
      outcomes_are = c.as_slice-4.ensures ∙ c.in_ok-outcomes.ensures ∙ c.as_slice-2.ensures;
    } in
    run_ends _ _ _ _ _ _ _ _ _ _ run c.requires.alive

pub returns-in_err-end-clause-err : goal.returns-in_err-end-clause-err
returns-in_err-end-clause-err c =
    let p = err_from_is_err_and c.from_residual-in_err-end.result c.from_residual-in_err-end.ensures.1 in
    let run : IsRunOf c.args.program.now c.args.sets.now c.args.obligation.now c.args.case.now c.args.world.now c.args.place c.as_slice-body.result.now c.as_slice-3.result.now c.in_ok-state.state c.as_slice-4.result.now
    = record {
      asked = c.requires.asked;
      listed = c.requires.listed;
      played = c.requires.played;
      body_is = c.as_slice-body.ensures;
      bits_are = c.as_slice-3.ensures ∙ c.in_ok-bits.ensures ∙ ap filled c.as_slice.ensures;
      state_is = c.in_ok-state.ensures.ok;
      outcomes_are = c.as_slice-4.ensures ∙ c.in_ok-outcomes.ensures ∙ c.as_slice-2.ensures;
    } in
    let q = c.in_ok-state.state in
    rw (p.1, p.2)
    (stops_too (HasWideStep q.qubits c.as_slice-body.result.now (start_of c.as_slice-3.result.now q.amps c.as_slice-4.result.now)) (IsWide (meaning_of c.args.program.now c.args.sets.now c.args.obligation.now)) _
    (run_wide _ _ _ _ _ _ _ _ _ _ run) c.in_err-end.ensures.err)

pub returns-clause-ok : goal.returns-clause-ok
returns-clause-ok c =
    let run : IsRunOf c.args.program.now c.args.sets.now c.args.obligation.now c.args.case.now c.args.world.now c.args.place c.as_slice-body.result.now c.in_ok-bits.bits c.in_ok-state.state c.in_ok-outcomes.outcomes
    = record {
      asked = c.requires.asked;
      listed = c.requires.listed;
      played = c.requires.played;
      body_is = c.as_slice-body.ensures;
      bits_are = c.in_ok-bits.ensures ∙ ap filled c.as_slice.ensures;
      state_is = c.in_ok-state.ensures.ok;
      outcomes_are = c.in_ok-outcomes.ensures ∙ c.as_slice-2.ensures;
    } in
    let q = c.in_ok-state.state in
    run_shown _ _ _ _ _ _ _ _ _ _ run c.in_ok-end.end
    (subst (λ (d : List Bool × List Bool). IsEndOf q.qubits c.as_slice-body.result.now (start_of d.0 q.amps d.1) c.in_ok-end.end) (λ i. (c.as_slice-3.ensures i, c.as_slice-4.ensures i)) c.in_ok-end.ensures.ok)
