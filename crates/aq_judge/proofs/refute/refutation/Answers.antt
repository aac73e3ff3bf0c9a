use Rattle.std.proofs.Common.{List, Bool, refl, ◌∙◌, ap, subst}
use Rattle.std.proofs.lemmas.Result.{err_from_is_err_and}
use Rattle.aq_plain.specs.Replaying.{start_of}
use Rattle.aq_obligations.specs.Asking.{meaning_of}
use Rattle.aq_obligations.specs.Wide.{IsWide}
use Rattle.aq_obligations.specs.Worlds.{filled}
use Rattle.aq_judge.specs.Refuting.{HasWideStep, IsEndOf}
use Rattle.aq_judge.proofs.ShowLaws.{IsRunOf, is_state, run_ends, run_playable, run_shown, run_wide, stops_too}
use Rattle.aq_judge.proofs.refute.refutation.Goals as goal

pub from_amps-state-requires : goal.from_amps-state-requires
from_amps-state-requires c =
    is_state c.expressions.ensures.vectors c.args.program.now c.args.sets.now c.args.obligation.now c.requires.asked c.args.world c.args.state.items c.requires.escapes

pub end_of_run-requires-clause-playable : goal.end_of_run-requires-clause-playable
end_of_run-requires-clause-playable c =
    let p = c.args.program.now in
    let s = c.args.sets.now in
    let o = c.args.obligation.now in
    let w = c.args.world in
    let v = c.args.state.items in
    let body = c.as_slice-body.result.now in
    let bits = c.as_slice-2.result.now in
    let vector = c.from_amps-state.result in
    let outcomes = c.as_slice-3.result.now in
    let run : IsRunOf p o w v body bits vector outcomes
    = record {
      body_is = c.as_slice-body.ensures;
      bits_are = c.as_slice-2.ensures ∙ c.in-Ok.ensures ∙ ap filled c.as_slice.ensures;
      qubits_are = c.from_amps-state.ensures.qubits;
      state_is = c.from_amps-state.ensures.amps;
      outcomes_are = c.as_slice-3.ensures;
    } in
    run_playable c.worlds.ensures.refute c.worlds.ensures.decide p s o c.requires.asked w v c.requires.escapes body bits vector outcomes run

pub end_of_run-requires-clause-ends : goal.end_of_run-requires-clause-ends
end_of_run-requires-clause-ends c =
    let p = c.args.program.now in
    let s = c.args.sets.now in
    let o = c.args.obligation.now in
    let w = c.args.world in
    let v = c.args.state.items in
    let body = c.as_slice-body.result.now in
    let bits = c.as_slice-2.result.now in
    let vector = c.from_amps-state.result in
    let outcomes = c.as_slice-3.result.now in
    let run : IsRunOf p o w v body bits vector outcomes
    = record {
      body_is = c.as_slice-body.ensures;
      bits_are = c.as_slice-2.ensures ∙ c.in-Ok.ensures ∙ ap filled c.as_slice.ensures;
      qubits_are = c.from_amps-state.ensures.qubits;
      state_is = c.from_amps-state.ensures.amps;
      outcomes_are = c.as_slice-3.ensures;
    } in
    run_ends c.worlds.ensures.refute c.worlds.ensures.decide p s o c.requires.asked w v c.requires.escapes body bits vector outcomes run

pub returns-in_err-end-clause-err : goal.returns-in_err-end-clause-err
returns-in_err-end-clause-err c =
    let q = err_from_is_err_and c.from_residual.result c.from_residual.ensures.1 in
    let p = c.args.program.now in
    let s = c.args.sets.now in
    let o = c.args.obligation.now in
    let w = c.args.world in
    let v = c.args.state.items in
    let body = c.as_slice-body.result.now in
    let bits = c.as_slice-2.result.now in
    let vector = c.from_amps-state.result in
    let outcomes = c.as_slice-3.result.now in
    let run : IsRunOf p o w v body bits vector outcomes
    = record {
      body_is = c.as_slice-body.ensures;
      bits_are = c.as_slice-2.ensures ∙ c.in-Ok.ensures ∙ ap filled c.as_slice.ensures;
      qubits_are = c.from_amps-state.ensures.qubits;
      state_is = c.from_amps-state.ensures.amps;
      outcomes_are = c.as_slice-3.ensures;
    } in
    rw (q.1, q.2)
    (stops_too (HasWideStep vector.qubits body (start_of bits vector.amps outcomes)) (IsWide (meaning_of p s o)) _ (run_wide c.worlds.ensures.refute c.worlds.ensures.decide p s o c.requires.asked w v c.requires.escapes body bits vector outcomes run) c.in_err-end.ensures.err)

pub returns-clause-ok : goal.returns-clause-ok
returns-clause-ok c =
    let p = c.args.program.now in
    let s = c.args.sets.now in
    let o = c.args.obligation.now in
    let w = c.args.world in
    let v = c.args.state.items in
    let body = c.as_slice-body.result.now in
    let bits = c.in-Ok.bits in
    let vector = c.from_amps-state.result in
    let outcomes = c.args.world.outcomes in
    let run : IsRunOf p o w v body bits vector outcomes
    = record {
      body_is = c.as_slice-body.ensures;
      bits_are = c.in-Ok.ensures ∙ ap filled c.as_slice.ensures;
      qubits_are = c.from_amps-state.ensures.qubits;
      state_is = c.from_amps-state.ensures.amps;
      outcomes_are = refl;
    } in
    run_shown c.worlds.ensures.refute c.worlds.ensures.decide p s o c.requires.asked w v c.requires.escapes body bits vector outcomes run c.in_ok-end.end
    (subst (λ (d : List Bool × List Bool). IsEndOf vector.qubits body (start_of d.0 vector.amps d.1) c.in_ok-end.end) (λ i. (c.as_slice-2.ensures i, c.as_slice-3.ensures i)) c.in_ok-end.ensures.ok)
