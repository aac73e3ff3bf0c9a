use Rattle.std.proofs.lemmas.Result.{err_from_is_err_and}
use Rattle.aq_plain.specs.Replaying.{state_of}
use Rattle.aq_plain.proofs.PlayLaws.{refused_reset}
use Rattle.aq_plain.proofs.player.reset.Goals as goal

pub returns-in_err-outcome-clause-halted : goal.returns-in_err-outcome-clause-halted
returns-in_err-outcome-clause-halted c =
    let p = err_from_is_err_and c.from_residual.result c.from_residual.ensures.1 in
    let s = state_of c.args.player.now c.args.outcomes.now in
    rw (p.1, p.2) (refused_reset c.args.player.now.vector.qubits c.args.qubit s c.in_err-outcome.field-0.0 c.in_err-outcome.ensures.refused)
