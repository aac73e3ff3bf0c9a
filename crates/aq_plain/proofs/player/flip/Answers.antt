use Rattle.std.proofs.Common.{◌∙◌}
use Rattle.aq_plain.proofs.PlayLaws.{flip_valid}
use Rattle.aq_plain.proofs.player.flip.Goals as goal

pub play-requires-clause-valid : goal.play-requires-clause-valid
play-requires-clause-valid c =
    let made = c.new-gate.ensures in
    flip_valid c.args.vector.now.qubits c.args.qubit c.new-gate.result c.requires (made.controls ∙ c.new.ensures) made.target made.rows
