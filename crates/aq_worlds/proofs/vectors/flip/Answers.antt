use Rattle.std.proofs.Common.{◌∙◌}
use Rattle.aq_plain.proofs.PlayLaws.{flip_valid}
use Rattle.aq_worlds.proofs.UnfitLaws.{unfit_flip}
use Rattle.aq_worlds.proofs.vectors.flip.Goals as goal

pub apply_plain-requires : goal.apply_plain-requires
apply_plain-requires c =
    let made = c.new-gate.ensures in
    flip_valid c.args.vector.now.qubits c.args.qubit c.new-gate.result c.requires (made.controls ∙ c.new.ensures) made.target made.rows

pub unreachable-requires : goal.unreachable-requires
unreachable-requires c =
    let rows = c.new-gate.ensures in
    unfit_flip c.args.vector.now.qubits c.args.qubit c.new-gate.result c.args.vector.now.amps _ _ (rows.controls ∙ c.new.ensures) rows.target rows.rows c.in_default.ensures.wide
