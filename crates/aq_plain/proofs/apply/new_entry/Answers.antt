use Rattle.aq_plain.proofs.PairLaws.{high-below, read-low, read-high, RowGives-same}
use Rattle.aq_plain.proofs.apply.new_entry.Goals as goal

pub bounds-amps-low-2 : goal.bounds-amps-low-2
bounds-amps-low-2 c = high-below _ _ _ _ _ _ c.digit_of-digit.ensures c.weight_of-weight.ensures c.requires.sizes.size c.requires.valid.target c.requires.within

pub returns : goal.returns
returns c =
    let d = c.digit_of-digit.ensures in
    let w = c.weight_of-weight.ensures in
    RowGives-same c.args.gate.now.matrix.rows _ _ _ _ _ _ _ d
    (read-low c.args.qubits c.args.gate.now c.args.amps.now c.args.index _ _ _ d w c.requires.within c.index-amps-low.is)
    (read-high c.args.qubits c.args.gate.now c.args.amps.now c.args.index _ _ _ d w c.requires.sizes.size c.requires.valid.target c.requires.within c.index-amps-low-2.is)
    c.row_sum.ensures
