use Rattle.std.proofs.Common.{arith}
use Rattle.std.proofs.lemmas.Bool.{OnTrue_at}
use Rattle.aq_plain.proofs.PairLaws.{fits_by_rows, fits_on_near, fits_on_small}
use Rattle.aq_plain.proofs.apply.find_wide.Goals as goal

pub returns-in-Some : goal.returns-in-Some
returns-in-Some c = record { index = c.loop-index.index; within = omega arith; before = c.loop-index.invariant; here = c.in-Some.ensures }

pub returns-then-small : goal.returns-then-small
returns-then-small c = fits_on_small c.args.qubits c.args.gate.now c.args.amps.now c.requires.valid c.requires.sizes.size (OnTrue_at c.if-small.true c.requires.small)

pub returns-then-fits_anywhere : goal.returns-then-fits_anywhere
returns-then-fits_anywhere c =
    let top = OnTrue_at c.if-fits_anywhere.true c.fits_anywhere.ensures.top in
    let bottom = OnTrue_at c.if-fits_anywhere.true c.fits_anywhere.ensures.bottom in
    fits_by_rows c.args.qubits c.args.gate.now c.args.amps.now top bottom

pub returns-then-are_near : goal.returns-then-are_near
returns-then-are_near c = fits_on_near c.args.qubits c.args.gate.now c.args.amps.now c.requires.valid c.requires.sizes.size (OnTrue_at c.if-are_near.true c.are_near.ensures)
