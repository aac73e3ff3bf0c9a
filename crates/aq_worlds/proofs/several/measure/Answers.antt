use Rattle.std.proofs.Common.{◌<◌, List, All, sym, subst}
use Rattle.aq_plain.specs.Vectors.{StateVector}
use Rattle.aq_worlds.proofs.SeveralLaws.{measured_given}
use Rattle.aq_worlds.proofs.several.measure.Goals as goal

pub take_outcome-requires-clause-qubit : goal.take_outcome-requires-clause-qubit
take_outcome-requires-clause-qubit c = subst (λ (l : List StateVector). All (λ (v : StateVector). c.args.qubit < v.qubits) l) (sym c.in_ok-copy.ensures.vectors) c.requires.qubit

pub returns : goal.returns
returns c = λ n m case s.
    let copy = c.in_ok-copy.ensures in
    measured_given n m c.args.qubit c.args.bit case c.args.world c.in_ok-copy.copy c.in_ok-zero.zero c.in_ok-other.other c.in_ok-both.both.items _ s (copy.same case) copy.vectors
    (c.in_ok-zero.ensures.world n case) c.in_ok-zero.ensures.vectors (c.in_ok-other.ensures.world n case) c.in_ok-other.ensures.vectors c.in_ok-both.ensures c.in_ok-list.ensures
