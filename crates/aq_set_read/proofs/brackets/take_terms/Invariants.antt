use Rattle.std.proofs.Common.{◌≡◌, [], drop}
use Rattle.aq_set_read.specs.Meaning.{terms_taken}
use Rattle.aq_set_read.proofs.brackets.take_terms.Given as goal

abbrev pub invariant-loop-term : goal.invariant-loop-term
invariant-loop-term l = (terms_taken l.qubits l.taken (drop l.term-index l.terms) l.collector ≡ terms_taken l.qubits [] l.terms l.fn.collector) × (l.collector.names ≡ l.fn.collector.names)
