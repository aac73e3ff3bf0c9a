use Rattle.std.proofs.Common.{◌≡◌, ℕ, List, ◌++◌, drop, Ok}
use Rattle.aq_world.specs.Prints.{Prints}
use Rattle.aq_report.specs.Texts.{entries_from}
use Rattle.aq_report.proofs.print.print_entries.Given as goal

-- what is done, and the lines of the entries to come, are the lines of all
abbrev pub invariant-loop-index : goal.invariant-loop-index
invariant-loop-index g l =
    (done : List ℕ) × Prints {T = Unit {0}} g.K.Sink.meaning l.fn.out l.out (Ok tt) done
    × (done ++ entries_from l.label l.vector.qubits l.index (drop l.index l.vector.amps) ≡ entries_from l.label l.vector.qubits 0 l.vector.amps)
