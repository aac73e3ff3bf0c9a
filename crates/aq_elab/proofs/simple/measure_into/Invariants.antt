use Rattle.std.proofs.Common.{◌≡◌, ◌++◌, Some}
use Rattle.aq_prog.specs.Digits.{tabulate}
use Rattle.aq_prog.specs.declared.stmt.Stmt.TheVariants as stmt
use Rattle.aq_elab.specs.Spots.{member}
use Rattle.aq_elab.proofs.simple.measure_into.Given as goal

abbrev pub invariant-loop-i : goal.invariant-loop-i
invariant-loop-i l = l.out ≡ l.fn.out ++ tabulate l.i (λ i. stmt.Measure (member l.qubits i) (Some (member l.bits i)))
