use Rattle.std.proofs.Common.{◌≡◌, take}
use Rattle.aq_elab.specs.Elaborated.{registers_of}
use Rattle.aq_elab.proofs.scope.Scope.registers.Given as goal

abbrev pub invariant-loop-i : goal.invariant-loop-i
invariant-loop-i l = l.registers ≡ registers_of (take l.i l.fn.self.names)
