use Rattle.std.proofs.Common.{◌≡◌, drop}
use Rattle.aq_owing.specs.Asking.{register_named}
use Rattle.aq_owing.proofs.bind.bit_named.Given as goal

abbrev pub invariant-loop-register : goal.invariant-loop-register
invariant-loop-register l = register_named (drop l.register-index l.registers) l.name ≡ register_named l.registers l.name
