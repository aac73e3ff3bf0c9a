use Rattle.std.proofs.Common.{◌≡◌, ℕ, List, ◌++◌, drop, map}
use Rattle.aq_world.specs.Lines.{Added}
use Rattle.aq_world.specs.Pieces.{bit_digit}
use Rattle.aq_world.proofs.line.add_digits.Given as goal

abbrev pub invariant-loop-bit : goal.invariant-loop-bit
invariant-loop-bit g l =
    (done : List ℕ)
    × Added g.K.Sink.meaning l.fn.out l.out l.fn.line.items l.line.items done
    × (done ++ map bit_digit (drop l.bit-index l.bits) ≡ map bit_digit l.bits)
