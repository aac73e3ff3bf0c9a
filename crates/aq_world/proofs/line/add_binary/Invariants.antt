use Rattle.std.proofs.Common.{◌≡◌, ℕ, List, ◌++◌}
use Rattle.aq_world.specs.Lines.{Added}
use Rattle.aq_world.specs.Pieces.{binary_digits}
use Rattle.aq_world.proofs.line.add_binary.Given as goal

abbrev pub invariant-loop-place : goal.invariant-loop-place
invariant-loop-place g l =
    (done : List ℕ)
    × Added g.K.Sink.meaning l.fn.out l.out l.fn.line.items l.line.items done
    × (done ++ binary_digits l.place l.number ≡ binary_digits l.places l.number)
