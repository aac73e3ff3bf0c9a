use Rattle.std.proofs.Common.{◌≡◌, ℕ, List, ◌++◌, drop}
use Rattle.aq_world.specs.Lines.{Added}
use Rattle.aq_world.proofs.line.add_text.Given as goal

abbrev pub invariant-loop-byte : goal.invariant-loop-byte
invariant-loop-byte g l =
    (done : List ℕ)
    × Added g.K.Sink.meaning l.fn.out l.out l.fn.line.items l.line.items done
    × (done ++ drop l.byte-index l.text ≡ l.text)
