use Rattle.std.proofs.Common.{◌≡◌, ℕ, List, [], ◌++◌, drop}
use Rattle.aq_world.specs.Lines.{Added}
use Rattle.aq_world.specs.Pieces.{pieces_text}
use Rattle.aq_world.proofs.pieces.put_pieces.Given as goal

abbrev pub invariant-loop-piece : goal.invariant-loop-piece
invariant-loop-piece g l =
    (done : List ℕ)
    × Added g.K.Sink.meaning l.fn.out l.out [] l.line.items done
    × (done ++ pieces_text (drop l.piece-index l.pieces) ≡ pieces_text l.pieces)
