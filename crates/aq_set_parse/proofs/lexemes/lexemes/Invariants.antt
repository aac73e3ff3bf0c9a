use Rattle.std.proofs.Common.{◌≡◌, take}
use Rattle.std.specs.Prelude.{map}
use Rattle.aq_set_parse.specs.Pieces.{piece_of}
use Rattle.aq_set_parse.proofs.lexemes.lexemes.Given as goal

abbrev pub invariant-loop-i : goal.invariant-loop-i
invariant-loop-i l = l.list.items ≡ map (piece_of l.tokens.source) (take l.i l.tokens.list)
