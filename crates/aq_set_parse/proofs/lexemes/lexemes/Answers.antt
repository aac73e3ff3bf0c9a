use Rattle.std.proofs.Common.{arith, sym, ap, ◌∙◌, ◌++◌, ◌∷◌, [], List, length}
use Rattle.aq_set_parse.specs.Piece.{SetPiece}
use Rattle.aq_set_parse.proofs.Pieces.{one_more}
use Rattle.aq_set_parse.proofs.lexemes.lexemes.Goals as goal

pub loop-i-preserved : goal.loop-i-preserved
loop-i-preserved c = c.in_ok-push.ensures.items ∙ ap (λ (xs : List SetPiece). xs ++ c.lexeme_at.result ∷ []) c.loop-i.invariant ∙ sym (one_more _ _ c.loop-i.i c.lexeme_at.result (omega (arith, ap length c.list-i-end.ensures)) c.lexeme_at.ensures)
