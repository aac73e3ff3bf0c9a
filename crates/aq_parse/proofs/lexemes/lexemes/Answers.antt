use Rattle.std.proofs.Common.{arith, sym, ap, ◌∙◌, ◌++◌, ◌∷◌, [], List, length}
use Rattle.aq_parse.specs.Piece.{Piece}
use Rattle.aq_parse.proofs.Pieces.{one_more, list_ends}
use Rattle.aq_parse.proofs.lexemes.lexemes.Goals as goal

pub loop-i-preserved : goal.loop-i-preserved
loop-i-preserved c = c.in_ok-push.ensures.items ∙ ap (λ (xs : List Piece). xs ++ c.lexeme_at.result ∷ []) c.loop-i.invariant ∙ sym (one_more _ _ c.loop-i.i c.lexeme_at.result (omega (arith, ap length c.list-i-end.ensures.list)) c.lexeme_at.ensures)

pub returns-clause-ends : goal.returns-clause-ends
returns-clause-ends c = list_ends c.args.tokens.now.source c.args.tokens.now.list c.list-i-end.result.now c.loop-i.i c.loop-i.list.items c.list-i-end.ensures.list (omega (arith, c.loop-i-test.false)) c.loop-i.invariant c.list-i-end.ensures.ends
