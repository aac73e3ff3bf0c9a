use Rattle.std.proofs.Common.{refl, arith, ◌∙◌, ap, Err, ℕ, List, [], subst}
use Rattle.std.proofs.lemmas.Result.{err_from_is_err_and}
use Rattle.aq_world.specs.Prints.{Prints}
use Rattle.aq_world.specs.declared.pieces.Piece.{Piece}
use Rattle.aq_world.specs.declared.pieces.Piece.TheVariants as piece
use Rattle.aq_world.proofs.PrintsLemmas.{part-more}
use Rattle.aq_world.proofs.LinesLemmas.{Added-none, Added-then, Stopped-then, Prints-line, Prints-line_stops, part-stops, pieces-left, pieces-done}
use Rattle.aq_world.proofs.pieces.put_pieces.Goals as goal

-- the piece that a list has past its end
abbrev none : Piece
none = piece.Text (record { ref_ptr = (0, 0); now = [] })

pub loop-piece-init : goal.loop-piece-init
loop-piece-init g c = rw c.new-line.ensures (_, Added-none _ _ _, refl)

pub loop-piece-preserved : goal.loop-piece-preserved
loop-piece-preserved g c =
    let i = c.loop-piece.invariant in
    (_, Added-then i.1 c.in_ok-add_piece.ensures, part-more _ _ _ _ _ (pieces-left c.args.pieces.now c.loop-piece.piece-index none (omega arith)) i.2)

pub returns-in_err-add_piece : goal.returns-in_err-add_piece
returns-in_err-add_piece g c =
    let p = err_from_is_err_and c.from_residual.result c.from_residual.ensures.1 in
    let i = c.loop-piece.invariant in
    Prints-line_stops
    (part-stops _ _ _ _ _ (pieces-left c.args.pieces.now c.loop-piece.piece-index none (omega arith)) i.2 (Stopped-then i.1 c.in_err-add_piece.ensures))
    (p.1 ∙ ap (λ e. Err e) p.2)

pub returns : goal.returns
returns g c =
    let i = c.loop-piece.invariant in
    let P : List ℕ → Type 0 = λ t. Prints g.K.Sink.meaning c.loop-piece.out c.put_text.new.out c.put_text.result t in
    let Q : List ℕ → Type 0 = λ t. Prints g.K.Sink.meaning c.args.out.now c.put_text.new.out c.put_text.result t in
    subst Q (pieces-done c.args.pieces.now c.loop-piece.piece-index _ _ (omega arith) i.2)
    (Prints-line c.put_text.result i.1 (subst P c.as_slice.ensures.value c.put_text.ensures))
