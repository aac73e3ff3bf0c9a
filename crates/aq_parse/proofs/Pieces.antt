-- The pieces of tokens.
use Rattle.std.proofs.Common.{◌≡◌, ℕ, ◌+◌, ◌<◌, ◌≤◌, List, [], ◌∷◌, ◌++◌, length, take, Some, true, refl, sym, ap, subst, ◌∙◌, get_or, arith}
use Rattle.std.specs.Prelude.{map, slice_get}
use Rattle.std.proofs.lemmas.List.{take_more, take_all, map-append}
use Rattle.std.proofs.lemmas.Option.{slice_get-get_or}
use Rattle.aq_lex.specs.Listed as listed
use Rattle.aq_lex.specs.declared.token.Kind.TheVariants as kinds
use Rattle.aq_lex.specs.declared.token.Token.{Token}
use Rattle.aq_parse.specs.Piece.{Piece}
use Rattle.aq_parse.specs.Pieces.{piece_of}
use Rattle.aq_parse.specs.Tokens.{is_mark}
use Rattle.aq_parse.specs.Verdict.{EndsInEnd}
use Rattle.aq_parse.specs.declared.mark.Mark.TheVariants as marks

-- one more token is one more piece
one_more_at : (source : List ℕ) (d : Token) (list : List Token) (i : ℕ) (x : Piece) → i < length list → ((t : Token) → slice_get list i ≡ Some t → x ≡ piece_of source t) → map (piece_of source) (take (i + 1) list) ≡ map (piece_of source) (take i list) ++ x ∷ []
one_more_at source d list i x lt h =
    ap (map (piece_of source)) (take_more list i d lt)
    ∙ map-append (piece_of source) (take i list) (get_or list i d ∷ [])
    ∙ ap (λ (y : Piece). map (piece_of source) (take i list) ++ y ∷ []) (sym (h (get_or list i d) (slice_get-get_or list i d lt)))

pub one_more : (source : List ℕ) (list : List Token) (i : ℕ) (x : Piece) → i < length list → ((t : Token) → slice_get list i ≡ Some t → x ≡ piece_of source t) → map (piece_of source) (take (i + 1) list) ≡ map (piece_of source) (take i list) ++ x ∷ []
one_more source [] i x lt h = absurd (omega arith)
one_more source (d ∷ list) i x lt h = one_more_at source d (d ∷ list) i x lt h

last_piece : (source : List ℕ) (t : Token) → Some t.kind ≡ Some kinds.End → is_mark marks.End (piece_of source t) ≡ true
last_piece source t e = let k : t.kind ≡ kinds.End = cc in rw k refl

-- the last piece is the end of the text, as the last token is
pub pieces_end : (source : List ℕ) (list : List Token) → listed.EndsInEnd list → EndsInEnd (map (piece_of source) list)
pieces_end source [] e = cc
pieces_end source (t ∷ []) e = last_piece source t e
pieces_end source (t ∷ u ∷ us) e = pieces_end source (u ∷ us) e

pub list_ends : (source : List ℕ) (list read : List Token) (i : ℕ) (ps : List Piece) → read ≡ list → length read ≤ i → ps ≡ map (piece_of source) (take i list) → listed.EndsInEnd read → EndsInEnd ps
list_ends source list read i ps is le e h =
    let whole : ps ≡ map (piece_of source) read = e ∙ ap (λ (ts : List Token). map (piece_of source) (take i ts)) (sym is) ∙ ap (map (piece_of source)) (take_all i read le) in
    subst (λ (qs : List Piece). EndsInEnd qs) (sym whole) (pieces_end source read h)
