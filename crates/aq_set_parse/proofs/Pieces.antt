-- One more token is one more piece.
use Rattle.std.proofs.Common.{◌≡◌, ℕ, ◌+◌, ◌<◌, List, [], ◌∷◌, ◌++◌, length, take, Some, sym, ap, ◌∙◌, get_or, arith}
use Rattle.std.specs.Prelude.{map, slice_get}
use Rattle.std.proofs.lemmas.List.{take_more, map-append}
use Rattle.std.proofs.lemmas.Option.{slice_get-get_or}
use Rattle.aq_set_parse.specs.declared.token.SetToken.{SetToken}
use Rattle.aq_set_parse.specs.Piece.{SetPiece}
use Rattle.aq_set_parse.specs.Pieces.{piece_of}

one_more_at : (source : List ℕ) (d : SetToken) (list : List SetToken) (i : ℕ) (x : SetPiece) → i < length list → ((t : SetToken) → slice_get list i ≡ Some t → x ≡ piece_of source t) → map (piece_of source) (take (i + 1) list) ≡ map (piece_of source) (take i list) ++ x ∷ []
one_more_at source d list i x lt h =
    ap (map (piece_of source)) (take_more list i d lt)
    ∙ map-append (piece_of source) (take i list) (get_or list i d ∷ [])
    ∙ ap (λ (y : SetPiece). map (piece_of source) (take i list) ++ y ∷ []) (sym (h (get_or list i d) (slice_get-get_or list i d lt)))

pub one_more : (source : List ℕ) (list : List SetToken) (i : ℕ) (x : SetPiece) → i < length list → ((t : SetToken) → slice_get list i ≡ Some t → x ≡ piece_of source t) → map (piece_of source) (take (i + 1) list) ≡ map (piece_of source) (take i list) ++ x ∷ []
one_more source [] i x lt h = absurd (omega arith)
one_more source (d ∷ list) i x lt h = one_more_at source d (d ∷ list) i x lt h
