-- No reader of an item takes the end of the text, so each fault before it has a token.
use Rattle.std.proofs.Common.{inl, inr, ◌≡◌, ℕ, List, [], ◌∷◌, cond, Ok, Err, subst}
use Rattle.aq_grammar.specs.Readers.{◌>>=◌, along, mapped, before, many}
use Rattle.aq_grammar.proofs.Reading.{bind_err, along_err, taken_err}
use Rattle.aq_grammar.proofs.Ends.{EndsIn, Kept, kept_rest}
use Rattle.aq_set_parse.specs.Piece.{SetPiece}
use Rattle.aq_set_parse.specs.Tokens.{is_mark, mark_at}
use Rattle.aq_set_parse.specs.Reading.{item_at, goes_on, tree_of, file_at}
use Rattle.aq_set_parse.specs.declared.mark.SetMark.TheVariants as marks
use Rattle.aq_set_parse.specs.declared.reader.Fault.{Fault}
use Rattle.aq_set_parse.specs.declared.reader.Fault.TheVariants as faults
use Rattle.aq_set_parse.proofs.Marks.{last}
use Rattle.aq_set_parse.proofs.FileLaws.{items_layer}

-- the last reader takes the end, but a fault there leaves it
end_stops : (ts : List SetPiece) (k : Fault) → EndsIn last ts → mark_at marks.End ts ≡ Err (k, []) → ⊥
end_stops [] k d e = d
end_stops (t ∷ ts) k d e = let s = taken_err (cond (is_mark marks.End t) (Ok tt) (Err faults.Unexpected)) t ts [] k e in no_nil t ts s.1 where
  no_nil : (t : SetPiece) (ts : List SetPiece) → t ∷ ts ≡ [] → ⊥
  no_nil t ts e = cc

pub has_token : (deep : ℕ) (ts : List SetPiece) (k : Fault) → EndsIn last ts → file_at deep ts ≡ Err (k, []) → ⊥
unfolding file_at mapped before
has_token deep ts k ends e =
    let p = many goes_on (item_at deep) in
    let keeps = (items_layer deep).keeps in
    elim (bind_err (p ts) (λ x. along (λ _. x.0) (mark_at marks.End x.1)) (k, []) (along_err tree_of (p ts >>= λ x. along (λ _. x.0) (mark_at marks.End x.1)) (k, []) e)) [
      | inl h ↦ kept_rest last k (p ts) (keeps ts ends) h
      | inr s ↦ end_stops s.0.1 k (subst (Kept last) s.1 (keeps ts ends)) (along_err (λ _. s.0.0) (mark_at marks.End s.0.1) (k, []) s.2)
    ]
