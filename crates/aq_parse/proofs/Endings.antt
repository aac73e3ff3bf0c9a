-- No reader of a statement takes the end of the text, so each fault before it has a token.
use Rattle.std.proofs.Common.{inl, inr, ◌≡◌, ℕ, zero, suc, List, [], ◌∷◌, Result, Err, subst}
use Rattle.aq_grammar.specs.Readers.{◌>>=◌, along, both, mapped, after, before, switch, many, then_maybe, placed, or_fault}
use Rattle.aq_grammar.proofs.Reading.{bind_err, along_err, taken_err}
use Rattle.aq_grammar.proofs.Ends.{EndsIn, Kept, Keeps, mapped_keeps, both_keeps, choice_keeps, switch_keeps, placed_keeps, after_keeps, before_keeps, then_maybe_keeps, many_keeps, refuse_keeps, kept_rest}
use Rattle.aq_parse.specs.Piece.{Piece}
use Rattle.aq_parse.specs.Tokens.{begins, mark_at, place_of, end_of, end_at}
use Rattle.aq_parse.specs.Reading.{head_at, if_of, if_at, while_of, while_at, opening_of, bare_by, bare_at, item_of, notes_at, item_at, open_inside, open_outside, alone, block_at, inside_at, body_at, maybe_version_at, tree_of, program_at}
use Rattle.aq_parse.specs.declared.mark.Mark.TheVariants as marks
use Rattle.aq_parse.specs.declared.reader.Fault.{Fault}
use Rattle.aq_parse.specs.declared.reader.Fault.TheVariants as faults
use Rattle.aq_parse.specs.declared.reader.Opening.{Opening}
use Rattle.aq_parse.specs.declared.reader.Opening.TheVariants as openings
use Rattle.aq_parse.specs.declared.tree.Item.{Item}
use Rattle.aq_parse.specs.declared.tree.Node.{Node}
use Rattle.aq_parse.proofs.Marks.{last}
use Rattle.aq_parse.proofs.Simples.{simple_part, notes_part}
use Rattle.aq_parse.proofs.Bodies.{if_head, while_head, else_mark, brace_open, brace_close, maybe_version_part}

abbrev Inner : Type 0
Inner = List Piece → Result (List Item × List Piece) (Fault × List Piece)

bare_by_keeps : (body : Inner) → Keeps last body → (k : Opening) → Keeps last (bare_by body k)
unfolding if_at while_at
bare_by_keeps body h openings.If =
    mapped_keeps last if_of (both (head_at marks.If) (then_maybe (begins marks.Else) body (after (mark_at marks.Else) body))) (both_keeps last (head_at marks.If) (then_maybe (begins marks.Else) body (after (mark_at marks.Else) body)) if_head.keeps
    (then_maybe_keeps last (begins marks.Else) body (after (mark_at marks.Else) body) h (after_keeps last (mark_at marks.Else) body else_mark.keeps h)))
bare_by_keeps body h openings.While = mapped_keeps last while_of (both (head_at marks.While) body) (both_keeps last (head_at marks.While) body while_head.keeps h)
bare_by_keeps body h openings.Foreign = refuse_keeps Node last faults.NotTaken
bare_by_keeps body h openings.Simple = simple_part.keeps

statement_keeps : (body : Inner) → Keeps last body → Keeps last (item_at body)
unfolding item_at bare_at
statement_keeps body h =
    mapped_keeps last item_of (both notes_at (placed place_of (switch opening_of (bare_by body)))) (both_keeps last notes_at (placed place_of (switch opening_of (bare_by body))) notes_part.keeps
    (placed_keeps last place_of (switch opening_of (bare_by body)) (switch_keeps last opening_of (bare_by body) (bare_by_keeps body h))))

body_keeps : (deep : ℕ) → Keeps last (body_at deep)
unfolding body_at inside_at block_at
body_keeps zero ts e = e
body_keeps (suc deep) ts e =
    let s = statement_keeps (body_at deep) (body_keeps deep) in
    choice_keeps last (begins marks.BraceOpen) (after (mark_at marks.BraceOpen) (before (many open_inside (item_at (body_at deep))) (mark_at marks.BraceClose))) (mapped alone (item_at (body_at deep)))
    (after_keeps last (mark_at marks.BraceOpen) (before (many open_inside (item_at (body_at deep))) (mark_at marks.BraceClose)) brace_open.keeps
    (before_keeps last (many open_inside (item_at (body_at deep))) (mark_at marks.BraceClose) (many_keeps last open_inside (item_at (body_at deep)) s) brace_close.keeps))
    (mapped_keeps last alone (item_at (body_at deep)) s) ts e

-- the last reader takes the end, but a fault there leaves it
end_stops : (ts : List Piece) (k : Fault) → EndsIn last ts → end_at ts ≡ Err (k, []) → ⊥
end_stops [] k d e = d
end_stops (t ∷ ts) k d e = let s = taken_err (or_fault faults.Unexpected (end_of t)) t ts [] k e in no_nil t ts s.1 where
  no_nil : (t : Piece) (ts : List Piece) → t ∷ ts ≡ [] → ⊥
  no_nil t ts e = cc

list_stops : (deep : ℕ) (ts : List Piece) (k : Fault) → EndsIn last ts → both (many open_outside (item_at (body_at deep))) end_at ts ≡ Err (k, []) → ⊥
unfolding both
list_stops deep ts k ends e =
    let p = many open_outside (item_at (body_at deep)) in
    let keeps = many_keeps last open_outside (item_at (body_at deep)) (statement_keeps (body_at deep) (body_keeps deep)) in
    elim (bind_err (p ts) (λ x. along (λ y. (x.0, y)) (end_at x.1)) (k, []) e) [
      | inl h ↦ kept_rest last k (p ts) (keeps ts ends) h
      | inr s ↦ end_stops s.0.1 k (subst (Kept last) s.1 (keeps ts ends)) (along_err (λ y. (s.0.0, y)) (end_at s.0.1) (k, []) s.2)
    ]

pub has_token : (deep : ℕ) (ts : List Piece) (k : Fault) → EndsIn last ts → program_at deep ts ≡ Err (k, []) → ⊥
unfolding program_at mapped after
has_token deep ts k ends e =
    let q = both (many open_outside (item_at (body_at deep))) end_at in
    elim (bind_err (maybe_version_at ts) (λ x. q x.1) (k, []) (along_err tree_of (maybe_version_at ts >>= λ x. q x.1) (k, []) e)) [
      | inl h ↦ kept_rest last k (maybe_version_at ts) (maybe_version_part.keeps ts ends) h
      | inr s ↦ list_stops deep s.0.1 k (subst (Kept last) s.1 (maybe_version_part.keeps ts ends)) s.2
    ]
