-- With more depth the readers answer the same, but where they stopped for depth.
use Rattle.std.proofs.Common.{◌≡◌, ℕ, zero, suc, ◌+◌, List, Result, Err, refl, inr, arith}
use Rattle.aq_grammar.specs.Readers.{both, mapped, after, before, switch, many, then_maybe, placed, refuse}
use Rattle.aq_grammar.proofs.Agreement.{Agree, same_agree, mapped_agree, both_agree, choice_agree, switch_agree, placed_agree, after_agree, before_agree, then_maybe_agree, many_agree, fault_stays}
use Rattle.aq_parse.specs.Piece.{Piece}
use Rattle.aq_parse.specs.Tokens.{begins, mark_at, place_of, end_at}
use Rattle.aq_parse.specs.Reading.{head_at, simple_at, if_of, if_at, while_of, while_at, opening_of, bare_by, bare_at, item_of, notes_at, item_at, open_inside, open_outside, alone, block_at, inside_at, body_at, maybe_version_at, tree_of, program_at}
use Rattle.aq_parse.specs.declared.mark.Mark.TheVariants as marks
use Rattle.aq_parse.specs.declared.reader.Fault.{Fault}
use Rattle.aq_parse.specs.declared.reader.Fault.TheVariants as faults
use Rattle.aq_parse.specs.declared.reader.Opening.{Opening}
use Rattle.aq_parse.specs.declared.reader.Opening.TheVariants as openings
use Rattle.aq_parse.specs.declared.tree.Item.{Item}

abbrev Inner : Type 0
Inner = List Piece → Result (List Item × List Piece) (Fault × List Piece)

bare_by_agree : (p q : Inner) → Agree faults.TooDeep p q → (k : Opening) → Agree faults.TooDeep (bare_by p k) (bare_by q k)
unfolding if_at while_at
bare_by_agree p q h openings.If =
    mapped_agree faults.TooDeep if_of (both (head_at marks.If) (then_maybe (begins marks.Else) p (after (mark_at marks.Else) p))) (both (head_at marks.If) (then_maybe (begins marks.Else) q (after (mark_at marks.Else) q)))
    (both_agree faults.TooDeep (head_at marks.If) (head_at marks.If) (then_maybe (begins marks.Else) p (after (mark_at marks.Else) p)) (then_maybe (begins marks.Else) q (after (mark_at marks.Else) q)) (same_agree faults.TooDeep (head_at marks.If))
    (then_maybe_agree faults.TooDeep (begins marks.Else) p q (after (mark_at marks.Else) p) (after (mark_at marks.Else) q) h (after_agree faults.TooDeep (mark_at marks.Else) p q h)))
bare_by_agree p q h openings.While = mapped_agree faults.TooDeep while_of (both (head_at marks.While) p) (both (head_at marks.While) q) (both_agree faults.TooDeep (head_at marks.While) (head_at marks.While) p q (same_agree faults.TooDeep (head_at marks.While)) h)
bare_by_agree p q h openings.Foreign = same_agree faults.TooDeep (refuse faults.NotTaken)
bare_by_agree p q h openings.Simple = same_agree faults.TooDeep simple_at

statement_agree : (p q : Inner) → Agree faults.TooDeep p q → Agree faults.TooDeep (item_at p) (item_at q)
unfolding item_at bare_at
statement_agree p q h =
    mapped_agree faults.TooDeep item_of (both notes_at (placed place_of (switch opening_of (bare_by p)))) (both notes_at (placed place_of (switch opening_of (bare_by q))))
    (both_agree faults.TooDeep notes_at notes_at (placed place_of (switch opening_of (bare_by p))) (placed place_of (switch opening_of (bare_by q))) (same_agree faults.TooDeep notes_at)
    (placed_agree faults.TooDeep place_of (switch opening_of (bare_by p)) (switch opening_of (bare_by q)) (switch_agree faults.TooDeep opening_of (bare_by p) (bare_by q) (bare_by_agree p q h))))

inside_agree : (p q : Inner) → Agree faults.TooDeep p q → Agree faults.TooDeep (inside_at p) (inside_at q)
unfolding inside_at block_at
inside_agree p q h =
    let s = statement_agree p q h in
    choice_agree faults.TooDeep (begins marks.BraceOpen) (after (mark_at marks.BraceOpen) (before (many open_inside (item_at p)) (mark_at marks.BraceClose))) (after (mark_at marks.BraceOpen) (before (many open_inside (item_at q)) (mark_at marks.BraceClose))) (mapped alone (item_at p)) (mapped alone (item_at q))
    (after_agree faults.TooDeep (mark_at marks.BraceOpen) (before (many open_inside (item_at p)) (mark_at marks.BraceClose)) (before (many open_inside (item_at q)) (mark_at marks.BraceClose))
    (before_agree faults.TooDeep (mark_at marks.BraceClose) (many open_inside (item_at p)) (many open_inside (item_at q)) (many_agree faults.TooDeep open_inside (item_at p) (item_at q) s)))
    (mapped_agree faults.TooDeep alone (item_at p) (item_at q) s)

body_agree : (deep : ℕ) → Agree faults.TooDeep (body_at deep) (body_at (suc deep))
unfolding body_at
body_agree zero ts = inr (ts, refl)
body_agree (suc deep) ts = inside_agree (body_at deep) (body_at (suc deep)) (body_agree deep) ts

program_agree : (deep : ℕ) → Agree faults.TooDeep (program_at deep) (program_at (suc deep))
unfolding program_at
program_agree deep =
    let p = many open_outside (item_at (body_at deep)) in
    let q = many open_outside (item_at (body_at (suc deep))) in
    let s = many_agree faults.TooDeep open_outside (item_at (body_at deep)) (item_at (body_at (suc deep))) (statement_agree (body_at deep) (body_at (suc deep)) (body_agree deep)) in
    mapped_agree faults.TooDeep tree_of (after maybe_version_at (both p end_at)) (after maybe_version_at (both q end_at))
    (after_agree faults.TooDeep maybe_version_at (both p end_at) (both q end_at) (both_agree faults.TooDeep p q end_at end_at s (same_agree faults.TooDeep end_at)))

-- another fault than that of depth stays with any more depth
pub deeper_fault : (more deep : ℕ) (ts rest : List Piece) (k : Fault) → (k ≡ faults.TooDeep → ⊥) → program_at deep ts ≡ Err (k, rest) → program_at (more + deep) ts ≡ Err (k, rest)
deeper_fault zero deep ts rest k not e = let z : 0 + deep ≡ deep = omega arith in rw z e
deeper_fault (suc more) deep ts rest k not e =
    let z : suc more + deep ≡ suc (more + deep) = omega arith in
    rw z (fault_stays faults.TooDeep (program_at (more + deep) ts) (program_at (suc (more + deep)) ts) k rest not (program_agree (more + deep) ts) (deeper_fault more deep ts rest k not e))
