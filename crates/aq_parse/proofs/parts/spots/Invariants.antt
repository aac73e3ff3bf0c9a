use Rattle.std.proofs.Common.{◌≡◌, length}
use Rattle.aq_grammar.specs.Readers.{with_front, many, after}
use Rattle.aq_parse.specs.Tokens.{begins, mark_at}
use Rattle.aq_parse.specs.Reading.{spot_at, spots_at}
use Rattle.aq_parse.specs.declared.mark.Mark.TheVariants as marks
use Rattle.aq_parse.proofs.parts.spots.Given as goal

abbrev pub invariant-loop-alloc : goal.invariant-loop-alloc
invariant-loop-alloc l = with_front l.spots (many (begins marks.Comma) (after (mark_at marks.Comma) spot_at) l.rest) ≡ spots_at l.fn.tokens

abbrev pub decreases-loop-alloc : goal.decreases-loop-alloc
decreases-loop-alloc l = length l.rest
