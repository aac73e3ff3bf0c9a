use Rattle.std.proofs.Common.{◌≡◌, length}
use Rattle.aq_grammar.specs.Readers.{with_front, many, after}
use Rattle.aq_set_parse.specs.Tokens.{begins, mark_at}
use Rattle.aq_set_parse.specs.Reading.{cond_at, conds_at}
use Rattle.aq_set_parse.specs.declared.mark.SetMark.TheVariants as marks
use Rattle.aq_set_parse.proofs.items.conds.Given as goal

abbrev pub invariant-loop-alloc : goal.invariant-loop-alloc
invariant-loop-alloc l = with_front l.conds (many (begins marks.And) (after (mark_at marks.And) cond_at) l.rest) ≡ conds_at l.fn.tokens

abbrev pub decreases-loop-alloc : goal.decreases-loop-alloc
decreases-loop-alloc l = length l.rest
