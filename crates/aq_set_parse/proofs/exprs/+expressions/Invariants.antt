use Rattle.std.proofs.Common.{◌≡◌, ◌+◌, ◌*◌, length}
use Rattle.aq_grammar.specs.Readers.{many, with_front, after}
use Rattle.aq_set_parse.specs.Tokens.{begins, mark_at}
use Rattle.aq_set_parse.specs.Reading.{link_at, factor_of, powered_at, factors_at, part_of, tensor_at, parts_at, group_at}
use Rattle.aq_set_parse.specs.declared.mark.SetMark.TheVariants as marks
use Rattle.aq_set_parse.proofs.exprs.+expressions.Given as goal

abbrev pub decreases-group : goal.decreases-group
decreases-group l = 8 * l.room

abbrev pub decreases-atom : goal.decreases-atom
decreases-atom l = 8 * l.room + 1

abbrev pub decreases-factor : goal.decreases-factor
decreases-factor l = 8 * l.room + 2

abbrev pub decreases-next_factor : goal.decreases-next_factor
decreases-next_factor l = 8 * l.room + 2

abbrev pub decreases-factors : goal.decreases-factors
decreases-factors l = 8 * l.room + 3

abbrev pub decreases-part : goal.decreases-part
decreases-part l = 8 * l.room + 4

abbrev pub decreases-next_part : goal.decreases-next_part
decreases-next_part l = 8 * l.room + 4

abbrev pub decreases-parts : goal.decreases-parts
decreases-parts l = 8 * l.room + 5

abbrev pub decreases-expr : goal.decreases-expr
decreases-expr l = 8 * l.room + 6

abbrev pub decreases-inside : goal.decreases-inside
decreases-inside l = 8 * l.room + 7

abbrev pub invariant-factors-loop-alloc : goal.invariant-factors-loop-alloc
invariant-factors-loop-alloc l = with_front l.factors (many (begins marks.Star) (link_at factor_of (after (mark_at marks.Star) (powered_at (group_at l.room)))) l.rest) ≡ factors_at (group_at l.fn.room) l.fn.tokens

abbrev pub decreases-factors-loop-alloc : goal.decreases-factors-loop-alloc
decreases-factors-loop-alloc l = length l.rest

abbrev pub invariant-parts-loop-alloc : goal.invariant-parts-loop-alloc
invariant-parts-loop-alloc l = with_front l.parts (many (begins marks.Union) (link_at part_of (after (mark_at marks.Union) (tensor_at (group_at l.room)))) l.rest) ≡ parts_at (group_at l.fn.room) l.fn.tokens

abbrev pub decreases-parts-loop-alloc : goal.decreases-parts-loop-alloc
decreases-parts-loop-alloc l = length l.rest
