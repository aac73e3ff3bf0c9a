use Rattle.std.proofs.Common.{◌≡◌, length}
use Rattle.aq_grammar.specs.Readers.{with_front, many}
use Rattle.aq_set_parse.specs.Tokens.{begins_sign}
use Rattle.aq_set_parse.specs.Reading.{later_term_at, terms_at}
use Rattle.aq_set_parse.proofs.terms.terms.Given as goal

abbrev pub invariant-loop-alloc : goal.invariant-loop-alloc
invariant-loop-alloc l = with_front l.terms (many begins_sign later_term_at l.rest) ≡ terms_at l.fn.tokens

abbrev pub decreases-loop-alloc : goal.decreases-loop-alloc
decreases-loop-alloc l = length l.rest
