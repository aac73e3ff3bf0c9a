use Rattle.std.proofs.Common.{ap₂, ◌∙◌}
use Rattle.clap.specs.Words.{with_rule}
use Rattle.aq_words.specs.Parsers.{check_parser}
use Rattle.aq_words.proofs.ParserLaws.{check_is_simple}
use Rattle.aq_words.proofs.parsers.check_parser.Goals as goal

pub returns-clause-parser : goal.returns-clause-parser
unfolding check_parser
returns-clause-parser c =
    c.in_ok-whole.ensures.shape c.steps_option.ensures.local ∙ ap₂ with_rule
    (c.in_ok-with_post.ensures.shape c.option_or-2.ensures.local ∙ ap₂ with_rule
    (c.in_ok-with_pre.ensures.shape c.option_or.ensures.local ∙ ap₂ with_rule
    (c.in_ok-with_sets.ensures.shape c.positional-2.ensures.local ∙ ap₂ with_rule
    (c.in_ok-with_program.ensures.shape c.positional.ensures.local ∙ ap₂ with_rule c.new.ensures.app c.positional.ensures.rule)
    c.positional-2.ensures.rule) c.option_or.ensures.rule) c.option_or-2.ensures.rule) c.steps_option.ensures.rule

pub returns-clause-simple : goal.returns-clause-simple
returns-clause-simple c = check_is_simple _ (returns-clause-parser c)
