use Rattle.std.proofs.Common.{ap₂, ◌∙◌}
use Rattle.clap.specs.Words.{with_rule}
use Rattle.aq_words.specs.Parsers.{replay_parser}
use Rattle.aq_words.proofs.ParserLaws.{replay_is_simple}
use Rattle.aq_words.proofs.parsers.replay_parser.Goals as goal

pub returns-clause-parser : goal.returns-clause-parser
unfolding replay_parser
returns-clause-parser c =
    c.in_ok-whole.ensures.shape c.option.ensures.local ∙ ap₂ with_rule
    (c.in_ok-with_state.ensures.shape c.needed_option.ensures.local ∙ ap₂ with_rule
    (c.in_ok-with_sets.ensures.shape c.positional-2.ensures.local ∙ ap₂ with_rule
    (c.in_ok-with_program.ensures.shape c.positional.ensures.local ∙ ap₂ with_rule c.new.ensures.app c.positional.ensures.rule)
    c.positional-2.ensures.rule) c.needed_option.ensures.rule) c.option.ensures.rule

pub returns-clause-simple : goal.returns-clause-simple
returns-clause-simple c = replay_is_simple _ (returns-clause-parser c)
