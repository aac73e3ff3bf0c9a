use Rattle.std.proofs.Common.{ap₂, ◌∙◌}
use Rattle.clap.specs.Words.{with_rule}
use Rattle.aq_words.specs.Parsers.{trial_parser}
use Rattle.aq_words.proofs.ParserLaws.{trial_is_simple}
use Rattle.aq_words.proofs.parsers.trial_parser.Goals as goal

pub returns-clause-parser : goal.returns-clause-parser
unfolding trial_parser
returns-clause-parser c =
    c.in_ok-whole.ensures.shape c.trial_number.ensures.local ∙ ap₂ with_rule c.new.ensures.app c.trial_number.ensures.rule

pub returns-clause-simple : goal.returns-clause-simple
returns-clause-simple c = trial_is_simple _ (returns-clause-parser c)
