-- The commands are simple ones.
use Rattle.std.proofs.Common.{◌≡◌, ap, ◌∙◌, refl, true}
use Rattle.clap.specs.Words.{App}
use Rattle.aq_words.specs.Entries.{is_simple_parser}
use Rattle.aq_words.specs.Parsers.{check_parser, replay_parser, trial_parser}

pub check_is_simple : (app : App) → app ≡ check_parser → is_simple_parser app ≡ true
unfolding check_parser is_simple_parser
check_is_simple app e = ap is_simple_parser e ∙ refl

pub replay_is_simple : (app : App) → app ≡ replay_parser → is_simple_parser app ≡ true
unfolding replay_parser is_simple_parser
replay_is_simple app e = ap is_simple_parser e ∙ refl

pub trial_is_simple : (app : App) → app ≡ trial_parser → is_simple_parser app ≡ true
unfolding trial_parser is_simple_parser
trial_is_simple app e = ap is_simple_parser e ∙ refl
