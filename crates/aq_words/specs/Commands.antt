-- The commands, and which one the words of a command line ask for.
use Rattle.std.specs.Prelude.{◌≤◌, ℕ, List, [], ◌∷◌, Option, None, codes, if◌then◌else◌, option_and_then}
use Rattle.std.specs.Option.{option_map}
use Rattle.std.specs.Str.{bytes_eq}
use Rattle.std.specs.String.{string_bytes}
use Rattle.aq_base.specs.Limits.{most_steps_asked}
use Rattle.clap.specs.Words.{Row}
use Rattle.aq_words.specs.Entries.{entries, number_of, text_of}
use Rattle.aq_words.specs.Parsers.{check_parser, most_trial, replay_parser, trial_parser}
use Rattle.aq_words.specs.declared.command.CheckWords.{CheckWords as GivenCheck}
use Rattle.aq_words.specs.declared.command.Command.{Command as GivenCommand}
use Rattle.aq_words.specs.declared.command.Command.TheVariants as given
use Rattle.aq_words.specs.declared.command.ReplayWords.{ReplayWords as GivenReplay}

-- a check: the files, the names of the two claims, and the limit of steps of each obligation
pub record CheckWords : Type 0 where
  pub program : List ℕ
  pub sets : List ℕ
  pub pre : List ℕ
  pub post : List ℕ
  pub steps : ℕ

-- a replay: the files, the name of a set, and the digits of outcomes
pub record ReplayWords : Type 0 where
  pub program : List ℕ
  pub sets : List ℕ
  pub state : List ℕ
  pub outcomes : List ℕ

-- what is asked for; of a trial its number
pub data Command : Type 0 where
  Check : CheckWords → Command
  Replay : ReplayWords → Command
  Trial : ℕ → Command

-- ---- what entries ask for

abbrev pub check_in : List Row → Option CheckWords
check_in rows = option_map (λ steps. record {
  program = text_of (codes "program") rows;
  sets = text_of (codes "sets") rows;
  pre = text_of (codes "pre") rows;
  post = text_of (codes "post") rows;
  steps = steps;
}) (number_of (codes "steps") most_steps_asked rows)

abbrev pub replay_in : List Row → ReplayWords
replay_in rows = record {
  program = text_of (codes "program") rows;
  sets = text_of (codes "sets") rows;
  state = text_of (codes "state") rows;
  outcomes = text_of (codes "outcomes") rows;
}

abbrev pub trial_in : List Row → Option ℕ
trial_in rows = number_of (codes "number") most_trial rows

-- ---- what words ask for, the first of which is the command's name

abbrev pub check_asked : List (List ℕ) → Option CheckWords
check_asked words = option_and_then check_in (entries check_parser words)

abbrev pub replay_asked : List (List ℕ) → Option ReplayWords
replay_asked words = option_map replay_in (entries replay_parser words)

abbrev pub trial_asked : List (List ℕ) → Option ℕ
trial_asked words = option_and_then trial_in (entries trial_parser words)

-- The command that the words ask for: the first word picks it, whole, and `clap` reads the others.
abbrev pub command_asked : List (List ℕ) → Option Command
command_asked [] = None
command_asked (first ∷ rest) =
    if bytes_eq first (codes "check") then option_map Check (check_asked (first ∷ rest))
    else (if bytes_eq first (codes "replay") then option_map Replay (replay_asked (first ∷ rest))
    else (if bytes_eq first (codes "trial") then option_map Trial (trial_asked (first ∷ rest)) else None))

-- ---- what the code keeps

abbrev pub check_of : GivenCheck → CheckWords
check_of words = record {
  program = string_bytes words.program;
  sets = string_bytes words.sets;
  pre = string_bytes words.pre;
  post = string_bytes words.post;
  steps = words.steps;
}

abbrev pub replay_of : GivenReplay → ReplayWords
replay_of words = record {
  program = string_bytes words.program;
  sets = string_bytes words.sets;
  state = string_bytes words.state;
  outcomes = string_bytes words.outcomes;
}

abbrev pub command_of : GivenCommand → Command
command_of (given.Check words) = Check (check_of words)
command_of (given.Replay words) = Replay (replay_of words)
command_of (given.Trial number) = Trial number

-- the limit of steps is one that may be asked for, and so is the number of a trial
abbrev pub IsInRange : GivenCommand → Type 0
IsInRange (given.Check words) = (1 ≤ words.steps) × (words.steps ≤ most_steps_asked)
IsInRange (given.Replay words) = Unit {0}
IsInRange (given.Trial number) = (1 ≤ number) × (number ≤ most_trial)
