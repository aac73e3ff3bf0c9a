-- The commands as `clap` sees them, one for each command of the program.
use Rattle.std.specs.Prelude.{ℕ, List, [], ◌∷◌, Some, true, codes}
use Rattle.std.specs.Fmt.{decimal}
use Rattle.aq_base.specs.Limits.{most_steps, most_steps_asked}
use Rattle.clap.specs.Words.{App, Rule, Text, new_app, new_rule, with_rule}
use Rattle.clap.specs.declared.builder.value_parser.ValueParser.TheVariants as vp
use Rattle.aq_words.specs.declared.arguments.TheConstants.{MOST_TRIAL}

-- the greatest number of a trial
abbrev pub most_trial : ℕ
most_trial = MOST_TRIAL

-- ---- arguments

-- a word that must stand, at its place among such words
abbrev pub positional : Text → Rule
positional id = record (new_rule id) { required = true }

-- an option with a text
abbrev pub option : Text → Rule
option id = record (new_rule id) { long = Some id }

-- an option with a text, which must stand
abbrev pub needed_option : Text → Rule
needed_option id = record (new_rule id) { long = Some id; required = true }

-- an option with a text, and this one where it doesn't stand
abbrev pub option_or : Text → Text → Rule
option_or id default = record (new_rule id) { long = Some id; defaults = default ∷ [] }

-- the limit of steps
abbrev pub steps_option : Rule
steps_option = record (new_rule (codes "steps")) {
  long = Some (codes "steps");
  defaults = decimal most_steps ∷ [];
  parser = Some (vp.Unsigned 1 most_steps_asked);
}

-- the number of a trial
abbrev pub trial_number : Rule
trial_number = record (new_rule (codes "number")) { required = true; parser = Some (vp.Unsigned 1 most_trial) }

-- ---- commands

-- a command with these arguments
abbrev pub with_rules : App → List Rule → App
with_rules app [] = app
with_rules app (rule ∷ rules) = with_rules (with_rule app rule) rules

-- `check PROGRAM SETS [--pre NAME] [--post NAME] [--steps N]`
unfoldable pub check_parser : App
check_parser = with_rules (new_app (codes "check")) (
    positional (codes "program")
    ∷ positional (codes "sets")
    ∷ option_or (codes "pre") (codes "pre")
    ∷ option_or (codes "post") (codes "post")
    ∷ steps_option
    ∷ [])

-- `replay PROGRAM SETS --state NAME [--outcomes TEXT]`
unfoldable pub replay_parser : App
replay_parser = with_rules (new_app (codes "replay")) (
    positional (codes "program")
    ∷ positional (codes "sets")
    ∷ needed_option (codes "state")
    ∷ option (codes "outcomes")
    ∷ [])

-- `trial N`
unfoldable pub trial_parser : App
trial_parser = with_rules (new_app (codes "trial")) (trial_number ∷ [])
