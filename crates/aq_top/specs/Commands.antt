-- How each command ends.
use Rattle.std.specs.Prelude.{◌≡◌, ℕ, List, Option, Some, None, ◌⊎◌}
use Rattle.aq_world.specs.Held.{Held}
use Rattle.aq_report.specs.Refusals.{refusal_text}
use Rattle.aq_report.specs.declared.refusal.Refusal.TheVariants.{OutOfMemory}
use Rattle.aq_words.specs.Commands.{Command, Check, Replay, Trial}
use Rattle.aq_top.specs.Check.{CheckEnd}
use Rattle.aq_top.specs.Ends.{IsText}
use Rattle.aq_top.specs.Lines.{usage_text}
use Rattle.aq_top.specs.Replay.{ReplayEnd}
use Rattle.aq_top.specs.Trial.{TrialEnd}
use Rattle.aq_top.specs.declared.status.Status.{Status}
use Rattle.aq_top.specs.declared.status.Status.TheVariants as status

-- A whole output of a command, with the status that goes with it. Without a command it says how the program is used.
abbrev pub CommandEnd : Option Held → (List ℕ → Type 0) → Option Command → Status → List ℕ → Type 0
CommandEnd told ReadFailed None result text = IsText status.Usage usage_text result text
CommandEnd told ReadFailed (Some (Check words)) result text = CheckEnd told ReadFailed words result text
CommandEnd told ReadFailed (Some (Replay words)) result text = ReplayEnd told ReadFailed words result text
CommandEnd told ReadFailed (Some (Trial number)) result text = TrialEnd number result text

-- A whole output of a run: that of the command that is asked for, or that memory ran out while the words were read.
abbrev pub RunEnd : Option Held → (List ℕ → Type 0) → Option Command → Status → List ℕ → Type 0
RunEnd told ReadFailed asked result text =
    CommandEnd told ReadFailed asked result text ⊎ IsText status.Memory (refusal_text OutOfMemory) result text
