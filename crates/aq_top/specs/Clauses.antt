-- The sentences of the top call's contract.
use Rattle.std.specs.Prelude.{◌≡◌, ℕ, ◌≤◌, List, length, Option, Some, None, ◌⊎◌}
use Rattle.aq_base.specs.Limits.{most_program_bytes, most_sets_bytes}
use Rattle.std.specs.Io.KnownBytes.{Appends}
use Rattle.aq_world.specs.Held.{Held, bytes_at}
use Rattle.aq_obligations.specs.Correct.{IsCorrect}
use Rattle.aq_words.specs.Commands.{CheckWords, Command, Check, Replay, ReplayWords, Trial}
use Rattle.aq_top.specs.Check.{IsReport}
use Rattle.aq_top.specs.Replay.{IsReplay}
use Rattle.aq_top.specs.Tasks.{Task, IsTask, program_of}
use Rattle.aq_top.specs.Trial.{IsTrial}
use Rattle.aq_top.specs.declared.status.Status.{Status}
use Rattle.aq_top.specs.declared.status.Status.TheVariants as status

-- the status of a whole report
abbrev pub IsAnswer : Status → Type 0
IsAnswer status.Good = Unit {0}
IsAnswer status.Refuted = Unit {0}
IsAnswer status.GaveUp = Unit {0}
IsAnswer _ = ⊥

-- The words name two files. The text is a report on what these say, with justified verdicts; or, where a replay is asked
-- for, the end of the run that is played; or, where a trial is, the line that counts justified verdicts on its texts.
abbrev pub IsReportOf : Option Held → Option Command → Status → List ℕ → Type 0
IsReportOf told None result text = ⊥
IsReportOf told (Some (Check w)) result text = IsReport told w result text
IsReportOf told (Some (Replay w)) result text = IsReplay told w result text
IsReportOf told (Some (Trial n)) result text = IsTrial n result text

-- what the sink's bytes grew by is such a report
abbrev pub Reports : Option Held → Option Command → Option (List ℕ) → Option (List ℕ) → Status → Type 0
Reports told words before after result =
    (written : List ℕ) × Appends before after written × IsReportOf told words result written

-- the program that the told files say is correct
abbrev pub ToldIsCorrect : Option Held → Option Command → Type 0
ToldIsCorrect told words = (held : Held) (w : CheckWords) (t : Task) → told ≡ Some held → words ≡ Some (Check w)
    → IsTask (bytes_at held w.program) (bytes_at held w.sets) w.pre w.post t → IsCorrect (program_of t)

-- The words ask for a check of two told files that aren't too long, and these are accepted: they say a program, sets and the
-- claims that are asked, and there aren't too many obligations.
pub record AsksToCheck (told : Option Held) (words : Option Command) : Type 0 where
  pub held : Held
  pub files : CheckWords
  pub told_is : told ≡ Some held
  pub words_are : words ≡ Some (Check files)
  pub program_fits : length (bytes_at held files.program) ≤ most_program_bytes
  pub sets_fit : length (bytes_at held files.sets) ≤ most_sets_bytes
  pub task : Task
  pub says : IsTask (bytes_at held files.program) (bytes_at held files.sets) files.pre files.post task

-- a report, or want of memory
abbrev pub IsJudged : Status → Type 0
IsJudged status.Good = Unit {0}
IsJudged status.Refuted = Unit {0}
IsJudged status.GaveUp = Unit {0}
IsJudged status.Memory = Unit {0}
IsJudged _ = ⊥

-- Where the words ask for a replay, the sink's bytes grew by the text of the end of the run: of the program that the one
-- file says, from the one vector of the set that is named of those that the other says, all bits 0, with the outcomes asked
-- for.
abbrev pub TellsTheRun : Option Held → Option Command → Option (List ℕ) → Option (List ℕ) → Type 0
TellsTheRun told words before after = (w : ReplayWords) → words ≡ Some (Replay w)
    → (written : List ℕ) × Appends before after written × IsReplay told w status.Good written

-- a read of one of the files that the words name failed; a trial reads none
abbrev pub ReadsFailed : (List ℕ → Type 0) → Option Command → Type 0
ReadsFailed ReadFailed None = ⊥
ReadsFailed ReadFailed (Some (Check w)) = ReadFailed w.program ⊎ ReadFailed w.sets
ReadsFailed ReadFailed (Some (Replay w)) = ReadFailed w.program ⊎ ReadFailed w.sets
ReadsFailed ReadFailed (Some (Trial n)) = ⊥

-- What each status says of a run and of what it wrote.
abbrev pub StatusSays : Option Held → (List ℕ → Type 0) → Type 0 → Option Command → Status → List ℕ → Type 0
StatusSays told ReadFailed WriteFailed words status.Good text = IsReportOf told words status.Good text
StatusSays told ReadFailed WriteFailed words status.Refuted text = IsReportOf told words status.Refuted text
StatusSays told ReadFailed WriteFailed words status.GaveUp text = IsReportOf told words status.GaveUp text
StatusSays told ReadFailed WriteFailed words status.Refused text = Unit {0}
StatusSays told ReadFailed WriteFailed words status.Usage text = words ≡ None
StatusSays told ReadFailed WriteFailed words status.Read text = ReadsFailed ReadFailed words
StatusSays told ReadFailed WriteFailed words status.Write text = WriteFailed
StatusSays told ReadFailed WriteFailed words status.Memory text = Unit {0}
