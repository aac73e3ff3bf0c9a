-- The command `trial N`: what it checks, and how it ends.
use Rattle.std.specs.Prelude.{◌≡◌, ℕ, ◌<◌, ◌≤◌, ◌-◌, ◌*◌, List, ◌++◌, count_by, length, codes, ◌⊎◌}
use Rattle.std.specs.Fmt.{decimal}
use Rattle.aq_base.specs.Limits.{most_obligations, most_program_bytes, most_sets_bytes, most_steps}
use Rattle.aq_prog.specs.declared.program.Program.{Program}
use Rattle.aq_sets.specs.declared.sets.Sets.{Sets}
use Rattle.aq_elab.specs.ProgramFaults.{HasProgramFault}
use Rattle.aq_elab.specs.Texts.{SaysProgram}
use Rattle.aq_elab.specs.declared.program.ProgramFault.{ProgramFault}
use Rattle.aq_set_read.specs.Texts.{SaysSets, SetFaultOf}
use Rattle.aq_set_read.specs.declared.set_fault.SetFault.{SetFault}
use Rattle.aq_obligations.specs.declared.bound.Obligation.{Obligation}
use Rattle.aq_owing.specs.Asking.{Asked}
use Rattle.aq_owing.specs.Made.{obligations_of}
use Rattle.aq_owing.specs.declared.asked.ObligationFault.{ObligationFault}
use Rattle.aq_report.specs.Texts.{is_given_up, is_refuted, is_verified, summary_text}
use Rattle.aq_report.specs.Verdicts.{AreJustified}
use Rattle.aq_report.specs.declared.refusal.Refusal.{Refusal}
use Rattle.aq_report.specs.declared.refusal.Refusal.TheVariants as refusal
use Rattle.aq_report.specs.declared.verdict.Verdict.{Verdict}
use Rattle.aq_trial.specs.Trials.{program_text, sets_text, trial_gates, trial_qubits}
use Rattle.aq_top.specs.Check.{ObligationFaultOf, TellsObligationFault}
use Rattle.aq_top.specs.Ends.{IsRefused}
use Rattle.aq_top.specs.Judging.{AreDecided, verdicts_status}
use Rattle.aq_top.specs.Reads.{TellsProgramFault, TellsSetFault}
use Rattle.aq_top.specs.Tasks.{Task, IsTask, owed_in, task_of}
use Rattle.aq_top.specs.declared.status.Status.{Status}

-- ---- what is checked

-- the two texts of trial n
abbrev pub trial_program : ℕ → List ℕ
trial_program n = program_text (trial_qubits n) (trial_gates n)

abbrev pub trial_sets : ℕ → List ℕ
trial_sets n = sets_text (trial_qubits n)

-- the obligations that two texts owe between `pre` and `post`
pub record OwesBetween (program sets : List ℕ) (p : Program) (s : Sets) (os : List Obligation) : Type 0 where
  pub claims : Asked
  pub says : IsTask program sets (codes "pre") (codes "post") (task_of p s claims)
  pub owed : os ≡ obligations_of p claims
  pub few : length os ≤ most_obligations

-- ---- its line

-- how many gates the program of trial n has: those that are drawn, and what undoes all of them but the first
abbrev pub gate_count : ℕ → ℕ
gate_count n = 2 * length (trial_gates n) - 1

-- the line of trial n, with so many qubits, gates, and verdicts of each kind
abbrev pub line_text : ℕ → ℕ → ℕ → ℕ → ℕ → ℕ → List ℕ
line_text n qubits gates verified refuted given_up =
    codes "trial " ++ (decimal n ++ (codes ": " ++ (decimal qubits ++ (codes " qubits, " ++ (decimal gates
    ++ (codes " gates, " ++ summary_text verified refuted given_up))))))

abbrev pub trial_line : ℕ → List Verdict → List ℕ
trial_line n verdicts =
    line_text n (trial_qubits n) (gate_count n)
    (count_by is_verified verdicts) (count_by is_refuted verdicts) (count_by is_given_up verdicts)

-- ---- refusals

-- why a program's text is refused
abbrev pub ProgramTextCause : List ℕ → Refusal → Type 0
ProgramTextCause text refusal.ProgramTooLong = most_program_bytes < length text
ProgramTextCause text refused = (f : ProgramFault) × HasProgramFault text f × TellsProgramFault f refused

-- why the text of sets is refused
abbrev pub SetsTextCause : List ℕ → Refusal → Type 0
SetsTextCause text refusal.SetsTooLong = most_sets_bytes < length text
SetsTextCause text refused = (f : SetFault) × SetFaultOf text f × TellsSetFault f refused

-- the first text says a program, and the second, of the sets, is refused
pub record HasNoTextSets (program sets : List ℕ) (refused : Refusal) : Type 0 where
  pub value : Program
  pub says : SaysProgram program value
  pub cause : SetsTextCause sets refused

-- the texts say a program and sets, which have no obligations for a fault that the refusal tells
pub record HasNoTextTask (program sets : List ℕ) (refused : Refusal) : Type 0 where
  pub value : Program
  pub says : SaysProgram program value
  pub named : Sets
  pub sets_say : SaysSets sets named
  pub first : ObligationFault
  pub fault : ObligationFaultOf value named (codes "pre") (codes "post") first
  pub tells : TellsObligationFault first refused

-- why a check of files with these texts refuses
abbrev pub TextsCause : List ℕ → List ℕ → Refusal → Type 0
TextsCause program sets refused =
    ProgramTextCause program refused ⊎ (HasNoTextSets program sets refused ⊎ HasNoTextTask program sets refused)

-- why a trial refuses; want of memory may come at any
abbrev pub TrialCause : ℕ → Refusal → Type 0
TrialCause n refused = (refused ≡ refusal.OutOfMemory) ⊎ TextsCause (trial_program n) (trial_sets n) refused

-- ---- ends

-- The text is the line that counts justified verdicts on the trial's task, one for each obligation. Each decides its obligation
-- where the limit is enough and no number is too wide.
pub record IsTrial (n : ℕ) (result : Status) (text : List ℕ) : Type 0 where
  pub task : Task
  pub says : IsTask (trial_program n) (trial_sets n) (codes "pre") (codes "post") task
  pub verdicts : List Verdict
  pub justified : AreJustified most_steps task.program task.sets (owed_in task) verdicts
  pub decided : AreDecided most_steps task.program task.sets (owed_in task) verdicts
  pub status_is : result ≡ verdicts_status verdicts
  pub text_is : text ≡ trial_line n verdicts

-- a whole output of a trial, with the status that goes with it
abbrev pub TrialEnd : ℕ → Status → List ℕ → Type 0
TrialEnd n result text = IsTrial n result text ⊎ IsRefused (TrialCause n) result text
