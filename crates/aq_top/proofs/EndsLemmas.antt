-- How the parts of a run make its ends, and what these say.
use Rattle.std.proofs.Common.{◌≡◌, ℕ, Bool, true, false, List, length, Option, Some, None, Result, Ok, Err, codes, refl, sym, ap, ap₂, ◌∙◌, subst, ◌⊎◌, inl, inr, if◌then◌else◌}
use Rattle.std.specs.List.{list_any}
use Rattle.std.specs.Io.KnownBytes.{Appends}
use Rattle.aq_world.specs.Causes.{Rose}
use Rattle.aq_world.specs.Held.{Held, bytes_at}
use Rattle.aq_world.specs.Prints.{Prints}
use Rattle.aq_world.specs.Sinks.{SinkMeaning}
use Rattle.aq_world.specs.declared.sink.SinkFault.{SinkFault}
use Rattle.aq_world.specs.declared.sink.SinkFault.TheVariants as fault
use Rattle.aq_obligations.specs.Correct.{IsCorrect}
use Rattle.aq_obligations.specs.Asking.{case_of, products_in}
use Rattle.aq_obligations.specs.declared.bound.BoundCase.{BoundCase}
use Rattle.aq_obligations.specs.declared.bound.Obligation.{Obligation}
use Rattle.aq_sets.specs.declared.sets.Sets.{Sets}
use Rattle.aq_correct.specs.OwingLaws.{TrueThenCorrect}
use Rattle.aq_correct.specs.WorldLaws.{WorldsDecide}
use Rattle.aq_owing.specs.Asking.{Asked, asked}
use Rattle.aq_owing.specs.Made.{obligations_of, owed_by}
use Rattle.aq_owing.specs.declared.asked.ObligationFault.{ObligationFault}
use Rattle.aq_prog.specs.Programs.{IsValidProgram}
use Rattle.aq_elab.specs.ProgramFaults.{HasProgramFault, IsMemory}
use Rattle.aq_elab.specs.Texts.{SaysProgram}
use Rattle.aq_elab.specs.declared.program.ProgramFault.{ProgramFault}
use Rattle.aq_set_read.specs.Texts.{SaysSets, SetFaultOf}
use Rattle.aq_set_read.specs.declared.set_fault.SetFault.{SetFault}
use Rattle.aq_set_read.specs.declared.set_fault.SetFault.TheVariants as set
use Rattle.aq_prog.specs.declared.program.Program.{Program}
use Rattle.aq_ring.specs.Fractions.{Amplitude}
use Rattle.aq_plain.specs.Replaying.{Replays}
use Rattle.aq_plain.specs.declared.replay_stop.Played.{Played}
use Rattle.aq_report.specs.Refusals.{refusal_text}
use Rattle.aq_report.specs.Texts.{replay_text, report, is_refuted, is_given_up}
use Rattle.aq_report.specs.Verdicts.{AreJustified}
use Rattle.aq_report.specs.declared.refusal.Refusal.{Refusal}
use Rattle.aq_report.specs.declared.refusal.Refusal.TheVariants as refusal
use Rattle.aq_report.specs.declared.verdict.Verdict.{Verdict}
use Rattle.aq_words.specs.Commands.{CheckWords, Command, Check, Replay, ReplayWords, Trial, command_of}
use Rattle.aq_words.specs.declared.command.Command.{Command as GivenCommand}
use Rattle.aq_base.specs.Checks.{or_refuse}
use Rattle.aq_words.specs.declared.command.WordsFault.{WordsFault}
use Rattle.aq_words.specs.declared.command.WordsFault.TheVariants as words
use Rattle.aq_top.specs.Check.{CheckCause, CheckEnd, IsReport, ReadsObligations, ReadsTask}
use Rattle.aq_top.specs.Judging.{AreDecided, CountsVerdicts, EndsWithVerdicts, IsTally, verdicts_status}
use Rattle.aq_top.specs.Clauses.{IsAnswer, IsReportOf, StatusSays, TellsTheRun, ToldIsCorrect}
use Rattle.aq_top.specs.Commands.{CommandEnd, RunEnd}
use Rattle.aq_top.specs.Ends.{Ends, EndsAs, IsText, StoppedBy, refusal_status, status_of}
use Rattle.aq_top.specs.Reads.{MayHold}
use Rattle.aq_top.specs.Replay.{ReplayCause, ReplayEnd, IsReplay, ReadsStart, begins}
use Rattle.aq_top.specs.Lines.{usage_text}
use Rattle.aq_top.specs.Tasks.{Task, IsTask, owed_in, program_of, task_of}
use Rattle.aq_top.specs.Trial.{HasNoTextSets, HasNoTextTask, IsTrial, OwesBetween, ProgramTextCause, TextsCause, TrialCause, TrialEnd, trial_line, trial_program, trial_sets}
use Rattle.aq_base.specs.Limits.{most_steps}
use Rattle.aq_top.proofs.ReportLemmas.{all_true, are_decided}
use Rattle.aq_top.specs.declared.judging.Tally.{Tally}
use Rattle.aq_top.specs.declared.status.Status.{Status}
use Rattle.aq_top.specs.declared.status.Status.TheVariants as status

-- ---- ends, whatever the command

-- a call that prints a whole text ends with it, or as the sink stopped it
pub Prints-ends : {S T : Type 0} (sink : SinkMeaning S) (old new : S) (r : Result T SinkFault) (wanted result : Status) (text : List ℕ)
    → Prints sink old new r text → result ≡ status_of r wanted → Ends sink old new (IsText wanted text) result
Prints-ends sink old new (Ok x) wanted result text p e = (text, p.bytes, inl (e, refl))
Prints-ends sink old new (Err fault.Failed) wanted result text p e =
    (p.bytes.0, p.bytes.2, inr (inl (e, record { calls = p.calls; failed = p.failed }, record { wanted = wanted; text = text; end_text = (refl, refl); front = p.bytes.1 })))
Prints-ends sink old new (Err fault.Memory) wanted result text p e =
    (p.bytes.0, p.bytes.2, inr (inr (e, record { calls = p.calls; failed = p.failed }, record { wanted = wanted; text = text; end_text = (refl, refl); front = p.bytes.1 })))

EndsAs-more : (Stopped : SinkFault → Type 0) (E F : Status → List ℕ → Type 0) (result : Status) (written : List ℕ)
    → ((s : Status) (t : List ℕ) → E s t → F s t) → EndsAs Stopped E result written → EndsAs Stopped F result written
EndsAs-more Stopped E F result written f (inl e) = inl (f result written e)
EndsAs-more Stopped E F result written f (inr (inl e)) =
    inr (inl (e.0, e.1, record { wanted = e.2.wanted; text = e.2.text; end_text = f e.2.wanted e.2.text e.2.end_text; front = e.2.front }))
EndsAs-more Stopped E F result written f (inr (inr e)) =
    inr (inr (e.0, e.1, record { wanted = e.2.wanted; text = e.2.text; end_text = f e.2.wanted e.2.text e.2.end_text; front = e.2.front }))

-- an end among some outputs is one among more of them
pub Ends-more : {S : Type 0} (sink : SinkMeaning S) (old new : S) (E F : Status → List ℕ → Type 0) (result : Status)
    → ((s : Status) (t : List ℕ) → E s t → F s t) → Ends sink old new E result → Ends sink old new F result
Ends-more sink old new E F result f e = (e.0, e.1, EndsAs-more (StoppedBy sink old new) E F result e.0 f e.2)

EndsAs-says : (Stopped : SinkFault → Type 0) (E Says : Status → List ℕ → Type 0) (result : Status) (written : List ℕ) → ((s : Status) (t : List ℕ) → E s t → Says s t)
    → (Stopped fault.Failed → Says status.Write written) → Says status.Memory written → EndsAs Stopped E result written → Says result written
EndsAs-says Stopped E Says result written f w m (inl e) = f result written e
EndsAs-says Stopped E Says result written f w m (inr (inl e)) = subst (λ (s : Status). Says s written) (sym e.0) (w e.1)
EndsAs-says Stopped E Says result written f w m (inr (inr e)) = subst (λ (s : Status). Says s written) (sym e.0) m

-- ---- checks

-- a report that is said is an end of a check, and so is a refusal
pub report_end : (told : Option Held) (RF : List ℕ → Type 0) (w : CheckWords) (t : Task) (vs : List Verdict) → ReadsTask told w t
    → AreJustified w.steps t.program t.sets (owed_in t) vs → AreDecided w.steps t.program t.sets (owed_in t) vs → (s : Status) (text : List ℕ) → IsText (verdicts_status vs) (report (owed_in t) vs) s text → CheckEnd told RF w s text
report_end told RF w t vs read justified decided s text e =
    inl (record { task = t; read = read; verdicts = vs; justified = justified; decided = decided; status_is = e.0; text_is = e.1 })

-- the report of what was read
pub loaded_end : {S : Type 0} (sink : SinkMeaning S) (old new : S) (told : Option Held) (RF : List ℕ → Type 0) (w : CheckWords) (p : Program) (s : Sets) (os : List Obligation) (result : Status)
    → WorldsDecide → ReadsObligations told w p s os → EndsWithVerdicts sink old new w.steps p s os (report os) result → Ends sink old new (CheckEnd told RF w) result
loaded_end sink old new told RF w p s os result law r e =
    let vs = e.verdicts in
    let justified = subst (λ (l : List Obligation). AreJustified w.steps p s l vs) r.owed e.justified in
    Ends-more sink old new (IsText (verdicts_status vs) (report os vs)) (CheckEnd told RF w) result
    (λ st text h. report_end told RF w (task_of p s r.claims) vs r.read justified (are_decided w.steps p s law (obligations_of p r.claims) vs justified) st text (subst (λ (l : List Obligation). IsText (verdicts_status vs) (report l vs) st text) r.owed h))
    e.ends

pub refused_end : (told : Option Held) (RF : List ℕ → Type 0) (w : CheckWords) (r : Refusal) → CheckCause told RF w r
    → (s : Status) (text : List ℕ) → IsText (refusal_status r) (refusal_text r) s text → CheckEnd told RF w s text
refused_end told RF w r cause s text e = inr (record { refusal = r; cause = cause; status_is = e.0; text_is = e.1 })

-- ---- replays

-- the end of a run that is said is an end of a replay, and so is a refusal
pub replay_end : (told : Option Held) (RF : List ℕ → Type 0) (w : ReplayWords) (p : Program) (v : List Amplitude) (outcomes : List Bool) (end : Played)
    → ReadsStart told w p v outcomes → Replays p.qubits p.body (begins p v outcomes) (Ok end)
    → (s : Status) (text : List ℕ) → IsText status.Good (replay_text end.bits end.vector) s text → ReplayEnd told RF w s text
replay_end told RF w p v outcomes end read replays s text e =
    inl (record { program = p; vector = v; outcomes = outcomes; read = read; end = end; replays = replays; status_is = e.0; text_is = e.1 })

pub unplayed_end : (told : Option Held) (RF : List ℕ → Type 0) (w : ReplayWords) (r : Refusal) → ReplayCause told RF w r
    → (s : Status) (text : List ℕ) → IsText (refusal_status r) (refusal_text r) s text → ReplayEnd told RF w s text
unplayed_end told RF w r cause s text e = inr (record { refusal = r; cause = cause; status_is = e.0; text_is = e.1 })

-- ---- trials

-- a line that is said is an end of a trial, and so is a refusal
trial_line_end : (n : ℕ) (t : Task) (vs : List Verdict) → IsTask (trial_program n) (trial_sets n) (codes "pre") (codes "post") t
    → AreJustified most_steps t.program t.sets (owed_in t) vs → AreDecided most_steps t.program t.sets (owed_in t) vs
    → (s : Status) (text : List ℕ) → IsText (verdicts_status vs) (trial_line n vs) s text → TrialEnd n s text
trial_line_end n t vs says justified decided s text e =
    inl (record { task = t; says = says; verdicts = vs; justified = justified; decided = decided; status_is = e.0; text_is = e.1 })

-- the line of what was read
pub trial_end : {S : Type 0} (sink : SinkMeaning S) (old new : S) (n : ℕ) (p : Program) (s : Sets) (os : List Obligation) (t : Tally) (result : Status) → WorldsDecide
    → OwesBetween (trial_program n) (trial_sets n) p s os → CountsVerdicts most_steps p s os t
    → ((vs : List Verdict) → IsTally t vs → Ends sink old new (IsText (verdicts_status vs) (trial_line n vs)) result) → Ends sink old new (TrialEnd n) result
trial_end sink old new n p s os t result law r counted ends =
    let vs = counted.verdicts in
    let justified = subst (λ (l : List Obligation). AreJustified most_steps p s l vs) r.owed counted.justified in
    Ends-more sink old new (IsText (verdicts_status vs) (trial_line n vs)) (TrialEnd n) result
    (trial_line_end n (task_of p s r.claims) vs r.says justified (are_decided most_steps p s law (obligations_of p r.claims) vs justified))
    (ends vs counted.counts)

pub untried_end : (n : ℕ) (r : Refusal) → TrialCause n r → (s : Status) (text : List ℕ) → IsText (refusal_status r) (refusal_text r) s text → TrialEnd n s text
untried_end n r cause s text e = inr (record { refusal = r; cause = cause; status_is = e.0; text_is = e.1 })

-- ---- a command line

asked_some : (asked : Option Command) (c : Command) → or_refuse words.Usage asked ≡ Ok c → asked ≡ Some c
asked_some (Some x) c e = let same : x ≡ c = cc in ap (λ y. Some y) same
asked_some None c e = absurd (cc e)

asked_none : (asked : Option Command) → or_refuse words.Usage asked ≡ Err words.Usage → asked ≡ None
asked_none (Some x) e = absurd (cc e)
asked_none None e = refl

usage_is_known : (e : WordsFault) → e ≡ words.Usage → e ≡ words.Memory → ⊥
usage_is_known e u m = cc

none_asked : (asked : Option Command) (e : WordsFault) → e ≡ words.Usage → ((e ≡ words.Memory → ⊥) → or_refuse words.Usage asked ≡ Err e) → asked ≡ None
none_asked asked e u h = asked_none asked (h (usage_is_known e u) ∙ ap (λ x. Err x) u)

-- the end of a command that is asked for is one of the run
pub command_ends : {S : Type 0} (sink : SinkMeaning S) (old new : S) (told : Option Held) (RF : List ℕ → Type 0) (asked : Option Command) (c : Command) (result : Status)
    → or_refuse words.Usage asked ≡ Ok c → Ends sink old new (CommandEnd told RF (Some c)) result → Ends sink old new (RunEnd told RF asked) result
command_ends sink old new told RF asked c result e ends =
    Ends-more sink old new (CommandEnd told RF (Some c)) (RunEnd told RF asked) result
    (λ s t h. inl (subst (λ (x : Option Command). CommandEnd told RF x s t) (sym (asked_some asked c e)) h)) ends

-- so are the usage text, where none is asked for, and want of memory
pub usage_ends : {S : Type 0} (sink : SinkMeaning S) (old new : S) (told : Option Held) (RF : List ℕ → Type 0) (asked : Option Command) (result : Status) (e : WordsFault)
    → e ≡ words.Usage → ((e ≡ words.Memory → ⊥) → or_refuse words.Usage asked ≡ Err e) → Ends sink old new (IsText status.Usage usage_text) result → Ends sink old new (RunEnd told RF asked) result
usage_ends sink old new told RF asked result e u h ends =
    Ends-more sink old new (IsText status.Usage usage_text) (RunEnd told RF asked) result
    (λ s t k. inl (subst (λ (x : Option Command). CommandEnd told RF x s t) (sym (none_asked asked e u h)) k)) ends

pub memory_ends : {S : Type 0} (sink : SinkMeaning S) (old new : S) (told : Option Held) (RF : List ℕ → Type 0) (asked : Option Command) (result : Status)
    → Ends sink old new (IsText status.Memory (refusal_text refusal.OutOfMemory)) result → Ends sink old new (RunEnd told RF asked) result
memory_ends sink old new told RF asked result ends =
    Ends-more sink old new (IsText status.Memory (refusal_text refusal.OutOfMemory)) (RunEnd told RF asked) result (λ s t h. inr h) ends

-- ---- what a status says

-- a report has one of three statuses
report_says : (told : Option Held) (RF : List ℕ → Type 0) (WF : Type 0) (w : CheckWords) (refuted given_up : Bool) (text : List ℕ)
    → IsReport told w (if refuted then status.Refuted else (if given_up then status.GaveUp else status.Good)) text
    → StatusSays told RF WF (Some (Check w)) (if refuted then status.Refuted else (if given_up then status.GaveUp else status.Good)) text
report_says told RF WF w true given_up text r = r
report_says told RF WF w false true text r = r
report_says told RF WF w false false text r = r

read_failed : (told : Option Held) (RF : List ℕ → Type 0) (w : CheckWords) (r : Refusal) → refusal_status r ≡ status.Read → CheckCause told RF w r → RF w.program ⊎ RF w.sets
read_failed told RF w (refusal.ReadFault file) e (inl cause) = inl cause.1
read_failed told RF w (refusal.ReadFault file) e (inr (inl behind)) = inr behind.then.1
read_failed told RF w (refusal.ReadFault file) e (inr (inr owing)) = absurd owing.tells
read_failed told RF w refusal.OutOfMemory e cause = cc
read_failed told RF w _ e cause = cc

refusal_says : (told : Option Held) (RF : List ℕ → Type 0) (WF : Type 0) (w : CheckWords) (r : Refusal) (text : List ℕ) → CheckCause told RF w r
    → StatusSays told RF WF (Some (Check w)) (refusal_status r) text
refusal_says told RF WF w (refusal.ReadFault file) text cause = read_failed told RF w (refusal.ReadFault file) refl cause
refusal_says told RF WF w refusal.OutOfMemory text cause = tt
refusal_says told RF WF w _ text cause = tt

check_says : (told : Option Held) (RF : List ℕ → Type 0) (WF : Type 0) (w : CheckWords) (s : Status) (text : List ℕ) → CheckEnd told RF w s text
    → StatusSays told RF WF (Some (Check w)) s text
check_says told RF WF w s text (inl r) =
    subst (λ (x : Status). StatusSays told RF WF (Some (Check w)) x text) (sym r.status_is)
    (report_says told RF WF w (list_any is_refuted r.verdicts) (list_any is_given_up r.verdicts) text (subst (λ (x : Status). IsReport told w x text) r.status_is r))
check_says told RF WF w s text (inr r) =
    subst (λ (x : Status). StatusSays told RF WF (Some (Check w)) x text) (sym r.status_is) (refusal_says told RF WF w r.refusal text r.cause)

replay_read_failed : (told : Option Held) (RF : List ℕ → Type 0) (w : ReplayWords) (r : Refusal) → refusal_status r ≡ status.Read → ReplayCause told RF w r → RF w.program ⊎ RF w.sets
replay_read_failed told RF w (refusal.ReadFault file) e (inl cause) = inl cause.1
replay_read_failed told RF w (refusal.ReadFault file) e (inr (inl sets)) = inr sets.cause.1
replay_read_failed told RF w (refusal.ReadFault file) e (inr (inr (inl state))) = absurd state.tells
replay_read_failed told RF w (refusal.ReadFault file) e (inr (inr (inr (inl digits)))) = absurd digits.tells
replay_read_failed told RF w (refusal.ReadFault file) e (inr (inr (inr (inr halted)))) = absurd halted.tells
replay_read_failed told RF w refusal.OutOfMemory e cause = cc
replay_read_failed told RF w _ e cause = cc

replay_refusal_says : (told : Option Held) (RF : List ℕ → Type 0) (WF : Type 0) (w : ReplayWords) (r : Refusal) (text : List ℕ) → ReplayCause told RF w r
    → StatusSays told RF WF (Some (Replay w)) (refusal_status r) text
replay_refusal_says told RF WF w (refusal.ReadFault file) text cause = replay_read_failed told RF w (refusal.ReadFault file) refl cause
replay_refusal_says told RF WF w refusal.OutOfMemory text cause = tt
replay_refusal_says told RF WF w _ text cause = tt

replay_says : (told : Option Held) (RF : List ℕ → Type 0) (WF : Type 0) (w : ReplayWords) (s : Status) (text : List ℕ) → ReplayEnd told RF w s text
    → StatusSays told RF WF (Some (Replay w)) s text
replay_says told RF WF w s text (inl r) =
    subst (λ (x : Status). StatusSays told RF WF (Some (Replay w)) x text) (sym r.status_is)
    (subst (λ (x : Status). IsReplay told w x text) r.status_is r)
replay_says told RF WF w s text (inr r) =
    subst (λ (x : Status). StatusSays told RF WF (Some (Replay w)) x text) (sym r.status_is) (replay_refusal_says told RF WF w r.refusal text r.cause)

trial_line_says : (told : Option Held) (RF : List ℕ → Type 0) (WF : Type 0) (n : ℕ) (refuted given_up : Bool) (text : List ℕ)
    → IsTrial n (if refuted then status.Refuted else (if given_up then status.GaveUp else status.Good)) text
    → StatusSays told RF WF (Some (Trial n)) (if refuted then status.Refuted else (if given_up then status.GaveUp else status.Good)) text
trial_line_says told RF WF n true given_up text r = r
trial_line_says told RF WF n false true text r = r
trial_line_says told RF WF n false false text r = r

-- a trial reads no file
no_read_of : (n : ℕ) (r : Refusal) → refusal_status r ≡ status.Read → TrialCause n r → ⊥
no_read_of n (refusal.ReadFault file) e (inl cause) = let out = ap refusal_status cause in cc
no_read_of n (refusal.ReadFault file) e (inr (inl cause)) = absurd cause.2
no_read_of n (refusal.ReadFault file) e (inr (inr (inl sets))) = absurd sets.cause.2
no_read_of n (refusal.ReadFault file) e (inr (inr (inr task))) = absurd task.tells
no_read_of n refusal.OutOfMemory e cause = cc
no_read_of n _ e cause = cc

trial_refusal_says : (told : Option Held) (RF : List ℕ → Type 0) (WF : Type 0) (n : ℕ) (r : Refusal) (text : List ℕ) → TrialCause n r
    → StatusSays told RF WF (Some (Trial n)) (refusal_status r) text
trial_refusal_says told RF WF n (refusal.ReadFault file) text cause = no_read_of n (refusal.ReadFault file) refl cause
trial_refusal_says told RF WF n refusal.OutOfMemory text cause = tt
trial_refusal_says told RF WF n _ text cause = tt

trial_says : (told : Option Held) (RF : List ℕ → Type 0) (WF : Type 0) (n : ℕ) (s : Status) (text : List ℕ) → TrialEnd n s text → StatusSays told RF WF (Some (Trial n)) s text
trial_says told RF WF n s text (inl r) =
    subst (λ (x : Status). StatusSays told RF WF (Some (Trial n)) x text) (sym r.status_is)
    (trial_line_says told RF WF n (list_any is_refuted r.verdicts) (list_any is_given_up r.verdicts) text (subst (λ (x : Status). IsTrial n x text) r.status_is r))
trial_says told RF WF n s text (inr r) =
    subst (λ (x : Status). StatusSays told RF WF (Some (Trial n)) x text) (sym r.status_is) (trial_refusal_says told RF WF n r.refusal text r.cause)

command_says : (told : Option Held) (RF : List ℕ → Type 0) (WF : Type 0) (words : Option Command) (s : Status) (text : List ℕ) → CommandEnd told RF words s text
    → StatusSays told RF WF words s text
command_says told RF WF None s text e = subst (λ (x : Status). StatusSays told RF WF None x text) (sym e.0) refl
command_says told RF WF (Some (Check w)) s text e = check_says told RF WF w s text e
command_says told RF WF (Some (Replay w)) s text e = replay_says told RF WF w s text e
command_says told RF WF (Some (Trial n)) s text e = trial_says told RF WF n s text e

run_says : (told : Option Held) (RF : List ℕ → Type 0) (WF : Type 0) (words : Option Command) (s : Status) (text : List ℕ) → RunEnd told RF words s text
    → StatusSays told RF WF words s text
run_says told RF WF words s text (inl e) = command_says told RF WF words s text e
run_says told RF WF words s text (inr e) = subst (λ (x : Status). StatusSays told RF WF words x text) (sym e.0) tt

-- what was written goes with what the status says
pub status_says : {S : Type 0} (sink : SinkMeaning S) (old new : S) (told : Option Held) (RF : List ℕ → Type 0) (words : Option Command) (result : Status)
    → Ends sink old new (RunEnd told RF words) result
    → (written : List ℕ) × Appends (sink.told old) (sink.told new) written × StatusSays told RF (Rose (sink.faults old) (sink.faults new)) words result written
status_says sink old new told RF words result e =
    let WF = Rose (sink.faults old) (sink.faults new) in
    (e.0, e.1, EndsAs-says (StoppedBy sink old new) (RunEnd told RF words) (StatusSays told RF WF words) result e.0 (run_says told RF WF words) (λ s. s.failed refl) tt e.2)

-- it at a status
pub at_status : (told : Option Held) (RF : List ℕ → Type 0) (WF : Type 0) (words : Option Command) (s t : Status) (text : List ℕ) → s ≡ t
    → StatusSays told RF WF words s text → StatusSays told RF WF words t text
at_status told RF WF words s t text e x = subst (λ (y : Status). StatusSays told RF WF words y text) e x

-- an answer is a report
pub answer_says : (told : Option Held) (RF : List ℕ → Type 0) (WF : Type 0) (words : Option Command) (s : Status) (text : List ℕ) → IsAnswer s
    → StatusSays told RF WF words s text → IsReportOf told words s text
answer_says told RF WF words status.Good text a x = x
answer_says told RF WF words status.Refuted text a x = x
answer_says told RF WF words status.GaveUp text a x = x
answer_says told RF WF words _ text a x = absurd a

-- ---- what texts say

-- a text says one program or one fault, and one list of sets or one fault
pub record TextLaws : Type 0 where
  pub program : (text : List ℕ) (p q : Program) → SaysProgram text p → SaysProgram text q → p ≡ q
  pub no_program : (text : List ℕ) (p : Program) (f : ProgramFault) → SaysProgram text p → HasProgramFault text f → (IsMemory f → ⊥) → ⊥
  pub valid : (text : List ℕ) (p : Program) → SaysProgram text p → IsValidProgram p
  pub sets : (text : List ℕ) (a b : Sets) → SaysSets text a → SaysSets text b → a ≡ b
  pub no_sets : (text : List ℕ) (a : Sets) (f : SetFault) → SaysSets text a → SetFaultOf text f → (f ≡ set.Memory → ⊥) → ⊥

-- ---- a good report

-- it has no verdict of another kind
all_good : (refuted given_up : Bool) → status.Good ≡ (if refuted then status.Refuted else (if given_up then status.GaveUp else status.Good)) → (refuted ≡ false) × (given_up ≡ false)
all_good true given_up e = absurd (cc e)
all_good false true e = absurd (cc e)
all_good false false e = (refl, refl)

same_task : (s t : Task) → s.program ≡ t.program → s.sets ≡ t.sets → s.claims ≡ t.claims → s ≡ t
same_task s t a b c = λ i. record { program = a i; sets = b i; claims = c i }

asked_is : (x y : Asked) → ◌≡◌ {A = Result Asked ObligationFault} (Ok x) (Ok y) → x ≡ y
asked_is x y e = cc

-- two texts say one task
one_task : TextLaws → (p q pre post : List ℕ) (s t : Task) → IsTask p q pre post s → IsTask p q pre post t → s ≡ t
one_task laws p q pre post s t x y =
    let program : s.program ≡ t.program = laws.program p s.program t.program x.program_is y.program_is in
    let sets : s.sets ≡ t.sets = laws.sets q s.sets t.sets x.sets_are y.sets_are in
    same_task s t program sets (asked_is s.claims t.claims (sym x.claims_are ∙ ap₂ (λ a b. asked a b pre post) program sets ∙ y.claims_are))

-- a program that meets its obligations is correct
task_correct : (limit : ℕ) (t : Task) (text : List ℕ) (vs : List Verdict) → TextLaws → TrueThenCorrect BoundCase → SaysProgram text t.program
    → AreJustified limit t.program t.sets (owed_in t) vs → status.Good ≡ verdicts_status vs → IsCorrect (program_of t)
task_correct limit t text vs laws law says fine good =
    let tests = all_good (list_any is_refuted vs) (list_any is_given_up vs) good in
    let p = t.program in
    let a = t.claims in
    law.correct p.qubits p.bits (length p.claims) (case_of t.sets) (products_in t.sets) a.claims a.before a.after p.body
    (laws.valid text p says).body (all_true limit p t.sets (owed_by p a) vs fine tests.0 tests.1)

told_task : TextLaws → (told : Option Held) (held : Held) (w : CheckWords) (s t : Task) → told ≡ Some held → ReadsTask told w s
    → IsTask (bytes_at held w.program) (bytes_at held w.sets) w.pre w.post t → s ≡ t
told_task laws told held w s t e read says =
    let program : read.program ≡ bytes_at held w.program = subst (λ (o : Option Held). MayHold o w.program read.program) e read.program_held in
    let sets : read.sets ≡ bytes_at held w.sets = subst (λ (o : Option Held). MayHold o w.sets read.sets) e read.sets_held in
    one_task laws (bytes_at held w.program) (bytes_at held w.sets) w.pre w.post s t
    (subst (λ (b : List ℕ). IsTask b (bytes_at held w.sets) w.pre w.post s) program (subst (λ (b : List ℕ). IsTask read.program b w.pre w.post s) sets read.says)) says

some_is : (x y : CheckWords) → ◌≡◌ {A = Option Command} (Some (Check x)) (Some (Check y)) → x ≡ y
some_is x y e = cc

no_check : (v : ReplayWords) (w : CheckWords) → ◌≡◌ {A = Option Command} (Some (Replay v)) (Some (Check w)) → ⊥
no_check v w e = cc

trial_is_no_check : (n : ℕ) (w : CheckWords) → ◌≡◌ {A = Option Command} (Some (Trial n)) (Some (Check w)) → ⊥
trial_is_no_check n w e = cc

-- and its program is correct
pub report_is_correct : (told : Option Held) (words : Option Command) (text : List ℕ) → TextLaws → TrueThenCorrect BoundCase → IsReportOf told words status.Good text → ToldIsCorrect told words
report_is_correct told None text laws law r = absurd r
report_is_correct told (Some (Replay v)) text laws law r = λ held w t told_is words_are says. absurd (no_check v w words_are)
report_is_correct told (Some (Trial n)) text laws law r = λ held w t told_is words_are says. absurd (trial_is_no_check n w words_are)
report_is_correct told (Some (Check v)) text laws law r = λ held w t told_is words_are says.
    let same : v ≡ w = some_is v w words_are in
    let read : ReadsTask told w r.task = subst (λ (x : CheckWords). ReadsTask told x r.task) same r.read in
    let task : r.task ≡ t = told_task laws told held w r.task t told_is read says in
    subst (λ (x : Task). IsCorrect (program_of x)) task
    (task_correct v.steps r.task r.read.program r.verdicts laws law r.read.says.program_is r.justified r.status_is)

-- ---- a replay

-- where it is good, the text is the end of the run
pub replay_tells : (told : Option Held) (words : Option Command) (before after : Option (List ℕ)) (text : List ℕ) → Appends before after text
    → IsReportOf told words status.Good text → TellsTheRun told words before after
replay_tells told words before after text appends r =
    λ w words_are. (text, appends, subst (λ (x : Option Command). IsReportOf told x status.Good text) words_are r)
