-- Files that are accepted are judged: no refusal of a check has its cause.
use Rattle.std.proofs.Common.{◌≡◌, ℕ, ◌≤◌, Bool, true, false, List, length, Option, Some, Ok, Err, refl, sym, ap, ap₂, ◌∙◌, subst, arith, inl, inr, if◌then◌else◌}
use Rattle.std.specs.List.{list_any}
use Rattle.aq_base.specs.Checks.{refuse_if, ◌>>=◌, ◌>>◌}
use Rattle.aq_base.specs.Limits.{most_program_bytes, most_sets_bytes}
use Rattle.aq_lex.specs.declared.place.Place.{Place}
use Rattle.aq_elab.specs.ProgramFaults.{HasProgramFault, IsMemory, fault_place}
use Rattle.aq_elab.specs.Texts.{SaysProgram}
use Rattle.aq_elab.specs.declared.program.ProgramFault.{ProgramFault}
use Rattle.aq_elab.specs.declared.program.ProgramFault.TheVariants as fault
use Rattle.aq_set_read.specs.FaultNames as named
use Rattle.aq_set_read.specs.Texts.{SaysSets, SetFaultOf}
use Rattle.aq_set_read.specs.declared.set_fault.SetFault.{SetFault}
use Rattle.aq_set_read.specs.declared.set_fault.SetFault.TheVariants as set
use Rattle.aq_obligations.specs.declared.bound.Obligation.{Obligation}
use Rattle.aq_owing.specs.Asking.{Asked, Checked}
use Rattle.aq_owing.specs.FaultNames.{fault_claim}
use Rattle.aq_owing.specs.Made.{are_too_many, made_obligations, obligations_of, owed_by}
use Rattle.aq_owing.specs.declared.asked.ObligationFault.{ObligationFault}
use Rattle.aq_owing.specs.declared.asked.ObligationFault.TheVariants as owing
use Rattle.aq_report.specs.declared.refusal.Refusal.{Refusal}
use Rattle.aq_report.specs.declared.refusal.Refusal.TheVariants as refusal
use Rattle.aq_report.specs.Texts.{is_refuted, is_given_up}
use Rattle.aq_world.specs.Causes.{Rose}
use Rattle.aq_world.specs.Held.{Held, bytes_at}
use Rattle.aq_world.specs.Sinks.{SinkMeaning}
use Rattle.aq_words.specs.Commands.{CheckWords, Command, Check}
use Rattle.aq_top.specs.Check.{CheckCause, HasNoObligations}
use Rattle.aq_top.specs.Clauses.{AsksToCheck, IsJudged}
use Rattle.aq_top.specs.Commands.{RunEnd}
use Rattle.aq_top.specs.Ends.{Ends, EndsAs, StoppedBy, refusal_status}
use Rattle.aq_top.specs.Reads.{HasFault, HasSetFault, IsLonger, MayHold, ProgramCause, SetsCause}
use Rattle.aq_top.specs.Tasks.{IsTask, Task}
use Rattle.aq_top.specs.declared.status.Status.{Status}
use Rattle.aq_top.specs.declared.status.Status.TheVariants as status
use Rattle.aq_top.proofs.EndsLemmas.{TextLaws}

-- a fault with a place isn't want of memory
placed : (f : ProgramFault) (at : Place) → fault_place f ≡ Some at → IsMemory f → ⊥
placed (fault.Lex f) at e h = let none = ap (λ g. fault_place (fault.Lex g)) h in cc
placed (fault.Parse f) at e h = let none = ap (λ g. fault_place (fault.Parse g)) h in cc
placed (fault.Elab f) at e h = let none = ap (λ g. fault_place (fault.Elab g)) h in cc

placed_set : (f : SetFault) (at : Place) → named.fault_place f ≡ Some at → f ≡ set.Memory → ⊥
placed_set f at e h = let none = ap named.fault_place h in cc

module _ (laws : TextLaws) (told : Option Held) (RF : List ℕ → Type 0) (no_read : (name : List ℕ) → RF name → ⊥) (held : Held) (w : CheckWords) (told_is : told ≡ Some held) (t : Task)
    (program_fits : length (bytes_at held w.program) ≤ most_program_bytes) (sets_fit : length (bytes_at held w.sets) ≤ most_sets_bytes)
    (says : IsTask (bytes_at held w.program) (bytes_at held w.sets) w.pre w.post t) where
  -- only want of memory is left
  abbrev IsWant : Refusal → Type 0
  IsWant r = refusal_status r ≡ status.Memory

  bytes_are : (name bytes : List ℕ) → MayHold told name bytes → bytes ≡ bytes_at held name
  bytes_are name bytes h = subst (λ (o : Option Held). MayHold o name bytes) told_is h

  not_longer : (name : List ℕ) (most : ℕ) → length (bytes_at held name) ≤ most → IsLonger told name most → ⊥
  not_longer name most fits h = let more = subst (λ (o : Option Held). IsLonger o name most) told_is h in omega (arith, more, fits)

  no_fault : (f : ProgramFault) (at : Place) → HasFault told w.program f → fault_place f ≡ Some at → ⊥
  no_fault f at h e =
      laws.no_program (bytes_at held w.program) t.program f says.program_is
      (subst (λ b. HasProgramFault b f) (bytes_are w.program h.bytes h.held) h.fault) (placed f at e)

  no_set_fault : (f : SetFault) (at : Place) → HasSetFault told w.sets f → named.fault_place f ≡ Some at → ⊥
  no_set_fault f at h e =
      laws.no_sets (bytes_at held w.sets) t.sets f says.sets_are
      (subst (λ b. SetFaultOf b f) (bytes_are w.sets h.bytes h.held) h.fault) (placed_set f at e)

  by_program : (r : Refusal) → ProgramCause told RF w.program r → IsWant r
  by_program (refusal.ReadFault file) c = absurd (no_read w.program c.1)
  by_program refusal.ProgramTooLong c = absurd (not_longer w.program most_program_bytes program_fits c)
  by_program refusal.OutOfMemory c = refl
  by_program (refusal.Program at name) c = absurd (no_fault c.0 at c.1 c.2.0)
  by_program (refusal.NotTaken at word) c = absurd (no_fault c.0 at c.1 c.2.0)
  by_program _ c = absurd c.2

  by_sets : (r : Refusal) → SetsCause told RF w.sets r → IsWant r
  by_sets (refusal.ReadFault file) c = absurd (no_read w.sets c.1)
  by_sets refusal.SetsTooLong c = absurd (not_longer w.sets most_sets_bytes sets_fit c)
  by_sets refusal.OutOfMemory c = refl
  by_sets (refusal.Sets at name) c = absurd (no_set_fault c.0 at c.1 c.2.0)
  by_sets _ c = absurd c.2

  made_so : made_obligations t.program t.sets w.pre w.post ≡ Ok (obligations_of t.program t.claims)
  made_so =
      ap (λ (r : Checked Asked). r >>= λ x. refuse_if (are_too_many (owed_by t.program x)) owing.TooManyObligations >> Ok (obligations_of t.program x)) says.claims_are
      ∙ ap (λ b. refuse_if b owing.TooManyObligations >> Ok (obligations_of t.program t.claims)) says.few

  not_both : (r : Checked (List Obligation)) (os : List Obligation) (f : ObligationFault) → r ≡ Ok os → r ≡ Err f → ⊥
  not_both r os f e h = cc

  only_memory : (r : Refusal) → (h : HasNoObligations told w r) → (h.first ≡ owing.Memory → ⊥) → ⊥
  only_memory r h other =
      let program : h.program ≡ t.program
      = laws.program (bytes_at held w.program) h.program t.program (subst (λ b. SaysProgram b h.program) (bytes_are w.program h.read.bytes h.read.held) h.read.says) says.program_is in
      let sets : h.sets ≡ t.sets
      = laws.sets (bytes_at held w.sets) h.sets t.sets (subst (λ b. SaysSets b h.sets) (bytes_are w.sets h.sets_read.bytes h.sets_read.held) h.sets_read.says) says.sets_are in
      not_both (made_obligations h.program h.sets w.pre w.post) (obligations_of t.program t.claims) h.first
      (ap₂ (λ p s. made_obligations p s w.pre w.post) program sets ∙ made_so) (h.fault other)

  of_claim : (f : ObligationFault) (claim : List ℕ) → fault_claim f ≡ Some claim → f ≡ owing.Memory → ⊥
  of_claim f claim e h = let none = ap fault_claim h in cc

  too_many : (f : ObligationFault) → f ≡ owing.TooManyObligations → f ≡ owing.Memory → ⊥
  too_many f e h = cc

  by_obligations : (r : Refusal) → HasNoObligations told w r → IsWant r
  by_obligations (refusal.Claim claim name) h = absurd (only_memory (refusal.Claim claim name) h (of_claim h.first claim h.tells.0))
  by_obligations refusal.TooManyObligations h = absurd (only_memory refusal.TooManyObligations h (too_many h.first h.tells))
  by_obligations refusal.OutOfMemory h = refl
  by_obligations _ h = absurd h.tells

  by_cause : (r : Refusal) → CheckCause told RF w r → IsWant r
  by_cause r (inl c) = by_program r c
  by_cause r (inr (inl c)) = by_sets r c.then
  by_cause r (inr (inr c)) = by_obligations r c

  report_judged : (refuted given_up : Bool) → IsJudged (if refuted then status.Refuted else (if given_up then status.GaveUp else status.Good))
  report_judged true given_up = tt
  report_judged false true = tt
  report_judged false false = tt

  pub end_judged : (result : Status) (text : List ℕ) → RunEnd told RF (Some (Check w)) result text → IsJudged result
  end_judged result text (inl (inl r)) = subst IsJudged (sym r.status_is) (report_judged (list_any is_refuted r.verdicts) (list_any is_given_up r.verdicts))
  end_judged result text (inl (inr r)) = subst IsJudged (sym (r.status_is ∙ by_cause r.refusal r.cause)) tt
  end_judged result text (inr r) = subst IsJudged (sym r.0) tt

pub accepted_judged : {S : Type 0} (sink : SinkMeaning S) (old new : S) (laws : TextLaws) (told : Option Held) (RF : List ℕ → Type 0) (words : Option Command) (result : Status)
    → Ends sink old new (RunEnd told RF words) result → AsksToCheck told words → ((name : List ℕ) → RF name → ⊥) → (Rose (sink.faults old) (sink.faults new) → ⊥) → IsJudged result
accepted_judged sink old new laws told RF words result e a no_read no_write =
    by_end (subst (λ (c : Option Command). EndsAs (StoppedBy sink old new) (RunEnd told RF c) result e.0) a.words_are e.2)
  where
    by_end : EndsAs (StoppedBy sink old new) (RunEnd told RF (Some (Check a.files))) result e.0 → IsJudged result
    by_end (inl r) = end_judged laws told RF no_read a.held a.files a.told_is a.task a.program_fits a.sets_fit a.says result e.0 r
    by_end (inr (inl r)) = absurd (no_write (r.1.failed refl))
    by_end (inr (inr r)) = subst IsJudged (sym r.0) tt
