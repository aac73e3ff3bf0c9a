use Rattle.aq_top.proofs.AcceptedLemmas.{accepted_judged}
use Rattle.aq_top.proofs.EndsLemmas.{TextLaws, status_says, at_status, answer_says, replay_tells, report_is_correct}
use Rattle.aq_top.proofs.top.run.Goals as goal

pub returns-clause-report_is_justified : goal.returns-clause-report_is_justified
returns-clause-report_is_justified g c answer =
    let says = status_says _ _ _ _ _ _ _ c.answer.ensures.ends in
    (says.0, says.1, answer_says _ _ _ _ _ _ answer says.2)

pub returns-clause-all_verified_implies_correct : goal.returns-clause-all_verified_implies_correct
returns-clause-all_verified_implies_correct g c good =
    let says = status_says _ _ _ _ _ _ _ c.answer.ensures.ends in
    report_is_correct _ _ _
    (record {
      program = c.program_texts.ensures.one;
      no_program = c.program_texts.ensures.apart;
      valid = c.program_texts.ensures.valid;
      sets = c.set_files.ensures.sets;
      no_sets = c.set_files.ensures.apart;
    }) c.obligations.ensures.correct (at_status _ _ _ _ _ _ _ good says.2)

pub returns-clause-replay_is_the_run : goal.returns-clause-replay_is_the_run
returns-clause-replay_is_the_run g c good =
    let says = status_says _ _ _ _ _ _ _ c.answer.ensures.ends in
    replay_tells _ _ _ _ says.0 says.1 (at_status _ _ _ _ _ _ _ good says.2)

pub returns-clause-usage_has_its_cause : goal.returns-clause-usage_has_its_cause
returns-clause-usage_has_its_cause g c usage =
    let says = status_says _ _ _ _ _ _ _ c.answer.ensures.ends in
    at_status _ _ _ _ _ _ _ usage says.2

pub returns-clause-read_has_its_cause : goal.returns-clause-read_has_its_cause
returns-clause-read_has_its_cause g c read =
    let says = status_says _ _ _ _ _ _ _ c.answer.ensures.ends in
    at_status _ _ _ _ _ _ _ read says.2

pub returns-clause-write_has_its_cause : goal.returns-clause-write_has_its_cause
returns-clause-write_has_its_cause g c write =
    let says = status_says _ _ _ _ _ _ _ c.answer.ensures.ends in
    at_status _ _ _ _ _ _ _ write says.2

pub returns-clause-accepted_files_are_judged : goal.returns-clause-accepted_files_are_judged
returns-clause-accepted_files_are_judged g c asks no_read no_write =
    let laws : TextLaws = record {
      program = c.program_texts.ensures.one;
      no_program = c.program_texts.ensures.apart;
      valid = c.program_texts.ensures.valid;
      sets = c.set_files.ensures.sets;
      no_sets = c.set_files.ensures.apart;
    } in
    accepted_judged _ _ _ laws _ _ _ _ c.answer.ensures.ends asks (λ name h. no_read h.0) no_write
