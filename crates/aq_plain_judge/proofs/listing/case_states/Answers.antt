use Rattle.aq_plain_judge.proofs.listing.case_states.Goals as goal

pub returns-in-Err-Wide-clause-err : goal.returns-in-Err-Wide-clause-err
returns-in-Err-Wide-clause-err c =
    let w = rw c.in-Err-Wide.field-0-is at c.in-Err-Wide.ensures in
    record { left = c.in-Err-Wide.field-0-0; right = c.in-Err-Wide.field-0-1; taken = w.1.member; wide = w.1.wide }
