use Rattle.std.proofs.Common.{◌∙◌}
use Rattle.aq_plain_judge.proofs.ListingLaws.{claim_is, listed_by}
use Rattle.aq_plain_judge.proofs.listing.goal_case.Goals as goal

pub returns-clause-claim : goal.returns-clause-claim
returns-clause-claim c =
    claim_is c.args.sets.now c.args.case.now (record { when = c.in_ok-when.when; vectors = c.in_ok-vectors.vectors }) (c.in_ok-when.ensures ∙ c.as_slice.ensures) c.in_ok-vectors.ensures.ok

pub returns-clause-on : goal.returns-clause-on
returns-clause-on c = (listed_by c.args.program.now c.args.sets.now c.args.case.now c.in_ok-vectors.vectors c.requires.bound c.in_ok-vectors.ensures.ok).qubits
