use Rattle.aq_judge.proofs.VerdictLaws.{verified}
use Rattle.aq_judge.proofs.verdict.try_judge.Goals as goal

pub returns-in-Ok-Holds-clause-justified : goal.returns-in-Ok-Holds-clause-justified
returns-in-Ok-Holds-clause-justified c =
    let holds = rw c.in-Ok-Holds.field-0-is at c.in-Ok-Holds.ensures.decides in
    verified c.args.program.now c.args.sets.now c.args.obligation.now c.in-Ok-Holds.certs c.worlds.ensures.decide c.requires.asked holds
