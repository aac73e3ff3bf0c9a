use Rattle.aq_obligations.specs.Enough.{enough}
use Rattle.aq_plain_judge.proofs.verdict.judge_by_sizes.Goals as goal

pub returns-in-Ok-clause-justified : goal.returns-in-Ok-clause-justified
returns-in-Ok-clause-justified c = c.in-Ok.ensures.ok c.args.limit (enough c.args.program.now c.args.sets.now c.args.obligation.now)
