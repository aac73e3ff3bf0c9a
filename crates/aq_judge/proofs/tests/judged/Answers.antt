use Rattle.aq_judge.proofs.ExampleLaws.{bound}
use Rattle.aq_judge.proofs.tests.judged.Goals as goal

pub judge-requires-clause-asked : goal.judge-requires-clause-asked
judge-requires-clause-asked c =
    let p = c.in_ok-program.program in
    let s = c.in_ok-sets.sets in
    let sizes = c.in_ok-program.ensures.sizes in
    record {
      program = c.in_ok-program.ensures.valid;
      sets = c.in_ok-sets.ensures.valid;
      bound = bound c.args.amp p s c.args.obligation.now c.in_ok-sets.ensures.exprs sizes.0 sizes.1 sizes.2 c.requires.small;
    }
