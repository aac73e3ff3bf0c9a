use Rattle.aq_obligations.specs.Asking.{case_of, meaning_of}
use Rattle.aq_plain_judge.specs.Listing.{claims_of}
use Rattle.aq_plain_judge.proofs.JudgeLaws.{alive_there, kept_all, kept_more, refuted_here, wide_here, world_played}
use Rattle.aq_plain_judge.proofs.worlds.judge_worlds.Goals as goal

pub returns-in-Unclear-clause-err : goal.returns-in-Unclear-clause-err
returns-in-Unclear-clause-err c =
    wide_here c.args.program.now c.args.sets.now c.args.obligation.now c.args.case.now c.args.goal.now c.args.worlds.now c.loop-world.world-index c.world-item.result c.loop-world-test.true c.world-item.is c.requires.asked c.requires.goal
    c.requires.listed c.requires.played c.in-Unclear.ensures

pub refutation-requires-clause-played : goal.refutation-requires-clause-played
refutation-requires-clause-played c =
    world_played c.args.program.now c.args.sets.now c.args.obligation.now c.args.case.now c.args.goal.now c.args.worlds.now c.loop-world.world-index c.world-item.result c.loop-world-test.true c.world-item.is c.requires.listed
    c.requires.played

pub refutation-requires-clause-alive : goal.refutation-requires-clause-alive
refutation-requires-clause-alive c = alive_there (case_of c.args.sets.now c.args.case.now) c.world-item.result (claims_of c.args.goal.now) c.in-Lost.place c.in-Lost.ensures

pub returns-in-Lost-clause-ok : goal.returns-in-Lost-clause-ok
returns-in-Lost-clause-ok c =
    refuted_here c.args.program.now c.args.sets.now c.args.obligation.now c.args.case.now c.args.goal.now c.args.worlds.now c.loop-world.world-index c.world-item.result c.loop-world-test.true c.world-item.is c.requires.goal
    c.requires.played c.in-Lost.place c.in_ok-shown-in-Lost.shown c.in-Lost.ensures c.loop-world.invariant c.in_ok-shown-in-Lost.ensures.ok

pub loop-world-preserved : goal.loop-world-preserved
loop-world-preserved c =
    kept_more c.args.program.now c.args.sets.now c.args.obligation.now c.args.case.now c.args.goal.now c.args.worlds.now c.loop-world.world-index c.world-item.result c.loop-world-test.true c.world-item.is c.requires.goal c.in-Kept.ensures
    c.loop-world.invariant

pub returns-clause-ok : goal.returns-clause-ok
returns-clause-ok c =
    kept_all (meaning_of c.args.program.now c.args.sets.now c.args.obligation.now) (case_of c.args.sets.now c.args.case.now) c.args.worlds.now c.loop-world.world-index c.requires.played c.loop-world-test.false c.loop-world.invariant
