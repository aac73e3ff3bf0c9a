use Rattle.aq_include.proofs.TestLemmas.{fit-one}
use Rattle.aq_include.proofs.tests.decide_two.Goals as goal

pub include-requires-clause-fits : goal.include-requires-clause-fits
include-requires-clause-fits c =
    fit-one c.two_levels.new.store c.two_levels-2.new.store c.in_ok-left.left c.in_ok-goal.goal c.as_slice.result.now
    c.in_ok-left.ensures.fits c.two_levels-2.ensures.keeps c.in_ok-goal.ensures.fits c.in_ok-left.ensures.level c.in_ok-goal.ensures.level c.as_slice.ensures
