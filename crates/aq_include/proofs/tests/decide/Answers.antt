use Rattle.aq_include.proofs.TestLemmas.{fit-two}
use Rattle.aq_include.proofs.tests.decide.Goals as goal

pub include-requires-clause-fits : goal.include-requires-clause-fits
include-requires-clause-fits c =
    fit-two c.one_level.new.store c.one_level-2.new.store c.one_level-3.new.store c.in_ok-left.left c.in_ok-first.first c.in_ok-second.second c.as_slice.result.now
    c.in_ok-left.ensures.fits c.one_level-2.ensures.keeps c.in_ok-first.ensures.fits c.one_level-3.ensures.keeps c.in_ok-second.ensures.fits
    c.in_ok-left.ensures.level c.in_ok-first.ensures.level c.in_ok-second.ensures.level c.as_slice.ensures
