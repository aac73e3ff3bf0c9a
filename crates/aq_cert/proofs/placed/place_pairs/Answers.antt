use Rattle.std.proofs.Common.{rules}
use Rattle.aq_cert.specs.Placed.{IsPairFound}
use Rattle.aq_cert.proofs.PlacedLemmas.{placed-more}
use Rattle.aq_cert.proofs.placed.place_pairs.Goals as goal

pub loop-first-preserved : goal.loop-first-preserved
loop-first-preserved c =
    placed-more (IsPairFound c.args.left.now c.args.right.now) c.args.nodes.now c.loop-first.places c.push.new.self c.loop-first.first-index (0, 0) (c.place_of.result, c.place_of-in-loop-first.result) c.loop-first-test.true
    c.loop-first.invariant (search rules) c.in_ok-push.ensures.ok
