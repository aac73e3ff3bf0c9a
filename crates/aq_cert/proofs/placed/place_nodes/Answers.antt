use Rattle.aq_cert.specs.Placed.{IsFound}
use Rattle.aq_cert.proofs.PlacedLemmas.{placed-more}
use Rattle.aq_cert.proofs.placed.place_nodes.Goals as goal

pub loop-node-preserved : goal.loop-node-preserved
loop-node-preserved c =
    placed-more (IsFound c.args.index.now) c.args.nodes.now c.loop-node.places c.push.new.self c.loop-node.node-index 0 c.place_of.result c.loop-node-test.true c.loop-node.invariant c.place_of.ensures
    c.in_ok-push.ensures.ok
