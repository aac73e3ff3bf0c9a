use Rattle.aq_cert.specs.Placed.{IsRelFound}
use Rattle.aq_cert.proofs.PlacedLemmas.{placed-item}
use Rattle.aq_cert.proofs.placed.place_rels.Goals as goal

pub loop-rel-preserved : goal.loop-rel-preserved
loop-rel-preserved c =
    placed-item (IsRelFound c.args.left.now c.args.goals.now) c.args.rels.now c.loop-rel.list c.push.new.self c.loop-rel.rel-index c.rel-item.result c.in_ok-place_rel.field-0 c.loop-rel-test.true c.rel-item.is
    c.loop-rel.invariant c.in_ok-place_rel.ensures c.in_ok-push.ensures.ok
