use Rattle.aq_cert.specs.Placed.{IsMacroFound}
use Rattle.aq_cert.proofs.PlacedLemmas.{placed-item}
use Rattle.aq_cert.proofs.placed.place_row.Goals as goal

pub loop-here-preserved : goal.loop-here-preserved
loop-here-preserved c =
    placed-item (IsMacroFound c.args.left.now c.args.goals.now) c.args.row.now c.loop-here.list c.push.new.self c.loop-here.here-index c.here-item.result c.in_ok-place_macro.field-0 c.loop-here-test.true c.here-item.is
    c.loop-here.invariant c.in_ok-place_macro.ensures c.in_ok-push.ensures.ok
