use Rattle.std.proofs.Common.{◌≡◌, ◌+◌, arith, sym}
use Rattle.aq_label.proofs.WalkLemmas.{passed_on, walked_more, mismatch_in_all}
use Rattle.aq_label.proofs.walk.walk_all.Goals as goal

pub walk_parts-requires : goal.walk_parts-requires
walk_parts-requires g c =
    let lt = c.loop-left-test.true in
    let le = c.loop-left.invariant.position in
    record { all = c.part_count-count.ensures; room = omega arith }

pub returns-in_err-walk : goal.returns-in_err-walk
returns-in_err-walk g c =
    let found = c.in_err-walk.ensures.walked _ _ c.loop-left.invariant.walked in
    passed_on _ _ c.from_residual.result c.in_err-walk.field-0.0 c.from_residual.ensures
    (mismatch_in_all g.L.Label.parts g.L.Label.part_count g.met.L.Label.all_parts c.args.pairs.now c.loop-left.left-index c.loop-left-item.result c.in_err-walk.field-0.0 c.loop-left-test.true (sym c.loop-left-item.is) found)

pub loop-left-preserved : goal.loop-left-preserved
loop-left-preserved g c =
    let more : c.in_ok-walk.walk.position ≡ c.loop-left.walk.position + c.part_count-count.result = c.in_ok-walk.ensures.position in
    let le = c.loop-left.invariant.position in
    record {
      walked = walked_more g.L.Label.parts c.args.pairs.now c.loop-left.left-index c.loop-left-item.result c.in_ok-walk.walk c.loop-left-test.true (sym c.loop-left-item.is) (c.in_ok-walk.ensures.walked _ _ c.loop-left.invariant.walked);
      position = omega arith;
    }
