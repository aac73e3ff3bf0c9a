use Rattle.std.proofs.Common.{◌≡◌, ◌+◌, [], length, refl, arith}
use Rattle.std.proofs.lemmas.Option.{slice_get_read}
use Rattle.aq_label.proofs.WalkLemmas.{passed_on, step_in_parts, mismatch_in_parts, walked_all_parts}
use Rattle.aq_label.proofs.walk.walk_amps.Goals as goal

pub returns-in_err-walk : goal.returns-in_err-walk
returns-in_err-walk c =
    let u = c.args.left.now in
    let v = c.args.right.now in
    let i = c.loop-i.i in
    let left = slice_get_read u (length u) i c.index-left-i.result refl c.loop-i-test.true c.index-left-i.is in
    let right = slice_get_read v (length v) i c.index-right-i.result refl (omega (arith, c.loop-i-test.true, c.requires)) c.index-right-i.is in
    let found = c.in_err-walk.ensures.walked _ _ c.loop-i.invariant.walked in
    passed_on u v c.from_residual.result c.in_err-walk.field-0.0 c.from_residual.ensures
    (mismatch_in_parts [] [] u v i _ _ _ c.loop-i.invariant.walked.same_length left right found)

pub loop-i-preserved : goal.loop-i-preserved
loop-i-preserved c =
    let u = c.args.left.now in
    let v = c.args.right.now in
    let i = c.loop-i.i in
    let left = slice_get_read u (length u) i c.index-left-i.result refl c.loop-i-test.true c.index-left-i.is in
    let right = slice_get_read v (length v) i c.index-right-i.result refl (omega (arith, c.loop-i-test.true, c.requires)) c.index-right-i.is in
    record {
      walked = step_in_parts [] [] u v i _ _ c.in_ok-walk.walk left right (c.in_ok-walk.ensures.walked _ _ c.loop-i.invariant.walked);
      position =
          let more : c.in_ok-walk.walk.position ≡ c.loop-i.walk.position + 1 = c.in_ok-walk.ensures.position in
          let now : c.loop-i.walk.position ≡ i = c.loop-i.invariant.position in
          omega (arith, more, now);
    }

pub returns : goal.returns
returns c = walked_all_parts [] [] c.args.left.now c.args.right.now c.loop-i.i c.loop-i.walk (omega (arith, c.loop-i-test.false)) (omega (arith, c.requires)) c.loop-i.invariant.walked
