use Rattle.std.proofs.Common.{◌≡◌, ◌+◌, arith}
use Rattle.aq_label.proofs.WalkLemmas.{passed_on, step_in_parts, mismatch_in_parts, walked_all_parts}
use Rattle.aq_label.proofs.walk.walk_parts.Goals as goal

pub returns-in_err-walk-clause-walked : goal.returns-in_err-walk-clause-walked
returns-in_err-walk-clause-walked g c = λ u v h.
    let before = c.loop-i.invariant.walked u v h in
    let found = c.in_err-walk.ensures.walked _ _ before in
    passed_on _ _ c.from_residual.result c.in_err-walk.field-0.0 c.from_residual.ensures
    (mismatch_in_parts u v (g.L.Label.parts c.args.left) (g.L.Label.parts c.args.right) c.loop-i.i _ _ _ before.same_length c.part.ensures c.part-in-loop-i.ensures found)

pub loop-i-preserved : goal.loop-i-preserved
loop-i-preserved g c = record {
  walked = λ u v h.
      step_in_parts u v (g.L.Label.parts c.args.left) (g.L.Label.parts c.args.right) c.loop-i.i _ _ c.in_ok-walk.walk c.part.ensures c.part-in-loop-i.ensures (c.in_ok-walk.ensures.walked _ _ (c.loop-i.invariant.walked u v h));
  position =
      let more : c.in_ok-walk.walk.position ≡ c.loop-i.walk.position + 1 = c.in_ok-walk.ensures.position in omega arith;
}

pub returns-clause-walked : goal.returns-clause-walked
returns-clause-walked g c = λ u v h.
    let l = g.met.L.Label.all_parts c.args.left in let r = g.met.L.Label.all_parts c.args.right in
    let n = c.requires.all in
    walked_all_parts u v (g.L.Label.parts c.args.left) (g.L.Label.parts c.args.right) c.loop-i.i c.loop-i.walk (omega arith) (omega arith) (c.loop-i.invariant.walked u v h)
