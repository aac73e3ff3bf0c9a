use Rattle.std.proofs.Common.{to_z-of_z, FitsSigned}
use Rattle.std.specs.Int.{w128}
use Rattle.aq_ring.proofs.GatheredLemmas.{gathered-exact}
use Rattle.aq_ring.proofs.quad.Quad.new.Goals as goal

pub returns : goal.returns
returns c =
    let fa : FitsSigned w128 c.args.a = c.ranges.a in
    let fb : FitsSigned w128 c.args.b = c.ranges.b in
    let fc : FitsSigned w128 c.args.c = c.ranges.c in
    let fd : FitsSigned w128 c.args.d = c.ranges.d in
    gathered-exact _ _ _ _ _ _ _ _ _ (simp to_z-of_z at c.new.ensures) (simp to_z-of_z at c.new-2.ensures) (simp to_z-of_z at c.new-3.ensures) (simp to_z-of_z at c.new-4.ensures) c.gather.ensures
