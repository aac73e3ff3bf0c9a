use Rattle.std.proofs.Common.{arith}
use Rattle.aq_sets.proofs.ToldLaws.{united-later}
use Rattle.aq_sets.proofs.sizes.united_at.Goals as goal

pub returns-else-i-eq0 : goal.returns-else-i-eq0
returns-else-i-eq0 c = let e = united-later c.args.left.now c.args.right.now c.args.i (omega arith) c.requires.same in omega arith
