use Rattle.std.proofs.Common.{arith}
use Rattle.aq_decide.proofs.CertifiedLemmas.{sets_more, sets_whole}
use Rattle.aq_decide.proofs.certified.same_sets.Goals as goal

pub loop-i-preserved : goal.loop-i-preserved
loop-i-preserved c =
    sets_more c.args.ones.now c.args.others.now c.loop-i.i c.index-ones-i.result c.index-others-i.result (omega arith) (omega arith) c.index-ones-i.is c.index-others-i.is (c.same_set.ensures c.if-not-same_set.false) c.loop-i.invariant

pub returns : goal.returns
returns c = λ t. sets_whole c.args.ones.now c.args.others.now c.loop-i.i (omega arith) (omega arith) c.loop-i.invariant
