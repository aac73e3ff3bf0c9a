use Rattle.std.proofs.Common.{arith}
use Rattle.aq_sets.proofs.SizeLaws.{has_count}
use Rattle.aq_set_build.proofs.CoverLemmas.{valid_exprs, covered}
use Rattle.aq_set_build.proofs.laws.words.Goals as goal

pub returns : goal.returns
returns c = record {
  words = record {
    reached = λ s valid i within k lt.
        let v = valid_exprs s valid in
        covered s.exprs v i within k (let n = has_count s.exprs v i within in omega arith);
  };
}
