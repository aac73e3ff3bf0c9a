use Rattle.std.proofs.Common.{◌∙◌, length, ap, arith}
use Rattle.aq_sets.specs.Caps.{capped}
use Rattle.aq_obligations.specs.Enough.{words_of}
use Rattle.aq_obligations.specs.declared.bound.BoundCase.{BoundCase}
use Rattle.aq_obligations.proofs.StepLaws.{sum_more, words_told, case_within}
use Rattle.aq_obligations.proofs.steps.words_in.Goals as goal

pub loop-case-preserved : goal.loop-case-preserved
loop-case-preserved c =
    let i = c.loop-case.case-index in
    let cases = c.args.cases.now in
    let within = case_within (length c.args.sizes.now) cases i c.case-item.result c.loop-case-test.true c.case-item.is c.requires in
    record {
      told = omega (arith, c.capped_sum-sum.ensures);
      whole = λ s e.
          let one = words_told s c.args.sizes.now c.case-item.result c.index-sizes-case.result c.words.result e within c.index-sizes-case.is c.words.ensures in
          sum_more (words_of s) cases i c.case-item.result c.loop-case.sum c.words.result c.capped_sum-sum.result _ c.loop-case-test.true
          (one ∙ ap (λ (k : BoundCase). capped (words_of s k)) c.case-item.is) c.capped_sum-sum.ensures (c.loop-case.invariant.whole s e);
    }
