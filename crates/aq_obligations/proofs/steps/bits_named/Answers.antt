use Rattle.std.proofs.Common.{ℕ, ◌+◌, ◌∙◌, ap, arith}
use Rattle.std.specs.Prelude.{if◌then◌else◌, Bool}
use Rattle.aq_obligations.specs.Counting.{is_named_in}
use Rattle.aq_obligations.proofs.StepLaws.{count_more, one_few}
use Rattle.aq_obligations.proofs.steps.bits_named.Goals as goal

pub loop-bit-preserved : goal.loop-bit-preserved
loop-bit-preserved c =
    let one = c.one_if-count.ensures ∙ ap (λ (b : Bool). if b then 1 else 0) c.is_bit_named.ensures in
    record {
      few = omega (arith, c.one_if-count.ensures, one_few c.is_bit_named.result, c.loop-bit.invariant.few);
      counted = ap (λ (k : ℕ). c.loop-bit.count + k) one
          ∙ count_more (λ bit. is_named_in bit c.args.obligation.now) c.loop-bit.bit c.loop-bit.count c.loop-bit.invariant.counted;
    }
