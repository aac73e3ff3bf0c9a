use Rattle.std.proofs.Common.{◌≡◌, ◌+◌, ◌-◌, ap, ◌∙◌, arith, take, drop}
use Rattle.aq_owing.proofs.WeightLaws.{alone_is}
use Rattle.aq_owing.proofs.part.alone.Goals as goal

pub returns : goal.returns
returns c = λ s there.
    let one : c.args.index + 1 - c.args.index ≡ 1 = omega arith in
    ap (λ n. take n (drop c.args.index c.args.body.now)) one ∙ alone_is c.args.body.now c.args.index s there
