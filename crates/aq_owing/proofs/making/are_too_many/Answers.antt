use Rattle.std.proofs.Common.{◌≡◌, ap, ◌∙◌, arith}
use Rattle.aq_sets.specs.Caps.{capped}
use Rattle.aq_obligations.specs.OwingCounts.{totals}
use Rattle.aq_owing.proofs.MadeLaws.{too_many_told}
use Rattle.aq_owing.proofs.making.are_too_many.Goals as goal

pub returns : goal.returns
returns c =
    let none : 0 ≡ capped 0 = omega arith in
    let one : 1 ≡ capped 1 = omega arith in
    let own = (c.totals-total.ensures (record { own = 0; times = 1 }) (none, one)).0 in
    c.exceeds.ensures
    ∙ too_many_told c.args.program.now c.args.claims.now c.count-number.result c.totals-total.result.own c.obligations.ensures.count c.count-number.ensures
    (own ∙ ap (λ b. capped (totals b (record { own = 0; times = 1 })).own) c.as_slice.ensures)
