use Rattle.std.proofs.Common.{◌≡◌, ◌+◌, ◌-◌, ◌*◌, ◌<◌, arith}
use Rattle.aq_sets.specs.Caps.{capped}
use Rattle.aq_owing.proofs.WeightLaws.{weight, weight_of, branch_weight, loop_weight, below_weight}
use Rattle.aq_owing.proofs.CountRules.{plain_told, assert_told, loop_told, branch_told}
use Rattle.aq_owing.proofs.counting.+numbering.Goals as goal

pub number-numbers-turn-requires : goal.number-numbers-turn-requires
number-numbers-turn-requires t c =
    let inside = loop_weight c.args.stmt.now _ _ c.in-Loop.body.now _ c.in-Loop.ensures in
    let less : 2 * weight_of c.in-Loop.body.now + 1 < t = omega (arith, c.decreases, inside) in
    (less, tt)

pub number-numbers-first-requires : goal.number-numbers-first-requires
number-numbers-first-requires t c =
    let inside = branch_weight c.args.stmt.now _ c.in-Branch.yes.now c.in-Branch.no.now c.in-Branch.ensures.0 in
    let less : 2 * weight_of c.in-Branch.yes.now + 1 < t = omega (arith, c.decreases, inside) in
    (less, tt)

pub number-numbers-second-requires : goal.number-numbers-second-requires
number-numbers-second-requires t c =
    let inside = branch_weight c.args.stmt.now _ c.in-Branch.yes.now c.in-Branch.no.now c.in-Branch.ensures.0 in
    let less : 2 * weight_of c.in-Branch.no.now + 1 < t = omega (arith, c.decreases, inside) in
    (less, tt)

pub number-returns-in-Plain : goal.number-returns-in-Plain
number-returns-in-Plain t c = λ b e. plain_told c.args.stmt.now c.args.behind b c.in-Plain.ensures e

pub number-returns-in-Assertion : goal.number-returns-in-Assertion
number-returns-in-Assertion t c = λ b e. assert_told c.args.stmt.now _ _ c.args.behind b c.capped_sum.result c.in-Assertion.ensures e c.capped_sum.ensures

pub number-returns-in-Loop : goal.number-returns-in-Loop
number-returns-in-Loop t c = λ b e.
    let one : 1 ≡ capped 1 = omega arith in
    loop_told c.args.stmt.now _ _ c.in-Loop.body.now _ c.args.behind b c.numbers-turn.result c.capped_sum-in-Loop.result c.capped_sum-in-Loop-2.result
    c.in-Loop.ensures e (c.numbers-turn.ensures 1 one) c.capped_sum-in-Loop.ensures c.capped_sum-in-Loop-2.ensures

pub number-returns-in-Branch : goal.number-returns-in-Branch
number-returns-in-Branch t c = λ b e.
    branch_told c.args.stmt.now _ c.in-Branch.yes.now c.in-Branch.no.now b c.numbers-first.result c.numbers-second.result c.capped_sum-in-Branch.result
    c.in-Branch.ensures.0 c.in-Branch.ensures.1 (c.numbers-first.ensures b e) (c.numbers-second.ensures b e) c.capped_sum-in-Branch.ensures

pub numbers-number-count-requires : goal.numbers-number-count-requires
numbers-number-count-requires t c =
    let x = c.index-body-left.result in
    let below = below_weight (c.loop-left.left - 1) c.args.body.now x (omega (arith, c.loop-left-test.true, c.loop-left.invariant.within)) c.index-body-left.is in
    let less : 2 * weight x < t = omega (arith, c.decreases, below) in
    (less, tt)
