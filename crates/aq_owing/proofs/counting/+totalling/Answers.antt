use Rattle.std.proofs.Common.{◌≡◌, ◌+◌, ◌-◌, ◌*◌, ◌<◌, true, false, sym, ◌∙◌, subst, arith, length}
use Rattle.aq_prog.specs.Cuts.{has_cut}
use Rattle.aq_sets.specs.Caps.{capped}
use Rattle.aq_owing.specs.Making.{IsTold, with_statements}
use Rattle.aq_owing.proofs.WeightLaws.{weight_of, branch_weight, loop_weight, below_weight, found}
use Rattle.aq_owing.proofs.CountRules.{plain_total, assert_total, loop_total, branch_totals, one_more}
use Rattle.aq_owing.proofs.counting.+totalling.Goals as goal

pub total-totals-turn-requires : goal.total-totals-turn-requires
total-totals-turn-requires t c =
    let x = c.index-body-index.result in
    let below = below_weight c.args.index c.args.body.now x c.requires c.index-body-index.is in
    let inside = loop_weight x _ _ c.in-Loop.inner.now _ c.in-Loop.ensures in
    let less : 2 * weight_of c.in-Loop.inner.now + 1 < t = omega (arith, c.decreases, below, inside) in
    (less, tt)

pub total-totals-first-requires : goal.total-totals-first-requires
total-totals-first-requires t c =
    let x = c.index-body-index.result in
    let below = below_weight c.args.index c.args.body.now x c.requires c.index-body-index.is in
    let inside = branch_weight x _ c.in-Branch.yes.now c.in-Branch.no.now c.in-Branch.ensures.0 in
    let less : 2 * weight_of c.in-Branch.yes.now + 1 < t = omega (arith, c.decreases, below, inside) in
    (less, tt)

pub total-totals-second-requires : goal.total-totals-second-requires
total-totals-second-requires t c =
    let x = c.index-body-index.result in
    let below = below_weight c.args.index c.args.body.now x c.requires c.index-body-index.is in
    let inside = branch_weight x _ c.in-Branch.yes.now c.in-Branch.no.now c.in-Branch.ensures.0 in
    let less : 2 * weight_of c.in-Branch.no.now + 1 < t = omega (arith, c.decreases, below, inside) in
    (less, tt)

pub total-returns-in-Plain : goal.total-returns-in-Plain
total-returns-in-Plain t c = λ s b there e.
    let same = found c.args.body.now c.args.index s c.index-body-index.result there c.index-body-index.is in
    plain_total s _ b (subst (λ x. has_cut x ≡ false) same c.in-Plain.ensures)
    (subst (λ l. IsTold c.with_statements.result (with_statements l b)) (c.alone.ensures s there) (c.with_statements.ensures b e))

pub total-returns-in-Assertion : goal.total-returns-in-Assertion
total-returns-in-Assertion t c = λ s b there e.
    let same = found c.args.body.now c.args.index s c.index-body-index.result there c.index-body-index.is in
    let none : 0 ≡ capped 0 = omega arith in
    assert_total s _ _ _ b (sym same ∙ c.in-Assertion.ensures) (c.cut.ensures b 0 none e)

pub total-returns-in-Loop : goal.total-returns-in-Loop
total-returns-in-Loop t c = λ s b there e.
    let same = found c.args.body.now c.args.index s c.index-body-index.result there c.index-body-index.is in
    let none : 0 ≡ capped 0 = omega arith in
    let one : 1 ≡ capped 1 = omega arith in
    let turn = c.totals-turn.ensures (record { own = 0; times = 1 }) (none, one) in
    loop_total s _ _ c.in-Loop.inner.now _ _ b (sym same ∙ c.in-Loop.ensures) (c.cut-in-Loop.ensures b _ turn.0 e)

pub total-returns-in-Branch : goal.total-returns-in-Branch
total-returns-in-Branch t c = λ s b there e.
    let same = found c.args.body.now c.args.index s c.index-body-index.result there c.index-body-index.is in
    branch_totals s _ c.in-Branch.yes.now c.in-Branch.no.now _ b (sym same ∙ c.in-Branch.ensures.0) (subst (λ x. has_cut x ≡ true) same c.in-Branch.ensures.1)
    (c.branches.ensures _ _ (c.totals-first.ensures b e) (c.totals-second.ensures b e))

pub totals-loop-left-preserved : goal.totals-loop-left-preserved
totals-loop-left-preserved t c =
    let i = c.loop-left.left - 1 in
    let body = c.args.body.now in
    let some = c.loop-left-test.true in
    let within : i < length body = omega (arith, c.loop-left.invariant.within, some) in
    let next : i + 1 ≡ c.loop-left.left = omega (arith, some) in
    record {
      within = omega (arith, c.loop-left.invariant.within);
      counts = λ b e. one_more body i c.total-count.result c.loop-left.count b c.loop-left.left within next c.total-count.ensures (c.loop-left.invariant.counts b e);
    }
