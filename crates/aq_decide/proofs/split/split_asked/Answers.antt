use Rattle.std.proofs.Common.{rules, ◌≡◌, refl, sym, ◌∙◌, length, arith}
use Rattle.aq_store.proofs.StopLemmas.{GivesUp-within, passed_on}
use Rattle.aq_decide.specs.Budgets.{split_budget}
use Rattle.aq_decide.proofs.FewLemmas.{split_left, split_longer}
use Rattle.aq_decide.proofs.SplitLemmas.{decided_split, decided_same}
use Rattle.aq_decide.proofs.split.split_asked.Goals as goal

pub overflow_sub-len : goal.overflow_sub-len
overflow_sub-len c =
    let ws = c.args.worlds.items in
    let list = c.in-Ok.list.items in
    let before : c.len-before.result ≡ length ws = search rules in
    let now : c.len.result ≡ length list = search rules in
    let longer = split_longer c.args.bit ws list c.in-Ok.ensures in
    omega (arith, before, now, longer)

pub returns-in_err-pay-clause-cheap : goal.returns-in_err-pay-clause-cheap
returns-in_err-pay-clause-cheap c =
    let ws = c.args.worlds.items in
    let list = c.in-Ok.list.items in
    let before : c.len-before.result ≡ length ws = search rules in
    let now : c.len.result ≡ length list = search rules in
    let longer = split_longer c.args.bit ws list c.in-Ok.ensures in
    let asked = sym c.any_asks.ensures ∙ c.if-any_asks.true in
    let left = split_left c.args.cases.now c.args.bit ws list asked c.in-Ok.ensures in
    omega (arith, before, now, longer, left, c.pay.ensures.cheap)

pub returns-in_err-pay-clause-stops : goal.returns-in_err-pay-clause-stops
returns-in_err-pay-clause-stops c =
    let ws = c.args.worlds.items in
    let list = c.in-Ok.list.items in
    let before : c.len-before.result ≡ length ws = search rules in
    let now : c.len.result ≡ length list = search rules in
    let longer = split_longer c.args.bit ws list c.in-Ok.ensures in
    let asked = sym c.any_asks.ensures ∙ c.if-any_asks.true in
    let left = split_left c.args.cases.now c.args.bit ws list asked c.in-Ok.ensures in
    passed_on _ c.from_residual.result c.in_err-pay.field-0.0 c.from_residual.ensures
    (GivesUp-within c.args.steps.now c.args.steps.now c.pay.new.steps _ (split_budget c.args.cases.now ws) c.in_err-pay.field-0.0 refl (omega (arith, before, now, longer, left)) c.in_err-pay.ensures.refused)

pub returns-then-any_asks-clause-decided : goal.returns-then-any_asks-clause-decided
returns-then-any_asks-clause-decided c = decided_split c.args.cases.now c.args.bit c.args.worlds.items c.in-Ok.list.items (sym c.any_asks.ensures ∙ c.if-any_asks.true) c.in-Ok.ensures

pub returns-then-any_asks-clause-left : goal.returns-then-any_asks-clause-left
returns-then-any_asks-clause-left c =
    let ws = c.args.worlds.items in
    let list = c.in-Ok.list.items in
    let before : c.len-before.result ≡ length ws = search rules in
    let now : c.len.result ≡ length list = search rules in
    let longer = split_longer c.args.bit ws list c.in-Ok.ensures in
    let asked = sym c.any_asks.ensures ∙ c.if-any_asks.true in
    let left = split_left c.args.cases.now c.args.bit ws list asked c.in-Ok.ensures in
    omega (arith, before, now, longer, left, c.pay.ensures.cheap)

pub returns-then-any_asks-clause-cheap : goal.returns-then-any_asks-clause-cheap
returns-then-any_asks-clause-cheap c =
    let ws = c.args.worlds.items in
    let list = c.in-Ok.list.items in
    let before : c.len-before.result ≡ length ws = search rules in
    let now : c.len.result ≡ length list = search rules in
    let longer = split_longer c.args.bit ws list c.in-Ok.ensures in
    let asked = sym c.any_asks.ensures ∙ c.if-any_asks.true in
    let left = split_left c.args.cases.now c.args.bit ws list asked c.in-Ok.ensures in
    omega (arith, before, now, longer, left, c.pay.ensures.cheap)

pub returns-clause-decided : goal.returns-clause-decided
returns-clause-decided c = decided_same c.args.cases.now c.args.bit c.args.worlds.items (sym c.any_asks.ensures ∙ c.if-any_asks.false)
