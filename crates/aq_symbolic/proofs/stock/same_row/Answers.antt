use Rattle.std.proofs.Common.{rules, ◌<◌, ◌≤◌, length}
use Rattle.aq_symbolic.proofs.StockLemmas.{same_next, same_whole}
use Rattle.aq_symbolic.proofs.stock.same_row.Goals as goal

pub loop-i-preserved : goal.loop-i-preserved
loop-i-preserved c =
    let one = c.args.one.now in
    let other = c.args.other.now in
    let i = c.loop-i.i in
    let within : i < length one = search rules in
    let within_other : i < length other = search rules in
    same_next one other i _ _ within within_other (c.same_entry.ensures c.if-not-same_entry.false) c.loop-i.invariant

pub returns : goal.returns
returns c = λ t.
    let one = c.args.one.now in
    let other = c.args.other.now in
    let past : length one ≤ c.loop-i.i = search rules in
    let past_other : length other ≤ c.loop-i.i = search rules in
    same_whole one other c.loop-i.i past past_other c.loop-i.invariant
