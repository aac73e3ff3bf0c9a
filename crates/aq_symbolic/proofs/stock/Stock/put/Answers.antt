use Rattle.std.proofs.Common.{rules, ◌≡◌, get_or}
use Rattle.aq_symbolic.proofs.StockLemmas.{placed_put}
use Rattle.aq_symbolic.proofs.stock.Stock.put.Goals as goal

pub returns-in-Some : goal.returns-in-Some
returns-in-Some c =
    let old = c.args.self.now.entries.items in
    let entry = c.index_mut.result.now in
    let read : entry ≡ get_or old c.in-Some.place entry = search rules in
    placed_put c.args.stmt.now c.args.levels old c.in-Some.place entry c.args.memos c.in-Some.ensures read
