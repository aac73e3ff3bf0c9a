use Rattle.std.proofs.Common.{rules, ◌≡◌, get_or, inr}
use Rattle.aq_symbolic.specs.Memos.{AreFresh}
use Rattle.aq_symbolic.proofs.StockLemmas.{all_set, placed_memos}
use Rattle.aq_symbolic.proofs.stock.Stock.take.Goals as goal

pub returns-in-Some : goal.returns-in-Some
returns-in-Some c =
    let old = c.args.self.now.entries.items in
    let place = c.in-Some.place in
    let entry = c.index_mut.result.now in
    let read : entry ≡ get_or old place entry = search rules in
    let given : c.replace.result ≡ entry.memos = search rules in
    let fresh : AreFresh c.replace.new.dest = search rules in
    record {
      taken = inr (placed_memos c.args.stmt.now c.args.levels old place entry c.replace.result c.in-Some.ensures read given);
      left = all_set (λ e. AreFresh e.memos) old place (record { stmt = entry.stmt; levels = entry.levels; memos = c.replace.new.dest }) fresh;
    }
