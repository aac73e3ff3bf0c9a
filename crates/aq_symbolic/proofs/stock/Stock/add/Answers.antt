use Rattle.std.proofs.Common.{rules, ◌≡◌, ◌∷◌, [], ◌++◌, refl, sym, subst, List}
use Rattle.aq_symbolic.specs.Memos.{ArePut, entry}
use Rattle.aq_symbolic.specs.declared.stock.StmtMemos.{StmtMemos}
use Rattle.aq_symbolic.proofs.StockLemmas.{all_pushed, entry_is}
use Rattle.aq_symbolic.proofs.stock.Stock.add.Goals as goal

pub returns : goal.returns
returns c =
    let old = c.args.self.now.entries.items in
    let added : StmtMemos = record { stmt = c.in-Some.copy; levels = c.args.levels; memos = c.args.memos } in
    let pushed : c.push.new.self.items ≡ old ++ added ∷ [] = search rules in
    let copied : c.in-Some.copy ≡ c.args.stmt.now = search rules in
    subst (λ (l : List StmtMemos). ArePut c.args.stmt.now c.args.levels c.args.memos old l) (sym pushed)
    (all_pushed (λ e. e ≡ entry c.args.stmt.now c.args.levels c.args.memos) old added (entry_is added c.args.stmt.now c.args.levels refl copied))
