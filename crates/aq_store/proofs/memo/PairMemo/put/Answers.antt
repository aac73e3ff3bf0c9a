use Rattle.std.proofs.Common.{rules}
use Rattle.aq_store.specs.Memos.{PutsPair}
use Rattle.aq_store.proofs.MemoLemmas.{stay_done}
use Rattle.aq_store.proofs.memo.PairMemo.put.Goals as goal

pub returns-clause-done : goal.returns-clause-done
returns-clause-done g c =
    let puts : PutsPair c.args.self.now (record { made = c.insert.new.self }) (c.args.left, c.args.right) (c.args.first, c.args.second) = search rules in
    stay_done c.args.self.now (record { made = c.insert.new.self }) (c.args.left, c.args.right) (c.args.first, c.args.second) puts
