use Rattle.aq_set_build.specs.Built.{built_at}
use Rattle.aq_set_build.proofs.BuiltLemmas.{build_memo-none}
use Rattle.aq_set_build.proofs.building.build.Goals as goal

pub build_with-requires-clause-memo : goal.build_with-requires-clause-memo
build_with-requires-clause-memo c = build_memo-none c.args.sets.now.exprs c.args.store.now (built_at c.new-memo.result) c.new-memo.ensures
