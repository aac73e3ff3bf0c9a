use Rattle.std.proofs.Common.{take}
use Rattle.aq_decide.proofs.SpreadLemmas.{IsDone}
use Rattle.aq_decide.proofs.spread.all_worlds.Given as goal

-- the worlds of the cases so far
abbrev pub invariant-loop-index : goal.invariant-loop-index
invariant-loop-index l = IsDone l.program l.sets l.obligation l.fn.store l.store l.fn.steps l.steps (take l.index l.obligation.from) l.list.items
