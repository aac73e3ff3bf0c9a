use Rattle.std.proofs.Common.{◌≡◌, drop}
use Rattle.aq_set_read.specs.Meaning.{items_taken}
use Rattle.aq_set_read.proofs.meaning.items.Given as goal

abbrev pub invariant-loop-next : goal.invariant-loop-next
invariant-loop-next l = items_taken (drop l.next-index l.items) l.collector ≡ items_taken l.items l.fn.collector
