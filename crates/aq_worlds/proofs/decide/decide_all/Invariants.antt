use Rattle.aq_worlds.specs.Starting.{Decides, asked_bits}
use Rattle.aq_worlds.proofs.decide.decide_all.Given as goal

-- the worlds are split at the bits so far
abbrev pub invariant-loop-bit : goal.invariant-loop-bit
invariant-loop-bit l = Decides (asked_bits l.cases l.bit) l.fn.worlds.items l.left.items
