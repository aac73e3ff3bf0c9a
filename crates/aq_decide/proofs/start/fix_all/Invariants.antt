use Rattle.std.proofs.Common.{◌≡◌, drop}
use Rattle.aq_obligations.specs.Worlds.{fixing}
use Rattle.aq_decide.proofs.start.fix_all.Given as goal

-- what the guards that are left make of the bits of now, all make of the first
abbrev pub invariant-loop-guard : goal.invariant-loop-guard
invariant-loop-guard l = fixing l.guards l.fn.bits ≡ fixing (drop l.guard-index l.guards) l.left
