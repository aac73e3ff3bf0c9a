use Rattle.std.proofs.Common.{◌≡◌, ◌+◌, ◌*◌, drop, length}
use Rattle.aq_plain.specs.Replaying.{state_of}
use Rattle.aq_plain.proofs.PlayLaws.{LeadsOn, weight, weight_of}
use Rattle.aq_plain.proofs.player.+playing.Given as goal

-- what the statements that are left come to from here, all come to from the start
abbrev pub invariant-play_all-loop-stmt : goal.invariant-play_all-loop-stmt
invariant-play_all-loop-stmt l = record {
  qubits : l.player.vector.qubits ≡ l.fn.player.vector.qubits;
  bits : length l.player.bits ≡ length l.fn.player.bits;
  leads : LeadsOn l.fn.player.vector.qubits l.body (state_of l.fn.player l.fn.outcomes) (drop l.stmt-index l.body) (state_of l.player l.left);
}

-- the statements inside a statement are fewer, and those of a body are counted once more
abbrev pub decreases-play : goal.decreases-play
decreases-play l = 2 * weight l.stmt.now

abbrev pub decreases-play_all : goal.decreases-play_all
decreases-play_all l = 2 * weight_of l.body.now + 1
