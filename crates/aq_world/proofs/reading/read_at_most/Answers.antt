use Rattle.std.proofs.Common.{◌≡◌, ◌++◌, take, arith}
use Rattle.std.proofs.lemmas.Grind.{common_steps}
use Rattle.aq_world.proofs.ReadersLemmas.{first-and-one}
use Rattle.aq_world.proofs.reading.read_at_most.Goals as goal
use Rattle.aq_world.proofs.reading.read_at_most.Goals.{then-count-room, else-count-room}

pub returns-then-taken-room-clause-bytes : goal.returns-then-taken-room-clause-bytes
returns-then-taken-room-clause-bytes g c =
    let i = c.loop-count.invariant in
    let e = c.in-Some.ensures in
    let items : c.extend_from_slice.new.self.items ≡ c.loop-count.bytes.items ++ take c.if-count-room.taken c.read.new.buf = grind (arith, common_steps, c.in_ok-map_err.was, c.map_err.ensures, c.extend_from_slice.ensures) in
    elim c.if-count-room.branch [
      | then-count-room w ↦ first-and-one _ _ _ _ _ _ c.in-Some.count c.if-count-room.taken c.args.most i.bytes e.bytes.0 items (omega arith) e.within (omega arith)
      | else-count-room w ↦ absurd (omega arith)
    ]
