use Rattle.aq_world.proofs.LinesLemmas.{Added-none}
use Rattle.aq_world.proofs.line.make_room.Goals as goal

pub returns-else-is_full-clause-adds : goal.returns-else-is_full-clause-adds
returns-else-is_full-clause-adds g c = Added-none _ _ _
