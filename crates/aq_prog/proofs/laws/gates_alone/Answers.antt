use Rattle.aq_prog.proofs.RunLaws.{gates_alone}
use Rattle.aq_prog.proofs.laws.gates_alone.Goals as goal

pub returns : goal.returns
returns c = record { run = gates_alone }
