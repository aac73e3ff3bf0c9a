use Rattle.std.proofs.Common.{List, ap, ◌∙◌}
use Rattle.aq_sets.specs.declared.sets.NamedSet.{NamedSet}
use Rattle.aq_top.specs.Replay.{set_named}
use Rattle.aq_top.proofs.StateLemmas.{set_there}
use Rattle.aq_top.proofs.state.state_of.Goals as goal

pub qubits-requires-clause-there : goal.qubits-requires-clause-there
qubits-requires-clause-there c =
    set_there c.args.sets.now c.args.name.now c.in-Some.set.now c.requires (c.in-Some.ensures ∙ ap (λ (l : List NamedSet). set_named l c.args.name.now) c.as_slice.ensures)

pub only_vector-requires-clause-there : goal.only_vector-requires-clause-there
only_vector-requires-clause-there c =
    set_there c.args.sets.now c.args.name.now c.in-Some.set.now c.requires (c.in-Some.ensures ∙ ap (λ (l : List NamedSet). set_named l c.args.name.now) c.as_slice.ensures)
