use Rattle.aq_set_read.proofs.TextsLaws.{valid_given, fault_given}
use Rattle.aq_set_read.proofs.read.read_sets.Goals as goal

pub returns-clause-valid : goal.returns-clause-valid
returns-clause-valid c = valid_given c.sets_of_tree.result c.args.source.now c.in_ok-tree.tree c.requires c.in_ok-tree.ensures.tree c.sets_of_tree.ensures

pub returns-clause-fault : goal.returns-clause-fault
returns-clause-fault c = fault_given c.sets_of_tree.result c.args.source.now c.in_ok-tree.tree c.in_ok-tree.ensures.tree c.sets_of_tree.ensures
