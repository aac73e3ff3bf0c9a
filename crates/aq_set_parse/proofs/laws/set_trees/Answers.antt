use Rattle.aq_set_parse.proofs.Judged.{one_tree, one_fault, some_answer}
use Rattle.aq_set_parse.proofs.laws.set_trees.Goals as goal

pub returns-clause-tree : goal.returns-clause-tree
returns-clause-tree c = one_tree

pub returns-clause-fault : goal.returns-clause-fault
returns-clause-fault c = one_fault

pub returns-clause-some : goal.returns-clause-some
returns-clause-some c = some_answer
