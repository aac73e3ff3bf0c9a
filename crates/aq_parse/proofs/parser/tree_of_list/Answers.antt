use Rattle.aq_base.specs.Limits.{most_nested}
use Rattle.aq_parse.proofs.Judged.{tree_found, tree_only, no_other, tree_fault}
use Rattle.aq_parse.proofs.parser.tree_of_list.Goals as goal

pub returns-in-Ok-clause-tree : goal.returns-in-Ok-clause-tree
returns-in-Ok-clause-tree c = tree_found most_nested c.args.list.now c.in-Ok.tree c.in-Ok.ensures

pub returns-in-Ok-clause-only : goal.returns-in-Ok-clause-only
returns-in-Ok-clause-only c = tree_only most_nested c.args.list.now c.in-Ok.tree c.in-Ok.ensures

pub returns-in-Err-At-clause-only : goal.returns-in-Err-At-clause-only
returns-in-Err-At-clause-only c = no_other most_nested c.args.list.now c.in-Err-At.rest.now c.in-Err-At.fault c.told.result (rw c.in-Err-At.field-0-is at c.in-Err-At.ensures)

pub returns-in-Err-At-clause-fault : goal.returns-in-Err-At-clause-fault
returns-in-Err-At-clause-fault c = tree_fault most_nested c.args.list.now c.in-Err-At.rest.now c.in-Err-At.fault c.told.result c.requires (rw c.in-Err-At.field-0-is at c.in-Err-At.ensures) c.told.ensures
