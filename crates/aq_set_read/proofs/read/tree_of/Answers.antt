use Rattle.aq_set_read.proofs.read.tree_of.Goals as goal

pub returns-in-Err-clause-fault : goal.returns-in-Err-clause-fault
returns-in-Err-clause-fault c = c.fault_of_bytes.ensures c.args.source.now c.in-Err.ensures.fault
