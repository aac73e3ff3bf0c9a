use Rattle.aq_owing.proofs.BoundLaws.{short_registers, are_bound}
use Rattle.aq_owing.proofs.bind.ask.Goals as goal

pub look_up-requires-clause-short : goal.look_up-requires-clause-short
look_up-requires-clause-short c = short_registers c.args.program.now c.requires.program

pub returns-clause-bound : goal.returns-clause-bound
returns-clause-bound c =
    are_bound c.args.program.now c.args.sets.now c.args.pre.now c.args.post.now c.look_up.result c.requires.program c.requires.sets c.look_up.ensures
