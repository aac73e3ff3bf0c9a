use Rattle.std.proofs.Common.{All, sym, subst}
use Rattle.aq_obligations.specs.Bound.{IsBoundObligation}
use Rattle.aq_owing.proofs.MadeLaws.{obligations_bound}
use Rattle.aq_owing.proofs.making.make.Goals as goal

pub returns-clause-bound : goal.returns-clause-bound
returns-clause-bound c =
    let laws = c.obligations.ensures in
    subst (All (IsBoundObligation c.args.program.now c.args.sets.now)) (sym c.in_ok-list.ensures)
    (obligations_bound c.args.program.now c.args.sets.now c.in_ok-claims.claims c.requires.program c.in_ok-claims.ensures.bound laws.valid laws.fragments laws.claimed)
