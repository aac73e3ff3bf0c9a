use Rattle.aq_worlds.proofs.SeveralLaws.{played_given}
use Rattle.aq_worlds.proofs.several.play_gate.Goals as goal

pub returns-clause-ok : goal.returns-clause-ok
returns-clause-ok c = λ n m case s.
    played_given n m c.args.gate.now case c.args.world c.in_ok-after.after c.in_ok-left.left.items _ s (c.in_ok-after.ensures.world n case) c.in_ok-after.ensures.vectors c.in_ok-left.ensures c.in_ok-list.ensures
