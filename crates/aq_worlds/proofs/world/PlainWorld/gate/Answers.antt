use Rattle.std.proofs.Common.{ap, ◌∙◌}
use Rattle.aq_worlds.specs.Playing.{amps_of}
use Rattle.aq_worlds.proofs.PlayLaws.{gate_on_all}
use Rattle.aq_worlds.proofs.world.PlainWorld.gate.Goals as goal

pub returns-clause-world : goal.returns-clause-world
returns-clause-world c = λ n case on.
    let vectors = ap amps_of c.in_ok-vectors.ensures.ok ∙ gate_on_all n c.args.gate.now c.args.self.vectors.items on in
    λ i. record { case = case; start = c.args.self.start; bits = c.args.self.bits; outcomes = c.args.self.outcomes; vectors = vectors i }
