use Rattle.std.proofs.Common.{ap, ◌∙◌}
use Rattle.aq_worlds.specs.Playing.{amps_of}
use Rattle.aq_worlds.proofs.PlayLaws.{half_of_all}
use Rattle.aq_worlds.proofs.world.PlainWorld.take_outcome.Goals as goal

pub returns-clause-world : goal.returns-clause-world
returns-clause-world c = λ n case on.
    let vectors = ap amps_of c.in_ok-vectors.ensures ∙ half_of_all n c.args.qubit c.args.outcome c.args.self.vectors.items on in
    λ i. record { case = case; start = c.args.self.start; bits = c.store-bits.ensures i; outcomes = c.in_ok-push.ensures.ok i; vectors = vectors i }
