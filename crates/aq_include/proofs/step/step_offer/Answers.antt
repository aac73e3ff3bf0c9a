use Rattle.aq_include.proofs.HopelessLemmas.{hopeless}
use Rattle.aq_include.proofs.step.step_offer.Goals as goal

pub returns-in-Some-clause-offer : goal.returns-in-Some-clause-offer
returns-in-Some-clause-offer g c = λ d opened.
    hopeless g.L.Label.parts c.args.store.now d c.args.choice c.args.rel.now c.args.opened.now opened c.in-Some.ensures.apart
