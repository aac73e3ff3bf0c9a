use Rattle.aq_store.proofs.StopLemmas.{passed_on}
use Rattle.aq_symbolic.proofs.StopLemmas.{cause_map}
use Rattle.aq_symbolic.proofs.UnfitLemmas.{unfit_set}
use Rattle.aq_symbolic.proofs.kept.World.gate.Goals as goal

pub returns-in_err-lsta-clause-cause : goal.returns-in_err-lsta-clause-cause
returns-in_err-lsta-clause-cause g c =
    passed_on _ c.from_residual.result c.in_err-lsta.field-0.0 c.from_residual.ensures
    (cause_map _ _ (unfit_set g.L.Label.parts g.L.Label.part_count g.met.L.Label.all_parts c.args.gate.now c.args.store.now c.args.self.lsta) _ c.in_err-lsta.ensures.cause)
