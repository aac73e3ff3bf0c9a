use Rattle.std.proofs.Common.{◌∙◌}
use Rattle.aq_obligations.proofs.StepLaws.{steps_told}
use Rattle.aq_obligations.proofs.steps.steps_by.Goals as goal

pub returns : goal.returns
returns c = λ e W L V X splits from statements goal weights.
    c.capped_product-2.ensures ∙ steps_told c.args.qubits e W L V X _ _ _ _ _ _ _ _ _ _ _ _ c.requires (c.power_of_two.ensures e splits) from statements goal weights
    c.twice_entries-entries.ensures c.capped_product-worlds.ensures c.capped_product.ensures c.capped_sum.ensures c.capped_product-runs.ensures c.capped_product-builds.ensures c.capped_sum-2.ensures
