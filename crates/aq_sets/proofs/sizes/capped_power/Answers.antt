use Rattle.std.proofs.Common.{◌∙◌}
use Rattle.aq_sets.proofs.CapLaws.{power_none, power_more}
use Rattle.aq_sets.proofs.sizes.capped_power.Goals as goal

pub loop-i-init : goal.loop-i-init
loop-i-init c = power_none c.args.base

pub loop-i-preserved : goal.loop-i-preserved
loop-i-preserved c = c.capped_product-power.ensures ∙ power_more c.args.base c.loop-i.i c.loop-i.power c.loop-i.invariant
