use Rattle.aq_label.proofs.RatioLemmas.{one_ratio}
use Rattle.aq_label.proofs.laws.one_ratio.Goals as goal

pub returns : goal.returns
returns c = one_ratio
