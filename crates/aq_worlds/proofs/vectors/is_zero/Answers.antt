use Rattle.aq_worlds.proofs.ZeroLaws.{zero_told}
use Rattle.aq_worlds.proofs.vectors.is_zero.Goals as goal

pub returns : goal.returns
returns c = zero_told _ _ c.is_zero.ensures
