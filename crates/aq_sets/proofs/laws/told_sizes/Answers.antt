use Rattle.aq_sets.proofs.CapLaws.{capped-words}
use Rattle.aq_sets.proofs.ToldLaws.{told_everywhere}
use Rattle.aq_sets.proofs.laws.told_sizes.Goals as goal

pub returns : goal.returns
returns c = record { told = record { told = told_everywhere; words_told = λ s. capped-words s.shape } }
