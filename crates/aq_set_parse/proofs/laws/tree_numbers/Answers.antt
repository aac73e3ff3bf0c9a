use Rattle.aq_set_parse.proofs.Numbers.{coefs_fit}
use Rattle.aq_set_parse.proofs.laws.tree_numbers.Goals as goal

pub returns : goal.returns
returns c = coefs_fit
