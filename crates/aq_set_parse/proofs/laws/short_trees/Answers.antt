use Rattle.aq_set_parse.proofs.ShortTrees.{few_tokens, short_tree}
use Rattle.aq_set_parse.proofs.laws.short_trees.Goals as goal

pub returns-clause-tokens : goal.returns-clause-tokens
returns-clause-tokens c = few_tokens

pub returns-clause-tree : goal.returns-clause-tree
returns-clause-tree c = short_tree
