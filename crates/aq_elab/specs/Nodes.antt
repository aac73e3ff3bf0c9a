-- What a node means.
use Rattle.std.specs.Prelude.{Bool}
use Rattle.aq_parse.specs.declared.tree.Node.{Node}
use Rattle.aq_parse.specs.declared.tree.Node.TheFolds.{fold-Node}
use Rattle.aq_elab.specs.Statements.{NodeMeaning, Meaning, node_step, item_step}

abbrev pub meaning_of : Node → NodeMeaning
meaning_of = fold-Node NodeMeaning Meaning node_step item_step

abbrev pub is_loop : Node → Bool
is_loop node = (meaning_of node).is_loop

abbrev pub is_declaration : Node → Bool
is_declaration node = (meaning_of node).is_declaration
