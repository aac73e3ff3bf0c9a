-- What the text of a program says.
use Rattle.std.specs.Prelude.{◌≡◌, ℕ, List, Ok, Err}
use Rattle.aq_base.specs.Limits.{most_nested}
use Rattle.aq_lex.specs.Cuts.{Reads}
use Rattle.aq_lex.specs.declared.token.Token.{Token}
use Rattle.aq_parse.specs.Pieces.{pieces}
use Rattle.aq_parse.specs.Grammar.{IsProgram}
use Rattle.aq_parse.specs.declared.tree.Tree.{Tree}
use Rattle.aq_prog.specs.declared.program.Program.{Program}
use Rattle.aq_elab.specs.Elaborated.{elaborated}
use Rattle.aq_elab.specs.declared.fault.ElabFault.{ElabFault}

-- The text's tokens have this tree by the grammar.
pub record HasTree (text : List ℕ) (tree : Tree) : Type 0 where
  pub tokens : List Token
  pub cut : Reads text (Ok tokens)
  pub grammar : IsProgram most_nested tree (pieces (record { source = text; list = tokens }))

-- The text says this program: its tree means it.
pub record SaysProgram (text : List ℕ) (program : Program) : Type 0 where
  pub tree : Tree
  pub has_tree : HasTree text tree
  pub meaning : elaborated tree ≡ Ok program

-- The text has a tree, whose first fault this is.
pub record SaysNoProgram (text : List ℕ) (fault : ElabFault) : Type 0 where
  pub tree : Tree
  pub has_tree : HasTree text tree
  pub meaning : elaborated tree ≡ Err fault
