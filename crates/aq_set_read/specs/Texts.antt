-- What the text of a set file says.
use Rattle.std.specs.Prelude.{◌≡◌, ℕ, List, Ok, Err}
use Rattle.aq_base.specs.Limits.{most_nested}
use Rattle.aq_set_parse.specs.Cuts.{Reads}
use Rattle.aq_set_parse.specs.Told as lex
use Rattle.aq_set_parse.specs.Pieces.{pieces}
use Rattle.aq_set_parse.specs.SetGrammar.{IsFile}
use Rattle.aq_set_parse.specs.Verdict.{TreeFault}
use Rattle.aq_set_read.specs.Meaning.{sets_of}
use Rattle.aq_set_parse.specs.declared.token.SetToken.{SetToken}
use Rattle.aq_set_parse.specs.declared.tree.SetTree.{SetTree}
use Rattle.aq_sets.specs.declared.sets.Sets.{Sets}
use Rattle.aq_set_parse.specs.declared.fault.SetLexFault.TheVariants as lexed
use Rattle.aq_set_parse.specs.declared.parse_fault.SetParseFault.{SetParseFault}
use Rattle.aq_set_parse.specs.declared.parse_fault.SetParseFault.TheVariants as parsed
use Rattle.aq_set_read.specs.declared.set_fault.SetFault.{SetFault}
use Rattle.aq_set_read.specs.declared.set_fault.SetFault.TheVariants as faults

-- The text's tokens have this tree by the grammar.
pub record HasSetTree (text : List ℕ) (tree : SetTree) : Type 0 where
  pub tokens : List SetToken
  pub cut : Reads text (Ok tokens)
  pub grammar : IsFile most_nested tree (pieces (record { source = text; list = tokens }))

-- The text says these sets and claims: its tree means them.
pub record SaysSets (text : List ℕ) (sets : Sets) : Type 0 where
  pub tree : SetTree
  pub has_tree : HasSetTree text tree
  pub meaning : sets_of tree ≡ Ok sets

-- The text has tokens, of which this is the first fault.
pub record HasTreeFault (text : List ℕ) (f : SetParseFault) : Type 0 where
  pub tokens : List SetToken
  pub cut : Reads text (Ok tokens)
  pub first : TreeFault most_nested f (pieces (record { source = text; list = tokens }))

-- The text has a tree, and this is the first fault of its items.
pub record HasItemFault (text : List ℕ) (f : SetFault) : Type 0 where
  pub tree : SetTree
  pub has_tree : HasSetTree text tree
  pub meaning : sets_of tree ≡ Err f

-- The first fault of a text: of its tokens; or of their tree; or of its items. For want of memory there need be none.
abbrev pub SetFaultOf : List ℕ → SetFault → Type 0
SetFaultOf text (faults.NotUtf8 at) = lex.FaultOf text (lexed.NotUtf8 at)
SetFaultOf text (faults.BadByte at byte) = lex.FaultOf text (lexed.BadByte at byte)
SetFaultOf text (faults.OpenComment at) = lex.FaultOf text (lexed.OpenComment at)
SetFaultOf text (faults.LongNumber at) = lex.FaultOf text (lexed.LongNumber at)
SetFaultOf text (faults.BadKet at) = lex.FaultOf text (lexed.BadKet at)
SetFaultOf text (faults.Unexpected at token) = HasTreeFault text (parsed.Unexpected at token)
SetFaultOf text (faults.TooDeep at) = HasTreeFault text (parsed.TooDeep at)
SetFaultOf text (faults.TooManyNames at) = HasItemFault text (faults.TooManyNames at)
SetFaultOf text (faults.TwiceNamed at) = HasItemFault text (faults.TwiceNamed at)
SetFaultOf text (faults.UnknownSet at) = HasItemFault text (faults.UnknownSet at)
SetFaultOf text (faults.QubitCount at) = HasItemFault text (faults.QubitCount at)
SetFaultOf text (faults.AmpTooWide at) = HasItemFault text (faults.AmpTooWide at)
SetFaultOf text (faults.KetLength at) = HasItemFault text (faults.KetLength at)
SetFaultOf text (faults.RepeatedKet at) = HasItemFault text (faults.RepeatedKet at)
SetFaultOf text (faults.TooManyNodes at) = HasItemFault text (faults.TooManyNodes at)
SetFaultOf text faults.Memory = Unit {0}
