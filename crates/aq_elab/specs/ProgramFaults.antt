-- The first fault of a program's text: when the text has it, its name, its place and its word.
use Rattle.std.specs.Prelude.{◌≡◌, ℕ, List, Option, Some, None, Ok}
use Rattle.aq_base.specs.Limits.{most_nested}
use Rattle.aq_lex.specs.Cuts.{Reads}
use Rattle.aq_lex.specs.FaultNames as lexed
use Rattle.aq_lex.specs.Told as lex
use Rattle.aq_lex.specs.declared.fault.LexFault.TheVariants as token
use Rattle.aq_lex.specs.declared.place.Place.{Place}
use Rattle.aq_lex.specs.declared.token.Token.{Token}
use Rattle.aq_parse.specs.FaultNames as parsed
use Rattle.aq_parse.specs.Pieces.{pieces}
use Rattle.aq_parse.specs.Verdict as parse
use Rattle.aq_parse.specs.declared.fault.ParseFault.{ParseFault}
use Rattle.aq_parse.specs.declared.fault.ParseFault.TheVariants as tree
use Rattle.aq_elab.specs.FaultNames as meant
use Rattle.aq_elab.specs.Texts.{SaysNoProgram}
use Rattle.aq_elab.specs.declared.fault.ElabFault.TheVariants as elab
use Rattle.aq_elab.specs.declared.program.ProgramFault.{ProgramFault}
use Rattle.aq_elab.specs.declared.program.ProgramFault.TheVariants as fault

-- The text has tokens, of which this is the first fault.
pub record HasParseFault (text : List ℕ) (f : ParseFault) : Type 0 where
  pub tokens : List Token
  pub cut : Reads text (Ok tokens)
  pub first : parse.FaultOf most_nested f (pieces (record { source = text; list = tokens }))

-- The text says no program: this is the first fault of its tokens; or it has tokens, and this is the first fault of their
-- tree; or it has a tree, and this is the first fault of its meaning. For want of memory there need be none.
abbrev pub HasProgramFault : List ℕ → ProgramFault → Type 0
HasProgramFault text (fault.Lex f) = lex.FaultOf text f
HasProgramFault text (fault.Parse f) = HasParseFault text f
HasProgramFault text (fault.Elab f) = (f ≡ elab.Memory → ⊥) → SaysNoProgram text f

-- want of memory, which says nothing of the text
abbrev pub IsMemory : ProgramFault → Type 0
IsMemory (fault.Lex f) = f ≡ token.Memory
IsMemory (fault.Parse f) = f ≡ tree.Memory
IsMemory (fault.Elab f) = f ≡ elab.Memory

-- its name
abbrev pub fault_name : ProgramFault → List ℕ
fault_name (fault.Lex f) = lexed.fault_name f
fault_name (fault.Parse f) = parsed.fault_name f
fault_name (fault.Elab f) = meant.fault_name f

-- its place; want of memory has none
abbrev pub fault_place : ProgramFault → Option Place
fault_place (fault.Lex f) = lexed.fault_place f
fault_place (fault.Parse f) = parsed.fault_place f
fault_place (fault.Elab f) = meant.fault_place f

-- the word that isn't taken
abbrev pub fault_word : ProgramFault → Option (List ℕ)
fault_word (fault.Parse (tree.NotTaken at word)) = Some word
fault_word _ = None
