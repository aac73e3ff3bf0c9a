-- What a parser answers: the tree of a list, or the first token at which the list goes wrong.
use Rattle.std.specs.Prelude.{◌≡◌, ℕ, List, [], ◌∷◌, ◌++◌, Option, Some, None, Result, Ok, Err, true}
use Rattle.aq_grammar.specs.Words.{first}
use Rattle.aq_parse.specs.Piece.{Piece}
use Rattle.aq_parse.specs.Tokens.{is_mark, place_of}
use Rattle.aq_parse.specs.Grammar.{IsProgram}
use Rattle.aq_parse.specs.Places.{IsTooDeep, IsNotTaken}
use Rattle.aq_parse.specs.declared.mark.Mark.TheVariants as marks
use Rattle.aq_parse.specs.declared.reader.Fault.{Fault}
use Rattle.aq_parse.specs.declared.reader.Fault.TheVariants as faults
use Rattle.aq_parse.specs.declared.tree.Tree.{Tree}
use Rattle.aq_parse.specs.declared.fault.ParseFault.{ParseFault}
use Rattle.aq_parse.specs.declared.fault.ParseFault.TheVariants as told

-- A list is viable where some continuation has a tree, of whatever depth.
abbrev pub Viable : List Piece → Type 0
Viable front = (rest : List Piece) × (deep : ℕ) × (tree : Tree) × IsProgram deep tree (front ++ rest)

-- the last token is the end of the text
abbrev pub EndsInEnd : List Piece → Type 0
EndsInEnd [] = ⊥
EndsInEnd (t ∷ []) = is_mark marks.End t ≡ true
EndsInEnd (t ∷ u ∷ us) = EndsInEnd (u ∷ us)

-- The first fault of a list, which is cut into what comes before it and a rest that begins with the token at fault.
--
-- What comes before is viable. The fault is TooDeep exactly where a body that is too deep begins there, and NotTaken
-- exactly where what begins there is not taken; neither is the case anywhere else in the list, so they come first, and
-- before an Unexpected at the same token. An Unexpected token makes the list not viable. A list that ends in the end of
-- the text has a token at fault. And a list with a fault has no tree.
pub record IsFault (deep : ℕ) (ts : List Piece) (fault : Fault) (rest : List Piece) : Type 0 where
  pub front : List Piece
  pub parts : ts ≡ front ++ rest
  pub before : Viable front
  pub at_token : (t : Piece) (more : List Piece) → rest ≡ t ∷ more → fault ≡ faults.Unexpected → Viable (front ++ t ∷ []) → ⊥
  pub deep_here : fault ≡ faults.TooDeep → IsTooDeep deep front (first rest)
  pub deep_only : (a b : List Piece) → ts ≡ a ++ b → IsTooDeep deep a (first b) → (fault ≡ faults.TooDeep) × (b ≡ rest)
  pub word_here : fault ≡ faults.NotTaken → IsNotTaken deep front (first rest)
  pub word_only : (a b : List Piece) → ts ≡ a ++ b → IsNotTaken deep a (first b) → (fault ≡ faults.NotTaken) × (b ≡ rest)
  pub has_token : EndsInEnd ts → rest ≡ [] → ⊥
  pub no_tree : (tree : Tree) → IsProgram deep tree ts → ⊥

-- the text of the next token
abbrev pub text_of : Option Piece → List ℕ
text_of None = []
text_of (Some t) = t.text

-- Why a list gave no tree: its first fault, which stands at a token of the list, with the place and the text of that token.
-- For want of memory there need be none.
abbrev pub FaultOf : ℕ → ParseFault → List Piece → Type 0
FaultOf deep (told.Unexpected at token) ts = (t : Piece) × (more : List Piece) × IsFault deep ts faults.Unexpected (t ∷ more) × (at ≡ t.at) × (token ≡ t.text)
FaultOf deep (told.NotTaken at word) ts = (t : Piece) × (more : List Piece) × IsFault deep ts faults.NotTaken (t ∷ more) × (at ≡ t.at) × (word ≡ t.text)
FaultOf deep (told.TooDeep at) ts = (t : Piece) × (more : List Piece) × IsFault deep ts faults.TooDeep (t ∷ more) × (at ≡ t.at)
FaultOf deep told.Memory ts = Unit {0}

-- this tree, unless memory ran out
abbrev pub GivesTree : Result Tree ParseFault → Tree → Type 0
GivesTree (Ok found) tree = found ≡ tree
GivesTree (Err (told.Unexpected at token)) tree = ⊥
GivesTree (Err (told.NotTaken at word)) tree = ⊥
GivesTree (Err (told.TooDeep at)) tree = ⊥
GivesTree (Err told.Memory) tree = Unit {0}

-- the fault, told with the place and the text of the token before which reading stopped, unless memory ran out
abbrev pub Tells : ParseFault → Fault → List Piece → Type 0
Tells (told.Unexpected at token) fault rest = (fault ≡ faults.Unexpected) × (at ≡ place_of (first rest)) × (token ≡ text_of (first rest))
Tells (told.NotTaken at word) fault rest = (fault ≡ faults.NotTaken) × (at ≡ place_of (first rest)) × (word ≡ text_of (first rest))
Tells (told.TooDeep at) fault rest = (fault ≡ faults.TooDeep) × (at ≡ place_of (first rest))
Tells told.Memory fault rest = Unit {0}
