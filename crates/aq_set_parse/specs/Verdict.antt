-- What the parser of set files answers: the tree of a list, or the first token at which the list goes wrong.
use Rattle.std.specs.Prelude.{◌≡◌, ℕ, List, [], ◌∷◌, ◌++◌, Option, Some, None, Result, Ok, Err, true}
use Rattle.aq_grammar.specs.Words.{first}
use Rattle.aq_set_parse.specs.Piece.{SetPiece}
use Rattle.aq_set_parse.specs.Tokens.{is_mark, place_of}
use Rattle.aq_set_parse.specs.SetGrammar.{IsFile}
use Rattle.aq_set_parse.specs.Places.{IsTooDeep}
use Rattle.aq_set_parse.specs.declared.mark.SetMark.TheVariants as marks
use Rattle.aq_set_parse.specs.declared.reader.Fault.{Fault}
use Rattle.aq_set_parse.specs.declared.reader.Fault.TheVariants as faults
use Rattle.aq_set_parse.specs.declared.tree.SetTree.{SetTree}
use Rattle.aq_set_parse.specs.declared.parse_fault.SetParseFault.{SetParseFault}
use Rattle.aq_set_parse.specs.declared.parse_fault.SetParseFault.TheVariants as told

-- A list is viable where some continuation has a tree, of whatever depth.
abbrev pub Viable : List SetPiece → Type 0
Viable front = (rest : List SetPiece) × (deep : ℕ) × (tree : SetTree) × IsFile deep tree (front ++ rest)

-- the last token is the end of the text
abbrev pub EndsInEnd : List SetPiece → Type 0
EndsInEnd [] = ⊥
EndsInEnd (t ∷ []) = is_mark marks.End t ≡ true
EndsInEnd (t ∷ u ∷ us) = EndsInEnd (u ∷ us)

-- The first fault of a list, which is cut into what comes before it and a rest that begins with the token at fault.
--
-- What comes before is viable. The fault is TooDeep exactly where a `(` comes next that nests too deep; this is the case
-- nowhere else in the list, so it comes first. An Unexpected token makes the list not viable. A list that ends in the end
-- of the text has a token at fault. And a list with a fault has no tree.
pub record IsFault (deep : ℕ) (ts : List SetPiece) (fault : Fault) (rest : List SetPiece) : Type 0 where
  pub front : List SetPiece
  pub parts : ts ≡ front ++ rest
  pub before : Viable front
  pub at_token : (t : SetPiece) (more : List SetPiece) → rest ≡ t ∷ more → fault ≡ faults.Unexpected → Viable (front ++ t ∷ []) → ⊥
  pub deep_here : fault ≡ faults.TooDeep → IsTooDeep deep front (first rest)
  pub deep_only : (a b : List SetPiece) → ts ≡ a ++ b → IsTooDeep deep a (first b) → (fault ≡ faults.TooDeep) × (b ≡ rest)
  pub has_token : EndsInEnd ts → rest ≡ [] → ⊥
  pub no_tree : (tree : SetTree) → IsFile deep tree ts → ⊥

-- the text of the next token
abbrev pub text_of : Option SetPiece → List ℕ
text_of None = []
text_of (Some t) = t.text

-- Why a list gave no tree: its first fault, with the place and the text of its token. For want of memory there need be none.
abbrev pub TreeFault : ℕ → SetParseFault → List SetPiece → Type 0
TreeFault deep (told.Unexpected at token) ts = (rest : List SetPiece) × IsFault deep ts faults.Unexpected rest × (at ≡ place_of (first rest)) × (token ≡ text_of (first rest))
TreeFault deep (told.TooDeep at) ts = (rest : List SetPiece) × IsFault deep ts faults.TooDeep rest × (at ≡ place_of (first rest))
TreeFault deep told.Memory ts = Unit {0}

-- this tree, unless memory ran out
abbrev pub GivesTree : Result SetTree SetParseFault → SetTree → Type 0
GivesTree (Ok found) tree = found ≡ tree
GivesTree (Err (told.Unexpected at token)) tree = ⊥
GivesTree (Err (told.TooDeep at)) tree = ⊥
GivesTree (Err told.Memory) tree = Unit {0}

-- the fault, told with the place and the text of the token before which reading stopped, unless memory ran out
abbrev pub Tells : SetParseFault → Fault → List SetPiece → Type 0
Tells (told.Unexpected at token) fault rest = (fault ≡ faults.Unexpected) × (at ≡ place_of (first rest)) × (token ≡ text_of (first rest))
Tells (told.TooDeep at) fault rest = (fault ≡ faults.TooDeep) × (at ≡ place_of (first rest))
Tells told.Memory fault rest = Unit {0}
