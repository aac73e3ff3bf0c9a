-- Places in a program: fronts of a token list, with the token behind. A place is told by the way that leads to it, from
-- the begin of the program down through statements and bodies.
use Rattle.std.specs.Prelude.{◌≡◌, ◌⊎◌, ℕ, zero, suc, List, [], Option, Some, Err, Bool, false, true}
use Rattle.aq_grammar.specs.Words.{IsMany}
use Rattle.aq_grammar.specs.Laws.{JoinedIn}
use Rattle.aq_parse.specs.Piece.{Piece}
use Rattle.aq_parse.specs.Tokens.{begins, IsMark, IsNote, version_of, library_of}
use Rattle.aq_parse.specs.Grammar.{IsVersion, IsHead, Any, IsBody, IsStatement, Maybe}
use Rattle.aq_parse.specs.declared.mark.Mark.TheVariants as marks
use Rattle.aq_parse.specs.declared.reader.Fault.TheVariants as faults
use Rattle.aq_parse.specs.declared.tree.Note.{Note}
use Rattle.aq_parse.specs.declared.tree.Test.{Test}
use Rattle.aq_parse.specs.declared.tree.Item.{Item}

abbrev pub Where : Type 1
Where = List Piece → Option Piece → Type 0

-- behind a text of P, a place of D
abbrev pub Past : (List Piece → Type 0) → Where → Where
Past P D = JoinedIn (λ front n. P front) D

-- from the begin of an `if` or `while` to a place of `Inside` in one of its bodies
pub data Into (Inside : List Piece → Option Piece → Type 0) (IsInner : Bool → List Item → List Piece → Type 0) : List Piece → Option Piece → Type 0 where
  in_then : (test : Test) (front : List Piece) (n : Option Piece) → Past (IsHead marks.If test) Inside front n → Into Inside IsInner front n
  in_else : (test : Test) (then : List Item) (front : List Piece) (n : Option Piece) → Past (IsHead marks.If test) (Past (IsInner false then) (Past (IsMark marks.Else) Inside)) front n → Into Inside IsInner front n
  in_loop : (test : Test) (front : List Piece) (n : Option Piece) → Past (IsHead marks.While test) Inside front n → Into Inside IsInner front n

-- from the begin of a statement behind its notes: to a place of `Own`, or into a body
abbrev pub InBare : Where → Where → (Bool → List Item → List Piece → Type 0) → Where
InBare Own Inside IsInner front n = Own front n ⊎ Into Inside IsInner front n

-- from the begin of a statement: some notes, and then so
pub record InStatement (Own Inside : List Piece → Option Piece → Type 0) (IsInner : Bool → List Item → List Piece → Type 0) (front : List Piece) (n : Option Piece) : Type 0 where
  pub notes : List Note
  pub way : JoinedIn (λ f m. IsMany IsNote notes f) (InBare Own Inside IsInner) front n

-- from the begin of a list of statements: some whole statements, and then into the next
pub record InStatements (deep : ℕ) (Own Inside : List Piece → Option Piece → Type 0) (front : List Piece) (n : Option Piece) : Type 0 where
  pub items : List Item
  pub way : JoinedIn (λ f m. IsMany (Any (IsStatement deep)) items f) (InStatement Own Inside (IsBody deep)) front n

-- from the begin of a body, in which so many levels of bodies may stand, itself included
abbrev pub InBody : Where → Where → ℕ → Where
InBody Own Bottom zero = Bottom
InBody Own Bottom (suc deep) = λ front n. InStatement Own (InBody Own Bottom deep) (IsBody deep) front n ⊎ Past (IsMark marks.BraceOpen) (InStatements deep Own (InBody Own Bottom deep)) front n

-- from the begin of the program
abbrev pub InProgram : Where → Where → ℕ → Where
InProgram Own Bottom deep = Past (Maybe IsVersion) (InStatements deep Own (InBody Own Bottom deep))

-- ---- too deep

abbrev pub Nowhere : Where
Nowhere front n = ⊥

abbrev pub Here : Where
Here front n = front ≡ []

-- A body begins here that is nested one deeper than is allowed.
abbrev pub IsTooDeep : ℕ → Where
IsTooDeep = InProgram Nowhere Here

-- ---- not taken

-- a library that is not taken, behind `include`
abbrev pub BadLibrary : Where
BadLibrary front n = IsMark marks.Include front × (t : Piece) × (n ≡ Some t) × (library_of t ≡ Err faults.NotTaken)

-- a version that is not taken, behind `OPENQASM`
abbrev pub BadVersion : Where
BadVersion front n = IsMark marks.Openqasm front × (t : Piece) × (n ≡ Some t) × (version_of t ≡ Err faults.NotTaken)

-- at the begin of a statement, behind its notes: a word of what is not taken comes next, or a library that is not taken
abbrev pub Refused : Where
Refused front n = ((front ≡ []) × (begins marks.Foreign n ≡ true)) ⊎ BadLibrary front n

-- What comes next is not taken: a word where a statement begins, a library or a version.
abbrev pub IsNotTaken : ℕ → Where
IsNotTaken deep front n = BadVersion front n ⊎ InProgram Refused Nowhere deep front n
