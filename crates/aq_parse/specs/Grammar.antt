-- The grammar of programs, rule by rule: which token lists stand for which tree. It is this language's own, laid out in the
-- order of the grammar of OpenQASM 3.0, of whose texts it takes a part. Above each word stands its rule, in extended
-- Backus-Naur form:
-- `{ x }` is any number of x, `[ x ]` is none or one, and what is in quotes is that token.
use Rattle.std.specs.Prelude.{◌≡◌, ℕ, zero, suc, List, [], ◌∷◌, Option, Some, None, Bool, true, false}
use Rattle.aq_grammar.specs.Words.{◌⨾◌, IsOptional, IsMany, IsSeparated, IsPlaced, IsSeen}
use Rattle.aq_parse.specs.Piece.{Piece}
use Rattle.aq_parse.specs.Tokens.{IsMark, IsName, IsNumber, IsPi, IsValue, IsNote, IsEnd, place_of, version_of, library_of}
use Rattle.aq_parse.specs.declared.mark.Mark.{Mark}
use Rattle.aq_parse.specs.declared.mark.Mark.TheVariants as marks
use Rattle.aq_parse.specs.declared.tree.Word.{Word}
use Rattle.aq_parse.specs.declared.tree.Spot.{Spot}
use Rattle.aq_parse.specs.declared.tree.Angle.{Angle}
use Rattle.aq_parse.specs.declared.tree.Test.{Test}
use Rattle.aq_parse.specs.declared.tree.Item.{Item}
use Rattle.aq_parse.specs.declared.tree.Tree.{Tree}
use Rattle.aq_parse.specs.declared.tree.Node.{Node}
use Rattle.aq_parse.specs.declared.tree.Node.TheVariants as nodes

-- version = "OPENQASM" ( Number | Decimal ) ";", where the number is 3 or the decimal begins with `3.`
abbrev pub IsVersion : Unit {0} → List Piece → Type 0
IsVersion u = IsMark marks.Openqasm ⨾ IsSeen version_of u ⨾ IsMark marks.Semicolon

-- size = "[" Number "]"
abbrev pub IsSize : ℕ → List Piece → Type 0
IsSize n = IsMark marks.BracketOpen ⨾ IsNumber n ⨾ IsMark marks.BracketClose

-- spot = Name [ "[" Number "]" ]
abbrev pub IsSpot : Spot → List Piece → Type 0
IsSpot s = IsName s.name ⨾ IsOptional IsSize s.index

-- spot { "," spot }
abbrev pub IsSpots : List Spot → List Piece → Type 0
IsSpots = IsSeparated (IsMark marks.Comma) IsSpot

-- "=" "measure" spot
abbrev pub IsSource : Spot → List Piece → Type 0
IsSource s = IsMark marks.Assign ⨾ IsMark marks.Measure ⨾ IsSpot s

-- "->" spot
abbrev pub IsTarget : Spot → List Piece → Type 0
IsTarget s = IsMark marks.Arrow ⨾ IsSpot s

-- Number "*"
abbrev pub IsFactor : ℕ → List Piece → Type 0
IsFactor n = IsNumber n ⨾ IsMark marks.Star

-- "/" Number
abbrev pub IsDivisor : ℕ → List Piece → Type 0
IsDivisor n = IsMark marks.Slash ⨾ IsNumber n

-- [ "-" ]
abbrev pub IsSign : Bool → List Piece → Type 0
IsSign true front = IsMark marks.Minus front
IsSign false front = front ≡ []

-- the number, or 1 where it isn't written
abbrev pub or_one : Option ℕ → ℕ
or_one (Some n) = n
or_one None = 1

-- Number | [ Number "*" ] pi [ "/" Number ]
pub data Amount : ℕ → Bool → ℕ → List Piece → Type 0 where
  plain : (n : ℕ) (front : List Piece) → IsNumber n front → Amount n false 1 front
  turn : (times over : Option ℕ) (front : List Piece) → (IsOptional IsFactor times ⨾ IsPi ⨾ IsOptional IsDivisor over) front → Amount (or_one times) true (or_one over) front

-- angle = [ "-" ] ( Number | [ Number "*" ] pi [ "/" Number ] )
abbrev pub IsAngle : Angle → List Piece → Type 0
IsAngle a = IsPlaced place_of a.at (IsSign a.minus ⨾ Amount a.times a.pi a.over)

-- "(" angle ")"
abbrev pub IsAngled : Angle → List Piece → Type 0
IsAngled a = IsMark marks.ParenOpen ⨾ IsAngle a ⨾ IsMark marks.ParenClose

-- test = spot | "!" spot | spot "==" ( "0" | "1" | "true" | "false" )
pub data IsTest : Test → List Piece → Type 0 where
  set : (spot : Spot) (front : List Piece) → IsSpot spot front → IsTest (record { spot = spot; value = true }) front
  clear : (spot : Spot) (front : List Piece) → (IsMark marks.Bang ⨾ IsSpot spot) front → IsTest (record { spot = spot; value = false }) front
  equal : (spot : Spot) (value : Bool) (front : List Piece) → (IsSpot spot ⨾ IsMark marks.Equals ⨾ IsValue value) front → IsTest (record { spot = spot; value = value }) front

-- "if" "(" test ")" or "while" "(" test ")"
abbrev pub IsHead : Mark → Test → List Piece → Type 0
IsHead word test = IsMark word ⨾ IsMark marks.ParenOpen ⨾ IsTest test ⨾ IsMark marks.ParenClose

-- [ spot { "," spot } ]
abbrev pub MaybeSpots : List Spot → List Piece → Type 0
MaybeSpots [] front = front ≡ []
MaybeSpots (x ∷ xs) front = IsSpots (x ∷ xs) front

-- the statements that have no bodies
pub data Simple : Node → List Piece → Type 0 where
  -- "include" Quoted ";"
  include : (front : List Piece) → (IsMark marks.Include ⨾ IsSeen library_of tt ⨾ IsMark marks.Semicolon) front → Simple nodes.Include front
  -- "qubit" [ size ] Name ";"
  qubit : (name : Word) (size : Option ℕ) (front : List Piece) → (IsMark marks.Qubit ⨾ IsOptional IsSize size ⨾ IsName name ⨾ IsMark marks.Semicolon) front → Simple (nodes.Qubits name size) front
  -- "qreg" Name [ size ] ";"
  qreg : (name : Word) (size : Option ℕ) (front : List Piece) → (IsMark marks.Qreg ⨾ IsName name ⨾ IsOptional IsSize size ⨾ IsMark marks.Semicolon) front → Simple (nodes.Qubits name size) front
  -- "bit" [ size ] Name [ "=" "measure" spot ] ";"
  bit : (name : Word) (size : Option ℕ) (from : Option Spot) (front : List Piece) → (IsMark marks.Bit ⨾ IsOptional IsSize size ⨾ IsName name ⨾ IsOptional IsSource from ⨾ IsMark marks.Semicolon) front → Simple (nodes.Bits name size from) front
  -- "creg" Name [ size ] ";"
  creg : (name : Word) (size : Option ℕ) (front : List Piece) → (IsMark marks.Creg ⨾ IsName name ⨾ IsOptional IsSize size ⨾ IsMark marks.Semicolon) front → Simple (nodes.Bits name size None) front
  -- spot "=" "measure" spot ";"
  assign : (from into : Spot) (front : List Piece) → (IsSpot into ⨾ IsSource from ⨾ IsMark marks.Semicolon) front → Simple (nodes.Measure from (Some into) true) front
  -- "measure" spot [ "->" spot ] ";"
  measure : (from : Spot) (into : Option Spot) (front : List Piece) → (IsMark marks.Measure ⨾ IsSpot from ⨾ IsOptional IsTarget into ⨾ IsMark marks.Semicolon) front → Simple (nodes.Measure from into false) front
  -- "reset" spot ";"
  reset : (spot : Spot) (front : List Piece) → (IsMark marks.Reset ⨾ IsSpot spot ⨾ IsMark marks.Semicolon) front → Simple (nodes.Reset spot) front
  -- "barrier" [ spot { "," spot } ] ";"
  barrier : (spots : List Spot) (front : List Piece) → (IsMark marks.Barrier ⨾ MaybeSpots spots ⨾ IsMark marks.Semicolon) front → Simple (nodes.Barrier spots) front
  -- Name [ "(" angle ")" ] spot { "," spot } ";"
  call : (name : Word) (angle : Option Angle) (spots : List Spot) (front : List Piece) → (IsName name ⨾ IsOptional IsAngled angle ⨾ IsSpots spots ⨾ IsMark marks.Semicolon) front → Simple (nodes.Call name angle spots) front

-- A statement without its notes. It is open where an `if` at its end has no `else`, so that an `else` behind it would be
-- its own; an `else` belongs to the nearest `if` that has none.
pub data Bare (IsBody : Bool → List Item → List Piece → Type 0) : Bool → Node → List Piece → Type 0 where
  simple : (node : Node) (front : List Piece) → Simple node front → Bare IsBody false node front
  -- "if" "(" test ")" body
  branch : (opened : Bool) (test : Test) (then : List Item) (front : List Piece) → (IsHead marks.If test ⨾ IsBody opened then) front → Bare IsBody true (nodes.If test then []) front
  -- "if" "(" test ")" body "else" body
  choose : (opened : Bool) (test : Test) (then otherwise : List Item) (front : List Piece) → (IsHead marks.If test ⨾ IsBody false then ⨾ IsMark marks.Else ⨾ IsBody opened otherwise) front → Bare IsBody opened (nodes.If test then otherwise) front
  -- "while" "(" test ")" body
  repeat : (opened : Bool) (test : Test) (body : List Item) (front : List Piece) → (IsHead marks.While test ⨾ IsBody opened body) front → Bare IsBody opened (nodes.While test body) front

-- statement = { Note } bare, which stands at the first token of bare
abbrev pub Statement : (Bool → List Item → List Piece → Type 0) → Bool → Item → List Piece → Type 0
Statement IsBody opened item = IsMany IsNote item.notes ⨾ IsPlaced place_of item.at (Bare IsBody opened item.node)

-- open or not
abbrev pub Any : {A : Type 0} → (Bool → A → List Piece → Type 0) → A → List Piece → Type 0
Any S x front = (opened : Bool) × S opened x front

-- body = statement | "{" { statement } "}"
pub data Body (S : Bool → Item → List Piece → Type 0) : Bool → List Item → List Piece → Type 0 where
  single : (opened : Bool) (item : Item) (front : List Piece) → S opened item front → Body S opened (item ∷ []) front
  block : (items : List Item) (front : List Piece) → (IsMark marks.BraceOpen ⨾ IsMany (Any S) items ⨾ IsMark marks.BraceClose) front → Body S false items front

-- bodies that nest at most so deep, themselves included
abbrev pub IsBody : ℕ → Bool → List Item → List Piece → Type 0
IsBody zero opened items front = ⊥
IsBody (suc deep) opened items front = Body (Statement (IsBody deep)) opened items front

abbrev pub IsStatement : ℕ → Bool → Item → List Piece → Type 0
IsStatement deep = Statement (IsBody deep)

-- none, or one, of a rule that has no value
abbrev pub Maybe : (Unit {0} → List Piece → Type 0) → List Piece → Type 0
Maybe G front = (o : Option (Unit {0})) × IsOptional G o front

-- program = [ version ] { statement } End
abbrev pub IsProgram : ℕ → Tree → List Piece → Type 0
IsProgram deep tree = Maybe IsVersion ⨾ IsMany (Any (IsStatement deep)) tree.items ⨾ IsEnd tree.end
