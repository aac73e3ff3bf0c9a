-- The grammar of set files, rule by rule: which token lists stand for which tree. Above each word stands its rule, in
-- extended Backus-Naur form: `{ x }` is any number of x, `[ x ]` is none or one, and what is in quotes is that token.
use Rattle.std.specs.Prelude.{◌≡◌, ℕ, zero, suc, List, [], ◌∷◌, Option, Some, None, Bool, true, false}
use Rattle.aq_lex.specs.declared.place.Place.{Place}
use Rattle.aq_grammar.specs.Words.{◌⨾◌, IsOptional, IsMany, IsSeparated, IsPlaced}
use Rattle.aq_set_parse.specs.Piece.{SetPiece}
use Rattle.aq_set_parse.specs.Tokens.{IsMark, IsName, IsKet, IsNumber, IsValue, IsPlusOrMinus, place_of}
use Rattle.aq_set_parse.specs.declared.mark.SetMark.{SetMark}
use Rattle.aq_set_parse.specs.declared.mark.SetMark.TheVariants as marks
use Rattle.aq_set_parse.specs.declared.tree.SetWord.{SetWord}
use Rattle.aq_set_parse.specs.declared.tree.SetInt.{SetInt}
use Rattle.aq_set_parse.specs.declared.tree.SetTurn.TheVariants as turns
use Rattle.aq_set_parse.specs.declared.tree.SetScalar.{SetScalar}
use Rattle.aq_set_parse.specs.declared.tree.SetScalar.TheVariants as scalars
use Rattle.aq_set_parse.specs.declared.tree.SetCoef.{SetCoef}
use Rattle.aq_set_parse.specs.declared.tree.SetTerm.{SetTerm}
use Rattle.aq_set_parse.specs.declared.tree.SetPower.{SetPower}
use Rattle.aq_set_parse.specs.declared.tree.SetExpr.{SetExpr}
use Rattle.aq_set_parse.specs.declared.tree.SetExpr.TheVariants as exprs
use Rattle.aq_set_parse.specs.declared.tree.SetFactor.{SetFactor}
use Rattle.aq_set_parse.specs.declared.tree.SetPart.{SetPart}
use Rattle.aq_set_parse.specs.declared.tree.SetCond.{SetCond}
use Rattle.aq_set_parse.specs.declared.tree.SetCase.{SetCase}
use Rattle.aq_set_parse.specs.declared.tree.SetItem.{SetItem}
use Rattle.aq_set_parse.specs.declared.tree.SetItem.TheVariants as items
use Rattle.aq_set_parse.specs.declared.tree.SetTree.{SetTree}

-- [ "-" ]
abbrev pub IsSign : Bool → List SetPiece → Type 0
IsSign true front = IsMark marks.Minus front
IsSign false front = front ≡ []

-- int = [ "-" ] Number
abbrev pub IsInt : SetInt → List SetPiece → Type 0
IsInt x = IsSign x.minus ⨾ IsNumber x.number

-- "," int
abbrev pub IsNextInt : SetInt → List SetPiece → Type 0
IsNextInt x = IsMark marks.Comma ⨾ IsInt x

-- the number, or 1 where it isn't written
abbrev pub or_one : Option ℕ → ℕ
or_one (Some n) = n
or_one None = 1

-- "^" Number
abbrev pub IsExponent : ℕ → List SetPiece → Type 0
IsExponent n = IsMark marks.Caret ⨾ IsNumber n

-- scalar = Number | [ Number ] "w" [ "^" Number ] | [ Number ] "i" | "(" int "," int "," int "," int ")"
pub data IsScalar : SetScalar → List SetPiece → Type 0 where
  number : (n : ℕ) (front : List SetPiece) → IsNumber n front → IsScalar (scalars.Number n) front
  omega : (times exponent : Option ℕ) (front : List SetPiece) → (IsOptional IsNumber times ⨾ IsMark marks.Omega ⨾ IsOptional IsExponent exponent) front → IsScalar (scalars.Turned (or_one times) (turns.Omega (or_one exponent))) front
  imaginary : (times : Option ℕ) (front : List SetPiece) → (IsOptional IsNumber times ⨾ IsMark marks.Imaginary) front → IsScalar (scalars.Turned (or_one times) turns.Imaginary) front
  quadruple : (a b c d : SetInt) (front : List SetPiece) → (IsMark marks.ParenOpen ⨾ IsInt a ⨾ IsNextInt b ⨾ IsNextInt c ⨾ IsNextInt d ⨾ IsMark marks.ParenClose) front → IsScalar (scalars.Quadruple a b c d) front

-- "/" "sqrt2" [ "^" Number ], which divides once where no number is written
pub data IsRoots : ℕ → List SetPiece → Type 0 where
  roots : (exponent : Option ℕ) (front : List SetPiece) → (IsMark marks.Slash ⨾ IsMark marks.Root ⨾ IsOptional IsExponent exponent) front → IsRoots (or_one exponent) front

-- coef = scalar [ "/" "sqrt2" [ "^" Number ] ]
pub data IsCoef : SetCoef → List SetPiece → Type 0 where
  whole : (scalar : SetScalar) (front : List SetPiece) → IsScalar scalar front → IsCoef (record { scalar = scalar; roots = 0 }) front
  divided : (scalar : SetScalar) (roots : ℕ) (front : List SetPiece) → (IsScalar scalar ⨾ IsRoots roots) front → IsCoef (record { scalar = scalar; roots = roots }) front

-- term = [ coef ] Ket, which stands at its first token
abbrev pub IsTerm : SetTerm → List SetPiece → Type 0
IsTerm x = IsPlaced place_of x.at (IsOptional IsCoef x.coef ⨾ IsKet x.ket)

-- [ "-" ] term
abbrev pub IsFirstTerm : SetTerm → List SetPiece → Type 0
IsFirstTerm x = IsSign x.minus ⨾ IsTerm x

-- ( "+" | "-" ) term
abbrev pub IsLaterTerm : SetTerm → List SetPiece → Type 0
IsLaterTerm x = IsPlusOrMinus x.minus ⨾ IsTerm x

-- [ "-" ] term { ( "+" | "-" ) term }
abbrev pub IsTerms : List SetTerm → List SetPiece → Type 0
IsTerms [] front = ⊥
IsTerms (x ∷ xs) front = (IsFirstTerm x ⨾ IsMany IsLaterTerm xs) front

-- "[" [ "-" ] term { ( "+" | "-" ) term } "]"
abbrev pub IsBracket : List SetTerm → List SetPiece → Type 0
IsBracket terms = IsMark marks.BracketOpen ⨾ IsTerms terms ⨾ IsMark marks.BracketClose

-- "all" Number
abbrev pub IsAll : ℕ → List SetPiece → Type 0
IsAll n = IsMark marks.All ⨾ IsNumber n

-- atom = "[" [ "-" ] term { ( "+" | "-" ) term } "]" | "all" Number | Name | "(" expr ")"
--
-- Here G is "(" expr ")". A bracket and `all` stand at their first token.
pub data IsAtom (G : SetExpr → List SetPiece → Type 0) : SetExpr → List SetPiece → Type 0 where
  bracket : (at : Place) (terms : List SetTerm) (front : List SetPiece) → IsPlaced place_of at (IsBracket terms) front → IsAtom G (exprs.Bracket at terms) front
  all : (at : Place) (number : ℕ) (front : List SetPiece) → IsPlaced place_of at (IsAll number) front → IsAtom G (exprs.All at number) front
  named : (name : SetWord) (front : List SetPiece) → IsName name front → IsAtom G (exprs.Name name) front
  group : (expr : SetExpr) (front : List SetPiece) → G expr front → IsAtom G expr front

-- "^" Number, which stands at the "^"
abbrev pub IsPowerOf : SetPower → List SetPiece → Type 0
IsPowerOf x = IsPlaced place_of x.at (IsExponent x.number)

-- power = atom [ "^" Number ]
abbrev pub IsPower : (SetExpr → List SetPiece → Type 0) → SetFactor → List SetPiece → Type 0
IsPower G x = IsAtom G x.expr ⨾ IsOptional IsPowerOf x.power

-- x { m x }, where the first x stands at its first token, and each later one at the m before it
abbrev pub IsChain : {A : Type 0} → SetMark → (A → Place) → (A → List SetPiece → Type 0) → List A → List SetPiece → Type 0
IsChain m at G [] front = ⊥
IsChain m at G (x ∷ xs) front = (IsPlaced place_of (at x) (G x) ⨾ IsMany (λ y. IsPlaced place_of (at y) (IsMark m ⨾ G y)) xs) front

-- tensor = power { "*" power }
pub data IsTensor (G : SetExpr → List SetPiece → Type 0) : SetExpr → List SetPiece → Type 0 where
  tensor : (factors : List SetFactor) (front : List SetPiece) → IsChain marks.Star (λ x. x.at) (IsPower G) factors front → IsTensor G (exprs.Tensor factors) front

-- expr = tensor { "union" tensor }
pub data IsUnion (G : SetExpr → List SetPiece → Type 0) : SetExpr → List SetPiece → Type 0 where
  union : (parts : List SetPart) (front : List SetPiece) → IsChain marks.Union (λ x. x.at) (λ x. IsTensor G x.expr) parts front → IsUnion G (exprs.Union parts) front

-- "(" expr ")", where parentheses nest at most so deep, themselves included
abbrev pub IsGroup : ℕ → SetExpr → List SetPiece → Type 0
IsGroup zero expr front = ⊥
IsGroup (suc deep) expr front = (IsMark marks.ParenOpen ⨾ IsUnion (IsGroup deep) expr ⨾ IsMark marks.ParenClose) front

-- an expression in which parentheses nest at most so deep
abbrev pub IsExpr : ℕ → SetExpr → List SetPiece → Type 0
IsExpr deep = IsUnion (IsGroup deep)

-- "[" Number "]"
abbrev pub IsIndex : ℕ → List SetPiece → Type 0
IsIndex n = IsMark marks.BracketOpen ⨾ IsNumber n ⨾ IsMark marks.BracketClose

-- cond = Name [ "[" Number "]" ] "==" ( "0" | "1" )
abbrev pub IsCond : SetCond → List SetPiece → Type 0
IsCond x = IsName x.name ⨾ IsOptional IsIndex x.index ⨾ IsMark marks.Equals ⨾ IsValue x.value

-- [ "when" cond { "and" cond } ]
abbrev pub IsWhen : List SetCond → List SetPiece → Type 0
IsWhen [] front = front ≡ []
IsWhen (x ∷ xs) front = (IsMark marks.When ⨾ IsSeparated (IsMark marks.And) IsCond (x ∷ xs)) front

-- case = expr [ "when" cond { "and" cond } ], which stands at its first token. Here E is expr.
abbrev pub IsCase : (SetExpr → List SetPiece → Type 0) → SetCase → List SetPiece → Type 0
IsCase E x = IsPlaced place_of x.at (E x.expr ⨾ IsWhen x.when)

-- case { "," case }
abbrev pub IsCases : (SetExpr → List SetPiece → Type 0) → List SetCase → List SetPiece → Type 0
IsCases E = IsSeparated (IsMark marks.Comma) (IsCase E)

-- "set" Name "=" or "claim" Name "="
abbrev pub IsHead : SetMark → SetWord → List SetPiece → Type 0
IsHead word w = IsMark word ⨾ IsName w ⨾ IsMark marks.Assign

-- item = "set" Name "=" expr ";" | "claim" Name "=" case { "," case } ";"
pub data IsItem (E : SetExpr → List SetPiece → Type 0) : SetItem → List SetPiece → Type 0 where
  set : (name : SetWord) (expr : SetExpr) (front : List SetPiece) → (IsHead marks.Set name ⨾ E expr ⨾ IsMark marks.Semicolon) front → IsItem E (items.Set name expr) front
  claim : (name : SetWord) (cases : List SetCase) (front : List SetPiece) → (IsHead marks.Claim name ⨾ IsCases E cases ⨾ IsMark marks.Semicolon) front → IsItem E (items.Claim name cases) front

-- file = { item } End, where parentheses nest at most so deep
abbrev pub IsFile : ℕ → SetTree → List SetPiece → Type 0
IsFile deep tree = IsMany (IsItem (IsExpr deep)) tree.items ⨾ IsMark marks.End
