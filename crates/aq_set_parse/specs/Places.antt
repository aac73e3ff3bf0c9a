-- Where in a set file a `(` nests too deep: fronts of a token list, with the token behind. A place is told by the way that
-- leads to it, from the begin of the file down through items, expressions and parentheses.
use Rattle.std.specs.Prelude.{◌≡◌, ◌⊎◌, ℕ, zero, suc, List, [], Option, true}
use Rattle.aq_grammar.specs.Words.{IsMany}
use Rattle.aq_grammar.specs.Laws.{JoinedIn}
use Rattle.aq_set_parse.specs.Piece.{SetPiece}
use Rattle.aq_set_parse.specs.Tokens.{begins, IsMark}
use Rattle.aq_set_parse.specs.SetGrammar.{IsPower, IsChain, IsTensor, IsGroup, IsExpr, IsCases, IsHead, IsItem}
use Rattle.aq_set_parse.specs.declared.mark.SetMark.{SetMark}
use Rattle.aq_set_parse.specs.declared.mark.SetMark.TheVariants as marks
use Rattle.aq_set_parse.specs.declared.tree.SetWord.{SetWord}
use Rattle.aq_set_parse.specs.declared.tree.SetExpr.{SetExpr}
use Rattle.aq_set_parse.specs.declared.tree.SetFactor.{SetFactor}
use Rattle.aq_set_parse.specs.declared.tree.SetPart.{SetPart}
use Rattle.aq_set_parse.specs.declared.tree.SetItem.{SetItem}

abbrev pub Where : Type 1
Where = List SetPiece → Option SetPiece → Type 0

-- behind a text of P, a place of D
abbrev pub Past : (List SetPiece → Type 0) → Where → Where
Past P D = JoinedIn (λ front n. P front) D

-- from the begin of `x { m x }` to a place of D in one of its x: in the first, or behind some and an m
abbrev pub InList : {A : Type 0} → SetMark → (List A → List SetPiece → Type 0) → Where → Where
InList {A = A} m IsList D front n = D front n ⊎ ((xs : List A) × Past (IsList xs) (Past (IsMark m) D) front n)

-- from the begin of an expression to a place of D at the begin of one of its atoms. Here G is "(" expr ")".
abbrev pub InTensor : (SetExpr → List SetPiece → Type 0) → Where → Where
InTensor G D = InList {A = SetFactor} marks.Star (IsChain marks.Star (λ x. x.at) (IsPower G)) D

abbrev pub InUnion : (SetExpr → List SetPiece → Type 0) → Where → Where
InUnion G D = InList {A = SetPart} marks.Union (IsChain marks.Union (λ x. x.at) (λ x. IsTensor G x.expr)) (InTensor G D)

-- from the begin of an atom, where parentheses may nest so deep: a `(` where none may come, at once or inside parentheses
abbrev pub InGroup : ℕ → Where
InGroup zero = λ front n. (front ≡ []) × (begins marks.ParenOpen n ≡ true)
InGroup (suc deep) = Past (IsMark marks.ParenOpen) (InUnion (IsGroup deep) (InGroup deep))

-- the same, from the begin of an expression, of cases, of an item
abbrev pub InExpr : ℕ → Where
InExpr deep = InUnion (IsGroup deep) (InGroup deep)

abbrev pub InCases : ℕ → Where
InCases deep = InList marks.Comma (IsCases (IsExpr deep)) (InExpr deep)

abbrev pub InItem : ℕ → Where
InItem deep front n = ((name : SetWord) × Past (IsHead marks.Set name) (InExpr deep) front n) ⊎ ((name : SetWord) × Past (IsHead marks.Claim name) (InCases deep) front n)

-- A `(` comes next, at which an expression may begin, inside as many open ones as are allowed.
abbrev pub IsTooDeep : ℕ → Where
IsTooDeep deep front n = (items : List SetItem) × Past (IsMany (IsItem (IsExpr deep)) items) (InItem deep) front n
