-- The reader of the grammar of set files, rule by rule.
use Rattle.std.specs.Prelude.{ℕ, zero, suc, List, [], ◌∷◌, Option, Some, None, Result, Ok, Err, Bool, ◌||◌, not, is_some}
use Rattle.aq_lex.specs.declared.place.Place.{Place}
use Rattle.aq_grammar.specs.Readers.{Reader, ◌>>=◌, both, mapped, after, before, switch, choice, optional, many, front_and_more, separated, placed, refuse}
use Rattle.aq_set_parse.specs.Piece.{SetPiece}
use Rattle.aq_set_parse.specs.Tokens.{sort_of, begins, begins_ket, begins_number, begins_sign, place_of, mark_at, name_at, ket_at, number_at, value_at, plus_or_minus_at}
use Rattle.aq_set_parse.specs.SetGrammar.{or_one}
use Rattle.aq_set_parse.specs.declared.mark.SetMark.{SetMark}
use Rattle.aq_set_parse.specs.declared.mark.SetMark.TheVariants as marks
use Rattle.aq_set_parse.specs.declared.lexeme.SetSort.{SetSort}
use Rattle.aq_set_parse.specs.declared.lexeme.SetSort.TheVariants as sorts
use Rattle.aq_set_parse.specs.declared.reader.Fault.{Fault}
use Rattle.aq_set_parse.specs.declared.reader.Fault.TheVariants as faults
use Rattle.aq_set_parse.specs.declared.reader.Opening.{Opening}
use Rattle.aq_set_parse.specs.declared.reader.Opening.TheVariants as openings
use Rattle.aq_set_parse.specs.declared.tree.SetWord.{SetWord}
use Rattle.aq_set_parse.specs.declared.tree.SetInt.{SetInt}
use Rattle.aq_set_parse.specs.declared.tree.SetTurn.{SetTurn}
use Rattle.aq_set_parse.specs.declared.tree.SetTurn.TheVariants as turns
use Rattle.aq_set_parse.specs.declared.tree.SetScalar.{SetScalar}
use Rattle.aq_set_parse.specs.declared.tree.SetScalar.TheVariants as scalars
use Rattle.aq_set_parse.specs.declared.tree.SetCoef.{SetCoef}
use Rattle.aq_set_parse.specs.declared.tree.SetTerm.{SetTerm}
use Rattle.aq_set_parse.specs.declared.tree.SetPower.{SetPower}
use Rattle.aq_set_parse.specs.declared.tree.SetExpr.{SetExpr}
use Rattle.aq_set_parse.specs.declared.tree.SetExpr.TheVariants as exprs
use Rattle.aq_set_parse.specs.declared.tree.SetFactor.{SetFactor}
use Rattle.aq_set_parse.specs.declared.tree.SetPart.{SetPart}
use Rattle.aq_set_parse.specs.declared.tree.SetCond.{SetCond}
use Rattle.aq_set_parse.specs.declared.tree.SetCase.{SetCase}
use Rattle.aq_set_parse.specs.declared.tree.SetItem.{SetItem}
use Rattle.aq_set_parse.specs.declared.tree.SetItem.TheVariants as items
use Rattle.aq_set_parse.specs.declared.tree.SetTree.{SetTree}

abbrev pub Read : Type 0 → Type 0
Read A = Reader SetPiece Fault A

-- ---- scalars

unfoldable pub sign_at : Read Bool
sign_at = mapped is_some (optional (begins marks.Minus) (mark_at marks.Minus))

abbrev pub int_of : Bool × ℕ → SetInt
int_of v = record { minus = v.0; number = v.1 }

unfoldable pub int_at : Read SetInt
int_at = mapped int_of (both sign_at number_at)

unfoldable pub exponent_at : Read ℕ
exponent_at = after (mark_at marks.Caret) number_at

-- an exponent, which is 1 where it isn't written
unfoldable pub maybe_exponent_at : Read ℕ
maybe_exponent_at = mapped or_one (optional (begins marks.Caret) exponent_at)

abbrev pub omega_of : ℕ → SetTurn
omega_of n = turns.Omega n

unfoldable pub omega_at : Read SetTurn
omega_at = mapped omega_of (after (mark_at marks.Omega) maybe_exponent_at)

abbrev pub imaginary_of : Unit {0} → SetTurn
imaginary_of u = turns.Imaginary

unfoldable pub imaginary_at : Read SetTurn
imaginary_at = mapped imaginary_of (mark_at marks.Imaginary)

-- `w`, perhaps with an exponent, or `i`
unfoldable pub turn_at : Read SetTurn
turn_at = choice (begins marks.Omega) omega_at imaginary_at

abbrev pub begins_turn : Option SetPiece → Bool
begins_turn n = begins marks.Omega n || begins marks.Imaginary n

abbrev pub counted_of : ℕ × Option SetTurn → SetScalar
counted_of (n, None) = scalars.Number n
counted_of (n, Some turn) = scalars.Turned n turn

unfoldable pub counted_at : Read SetScalar
counted_at = mapped counted_of (both number_at (optional begins_turn turn_at))

abbrev pub turned_of : SetTurn → SetScalar
turned_of turn = scalars.Turned 1 turn

unfoldable pub next_int_at : Read SetInt
next_int_at = after (mark_at marks.Comma) int_at

abbrev pub quadruple_of : SetInt × (SetInt × (SetInt × SetInt)) → SetScalar
quadruple_of v = scalars.Quadruple v.0 v.1.0 v.1.1.0 v.1.1.1

unfoldable pub quadruple_at : Read SetScalar
quadruple_at = mapped quadruple_of (after (mark_at marks.ParenOpen) (both int_at (both next_int_at (both next_int_at (before next_int_at (mark_at marks.ParenClose))))))

unfoldable pub uncounted_at : Read SetScalar
uncounted_at = choice (begins marks.ParenOpen) quadruple_at (mapped turned_of turn_at)

unfoldable pub scalar_at : Read SetScalar
scalar_at = choice begins_number counted_at uncounted_at

-- ---- coefficients and terms

unfoldable pub roots_at : Read ℕ
roots_at = after (mark_at marks.Slash) (after (mark_at marks.Root) maybe_exponent_at)

abbrev pub or_none : Option ℕ → ℕ
or_none (Some n) = n
or_none None = 0

abbrev pub coef_of : SetScalar × Option ℕ → SetCoef
coef_of v = record { scalar = v.0; roots = or_none v.1 }

unfoldable pub coef_at : Read SetCoef
coef_at = mapped coef_of (both scalar_at (optional (begins marks.Slash) roots_at))

abbrev pub no_ket : Option SetPiece → Bool
no_ket n = not (begins_ket n)

-- a term without its sign, with its place
unfoldable pub term_at : Read (Place × (Option SetCoef × SetWord))
term_at = placed place_of (both (optional no_ket coef_at) ket_at)

abbrev pub signed_of : Bool × (Place × (Option SetCoef × SetWord)) → SetTerm
signed_of v = record { minus = v.0; at = v.1.0; coef = v.1.1.0; ket = v.1.1.1 }

unfoldable pub first_term_at : Read SetTerm
first_term_at = mapped signed_of (both sign_at term_at)

unfoldable pub later_term_at : Read SetTerm
later_term_at = mapped signed_of (both plus_or_minus_at term_at)

unfoldable pub terms_at : Read (List SetTerm)
terms_at = mapped front_and_more (both first_term_at (many begins_sign later_term_at))

unfoldable pub bracket_at : Read (List SetTerm)
bracket_at = after (mark_at marks.BracketOpen) (before terms_at (mark_at marks.BracketClose))

-- ---- expressions, over a reader of what stands in parentheses

unfoldable pub all_at : Read ℕ
all_at = after (mark_at marks.All) number_at

abbrev pub Inner : Type 0
Inner = Read SetExpr

abbrev pub opening_at : SetMark → Opening
opening_at marks.BracketOpen = openings.Bracket
opening_at marks.All = openings.All
opening_at marks.ParenOpen = openings.Group
opening_at _ = openings.Name

abbrev pub opening_in : Option SetSort → Opening
opening_in (Some (sorts.Fixed m)) = opening_at m
opening_in _ = openings.Name

-- what an atom is, by its first token
abbrev pub opening_of : Option SetPiece → Opening
opening_of n = opening_in (sort_of n)

abbrev pub bracket_of : Place × List SetTerm → SetExpr
bracket_of v = exprs.Bracket v.0 v.1

abbrev pub all_of : Place × ℕ → SetExpr
all_of v = exprs.All v.0 v.1

abbrev pub named_of : SetWord → SetExpr
named_of word = exprs.Name word

abbrev pub vector_at : Read SetExpr
vector_at = mapped bracket_of (placed place_of bracket_at)

abbrev pub basis_at : Read SetExpr
basis_at = mapped all_of (placed place_of all_at)

abbrev pub named_at : Read SetExpr
named_at = mapped named_of name_at

abbrev pub atom_by : Inner → Opening → Read SetExpr
atom_by group openings.Bracket = vector_at
atom_by group openings.All = basis_at
atom_by group openings.Group = group
atom_by group openings.Name = named_at

unfoldable pub atom_at : Inner → Read SetExpr
atom_at group = switch opening_of (atom_by group)

abbrev pub power_of : Place × ℕ → SetPower
power_of v = record { at = v.0; number = v.1 }

unfoldable pub power_at : Read SetPower
power_at = mapped power_of (placed place_of exponent_at)

-- an atom, perhaps with its power
unfoldable pub powered_at : Inner → Read (SetExpr × Option SetPower)
powered_at group = both (atom_at group) (optional (begins marks.Caret) power_at)

-- p { m p }, each with its place
unfoldable pub link_at : {A B : Type 0} → (Place × A → B) → Read A → Read B
link_at make p = mapped make (placed place_of p)

unfoldable pub chain_at : {A B : Type 0} → SetMark → (Place × A → B) → Read A → Read (List B)
chain_at m make p = mapped front_and_more (both (link_at make p) (many (begins m) (link_at make (after (mark_at m) p))))

abbrev pub factor_of : Place × (SetExpr × Option SetPower) → SetFactor
factor_of v = record { at = v.0; expr = v.1.0; power = v.1.1 }

unfoldable pub factors_at : Inner → Read (List SetFactor)
factors_at group = chain_at marks.Star factor_of (powered_at group)

abbrev pub tensor_of : List SetFactor → SetExpr
tensor_of factors = exprs.Tensor factors

unfoldable pub tensor_at : Inner → Read SetExpr
tensor_at group = mapped tensor_of (factors_at group)

abbrev pub part_of : Place × SetExpr → SetPart
part_of v = record { at = v.0; expr = v.1 }

unfoldable pub parts_at : Inner → Read (List SetPart)
parts_at group = chain_at marks.Union part_of (tensor_at group)

abbrev pub union_of : List SetPart → SetExpr
union_of parts = exprs.Union parts

unfoldable pub union_at : Inner → Read SetExpr
union_at group = mapped union_of (parts_at group)

-- an expression in parentheses
unfoldable pub inside_at : Inner → Read SetExpr
inside_at group = after (mark_at marks.ParenOpen) (before (union_at group) (mark_at marks.ParenClose))

-- the same, where parentheses may nest so deep, themselves included
unfoldable pub group_at : ℕ → Read SetExpr
group_at zero = refuse faults.TooDeep
group_at (suc deep) = inside_at (group_at deep)

unfoldable pub expr_at : ℕ → Read SetExpr
expr_at deep = union_at (group_at deep)

-- ---- conditions and cases

unfoldable pub index_at : Read ℕ
index_at = after (mark_at marks.BracketOpen) (before number_at (mark_at marks.BracketClose))

abbrev pub cond_of : SetWord × (Option ℕ × Bool) → SetCond
cond_of v = record { name = v.0; index = v.1.0; value = v.1.1 }

unfoldable pub cond_at : Read SetCond
cond_at = mapped cond_of (both name_at (both (optional (begins marks.BracketOpen) index_at) (after (mark_at marks.Equals) value_at)))

unfoldable pub conds_at : Read (List SetCond)
conds_at = separated (begins marks.And) (mark_at marks.And) cond_at

abbrev pub listed : {A : Type 0} → Option (List A) → List A
listed (Some xs) = xs
listed None = []

unfoldable pub when_at : Read (List SetCond)
when_at = mapped listed (optional (begins marks.When) (after (mark_at marks.When) conds_at))

abbrev pub case_of : Place × (SetExpr × List SetCond) → SetCase
case_of v = record { at = v.0; expr = v.1.0; when = v.1.1 }

unfoldable pub case_at : ℕ → Read SetCase
case_at deep = mapped case_of (placed place_of (both (expr_at deep) when_at))

unfoldable pub cases_at : ℕ → Read (List SetCase)
cases_at deep = separated (begins marks.Comma) (mark_at marks.Comma) (case_at deep)

-- ---- items and files

-- a name and "=", behind a word
unfoldable pub head_at : SetMark → Read SetWord
head_at word = after (mark_at word) (before name_at (mark_at marks.Assign))

abbrev pub set_of : SetWord × SetExpr → SetItem
set_of v = items.Set v.0 v.1

unfoldable pub set_at : ℕ → Read SetItem
set_at deep = mapped set_of (both (head_at marks.Set) (before (expr_at deep) (mark_at marks.Semicolon)))

abbrev pub claim_of : SetWord × List SetCase → SetItem
claim_of v = items.Claim v.0 v.1

unfoldable pub claim_at : ℕ → Read SetItem
claim_at deep = mapped claim_of (both (head_at marks.Claim) (before (cases_at deep) (mark_at marks.Semicolon)))

unfoldable pub item_at : ℕ → Read SetItem
item_at deep = choice (begins marks.Set) (set_at deep) (claim_at deep)

abbrev pub goes_on : Option SetPiece → Bool
goes_on n = not (begins marks.End n)

abbrev pub tree_of : List SetItem → SetTree
tree_of items = record { items = items }

unfoldable pub file_at : ℕ → Read SetTree
file_at deep = mapped tree_of (before (many goes_on (item_at deep)) (mark_at marks.End))

-- a file, and nothing behind it
abbrev pub ended : SetTree × List SetPiece → Result (SetTree × List SetPiece) (Fault × List SetPiece)
ended (tree, []) = Ok (tree, [])
ended (tree, t ∷ ts) = Err (faults.Unexpected, t ∷ ts)

unfoldable pub whole_at : ℕ → Read SetTree
whole_at deep ts = file_at deep ts >>= ended
