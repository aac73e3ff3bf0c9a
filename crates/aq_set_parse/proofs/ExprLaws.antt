-- The readers of expressions read their rules of the grammar, at each depth of parentheses.
use Rattle.std.proofs.Common.{◌≡◌, ℕ, zero, suc, ◌<◌, List, [], ◌∷◌, length, Result, Ok, Option, Some, None, Bool, true, false, refl, ap, subst, ◌∙◌, arith}
use Rattle.std.specs.Prelude.{◌||◌, is_some}
use Rattle.aq_lex.specs.declared.place.Place.{Place}
use Rattle.aq_grammar.specs.Words.{◌⨾◌, first_or, IsOptional}
use Rattle.aq_grammar.specs.Readers.{after, optional}
use Rattle.aq_grammar.specs.Laws.{Both}
use Rattle.aq_grammar.proofs.Reading.{Mapped, Placed, Switched, refuse-Reads}
use Rattle.aq_grammar.proofs.Ends.{refuse_keeps}
use Rattle.aq_grammar.proofs.Parts.{Part, nothing, mapped_part, optional_part, placed_part, next_of, longer, one_long}
use Rattle.aq_set_parse.specs.Piece.{SetPiece}
use Rattle.aq_set_parse.specs.Tokens.{is_mark, sort_of, shows, begins, IsMark, mark_at, IsName, place_of}
use Rattle.aq_set_parse.specs.SetGrammar.{IsBracket, IsAll, IsAtom, IsPowerOf, IsPower, IsChain, IsTensor, IsUnion, IsGroup, IsExpr}
use Rattle.aq_set_parse.specs.Reading.{opening_of, opening_in, bracket_of, all_of, named_of, vector_at, basis_at, named_at, atom_by, atom_at, power_at, powered_at, link_at, factor_of, factors_at, tensor_of, tensor_at, part_of, parts_at, union_of, union_at, inside_at, group_at, expr_at}
use Rattle.aq_set_parse.specs.declared.mark.SetMark.TheVariants as marks
use Rattle.aq_set_parse.specs.declared.lexeme.SetSort.{SetSort}
use Rattle.aq_set_parse.specs.declared.lexeme.SetSort.TheVariants as sorts
use Rattle.aq_set_parse.specs.declared.reader.Fault.{Fault}
use Rattle.aq_set_parse.specs.declared.reader.Fault.TheVariants as faults
use Rattle.aq_set_parse.specs.declared.reader.Opening.{Opening}
use Rattle.aq_set_parse.specs.declared.reader.Opening.TheVariants as openings
use Rattle.aq_set_parse.specs.declared.tree.SetWord.{SetWord}
use Rattle.aq_set_parse.specs.declared.tree.SetTerm.{SetTerm}
use Rattle.aq_set_parse.specs.declared.tree.SetPower.{SetPower}
use Rattle.aq_set_parse.specs.declared.tree.SetFactor.{SetFactor}
use Rattle.aq_set_parse.specs.declared.tree.SetPart.{SetPart}
use Rattle.aq_set_parse.specs.declared.tree.SetExpr.{SetExpr}
use Rattle.aq_set_parse.specs.declared.tree.SetExpr.TheVariants as exprs
use Rattle.aq_set_parse.proofs.Marks.{like, Others, last, mark_part, name_part, mark_next, name_next, after_mark}
use Rattle.aq_set_parse.proofs.TermLaws.{bracket_part, all_part, power_part}
use Rattle.aq_set_parse.proofs.Layers.{Layer, flat, renamed_layer, mapped_layer, both_layer, after_layer, before_layer, switch_layer}
use Rattle.aq_set_parse.proofs.ChainLaws.{next_link_goes, chain_layer}

-- ---- how expressions begin

-- a text begins with a `(`
abbrev pub Opens : (SetExpr → List SetPiece → Type 0) → Type 0
Opens G = (x : SetExpr) (front : List SetPiece) (n : Option SetPiece) → G x front → sort_of (first_or front n) ≡ Some (sorts.Fixed marks.ParenOpen)

module _ {R : Type 0} (G : SetExpr → List SetPiece → Type 0) (opens : (x : SetExpr) (front : List SetPiece) (n : Option SetPiece) → G x front → sort_of (first_or front n) ≡ Some (sorts.Fixed marks.ParenOpen)) (good : Option SetSort → R) (value : R) (bracket : good (Some (sorts.Fixed marks.BracketOpen)) ≡ value) (all : good (Some (sorts.Fixed marks.All)) ≡ value) (name : good (Some sorts.Name) ≡ value) (paren : good (Some (sorts.Fixed marks.ParenOpen)) ≡ value) where
  pub atom_first : (x : SetExpr) (front : List SetPiece) (n : Option SetPiece) → IsAtom G x front → good (sort_of (first_or front n)) ≡ value
  atom_first _ _ n (IsAtom.bracket at terms front l) = ap good (after_mark marks.BracketOpen front n l.0) ∙ bracket
  atom_first _ _ n (IsAtom.all at number front l) = ap good (after_mark marks.All front n l.0) ∙ all
  atom_first _ _ n (IsAtom.named w front l) = ap good (name_next w front n l) ∙ name
  atom_first _ _ n (IsAtom.group x front l) = ap good (opens x front n l) ∙ paren

  pub power_first : (x : SetFactor) (front : List SetPiece) (n : Option SetPiece) → IsPower G x front → good (sort_of (first_or front n)) ≡ value
  power_first x front n l = ap (λ o. good (sort_of o)) (next_of front n l) ∙ atom_first x.expr l.a (first_or l.b n) l.left

  pub factors_first : (xs : List SetFactor) (front : List SetPiece) (n : Option SetPiece) → IsChain marks.Star (λ x. x.at) (IsPower G) xs front → good (sort_of (first_or front n)) ≡ value
  factors_first [] front n l = absurd l
  factors_first (x ∷ xs) front n l = ap (λ o. good (sort_of o)) (next_of front n l) ∙ power_first x l.a (first_or l.b n) l.left.0

  pub tensor_first : (x : SetExpr) (front : List SetPiece) (n : Option SetPiece) → IsTensor G x front → good (sort_of (first_or front n)) ≡ value
  tensor_first _ _ n (IsTensor.tensor factors front l) = factors_first factors front n l

  pub parts_first : (xs : List SetPart) (front : List SetPiece) (n : Option SetPiece) → IsChain marks.Union (λ x. x.at) (λ x. IsTensor G x.expr) xs front → good (sort_of (first_or front n)) ≡ value
  parts_first [] front n l = absurd l
  parts_first (x ∷ xs) front n l = ap (λ o. good (sort_of o)) (next_of front n l) ∙ tensor_first x.expr l.a (first_or l.b n) l.left.0

  pub union_first : (x : SetExpr) (front : List SetPiece) (n : Option SetPiece) → IsUnion G x front → good (sort_of (first_or front n)) ≡ value
  union_first _ _ n (IsUnion.union parts front l) = parts_first parts front n l

pub some_long : (front : List SetPiece) → is_some (sort_of (first_or front None)) ≡ true → 0 < length front
some_long [] e = absurd cc
some_long (t ∷ ts) e = omega arith

pub union_long : (G : SetExpr → List SetPiece → Type 0) → Opens G → (x : SetExpr) (front : List SetPiece) → IsUnion G x front → 0 < length front
union_long G opens x front l = some_long front (union_first G opens is_some true refl refl refl refl x front None l)

pub tensor_long : (G : SetExpr → List SetPiece → Type 0) → Opens G → (x : SetExpr) (front : List SetPiece) → IsTensor G x front → 0 < length front
tensor_long G opens x front l = some_long front (tensor_first G opens is_some true refl refl refl refl x front None l)

abbrev pub IsPowered : (SetExpr → List SetPiece → Type 0) → SetExpr × Option SetPower → List SetPiece → Type 0
IsPowered G = Both (IsAtom G) (IsOptional IsPowerOf)

pub powered_long : (G : SetExpr → List SetPiece → Type 0) → Opens G → (v : SetExpr × Option SetPower) (front : List SetPiece) → IsPowered G v front → 0 < length front
powered_long G opens v front l = longer front l (some_long l.a (atom_first G opens is_some true refl refl refl refl v.0 l.a None l.left))

-- ---- atoms

bracket_long : (xs : List SetTerm) (front : List SetPiece) → IsBracket xs front → 0 < length front
bracket_long xs front l = longer front l (one_long (is_mark marks.BracketOpen) l.a l.left)

all_long : (k : ℕ) (front : List SetPiece) → IsAll k front → 0 < length front
all_long k front l = longer front l (one_long (is_mark marks.All) l.a l.left)

pub vector_part : Part Others last vector_at (Mapped bracket_of (Placed place_of IsBracket)) nothing
vector_part = mapped_part bracket_of (placed_part place_of bracket_part bracket_long)

pub basis_part : Part Others last basis_at (Mapped all_of (Placed place_of IsAll)) nothing
basis_part = mapped_part all_of (placed_part place_of all_part all_long)

pub named_part : Part Others last named_at (Mapped named_of IsName) nothing
named_part = mapped_part named_of name_part

abbrev pub AtomBy : (SetExpr → List SetPiece → Type 0) → Opening → SetExpr → List SetPiece → Type 0
AtomBy G openings.Bracket = Mapped bracket_of (Placed place_of IsBracket)
AtomBy G openings.All = Mapped all_of (Placed place_of IsAll)
AtomBy G openings.Group = G
AtomBy G openings.Name = Mapped named_of IsName

atom_to : (G : SetExpr → List SetPiece → Type 0) (k : Opening) (x : SetExpr) (front : List SetPiece) → AtomBy G k x front → IsAtom G x front
atom_to G openings.Bracket x front l = subst (λ (y : SetExpr). IsAtom G y front) l.is (IsAtom.bracket l.from.0 l.from.1 front l.spelled)
atom_to G openings.All x front l = subst (λ (y : SetExpr). IsAtom G y front) l.is (IsAtom.all l.from.0 l.from.1 front l.spelled)
atom_to G openings.Group x front l = IsAtom.group x front l
atom_to G openings.Name x front l = subst (λ (y : SetExpr). IsAtom G y front) l.is (IsAtom.named l.from front l.spelled)

atom_from : (G : SetExpr → List SetPiece → Type 0) (x : SetExpr) (front : List SetPiece) → IsAtom G x front → Switched (AtomBy G) x front
atom_from G _ _ (IsAtom.bracket at terms front l) = (openings.Bracket, record { from = (at, terms); is = refl; spelled = l })
atom_from G _ _ (IsAtom.all at number front l) = (openings.All, record { from = (at, number); is = refl; spelled = l })
atom_from G _ _ (IsAtom.named w front l) = (openings.Name, record { from = w; is = refl; spelled = l })
atom_from G _ _ (IsAtom.group x front l) = (openings.Group, l)

pub maybe_power_part : Part Others last (optional (begins marks.Caret) power_at) (IsOptional IsPowerOf) (λ n. shows marks.Caret (sort_of n) || false)
maybe_power_part = optional_part (begins marks.Caret) power_part (λ x front n l. ap (shows marks.Caret) (after_mark marks.Caret front n l.0))

abbrev pub power_goes_on : Option SetSort → Bool
power_goes_on s = shows marks.Caret s || false

abbrev pub tensor_goes_on : Option SetSort → Bool
tensor_goes_on s = shows marks.Star s || power_goes_on s

abbrev pub expr_goes_on : Option SetSort → Bool
expr_goes_on s = shows marks.Union s || tensor_goes_on s

-- ---- expressions, over a reader of what stands in parentheses

module _ (group : List SetPiece → Result (SetExpr × List SetPiece) (Fault × List SetPiece)) (G H : SetExpr → List SetPiece → Type 0) (layer : Layer last group G H nothing) (opens : (x : SetExpr) (front : List SetPiece) (n : Option SetPiece) → G x front → sort_of (first_or front n) ≡ Some (sorts.Fixed marks.ParenOpen)) where
  atom_layers : (k : Opening) → Layer last (atom_by group k) (AtomBy G k) (AtomBy H k) nothing
  atom_layers openings.Bracket = flat vector_part
  atom_layers openings.All = flat basis_part
  atom_layers openings.Group = layer
  atom_layers openings.Name = flat named_part

  atom_begins : (k : Opening) (x : SetExpr) (front : List SetPiece) (n : Option SetPiece) → AtomBy G k x front → opening_of (first_or front n) ≡ k
  atom_begins openings.Bracket x front n l = ap opening_in (after_mark marks.BracketOpen front n l.spelled.0)
  atom_begins openings.All x front n l = ap opening_in (after_mark marks.All front n l.spelled.0)
  atom_begins openings.Group x front n l = ap opening_in (opens x front n l)
  atom_begins openings.Name x front n l = ap opening_in (name_next l.from front n l.spelled)

  pub atom_layer : Layer last (atom_at group) (IsAtom G) (IsAtom H) nothing
  unfolding atom_at
  atom_layer = renamed_layer (switch_layer opening_of (atom_by group) (AtomBy G) (AtomBy H) atom_layers atom_begins openings.Name) (λ x front l. atom_to G l.0 x front l.1) (atom_from G) (λ x front l. atom_to H l.0 x front l.1)

  pub powered_layer : Layer last (powered_at group) (IsPowered G) (IsPowered H) (λ n. power_goes_on (sort_of n))
  unfolding powered_at
  powered_layer = both_layer atom_layer (flat maybe_power_part) (λ o front n l e. refl)

  factors_layer : Layer last (factors_at group) (IsChain marks.Star (λ x. x.at) (IsPower G)) (IsChain marks.Star (λ x. x.at) (IsPower H)) (λ n. tensor_goes_on (sort_of n))
  unfolding factors_at
  factors_layer = chain_layer marks.Star refl factor_of (λ x. x.at) (λ x. (x.expr, x.power)) (λ v. refl) (λ y. refl) (powered_at group) (IsPowered G) (IsPowered H) power_goes_on powered_layer (powered_long G opens) refl

  pub next_factor_goes_over : (ts : List SetPiece) (x : SetFactor × List SetPiece) → link_at factor_of (after (mark_at marks.Star) (powered_at group)) ts ≡ Ok x → length x.1 < length ts
  next_factor_goes_over = next_link_goes marks.Star refl factor_of (λ x. x.at) (λ x. (x.expr, x.power)) (λ v. refl) (λ y. refl) (powered_at group) (IsPowered G) (IsPowered H) power_goes_on powered_layer (powered_long G opens) refl

  pub tensor_layer : Layer last (tensor_at group) (IsTensor G) (IsTensor H) (λ n. tensor_goes_on (sort_of n))
  unfolding tensor_at
  tensor_layer = renamed_layer (mapped_layer tensor_of factors_layer)
      (λ x front l. subst (λ (y : SetExpr). IsTensor G y front) l.is (IsTensor.tensor l.from front l.spelled)) (tensor_from G)
      (λ x front l. subst (λ (y : SetExpr). IsTensor H y front) l.is (IsTensor.tensor l.from front l.spelled)) where
        tensor_from : (K : SetExpr → List SetPiece → Type 0) (x : SetExpr) (front : List SetPiece) → IsTensor K x front → Mapped tensor_of (IsChain marks.Star (λ x. x.at) (IsPower K)) x front
        tensor_from K _ _ (IsTensor.tensor factors front l) = record { from = factors; is = refl; spelled = l }

  parts_layer : Layer last (parts_at group) (IsChain marks.Union (λ x. x.at) (λ x. IsTensor G x.expr)) (IsChain marks.Union (λ x. x.at) (λ x. IsTensor H x.expr)) (λ n. expr_goes_on (sort_of n))
  unfolding parts_at
  parts_layer = chain_layer marks.Union refl part_of (λ x. x.at) (λ x. x.expr) (λ v. refl) (λ y. refl) (tensor_at group) (IsTensor G) (IsTensor H) tensor_goes_on tensor_layer (tensor_long G opens) refl

  pub next_part_goes_over : (ts : List SetPiece) (x : SetPart × List SetPiece) → link_at part_of (after (mark_at marks.Union) (tensor_at group)) ts ≡ Ok x → length x.1 < length ts
  next_part_goes_over = next_link_goes marks.Union refl part_of (λ x. x.at) (λ x. x.expr) (λ v. refl) (λ y. refl) (tensor_at group) (IsTensor G) (IsTensor H) tensor_goes_on tensor_layer (tensor_long G opens) refl

  pub union_layer : Layer last (union_at group) (IsUnion G) (IsUnion H) (λ n. expr_goes_on (sort_of n))
  unfolding union_at
  union_layer = renamed_layer (mapped_layer union_of parts_layer)
      (λ x front l. subst (λ (y : SetExpr). IsUnion G y front) l.is (IsUnion.union l.from front l.spelled)) (union_from G)
      (λ x front l. subst (λ (y : SetExpr). IsUnion H y front) l.is (IsUnion.union l.from front l.spelled)) where
        union_from : (K : SetExpr → List SetPiece → Type 0) (x : SetExpr) (front : List SetPiece) → IsUnion K x front → Mapped union_of (IsChain marks.Union (λ x. x.at) (λ x. IsTensor K x.expr)) x front
        union_from K _ _ (IsUnion.union parts front l) = record { from = parts; is = refl; spelled = l }

  pub inside_layer : Layer last (inside_at group) (λ x. IsMark marks.ParenOpen ⨾ IsUnion G x ⨾ IsMark marks.ParenClose) (λ x. IsMark marks.ParenOpen ⨾ IsUnion H x ⨾ IsMark marks.ParenClose) nothing
  unfolding inside_at
  inside_layer = after_layer (flat (mark_part marks.ParenOpen refl)) (before_layer union_layer (flat (mark_part marks.ParenClose refl)) (λ front n z. ap expr_goes_on (mark_next marks.ParenClose front n z))) (λ x front n l e. refl)

-- ---- a text in parentheses

abbrev here : Place
here = record { line = 0; column = 0 }

abbrev pub one_word : SetWord
one_word = record { text = []; at = here }

abbrev pub one_factor : SetFactor
one_factor = record { at = here; expr = exprs.Name one_word; power = None }

abbrev pub one_part : SetPart
one_part = record { at = here; expr = exprs.Tensor (one_factor ∷ []) }

pub name_text : List SetPiece
name_text = like sorts.Name ∷ []

pub name_union : {G : SetExpr → List SetPiece → Type 0} → IsUnion G (exprs.Union (one_part ∷ [])) name_text
unfolding name_text
name_union = IsUnion.union (one_part ∷ []) (like sorts.Name ∷ []) (record {
  a = like sorts.Name ∷ [];
  b = [];
  parts = refl;
  left = (
    IsTensor.tensor (one_factor ∷ []) (like sorts.Name ∷ []) (record {
      a = like sorts.Name ∷ [];
      b = [];
      parts = refl;
      left = (record { a = like sorts.Name ∷ []; b = []; parts = refl; left = IsAtom.named one_word (like sorts.Name ∷ []) (like sorts.Name, refl, refl); right = refl }, refl);
      right = refl;
    }),
    refl,
  );
  right = refl;
})

group_text : List SetPiece
group_text = like (sorts.Fixed marks.ParenOpen) ∷ like sorts.Name ∷ like (sorts.Fixed marks.ParenClose) ∷ []

group_is : IsGroup 1 (exprs.Union (one_part ∷ [])) group_text
unfolding group_text name_text
group_is = record {
  a = like (sorts.Fixed marks.ParenOpen) ∷ [];
  b = like sorts.Name ∷ like (sorts.Fixed marks.ParenClose) ∷ [];
  parts = refl;
  left = (like (sorts.Fixed marks.ParenOpen), refl, refl);
  right = record { a = like sorts.Name ∷ []; b = like (sorts.Fixed marks.ParenClose) ∷ []; parts = refl; left = name_union; right = (like (sorts.Fixed marks.ParenClose), refl, refl) };
}

-- ---- at each depth

pub group_opens : (deep : ℕ) → Opens (IsGroup deep)
group_opens zero x front n l = absurd l
group_opens (suc deep) x front n l = after_mark marks.ParenOpen front n l

pub group_layer : (deep : ℕ) → Layer last (group_at deep) (IsGroup deep) (IsGroup (suc deep)) nothing
unfolding group_at
group_layer zero = record {
  context = λ x front n. ⊥;
  reads = refuse-Reads faults.TooDeep (IsGroup 1) (exprs.Union (one_part ∷ [])) group_text group_is;
  enough = λ x front n l e. l;
  tight = λ x front n l. l;
  keeps = refuse_keeps SetExpr last faults.TooDeep;
}
group_layer (suc deep) = inside_layer (group_at deep) (IsGroup deep) (IsGroup (suc deep)) (group_layer deep) (group_opens deep)

pub expr_layer : (deep : ℕ) → Layer last (expr_at deep) (IsExpr deep) (IsExpr (suc deep)) (λ n. expr_goes_on (sort_of n))
unfolding expr_at
expr_layer deep = union_layer (group_at deep) (IsGroup deep) (IsGroup (suc deep)) (group_layer deep) (group_opens deep)

pub next_factor_goes : (deep : ℕ) (ts : List SetPiece) (x : SetFactor × List SetPiece) → link_at factor_of (after (mark_at marks.Star) (powered_at (group_at deep))) ts ≡ Ok x → length x.1 < length ts
next_factor_goes deep = next_factor_goes_over (group_at deep) (IsGroup deep) (IsGroup (suc deep)) (group_layer deep) (group_opens deep)

pub next_part_goes : (deep : ℕ) (ts : List SetPiece) (x : SetPart × List SetPiece) → link_at part_of (after (mark_at marks.Union) (tensor_at (group_at deep))) ts ≡ Ok x → length x.1 < length ts
next_part_goes deep = next_part_goes_over (group_at deep) (IsGroup deep) (IsGroup (suc deep)) (group_layer deep) (group_opens deep)
