-- The numbers of a set file's coefficients: which of them are at most 2^127 - 1, as those of tokens are.
use Rattle.std.specs.Prelude.{ℕ, ◌^◌, ◌<◌, ⊤, List, [], All, Option, Some, None}
use Rattle.std.specs.List.{flat_map}
use Rattle.aq_set_parse.specs.declared.tree.SetScalar.{SetScalar}
use Rattle.aq_set_parse.specs.declared.tree.SetScalar.TheVariants as scalars
use Rattle.aq_set_parse.specs.declared.tree.SetCoef.{SetCoef}
use Rattle.aq_set_parse.specs.declared.tree.SetTerm.{SetTerm}
use Rattle.aq_set_parse.specs.declared.tree.SetExpr.{SetExpr}
use Rattle.aq_set_parse.specs.declared.tree.SetExpr.TheOpen.{SetExpr-F, SetFactor-F, SetPart-F}
use Rattle.aq_set_parse.specs.declared.tree.SetExpr.TheFolds.{fold-SetExpr}
use Rattle.aq_set_parse.specs.declared.tree.SetCase.{SetCase}
use Rattle.aq_set_parse.specs.declared.tree.SetItem.{SetItem}
use Rattle.aq_set_parse.specs.declared.tree.SetItem.TheVariants as items
use Rattle.aq_set_parse.specs.declared.tree.SetTree.{SetTree}

-- a number that fits an amplitude's coefficients with either sign
abbrev pub FitsNumber : ℕ → Type 0
FitsNumber n = n < 2 ^ 127

abbrev pub FitsScalar : SetScalar → Type 0
FitsScalar (scalars.Number n) = FitsNumber n
FitsScalar (scalars.Turned times turn) = FitsNumber times
FitsScalar (scalars.Quadruple a b c d) = FitsNumber a.number × FitsNumber b.number × FitsNumber c.number × FitsNumber d.number

abbrev pub FitsCoef : Option SetCoef → Type 0
FitsCoef None = ⊤
FitsCoef (Some c) = FitsScalar c.scalar

-- the terms of an expression, from what its operands have
abbrev pub expr_terms : SetExpr-F (List SetTerm) (List SetTerm) (List SetTerm) → List SetTerm
expr_terms (SetExpr-F.Bracket at terms) = terms
expr_terms (SetExpr-F.All at number) = []
expr_terms (SetExpr-F.Name name) = []
expr_terms (SetExpr-F.Tensor factors) = flat_map (λ terms. terms) factors
expr_terms (SetExpr-F.Union parts) = flat_map (λ terms. terms) parts

abbrev pub factor_terms : SetFactor-F (List SetTerm) (List SetTerm) (List SetTerm) → List SetTerm
factor_terms factor = factor.expr

abbrev pub part_terms : SetPart-F (List SetTerm) (List SetTerm) (List SetTerm) → List SetTerm
part_terms part = part.expr

-- all terms of an expression's brackets, in order
abbrev pub terms_in : SetExpr → List SetTerm
terms_in = fold-SetExpr (List SetTerm) (List SetTerm) (List SetTerm) expr_terms factor_terms part_terms

abbrev pub terms_of_item : SetItem → List SetTerm
terms_of_item (items.Set name expr) = terms_in expr
terms_of_item (items.Claim name cases) = flat_map (λ (c : SetCase). terms_in c.expr) cases

-- the numbers of each coefficient fit
abbrev pub HasFittingCoefs : SetTree → Type 0
HasFittingCoefs tree = All (λ (t : SetTerm). FitsCoef t.coef) (flat_map terms_of_item tree.items)
