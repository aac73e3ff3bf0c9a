-- Each expression that is put together is there, and valid behind those before it: by induction over the tree.
use Rattle.std.proofs.Common.{◌≡◌, ℕ, ◌+◌, ◌*◌, ◌==◌, not, nat_lt, List, [], ◌∷◌, map, Option, Some, None, refl, sym, ap, ap₂, subst, ◌∙◌, arith}
use Rattle.std.specs.List.{AllByRecursion}
use Rattle.std.proofs.lemmas.Bool.{eqb-true, ltb-false, not-false}
use Rattle.aq_lex.specs.declared.place.Place.{Place}
use Rattle.aq_base.specs.Checks.{◌>>=◌}
use Rattle.aq_base.specs.Limits.{most_qubits}
use Rattle.aq_set_read.specs.Gathered.{Gathered, named}
use Rattle.aq_sets.specs.Sizes.{size_of}
use Rattle.aq_set_read.specs.Meaning.{Step, out_of_range, node, all_made, set_named, name_made, powered, Join, tensored, united, Meaning, Operand, joined, chained, expr_step, factor_step, part_step, meaning, factor_of, part_of}
use Rattle.aq_set_read.specs.declared.made.Made.{Made}
use Rattle.aq_set_parse.specs.declared.tree.SetWord.{SetWord}
use Rattle.aq_set_parse.specs.declared.tree.SetPower.{SetPower}
use Rattle.aq_set_parse.specs.declared.tree.SetExpr.{SetExpr}
use Rattle.aq_set_parse.specs.declared.tree.SetFactor.{SetFactor}
use Rattle.aq_set_parse.specs.declared.tree.SetPart.{SetPart}
use Rattle.aq_set_parse.specs.declared.tree.SetExpr.TheOpen.{SetExpr-F, SetFactor-F, SetPart-F}
use Rattle.aq_set_parse.specs.declared.tree.SetExpr.TheFolds.{map-SetExpr, map-SetFactor, map-SetPart, fold-roll-SetExpr, fold-roll-SetFactor, fold-roll-SetPart, ind-SetExpr}
use Rattle.aq_set_parse.specs.declared.tree.SetExpr.TheViews.{roll-SetExpr, roll-SetFactor, roll-SetPart}
use Rattle.aq_sets.specs.declared.sets.Expr.TheVariants as expr
use Rattle.aq_set_read.proofs.ValidChecks.{Judged, follows, weaker}
use Rattle.aq_set_read.proofs.ValidNodes.{IsMade, IsFew, IsSound, not_grown, grown_twice, made-grown, IsFine, node-fine, few-within}
use Rattle.aq_set_read.proofs.ValidTerms.{bracket_made-fine}

abbrev pub IsGood : Meaning → Type 0
IsGood run = (g : Gathered) → IsSound g → Judged (IsFine g) (run g)

abbrev pub IsGoodOperand : Operand → Type 0
IsGoodOperand x = IsGood x.run

-- ---- one expression

made-few : (g : Gathered) (m : Made) → IsSound g → IsMade g.exprs m → IsFew m.qubits
made-few g m sound made = subst IsFew made.qubits (sound.exprs.qubits m.expr made.there)

pub all_made-good : (at : Place) (number : ℕ) → IsGood (all_made at number)
unfolding all_made
all_made-good at number g sound =
    node-fine at (out_of_range number) (expr.All number) number g sound (λ passed. record { valid = tt; is = refl; few = few-within number passed })

pub name_made-good : (name : SetWord) → IsGood (name_made name)
unfolding name_made
name_made-good name g sound = by (named g.names name.text) refl
  where
    by : (o : Option (Option Made)) → named g.names name.text ≡ o → Judged (IsFine g) (set_named name g o)
    by None e = tt
    by (Some None) e = tt
    by (Some (Some m)) e = record { sound = sound; grown = not_grown g g.nodes; made = sound.names.made name.text m e }

pub powered-fine : (power : Option SetPower) (g : Gathered) (s : Step Made) → IsFine g s → Judged (IsFine g) (powered power s)
unfolding size_of
powered-fine None g s fine = fine
powered-fine (Some p) g s fine =
    let qubits = s.value.qubits * p.number in
    let e = expr.Power s.value.expr p.number in
    weaker (IsFine s.gathered) (IsFine g) (node p.at (out_of_range qubits) e qubits s.gathered)
    (node-fine p.at (out_of_range qubits) e qubits s.gathered fine.sound (λ passed. record { valid = fine.made.there; is = ap (λ n. n * p.number) fine.made.qubits; few = few-within qubits passed }))
    (λ r more. record { sound = more.sound; grown = grown_twice g s.gathered r.gathered fine.grown more.grown; made = more.made })

-- ---- chains

abbrev pub IsGoodJoin : Join → Type 0
IsGoodJoin join = (at : Place) (left right : Made) (g : Gathered) → IsSound g → IsMade g.exprs left → IsMade g.exprs right → Judged (IsFine g) (join at left right g)

pub tensored-good : IsGoodJoin tensored
unfolding size_of
tensored-good at left right g sound l r =
    let qubits = left.qubits + right.qubits in
    let some = made-few g left sound l in
    node-fine at (nat_lt most_qubits qubits) (expr.Tensor left.expr right.expr) qubits g sound (λ passed.
    let few = ltb-false most_qubits qubits passed in
    record { valid = (l.there, r.there); is = ap₂ (λ a b. a + b) l.qubits r.qubits; few = (omega (arith, some.0), few) })

pub united-good : IsGoodJoin united
unfolding size_of
united-good at left right g sound l r =
    node-fine at (not (left.qubits == right.qubits)) (expr.Union left.expr right.expr) left.qubits g sound (λ passed.
    let same = eqb-true left.qubits right.qubits (not-false (left.qubits == right.qubits) passed) in
    record { valid = (l.there, r.there, l.qubits ∙ same ∙ sym r.qubits); is = l.qubits; few = made-few g left sound l })

joined-fine : (join : Join) → IsGoodJoin join → (xs : List Operand) → AllByRecursion IsGoodOperand xs → (g : Gathered) (s : Step Made) → IsFine g s → Judged (IsFine g) (joined join xs s)
joined-fine join good [] h g s fine = fine
joined-fine join good (x ∷ xs) h g s fine =
    follows (IsFine s.gathered) (IsFine g) (x.run s.gathered) (λ r. join x.at s.value r.value r.gathered >>= joined join xs) (h.0 s.gathered fine.sound) (λ r next.
    follows (IsFine r.gathered) (IsFine g) (join x.at s.value r.value r.gathered) (joined join xs)
    (good x.at s.value r.value r.gathered next.sound (made-grown s.gathered r.gathered s.value next.grown fine.made) next.made) (λ z both.
    joined-fine join good xs h.1 g z (record {
      sound = both.sound;
      grown = grown_twice g s.gathered z.gathered fine.grown (grown_twice s.gathered r.gathered z.gathered next.grown both.grown);
      made = both.made;
    })))

chained-good : (join : Join) → IsGoodJoin join → (xs : List Operand) → AllByRecursion IsGoodOperand xs → IsGood (chained join xs)
chained-good join good [] h g sound = tt
chained-good join good (x ∷ xs) h g sound =
    follows (IsFine g) (IsFine g) (x.run g) (joined join xs) (h.0 g sound) (joined-fine join good xs h.1 g)

-- ---- the tree

abbrev GoodExpr : Type 0
GoodExpr = (d : SetExpr) × IsGood (meaning d)

abbrev GoodFactor : Type 0
GoodFactor = (d : SetFactor) × IsGoodOperand (factor_of d)

abbrev GoodPart : Type 0
GoodPart = (d : SetPart) × IsGoodOperand (part_of d)

abbrev expr_in : GoodExpr → SetExpr
expr_in e = e.0

abbrev factor_in : GoodFactor → SetFactor
factor_in e = e.0

abbrev part_in : GoodPart → SetPart
part_in e = e.0

factors-good : (xs : List GoodFactor) → AllByRecursion IsGoodOperand (map factor_of (map factor_in xs))
factors-good [] = tt
factors-good (x ∷ xs) = (x.1, factors-good xs)

parts-good : (xs : List GoodPart) → AllByRecursion IsGoodOperand (map part_of (map part_in xs))
parts-good [] = tt
parts-good (x ∷ xs) = (x.1, parts-good xs)

abbrev exprs_of : SetExpr-F GoodExpr GoodFactor GoodPart → SetExpr-F SetExpr SetFactor SetPart
exprs_of = map-SetExpr GoodExpr GoodFactor GoodPart SetExpr SetFactor SetPart expr_in factor_in part_in

abbrev meanings_of : SetExpr-F SetExpr SetFactor SetPart → SetExpr-F Meaning Operand Operand
meanings_of = map-SetExpr SetExpr SetFactor SetPart Meaning Operand Operand meaning factor_of part_of

expr-good : (y : SetExpr-F GoodExpr GoodFactor GoodPart) → IsGood (expr_step (meanings_of (exprs_of y)))
expr-good (SetExpr-F.Bracket at terms) = bracket_made-fine at terms
expr-good (SetExpr-F.All at number) = all_made-good at number
expr-good (SetExpr-F.Name name) = name_made-good name
expr-good (SetExpr-F.Tensor factors) = chained-good tensored tensored-good (map factor_of (map factor_in factors)) (factors-good factors)
expr-good (SetExpr-F.Union parts) = chained-good united united-good (map part_of (map part_in parts)) (parts-good parts)

abbrev factors_of : SetFactor-F GoodExpr GoodFactor GoodPart → SetFactor-F SetExpr SetFactor SetPart
factors_of = map-SetFactor GoodExpr GoodFactor GoodPart SetExpr SetFactor SetPart expr_in factor_in part_in

factor-good : (y : SetFactor-F GoodExpr GoodFactor GoodPart) → IsGoodOperand (factor_step (map-SetFactor SetExpr SetFactor SetPart Meaning Operand Operand meaning factor_of part_of (factors_of y)))
factor-good y g sound =
    follows (IsFine g) (IsFine g) (meaning y.expr.0 g) (powered y.power) (y.expr.1 g sound) (powered-fine y.power g)

abbrev parts_of : SetPart-F GoodExpr GoodFactor GoodPart → SetPart-F SetExpr SetFactor SetPart
parts_of = map-SetPart GoodExpr GoodFactor GoodPart SetExpr SetFactor SetPart expr_in factor_in part_in

part-good : (y : SetPart-F GoodExpr GoodFactor GoodPart) → IsGoodOperand (part_step (map-SetPart SetExpr SetFactor SetPart Meaning Operand Operand meaning factor_of part_of (parts_of y)))
part-good y g sound = y.expr.1 g sound

pub meaning-good : (d : SetExpr) → IsGood (meaning d)
meaning-good =
    ind-SetExpr (λ (d : SetExpr). IsGood (meaning d)) (λ (d : SetFactor). IsGoodOperand (factor_of d)) (λ (d : SetPart). IsGoodOperand (part_of d))
    (λ x y is. subst (λ (z : SetExpr-F SetExpr SetFactor SetPart). IsGood (meaning (roll-SetExpr z))) is
    (subst IsGood (sym (fold-roll-SetExpr Meaning Operand Operand expr_step factor_step part_step (exprs_of y))) (expr-good y)))
    (λ x y is. subst (λ (z : SetFactor-F SetExpr SetFactor SetPart). IsGoodOperand (factor_of (roll-SetFactor z))) is
    (subst IsGoodOperand (sym (fold-roll-SetFactor Meaning Operand Operand expr_step factor_step part_step (factors_of y))) (factor-good y)))
    (λ x y is. subst (λ (z : SetPart-F SetExpr SetFactor SetPart). IsGoodOperand (part_of (roll-SetPart z))) is
    (subst IsGoodOperand (sym (fold-roll-SetPart Meaning Operand Operand expr_step factor_step part_step (parts_of y))) (part-good y)))
