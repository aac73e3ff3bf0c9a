use Rattle.std.proofs.Common.{◌*◌, arith}
use Rattle.aq_sets.specs.Vectors.{products_of}
use Rattle.aq_store.proofs.StopLemmas.{passed_on}
use Rattle.aq_set_build.specs.Budgets.{new_budget}
use Rattle.aq_set_build.specs.Products.{IsWideAmong}
use Rattle.aq_set_build.proofs.BoundLemmas.{all_budget}
use Rattle.aq_set_build.proofs.ExprLemmas.{made_all, all_valid}
use Rattle.aq_set_build.proofs.GrowthLemmas.{grows_within, stops_within}
use Rattle.aq_set_build.proofs.building.build_all.Goals as goal

pub all-requires-clause-some : goal.all-requires-clause-some
all-requires-clause-some c = all_valid c.args.exprs.now c.requires.valid c.args.expr c.args.qubits c.requires.all

pub returns-in_err-made-clause-grows : goal.returns-in_err-made-clause-grows
returns-in_err-made-clause-grows c =
    let b = all_budget c.args.exprs.now c.requires.valid c.args.expr c.args.qubits c.requires.all in
    grows_within _ _ _ _ _ _ c.all.ensures.grows (omega (arith, b))

pub returns-in_err-made-clause-stops : goal.returns-in_err-made-clause-stops
returns-in_err-made-clause-stops c =
    let b = all_budget c.args.exprs.now c.requires.valid c.args.expr c.args.qubits c.requires.all in
    passed_on _ c.from_residual.result c.in_err-made.field-0.0 c.from_residual.ensures
    (stops_within (λ l r. ⊥) (IsWideAmong (products_of c.args.exprs.now c.args.expr)) (4 * c.args.qubits) (new_budget c.args.exprs.now c.args.expr)
    c.args.steps.now c.all.new.steps c.in_err-made.field-0.0 (omega (arith, b)) (λ l r h. absurd h) c.in_err-made.ensures.stops)

pub returns-clause-made : goal.returns-clause-made
returns-clause-made c =
    made_all c.args.exprs.now c.requires.valid c.args.expr c.args.qubits c.requires.all c.all.new.store c.in_ok-made.made c.in_ok-made.ensures.made

pub returns-clause-grows : goal.returns-clause-grows
returns-clause-grows c =
    let b = all_budget c.args.exprs.now c.requires.valid c.args.expr c.args.qubits c.requires.all in
    grows_within _ _ _ _ _ _ c.all.ensures.grows (omega (arith, b))
