use Rattle.std.proofs.Common.{◌+◌, ◌*◌, length, arith}
use Rattle.aq_sets.specs.Vectors.{products_of}
use Rattle.aq_store.proofs.StopLemmas.{passed_on}
use Rattle.aq_set_build.specs.Budgets.{new_budget}
use Rattle.aq_set_build.specs.Products.{IsWideAmong}
use Rattle.aq_set_build.proofs.BoundLemmas.{kets_budget}
use Rattle.aq_set_build.proofs.ExprLemmas.{made_kets, kets_valid}
use Rattle.aq_set_build.proofs.GrowthLemmas.{grows_within, stops_within}
use Rattle.aq_set_build.proofs.building.build_kets.Goals as goal

pub kets-requires : goal.kets-requires
kets-requires c =
    let k = kets_valid c.args.exprs.now c.requires.valid c.args.expr c.args.qubits c.args.terms.now c.requires.kets in
    record { few = k.0; some = k.1; inside = k.2; paid = c.requires.paid }

pub returns-in_err-made-clause-grows : goal.returns-in_err-made-clause-grows
returns-in_err-made-clause-grows c =
    let b = kets_budget c.args.exprs.now c.requires.valid c.args.expr c.args.qubits c.args.terms.now c.requires.kets in
    grows_within _ _ _ _ _ _ c.kets.ensures.grows (omega (arith, b))

pub returns-in_err-made-clause-stops : goal.returns-in_err-made-clause-stops
returns-in_err-made-clause-stops c =
    let b = kets_budget c.args.exprs.now c.requires.valid c.args.expr c.args.qubits c.args.terms.now c.requires.kets in
    passed_on _ c.from_residual.result c.in_err-made.field-0.0 c.from_residual.ensures
    (stops_within (λ l r. ⊥) (IsWideAmong (products_of c.args.exprs.now c.args.expr)) ((c.args.qubits + 1) * (1 + length c.args.terms.now)) (new_budget c.args.exprs.now c.args.expr)
    c.args.steps.now c.kets.new.steps c.in_err-made.field-0.0 (omega (arith, b)) (λ l r h. absurd h) c.in_err-made.ensures.stops)

pub returns-clause-made : goal.returns-clause-made
returns-clause-made c =
    made_kets c.args.exprs.now c.requires.valid c.args.expr c.args.qubits c.args.terms.now c.requires.kets c.kets.new.store c.in_ok-made.made c.in_ok-made.ensures.made

pub returns-clause-grows : goal.returns-clause-grows
returns-clause-grows c =
    let b = kets_budget c.args.exprs.now c.requires.valid c.args.expr c.args.qubits c.args.terms.now c.requires.kets in
    grows_within _ _ _ _ _ _ c.kets.ensures.grows (omega (arith, b))
