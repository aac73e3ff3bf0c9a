use Rattle.std.proofs.Common.{drop, sym, ap, subst, ◌∙◌}
use Rattle.aq_store.proofs.StopLemmas.{passed_on}
use Rattle.aq_gate_ops.specs.Accounts.{HoldKey}
use Rattle.aq_gate_ops.specs.Turns.{key_of}
use Rattle.aq_gate_ops.proofs.CauseLemmas.{cause_map}
use Rattle.aq_gate_ops.proofs.TurnLemmas.{rows_turned, cause_turned}
use Rattle.aq_gate_ops.proofs.rows.mix_sides.Goals as goal

pub returns-then-turns_right-clause-rows : goal.returns-then-turns_right-clause-rows
returns-then-turns_right-clause-rows g c =
    rows_turned g.L.Label.parts g.L.Label.part_count c.args.gate.now c.args.shape.now c.args.depth (sym c.turns_right.ensures ∙ c.if-turns_right.true) c.args.store.now c.mix_at.new.store c.mix_at.ensures.keeps c.args.left c.args.right c.in_ok-turned.turned c.requires.left c.requires.right c.in_ok-turned.ensures.rows

pub returns-then-turns_right-clause-steps : goal.returns-then-turns_right-clause-steps
returns-then-turns_right-clause-steps g c =
    let key = ap (λ b. key_of b (c.args.left, c.args.right)) (sym c.turns_right.ensures ∙ c.if-turns_right.true) in
    λ levels h. c.in_ok-turned.ensures.steps levels (subst (λ k. HoldKey c.args.store.now (drop c.args.depth c.args.shape.now) k levels) key h)

pub returns-in_err-turned-clause-refused : goal.returns-in_err-turned-clause-refused
returns-in_err-turned-clause-refused g c =
    let key = ap (λ b. key_of b (c.args.left, c.args.right)) (sym c.turns_right.ensures ∙ c.if-turns_right.true) in
    passed_on _ c.from_residual.result c.in_err-turned.field-0.0 c.from_residual.ensures
    (λ levels h. c.in_err-turned.ensures.refused levels (subst (λ k. HoldKey c.args.store.now (drop c.args.depth c.args.shape.now) k levels) key h))

pub returns-in_err-turned-clause-cause : goal.returns-in_err-turned-clause-cause
returns-in_err-turned-clause-cause g c =
    passed_on _ c.from_residual.result c.in_err-turned.field-0.0 c.from_residual.ensures
    (cause_map _ _ (cause_turned g.L.Label.parts g.L.Label.part_count g.met.L.Label.all_parts c.args.gate.now c.args.shape.now c.args.depth (sym c.turns_right.ensures ∙ c.if-turns_right.true) c.args.store.now c.args.left c.args.right c.requires.left c.requires.right) _ c.in_err-turned.ensures.cause)
