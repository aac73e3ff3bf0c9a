use Rattle.std.proofs.Common.{arith}
use Rattle.aq_store.proofs.StopLemmas.{passed_on}
use Rattle.aq_gate_ops.specs.Causes.{IsWideLeaves}
use Rattle.aq_gate_ops.proofs.CauseLemmas.{not_spent, wide_cause, cause_map}
use Rattle.aq_gate_ops.proofs.StoppedLemmas.{stopped_else}
use Rattle.aq_gate_ops.proofs.rows.mix_leaves.Goals as goal

pub returns-in_err-top-clause-refused : goal.returns-in_err-top-clause-refused
returns-in_err-top-clause-refused g c =
    passed_on _ c.from_residual.result c.in_err-top.field-0.0 c.from_residual.ensures
    (stopped_else c.args.steps.now c.args.steps.now 2 _ (omega arith) (not_spent _ _ c.in_err-top.ensures.wide))

pub returns-in_err-bottom-clause-refused : goal.returns-in_err-bottom-clause-refused
returns-in_err-bottom-clause-refused g c =
    passed_on _ c.from_residual-in_err-bottom.result c.in_err-bottom.field-0.0 c.from_residual-in_err-bottom.ensures
    (stopped_else c.args.steps.now c.args.steps.now 2 _ (omega arith) (not_spent _ _ c.in_err-bottom.ensures.wide))

pub returns-in_err-top-clause-cause : goal.returns-in_err-top-clause-cause
returns-in_err-top-clause-cause g c =
    passed_on _ c.from_residual.result c.in_err-top.field-0.0 c.from_residual.ensures
    (wide_cause _ (IsWideLeaves g.L.Label.parts g.L.Label.part_count c.args.gate.now c.args.store.now c.args.left c.args.right) (λ l r h. record { row = 0; within = omega arith; first = c.label-p.result; second = c.label-q.result; left_at = c.label-p.ensures; right_at = c.label-q.ensures; unfit = h }) _ c.in_err-top.ensures.wide)

pub returns-in_err-bottom-clause-cause : goal.returns-in_err-bottom-clause-cause
returns-in_err-bottom-clause-cause g c =
    passed_on _ c.from_residual-in_err-bottom.result c.in_err-bottom.field-0.0 c.from_residual-in_err-bottom.ensures
    (wide_cause _ (IsWideLeaves g.L.Label.parts g.L.Label.part_count c.args.gate.now c.args.store.now c.args.left c.args.right) (λ l r h. record { row = 1; within = omega arith; first = c.label-p.result; second = c.label-q.result; left_at = c.label-p.ensures; right_at = c.label-q.ensures; unfit = h }) _ c.in_err-bottom.ensures.wide)

pub returns-in_err-first-clause-cause : goal.returns-in_err-first-clause-cause
returns-in_err-first-clause-cause g c =
    passed_on _ c.from_residual-in_err-first.result c.in_err-first.field-0.0 c.from_residual-in_err-first.ensures
    (cause_map _ _ (λ l r h. absurd h) _ c.in_err-first.ensures.narrow)
