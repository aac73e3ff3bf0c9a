use Rattle.std.proofs.Common.{length, sym, subst, ◌∙◌}
use Rattle.aq_prog.specs.declared.gate.Gate.{Gate}
use Rattle.aq_gate_ops.specs.Action.{IsActing}
use Rattle.aq_plain.proofs.PlayLaws.{flip_valid}
use Rattle.aq_store.proofs.StopLemmas.{passed_on}
use Rattle.aq_symbolic.proofs.StopLemmas.{cause_map}
use Rattle.aq_symbolic.proofs.UnfitLemmas.{flip_is, flip_narrow}
use Rattle.aq_symbolic.proofs.kept.clear.Goals as goal

pub apply_with-requires-clause-valid : goal.apply_with-requires-clause-valid
apply_with-requires-clause-valid g c =
    let made = c.new-gate.ensures in
    flip_valid (length c.args.lsta.now.shape.items) c.args.qubit c.new-gate.result c.requires.qubit (made.controls ∙ c.new.ensures) made.target made.rows

pub returns-in_err-made-clause-narrow : goal.returns-in_err-made-clause-narrow
returns-in_err-made-clause-narrow g c =
    let made = c.new-gate.ensures in
    passed_on _ c.from_residual.result c.in_err-made.field-0.0 c.from_residual.ensures
    (cause_map _ _ (flip_narrow g.L.Label.parts g.L.Label.part_count g.met.L.Label.all_parts c.args.qubit c.new-gate.result c.args.store.now c.args.lsta.now (made.controls ∙ c.new.ensures) made.target made.rows) _ c.in_err-made.ensures.cause)

pub apply_with-requires-clause-acting : goal.apply_with-requires-clause-acting
apply_with-requires-clause-acting g c =
    let made = c.new-gate.ensures in
    subst (λ (x : Gate). IsActing g.L.Label.parts g.L.Label.part_count x (length c.args.lsta.now.shape.items) c.args.store.now c.args.flip.now) (sym (flip_is c.args.qubit c.new-gate.result (made.controls ∙ c.new.ensures) made.target made.rows)) c.requires.memo

pub returns-clause-memo : goal.returns-clause-memo
returns-clause-memo g c =
    let made = c.new-gate.ensures in
    subst (λ (x : Gate). IsActing g.L.Label.parts g.L.Label.part_count x (length c.args.lsta.now.shape.items) c.apply_with.new.store c.apply_with.new.acting) (flip_is c.args.qubit c.new-gate.result (made.controls ∙ c.new.ensures) made.target made.rows) c.in_ok-made.ensures.acting
