use Rattle.std.proofs.Common.{◌≡◌, ◌^◌, length, sym, ap, subst, ◌∙◌, arith}
use Rattle.std.proofs.lemmas.Grind.{common_steps}
use Rattle.aq_prog.specs.Gates.{IsValidGate, apply_gate, FitsGate}
use Rattle.aq_store.specs.Nodes.{HasShape, tree}
use Rattle.aq_store.specs.Memos.{memo_at, pair_memo_at}
use Rattle.aq_store.specs.Parts.{part_vector}
use Rattle.aq_store.proofs.ShapeLemmas.{tree_size, shape_height}
use Rattle.aq_store.proofs.TableLemmas.{one_height}
use Rattle.aq_gate_ops.proofs.KeyBounds.{place_within}
use Rattle.std.proofs.Common.{◌+◌, ◌*◌, ◌<◌, ◌-◌, suc, refl}
use Rattle.aq_store.specs.Memos.{is_done}
use Rattle.aq_store.specs.Words.{words}
use Rattle.aq_store.proofs.StopLemmas.{passed_on}
use Rattle.aq_gate_ops.specs.Accounts.{is_made, gate_owed}
use Rattle.aq_gate_ops.proofs.CauseLemmas.{cause_map, gate_cause}
use Rattle.aq_gate_ops.proofs.GateBounds.{gate_root, positive}
use Rattle.aq_gate_ops.proofs.KeyBounds.{gate_counted}
use Rattle.aq_gate_ops.proofs.StoppedLemmas.{stopped_within, stopped_memory}
use Rattle.aq_gate_ops.specs.Action.{IsActMemo, IsRowMemo}
use Rattle.aq_gate_ops.proofs.VectorLemmas.{acted_vector, acted_fits}
use Rattle.aq_gate_ops.proofs.action.apply_with.Goals as goal

pub act_at-requires-clause-memo : goal.act_at-requires-clause-memo
act_at-requires-clause-memo g c = subst (λ n. IsActMemo g.L.Label.parts g.L.Label.part_count c.args.gate.now n c.args.store.now (memo_at c.args.acting.now.nodes)) (sym (ap length c.as_slice-shape.ensures.value)) c.requires.acting.nodes

pub act_at-requires-clause-rows : goal.act_at-requires-clause-rows
act_at-requires-clause-rows g c = subst (λ n. IsRowMemo g.L.Label.parts g.L.Label.part_count c.args.gate.now n c.args.store.now (pair_memo_at c.args.acting.now.pairs)) (sym (ap length c.as_slice-shape.ensures.value)) c.requires.acting.pairs

pub returns-clause-acting : goal.returns-clause-acting
returns-clause-acting g c = record {
  nodes = subst (λ n. IsActMemo g.L.Label.parts g.L.Label.part_count c.args.gate.now n c.act_at.new.store (memo_at c.act_at.new.memo)) (ap length c.as_slice-shape.ensures.value) c.in_ok-root.ensures.memo;
  pairs = subst (λ n. IsRowMemo g.L.Label.parts g.L.Label.part_count c.args.gate.now n c.act_at.new.store (pair_memo_at c.act_at.new.rows)) (ap length c.as_slice-shape.ensures.value) c.in_ok-root.ensures.rows;
}

pub returns-clause-applied : goal.returns-clause-applied
returns-clause-applied g c =
    let is = c.as_slice-shape.ensures.value in
    let s = subst (λ s. HasShape c.args.store.now s c.args.lsta.now.root) (sym is) c.requires.fits in
    let valid = subst (λ s. IsValidGate (length s) c.args.gate.now) (sym is) c.requires.valid in
    let image = c.in_ok-root.ensures.image in
    let same : c.in-Ok.shape.items ≡ c.as_slice-shape.result.now = grind (arith, common_steps, c.in-Ok.ensures.items_if_clones_equal) in
    record {
      shape = same ∙ is;
      fits_store = subst (λ u. HasShape c.act_at.new.store u c.in_ok-root.root) (sym same) image.shaped;
      words = λ word k lt. acted_vector g.L.Label.parts g.L.Label.part_count (length c.as_slice-shape.result.now) c.args.gate.now valid (tree c.args.store.now word c.args.lsta.now.root) (tree c.act_at.new.store word c.in_ok-root.root) (image.words word)
          (tree_size c.args.store.now c.as_slice-shape.result.now c.args.lsta.now.root s word) k lt
          ∙ ap (λ u. apply_gate (length u) c.args.gate.now (part_vector g.L.Label.parts k (tree c.args.store.now word c.args.lsta.now.root))) is;
      fits = λ word k lt. subst (λ u. FitsGate (length u) c.args.gate.now (part_vector g.L.Label.parts k (tree c.args.store.now word c.args.lsta.now.root))) is
          (acted_fits g.L.Label.parts g.L.Label.part_count (length c.as_slice-shape.result.now) c.args.gate.now valid (tree c.args.store.now word c.args.lsta.now.root) (tree c.act_at.new.store word c.in_ok-root.root) (image.words word)
          (tree_size c.args.store.now c.as_slice-shape.result.now c.args.lsta.now.root s word) k lt);
    }

pub returns-clause-steps : goal.returns-clause-steps
returns-clause-steps g c =
    let is = c.as_slice-shape.ensures.value in
    let s = subst (λ s. HasShape c.args.store.now s c.args.lsta.now.root) (sym is) c.requires.fits in
    let valid = subst (λ s. IsValidGate (length s) c.args.gate.now) (sym is) c.requires.valid in
    let lt : c.args.gate.now.target - 0 < length c.as_slice-shape.result.now = omega (arith, valid.target) in
    let r = gate_root c.args.gate.now c.args.store.now (is_done (memo_at c.args.acting.now.nodes)) (is_made c.args.acting.now.pairs)
    (c.args.gate.now.target - 0) c.as_slice-shape.result.now c.args.lsta.now.shape.items c.args.lsta.now.root is lt (positive c.args.store.now c.as_slice-shape.result.now c.args.lsta.now.root s) s in
    omega (arith, (c.in_ok-root.ensures.steps r.0 r.1 r.2).all, r.3)

pub returns-in_default-clause-steps : goal.returns-in_default-clause-steps
returns-in_default-clause-steps g c =
    let is = c.as_slice-shape.ensures.value in
    let s = subst (λ s. HasShape c.args.store.now s c.args.lsta.now.root) (sym is) c.requires.fits in
    let valid = subst (λ s. IsValidGate (length s) c.args.gate.now) (sym is) c.requires.valid in
    let lt : c.args.gate.now.target - 0 < length c.as_slice-shape.result.now = omega (arith, valid.target) in
    let r = gate_root c.args.gate.now c.args.store.now (is_done (memo_at c.args.acting.now.nodes)) (is_made c.args.acting.now.pairs)
    (c.args.gate.now.target - 0) c.as_slice-shape.result.now c.args.lsta.now.shape.items c.args.lsta.now.root is lt (positive c.args.store.now c.as_slice-shape.result.now c.args.lsta.now.root s) s in
    omega (arith, (c.in_ok-root.ensures.steps r.0 r.1 r.2).all, r.3)

pub returns-in_err-root-clause-steps : goal.returns-in_err-root-clause-steps
returns-in_err-root-clause-steps g c =
    let is = c.as_slice-shape.ensures.value in
    let s = subst (λ s. HasShape c.args.store.now s c.args.lsta.now.root) (sym is) c.requires.fits in
    let valid = subst (λ s. IsValidGate (length s) c.args.gate.now) (sym is) c.requires.valid in
    let lt : c.args.gate.now.target - 0 < length c.as_slice-shape.result.now = omega (arith, valid.target) in
    let r = gate_root c.args.gate.now c.args.store.now (is_done (memo_at c.args.acting.now.nodes)) (is_made c.args.acting.now.pairs)
    (c.args.gate.now.target - 0) c.as_slice-shape.result.now c.args.lsta.now.shape.items c.args.lsta.now.root is lt (positive c.args.store.now c.as_slice-shape.result.now c.args.lsta.now.root s) s in
    omega (arith, (c.in_err-root.ensures.refused r.0 r.1 r.2).cheap, r.3)

pub returns-in_err-root-clause-refused : goal.returns-in_err-root-clause-refused
returns-in_err-root-clause-refused g c =
    let is = c.as_slice-shape.ensures.value in
    let s = subst (λ s. HasShape c.args.store.now s c.args.lsta.now.root) (sym is) c.requires.fits in
    let valid = subst (λ s. IsValidGate (length s) c.args.gate.now) (sym is) c.requires.valid in
    let lt : c.args.gate.now.target - 0 < length c.as_slice-shape.result.now = omega (arith, valid.target) in
    let r = gate_root c.args.gate.now c.args.store.now (is_done (memo_at c.args.acting.now.nodes)) (is_made c.args.acting.now.pairs)
    (c.args.gate.now.target - 0) c.as_slice-shape.result.now c.args.lsta.now.shape.items c.args.lsta.now.root is lt (positive c.args.store.now c.as_slice-shape.result.now c.args.lsta.now.root s) s in
    passed_on _ c.from_residual.result c.in_err-root.field-0.0 c.from_residual.ensures
    (stopped_within c.args.steps.now c.args.steps.now c.act_at.new.steps (gate_owed (suc (c.args.gate.now.target - 0)) c.as_slice-shape.result.now c.args.acting.now.nodes c.args.acting.now.pairs r.0 r.1 + 0) (2 * words c.args.lsta.now.shape.items * 2 ^ (length c.args.lsta.now.shape.items + 1)) _ refl (omega (arith, r.3)) (c.in_err-root.ensures.refused r.0 r.1 r.2))

pub returns-in_default-clause-refused : goal.returns-in_default-clause-refused
returns-in_default-clause-refused g c =
    let is = c.as_slice-shape.ensures.value in
    let s = subst (λ s. HasShape c.args.store.now s c.args.lsta.now.root) (sym is) c.requires.fits in
    let valid = subst (λ s. IsValidGate (length s) c.args.gate.now) (sym is) c.requires.valid in
    let lt : c.args.gate.now.target - 0 < length c.as_slice-shape.result.now = omega (arith, valid.target) in
    let r = gate_root c.args.gate.now c.args.store.now (is_done (memo_at c.args.acting.now.nodes)) (is_made c.args.acting.now.pairs)
    (c.args.gate.now.target - 0) c.as_slice-shape.result.now c.args.lsta.now.shape.items c.args.lsta.now.root is lt (positive c.args.store.now c.as_slice-shape.result.now c.args.lsta.now.root s) s in
    stopped_memory c.args.steps.now c.act_at.new.steps (2 * words c.args.lsta.now.shape.items * 2 ^ (length c.args.lsta.now.shape.items + 1)) _ (omega (arith, (c.in_ok-root.ensures.steps r.0 r.1 r.2).all, r.3)) refl

pub returns-in_err-root-clause-cause : goal.returns-in_err-root-clause-cause
returns-in_err-root-clause-cause g c =
    passed_on _ c.from_residual.result c.in_err-root.field-0.0 c.from_residual.ensures
    (cause_map _ _ (gate_cause g.L.Label.parts g.L.Label.part_count c.args.gate.now c.args.store.now c.args.lsta.now c.as_slice-shape.result.now c.as_slice-shape.ensures.value) _ c.in_err-root.ensures.cause)

pub returns-clause-besides : goal.returns-clause-besides
returns-clause-besides g c =
    let is = c.as_slice-shape.ensures.value in
    let s = subst (λ s. HasShape c.args.store.now s c.args.lsta.now.root) (sym is) c.requires.fits in
    let r = gate_counted c.args.gate.now c.args.store.now (is_done (memo_at c.args.acting.now.nodes)) (is_made c.args.acting.now.pairs)
    (c.args.gate.now.target - 0) c.as_slice-shape.result.now c.args.lsta.now is s in
    omega (arith, (c.in_ok-root.ensures.steps r.0 r.1 r.2).besides, r.3)

pub height-levels-requires : goal.height-levels-requires
height-levels-requires g c = place_within c.args.store.now c.args.lsta.now.shape.items c.args.lsta.now.root c.requires.fits

pub act_at-requires-clause-small : goal.act_at-requires-clause-small
act_at-requires-clause-small g c =
    let is = c.as_slice-shape.ensures.value in
    let tall = one_height c.args.store.now (length c.args.lsta.now.shape.items) c.height-levels.result c.args.lsta.now.root (shape_height c.args.store.now c.args.lsta.now.shape.items c.args.lsta.now.root c.requires.fits) c.height-levels.ensures in
    let same = ap length is in
    omega arith
