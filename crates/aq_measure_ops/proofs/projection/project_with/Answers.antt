use Rattle.std.proofs.Common.{◌+◌, ◌≤◌, ◌*◌, ◌^◌, arith, rules, sym, ap, ◌∙◌, subst, drop, length, ◌≡◌, ◌-◌, refl, [], ◌∷◌, is_some, zero, ℕ}
use Rattle.std.proofs.lemmas.Grind.{common_steps}
use Rattle.aq_store.specs.Nodes.{HasShape, FitsStore, tree}
use Rattle.aq_store.specs.Means.{of_place}
use Rattle.aq_store.specs.Memos.{memo_at, is_done}
use Rattle.aq_store.specs.Owed.{owed, prices_of}
use Rattle.aq_store.proofs.TableLemmas.{HasShape-Extends}
use Rattle.aq_store.specs.Words.{words}
use Rattle.aq_store.proofs.StopLemmas.{GivesUp-within, passed_on}
use Rattle.aq_measure_ops.specs.Budget.{total}
use Rattle.aq_measure_ops.specs.Projection.{IsMemo, Projects}
use Rattle.aq_measure_ops.proofs.BudgetLemmas.{budget, copy_steps}
use Rattle.aq_measure_ops.proofs.LevelBounds.{root_any}
use Rattle.aq_measure_ops.proofs.PaddingLemmas.{wider_refl}
use Rattle.aq_measure_ops.proofs.ProjectionLemmas.{positive, projected, projecting_later}
use Rattle.aq_measure_ops.proofs.projection.project_with.Goals as goal

pub blank_from-requires-clause-some : goal.blank_from-requires-clause-some
blank_from-requires-clause-some g c =
    positive c.args.store.now c.as_slice-shape.result.now c.args.lsta.now.root (subst (λ s. HasShape c.args.store.now s c.args.lsta.now.root) (sym c.as_slice-shape.ensures.value) c.requires.fits)

pub project_at-requires-clause-shape : goal.project_at-requires-clause-shape
project_at-requires-clause-shape g c =
    HasShape-Extends c.args.store.now c.blank_from.new.store c.blank_from.ensures.keeps c.as_slice-shape.result.now c.args.lsta.now.root
    (subst (λ s. HasShape c.args.store.now s c.args.lsta.now.root) (sym c.as_slice-shape.ensures.value) c.requires.fits)

pub project_at-requires-clause-memo : goal.project_at-requires-clause-memo
project_at-requires-clause-memo g c = subst (λ n. IsMemo g.L.Label.parts c.args.qubit c.args.outcome n c.blank_from.new.store (memo_at c.args.projecting.now.nodes)) (sym (ap length c.as_slice-shape.ensures.value))
    (projecting_later g.L.Label.parts c.args.qubit c.args.outcome (length c.args.lsta.now.shape.items) c.args.store.now c.blank_from.new.store c.blank_from.ensures.keeps c.args.projecting.now c.requires.memo)

pub returns-clause-memo : goal.returns-clause-memo
returns-clause-memo g c = subst (λ n. IsMemo g.L.Label.parts c.args.qubit c.args.outcome n c.project_at.new.store (memo_at c.project_at.new.memo)) (ap length c.as_slice-shape.ensures.value) c.in_ok-root.ensures.memo

pub returns-clause-projected : goal.returns-clause-projected
returns-clause-projected g c =
    let s = subst (λ s. HasShape c.args.store.now s c.args.lsta.now.root) (sym c.as_slice-shape.ensures.value) c.requires.fits in
    let image = c.in_ok-root.ensures.image in
    let same : c.in-Ok.shape.items ≡ c.as_slice-shape.result.now = grind (arith, common_steps, c.in-Ok.ensures.items_if_clones_equal) in
    record {
      shape = same ∙ c.as_slice-shape.ensures.value;
      fits = subst (λ u. HasShape c.project_at.new.store u c.in_ok-root.root) (sym same) image.shaped;
      words = projected g.L.Label.parts c.args.outcome c.args.store.now c.blank_from.new.store c.project_at.new.store c.blank_from.ensures.keeps c.as_slice-shape.result.now
          c.args.lsta.now.shape.items c.args.qubit c.args.lsta.now.root c.in_ok-root.root c.as_slice-shape.ensures.value s image;
    }

pub returns-in_err-root-clause-steps : goal.returns-in_err-root-clause-steps
returns-in_err-root-clause-steps g c =
    let fits = subst (λ s. HasShape c.args.store.now s c.args.lsta.now.root) (sym c.as_slice-shape.ensures.value) c.requires.fits in
    let most = copy_steps c.as_slice-shape.result.now c.args.lsta.now.shape.items c.as_slice-shape.ensures.value
    (positive c.args.store.now c.as_slice-shape.result.now c.args.lsta.now.root fits) (c.args.qubit + 1) in
    let here = HasShape-Extends c.args.store.now c.blank_from.new.store c.blank_from.ensures.keeps c.as_slice-shape.result.now c.args.lsta.now.root fits in
    let r = root_any c.blank_from.new.store (is_done (memo_at c.args.projecting.now.nodes)) c.as_slice-shape.result.now c.as_slice-shape.result.now c.args.lsta.now.root (wider_refl c.as_slice-shape.result.now) here in
    let h = c.project_at.ensures.cheap r.0 r.1 in
    omega (arith, most, c.blank_from.ensures.steps, h, r.2)

pub returns-in_default-clause-steps : goal.returns-in_default-clause-steps
returns-in_default-clause-steps g c =
    let fits = subst (λ s. HasShape c.args.store.now s c.args.lsta.now.root) (sym c.as_slice-shape.ensures.value) c.requires.fits in
    let most = copy_steps c.as_slice-shape.result.now c.args.lsta.now.shape.items c.as_slice-shape.ensures.value
    (positive c.args.store.now c.as_slice-shape.result.now c.args.lsta.now.root fits) (c.args.qubit + 1) in
    let here = HasShape-Extends c.args.store.now c.blank_from.new.store c.blank_from.ensures.keeps c.as_slice-shape.result.now c.args.lsta.now.root fits in
    let r = root_any c.blank_from.new.store (is_done (memo_at c.args.projecting.now.nodes)) c.as_slice-shape.result.now c.as_slice-shape.result.now c.args.lsta.now.root (wider_refl c.as_slice-shape.result.now) here in
    let h = c.project_at.ensures.cheap r.0 r.1 in
    omega (arith, most, c.blank_from.ensures.steps, h, r.2)

pub returns-clause-steps : goal.returns-clause-steps
returns-clause-steps g c =
    let fits = subst (λ s. HasShape c.args.store.now s c.args.lsta.now.root) (sym c.as_slice-shape.ensures.value) c.requires.fits in
    let most = copy_steps c.as_slice-shape.result.now c.args.lsta.now.shape.items c.as_slice-shape.ensures.value
    (positive c.args.store.now c.as_slice-shape.result.now c.args.lsta.now.root fits) (c.args.qubit + 1) in
    let here = HasShape-Extends c.args.store.now c.blank_from.new.store c.blank_from.ensures.keeps c.as_slice-shape.result.now c.args.lsta.now.root fits in
    let r = root_any c.blank_from.new.store (is_done (memo_at c.args.projecting.now.nodes)) c.as_slice-shape.result.now c.as_slice-shape.result.now c.args.lsta.now.root (wider_refl c.as_slice-shape.result.now) here in
    let h = c.project_at.ensures.cheap r.0 r.1 in
    omega (arith, most, c.blank_from.ensures.steps, h, r.2)

pub returns-in_err-zero-clause-steps : goal.returns-in_err-zero-clause-steps
returns-in_err-zero-clause-steps g c =
    let fits = subst (λ s. HasShape c.args.store.now s c.args.lsta.now.root) (sym c.as_slice-shape.ensures.value) c.requires.fits in
    let most = copy_steps c.as_slice-shape.result.now c.args.lsta.now.shape.items c.as_slice-shape.ensures.value
    (positive c.args.store.now c.as_slice-shape.result.now c.args.lsta.now.root fits) (c.args.qubit + 1) in
    omega (arith, most, c.blank_from.ensures.steps)

pub returns-in_err-zero-clause-refused : goal.returns-in_err-zero-clause-refused
returns-in_err-zero-clause-refused g c =
    let fits = subst (λ s. HasShape c.args.store.now s c.args.lsta.now.root) (sym c.as_slice-shape.ensures.value) c.requires.fits in
    let most = copy_steps c.as_slice-shape.result.now c.args.lsta.now.shape.items c.as_slice-shape.ensures.value
    (positive c.args.store.now c.as_slice-shape.result.now c.args.lsta.now.root fits) (c.args.qubit + 1) in
    passed_on _ c.from_residual.result c.in_err-zero.field-0.0 c.from_residual.ensures
    (GivesUp-within c.args.steps.now c.args.steps.now c.blank_from.new.steps (1 + total (drop (c.args.qubit + 1) c.as_slice-shape.result.now))
    (2 * words c.args.lsta.now.shape.items * 2 ^ (length c.args.lsta.now.shape.items + 1)) _ refl (omega (arith, most)) c.in_err-zero.ensures.refused)

pub returns-in_err-root-clause-refused : goal.returns-in_err-root-clause-refused
returns-in_err-root-clause-refused g c =
    let fits = subst (λ s. HasShape c.args.store.now s c.args.lsta.now.root) (sym c.as_slice-shape.ensures.value) c.requires.fits in
    let most = copy_steps c.as_slice-shape.result.now c.args.lsta.now.shape.items c.as_slice-shape.ensures.value
    (positive c.args.store.now c.as_slice-shape.result.now c.args.lsta.now.root fits) (c.args.qubit + 1) in
    let here = HasShape-Extends c.args.store.now c.blank_from.new.store c.blank_from.ensures.keeps c.as_slice-shape.result.now c.args.lsta.now.root fits in
    let r = root_any c.blank_from.new.store (is_done (memo_at c.args.projecting.now.nodes)) c.as_slice-shape.result.now c.as_slice-shape.result.now c.args.lsta.now.root (wider_refl c.as_slice-shape.result.now) here in
    passed_on _ c.from_residual-in_err-root.result c.in_err-root.field-0.0 c.from_residual-in_err-root.ensures
    (GivesUp-within c.args.steps.now c.blank_from.new.steps c.project_at.new.steps (owed (prices_of c.as_slice-shape.result.now) (is_done (memo_at c.args.projecting.now.nodes)) r.0)
    (2 * words c.args.lsta.now.shape.items * 2 ^ (length c.args.lsta.now.shape.items + 1)) _ c.blank_from.ensures.limit (omega (arith, most, c.blank_from.ensures.steps, r.2))
    (c.in_err-root.ensures.refused r.0 r.1))
