use Rattle.std.proofs.Common.{◌+◌, ◌≤◌, ◌*◌, ◌^◌, arith, rules, sym, ap, ◌∙◌, subst, drop, length, ◌≡◌, refl, is_some, ℕ}
use Rattle.std.proofs.lemmas.Grind.{common_steps}
use Rattle.aq_store.specs.Nodes.{HasShape}
use Rattle.aq_store.specs.Memos.{memo_at, is_done}
use Rattle.aq_store.specs.Owed.{owed, prices_of}
use Rattle.aq_store.specs.Words.{words, IsWider, shortened}
use Rattle.aq_store.proofs.StopLemmas.{GivesUp-within, passed_on}
use Rattle.aq_measure_ops.proofs.BudgetLemmas.{budget, budget_steps}
use Rattle.aq_measure_ops.proofs.LevelBounds.{root_bound}
use Rattle.aq_measure_ops.proofs.PaddingLemmas.{wider-length, wider-some, IsPadMemo-none, padded_root}
use Rattle.aq_measure_ops.proofs.ProjectionLemmas.{positive}
use Rattle.aq_measure_ops.proofs.padding.pad.Goals as goal

pub pad_at-requires-clause-shape : goal.pad_at-requires-clause-shape
pad_at-requires-clause-shape g c =
    let fits = subst (λ s. HasShape c.args.store.now s c.args.lsta.now.root) (sym c.as_slice-from.ensures.value) c.requires.fits in
    fits

pub pad_at-requires-clause-wider : goal.pad_at-requires-clause-wider
pad_at-requires-clause-wider g c =
    let wider = subst (λ s. IsWider s c.args.shape.now) (sym c.as_slice-from.ensures.value) c.requires.wider in
    wider

pub same_from-same-requires : goal.same_from-same-requires
same_from-same-requires g c =
    ap length c.as_slice-from.ensures.value ∙ wider-length c.args.lsta.now.shape.items c.args.shape.now c.requires.wider

pub pad_at-requires-clause-memo : goal.pad_at-requires-clause-memo
pad_at-requires-clause-memo g c =
    IsPadMemo-none c.args.store.now c.args.shape.now (memo_at c.new-memo.result) c.new-memo.ensures

pub returns-clause-padded : goal.returns-clause-padded
returns-clause-padded g c =
    let image = c.in_ok-root.ensures.image in
    let same : c.in-Ok.shape.items ≡ c.args.shape.now = grind (arith, common_steps, c.in-Ok.ensures.items_if_clones_equal) in
    record {
      shape = same;
      fits = subst (λ u. HasShape c.pad_at.new.store u c.in_ok-root.root) (sym same) image.shaped;
      words = padded_root c.args.store.now c.pad_at.new.store c.as_slice-from.result.now c.args.lsta.now.shape.items c.args.shape.now c.args.lsta.now.root c.in_ok-root.root
          c.as_slice-from.ensures.value image;
    }

pub returns-in_err-root-clause-steps : goal.returns-in_err-root-clause-steps
returns-in_err-root-clause-steps g c =
    let fits = subst (λ s. HasShape c.args.store.now s c.args.lsta.now.root) (sym c.as_slice-from.ensures.value) c.requires.fits in
    let wider = subst (λ s. IsWider s c.args.shape.now) (sym c.as_slice-from.ensures.value) c.requires.wider in
    let most = budget_steps c.args.shape.now (wider-some c.as_slice-from.result.now c.args.shape.now wider (positive c.args.store.now c.as_slice-from.result.now c.args.lsta.now.root fits)) in
    let r = root_bound c.args.store.now (is_done (memo_at c.new-memo.result)) (λ i. ap is_some (c.new-memo.ensures i)) c.as_slice-from.result.now c.args.shape.now
    c.args.lsta.now.root wider fits in
    let h = c.pad_at.ensures.cheap r.0 r.1 in
    omega (arith, most, h, r.2)

pub returns-in_default-clause-steps : goal.returns-in_default-clause-steps
returns-in_default-clause-steps g c =
    let fits = subst (λ s. HasShape c.args.store.now s c.args.lsta.now.root) (sym c.as_slice-from.ensures.value) c.requires.fits in
    let wider = subst (λ s. IsWider s c.args.shape.now) (sym c.as_slice-from.ensures.value) c.requires.wider in
    let most = budget_steps c.args.shape.now (wider-some c.as_slice-from.result.now c.args.shape.now wider (positive c.args.store.now c.as_slice-from.result.now c.args.lsta.now.root fits)) in
    let r = root_bound c.args.store.now (is_done (memo_at c.new-memo.result)) (λ i. ap is_some (c.new-memo.ensures i)) c.as_slice-from.result.now c.args.shape.now
    c.args.lsta.now.root wider fits in
    let h = c.pad_at.ensures.cheap r.0 r.1 in
    omega (arith, most, h, r.2)

pub returns-clause-steps : goal.returns-clause-steps
returns-clause-steps g c =
    let fits = subst (λ s. HasShape c.args.store.now s c.args.lsta.now.root) (sym c.as_slice-from.ensures.value) c.requires.fits in
    let wider = subst (λ s. IsWider s c.args.shape.now) (sym c.as_slice-from.ensures.value) c.requires.wider in
    let most = budget_steps c.args.shape.now (wider-some c.as_slice-from.result.now c.args.shape.now wider (positive c.args.store.now c.as_slice-from.result.now c.args.lsta.now.root fits)) in
    let r = root_bound c.args.store.now (is_done (memo_at c.new-memo.result)) (λ i. ap is_some (c.new-memo.ensures i)) c.as_slice-from.result.now c.args.shape.now
    c.args.lsta.now.root wider fits in
    let h = c.pad_at.ensures.cheap r.0 r.1 in
    omega (arith, most, h, r.2)

pub returns-in_err-root-clause-refused : goal.returns-in_err-root-clause-refused
returns-in_err-root-clause-refused g c =
    let fits = subst (λ s. HasShape c.args.store.now s c.args.lsta.now.root) (sym c.as_slice-from.ensures.value) c.requires.fits in
    let wider = subst (λ s. IsWider s c.args.shape.now) (sym c.as_slice-from.ensures.value) c.requires.wider in
    let most = budget_steps c.args.shape.now (wider-some c.as_slice-from.result.now c.args.shape.now wider (positive c.args.store.now c.as_slice-from.result.now c.args.lsta.now.root fits)) in
    let r = root_bound c.args.store.now (is_done (memo_at c.new-memo.result)) (λ i. ap is_some (c.new-memo.ensures i)) c.as_slice-from.result.now c.args.shape.now
    c.args.lsta.now.root wider fits in
    passed_on _ c.from_residual.result c.in_err-root.field-0.0 c.from_residual.ensures
    (GivesUp-within c.args.steps.now c.args.steps.now c.pad_at.new.steps (owed (prices_of c.args.shape.now) (is_done (memo_at c.new-memo.result)) r.0)
    (2 * words c.args.shape.now * 2 ^ (length c.args.shape.now + 1)) _ refl (omega (arith, most, r.2)) (c.in_err-root.ensures.refused r.0 r.1))
