use Rattle.std.proofs.Common.{◌≡◌, ℕ, ◌+◌, ◌<◌, ◌≤◌, ◌∷◌, length, drop, get_or, OnOk, IfErr, arith, ap, subst, sym, ◌∙◌, refl}
use Rattle.aq_store.specs.Memos.{memo_at}
use Rattle.aq_store.specs.Nodes.{HasShape}
use Rattle.aq_store.specs.Accounts.{HoldPairs, TakesOwed, PaysOwed, StopsOwed}
use Rattle.aq_store.specs.Words.{IsWider, first_number, lower}
use Rattle.aq_measure_ops.specs.Padding.{Padded, Appends}
use Rattle.aq_measure_ops.proofs.PaddingLemmas.{wider-length}
use Rattle.aq_measure_ops.proofs.UnitedLemmas.{first_at}
use Rattle.aq_measure_ops.proofs.joining.join_part.Goals as goal

pub same_from-same-requires : goal.same_from-same-requires
same_from-same-requires g c = ap length c.as_slice-from.ensures.value ∙ wider-length c.args.part.now.shape.items c.args.shape.now c.requires.wider

pub pad_runs-requires-clause-shape : goal.pad_runs-requires-clause-shape
pad_runs-requires-clause-shape g c = subst (λ u. HasShape c.args.store.now u c.args.part.now.root) (sym c.as_slice-from.ensures.value) c.requires.fits

pub pad_runs-requires-clause-wider : goal.pad_runs-requires-clause-wider
pad_runs-requires-clause-wider g c = subst (λ u. IsWider u c.args.shape.now) (sym c.as_slice-from.ensures.value) c.requires.wider

pub pad_runs-requires-clause-room : goal.pad_runs-requires-clause-room
pad_runs-requires-clause-room g c = omega (arith, c.requires.room, first_at c.args.part.now.shape.items, ap (λ u. get_or u 0 0) c.as_slice-from.ensures.value)

pub returns-clause-pairs : goal.returns-clause-pairs
returns-clause-pairs g c =
    let number : get_or c.args.part.now.shape.items 0 0 + 0 ≡ first_number c.args.part.now.shape.items = omega (arith, first_at c.args.part.now.shape.items) in
    subst (λ k. OnOk c.pad_runs.result (Appends (Padded c.args.store.now c.args.part.now.shape.items (k ∷ lower c.args.shape.now) c.args.part.now.root) c.pad_runs.new.store
    (lower c.args.shape.now) k c.args.pairs.now c.pad_runs.new.pairs)) number
    (subst (λ u. OnOk c.pad_runs.result (Appends (Padded c.args.store.now u ((get_or u 0 0 + 0) ∷ lower c.args.shape.now) c.args.part.now.root) c.pad_runs.new.store
    (lower c.args.shape.now) (get_or u 0 0 + 0) c.args.pairs.now c.pad_runs.new.pairs)) c.as_slice-from.ensures.value
    c.pad_runs.ensures.pairs)

pub returns-clause-cheap : goal.returns-clause-cheap
returns-clause-cheap g c =
    subst (λ u. TakesOwed (HoldPairs c.args.store.now (lower u) c.args.part.now.root) (lower c.args.shape.now)
    (memo_at c.args.memo.now) c.args.steps.now c.pad_runs.new.steps) c.as_slice-from.ensures.value c.pad_runs.ensures.cheap

pub returns-clause-steps : goal.returns-clause-steps
returns-clause-steps g c =
    subst (λ u. OnOk c.pad_runs.result (PaysOwed (HoldPairs c.args.store.now (lower u) c.args.part.now.root) (lower c.args.shape.now) (memo_at c.args.memo.now)
    (memo_at c.pad_runs.new.memo) c.args.steps.now c.pad_runs.new.steps)) c.as_slice-from.ensures.value c.pad_runs.ensures.steps

pub returns-clause-refused : goal.returns-clause-refused
returns-clause-refused g c =
    subst (λ u. IfErr c.pad_runs.result (StopsOwed (HoldPairs c.args.store.now (lower u) c.args.part.now.root) (lower c.args.shape.now)
    (memo_at c.args.memo.now) c.args.steps.now c.pad_runs.new.steps)) c.as_slice-from.ensures.value c.pad_runs.ensures.refused
