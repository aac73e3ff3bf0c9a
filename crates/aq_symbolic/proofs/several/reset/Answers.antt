use Rattle.std.proofs.Common.{◌+◌, ◌*◌, ◌≤◌, true, false, length, refl, ◌∙◌, arith}
use Rattle.aq_prog.specs.Gates.{flip_gate}
use Rattle.aq_gate_ops.proofs.GateLemmas.{acting_later}
use Rattle.aq_obligations.specs.Worlds.{reset_world}
use Rattle.aq_store.proofs.StopLemmas.{passed_on}
use Rattle.aq_store.proofs.TableLemmas.{HasShape-Extends}
use Rattle.aq_measure_ops.proofs.ProjectionLemmas.{projecting_later}
use Rattle.aq_symbolic.specs.Weights.{price}
use Rattle.aq_symbolic.proofs.StepLemmas.{halves_leave, halves_stop, halves_unpaid, reset_half, two_fit}
use Rattle.aq_symbolic.proofs.StopLemmas.{keeps_paid, keeps_then, stopped_memory}
use Rattle.aq_symbolic.proofs.WeightLemmas.{price_some}
use Rattle.aq_symbolic.proofs.several.reset.Goals as goal

pub reset-requires-clause-fits : goal.reset-requires-clause-fits
reset-requires-clause-fits g c = HasShape-Extends c.args.store.now c.take_outcome.new.store c.take_outcome.ensures.keeps.table c.args.world.lsta.shape.items c.args.world.lsta.root c.requires.fits

pub returns-in_err-pay-clause-err : goal.returns-in_err-pay-clause-err
returns-in_err-pay-clause-err g c =
    passed_on _ c.from_residual.result c.in_err-pay.field-0.0 c.from_residual.ensures
    (halves_unpaid g.L.Label.parts g.L.Label.part_count (λ n x. reset_world n c.args.qubit false x) (λ n x. reset_world n c.args.qubit true x) c.args.store.now c.args.steps.now c.pay.new.steps c.args.world c.in_err-pay.field-0.0 c.requires.fits c.pay.ensures.cheap c.in_err-pay.ensures.refused)

pub returns-in_err-pay-clause-keeps : goal.returns-in_err-pay-clause-keeps
returns-in_err-pay-clause-keeps g c = keeps_paid c.args.store.now c.args.steps.now c.pay.new.steps c.requires.paid c.pay.ensures.later c.pay.ensures.limit

pub returns-in_err-zero-clause-err : goal.returns-in_err-zero-clause-err
returns-in_err-zero-clause-err g c =
    let some = price_some c.args.store.now c.args.world.lsta c.requires.fits in
    let paid = c.pay.ensures.cheap in
    let le : c.pay.new.steps.taken + 2 * price c.args.world.lsta.shape.items ≤ c.args.steps.now.taken + 8 * price c.args.world.lsta.shape.items = omega (arith, some, paid) in
    passed_on _ c.from_residual-in_err-zero.result c.in_err-zero.field-0.0 c.from_residual-in_err-zero.ensures
    (halves_stop g.L.Label.parts g.L.Label.part_count (λ n x. reset_world n c.args.qubit false x) (λ n x. reset_world n c.args.qubit true x) c.args.store.now c.args.steps.now c.pay.new.steps c.take_outcome.new.steps (2 * price c.args.world.lsta.shape.items) c.args.world c.in_err-zero.field-0.0 c.pay.ensures.limit le c.in_err-zero.ensures.refused c.in_err-zero.ensures.narrow)

pub returns-in_err-zero-clause-keeps : goal.returns-in_err-zero-clause-keeps
returns-in_err-zero-clause-keeps g c =
    keeps_then c.args.store.now c.args.store.now c.take_outcome.new.store c.args.steps.now c.pay.new.steps c.take_outcome.new.steps (keeps_paid c.args.store.now c.args.steps.now c.pay.new.steps c.requires.paid c.pay.ensures.later c.pay.ensures.limit) c.take_outcome.ensures.keeps

pub returns-in_err-other-clause-err : goal.returns-in_err-other-clause-err
returns-in_err-other-clause-err g c =
    let some = price_some c.args.store.now c.args.world.lsta c.requires.fits in
    let paid = c.pay.ensures.cheap in
    let first = c.take_outcome.ensures.steps in
    let le : c.take_outcome.new.steps.taken + 4 * price c.args.world.lsta.shape.items ≤ c.args.steps.now.taken + 8 * price c.args.world.lsta.shape.items = omega (arith, some, paid, first) in
    passed_on _ c.from_residual-in_err-other.result c.in_err-other.field-0.0 c.from_residual-in_err-other.ensures
    (halves_stop g.L.Label.parts g.L.Label.part_count (λ n x. reset_world n c.args.qubit false x) (λ n x. reset_world n c.args.qubit true x) c.args.store.now c.args.steps.now c.take_outcome.new.steps c.reset.new.steps (4 * price c.args.world.lsta.shape.items) c.args.world c.in_err-other.field-0.0 (c.take_outcome.ensures.keeps.limit ∙ c.pay.ensures.limit) le c.in_err-other.ensures.refused c.in_err-other.ensures.narrow)

pub alive-requires : goal.alive-requires
alive-requires g c = two_fit c.take_outcome.new.store c.reset.new.store c.in_ok-zero.zero c.in_ok-other.other c.in-Ok.both.items c.in-Ok.ensures c.reset.ensures.keeps.table c.in_ok-zero.ensures.set.fits c.in_ok-other.ensures.set.fits

pub returns-clause-ok : goal.returns-clause-ok
returns-clause-ok g c =
    let some = price_some c.args.store.now c.args.world.lsta c.requires.fits in
    let paid = c.pay.ensures.cheap in
    let first = c.take_outcome.ensures.steps in
    let second = c.reset.ensures.steps in
    let cheap : c.reset.new.steps.taken ≤ c.args.steps.now.taken + 8 * price c.args.world.lsta.shape.items = omega (arith, some, paid, first, second) in
    halves_leave g.L.Label.parts g.L.Label.part_count (λ n x. reset_world n c.args.qubit false x) (λ n x. reset_world n c.args.qubit true x) c.args.store.now c.take_outcome.new.store c.reset.new.store c.args.steps.now c.reset.new.steps c.args.world c.in_ok-zero.zero c.in_ok-other.other c.in-Ok.both.items c.in-Ok-alive.list.items c.take_outcome.ensures.keeps.table c.reset.ensures.keeps.table
    (reset_half g.L.Label.parts g.L.Label.part_count c.args.qubit false c.args.store.now c.take_outcome.new.store c.args.world c.in_ok-zero.zero c.in_ok-zero.ensures.fields c.in_ok-zero.ensures.set)
    (reset_half g.L.Label.parts g.L.Label.part_count c.args.qubit true c.take_outcome.new.store c.reset.new.store c.args.world c.in_ok-other.other c.in_ok-other.ensures.fields c.in_ok-other.ensures.set)
    c.in-Ok.ensures c.in-Ok-alive.ensures cheap

pub returns-in_default-clause-err : goal.returns-in_default-clause-err
returns-in_default-clause-err g c =
    let some = price_some c.args.store.now c.args.world.lsta c.requires.fits in
    let paid = c.pay.ensures.cheap in
    let first = c.take_outcome.ensures.steps in
    let second = c.reset.ensures.steps in
    let cheap : c.reset.new.steps.taken ≤ c.args.steps.now.taken + 8 * price c.args.world.lsta.shape.items = omega (arith, some, paid, first, second) in
    halves_stop g.L.Label.parts g.L.Label.part_count (λ n x. reset_world n c.args.qubit false x) (λ n x. reset_world n c.args.qubit true x) c.args.store.now c.args.steps.now c.args.steps.now c.reset.new.steps (8 * price c.args.world.lsta.shape.items) c.args.world _ refl (omega arith) (stopped_memory c.args.steps.now c.reset.new.steps (8 * price c.args.world.lsta.shape.items) cheap) tt

pub returns-in_default-alive-clause-err : goal.returns-in_default-alive-clause-err
returns-in_default-alive-clause-err g c =
    let some = price_some c.args.store.now c.args.world.lsta c.requires.fits in
    let paid = c.pay.ensures.cheap in
    let first = c.take_outcome.ensures.steps in
    let second = c.reset.ensures.steps in
    let cheap : c.reset.new.steps.taken ≤ c.args.steps.now.taken + 8 * price c.args.world.lsta.shape.items = omega (arith, some, paid, first, second) in
    halves_stop g.L.Label.parts g.L.Label.part_count (λ n x. reset_world n c.args.qubit false x) (λ n x. reset_world n c.args.qubit true x) c.args.store.now c.args.steps.now c.args.steps.now c.reset.new.steps (8 * price c.args.world.lsta.shape.items) c.args.world _ refl (omega arith) (stopped_memory c.args.steps.now c.reset.new.steps (8 * price c.args.world.lsta.shape.items) cheap) tt

pub reset-requires-clause-memo : goal.reset-requires-clause-memo
reset-requires-clause-memo g c = projecting_later g.L.Label.parts c.args.qubit true (length c.args.world.lsta.shape.items) c.args.store.now c.take_outcome.new.store c.take_outcome.ensures.keeps.table c.args.memos.now.other c.requires.memos.outcomes.other

pub reset-requires-clause-flip : goal.reset-requires-clause-flip
reset-requires-clause-flip g c =
    acting_later g.L.Label.parts g.L.Label.part_count (flip_gate c.args.qubit) (length c.args.world.lsta.shape.items) c.args.store.now c.take_outcome.new.store c.take_outcome.ensures.keeps.table c.args.memos.now.acting c.requires.memos.flip

pub returns-clause-memos : goal.returns-clause-memos
returns-clause-memos g c = record {
  outcomes = record {
    zero = projecting_later g.L.Label.parts c.args.qubit false (length c.args.world.lsta.shape.items) c.take_outcome.new.store c.reset.new.store c.reset.ensures.keeps.table c.take_outcome.new.projecting c.in_ok-zero.ensures.memo;
    other = c.in_ok-other.ensures.memo;
  };
  flip = c.in_ok-other.ensures.flip;
}
