use Rattle.std.proofs.Common.{◌≡◌, ℕ, refl, subst, ◌∙◌, arith}
use Rattle.aq_store.proofs.StopLemmas.{GivesUp-within, passed_on}
use Rattle.aq_decide.specs.Budgets.{split_budget}
use Rattle.aq_decide.specs.Splitting.{AreDecided, asked_bits}
use Rattle.aq_decide.proofs.SplitLemmas.{decided_none, decided_step, still_bits}
use Rattle.aq_decide.proofs.split.split_all.Goals as goal

pub loop-bit-init : goal.loop-bit-init
loop-bit-init c = record { decided = decided_none c.args.worlds.items; left = omega arith; later = omega arith; limit = refl }

pub split_asked-requires-clause-sized : goal.split_asked-requires-clause-sized
split_asked-requires-clause-sized c = still_bits _ c.args.bits c.args.worlds.items c.loop-bit.left.items c.requires c.loop-bit.invariant.decided

pub loop-bit-preserved : goal.loop-bit-preserved
loop-bit-preserved c =
    let i = c.loop-bit.invariant in
    let h = c.in_ok-left.ensures in
    let s = c.split_asked.ensures in
    record {
      decided = decided_step c.args.cases.now c.loop-bit.bit c.args.worlds.items c.loop-bit.left.items c.in_ok-left.left.items i.decided h.decided;
      left = omega (arith, i.left, h.left);
      later = omega (arith, i.later, s.later);
      limit = s.limit ∙ i.limit;
    }

pub returns-in_err-left-clause-later : goal.returns-in_err-left-clause-later
returns-in_err-left-clause-later c = omega (arith, c.loop-bit.invariant.later, c.split_asked.ensures.later)

pub returns-in_err-left-clause-cheap : goal.returns-in_err-left-clause-cheap
returns-in_err-left-clause-cheap c = omega (arith, c.loop-bit.invariant.left, c.split_asked.ensures.cheap)

pub returns-in_err-left-clause-stops : goal.returns-in_err-left-clause-stops
returns-in_err-left-clause-stops c =
    passed_on _ c.from_residual.result c.in_err-left.field-0.0 c.from_residual.ensures
    (GivesUp-within c.args.steps.now c.loop-bit.steps c.split_asked.new.steps (split_budget c.args.cases.now c.loop-bit.left.items) (split_budget c.args.cases.now c.args.worlds.items) c.in_err-left.field-0.0 c.loop-bit.invariant.limit c.loop-bit.invariant.left c.in_err-left.ensures.stops)

pub returns-clause-decided : goal.returns-clause-decided
returns-clause-decided c =
    let end : c.loop-bit.bit ≡ c.args.bits = omega (arith, c.loop-bit.far-bit, c.loop-bit-test.false) in
    subst (λ (k : ℕ). AreDecided (asked_bits c.args.cases.now k) c.args.worlds.items c.loop-bit.left.items) end c.loop-bit.invariant.decided

pub returns-clause-cheap : goal.returns-clause-cheap
returns-clause-cheap c = omega (arith, c.loop-bit.invariant.left)
