use Rattle.std.proofs.Common.{ℕ, ◌+◌, arith, rules, sym, ap, ◌∙◌, Some, drop, length, get_or, refl, ◌≤◌, ◌-◌, ◌≡◌, ◌<◌, ◌++◌, [], subst}
use Rattle.aq_store.specs.Runs.{copies}
use Rattle.aq_store.specs.declared.node.Node.TheVariants.{Leaf}
use Rattle.aq_store.proofs.TableLemmas.{Extends-trans}
use Rattle.aq_store.proofs.StopLemmas.{adds_limit, GivesUp-within, refused_gives_up, passed_on}
use Rattle.aq_store.proofs.RunLemmas.{length-copies}
use Rattle.aq_measure_ops.specs.Budget.{total}
use Rattle.aq_measure_ops.proofs.BudgetLemmas.{total-more, total-drop, total_drops}
use Rattle.aq_measure_ops.proofs.ProjectionLemmas.{blank_leaf, blank_heights, blank_more}
use Rattle.aq_measure_ops.proofs.blank.blank_from.Goals as goal

pub loop-at-init : goal.loop-at-init
loop-at-init g c = record {
  within = omega arith;
  above = c.requires.depth;
  blank = blank_leaf g.L.Label.parts c.leaf.new.self c.args.shape.now (length c.args.shape.now) c.in_ok-id.id c.zero.result (omega arith) c.zero.ensures c.in_ok-id.ensures.adds.here;
  keeps = c.leaf.ensures.keeps;
  paid = c.leaf.ensures.paid;
  limit = adds_limit _ _ _ _ _ _ c.leaf.ensures.adds;
  cost = omega (arith, c.leaf.ensures.cheap);
}

pub node_of-requires-clause-some : goal.node_of-requires-clause-some
node_of-requires-clause-some g c =
    let is : c.push.new.self ≡ copies (get_or c.args.shape.now (c.loop-at.at - 1) 0) (c.loop-at.id, c.loop-at.id) = c.in-Ok.ensures
    ∙ ap (λ l. l ++ copies (get_or c.args.shape.now (c.loop-at.at - 1) 0) (c.loop-at.id, c.loop-at.id)) c.new-pairs.ensures in
    let some = c.requires.some (c.loop-at.at - 1) (omega (arith, c.loop-at-test.true, c.loop-at.invariant.within)) in
    omega (arith, ap length is, length-copies {A = ℕ × ℕ} (get_or c.args.shape.now (c.loop-at.at - 1) 0) (c.loop-at.id, c.loop-at.id))

pub node_of-requires-clause-heights : goal.node_of-requires-clause-heights
node_of-requires-clause-heights g c =
    let is : c.push.new.self ≡ copies (get_or c.args.shape.now (c.loop-at.at - 1) 0) (c.loop-at.id, c.loop-at.id) = c.in-Ok.ensures
    ∙ ap (λ l. l ++ copies (get_or c.args.shape.now (c.loop-at.at - 1) 0) (c.loop-at.id, c.loop-at.id)) c.new-pairs.ensures in
    blank_heights g.L.Label.parts c.loop-at.store (drop c.loop-at.at c.args.shape.now) c.loop-at.id (get_or c.args.shape.now (c.loop-at.at - 1) 0) c.push.new.self c.loop-at.invariant.blank is

pub loop-at-preserved : goal.loop-at-preserved
loop-at-preserved g c =
    let is : c.push.new.self ≡ copies (get_or c.args.shape.now (c.loop-at.at - 1) 0) (c.loop-at.id, c.loop-at.id) = c.in-Ok.ensures
    ∙ ap (λ l. l ++ copies (get_or c.args.shape.now (c.loop-at.at - 1) 0) (c.loop-at.id, c.loop-at.id)) c.new-pairs.ensures in
    let some = c.requires.some (c.loop-at.at - 1) (omega (arith, c.loop-at-test.true, c.loop-at.invariant.within)) in
    record {
      within = omega (arith, c.loop-at.invariant.within);
      above = omega (arith, c.loop-at-test.true);
      blank = blank_more g.L.Label.parts c.loop-at.store c.node_of.new.self c.node_of.ensures.keeps c.args.shape.now c.loop-at.at c.in_ok-id-2.id c.loop-at.id
          (get_or c.args.shape.now (c.loop-at.at - 1) 0) c.push.new.self
          (omega (arith, c.loop-at-test.true)) c.loop-at.invariant.within refl some c.loop-at.invariant.blank is c.in_ok-id-2.ensures.adds.here;
      keeps = Extends-trans _ _ _ c.loop-at.invariant.keeps c.node_of.ensures.keeps;
      paid = c.node_of.ensures.paid;
      limit = adds_limit _ _ _ _ _ _ c.node_of.ensures.adds ∙ c.loop-at.invariant.limit;
      cost = omega (
        arith,
        total-more c.args.shape.now c.loop-at.at (omega (arith, c.loop-at-test.true)) c.loop-at.invariant.within,
        c.node_of.ensures.cheap,
        c.loop-at.invariant.cost,
        ap length is,
        length-copies {A = ℕ × ℕ} (get_or c.args.shape.now (c.loop-at.at - 1) 0) (c.loop-at.id, c.loop-at.id),
      );
    }

pub returns-in_default-clause-steps : goal.returns-in_default-clause-steps
returns-in_default-clause-steps g c = omega (
  arith,
  total_drops c.args.shape.now c.args.depth c.loop-at.at (omega
      (arith, c.loop-at-test.true)) c.loop-at.invariant.within,
  c.loop-at.invariant.cost,
)

pub returns-in_err-id-2-clause-steps : goal.returns-in_err-id-2-clause-steps
returns-in_err-id-2-clause-steps g c =
    let is : c.push.new.self ≡ copies (get_or c.args.shape.now (c.loop-at.at - 1) 0) (c.loop-at.id, c.loop-at.id) = c.in-Ok.ensures
    ∙ ap (λ l. l ++ copies (get_or c.args.shape.now (c.loop-at.at - 1) 0) (c.loop-at.id, c.loop-at.id)) c.new-pairs.ensures in
    omega (
      arith,
      total-more c.args.shape.now c.loop-at.at (omega (arith, c.loop-at-test.true)) c.loop-at.invariant.within,
      total_drops c.args.shape.now c.args.depth
          (c.loop-at.at - 1) (omega (arith, c.loop-at-test.true)) (omega (arith, c.loop-at.invariant.within)),
      c.node_of.ensures.cheap,
      c.loop-at.invariant.cost,
      ap length is,
      length-copies {A = ℕ × ℕ} (get_or c.args.shape.now (c.loop-at.at - 1) 0) (c.loop-at.id, c.loop-at.id),
    )

pub returns-in_err-id-2-clause-refused : goal.returns-in_err-id-2-clause-refused
returns-in_err-id-2-clause-refused g c =
    let is : c.push.new.self ≡ copies (get_or c.args.shape.now (c.loop-at.at - 1) 0) (c.loop-at.id, c.loop-at.id) = c.in-Ok.ensures
    ∙ ap (λ l. l ++ copies (get_or c.args.shape.now (c.loop-at.at - 1) 0) (c.loop-at.id, c.loop-at.id)) c.new-pairs.ensures in
    let later = total-more c.args.shape.now c.loop-at.at (omega (arith, c.loop-at-test.true)) c.loop-at.invariant.within in
    let last = total_drops c.args.shape.now c.args.depth (c.loop-at.at - 1) (omega (arith, c.loop-at-test.true)) (omega (arith, c.loop-at.invariant.within)) in
    passed_on _ c.from_residual-in_err-id-2.result c.in_err-id-2.field-0.0 c.from_residual-in_err-id-2.ensures
    (GivesUp-within c.args.steps.now c.loop-at.steps c.node_of.new.steps (length c.push.new.self) (1 + total (drop c.args.depth c.args.shape.now)) _ c.loop-at.invariant.limit
    (omega (arith, later, last, c.loop-at.invariant.cost, ap length is, length-copies {A = ℕ × ℕ} (get_or c.args.shape.now (c.loop-at.at - 1) 0) (c.loop-at.id, c.loop-at.id)))
    (refused_gives_up _ _ _ _ _ _ c.in_err-id-2.ensures.adds))

pub returns-in_err-id-clause-refused : goal.returns-in_err-id-clause-refused
returns-in_err-id-clause-refused g c =
    passed_on _ c.from_residual.result c.in_err-id.field-0.0 c.from_residual.ensures
    (GivesUp-within c.args.steps.now c.args.steps.now c.leaf.new.steps 1 (1 + total (drop c.args.depth c.args.shape.now)) _ refl (omega arith)
    (refused_gives_up _ _ _ _ _ _ c.in_err-id.ensures.adds))
