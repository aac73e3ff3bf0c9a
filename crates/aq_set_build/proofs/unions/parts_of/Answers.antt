use Rattle.std.proofs.Common.{◌∙◌, ◌≡◌, ◌++◌, ◌<◌, List, ℕ, [], ap, sym, subst, refl, arith}
use Rattle.aq_sets.proofs.ToldLaws.{expr_at}
use Rattle.aq_store.proofs.StopLemmas.{GivesUp-within, passed_on}
use Rattle.aq_set_build.specs.Unions.{IsOpening, nodes_all, kept}
use Rattle.aq_set_build.proofs.PartLemmas.{opening_step, nodes_step, nodes_none, last_within}
use Rattle.aq_set_build.proofs.unions.parts_of.Goals as goal

pub bounds-exprs-at : goal.bounds-exprs-at
bounds-exprs-at c =
    let u = c.requires.union in
    last_within c.args.exprs.now u.0 c.in-Some.at c.loop-at.parts.items c.pop.new.self.items c.loop-at.rest.items c.in-Some.ensures.items u.1 (c.loop-at.invariant.opening u.0 u.2)

pub loop-at-init : goal.loop-at-init
loop-at-init c = record {
  opening = λ i h. subst (λ (ps : List ℕ). IsOpening c.args.exprs.now i ps c.args.list.items) (sym c.new-parts.ensures.items) h;
  nodes = let none : nodes_all c.args.exprs.now c.new-parts.result.items ≡ nodes_all c.args.exprs.now [] = ap (nodes_all c.args.exprs.now) c.new-parts.ensures.items in
      let z = nodes_none c.args.exprs.now in
      omega arith;
  limit = refl;
  later = omega arith;
}

pub loop-at-smaller : goal.loop-at-smaller
loop-at-smaller c =
    let u = c.requires.union in
    let pop = c.in-Some.ensures.items in
    let lt = last_within c.args.exprs.now u.0 c.in-Some.at c.loop-at.parts.items c.pop.new.self.items c.loop-at.rest.items pop u.1 (c.loop-at.invariant.opening u.0 u.2) in
    let h = expr_at c.args.exprs.now c.in-Some.at c.index-exprs-at.result c.index-exprs-at.result lt c.index-exprs-at.is refl in
    let n = nodes_step c.args.exprs.now c.requires.valid c.in-Some.at c.index-exprs-at.result h c.loop-at.parts.items c.pop.new.self.items c.loop-at.rest.items pop in
    subst (λ (w : List ℕ). nodes_all c.args.exprs.now w < nodes_all c.args.exprs.now c.loop-at.rest.items) (sym c.in_ok-open.ensures.rest) n.1

pub loop-at-preserved : goal.loop-at-preserved
loop-at-preserved c =
    let exprs = c.args.exprs.now in
    let u = c.requires.union in
    let pop = c.in-Some.ensures.items in
    let lt = last_within c.args.exprs.now u.0 c.in-Some.at c.loop-at.parts.items c.pop.new.self.items c.loop-at.rest.items pop u.1 (c.loop-at.invariant.opening u.0 u.2) in
    let h = expr_at c.args.exprs.now c.in-Some.at c.index-exprs-at.result c.index-exprs-at.result lt c.index-exprs-at.is refl in
    let n = nodes_step c.args.exprs.now c.requires.valid c.in-Some.at c.index-exprs-at.result h c.loop-at.parts.items c.pop.new.self.items c.loop-at.rest.items pop in
    let n0 = n.0 in
    let a = ap (nodes_all c.args.exprs.now) c.in_ok-open.ensures.parts in
    let b = ap (nodes_all c.args.exprs.now) c.in_ok-open.ensures.rest in
    record {
      opening = λ i g.
          subst (λ (ps : List ℕ). IsOpening c.args.exprs.now i ps c.open.new.rest.items) (sym c.in_ok-open.ensures.parts)
          (subst (λ (ws : List ℕ). IsOpening c.args.exprs.now i (c.loop-at.parts.items ++ kept c.index-exprs-at.result c.in-Some.at) ws) (sym c.in_ok-open.ensures.rest)
          (opening_step c.args.exprs.now c.requires.valid i c.in-Some.at c.index-exprs-at.result h c.loop-at.parts.items c.pop.new.self.items c.loop-at.rest.items pop (c.loop-at.invariant.opening i g)));
      nodes = omega arith;
      limit = c.open.ensures.limit ∙ c.loop-at.invariant.limit;
      later = omega arith;
    }

pub returns-in_err-open-clause-cheap : goal.returns-in_err-open-clause-cheap
returns-in_err-open-clause-cheap c =
    let u = c.requires.union in
    let pop = c.in-Some.ensures.items in
    let lt = last_within c.args.exprs.now u.0 c.in-Some.at c.loop-at.parts.items c.pop.new.self.items c.loop-at.rest.items pop u.1 (c.loop-at.invariant.opening u.0 u.2) in
    let h = expr_at c.args.exprs.now c.in-Some.at c.index-exprs-at.result c.index-exprs-at.result lt c.index-exprs-at.is refl in
    let n = nodes_step c.args.exprs.now c.requires.valid c.in-Some.at c.index-exprs-at.result h c.loop-at.parts.items c.pop.new.self.items c.loop-at.rest.items pop in
    let n0 = n.0 in
    omega arith

pub returns-in_err-open-clause-refused : goal.returns-in_err-open-clause-refused
returns-in_err-open-clause-refused c =
    let u = c.requires.union in
    let pop = c.in-Some.ensures.items in
    let lt = last_within c.args.exprs.now u.0 c.in-Some.at c.loop-at.parts.items c.pop.new.self.items c.loop-at.rest.items pop u.1 (c.loop-at.invariant.opening u.0 u.2) in
    let h = expr_at c.args.exprs.now c.in-Some.at c.index-exprs-at.result c.index-exprs-at.result lt c.index-exprs-at.is refl in
    let n = nodes_step c.args.exprs.now c.requires.valid c.in-Some.at c.index-exprs-at.result h c.loop-at.parts.items c.pop.new.self.items c.loop-at.rest.items pop in
    let some = n.2 in
    passed_on _ c.from_residual.result c.in_err-open.field-0.0 c.from_residual.ensures
    (GivesUp-within c.args.steps.now c.loop-at.steps c.open.new.steps 1 (nodes_all c.args.exprs.now c.args.list.items) c.in_err-open.field-0.0 c.loop-at.invariant.limit (omega arith) c.in_err-open.ensures.refused)
