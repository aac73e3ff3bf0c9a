use Rattle.std.proofs.Common.{◌∙◌, ◌≤◌, List, ℕ, ap, sym, subst, arith}
use Rattle.std.specs.List.{All}
use Rattle.std.proofs.lemmas.List.Elements.{All-append}
use Rattle.aq_sets.specs.Vectors.{united}
use Rattle.aq_plain.specs.Listing.{lists_in_turn, IsPartOf, kept, opened}
use Rattle.aq_plain.proofs.PartLaws.{pending, step_same, step_fewer, kept_parts, opened_below, popped_below}
use Rattle.aq_sets.proofs.ToldLaws.{expr_at}
use Rattle.std.proofs.Common.{refl}
use Rattle.aq_plain.proofs.parts.parts_of.Goals as goal

pub loop-at-smaller : goal.loop-at-smaller
loop-at-smaller c =
    let pop = c.in-Some.ensures.items in
    let le = popped_below c.args.expr c.loop-at.work.items c.pop.new.self.items c.in-Some.at pop c.loop-at.invariant.work in
    let h = expr_at c.args.exprs.now c.in-Some.at c.index-exprs-at.result c.index-exprs-at.result (omega (arith, le.1, c.requires.within)) c.index-exprs-at.is refl in
    rw (c.in_ok-open_one.ensures.work, pop) (step_fewer c.args.exprs.now c.requires.valid c.in-Some.at c.index-exprs-at.result h c.pop.new.self.items)

pub loop-at-preserved : goal.loop-at-preserved
loop-at-preserved c =
    let exprs = c.args.exprs.now in
    let pop = c.in-Some.ensures.items in
    let le = popped_below c.args.expr c.loop-at.work.items c.pop.new.self.items c.in-Some.at pop c.loop-at.invariant.work in
    let h = expr_at exprs c.in-Some.at c.index-exprs-at.result c.index-exprs-at.result (omega (arith, le.1, c.requires.within)) c.index-exprs-at.is refl in
    record {
      same =
          (λ k. united (lists_in_turn exprs (c.in_ok-open_one.ensures.parts k)) (pending exprs (c.in_ok-open_one.ensures.work k)))
          ∙ step_same exprs c.requires.valid c.in-Some.at c.index-exprs-at.result h c.loop-at.parts.items c.pop.new.self.items
          ∙ ap (λ (w : List ℕ). united (lists_in_turn exprs c.loop-at.parts.items) (pending exprs w)) (sym pop) ∙ c.loop-at.invariant.same;
      each = subst (λ (ps : List ℕ). All (IsPartOf exprs c.args.expr) ps) (sym c.in_ok-open_one.ensures.parts)
          (All-append (IsPartOf exprs c.args.expr) c.loop-at.parts.items (kept c.index-exprs-at.result c.in-Some.at) c.loop-at.invariant.each
          (kept_parts exprs c.args.expr c.in-Some.at c.index-exprs-at.result h le.1));
      work = subst (λ (w : List ℕ). All (λ i. i ≤ c.args.expr) w) (sym c.in_ok-open_one.ensures.work)
          (All-append (λ i. i ≤ c.args.expr) c.pop.new.self.items (opened c.index-exprs-at.result) le.0
          (opened_below exprs c.requires.valid c.args.expr c.in-Some.at c.index-exprs-at.result h le.1));
    }
