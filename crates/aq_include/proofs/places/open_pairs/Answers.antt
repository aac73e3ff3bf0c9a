use Rattle.std.proofs.Common.{◌≡◌, ℕ, get_or, slice_get, Some, refl, ap₂, subst, sym, ◌∙◌}
use Rattle.aq_store.specs.Nodes.{pairs_at}
use Rattle.aq_include.specs.declared.places.Opened.{Opened}
use Rattle.aq_include.specs.Steps.{IsOpened}
use Rattle.aq_include.proofs.PlaceLemmas.{zip-more}
use Rattle.aq_include.proofs.places.open_pairs.Goals as goal

pub loop-left-preserved : goal.loop-left-preserved
loop-left-preserved g c =
    let o : Opened = record { first = c.place.result; second = c.place-in-loop-left.result; right = (get_or c.args.pairs.now c.loop-left.left-index (0, 0)).1 } in
    zip-more (IsOpened c.args.store.now c.args.choice) c.args.pairs.now c.loop-left.list.items c.push.new.self.items c.loop-left.left-index (0, 0) o c.loop-left-test.true c.loop-left.invariant
    (record {
      left = subst (λ (z : ℕ). slice_get (pairs_at c.args.store.now z) c.args.choice ≡ Some (c.place.result, c.place-in-loop-left.result)) c.at.ensures
          (c.pair-first.ensures ∙ ap₂ (λ (a b : ℕ). Some (a, b)) (sym c.place.ensures) (sym c.place-in-loop-left.ensures));
      right = refl;
    })
    c.in_ok-push.ensures.items
