use Rattle.std.proofs.Common.{◌≡◌, ℕ, slice_get, get_or, Some, inl, inr, subst}
use Rattle.std.proofs.lemmas.List.Elements.{Contains-get_or}
use Rattle.aq_store.specs.Nodes.{pairs_at}
use Rattle.aq_include.specs.declared.places.Opened.{Opened}
use Rattle.aq_include.specs.Hopeless.{AreApart}
use Rattle.aq_include.proofs.HopelessLemmas.{apart-child}
use Rattle.aq_include.proofs.hopeless.count_to_apart.Goals.{then-are_apart-via-then-are_apart, then-are_apart-via-else-are_apart+then-are_apart-2}
use Rattle.aq_include.proofs.hopeless.count_to_apart.Goals as goal

pub returns-then-are_apart-clause-apart : goal.returns-then-are_apart-clause-apart
returns-then-are_apart-clause-apart g c =
    let o : Opened = get_or c.args.pairs.now c.loop-index.index (record { first = 0; second = 0; right = 0 }) in
    let listed = Contains-get_or c.args.pairs.now c.loop-index.index (record { first = 0; second = 0; right = 0 }) c.loop-index-test.true in
    let here = subst (λ (z : ℕ). slice_get (pairs_at c.args.store.now z) c.args.choice ≡ Some c.pair-first.result) c.at.ensures c.pair-first.ensures in
    elim c.then-are_apart.branch [
      | then-are_apart-via-then-are_apart w ↦
          apart-child g.L.Label.parts c.args.store.now c.args.choice c.args.pairs.now o c.pair-first.result listed here
          (inl (subst (λ (z : ℕ). AreApart g.L.Label.parts c.args.store.now z c.pair-first.result.0) c.at-in-loop-index.ensures (c.are_apart.ensures w.if-are_apart.true)))
      | then-are_apart-via-else-are_apart+then-are_apart-2 w ↦
          apart-child g.L.Label.parts c.args.store.now c.args.choice c.args.pairs.now o c.pair-first.result listed here
          (inr (subst (λ (z : ℕ). AreApart g.L.Label.parts c.args.store.now z c.pair-first.result.1) w.at-else-are_apart.ensures (w.are_apart-else-are_apart.ensures w.if-are_apart-2.true)))
    ]
