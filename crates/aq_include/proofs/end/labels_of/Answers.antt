use Rattle.std.proofs.Common.{◌≡◌, ℕ, [], ◌∷◌, get_or, sym, subst}
use Rattle.std.proofs.lemmas.List.Elements.{Contains-get_or}
use Rattle.aq_store.specs.Nodes.{IsLeaf, labels_at}
use Rattle.aq_include.proofs.EndLemmas.{labels-more}
use Rattle.aq_include.proofs.end.labels_of.Goals as goal

pub label-left-requires : goal.label-left-requires
label-left-requires g c =
    let d : ℕ × ℕ = (0, 0) in
    subst (IsLeaf c.args.store.now) (sym c.at.ensures) (c.requires (get_or c.args.pairs.now c.loop-pair.pair-index d) (Contains-get_or c.args.pairs.now c.loop-pair.pair-index d c.loop-pair-test.true)).0

pub label-right-requires : goal.label-right-requires
label-right-requires g c =
    let d : ℕ × ℕ = (0, 0) in
    subst (IsLeaf c.args.store.now) (sym c.at-in-loop-pair.ensures) (c.requires (get_or c.args.pairs.now c.loop-pair.pair-index d) (Contains-get_or c.args.pairs.now c.loop-pair.pair-index d c.loop-pair-test.true)).1

pub loop-pair-preserved : goal.loop-pair-preserved
loop-pair-preserved g c =
    let d : ℕ × ℕ = (0, 0) in
    labels-more g.L.Label.parts c.args.store.now c.args.pairs.now c.loop-pair.list.items c.push.new.self.items c.loop-pair.pair-index d c.label-left.result c.label-right.result c.loop-pair-test.true c.loop-pair.invariant
    (subst (λ (z : ℕ). labels_at c.args.store.now z ≡ c.label-left.result ∷ []) c.at.ensures c.label-left.ensures)
    (subst (λ (z : ℕ). labels_at c.args.store.now z ≡ c.label-right.result ∷ []) c.at-in-loop-pair.ensures c.label-right.ensures)
    c.in_ok-push.ensures.items
