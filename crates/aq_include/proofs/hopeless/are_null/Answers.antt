use Rattle.std.proofs.Common.{subst}
use Rattle.std.proofs.lemmas.Bool.{OnTrue_at}
use Rattle.aq_store.specs.Kinds.{IsNull}
use Rattle.aq_include.proofs.HopelessLemmas.{null-more}
use Rattle.aq_include.proofs.hopeless.are_null.Goals as goal

pub loop-place-preserved : goal.loop-place-preserved
loop-place-preserved g c =
    null-more g.L.Label.parts c.args.store.now c.args.places.now c.loop-place.place-index 0 c.loop-place-test.true c.loop-place.invariant
    (subst (IsNull g.L.Label.parts c.args.store.now) c.at.ensures (OnTrue_at c.if-not-is_zero.false c.is_zero.ensures.null))
