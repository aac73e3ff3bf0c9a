use Rattle.std.proofs.Common.{◌≡◌, ◌<◌, ◌≤◌, List, get_or, length, subst}
use Rattle.aq_obligations.specs.Worlds.{Partial, filled}
use Rattle.aq_plain.specs.Vectors.{StateVector}
use Rattle.aq_plain_judge.specs.Finding.{Ends, IsKeptBy, WideGoal}
use Rattle.aq_plain_judge.specs.declared.compare.Found.TheVariants as found
use Rattle.aq_plain_judge.specs.Listing.{claims_of}
use Rattle.aq_plain_judge.proofs.JudgeLaws.{escapes_here}
use Rattle.aq_plain_judge.proofs.SearchLaws.{all_more, all_looked_at, any_at}
use Rattle.aq_plain_judge.proofs.find.first_lost.Goals as goal

pub returns-in-Nothing : goal.returns-in-Nothing
returns-in-Nothing c =
    escapes_here (claims_of c.args.goal.now) (filled c.args.world.now.bits) c.args.world.now.vectors.items c.loop-place.place c.vector-item.result (subst (λ (l : List StateVector). c.loop-place.place < length l) c.as_slice-vector-items.ensures.value c.loop-place-test.true)
    (subst (λ (l : List StateVector). c.vector-item.result ≡ get_or l c.loop-place.place c.vector-item.result) c.as_slice-vector-items.ensures.value c.vector-item.is) c.loop-place.invariant (subst (λ (b : Partial). Ends (claims_of c.args.goal.now) (filled b) c.vector-item.result.amps found.Nothing) c.as_slice-bits.ensures c.in-Nothing.ensures)

pub returns-in-Unclear : goal.returns-in-Unclear
returns-in-Unclear c =
    any_at (WideGoal (claims_of c.args.goal.now) (filled c.args.world.now.bits)) (λ (v : StateVector). v.amps) c.args.world.now.vectors.items c.loop-place.place c.vector-item.result (subst (λ (l : List StateVector). c.loop-place.place < length l) c.as_slice-vector-items.ensures.value c.loop-place-test.true)
    (subst (λ (l : List StateVector). c.vector-item.result ≡ get_or l c.loop-place.place c.vector-item.result) c.as_slice-vector-items.ensures.value c.vector-item.is) (subst (λ (b : Partial). WideGoal (claims_of c.args.goal.now) (filled b) c.vector-item.result.amps) c.as_slice-bits.ensures c.in-Unclear.ensures)

pub loop-place-preserved : goal.loop-place-preserved
loop-place-preserved c =
    all_more (IsKeptBy (claims_of c.args.goal.now) (filled c.args.world.now.bits)) (λ (v : StateVector). v.amps) c.args.world.now.vectors.items c.loop-place.place c.vector-item.result (subst (λ (l : List StateVector). c.loop-place.place < length l) c.as_slice-vector-items.ensures.value c.loop-place-test.true)
    (subst (λ (l : List StateVector). c.vector-item.result ≡ get_or l c.loop-place.place c.vector-item.result) c.as_slice-vector-items.ensures.value c.vector-item.is) (subst (λ (b : Partial). IsKeptBy (claims_of c.args.goal.now) (filled b) c.vector-item.result.amps) c.as_slice-bits.ensures c.in-Goal.ensures)
    c.loop-place.invariant

pub returns : goal.returns
returns c = all_looked_at (IsKeptBy (claims_of c.args.goal.now) (filled c.args.world.now.bits)) (λ (v : StateVector). v.amps) c.args.world.now.vectors.items c.loop-place.place (subst (λ (l : List StateVector). length l ≤ c.loop-place.place) c.as_slice-vector-items.ensures.value c.loop-place-test.false) c.loop-place.invariant
