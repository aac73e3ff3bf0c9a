use Rattle.std.proofs.Common.{rules, ◌≡◌, ◌∙◌, ◌++◌, ℕ, List, [], ◌∷◌, All, length, ap, sym, subst, length-append}
use Rattle.std.specs.Vec.{vec_len}
use Rattle.std.proofs.lemmas.List.Elements.{All-nil}
use Rattle.std.proofs.lemmas.Iterator.Adapters.{YieldsList-from_vec}
use Rattle.std.proofs.lemmas.Iterator.Consumers.{YieldsList-turn, YieldsList-end}
use Rattle.aq_ring.specs.Fractions.{Amplitude}
use Rattle.aq_sets.specs.Sizes.{size_of}
use Rattle.aq_cert.specs.declared.cert.Cert.{Cert}
use Rattle.aq_store.specs.Nodes.{vector_of}
use Rattle.aq_store.specs.Words.{IsWord}
use Rattle.aq_store.proofs.StopLemmas.{passed_on}
use Rattle.aq_include.specs.declared.inclusion.Answer.{Answer}
use Rattle.aq_obligations.specs.Asking.{meaning_of}
use Rattle.aq_obligations.specs.Wide.{WideComparison}
use Rattle.aq_obligations.specs.Worlds.{worlds}
use Rattle.aq_decide.specs.Certified.{AreCertified, AreCertifiedAfter, IsCertifiedBy}
use Rattle.aq_decide.specs.declared.certified.Finding.{Finding}
use Rattle.aq_decide.specs.Deciding.{IsFirstEscape}
use Rattle.aq_decide.specs.Judging.{IsPaidWithin, Tells}
use Rattle.aq_decide.proofs.Elements.{get_contains}
use Rattle.aq_decide.proofs.JudgeLemmas.{AreJudged, judged_end, judged_escape, judged_more, judged_stops, none_judged, source_built, source_there, takes_more, world_at}
use Rattle.aq_decide.proofs.judge.judge_worlds.Goals as goal

pub loop-world-init : goal.loop-world-init
loop-world-init c = record {
  judged = subst (λ (l : List Cert). AreJudged c.args.program.now c.args.sets.now c.args.obligation.now c.args.store.now 0 c.args.worlds.items c.args.steps.now c.args.steps.now l) (sym c.new-certs.ensures)
      (none_judged c.args.program.now c.args.sets.now c.args.obligation.now c.args.store.now c.args.worlds.items c.args.steps.now);
  known = subst (λ (l : List Finding). All (IsCertifiedBy c.args.store.now c.new-certs.result) l) (sym c.new-known.ensures) (All-nil (IsCertifiedBy c.args.store.now c.new-certs.result));
}

pub judge_world-requires-clause-world : goal.judge_world-requires-clause-world
judge_world-requires-clause-world c =
    let all = c.args.worlds.items in
    let given = c.into_iter-world-iterator.ensures.into_iter_gives in
    let len : vec_len c.args.worlds ≡ length all = search rules in
    let turn = YieldsList-turn (YieldsList-from_vec all given.0 (given.1 ∙ len)) c.loop-world.yielded c.loop-world.world-iterator c.loop-world.yielded_by c.next.result c.next.new.self c.in-Some.world c.in-Some.is c.next.ensures.steps in
    let k = length c.loop-world.yielded in
    let at = world_at c.args.program.now c.args.sets.now c.args.obligation.now c.args.store.now all k c.in-Some.world c.requires.worlds turn.0 turn.1 in
    (at.0, get_contains (worlds (meaning_of c.args.program.now c.args.sets.now c.args.obligation.now)) k at.0 at.1, at.2)

pub returns-in_err-cert-clause-takes : goal.returns-in_err-cert-clause-takes
returns-in_err-cert-clause-takes c =
    let all = c.args.worlds.items in
    let given = c.into_iter-world-iterator.ensures.into_iter_gives in
    let len : vec_len c.args.worlds ≡ length all = search rules in
    let turn = YieldsList-turn (YieldsList-from_vec all given.0 (given.1 ∙ len)) c.loop-world.yielded c.loop-world.world-iterator c.loop-world.yielded_by c.next.result c.next.new.self c.in-Some.world c.in-Some.is c.next.ensures.steps in
    let k = length c.loop-world.yielded in
    takes_more c.args.program.now c.args.sets.now c.args.obligation.now c.args.store.now all k c.in-Some.world c.args.steps.now c.loop-world.steps c.judge_world.new.steps turn.0 turn.1 c.loop-world.invariant.judged.takes c.judge_world.ensures.takes

pub returns-in_err-cert-clause-stops : goal.returns-in_err-cert-clause-stops
returns-in_err-cert-clause-stops c =
    let all = c.args.worlds.items in
    let given = c.into_iter-world-iterator.ensures.into_iter_gives in
    let len : vec_len c.args.worlds ≡ length all = search rules in
    let turn = YieldsList-turn (YieldsList-from_vec all given.0 (given.1 ∙ len)) c.loop-world.yielded c.loop-world.world-iterator c.loop-world.yielded_by c.next.result c.next.new.self c.in-Some.world c.in-Some.is c.next.ensures.steps in
    let k = length c.loop-world.yielded in
    passed_on _ c.from_residual.result c.in_err-cert.field-0.0 c.from_residual.ensures
    (judged_stops c.args.program.now c.args.sets.now c.args.obligation.now c.args.store.now all k c.in-Some.world c.args.steps.now c.loop-world.steps c.loop-world.certs (WideComparison (meaning_of c.args.program.now c.args.sets.now c.args.obligation.now)) c.in_err-cert.field-0.0 turn.0 turn.1 c.loop-world.invariant.judged
    c.in_err-cert.ensures.stops)

pub returns-in_default-clause-takes : goal.returns-in_default-clause-takes
returns-in_default-clause-takes c =
    let all = c.args.worlds.items in
    let given = c.into_iter-world-iterator.ensures.into_iter_gives in
    let len : vec_len c.args.worlds ≡ length all = search rules in
    let turn = YieldsList-turn (YieldsList-from_vec all given.0 (given.1 ∙ len)) c.loop-world.yielded c.loop-world.world-iterator c.loop-world.yielded_by c.next.result c.next.new.self c.in-Some.world c.in-Some.is c.next.ensures.steps in
    let k = length c.loop-world.yielded in
    takes_more c.args.program.now c.args.sets.now c.args.obligation.now c.args.store.now all k c.in-Some.world c.args.steps.now c.loop-world.steps c.judge_world.new.steps turn.0 turn.1 c.loop-world.invariant.judged.takes c.judge_world.ensures.takes

pub loop-world-preserved : goal.loop-world-preserved
loop-world-preserved c =
    let all = c.args.worlds.items in
    let given = c.into_iter-world-iterator.ensures.into_iter_gives in
    let len : vec_len c.args.worlds ≡ length all = search rules in
    let turn = YieldsList-turn (YieldsList-from_vec all given.0 (given.1 ∙ len)) c.loop-world.yielded c.loop-world.world-iterator c.loop-world.yielded_by c.next.result c.next.new.self c.in-Some.world c.in-Some.is c.next.ensures.steps in
    let k = length c.loop-world.yielded in
    let at = world_at c.args.program.now c.args.sets.now c.args.obligation.now c.args.store.now all k c.in-Some.world c.requires.worlds turn.0 turn.1 in
    let there = get_contains (worlds (meaning_of c.args.program.now c.args.sets.now c.args.obligation.now)) k at.0 at.1 in
    let told = subst (λ (a : Answer). Tells c.args.program.now c.args.sets.now c.args.obligation.now at.2.bound at.0 a) c.in-Included.is (c.in_ok-cert.ensures.answer at.0 there at.2) in
    let paid = subst (λ (a : Answer). IsPaidWithin (length c.args.obligation.now.goal.cases) c.loop-world.steps c.judge_world.new.steps a) c.in-Included.is c.in_ok-cert.ensures.paid in
    let after = subst (λ (a : Answer). AreCertifiedAfter c.args.store.now c.loop-world.certs c.judge_world.new.known a) c.in-Included.is c.in_ok-cert.ensures.known in
    record {
      judged = judged_more c.args.program.now c.args.sets.now c.args.obligation.now c.args.store.now all k (length (c.loop-world.yielded ++ c.in-Some.world ∷ [])) c.in-Some.world at.0 c.args.steps.now c.loop-world.steps c.judge_world.new.steps c.loop-world.certs c.push.new.self
          c.in-Included.cert (length-append c.loop-world.yielded (c.in-Some.world ∷ [])) c.in-Ok.ensures.ok turn.0 turn.1 at.1 c.loop-world.invariant.judged told.0 told.1 paid c.judge_world.ensures.takes;
      known = subst (λ (l : List Cert). AreCertified c.args.store.now l c.judge_world.new.known) (sym c.in-Ok.ensures.ok) after;
    }

pub bounds-sources-world : goal.bounds-sources-world
bounds-sources-world c =
    let all = c.args.worlds.items in
    let given = c.into_iter-world-iterator.ensures.into_iter_gives in
    let len : vec_len c.args.worlds ≡ length all = search rules in
    let turn = YieldsList-turn (YieldsList-from_vec all given.0 (given.1 ∙ len)) c.loop-world.yielded c.loop-world.world-iterator c.loop-world.yielded_by c.next.result c.next.new.self c.in-Some.world c.in-Some.is c.next.ensures.steps in
    let k = length c.loop-world.yielded in
    let p = c.args.program.now in
    let s = c.args.sets.now in
    let o = c.args.obligation.now in
    let table = c.args.store.now in
    let at = world_at p s o table all k c.in-Some.world c.requires.worlds turn.0 turn.1 in
    source_there p s o table c.args.sources.now c.in-Some.world at.0 c.requires.sources at.2

pub vector_of-requires-clause-fits : goal.vector_of-requires-clause-fits
vector_of-requires-clause-fits c =
    let all = c.args.worlds.items in
    let given = c.into_iter-world-iterator.ensures.into_iter_gives in
    let len : vec_len c.args.worlds ≡ length all = search rules in
    let turn = YieldsList-turn (YieldsList-from_vec all given.0 (given.1 ∙ len)) c.loop-world.yielded c.loop-world.world-iterator c.loop-world.yielded_by c.next.result c.next.new.self c.in-Some.world c.in-Some.is c.next.ensures.steps in
    let k = length c.loop-world.yielded in
    let p = c.args.program.now in
    let s = c.args.sets.now in
    let o = c.args.obligation.now in
    let table = c.args.store.now in
    let at = world_at p s o table all k c.in-Some.world c.requires.worlds turn.0 turn.1 in
    let built = source_built p s o table c.args.sources.now c.in-Some.world at.0 c.index-sources-world.result c.requires.sources c.index-sources-world.is at.2 in
    built.fits_store

pub vector_of-requires-clause-word : goal.vector_of-requires-clause-word
vector_of-requires-clause-word c =
    let all = c.args.worlds.items in
    let given = c.into_iter-world-iterator.ensures.into_iter_gives in
    let len : vec_len c.args.worlds ≡ length all = search rules in
    let turn = YieldsList-turn (YieldsList-from_vec all given.0 (given.1 ∙ len)) c.loop-world.yielded c.loop-world.world-iterator c.loop-world.yielded_by c.next.result c.next.new.self c.in-Some.world c.in-Some.is c.next.ensures.steps in
    let k = length c.loop-world.yielded in
    let p = c.args.program.now in
    let s = c.args.sets.now in
    let o = c.args.obligation.now in
    let table = c.args.store.now in
    let at = world_at p s o table all k c.in-Some.world c.requires.worlds turn.0 turn.1 in
    let there = get_contains (worlds (meaning_of p s o)) k at.0 at.1 in
    let told = subst (λ (a : Answer). Tells p s o at.2.bound at.0 a) c.in-Escapes.is (c.in_ok-cert.ensures.answer at.0 there at.2) in
    let built = source_built p s o table c.args.sources.now c.in-Some.world at.0 c.index-sources-world.result c.requires.sources c.index-sources-world.is at.2 in
    subst (λ (l : List ℕ). IsWord l c.as_slice.result.now) (sym built.shape) (subst (λ (w : List ℕ). IsWord (size_of s.exprs at.2.bound.set).shape w) (sym c.as_slice.ensures) told.0)

pub returns-in-Escapes-clause-judges : goal.returns-in-Escapes-clause-judges
returns-in-Escapes-clause-judges c =
    let all = c.args.worlds.items in
    let given = c.into_iter-world-iterator.ensures.into_iter_gives in
    let len : vec_len c.args.worlds ≡ length all = search rules in
    let turn = YieldsList-turn (YieldsList-from_vec all given.0 (given.1 ∙ len)) c.loop-world.yielded c.loop-world.world-iterator c.loop-world.yielded_by c.next.result c.next.new.self c.in-Some.world c.in-Some.is c.next.ensures.steps in
    let k = length c.loop-world.yielded in
    let p = c.args.program.now in
    let s = c.args.sets.now in
    let o = c.args.obligation.now in
    let table = c.args.store.now in
    let at = world_at p s o table all k c.in-Some.world c.requires.worlds turn.0 turn.1 in
    let there = get_contains (worlds (meaning_of p s o)) k at.0 at.1 in
    let told = subst (λ (a : Answer). Tells p s o at.2.bound at.0 a) c.in-Escapes.is (c.in_ok-cert.ensures.answer at.0 there at.2) in
    let built = source_built p s o table c.args.sources.now c.in-Some.world at.0 c.index-sources-world.result c.requires.sources c.index-sources-world.is at.2 in
    let read = c.in-Ok-vector_of.ensures ∙ ap (λ (w : List ℕ). vector_of table c.index-sources-world.result w) c.as_slice.ensures in
    subst (λ (v : List Amplitude). IsFirstEscape p s o c.in-Some.world c.in-Escapes.word v) (sym read)
    (judged_escape p s o table all k c.in-Some.world at.0 c.args.steps.now c.loop-world.steps c.loop-world.certs c.in-Escapes.word c.index-sources-world.result at.1 c.loop-world.invariant.judged at.2 built told)

pub returns-in-Escapes-clause-takes : goal.returns-in-Escapes-clause-takes
returns-in-Escapes-clause-takes c =
    let all = c.args.worlds.items in
    let given = c.into_iter-world-iterator.ensures.into_iter_gives in
    let len : vec_len c.args.worlds ≡ length all = search rules in
    let turn = YieldsList-turn (YieldsList-from_vec all given.0 (given.1 ∙ len)) c.loop-world.yielded c.loop-world.world-iterator c.loop-world.yielded_by c.next.result c.next.new.self c.in-Some.world c.in-Some.is c.next.ensures.steps in
    let k = length c.loop-world.yielded in
    takes_more c.args.program.now c.args.sets.now c.args.obligation.now c.args.store.now all k c.in-Some.world c.args.steps.now c.loop-world.steps c.judge_world.new.steps turn.0 turn.1 c.loop-world.invariant.judged.takes c.judge_world.ensures.takes

pub returns-in_default-vector_of-clause-takes : goal.returns-in_default-vector_of-clause-takes
returns-in_default-vector_of-clause-takes c =
    let all = c.args.worlds.items in
    let given = c.into_iter-world-iterator.ensures.into_iter_gives in
    let len : vec_len c.args.worlds ≡ length all = search rules in
    let turn = YieldsList-turn (YieldsList-from_vec all given.0 (given.1 ∙ len)) c.loop-world.yielded c.loop-world.world-iterator c.loop-world.yielded_by c.next.result c.next.new.self c.in-Some.world c.in-Some.is c.next.ensures.steps in
    let k = length c.loop-world.yielded in
    takes_more c.args.program.now c.args.sets.now c.args.obligation.now c.args.store.now all k c.in-Some.world c.args.steps.now c.loop-world.steps c.judge_world.new.steps turn.0 turn.1 c.loop-world.invariant.judged.takes c.judge_world.ensures.takes

pub returns-clause-judges : goal.returns-clause-judges
returns-clause-judges c =
    let all = c.args.worlds.items in
    let given = c.into_iter-world-iterator.ensures.into_iter_gives in
    let len : vec_len c.args.worlds ≡ length all = search rules in
    let end = YieldsList-end (YieldsList-from_vec all given.0 (given.1 ∙ len)) c.loop-world.yielded c.loop-world.world-iterator c.loop-world.yielded_by c.next.result c.next.new.self c.in-None.is c.next.ensures.steps in
    (judged_end c.args.program.now c.args.sets.now c.args.obligation.now c.args.store.now all (length c.loop-world.yielded) c.args.steps.now c.loop-world.steps c.loop-world.certs c.requires.worlds end.1 c.loop-world.invariant.judged).0

pub returns-clause-takes : goal.returns-clause-takes
returns-clause-takes c =
    let all = c.args.worlds.items in
    let given = c.into_iter-world-iterator.ensures.into_iter_gives in
    let len : vec_len c.args.worlds ≡ length all = search rules in
    let end = YieldsList-end (YieldsList-from_vec all given.0 (given.1 ∙ len)) c.loop-world.yielded c.loop-world.world-iterator c.loop-world.yielded_by c.next.result c.next.new.self c.in-None.is c.next.ensures.steps in
    (judged_end c.args.program.now c.args.sets.now c.args.obligation.now c.args.store.now all (length c.loop-world.yielded) c.args.steps.now c.loop-world.steps c.loop-world.certs c.requires.worlds end.1 c.loop-world.invariant.judged).1

pub returns-clause-paid : goal.returns-clause-paid
returns-clause-paid c = c.loop-world.invariant.judged.paid
