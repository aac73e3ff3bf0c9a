use Rattle.std.proofs.Common.{rules, ◌≡◌, ◌∙◌, [], ◌∷◌, length, length-append}
use Rattle.std.specs.Vec.{vec_len}
use Rattle.std.proofs.lemmas.Iterator.Adapters.{YieldsList-from_vec}
use Rattle.std.proofs.lemmas.Iterator.Consumers.{YieldsList-turn}
use Rattle.aq_store.proofs.StopLemmas.{passed_on}
use Rattle.aq_symbolic.specs.Moves.{of_body}
use Rattle.aq_symbolic.proofs.CallLemmas.{memory_at, one_plays}
use Rattle.aq_symbolic.proofs.CollectLemmas.{collect_step, stop_at}
use Rattle.aq_symbolic.proofs.StopLemmas.{keeps_then}
use Rattle.aq_symbolic.proofs.fragment.play_through.Goals as goal

pub play_alone-requires-clause-playable : goal.play_alone-requires-clause-playable
play_alone-requires-clause-playable g c =
    let all = c.args.worlds.items in
    let given = c.into_iter-world-iterator.ensures.into_iter_gives in
    let len : vec_len c.args.worlds ≡ length all = search rules in
    let turn = YieldsList-turn (YieldsList-from_vec all given.0 (given.1 ∙ len)) c.loop-world.yielded c.loop-world.world-iterator c.loop-world.yielded_by c.next.result c.next.new.self c.in-Some.world c.in-Some.is c.next.ensures.steps in
    one_plays c.args.store.now c.loop-world.store all (length c.loop-world.yielded) c.in-Some.world c.args.body.now turn.0 turn.1 c.loop-world.invariant.keeps.table c.requires.playable

pub returns-in_err-more-clause-err : goal.returns-in_err-more-clause-err
returns-in_err-more-clause-err g c =
    let all = c.args.worlds.items in
    let given = c.into_iter-world-iterator.ensures.into_iter_gives in
    let len : vec_len c.args.worlds ≡ length all = search rules in
    let turn = YieldsList-turn (YieldsList-from_vec all given.0 (given.1 ∙ len)) c.loop-world.yielded c.loop-world.world-iterator c.loop-world.yielded_by c.next.result c.next.new.self c.in-Some.world c.in-Some.is c.next.ensures.steps in
    passed_on _ c.from_residual.result c.in_err-more.field-0.0 c.from_residual.ensures
    (stop_at g.L.Label.parts g.L.Label.part_count (of_body c.args.body.now) c.args.store.now c.loop-world.store c.play_alone.new.store c.args.steps.now c.loop-world.steps c.play_alone.new.steps all (length c.loop-world.yielded) c.in-Some.world c.loop-world.list.items c.in_err-more.field-0.0 turn.0 turn.1
    c.loop-world.invariant.keeps c.loop-world.invariant.made c.in_err-more.ensures.err)

pub returns-in_default-clause-err : goal.returns-in_default-clause-err
returns-in_default-clause-err g c =
    let all = c.args.worlds.items in
    let given = c.into_iter-world-iterator.ensures.into_iter_gives in
    let len : vec_len c.args.worlds ≡ length all = search rules in
    let turn = YieldsList-turn (YieldsList-from_vec all given.0 (given.1 ∙ len)) c.loop-world.yielded c.loop-world.world-iterator c.loop-world.yielded_by c.next.result c.next.new.self c.in-Some.world c.in-Some.is c.next.ensures.steps in
    memory_at g.L.Label.parts g.L.Label.part_count (of_body c.args.body.now) c.args.store.now c.loop-world.store c.play_alone.new.store c.args.steps.now c.loop-world.steps c.play_alone.new.steps all (length c.loop-world.yielded) c.in-Some.world c.loop-world.list.items c.in_ok-more.more.items turn.0 turn.1
    c.loop-world.invariant.keeps.table c.play_alone.ensures.keeps.table c.loop-world.invariant.made c.in_ok-more.ensures.ok

pub loop-world-preserved : goal.loop-world-preserved
loop-world-preserved g c =
    let all = c.args.worlds.items in
    let given = c.into_iter-world-iterator.ensures.into_iter_gives in
    let len : vec_len c.args.worlds ≡ length all = search rules in
    let turn = YieldsList-turn (YieldsList-from_vec all given.0 (given.1 ∙ len)) c.loop-world.yielded c.loop-world.world-iterator c.loop-world.yielded_by c.next.result c.next.new.self c.in-Some.world c.in-Some.is c.next.ensures.steps in
    record {
      keeps = keeps_then c.args.store.now c.loop-world.store c.play_alone.new.store c.args.steps.now c.loop-world.steps c.play_alone.new.steps c.loop-world.invariant.keeps c.play_alone.ensures.keeps;
      made = collect_step g.L.Label.parts g.L.Label.part_count (of_body c.args.body.now) c.args.store.now c.loop-world.store c.play_alone.new.store c.args.steps.now c.loop-world.steps c.play_alone.new.steps all (length c.loop-world.yielded) _ c.in-Some.world c.loop-world.list.items c.in_ok-more.more.items _
          (length-append c.loop-world.yielded (c.in-Some.world ∷ [])) c.in-Ok.ensures.items turn.0 turn.1 c.loop-world.invariant.keeps.table c.play_alone.ensures.keeps.table c.loop-world.invariant.made c.in_ok-more.ensures.ok;
    }
