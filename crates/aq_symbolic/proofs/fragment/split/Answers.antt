use Rattle.std.proofs.Common.{rules, ◌≡◌, ◌∙◌, [], ◌∷◌, length, length-append}
use Rattle.std.specs.Vec.{vec_len}
use Rattle.std.proofs.lemmas.Iterator.Adapters.{YieldsList-from_vec}
use Rattle.std.proofs.lemmas.Iterator.Consumers.{YieldsList-turn}
use Rattle.aq_symbolic.proofs.DecideLemmas.{split_step}
use Rattle.aq_symbolic.proofs.fragment.split.Goals as goal

pub loop-world-preserved : goal.loop-world-preserved
loop-world-preserved c =
    let all = c.args.worlds.items in
    let given = c.into_iter-world-iterator.ensures.into_iter_gives in
    let len : vec_len c.args.worlds ≡ length all = search rules in
    let turn = YieldsList-turn (YieldsList-from_vec all given.0 (given.1 ∙ len)) c.loop-world.yielded c.loop-world.world-iterator c.loop-world.yielded_by c.next.result c.next.new.self c.in-Some.world c.in-Some.is c.next.ensures.steps in
    split_step c.args.bit all (length c.loop-world.yielded) _ c.in-Some.world c.loop-world.list.items c.in_ok-halves.halves.items _ (length-append c.loop-world.yielded (c.in-Some.world ∷ [])) c.in_ok-append.ensures.items turn.0 turn.1 c.loop-world.invariant (c.in_ok-halves.ensures)
