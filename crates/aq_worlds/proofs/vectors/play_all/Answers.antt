use Rattle.std.proofs.Common.{rules, ◌≡◌, length, sym, ◌∙◌}
use Rattle.std.specs.Vec.{vec_len}
use Rattle.std.proofs.lemmas.Iterator.Adapters.{YieldsList-from_vec}
use Rattle.std.proofs.lemmas.Iterator.Consumers.{YieldsList-turn}
use Rattle.aq_worlds.proofs.UnfitLaws.{unfit_gate}
use Rattle.aq_worlds.proofs.vectors.play_all.Goals as goal

pub returns-in-Err-clause-err : goal.returns-in-Err-clause-err
returns-in-Err-clause-err c =
    let given = c.into_iter-vector-iterator.ensures.into_iter_gives in
    let len : vec_len c.args.vectors ≡ length c.args.vectors.items = search rules in
    let t = YieldsList-turn (YieldsList-from_vec c.args.vectors.items given.0 (given.1 ∙ len)) c.loop-vector.yielded c.loop-vector.vector-iterator c.loop-vector.yielded_by c.next.result c.next.new.self c.in-Some.vector c.in-Some.is c.next.ensures.steps in
    record {
      vector = c.in-Some.vector;
      listed = (length c.loop-vector.yielded, t.0, sym t.1);
      wide = λ f. unfit_gate c.in-Some.vector.qubits c.args.gate.now c.in-Some.vector.amps _ _ c.in-Err.ensures.wide f;
    }
