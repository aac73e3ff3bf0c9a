use Rattle.std.proofs.Common.{◌≡◌, length, ap, refl, arith}
use Rattle.aq_store.proofs.RunLemmas.{grown_length}
use Rattle.aq_store.proofs.tests.equal_neighbours_are_one_run.Goals as goal

pub push-requires-2-clause-room : goal.push-requires-2-clause-room
push-requires-2-clause-room g c =
    let none : length c.new-pairs.result ≡ 0 = ap length c.new-pairs.ensures in
    let first = grown_length c.new-pairs.result c.push.new.self _ 1 (length c.new-pairs.result) c.in_ok-push.ensures refl in
    omega arith

pub push-requires-3-clause-room : goal.push-requires-3-clause-room
push-requires-3-clause-room g c =
    let none : length c.new-pairs.result ≡ 0 = ap length c.new-pairs.ensures in
    let first = grown_length c.new-pairs.result c.push.new.self _ 1 (length c.new-pairs.result) c.in_ok-push.ensures refl in
    let second = grown_length c.push.new.self c.push-2.new.self _ 1 (length c.push.new.self) c.in_ok-push-2.ensures refl in
    omega arith
