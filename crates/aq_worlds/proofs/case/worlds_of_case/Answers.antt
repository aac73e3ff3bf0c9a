use Rattle.std.proofs.Common.{List, length, sym, subst}
use Rattle.std.proofs.lemmas.Result.{err_from_is_err_and}
use Rattle.aq_prog.specs.declared.stmt.Stmt.{Stmt}
use Rattle.aq_obligations.specs.Asking.{case_of}
use Rattle.aq_obligations.specs.Covering.{meets_of}
use Rattle.aq_obligations.specs.declared.bound.BoundCase.{BoundCase}
use Rattle.aq_plain.specs.Replaying.{ArePlayable}
use Rattle.aq_worlds.specs.Playing.{AreUnfit, Leaves, spread_of}
use Rattle.aq_worlds.specs.Starting.{Decides, asked_bits}
use Rattle.aq_worlds.proofs.CallLaws.{stops_gives}
use Rattle.aq_worlds.proofs.CaseLaws.{case_given, case_unfit}
use Rattle.aq_worlds.proofs.case.worlds_of_case.Goals as goal

pub play-requires-clause-playable : goal.play-requires-clause-playable
play-requires-clause-playable c =
    let p = c.args.program.now in
    let asked = c.requires.asked in
    let listed = c.requires.vectors in
    let first = c.in_ok-first.ensures p.qubits (case_of c.args.sets.now c.args.case.now) listed.amps listed.qubits in
    record {
      qubits = p.qubits;
      bits = p.bits;
      sized = first.sized;
      playable = subst (ArePlayable p.qubits p.bits) (sym c.as_slice.ensures) (record { claims = length p.claims; valid = asked.bound.fragment });
    }

pub returns-in_err-ends-clause-err : goal.returns-in_err-ends-clause-err
returns-in_err-ends-clause-err c =
    let p = err_from_is_err_and c.from_residual-in_err-ends.result c.from_residual-in_err-ends.ensures.1 in
    let program = c.args.program.now in
    let o = c.args.obligation.now in
    let listed = c.requires.vectors in
    let first = c.in_ok-first.ensures program.qubits (case_of c.args.sets.now c.args.case.now) listed.amps listed.qubits in
    rw (p.1, p.2) (stops_gives c.in_err-ends.field-0.0 c.in_err-ends.ensures.err
    (λ u. case_unfit program c.args.sets.now o c.args.case.now c.in_ok-first.first.items c.worlds.ensures.gates c.requires.asked.bound.uncut c.requires.listed first
    (subst (λ (l : List Stmt). AreUnfit (λ n. meets_of n l) c.in_ok-first.first.items) c.as_slice.ensures u)))

pub decide_all-requires : goal.decide_all-requires
decide_all-requires c =
    let p = c.args.program.now in
    let listed = c.requires.vectors in
    let case = case_of c.args.sets.now c.args.case.now in
    let first = c.in_ok-first.ensures p.qubits case listed.amps listed.qubits in
    record { qubits = p.qubits; sized = (c.in_ok-ends.ensures.ok p.qubits p.bits case first.sized).sized }

pub returns-clause-worlds : goal.returns-clause-worlds
returns-clause-worlds c =
    let p = c.args.program.now in
    let o = c.args.obligation.now in
    let listed = c.requires.vectors in
    let first = c.in_ok-first.ensures p.qubits (case_of c.args.sets.now c.args.case.now) listed.amps listed.qubits in
    let ends = subst (λ (l : List Stmt). Leaves (spread_of l) c.in_ok-first.first.items c.in_ok-ends.ends.items) c.as_slice.ensures c.in_ok-ends.ensures.ok in
    let decided = subst (λ (l : List BoundCase). Decides (asked_bits l p.bits) c.in_ok-ends.ends.items c.in_ok-decided.decided.items) c.as_slice-2.ensures c.in_ok-decided.ensures in
    (case_given p c.args.sets.now o c.args.case.now _ _ _ c.in_ok-list.list.items first ends decided c.in_ok-list.ensures).worlds

pub returns-clause-sized : goal.returns-clause-sized
returns-clause-sized c =
    let p = c.args.program.now in
    let o = c.args.obligation.now in
    let listed = c.requires.vectors in
    let first = c.in_ok-first.ensures p.qubits (case_of c.args.sets.now c.args.case.now) listed.amps listed.qubits in
    let ends = subst (λ (l : List Stmt). Leaves (spread_of l) c.in_ok-first.first.items c.in_ok-ends.ends.items) c.as_slice.ensures c.in_ok-ends.ensures.ok in
    let decided = subst (λ (l : List BoundCase). Decides (asked_bits l p.bits) c.in_ok-ends.ends.items c.in_ok-decided.decided.items) c.as_slice-2.ensures c.in_ok-decided.ensures in
    (case_given p c.args.sets.now o c.args.case.now _ _ _ c.in_ok-list.list.items first ends decided c.in_ok-list.ensures).sized
