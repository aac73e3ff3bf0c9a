use Rattle.std.proofs.Common.{◌+◌, ◌≤◌, List, length, sym, subst, arith}
use Rattle.aq_prog.specs.declared.stmt.Stmt.{Stmt}
use Rattle.aq_plain.specs.Replaying.{ArePlayable}
use Rattle.aq_store.specs.Stops.{GivesUp}
use Rattle.aq_store.proofs.StopLemmas.{passed_on}
use Rattle.aq_gate_ops.specs.Accounts.{IsStopped}
use Rattle.aq_gate_ops.specs.Causes.{IsCause}
use Rattle.aq_obligations.specs.Asking.{meaning_of}
use Rattle.aq_obligations.specs.Wide.{WideGate}
use Rattle.aq_obligations.specs.declared.bound.BoundCase.{BoundCase}
use Rattle.aq_correct.proofs.WorldProofs.{worlds_meet_gates}
use Rattle.aq_symbolic.specs.Moves.{of_body}
use Rattle.aq_symbolic.specs.Playing.{Goes, IsUnfit, steps_for}
use Rattle.aq_decide.specs.Budgets.{play_budget, split_budget}
use Rattle.aq_decide.specs.Kept.{alone}
use Rattle.aq_decide.specs.Splitting.{AreDecided, asked_bits}
use Rattle.aq_decide.proofs.CaseLemmas.{ends_bits, few, first_sized, fits, gives_up, gives_up_later, grows_played, grows_split, play_within, split_within, unfit_wide, worlds}
use Rattle.aq_decide.proofs.case.worlds_of_case.Goals as goal

pub go-requires-clause-playable : goal.go-requires-clause-playable
go-requires-clause-playable c =
    let p = c.args.program.now in
    record {
      qubits = p.qubits;
      bits = p.bits;
      sized = first_sized p c.args.sets.now c.args.obligation.now c.requires.asked c.args.case.now c.args.number c.requires.listed c.args.store.now c.args.lsta.now c.in-Ok.first.items c.requires.built c.in-Ok.ensures;
      playable = subst (ArePlayable p.qubits p.bits) (sym c.as_slice.ensures) (record { claims = length p.claims; valid = c.requires.asked.bound.fragment });
    }

pub returns-in_err-ends-clause-grows : goal.returns-in_err-ends-clause-grows
returns-in_err-ends-clause-grows c =
    let first = c.in-Ok.first.items in
    let o = c.args.obligation.now in
    grows_played (steps_for o.fragment first) (play_budget c.args.program.now c.args.sets.now o c.args.case.now) c.args.store.now c.go.new.store c.args.steps.now c.go.new.steps
    (play_within c.args.program.now c.args.sets.now o c.requires.asked c.args.case.now c.args.number c.requires.listed c.args.store.now c.args.lsta.now first c.requires.built c.in-Ok.ensures) c.go.ensures.keeps
    (subst (λ (l : List Stmt). c.go.new.steps.taken ≤ c.args.steps.now.taken + steps_for l first) c.as_slice.ensures c.go.ensures.steps)

pub returns-in_err-ends-clause-stops : goal.returns-in_err-ends-clause-stops
returns-in_err-ends-clause-stops c =
    let first = c.in-Ok.first.items in
    let p = c.args.program.now in
    let s = c.args.sets.now in
    let o = c.args.obligation.now in
    let case = c.args.case.now in
    passed_on _ c.from_residual.result c.in_err-ends.field-0.0 c.from_residual.ensures
    (gives_up (λ l r. IsUnfit alone 1 (of_body o.fragment) c.args.store.now first) (WideGate (meaning_of p s o)) (steps_for o.fragment first) (play_budget p s o case) c.args.steps.now c.go.new.steps c.in_err-ends.field-0.0
    (play_within p s o c.requires.asked case c.args.number c.requires.listed c.args.store.now c.args.lsta.now first c.requires.built c.in-Ok.ensures)
    (λ l r u. unfit_wide p s o c.requires.asked case c.args.number c.requires.listed c.args.store.now c.args.lsta.now first c.requires.built c.in-Ok.ensures worlds_meet_gates u)
    (subst (λ (l : List Stmt). IsStopped (steps_for l first) c.args.steps.now c.go.new.steps c.in_err-ends.field-0.0) c.as_slice.ensures c.in_err-ends.ensures.refused)
    (subst (λ (l : List Stmt). IsCause (λ x y. IsUnfit alone 1 (of_body l) c.args.store.now first) c.in_err-ends.field-0.0) c.as_slice.ensures c.in_err-ends.ensures.cause))

pub split_all-requires : goal.split_all-requires
split_all-requires c =
    let first = c.in-Ok.first.items in
    ends_bits c.args.program.now c.args.sets.now c.args.obligation.now c.requires.asked c.args.case.now c.args.number c.requires.listed c.args.store.now c.args.lsta.now first c.requires.built c.in-Ok.ensures c.go.new.store
    c.in_ok-ends.ends.items (subst (λ (l : List Stmt). Goes alone 1 l c.args.store.now c.go.new.store first c.in_ok-ends.ends.items) c.as_slice.ensures c.in_ok-ends.ensures.worlds)

pub returns-in_err-list-clause-grows : goal.returns-in_err-list-clause-grows
returns-in_err-list-clause-grows c =
    let first = c.in-Ok.first.items in
    let o = c.args.obligation.now in
    let ends = c.in_ok-ends.ends.items in
    let split = c.split_all.ensures in
    grows_split (steps_for o.fragment first) (split_budget o.goal.cases ends) (play_budget c.args.program.now c.args.sets.now o c.args.case.now) c.args.store.now c.go.new.store c.args.steps.now c.go.new.steps c.split_all.new.steps
    (split_within c.args.program.now c.args.sets.now o c.requires.asked c.args.case.now c.args.number c.requires.listed c.args.store.now c.args.lsta.now first c.requires.built c.in-Ok.ensures c.go.new.store
    ends (subst (λ (l : List Stmt). Goes alone 1 l c.args.store.now c.go.new.store first ends) c.as_slice.ensures c.in_ok-ends.ensures.worlds)) c.go.ensures.keeps
    (subst (λ (l : List Stmt). c.go.new.steps.taken ≤ c.args.steps.now.taken + steps_for l first) c.as_slice.ensures c.go.ensures.steps) split.later split.limit
    (subst (λ (l : List BoundCase). c.split_all.new.steps.taken ≤ c.go.new.steps.taken + split_budget l ends) c.as_slice-2.ensures split.cheap)

pub returns-in_err-list-clause-stops : goal.returns-in_err-list-clause-stops
returns-in_err-list-clause-stops c =
    let first = c.in-Ok.first.items in
    let p = c.args.program.now in
    let s = c.args.sets.now in
    let o = c.args.obligation.now in
    let ends = c.in_ok-ends.ends.items in
    let room = split_within p s o c.requires.asked c.args.case.now c.args.number c.requires.listed c.args.store.now c.args.lsta.now first c.requires.built c.in-Ok.ensures c.go.new.store
    ends (subst (λ (l : List Stmt). Goes alone 1 l c.args.store.now c.go.new.store first ends) c.as_slice.ensures c.in_ok-ends.ensures.worlds) in
    let played = subst (λ (l : List Stmt). c.go.new.steps.taken ≤ c.args.steps.now.taken + steps_for l first) c.as_slice.ensures c.go.ensures.steps in
    passed_on _ c.from_residual-in_err-list.result c.in_err-list.field-0.0 c.from_residual-in_err-list.ensures
    (gives_up_later (WideGate (meaning_of p s o)) (split_budget o.goal.cases ends) (play_budget p s o c.args.case.now) c.args.steps.now c.go.new.steps c.split_all.new.steps c.in_err-list.field-0.0 c.go.ensures.keeps.limit (omega (arith, room, played))
    (subst (λ (l : List BoundCase). GivesUp (split_budget l ends) c.go.new.steps c.split_all.new.steps c.in_err-list.field-0.0) c.as_slice-2.ensures c.in_err-list.ensures.stops))

pub returns-clause-worlds : goal.returns-clause-worlds
returns-clause-worlds c =
    let first = c.in-Ok.first.items in
    let goes = subst (λ (l : List Stmt). Goes alone 1 l c.args.store.now c.go.new.store first c.in_ok-ends.ends.items) c.as_slice.ensures c.in_ok-ends.ensures.worlds in
    worlds c.args.program.now c.args.sets.now c.args.obligation.now c.requires.asked c.args.case.now c.args.number c.requires.listed c.args.store.now c.args.lsta.now first c.requires.built c.in-Ok.ensures c.go.new.store
    c.in_ok-ends.ends.items goes c.in_ok-list.list.items
    (subst (λ (l : List BoundCase). AreDecided (asked_bits l c.args.program.now.bits) c.in_ok-ends.ends.items c.in_ok-list.list.items) c.as_slice-2.ensures c.in_ok-list.ensures.decided)

pub returns-clause-fits : goal.returns-clause-fits
returns-clause-fits c =
    let first = c.in-Ok.first.items in
    fits c.args.program.now c.args.sets.now c.args.obligation.now c.requires.asked c.args.case.now c.args.number c.requires.listed c.args.store.now c.args.lsta.now first c.requires.built c.in-Ok.ensures c.go.new.store
    c.in_ok-ends.ends.items (subst (λ (l : List Stmt). Goes alone 1 l c.args.store.now c.go.new.store first c.in_ok-ends.ends.items) c.as_slice.ensures c.in_ok-ends.ensures.worlds)

pub returns-clause-few : goal.returns-clause-few
returns-clause-few c =
    let first = c.in-Ok.first.items in
    let goes = subst (λ (l : List Stmt). Goes alone 1 l c.args.store.now c.go.new.store first c.in_ok-ends.ends.items) c.as_slice.ensures c.in_ok-ends.ensures.worlds in
    few c.args.program.now c.args.sets.now c.args.obligation.now c.requires.asked c.args.case.now c.args.number c.requires.listed c.args.store.now c.args.lsta.now first c.requires.built c.in-Ok.ensures c.go.new.store
    c.in_ok-ends.ends.items goes c.in_ok-list.list.items
    (subst (λ (l : List BoundCase). AreDecided (asked_bits l c.args.program.now.bits) c.in_ok-ends.ends.items c.in_ok-list.list.items) c.as_slice-2.ensures c.in_ok-list.ensures.decided)

pub returns-clause-grows : goal.returns-clause-grows
returns-clause-grows c =
    let first = c.in-Ok.first.items in
    let o = c.args.obligation.now in
    let ends = c.in_ok-ends.ends.items in
    let split = c.split_all.ensures in
    grows_split (steps_for o.fragment first) (split_budget o.goal.cases ends) (play_budget c.args.program.now c.args.sets.now o c.args.case.now) c.args.store.now c.go.new.store c.args.steps.now c.go.new.steps c.split_all.new.steps
    (split_within c.args.program.now c.args.sets.now o c.requires.asked c.args.case.now c.args.number c.requires.listed c.args.store.now c.args.lsta.now first c.requires.built c.in-Ok.ensures c.go.new.store
    ends (subst (λ (l : List Stmt). Goes alone 1 l c.args.store.now c.go.new.store first ends) c.as_slice.ensures c.in_ok-ends.ensures.worlds)) c.go.ensures.keeps
    (subst (λ (l : List Stmt). c.go.new.steps.taken ≤ c.args.steps.now.taken + steps_for l first) c.as_slice.ensures c.go.ensures.steps) split.later split.limit
    (subst (λ (l : List BoundCase). c.split_all.new.steps.taken ≤ c.go.new.steps.taken + split_budget l ends) c.as_slice-2.ensures split.cheap)
