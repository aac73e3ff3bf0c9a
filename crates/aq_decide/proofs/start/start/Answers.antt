use Rattle.std.proofs.Common.{List, ◌++◌, ◌∙◌, ap, subst, Option}
use Rattle.aq_prog.specs.declared.stmt.Guard.{Guard}
use Rattle.aq_obligations.specs.Worlds.{Partial, fixing, given_guards}
use Rattle.aq_decide.specs.Starting.{BeginsIf}
use Rattle.aq_decide.proofs.start.start.Goals as goal

pub returns : goal.returns
returns c =
    let gs = c.args.case.now.when ++ given_guards c.args.obligation.now.given in
    let first = c.in_ok-first.first in
    let is = c.fix_both-known.ensures ∙ ap (λ (l : List Guard). fixing (l ++ given_guards c.args.obligation.now.given) first) c.as_slice.ensures ∙ ap (fixing gs) c.in_ok-first.ensures in
    subst (λ (x : Option Partial). BeginsIf c.args.number c.args.lsta.now x c.in_ok-list.list.items) is c.in_ok-list.ensures
