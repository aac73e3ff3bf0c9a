use Rattle.std.proofs.Common.{◌≡◌, List, ◌++◌, length, sym, ◌∙◌, ap, subst, Option, IfSome}
use Rattle.aq_prog.specs.declared.stmt.Guard.{Guard}
use Rattle.aq_obligations.specs.Worlds.{Partial, fixing, given_guards, starting}
use Rattle.aq_worlds.specs.Playing.{Gives}
use Rattle.aq_worlds.specs.Starting.{bits_before}
use Rattle.aq_worlds.proofs.StartLaws.{fixing-length, before-length}
use Rattle.aq_worlds.proofs.start.start.Goals as goal

pub returns : goal.returns
returns c = λ n case amps on.
    let m = c.args.bits in
    let gs = c.args.case.now.when ++ given_guards c.args.obligation.now.given in
    let first = c.in_ok-first.first in
    let before = bits_before c.args.obligation.now.start m in
    let is = c.fix_both-known.ensures ∙ ap (λ (l : List Guard). fixing (l ++ given_guards c.args.obligation.now.given) first) c.as_slice.ensures ∙ ap (fixing gs) c.in_ok-first.ensures in
    subst (λ (x : Option Partial). Gives n m case c.in_ok-list.list.items (starting case x)) is
    (c.in_ok-list.ensures n m case amps on (subst (λ (x : Option Partial). IfSome x (λ b. length b ≡ m)) (sym is) (fixing-length m gs before (before-length c.args.obligation.now.start m))))
