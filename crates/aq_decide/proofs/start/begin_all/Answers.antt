use Rattle.std.proofs.Common.{List, [], ◌∷◌, ◌++◌, Option, sym, ap, ◌∙◌, subst}
use Rattle.aq_obligations.specs.Worlds.{Partial}
use Rattle.aq_symbolic.specs.declared.kept.World.{World}
use Rattle.aq_decide.specs.Starting.{BeginsIf}
use Rattle.aq_decide.proofs.start.begin_all.Goals as goal

pub returns : goal.returns
returns c =
    let world = c.in_ok-world.world in
    let items = c.in_ok-push.ensures.items ∙ ap (λ (l : List World). l ++ world ∷ []) c.new-list.ensures.items in
    subst (λ (x : Option Partial). BeginsIf c.args.number c.args.lsta.now x c.push.new.self.items) (sym c.in-Some.is) (world, items, c.in_ok-world.ensures)
