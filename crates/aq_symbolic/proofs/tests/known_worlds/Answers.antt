use Rattle.std.proofs.Common.{rules, ◌≡◌, ◌∷◌, [], ◌++◌, List, sym, subst}
use Rattle.std.proofs.lemmas.List.Elements.{All-append}
use Rattle.aq_symbolic.specs.Worlds.{AreSized, IsSized}
use Rattle.aq_symbolic.specs.declared.kept.World.{World}
use Rattle.aq_symbolic.proofs.CollectLemmas.{sized_one}
use Rattle.aq_symbolic.proofs.tests.known_worlds.Goals as goal

pub loop-world-preserved : goal.loop-world-preserved
loop-world-preserved c =
    let table = c.both.new.store in
    let list = c.loop-world.list.items in
    let world = c.in_ok-world.world in
    let pushed : c.push.new.self.items ≡ list ++ world ∷ [] = search rules in
    subst (λ (l : List World). AreSized 1 1 table l) (sym pushed)
    (All-append (IsSized 1 1 table) list (world ∷ []) c.loop-world.invariant (sized_one 1 1 table world c.in_ok-world.ensures))
