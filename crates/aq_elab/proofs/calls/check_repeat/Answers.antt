use Rattle.std.proofs.Common.{◌≡◌, ℕ, List, [], ◌∷◌, Ok, refl, sym, ap, ◌∙◌, drop}
use Rattle.std.proofs.lemmas.List.{drop_all}
use Rattle.aq_parse.specs.declared.tree.Spot.{Spot}
use Rattle.aq_elab.specs.Calls.{no_repeat}
use Rattle.aq_elab.proofs.calls.check_repeat.Goals as goal

no_repeat-none : (before : List ℕ) (spots : List Spot) → no_repeat before spots [] ≡ Ok tt
no_repeat-none before [] = refl
no_repeat-none before (spot ∷ spots) = refl

pub returns : goal.returns
returns c =
    sym (no_repeat-none _ (drop c.loop-i.i c.args.spots.now))
    ∙ sym (ap (no_repeat _ (drop c.loop-i.i c.args.spots.now)) (drop_all c.loop-i.i c.args.qubits.now c.loop-i-test.false))
    ∙ c.loop-i.invariant
