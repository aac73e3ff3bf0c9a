use Rattle.std.proofs.Common.{◌∙◌, [], ◌∷◌, ◌++◌, ap, arith}
use Rattle.aq_plain_judge.proofs.ExampleLaws.{if_small}
use Rattle.aq_plain_judge.proofs.tests.flip_if_one.Goals as goal

pub returns : goal.returns
returns c =
    let flip = c.in_ok-flip.flip in
    if_small _ flip _ _ (c.in_ok-push.ensures.ok ∙ ap (λ l. l ++ flip ∷ []) c.new-yes.ensures) c.new.ensures (omega arith) c.in_ok-flip.ensures
