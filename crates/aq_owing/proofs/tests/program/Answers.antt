use Rattle.std.proofs.Common.{◌≡◌, true, false, List, [], ◌∷◌, ◌∙◌}
use Rattle.aq_owing.proofs.ExampleLaws.{register, valid_program, two_pushed}
use Rattle.aq_owing.proofs.tests.program.Goals as goal

pub returns : goal.returns
returns c =
    let pushed = two_pushed c.new-registers.result c.push.new.self c.push-2.new.self (register c.in_ok-from_slice.field-0 0 2 true) (register c.in_ok-from_slice-2.field-0 2 1 false)
    c.new-registers.ensures c.in_ok-push.ensures.ok c.in_ok-push-2.ensures.ok in
    valid_program c.push-2.new.self c.new.result c.new-2.result
    (pushed ∙ (λ i. register (c.in_ok-from_slice.ensures i) 0 2 true ∷ register (c.in_ok-from_slice-2.ensures i) 2 1 false ∷ [])) c.new.ensures c.new-2.ensures
