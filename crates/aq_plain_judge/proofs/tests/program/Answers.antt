use Rattle.std.proofs.Common.{◌∙◌, [], ◌∷◌, ◌++◌, sym, refl, subst, false}
use Rattle.aq_prog.specs.declared.program.BitRegister.{BitRegister}
use Rattle.aq_prog.specs.Programs.{IsValidProgram}
use Rattle.aq_plain_judge.proofs.ExampleLaws.{valid_program}
use Rattle.aq_plain_judge.proofs.tests.program.Goals as goal

pub returns-clause-valid : goal.returns-clause-valid
returns-clause-valid c =
    let r : BitRegister = record { name = c.in_ok-from_slice.field-0; first = 0; size = 1; indexed = false } in
    let one = c.in_ok-push.ensures.ok ∙ (λ i. c.new-registers.ensures i ++ r ∷ []) in
    subst IsValidProgram (λ i. record { qubits = 1; bits = 1; registers = sym one i; claims = sym c.new.ensures i; body = sym c.new-2.ensures i }) (valid_program r refl refl)
