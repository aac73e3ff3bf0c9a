use Rattle.std.proofs.Common.{◌++◌, ◌∷◌, [], List, slice_get, sym, ap, ◌∙◌, arith}
use Rattle.aq_elab.specs.Elaborated.{registers_of}
use Rattle.aq_elab.specs.Known.{Known}
use Rattle.aq_prog.specs.declared.program.BitRegister.{BitRegister}
use Rattle.aq_elab.proofs.ScopeLaws.{registers_more}
use Rattle.aq_elab.proofs.scope.Scope.registers.Goals.{in-Some+in_ok-push_register, in_default}
use Rattle.aq_elab.proofs.scope.Scope.registers.Goals as goal

pub loop-i-preserved : goal.loop-i-preserved
loop-i-preserved c =
    elim c.match-get_index.branch [
      | in-Some+in_ok-push_register w ↦
          w.registers-is ∙ w.in_ok-push_register.ensures.pushed
          ∙ ap (λ (rs : List BitRegister). rs ++ registers_of ((w.in-Some.name.now, w.in-Some.declared.now) ∷ [])) c.loop-i.invariant
          ∙ registers_more c.args.self.now.names c.loop-i.i (w.in-Some.name.now, w.in-Some.declared.now) (ap (λ (k : Known). slice_get k.names c.loop-i.i) (sym c.self.view_is) ∙ sym w.in-Some.ensures.entry)
      | in_default w ↦ absurd (let some = rw w.in_default.is at c.get_index.ensures.found.1 (omega (arith, c.len-i-end.ensures.len)) in let f : ⊥ = cc in f)
    ]
