use Rattle.std.proofs.Common.{subst, sym, ap, ◌∙◌}
use Rattle.std.specs.Prelude.{IfSome}
use Rattle.aq_elab.specs.Bounds.{IsShort}
use Rattle.aq_elab.specs.Known.{Known, declared_as}
use Rattle.aq_elab.proofs.ScopeLaws.{lookup_declared, declared_short}
use Rattle.aq_elab.proofs.scope.Scope.declared_as.Goals as goal

pub returns-clause-declared : goal.returns-clause-declared
returns-clause-declared c =
    c.copied.ensures ∙ c.get.ensures.value ∙ lookup_declared c.self.inside.names.entries c.args.name.now ∙ ap (λ (k : Known). declared_as k.names c.args.name.now) c.self.view_is

pub returns-clause-short : goal.returns-clause-short
returns-clause-short c =
    subst (λ r. IfSome r (λ d. IsShort d.span)) (sym (c.copied.ensures ∙ c.get.ensures.value ∙ lookup_declared c.self.inside.names.entries c.args.name.now)) (declared_short c.self.inside.names.entries c.args.name.now c.self.invariant.short)
