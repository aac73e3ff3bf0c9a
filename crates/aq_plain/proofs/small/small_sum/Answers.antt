use Rattle.std.proofs.Common.{◌≡◌, Option, None, sym, ◌∙◌, subst}
use Rattle.std.specs.Option.{MatchOption}
use Rattle.aq_ring.proofs.CodeLemmas.{sum_with_zero, sum_onto_zero}
use Rattle.aq_plain.specs.declared.small.Fraction.{Fraction}
use Rattle.aq_plain.proofs.small.small_sum.Goals as goal

none_of : (r : Option Fraction) (P : Type 0) (Q : Fraction → Type 0) → r ≡ None → MatchOption r P Q → P
none_of r P Q e h = subst (λ o. MatchOption o P Q) e h

pub returns-in-Some-None : goal.returns-in-Some-None
returns-in-Some-None c = c.over_roots.ensures ∙ sym c.in-Some-None.ensures.same ∙ (sum_onto_zero _ _ c.in-Some-None.ensures').1

pub returns-in-None-Some : goal.returns-in-None-Some
returns-in-None-Some c = c.over_roots-in-None-Some.ensures ∙ sym c.in-None-Some.ensures.same ∙ (sum_with_zero _ _ (none_of _ _ _ c.in-None-Some.is-0 c.fraction_of.ensures)).1

pub returns-in-None-None : goal.returns-in-None-None
returns-in-None-None c = c.zero.ensures ∙ sym c.in-None-None.ensures ∙ (sum_with_zero _ _ (none_of _ _ _ c.in-None-None.is-0 c.fraction_of.ensures)).1
