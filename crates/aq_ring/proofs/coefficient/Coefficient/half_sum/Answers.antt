use Rattle.std.proofs.Common.{sym, subst, ◌∙◌, ◌≡◌, FitsSigned, ap, pos, ◌+ℤ◌}
use Rattle.std.specs.Int.RustNames.{int_div}
use Rattle.std.specs.Int.{w128}
use Rattle.aq_ring.specs.Quads.{parity}
use Rattle.aq_ring.specs.Fractions.{InRange}
use Rattle.aq_ring.proofs.HalfLemmas.{half_sum-code, half_sum-InRange, fits_in_range, round_is, round}
use Rattle.aq_ring.proofs.coefficient.Coefficient.half_sum.Goals as goal

pub overflow_add-result : goal.overflow_add-result
overflow_add-result c =
    let x = c.self.inside.value in let y = c.other.inside.value in
    let same : parity x ≡ parity y = ap parity c.self.view_is ∙ c.requires ∙ ap parity (sym c.other.view_is) in
    let e = half_sum-code x y c.self.invariant c.other.invariant same in
    subst (FitsSigned w128) (sym e) (fits_in_range _ (half_sum-InRange x y c.self.invariant c.other.invariant))

pub invariant_of-result : goal.invariant_of-result
invariant_of-result c =
    let x = c.self.inside.value in let y = c.other.inside.value in
    let same : parity x ≡ parity y = ap parity c.self.view_is ∙ c.requires ∙ ap parity (sym c.other.view_is) in
    let e = half_sum-code x y c.self.invariant c.other.invariant same in
    let r = half_sum-InRange x y c.self.invariant c.other.invariant in
    let half = int_div (x +ℤ y) (pos 2) in
    subst InRange {x = half} (sym (ap round e ∙ round_is half r)) r

pub returns : goal.returns
returns c =
    let x = c.self.inside.value in let y = c.other.inside.value in
    let same : parity x ≡ parity y = ap parity c.self.view_is ∙ c.requires ∙ ap parity (sym c.other.view_is) in
    let e = half_sum-code x y c.self.invariant c.other.invariant same in
    let r = half_sum-InRange x y c.self.invariant c.other.invariant in
    rw (← c.self.view_is, ← c.other.view_is) (ap round e ∙ round_is _ r)
