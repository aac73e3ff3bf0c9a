use Rattle.std.proofs.Common.{◌≡◌, sym, ap, ◌∙◌, arith, rules, subst}
use Rattle.aq_ring.specs.Quads.{quad_zero, times_root, times_roots}
use Rattle.aq_ring.specs.Fractions.{IsInRange}
use Rattle.aq_ring.proofs.ReduceLaws.{times_roots-zero}
use Rattle.aq_ring.proofs.CodeLemmas.{times_roots-more, times_roots-none, none_where, too_large}
use Rattle.aq_ring.proofs.quad.Quad.times_roots.Goals as goal

pub returns-then-is_zero : goal.returns-then-is_zero
returns-then-is_zero c =
    let z : c.args.self ≡ quad_zero = search rules in
    let same : c.args.self ≡ times_roots c.args.n c.args.self = z ∙ sym (times_roots-zero c.args.n) ∙ ap (times_roots c.args.n) (sym z) in
    (subst IsInRange same c.coefficients.ensures.range, same)

pub loop-i-init : goal.loop-i-init
loop-i-init c = (sym (times_roots-none _), c.coefficients.ensures.range)

pub returns-in_err-number : goal.returns-in_err-number
returns-in_err-number c =
    none_where _ _ _ c.from_residual.ensures (too_large c.args.self c.loop-i.number c.loop-i._i c.args.n c.loop-i.invariant.0 (omega arith) c.in_err-number.ensures)

pub loop-i-preserved : goal.loop-i-preserved
loop-i-preserved c =
    let a = c.in_ok-number.ensures in
    (a.1 ∙ ap times_root c.loop-i.invariant.0 ∙ times_roots-more _ _, subst IsInRange (sym a.1) a.0)
