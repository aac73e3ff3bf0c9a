use Rattle.std.proofs.Common.{FitsSigned, rules, get_or, pos, ◌∙◌, ap, subst, to_z-of_z}
use Rattle.std.specs.Int.{w128}
use Rattle.aq_ring.specs.Fractions.{IsInRange}
use Rattle.aq_ring.specs.Amplitudes.{lowest_form}
use Rattle.aq_ring.proofs.CodeLemmas.{quad_of-items}
use Rattle.aq_ring.proofs.Amp.from_parts.Goals as goal

pub returns : goal.returns
returns c =
    let e = quad_of-items c.args.coefs (search rules) in
    let f0 : FitsSigned w128 (get_or c.args.coefs 0 (pos 0)) = search rules in
    let f1 : FitsSigned w128 (get_or c.args.coefs 1 (pos 0)) = search rules in
    let f2 : FitsSigned w128 (get_or c.args.coefs 2 (pos 0)) = search rules in
    let f3 : FitsSigned w128 (get_or c.args.coefs 3 (pos 0)) = search rules in
    let a = simp to_z-of_z at c.in_ok-new.ensures in
    (subst IsInRange e a.0, c.lowest.ensures ∙ ap (lowest_form c.args.power) (a.1 ∙ e))
