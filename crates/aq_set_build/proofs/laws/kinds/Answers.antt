use Rattle.aq_set_build.proofs.ExprLemmas.{made_kets, made_all, made_tensor, made_power, wide_tensor, wide_power}
use Rattle.aq_set_build.proofs.CoverLemmas.{valid_exprs, covered, tensor_within, power_within}
use Rattle.aq_set_build.proofs.laws.kinds.Goals as goal

pub returns : goal.returns
returns c = record {
  kinds = record {
    bracket = λ s valid i q terms at table made h. made_kets s.exprs (valid_exprs s valid) i q terms at table made h;
    basis = λ s valid i q at table made h. made_all s.exprs (valid_exprs s valid) i q at table made h;
    product = λ s valid i l r at old new first second made p q h.
        let v = valid_exprs s valid in
        let w = tensor_within s.exprs v i l r at in
        made_tensor s.exprs v i l r at w.0 w.1 (covered s.exprs v l w.0) (covered s.exprs v r w.1) old new first second made p q h;
    product_wide = λ s valid i l r at table first second p q x y h. wide_tensor s.exprs (valid_exprs s valid) i l r at table first second p q x y h;
    power = λ s valid i base n at old new factor made p h.
        let v = valid_exprs s valid in
        let w = power_within s.exprs v i base _ at in
        made_power s.exprs v base w i n at (covered s.exprs v base w) old new factor made p h;
    power_wide = λ s valid i base times at table factor p x y h.
        let v = valid_exprs s valid in
        wide_power s.exprs v base (power_within s.exprs v i base times at) i times at table factor p x y h;
  };
}
