use Rattle.std.proofs.Common.{◌+◌, length, [], ap, subst, arith}
use Rattle.std.proofs.lemmas.List.{length_push}
use Rattle.aq_set_build.specs.Brackets.{IsKets}
use Rattle.aq_set_build.proofs.GrowthLemmas.{grows_then}
use Rattle.aq_set_build.proofs.KetLemmas.{zeros_more}
use Rattle.aq_set_build.proofs.bracket.zeros_below.Goals as goal

pub loop-level-preserved : goal.loop-level-preserved
loop-level-preserved c =
    let zs = c.loop-level.zeros.items in
    record {
      zeros = zeros_more c.loop-level.store c.next_zero.new.store c.next_zero.ensures.grows.keeps zs c.push.new.self.items c.in_ok-zero.zero c.in-Ok.ensures.items c.loop-level.invariant.zeros
          (subst (λ ts. IsKets (length ts) [] c.next_zero.new.store c.in_ok-zero.zero) c.as_slice.ensures.value c.in_ok-zero.ensures.made);
      long = (let e = ap length c.in-Ok.ensures.items in let f = length_push zs c.in_ok-zero.zero in omega (arith, c.loop-level.invariant.long));
      grows = grows_then c.loop-level.level 1 (c.loop-level.level + 1) _ _ _ _ _ _ c.loop-level.invariant.grows c.next_zero.ensures.grows (omega arith);
    }
