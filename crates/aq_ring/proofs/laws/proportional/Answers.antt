use Rattle.aq_ring.proofs.AmplitudeLaws.{product_sum}
use Rattle.aq_ring.proofs.MoreLaws.{product-turn, product-quotient, product-zero_right}
use Rattle.aq_ring.proofs.ProportionalLaws.{proportional-equivalence, proportional-keeps}
use Rattle.aq_ring.proofs.laws.proportional.Goals as goal

pub returns : goal.returns
returns c = record {
  equivalence = proportional-equivalence;
  keeps = proportional-keeps;
  scalars = record {
    scalar_of_zero = product-zero_right;
    scalar_of_sum = product_sum;
    scalar_of_turn = product-turn;
    scalar_of_quotient = product-quotient;
  };
}
