use Rattle.aq_ring.proofs.AmplitudeLaws.{lowest_form-own, turn-eight, sum_comm, sum_assoc, sum-zero, sum-opposite, product_comm, product_assoc, product-one, product-zero, product_sum, product_without_zero, same_lowest, same_number, turn-sum, turn-product, quotient_sum, quotient_product}
use Rattle.aq_ring.proofs.NormLaws.{norm_is, no_square_is_twice, whole_zero}
use Rattle.aq_ring.proofs.MoreLaws.{product-cancel, turn-turn, turn-is_product, turn-nonzero, quotient-is_product, quotient-nonzero}
use Rattle.aq_ring.proofs.laws.ring.Goals as goal

pub returns : goal.returns
returns c = record {
  ring = record {
    sum_commutative = sum_comm;
    sum_associative = sum_assoc;
    sum_zero = sum-zero;
    sum_opposite = sum-opposite;
    product_commutative = product_comm;
    product_associative = product_assoc;
    product_one = product-one;
    product_zero = product-zero;
    product_of_sum = product_sum;
    factor_cancels = product-cancel;
  };
  no_zero_divisors = product_without_zero;
  absolute_squares = record { absolute_square = norm_is; no_square_is_twice = no_square_is_twice; whole_is_zero = whole_zero };
  one_lowest_form = record {
    lowest_is_itself = lowest_form-own;
    same_number = λ k l x y. (same_lowest k l x y, same_number k l x y);
  };
  steps = record {
    turn_of_sum = turn-sum;
    turn_of_product = turn-product;
    turn_of_turn = turn-turn;
    eight_turns = turn-eight;
    turn_is_product = turn-is_product;
    turn_nonzero = turn-nonzero;
    quotient_of_sum = quotient_sum;
    quotient_of_product = quotient_product;
    quotient_is_product = quotient-is_product;
    quotient_nonzero = quotient-nonzero;
  };
}
