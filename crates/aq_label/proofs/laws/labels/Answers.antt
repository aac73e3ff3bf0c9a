use Rattle.aq_label.proofs.PartLaws.{length-sums, one_zero, sums_comm, sums_assoc, sums_zero, sums_opposite, scaled-sums, scaled_by_sum, scaled_by_product, scaled_by_one, scaled_nonzero, turns-sums, turns-scaled, turns-turns, eight_single_turns, quotients-sums, quotients-scaled}
use Rattle.aq_label.proofs.laws.labels.Goals as goal

pub returns : goal.returns
returns c = record {
  labels = record {
    sums_commutative = sums_comm;
    sums_associative = sums_assoc;
    sums_zero = sums_zero;
    one_zero = one_zero;
    sums_length = length-sums;
    sums_opposite = sums_opposite;
    scaled_sums = scaled-sums;
    scaled_by_sum = scaled_by_sum;
    scaled_by_product = scaled_by_product;
    scaled_by_one = scaled_by_one;
    scaled_nonzero = scaled_nonzero;
  };
  steps = record {
    turns_of_sums = turns-sums;
    turns_of_scaled = turns-scaled;
    turns_of_turns = turns-turns;
    eight_single_turns = eight_single_turns;
    quotients_of_sums = quotients-sums;
    quotients_of_scaled = quotients-scaled;
  };
}
