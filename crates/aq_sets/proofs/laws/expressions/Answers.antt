use Rattle.aq_sets.proofs.SizeLaws.{has_count, has_long, has_shape, has_words}
use Rattle.aq_sets.proofs.ToldLaws.{valid_exprs}
use Rattle.aq_sets.proofs.PlaceLaws.{has_places}
use Rattle.aq_sets.proofs.laws.expressions.Goals as goal

pub returns : goal.returns
returns c = record {
  vectors = record {
    counted = λ s h. has_count s.exprs (valid_exprs s h);
    long = λ s h. has_long s.exprs (valid_exprs s h);
    shaped = λ s h. has_shape s.exprs (valid_exprs s h);
    few = λ s h. has_words s.exprs (valid_exprs s h);
    placed = λ s h. has_places s.exprs (valid_exprs s h);
  };
}
