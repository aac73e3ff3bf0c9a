use Rattle.aq_cert.proofs.ValidLemmas.{valid-included}
use Rattle.aq_cert.proofs.laws.valid_is_included.Goals as goal

pub returns : goal.returns
returns g c = λ table left goals cert fit valid. valid-included g.L.Label.parts table g.L.Label.part_count g.met.L.Label.all_parts left goals cert fit valid
