use Rattle.std.proofs.Common.{refl}
use Rattle.aq_ring.proofs.AmplitudeLaws.{same_amplitude}
use Rattle.aq_ring.proofs.Amp.zero.Goals as goal

pub returns : goal.returns
returns c = same_amplitude _ _ c.zero.ensures refl
