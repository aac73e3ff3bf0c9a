use Rattle.std.proofs.Common.{◌≡◌, rules}
use Rattle.aq_ring.specs.Amplitudes.{amplitude_zero}
use Rattle.aq_ring.proofs.CodeLemmas.{sum_with_zero, sum_onto_zero}
use Rattle.aq_ring.proofs.Amp.sum.Goals as goal

pub returns-then-is_zero : goal.returns-then-is_zero
returns-then-is_zero c = let z : c.args.self ≡ amplitude_zero = search rules in sum_with_zero _ _ z

pub returns-then-is_zero-2 : goal.returns-then-is_zero-2
returns-then-is_zero-2 c = let z : c.args.other ≡ amplitude_zero = search rules in sum_onto_zero _ _ z
