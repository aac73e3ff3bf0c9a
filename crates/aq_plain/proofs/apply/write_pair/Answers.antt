use Rattle.std.proofs.Common.{◌≡◌, ◌+◌, ◌∙◌, rules, sym}
use Rattle.aq_ring.specs.Amplitudes.{amplitude_zero}
use Rattle.aq_prog.specs.Digits.{amplitude_at}
use Rattle.aq_plain.proofs.PairLaws.{zeros_stay}
use Rattle.aq_plain.proofs.apply.write_pair.Goals as goal

pub returns-then-is_zero-2 : goal.returns-then-is_zero-2
returns-then-is_zero-2 c =
    let low : c.index-amps-low.result ≡ amplitude_zero = search rules in
    let high : c.index-amps-low-then-is_zero.result ≡ amplitude_zero = search rules in
    let at_low : c.index-amps-low.result ≡ amplitude_at c.args.amps.now c.args.low = search rules in
    let at_high : c.index-amps-low-then-is_zero.result ≡ amplitude_at c.args.amps.now (c.args.low + c.args.weight) = search rules in
    zeros_stay c.args.gate.now c.args.amps.now c.args.low c.args.weight (sym at_low ∙ low) (sym at_high ∙ high)
