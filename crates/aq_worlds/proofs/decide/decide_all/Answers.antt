use Rattle.std.proofs.Common.{◌≡◌, ℕ, subst, arith}
use Rattle.aq_worlds.specs.Starting.{Decides, asked_bits}
use Rattle.aq_worlds.proofs.DecideLaws.{decides_none, decides_step, have_bit}
use Rattle.aq_worlds.proofs.decide.decide_all.Goals as goal

pub loop-bit-init : goal.loop-bit-init
loop-bit-init c = decides_none c.args.worlds.items

pub decide-requires : goal.decide-requires
decide-requires c = have_bit c.args.cases.now c.loop-bit.bit c.args.bits c.args.worlds.items c.loop-bit.left.items c.loop-bit-test.true c.requires c.loop-bit.invariant

pub loop-bit-preserved : goal.loop-bit-preserved
loop-bit-preserved c = decides_step c.args.cases.now c.loop-bit.bit c.args.worlds.items c.loop-bit.left.items c.in_ok-left.left.items c.loop-bit.invariant c.in_ok-left.ensures

pub returns : goal.returns
returns c =
    let end : c.loop-bit.bit ≡ c.args.bits = omega (arith, c.loop-bit.far-bit, c.loop-bit-test.false) in
    subst (λ (k : ℕ). Decides (asked_bits c.args.cases.now k) c.args.worlds.items c.loop-bit.left.items) end c.loop-bit.invariant
