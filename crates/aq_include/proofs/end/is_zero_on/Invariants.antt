use Rattle.std.proofs.Common.{[], take}
use Rattle.aq_cert.specs.Macros.{IsZeroOn}
use Rattle.aq_include.proofs.end.is_zero_on.Given as goal

abbrev pub invariant-loop-place : goal.invariant-loop-place
invariant-loop-place g l = IsZeroOn g.L.Label.parts l.store (take l.place-index l.domain) []
