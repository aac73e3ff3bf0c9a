-- Four answers as one answer.
use Rattle.std.specs.Prelude.{Option, Some, None, ℤ}
use Rattle.aq_ring.specs.Quads.{Quad, quad}

-- the number of these coefficients, if each is there
abbrev pub gathered : Option ℤ → Option ℤ → Option ℤ → Option ℤ → Option Quad
gathered (Some a) (Some b) (Some c) (Some d) = Some (quad a b c d)
gathered _ _ _ _ = None
