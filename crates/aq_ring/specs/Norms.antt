-- Absolute squares in ℤ[w]. They are numbers s + t*sqrt(2) with whole s and t.
use Rattle.std.specs.Prelude.{ℤ, pos, ◌+ℤ◌, ◌-ℤ◌, ◌*ℤ◌, neg_ℤ}
use Rattle.aq_ring.specs.Quads.{Quad}

-- the complex conjugate, which turns w to w^7 = -w^3
abbrev pub conjugate : Quad → Quad
conjugate x = record { a = x.a; b = neg_ℤ x.d; c = neg_ℤ x.c; d = neg_ℤ x.b }

-- s + t*sqrt(2), where sqrt(2) is w - w^3
abbrev pub with_root : ℤ → ℤ → Quad
with_root s t = record { a = s; b = t; c = pos 0; d = neg_ℤ t }

-- the whole part s of an absolute square
abbrev pub norm_whole : Quad → ℤ
norm_whole x = x.a *ℤ x.a +ℤ x.b *ℤ x.b +ℤ x.c *ℤ x.c +ℤ x.d *ℤ x.d

-- the part t of an absolute square that stands at sqrt(2)
abbrev pub norm_root : Quad → ℤ
norm_root x = x.a *ℤ x.b +ℤ x.b *ℤ x.c +ℤ x.c *ℤ x.d -ℤ x.a *ℤ x.d
