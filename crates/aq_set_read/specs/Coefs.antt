-- The amplitude of a term.
use Rattle.std.specs.Prelude.{ℕ, ◌%◌, ℤ, pos, neg_ℤ, Bool, true, false, Option, Some, None}
use Rattle.aq_ring.specs.Quads.{Quad, quad, quad_one, quad_neg, turned_by}
use Rattle.aq_ring.specs.Fractions.{Amplitude}
use Rattle.aq_ring.specs.Amplitudes.{lowest_form}
use Rattle.aq_set_parse.specs.declared.tree.SetInt.{SetInt}
use Rattle.aq_set_parse.specs.declared.tree.SetTurn.{SetTurn}
use Rattle.aq_set_parse.specs.declared.tree.SetTurn.TheVariants as turns
use Rattle.aq_set_parse.specs.declared.tree.SetScalar.{SetScalar}
use Rattle.aq_set_parse.specs.declared.tree.SetScalar.TheVariants as scalars
use Rattle.aq_set_parse.specs.declared.tree.SetCoef.{SetCoef}

abbrev pub signed : Bool → ℕ → ℤ
signed true n = neg_ℤ (pos n)
signed false n = pos n

abbrev pub int_of : SetInt → ℤ
int_of x = signed x.minus x.number

-- the number n
abbrev pub whole : ℕ → Quad
whole n = quad (pos n) (pos 0) (pos 0) (pos 0)

-- w^j, where j counts by 8, and i, which is w^2
abbrev pub turns_of : SetTurn → ℕ
turns_of (turns.Omega j) = j % 8
turns_of turns.Imaginary = 2

abbrev pub quad_of_scalar : SetScalar → Quad
quad_of_scalar (scalars.Number n) = whole n
quad_of_scalar (scalars.Turned times turn) = turned_by (turns_of turn) (whole times)
quad_of_scalar (scalars.Quadruple a b c d) = quad (int_of a) (int_of b) (int_of c) (int_of d)

-- the numerator and the divisions by sqrt(2) that are written; 1 and none where there is no coefficient
abbrev pub numerator : Option SetCoef → Quad
numerator None = quad_one
numerator (Some c) = quad_of_scalar c.scalar

abbrev pub roots_of : Option SetCoef → ℕ
roots_of None = 0
roots_of (Some c) = c.roots

abbrev pub negated : Bool → Quad → Quad
negated true x = quad_neg x
negated false x = x

-- the amplitude, in lowest form
unfoldable pub amplitude_of : Bool → Option SetCoef → Amplitude
amplitude_of minus coef = lowest_form (roots_of coef) (negated minus (numerator coef))
