-- Amplitudes of coefficients.
use Rattle.std.proofs.Common.{◌≡◌, ℕ, ◌-◌, arith, sym, ap, ◌∙◌}
use Rattle.aq_ring.specs.Quads.{Quad, quad_neg, turned_by, times_roots}
use Rattle.aq_ring.specs.Amplitudes.{lowest_form, turn}
use Rattle.aq_ring.proofs.QuadLaws.{turned-four}
use Rattle.aq_ring.proofs.AmplitudeLaws.{lowest_form-power, lowest_form-num_at, num_at-lowest_form, turn-power, num_at-turn}

roots_left : (k : ℕ) (x : Quad) → times_roots (k - k) x ≡ x
unfolding times_roots
roots_left k x =
    let e : k - k ≡ 0 = omega arith in
    ap (λ n. times_roots n x) e

-- a turn of a lowest form is that of the turned numerator
pub turn_of_lowest : (j k : ℕ) (x : Quad) → turn j (lowest_form k x) ≡ lowest_form k (turned_by j x)
turn_of_lowest j k x =
    let small = lowest_form-power k x in
    let turned_small = turn-power j (lowest_form k x) in
    sym (lowest_form-num_at k (turn j (lowest_form k x)) (omega arith))
    ∙ ap (lowest_form k) (num_at-turn k j (lowest_form k x) small ∙ ap (turned_by j) (num_at-lowest_form k k x (omega arith) ∙ roots_left k x))

-- and half a turn is the opposite
pub opposite_of_lowest : (k : ℕ) (x : Quad) → turn 4 (lowest_form k x) ≡ lowest_form k (quad_neg x)
opposite_of_lowest k x = turn_of_lowest 4 k x ∙ ap (lowest_form k) (turned-four x)
