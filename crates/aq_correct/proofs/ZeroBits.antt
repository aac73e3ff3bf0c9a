-- Bits that are 0, and gates on the vectors of a world.
use Rattle.std.proofs.Common.{◌≡◌, ℕ, zero, suc, ◌<◌, Bool, false, List, [], ◌∷◌, All, length, replicate, slice_index_or, Some, refl, ap, arith, ap₂}
use Rattle.aq_ring.specs.Fractions.{Amplitude}
use Rattle.aq_ring.specs.Vectors.{Proportional}
use Rattle.aq_prog.specs.Gates.{apply_gate, apply_gates}
use Rattle.aq_prog.specs.declared.gate.Gate.{Gate}
use Rattle.aq_prog.specs.declared.stmt.Stmt.TheVariants as stmt
use Rattle.aq_prog.specs.declared.stmt.Stmt.TheOpen.{Stmt-F}
use Rattle.aq_prog.specs.declared.stmt.Stmt.TheFolds.{fold-roll-Stmt}
use Rattle.aq_prog.specs.declared.stmt.Stmt.TheViews.{roll-Stmt}
use denote.Hole.Carrier.{roll}
use Rattle.aq_prog.proofs.VectorLaws.{apply_gate-proportional}
use Rattle.aq_obligations.specs.Worlds.{World, Partial, Spread, with_vectors, spread, spread_step, filled}
use Rattle.aq_obligations.specs.Correct.{zeros}

-- bits of which each is 0
pub all_zeros : (m : ℕ) (bits : List Bool) → length bits ≡ m → All (λ b. b ≡ false) bits → bits ≡ zeros m
all_zeros zero [] e z = refl
all_zeros (suc m) [] e z = absurd (omega (arith, e))
all_zeros zero (b ∷ bs) e z = absurd (omega (arith, e))
all_zeros (suc m) (b ∷ bs) e z =
    ap₂ (λ (x : Bool) (xs : List Bool). x ∷ xs) (z 0 false (omega arith)) (all_zeros m bs (omega (arith, e)) (λ k d h. z (suc k) d (omega (arith, h))))

pub zero_at : (m k : ℕ) (d : Bool) → k < length (zeros m) → slice_index_or (zeros m) k d ≡ false
zero_at zero k d h = absurd (omega (arith, h))
zero_at (suc m) zero d h = refl
zero_at (suc m) (suc k) d h = zero_at m k d (omega (arith, h))

pub zeros_sized : (m : ℕ) → length (zeros m) ≡ m
zeros_sized zero = refl
zeros_sized (suc m) = ap suc (zeros_sized m)

-- bits that are known to be 0
abbrev pub known : ℕ → Partial
known m = replicate m (Some false)

pub filled_known : (m : ℕ) → filled (known m) ≡ zeros m
filled_known zero = refl
filled_known (suc m) = ap (λ (bs : List Bool). false ∷ bs) (filled_known m)

pub spread-gate : (n : ℕ) (g : Gate) (w : World) → spread n (stmt.Gate g) w ≡ with_vectors (apply_gate n g) w ∷ []
unfolding roll-Stmt roll
spread-gate n g w = ap (λ (m : Spread). m w) (fold-roll-Stmt Spread (spread_step n) (Stmt-F.Gate g))

pub nothing : {A : Type 0} (P : A → Type 0) → All P []
nothing P = λ k d h. absurd (omega (arith, h))

pub gates-proportional : (n : ℕ) (gates : List Gate) (u v : List Amplitude) → Proportional u v → Proportional (apply_gates n gates u) (apply_gates n gates v)
gates-proportional n [] u v p = p
gates-proportional n (g ∷ gs) u v p = gates-proportional n gs (apply_gate n g u) (apply_gate n g v) (apply_gate-proportional n g u v p)
