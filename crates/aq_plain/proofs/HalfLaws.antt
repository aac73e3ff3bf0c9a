-- A projection made in place, index by index.
use Rattle.std.proofs.Common.{◌≡◌, ℕ, ◌<◌, ◌≤◌, Bool, cond, eqb, List, length, refl, sym, ◌∙◌, arith}
use Rattle.std.proofs.lemmas.List.{ext_get_or}
use Rattle.aq_ring.specs.Fractions.{Amplitude}
use Rattle.aq_ring.specs.Amplitudes.{amplitude_zero}
use Rattle.aq_prog.specs.Digits.{digit, amplitude_at}
use Rattle.aq_prog.specs.Gates.{project}
use Rattle.aq_prog.proofs.DigitLaws.{length-tabulate, get_or-tabulate}

abbrev pub outcome_digit : Bool → ℕ
outcome_digit outcome = cond outcome 1 0

-- what a projection leaves at an index
abbrev pub kept_entry : ℕ → ℕ → Bool → List Amplitude → ℕ → Amplitude
kept_entry n q outcome v x = cond (eqb (digit n q x) (outcome_digit outcome)) (amplitude_at v x) amplitude_zero

-- new is the projection at each index below x, and old elsewhere
pub record IsHalved (n q : ℕ) (outcome : Bool) (old new : List Amplitude) (x : ℕ) : Type 0 where
  pub size : length new ≡ length old
  pub done : (k : ℕ) → k < x → amplitude_at new k ≡ kept_entry n q outcome old k
  pub left : (k : ℕ) → x ≤ k → amplitude_at new k ≡ amplitude_at old k

pub IsHalved-none : (n q : ℕ) (outcome : Bool) (v : List Amplitude) → IsHalved n q outcome v v 0
IsHalved-none n q outcome v = record { size = refl; done = λ k lt. absurd (omega arith); left = λ k h. refl }

pub IsHalved-all : (n q : ℕ) (outcome : Bool) (old new : List Amplitude) (x : ℕ) → x ≡ length old → IsHalved n q outcome old new x → new ≡ project n q outcome old
unfolding project
IsHalved-all n q outcome old new x e h = ext_get_or amplitude_zero new _ (h.size ∙ sym (length-tabulate (length old) (kept_entry n q outcome old)))
    (λ k lt. let less : k < length old = rw h.size at lt in h.done k (omega arith) ∙ sym (get_or-tabulate (length old) (kept_entry n q outcome old) amplitude_zero k less))
