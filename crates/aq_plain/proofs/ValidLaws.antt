-- Gates with few controls are valid.
use Rattle.std.proofs.Common.{◌≡◌, ◌≢◌, ℕ, zero, suc, ◌<◌, List, [], ◌∷◌, false, eqb, arith}
use Rattle.std.specs.List.{All, IsDistinct}
use Rattle.std.proofs.lemmas.Bool.Decides.{eqb_tells}
use Rattle.std.proofs.Common.{⊎_elim}
use Rattle.aq_prog.specs.Gates.{AreEntries, IsValidGate}
use Rattle.aq_prog.specs.declared.gate.Gate.{Gate}

abbrev IsControl : ℕ → ℕ → ℕ → Type 0
IsControl n target c = (c < n) × (c ≢ target)

differs : (a b : ℕ) → a ≢ b → eqb a b ≡ false
differs a b ne = ⊎_elim (λ s. absurd (ne s.1)) (λ s. s.0) (eqb_tells a b)

all_none : (P : ℕ → Type 0) → All P []
all_none P k d h = absurd (omega arith)

all_more : (P : ℕ → Type 0) (c : ℕ) (cs : List ℕ) → P c → All P cs → All P (c ∷ cs)
all_more P c cs p h zero d lt = p
all_more P c cs p h (suc k) d lt = h k d (omega arith)

pub valid_alone : (n : ℕ) (gate : Gate) → gate.controls ≡ [] → AreEntries gate.matrix.rows → gate.target < n → IsValidGate n gate
unfolding IsDistinct
valid_alone n gate e entries target = record {
  entries = entries;
  target = target;
  controls = rw e (all_none (IsControl n gate.target));
  distinct = rw e tt;
}

pub valid_one : (n a : ℕ) (gate : Gate) → gate.controls ≡ a ∷ [] → AreEntries gate.matrix.rows → gate.target < n → a < n → a ≢ gate.target → IsValidGate n gate
unfolding IsDistinct
valid_one n a gate e entries target lt ne = record {
  entries = entries;
  target = target;
  controls = rw e (all_more (IsControl n gate.target) a [] (lt, ne) (all_none (IsControl n gate.target)));
  distinct = rw e (tt, tt);
}

pub valid_two : (n a b : ℕ) (gate : Gate) → gate.controls ≡ a ∷ b ∷ [] → AreEntries gate.matrix.rows → gate.target < n → a < n → b < n
    → a ≢ gate.target → b ≢ gate.target → a ≢ b → IsValidGate n gate
unfolding IsDistinct
valid_two n a b gate e entries target in_a in_b ne_a ne_b ne = record {
  entries = entries;
  target = target;
  controls = rw e (all_more (IsControl n gate.target) a (b ∷ []) (in_a, ne_a) (all_more (IsControl n gate.target) b [] (in_b, ne_b) (all_none (IsControl n gate.target))));
  distinct = rw e ((differs a b ne, tt), (tt, tt));
}
