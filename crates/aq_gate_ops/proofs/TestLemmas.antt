-- Gates with few controls are valid, and nodes of two choices have a shape.
use Rattle.std.proofs.Common.{◌≡◌, ◌≢◌, ℕ, zero, suc, ◌<◌, List, [], ◌∷◌, arith}
use Rattle.std.specs.List.{All, IsDistinct}
use Rattle.aq_prog.specs.Gates.{AreEntries, IsValidGate}
use Rattle.aq_prog.specs.declared.gate.Gate.{Gate}
use Rattle.aq_store.specs.Nodes.{EachPair}
use Rattle.aq_store.proofs.ShapeLemmas.{EachPair-none, EachPair-more}

abbrev IsControl : ℕ → ℕ → ℕ → Type 0
IsControl n target c = (c < n) × (c ≢ target)

all_none : (P : ℕ → Type 0) → All P []
all_none P k d h = absurd (omega arith)

all_more : (P : ℕ → Type 0) (c : ℕ) (cs : List ℕ) → P c → All P cs → All P (c ∷ cs)
all_more P c cs p h zero d lt = p
all_more P c cs p h (suc k) d lt = h k d (omega arith)

pub valid_alone : (n : ℕ) (gate : Gate) → gate.controls ≡ [] → AreEntries gate.matrix.rows → gate.target < n → IsValidGate n gate
unfolding IsDistinct
valid_alone n gate e entries target = record {
  entries = entries;
  target = target;
  controls = rw e (all_none (IsControl n gate.target));
  distinct = rw e tt;
}

pub valid_one : (n a : ℕ) (gate : Gate) → gate.controls ≡ a ∷ [] → AreEntries gate.matrix.rows → gate.target < n → a < n → a ≢ gate.target → IsValidGate n gate
unfolding IsDistinct
valid_one n a gate e entries target lt ne = record {
  entries = entries;
  target = target;
  controls = rw e (all_more (IsControl n gate.target) a [] (lt, ne) (all_none (IsControl n gate.target)));
  distinct = rw e (tt, tt);
}

pub two_pairs : (P : ℕ → Type 0) (a b c d : ℕ) → P a → P b → P c → P d → EachPair P ((a, b) ∷ (c, d) ∷ [])
two_pairs P a b c d p q r s = EachPair-more P a b ((c, d) ∷ []) p q (EachPair-more P c d [] r s (EachPair-none P))
