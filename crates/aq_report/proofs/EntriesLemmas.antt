-- Lines for the entries of a vector, one after the other.
use Rattle.std.proofs.Common.{◌≡◌, ℕ, ◌+◌, ◌<◌, List, ◌++◌, length, drop, get_or, refl, sym, ap, ◌∙◌, add-one, drop-cons, subst}
use Rattle.aq_ring.specs.Fractions.{Amplitude}
use Rattle.aq_report.specs.Texts.{entries_from, entry_text}

-- what is left at an entry: its line, if it isn't zero, and what is left behind it
pub entries-cons : (label : List ℕ) (n i : ℕ) (v : List Amplitude) (d : Amplitude) → i < length v
    → entries_from label n i (drop i v) ≡ entry_text label n i (get_or v i d) ++ entries_from label n (i + 1) (drop (i + 1) v)
entries-cons label n i v d h = ap (entries_from label n i) (drop-cons v i d h) ∙ rw add-one refl

-- the same, for an entry that was read from an equal list
pub entries-at : (label : List ℕ) (n m i : ℕ) (v w : List Amplitude) (p : Amplitude) → m ≡ n → w ≡ v → i < length w → p ≡ get_or w i p
    → entries_from label n i (drop i v) ≡ entry_text label m i p ++ entries_from label n (i + 1) (drop (i + 1) v)
entries-at label n m i v w p e f h at =
    entries-cons label n i v p (subst (λ (u : List Amplitude). i < length u) f h)
    ∙ ap (λ (q : Amplitude). entry_text label n i q ++ entries_from label n (i + 1) (drop (i + 1) v)) (ap (λ (u : List Amplitude). get_or u i p) (sym f) ∙ sym at)
    ∙ ap (λ (k : ℕ). entry_text label k i p ++ entries_from label n (i + 1) (drop (i + 1) v)) (sym e)
