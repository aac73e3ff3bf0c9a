-- Worlds that are split at a bit, one after the other.
use Rattle.std.proofs.Common.{◌≡◌, ℕ, ◌+◌, ◌<◌, inl, inr, Bool, true, false, List, [], ◌∷◌, ◌++◌, map, All, Contains, length, take, get_or, slice_get, Some, refl, sym, ap, ap₂, subst, ◌∙◌, append-nil}
use Rattle.std.specs.List.{flat_map}
use Rattle.std.proofs.Math.Seq.{take-length}
use Rattle.std.proofs.lemmas.List.{length-set, map-append}
use Rattle.std.proofs.lemmas.List.Concat.{flat_map-append}
use Rattle.std.proofs.lemmas.List.Elements.{All-nil, All-cons, All-append, All-weaker, Contains-append_left, Contains-append_right}
use Rattle.aq_obligations.specs.Claims.{ClaimCase}
use Rattle.aq_obligations.specs.Worlds as meant
use Rattle.aq_symbolic.specs.Splitting.{AreSplit, IsDecided, IsSplit, SharesSet, Sight, seen}
use Rattle.aq_symbolic.specs.declared.kept.World.{World}
use Rattle.aq_symbolic.proofs.CollectLemmas.{cut_next}
use Rattle.aq_symbolic.proofs.Elements.{first_in}
use Rattle.aq_symbolic.proofs.SplitLemmas.{either_closed, either_open}

decided_shown : (cases : ℕ → ClaimCase) (sight : Sight) (bit : ℕ) (b : Bool) (w u : World) → IsDecided bit b w u → seen cases sight u ≡ meant.decided bit b (seen cases sight w)
decided_shown cases sight bit b w u d = λ i. record {
  case = cases (d.fields.case i);
  start = d.fields.start i;
  bits = d.fields.bits i;
  outcomes = d.fields.outcomes i;
  vectors = sight (d.fields.case i) (d.set.root i) (d.set.shape i);
}

halves_shown : (cases : ℕ → ClaimCase) (sight : Sight) (bit : ℕ) (w : World) (list : List World) → IsSplit bit w list → map (seen cases sight) list ≡ meant.split bit (seen cases sight w)
halves_shown cases sight bit w list (inl h) =
    ap (map (seen cases sight)) h.list_is ∙ ap₂ (λ (x y : meant.World). x ∷ y ∷ []) (decided_shown cases sight bit false w h.zero h.zero_is) (decided_shown cases sight bit true w h.other h.other_is)
    ∙ sym (either_open bit (slice_get w.bits bit) (seen cases sight w) h.open_bit)
halves_shown cases sight bit w list (inr h) = ap (map (seen cases sight)) h.list_is ∙ sym (either_closed bit (slice_get w.bits bit) (seen cases sight w) h.closed_bit)

decided_shares : (ws : List World) (bit : ℕ) (b : Bool) (w u : World) → Contains ws w → IsDecided bit b w u → SharesSet ws u
decided_shares ws bit b w u c d = record {
  world = w;
  listed = c;
  case = d.fields.case;
  set = d.set;
  start = ap length d.fields.start ∙ length-set w.start bit (Some b);
  bits = ap length d.fields.bits ∙ length-set w.bits bit (Some b);
}

halves_share : (ws : List World) (bit : ℕ) (w : World) (list : List World) → Contains ws w → IsSplit bit w list → All (SharesSet ws) list
halves_share ws bit w list c (inl h) =
    subst (λ (l : List World). All (SharesSet ws) l) (sym h.list_is)
    (All-cons (SharesSet ws) h.zero (h.other ∷ []) (decided_shares ws bit false w h.zero c h.zero_is) (All-cons (SharesSet ws) h.other [] (decided_shares ws bit true w h.other c h.other_is) (All-nil (SharesSet ws))))
halves_share ws bit w list c (inr h) =
    subst (λ (l : List World). All (SharesSet ws) l) (sym h.list_is)
    (All-cons (SharesSet ws) w [] (record { world = w; listed = c; case = refl; set = record { root = refl; shape = refl }; start = refl; bits = refl }) (All-nil (SharesSet ws)))

shares_in : (ws us : List World) (u : World) → SharesSet ws u → SharesSet (ws ++ us) u
shares_in ws us u h = record { world = h.world; listed = Contains-append_left ws us h.world h.listed; case = h.case; set = h.set; start = h.start; bits = h.bits }

pub split_none : (bit : ℕ) → AreSplit bit [] []
split_none bit = record { worlds = λ cases sight. refl; sets = All-nil (SharesSet []) }

split_more : (bit : ℕ) (ws list halves : List World) (w : World) → AreSplit bit ws list → IsSplit bit w halves → AreSplit bit (ws ++ w ∷ []) (list ++ halves)
split_more bit ws list halves w a h = record {
  worlds = λ cases sight.
      map-append (seen cases sight) list halves
      ∙ ap₂ (λ (x y : List meant.World). x ++ y) (a.worlds cases sight) (halves_shown cases sight bit w halves h ∙ sym (append-nil (meant.split bit (seen cases sight w))))
      ∙ sym (flat_map-append (meant.split bit) (map (seen cases sight) ws) (seen cases sight w ∷ []))
      ∙ ap (flat_map (meant.split bit)) (sym (map-append (seen cases sight) ws (w ∷ [])));
  sets = All-append (SharesSet (ws ++ w ∷ [])) list halves (All-weaker (SharesSet ws) (SharesSet (ws ++ w ∷ [])) (λ u s. shares_in ws (w ∷ []) u s) list a.sets)
      (halves_share (ws ++ w ∷ []) bit w halves (Contains-append_right ws (w ∷ []) w (first_in w [])) h);
}

pub split_step : (bit : ℕ) (all : List World) (k j : ℕ) (w : World) (list halves next : List World) → j ≡ k + 1 → next ≡ list ++ halves → k < length all → w ≡ get_or all k w
    → AreSplit bit (take k all) list → IsSplit bit w halves → AreSplit bit (take j all) next
split_step bit all k j w list halves next ej en lt e a h =
    subst (λ (l : List World). AreSplit bit (take j all) l) (sym en)
    (subst (λ (l : List World). AreSplit bit l (list ++ halves)) (sym (ap (λ i. take i all) ej ∙ cut_next all k w lt e)) (split_more bit (take k all) list halves w a h))

pub split_end : (bit : ℕ) (all list : List World) (k : ℕ) → k ≡ length all → AreSplit bit (take k all) list → AreSplit bit all list
split_end bit all list k e h = subst (λ (l : List World). AreSplit bit l list) (ap (λ (j : ℕ). take j all) e ∙ take-length all) h
