-- Worlds that are split at bits.
use Rattle.std.proofs.Common.{◌≡◌, ℕ, ◌+◌, ◌<◌, Bool, true, false, cond, List, [], ◌∷◌, ◌++◌, map, filter, All, Contains, length, refl, ap, sym, ◌∙◌, subst, add-one}
use Rattle.std.specs.List.{flat_map}
use Rattle.std.proofs.lemmas.List.Elements.{All-contains, All-contains_itself, All-weaker, filter-append}
use Rattle.aq_prog.specs.Digits.{tabulate}
use Rattle.aq_obligations.specs.Worlds.{in_worlds, split}
use Rattle.aq_obligations.specs.Worlds as meant
use Rattle.aq_obligations.specs.declared.bound.BoundCase.{BoundCase}
use Rattle.aq_correct.proofs.NoughtLaws.{nought_worlds}
use Rattle.aq_decide.specs.Splitting.{asked_bits, is_asked}
use Rattle.aq_symbolic.specs.Splitting.{AreSplit, SharesSet, seen}
use Rattle.aq_symbolic.specs.declared.kept.World.{World}
use Rattle.aq_decide.specs.Splitting.{AreDecided, HasBits, HaveBits}

flat_itself : {A : Type 0} (xs : List A) → flat_map (λ x. x ∷ []) xs ≡ xs
flat_itself [] = refl
flat_itself (x ∷ xs) = ap (λ l. x ∷ l) (flat_itself xs)

in_order : (xs ys : List ℕ) (ws : List meant.World) → flat_map (in_worlds (map split ys)) (flat_map (in_worlds (map split xs)) ws) ≡ flat_map (in_worlds (map split (xs ++ ys))) ws
in_order [] ys ws = ap (flat_map (in_worlds (map split ys))) (flat_itself ws)
in_order (x ∷ xs) ys ws =
    ap (flat_map (in_worlds (map split ys))) (nought_worlds.step (split x) (map split xs) ws) ∙ in_order xs ys (flat_map (split x) ws) ∙ sym (nought_worlds.step (split x) (map split (xs ++ ys)) ws)

one_split : (bit : ℕ) (ws : List meant.World) → flat_map (split bit) ws ≡ flat_map (in_worlds (map split (bit ∷ []))) ws
one_split bit ws = sym (flat_itself (flat_map (split bit) ws)) ∙ sym (nought_worlds.step (split bit) [] ws)

-- ---- sets
shares_itself : (ws : List World) → All (SharesSet ws) ws
shares_itself ws = All-weaker (Contains ws) (SharesSet ws) (λ w c. record { world = w; listed = c; case = refl; set = record { root = refl; shape = refl }; start = refl; bits = refl }) ws (All-contains_itself ws)

shares_then : (ws now list : List World) → All (SharesSet ws) now → All (SharesSet now) list → All (SharesSet ws) list
shares_then ws now list f g = All-weaker (SharesSet now) (SharesSet ws) (λ u h.
    let k = All-contains (SharesSet ws) now h.world f h.listed in
    record {
      world = k.world;
      listed = k.listed;
      case = h.case ∙ k.case;
      set = record { root = h.set.root ∙ k.set.root; shape = h.set.shape ∙ k.set.shape };
      start = h.start ∙ k.start;
      bits = h.bits ∙ k.bits;
    }) list g

-- ---- bit by bit
pub decided_none : (ws : List World) → AreDecided [] ws ws
decided_none ws = record { worlds = λ cases sight. sym (flat_itself (map (seen cases sight) ws)); sets = shares_itself ws }

decided_both : (xs ys : List ℕ) (ws now next : List World) → AreDecided xs ws now → AreDecided ys now next → AreDecided (xs ++ ys) ws next
decided_both xs ys ws now next f g = record {
  worlds = λ cases sight. g.worlds cases sight ∙ ap (flat_map (in_worlds (map split ys))) (f.worlds cases sight) ∙ in_order xs ys (map (seen cases sight) ws);
  sets = shares_then ws now next f.sets g.sets;
}

decided_one : (bit : ℕ) (ws list : List World) → AreSplit bit ws list → AreDecided (bit ∷ []) ws list
decided_one bit ws list h = record { worlds = λ cases sight. h.worlds cases sight ∙ one_split bit (map (seen cases sight) ws); sets = h.sets }

kept_if : (T : ℕ → Bool) (bit : ℕ) (b : Bool) → T bit ≡ b → filter T (bit ∷ []) ≡ cond b (bit ∷ []) []
kept_if T bit b e = ap (λ t. cond t (bit ∷ []) []) e

-- a bit that is asked for is split
pub decided_split : (cases : List BoundCase) (bit : ℕ) (ws list : List World) → is_asked cases bit ≡ true → AreSplit bit ws list → AreDecided (filter (is_asked cases) (bit ∷ [])) ws list
decided_split cases bit ws list e h = subst (λ (bits : List ℕ). AreDecided bits ws list) (sym (kept_if (is_asked cases) bit true e)) (decided_one bit ws list h)

-- and another stays as it is
pub decided_same : (cases : List BoundCase) (bit : ℕ) (ws : List World) → is_asked cases bit ≡ false → AreDecided (filter (is_asked cases) (bit ∷ [])) ws ws
decided_same cases bit ws e = subst (λ (bits : List ℕ). AreDecided bits ws ws) (sym (kept_if (is_asked cases) bit false e)) (decided_none ws)

asked_more : (cases : List BoundCase) (k : ℕ) → asked_bits cases k ++ filter (is_asked cases) (k ∷ []) ≡ asked_bits cases (k + 1)
asked_more cases k = sym (filter-append (is_asked cases) (tabulate k (λ bit. bit)) (k ∷ [])) ∙ ap (asked_bits cases) (sym (add-one k))

pub decided_step : (cases : List BoundCase) (k : ℕ) (ws now next : List World) → AreDecided (asked_bits cases k) ws now → AreDecided (filter (is_asked cases) (k ∷ [])) now next
    → AreDecided (asked_bits cases (k + 1)) ws next
decided_step cases k ws now next f g =
    subst (λ (bits : List ℕ). AreDecided bits ws next) (asked_more cases k) (decided_both (asked_bits cases k) (filter (is_asked cases) (k ∷ [])) ws now next f g)

-- ---- as many bits
pub still_bits : (bits : List ℕ) (m : ℕ) (ws list : List World) → HaveBits m ws → AreDecided bits ws list → HaveBits m list
still_bits bits m ws list h d = All-weaker (SharesSet ws) (HasBits m) (λ u k.
    let b = All-contains (HasBits m) ws k.world h k.listed in
    record { start = k.start ∙ b.start; bits = k.bits ∙ b.bits }) list d.sets

pub starts_within : (m bit : ℕ) (ws : List World) → bit < m → HaveBits m ws → All (λ (w : World). bit < length w.start) ws
starts_within m bit ws lt h = All-weaker (HasBits m) (λ (w : World). bit < length w.start) (λ w b. subst (λ n. bit < n) (sym b.start) lt) ws h

pub bits_within : (m bit : ℕ) (ws : List World) → bit < m → HaveBits m ws → All (λ (w : World). bit < length w.bits) ws
bits_within m bit ws lt h = All-weaker (HasBits m) (λ (w : World). bit < length w.bits) (λ w b. subst (λ n. bit < n) (sym b.bits) lt) ws h
