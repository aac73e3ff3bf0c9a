-- Worlds that are split at bits.
use Rattle.std.proofs.Common.{◌≡◌, ℕ, ◌+◌, ◌<◌, Bool, true, false, cond, List, [], ◌∷◌, ◌++◌, map, filter, length, take, get_or, refl, ap, ap₂, sym, ◌∙◌, subst, append-nil, add-one}
use Rattle.std.specs.List.{flat_map}
use Rattle.std.proofs.lemmas.List.{take_more, map-append}
use Rattle.std.proofs.Math.Seq.{take-length}
use Rattle.std.proofs.lemmas.List.Concat.{flat_map-append}
use Rattle.std.proofs.lemmas.List.Elements.{All-append, All-get_or, filter-append}
use Rattle.aq_prog.specs.Digits.{tabulate}
use Rattle.aq_obligations.specs.Claims.{ClaimCase}
use Rattle.aq_obligations.specs.Worlds.{World, in_worlds, split}
use Rattle.aq_obligations.specs.declared.bound.BoundCase.{BoundCase}
use Rattle.aq_correct.proofs.NoughtLaws.{nought_worlds}
use Rattle.aq_worlds.specs.Playing.{world_of, IsSized, Gives}
use Rattle.aq_worlds.specs.Starting.{AreOfBits, Decides, Halves, HaveBit, asked_bits, is_asked}
use Rattle.aq_worlds.specs.declared.world.PlainWorld.{PlainWorld}
use Rattle.aq_worlds.proofs.SpreadLaws.{gives_same, flat_itself, no_case}

-- ---- world by world

halves_next : (bit : ℕ) (all : List PlainWorld) (k : ℕ) (w : PlainWorld) (list more : List PlainWorld) → k < length all → w ≡ get_or all k w
    → Halves bit all (take k all) list → ((n m : ℕ) (c : ClaimCase) → IsSized n m w → Gives n m c more (split bit (world_of c w))) → Halves bit all (take (k + 1) all) (list ++ more)
halves_next bit all k w list more lt e first second = λ n m c sized.
    let here : IsSized n m w = subst (IsSized n m) (sym e) (All-get_or (IsSized n m) all k w lt sized) in
    let a : Gives n m c list (flat_map (split bit) (map (world_of c) (take k all))) = first n m c sized in
    let b : Gives n m c more (split bit (world_of c w)) = second n m c here in
    let cut : take (k + 1) all ≡ take k all ++ w ∷ [] = take_more all k w lt ∙ ap (λ (x : PlainWorld). take k all ++ x ∷ []) (sym e) in
    record {
      worlds = map-append (world_of c) list more ∙ ap₂ (λ (x y : List World). x ++ y) a.worlds (b.worlds ∙ sym (append-nil (split bit (world_of c w))))
          ∙ sym (flat_map-append (split bit) (map (world_of c) (take k all)) (world_of c w ∷ []))
          ∙ ap (flat_map (split bit)) (sym (ap (map (world_of c)) cut ∙ map-append (world_of c) (take k all) (w ∷ [])));
      sized = All-append (IsSized n m) list more a.sized b.sized;
    }

pub halves_step : (bit : ℕ) (all : List PlainWorld) (k j : ℕ) (w : PlainWorld) (list more next : List PlainWorld) → j ≡ k + 1 → next ≡ list ++ more → k < length all → w ≡ get_or all k w
    → Halves bit all (take k all) list → ((n m : ℕ) (c : ClaimCase) → IsSized n m w → Gives n m c more (split bit (world_of c w))) → Halves bit all (take j all) next
halves_step bit all k j w list more next ej en lt e first second =
    subst (λ (l : List PlainWorld). Halves bit all (take j all) l) (sym en)
    (subst (λ (i : ℕ). Halves bit all (take i all) (list ++ more)) (sym ej) (halves_next bit all k w list more lt e first second))

pub halves_end : (bit : ℕ) (all list : List PlainWorld) (k : ℕ) → k ≡ length all → Halves bit all (take k all) list → Halves bit all all list
halves_end bit all list k e h = subst (λ (l : List PlainWorld). Halves bit all l list) (ap (λ (j : ℕ). take j all) e ∙ take-length all) h

-- ---- bit by bit

in_order : (xs ys : List ℕ) (ws : List World) → flat_map (in_worlds (map split ys)) (flat_map (in_worlds (map split xs)) ws) ≡ flat_map (in_worlds (map split (xs ++ ys))) ws
in_order [] ys ws = ap (flat_map (in_worlds (map split ys))) (flat_itself ws)
in_order (x ∷ xs) ys ws =
    ap (flat_map (in_worlds (map split ys))) (nought_worlds.step (split x) (map split xs) ws) ∙ in_order xs ys (flat_map (split x) ws) ∙ sym (nought_worlds.step (split x) (map split (xs ++ ys)) ws)

decides_both : (xs ys : List ℕ) (worlds now next : List PlainWorld) → Decides xs worlds now → Decides ys now next → Decides (xs ++ ys) worlds next
decides_both xs ys worlds now next f g = λ n m c s.
    let a = f n m c s in
    gives_same n m c next next _ _ refl (ap (flat_map (in_worlds (map split ys))) a.worlds ∙ in_order xs ys (map (world_of c) worlds)) (g n m c a.sized)

pub decides_none : (worlds : List PlainWorld) → Decides [] worlds worlds
decides_none worlds = λ n m c s. record { worlds = sym (flat_itself (map (world_of c) worlds)); sized = s }

one_split : (bit : ℕ) (ws : List World) → flat_map (split bit) ws ≡ flat_map (in_worlds (map split (bit ∷ []))) ws
one_split bit ws = sym (flat_itself (flat_map (split bit) ws)) ∙ sym (nought_worlds.step (split bit) [] ws)

kept_if : (T : ℕ → Bool) (bit : ℕ) (b : Bool) → T bit ≡ b → filter T (bit ∷ []) ≡ cond b (bit ∷ []) []
kept_if T bit b e = ap (λ t. cond t (bit ∷ []) []) e

-- a bit that is asked for is split
pub decided_split : (cases : List BoundCase) (bit : ℕ) (worlds list : List PlainWorld) → is_asked cases bit ≡ true → Halves bit worlds worlds list → Decides (filter (is_asked cases) (bit ∷ [])) worlds list
decided_split cases bit worlds list e h = subst (λ (bits : List ℕ). Decides bits worlds list) (sym (kept_if (is_asked cases) bit true e))
    (λ n m c s. gives_same n m c list list _ _ refl (one_split bit (map (world_of c) worlds)) (h n m c s))

-- and another stays as it is
pub decided_same : (cases : List BoundCase) (bit : ℕ) (worlds : List PlainWorld) → is_asked cases bit ≡ false → Decides (filter (is_asked cases) (bit ∷ [])) worlds worlds
decided_same cases bit worlds e = subst (λ (bits : List ℕ). Decides bits worlds worlds) (sym (kept_if (is_asked cases) bit false e)) (decides_none worlds)

asked_more : (cases : List BoundCase) (k : ℕ) → asked_bits cases k ++ filter (is_asked cases) (k ∷ []) ≡ asked_bits cases (k + 1)
asked_more cases k = sym (filter-append (is_asked cases) (tabulate k (λ bit. bit)) (k ∷ [])) ∙ ap (asked_bits cases) (sym (add-one k))

pub decides_step : (cases : List BoundCase) (k : ℕ) (worlds now next : List PlainWorld) → Decides (asked_bits cases k) worlds now → Decides (filter (is_asked cases) (k ∷ [])) now next
    → Decides (asked_bits cases (k + 1)) worlds next
decides_step cases k worlds now next f g =
    subst (λ (bits : List ℕ). Decides bits worlds next) (asked_more cases k) (decides_both (asked_bits cases k) (filter (is_asked cases) (k ∷ [])) worlds now next f g)

pub have_bit : (cases : List BoundCase) (k m : ℕ) (worlds now : List PlainWorld) → k < m → AreOfBits m worlds → Decides (asked_bits cases k) worlds now → HaveBit k now
have_bit cases k m worlds now lt h f = record { bits = m; within = lt; of_bits = record { qubits = h.qubits; sized = (f h.qubits m no_case h.sized).sized } }
