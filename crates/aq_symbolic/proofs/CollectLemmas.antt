-- What is played world by world.
use Rattle.std.proofs.Common.{◌≡◌, ℕ, ◌+◌, ◌*◌, ◌<◌, ◌≤◌, ⊎_elim, Bool, List, [], ◌∷◌, ◌++◌, map, All, Contains, length, take, get_or, refl, sym, ap, ap₂, subst, ◌∙◌, arith, append-nil}
use Rattle.std.specs.List.{flat_map}
use Rattle.std.proofs.Math.Nat.{mul-le-mul_left}
use Rattle.std.proofs.Math.Seq.{take-length}
use Rattle.std.proofs.lemmas.List.{map-append, take_more}
use Rattle.std.proofs.lemmas.List.Concat.{flat_map-append}
use Rattle.std.proofs.lemmas.List.Elements.{All-nil, All-cons, All-append, All-head, All-tail, All-get_or, All-weaker, Contains-append_cases}
use Rattle.std.proofs.lemmas.List.Sums.{sum_by-take-le}
use Rattle.aq_ring.specs.Fractions.{Amplitude}
use Rattle.aq_store.specs.Count.{Count}
use Rattle.aq_store.specs.Nodes.{Extends}
use Rattle.aq_store.specs.declared.node.Node.{Node}
use Rattle.aq_store.specs.declared.store.Stop.{Stop}
use Rattle.aq_obligations.specs.Covering.{Met}
use Rattle.aq_obligations.specs.Worlds as meant
use Rattle.aq_symbolic.specs.Moves.{Move}
use Rattle.aq_symbolic.specs.Playing.{Collects, IsUnfit, Leaves, Stops, most_steps}
use Rattle.aq_symbolic.specs.Steps.{Keeps}
use Rattle.aq_symbolic.specs.Weights.{weight, weights}
use Rattle.aq_symbolic.specs.Worlds.{AreSame, AreSized, ComesFrom, IsSized, View, one_word, world_of}
use Rattle.aq_symbolic.specs.declared.kept.World.{World}
use Rattle.aq_symbolic.proofs.AliveLemmas.{same_append}
use Rattle.aq_symbolic.proofs.Elements.{contains_map, flat_contains, one_is}
use Rattle.aq_symbolic.proofs.StopLemmas.{cause_map, stopped_within}
use Rattle.aq_symbolic.proofs.WeightLemmas.{spent_more, weights-append}
use Rattle.aq_symbolic.proofs.WorldLemmas.{sized_kept, world_kept}

-- ---- lists of worlds

pub cut_next : (all : List World) (k : ℕ) (w : World) → k < length all → w ≡ get_or all k w → take (k + 1) all ≡ take k all ++ w ∷ []
cut_next all k w lt e = take_more all k w lt ∙ ap (λ (x : World). take k all ++ x ∷ []) (sym e)

-- the world is one of them
pub listed : (all : List World) (k : ℕ) (w : World) → k < length all → w ≡ get_or all k w → Contains all w
listed all k w lt e = (k, lt, sym e)

pub from_in : (ws all : List World) (u : World) → ((x : World) → Contains ws x → Contains all x) → ComesFrom ws u → ComesFrom all u
from_in ws all u f h = record { world = h.world; listed = f h.world h.listed; case = h.case; shape = h.shape }

pub from_then : (ws us : List World) (x : World) → All (ComesFrom ws) us → ComesFrom us x → ComesFrom ws x
from_then ws us x all h =
    let y = all h.listed.0 h.world h.listed.1 in
    let z : ComesFrom ws h.world = subst (ComesFrom ws) h.listed.2 y in
    record { world = z.world; listed = z.listed; case = h.case ∙ z.case; shape = h.shape ∙ z.shape }

-- the weight of a world and of those before it
pub weights_next : (named : ℕ → Bool) (j : ℕ) (all : List World) (k : ℕ) (w : World) → k < length all → w ≡ get_or all k w → weights named j (take k all) + weights named j (w ∷ []) ≡ weights named j (take (k + 1) all)
weights_next named j all k w lt e = sym (weights-append named j (take k all) (w ∷ [])) ∙ ap (weights named j) (sym (cut_next all k w lt e))

pub weights_within : (named : ℕ → Bool) (j : ℕ) (all : List World) (k : ℕ) (w : World) → k < length all → w ≡ get_or all k w → weights named j (take k all) + weights named j (w ∷ []) ≤ weights named j all
weights_within named j all k w lt e = let a = weights_next named j all k w lt e in let b = sum_by-take-le (weight named j) all (k + 1) in omega (arith, a, b)

-- steps that were taken, and those of one world more
spent_next : (c0 c1 s v w z : ℕ) → v + w ≤ z → c1 ≤ c0 + 4 * (s * v) → c1 + 4 * (s * w) ≤ c0 + 4 * (s * z)
spent_next c0 c1 s v w z le a = omega (arith, mul-le-mul_left s le)

module _ {L : Type 0} where
  pub sized_at : (n m : ℕ) (table : List (Node L)) (all : List World) (k : ℕ) (w : World) → k < length all → w ≡ get_or all k w → AreSized n m table all → IsSized n m table w
  sized_at n m table all k w lt e s = subst (IsSized n m table) (sym e) (All-get_or (IsSized n m table) all k w lt s)

  pub sized_one : (n m : ℕ) (table : List (Node L)) (w : World) → IsSized n m table w → AreSized n m table (w ∷ [])
  sized_one n m table w s = All-cons (IsSized n m table) w [] s (All-nil (IsSized n m table))

  pub sized_all_kept : (n m : ℕ) (old new : List (Node L)) (ws : List World) → Extends old new → AreSized n m old ws → AreSized n m new ws
  sized_all_kept n m old new ws x s = All-weaker (IsSized n m old) (IsSized n m new) (λ w h. sized_kept n m old new w x h) ws s

module _ {L : Type 0} (parts : L → List Amplitude) where
  pub worlds_kept : (v : View) (n m : ℕ) (old new : List (Node L)) (ws : List World) → Extends old new → AreSized n m old ws → map (world_of parts v new) ws ≡ map (world_of parts v old) ws
  worlds_kept v n m old new [] x s = refl
  worlds_kept v n m old new (w ∷ ws) x s =
      ap₂ (λ (a : meant.World) (b : List meant.World). a ∷ b) (world_kept parts v old new w x (All-head (IsSized n m old) w ws s).fits)
      (worlds_kept v n m old new ws x (All-tail (IsSized n m old) w ws s))

  -- a function on the worlds so far and on one more, which is seen in a later table
  seen_next : {A : Type 0} (f : meant.World → List A) (v : View) (old now : List (Node L)) (all : List World) (k : ℕ) (w : World) → k < length all → w ≡ get_or all k w → world_of parts v now w ≡ world_of parts v old w
      → flat_map f (map (world_of parts v old) (take (k + 1) all)) ≡ flat_map f (map (world_of parts v old) (take k all)) ++ flat_map f (map (world_of parts v now) (w ∷ []))
  seen_next f v old now all k w lt e kept =
      ap (flat_map f) (ap (map (world_of parts v old)) (cut_next all k w lt e) ∙ map-append (world_of parts v old) (take k all) (w ∷ []))
      ∙ flat_map-append f (map (world_of parts v old) (take k all)) (world_of parts v old w ∷ [])
      ∙ ap (λ (x : meant.World). flat_map f (map (world_of parts v old) (take k all)) ++ flat_map f (x ∷ [])) (sym kept)

module _ {L : Type 0} (parts : L → List Amplitude) (count : ℕ) where
  pub collect_none : (P : Move) (table : List (Node L)) (c : Count) (all : List World) → Collects parts count P table table c c all [] []
  collect_none P table c all = record {
    gives = λ n m v proper s. record { worlds = refl; sized = All-nil (IsSized n m table) };
    fits = λ n m v proper s e h. absurd (omega (arith, h.1));
    from = All-nil (ComesFrom all);
    lighter = λ named k h. (omega arith);
    takes = λ named h. (omega arith);
  }

  pub collect_next : (P : Move) (s0 s1 s2 : List (Node L)) (c0 c1 c2 : Count) (all : List World) (k : ℕ) (w : World) (list more : List World) → k < length all → w ≡ get_or all k w → Extends s0 s1 → Extends s1 s2
      → Collects parts count P s0 s1 c0 c1 all (take k all) list → Leaves parts count P s1 s2 c1 c2 (w ∷ []) more → Collects parts count P s0 s2 c0 c2 all (take (k + 1) all) (list ++ more)
  collect_next P s0 s1 s2 c0 c1 c2 all k w list more lt e x y first second = record {
    gives = λ n m v proper s.
        let here = sized_at n m s0 all k w lt e s in
        let a = first.gives n m v proper s in
        let b = second.gives n m v proper (sized_one n m s1 w (sized_kept n m s0 s1 w x here)) in
        let both : AreSame (map (world_of parts v s1) list ++ map (world_of parts v s2) more) (flat_map (P.spread n) (map (world_of parts v s0) (take k all)) ++ flat_map (P.spread n) (map (world_of parts v s1) (w ∷ [])))
        = same_append (map (world_of parts v s1) list) (flat_map (P.spread n) (map (world_of parts v s0) (take k all))) (map (world_of parts v s2) more) (flat_map (P.spread n) (map (world_of parts v s1) (w ∷ []))) a.worlds b.worlds in
        let left : map (world_of parts v s2) (list ++ more) ≡ map (world_of parts v s1) list ++ map (world_of parts v s2) more
        = map-append (world_of parts v s2) list more ∙ ap (λ (l : List meant.World). l ++ map (world_of parts v s2) more) (worlds_kept parts v n m s1 s2 list y a.sized) in
        let right = seen_next parts (P.spread n) v s0 s1 all k w lt e (world_kept parts v s0 s1 w x here.fits) in
        record {
          worlds = subst (λ (l : List meant.World). AreSame l (flat_map (P.spread n) (map (world_of parts v s0) (take (k + 1) all)))) (sym left)
              (subst (λ (l : List meant.World). AreSame (map (world_of parts v s1) list ++ map (world_of parts v s2) more) l) (sym right) both);
          sized = All-append (IsSized n m s2) list more (sized_all_kept n m s1 s2 list y a.sized) b.sized;
        };
    fits = λ n m v proper s d h.
        let here = sized_at n m s0 all k w lt e s in
        let cases = Contains-append_cases (flat_map (P.meets n) (map (world_of parts v s0) (take k all))) (flat_map (P.meets n) (map (world_of parts v s1) (w ∷ []))) d
        (subst (λ (l : List Met). Contains l d) (seen_next parts (P.meets n) v s0 s1 all k w lt e (world_kept parts v s0 s1 w x here.fits)) h) in
        ⊎_elim (λ g. first.fits n m v proper s d g) (λ g. second.fits n m v proper (sized_one n m s1 w (sized_kept n m s0 s1 w x here)) d g) cases;
    from = All-append (ComesFrom all) list more first.from
        (All-weaker (ComesFrom (w ∷ [])) (ComesFrom all) (λ u h. from_in (w ∷ []) all u (λ z c. subst (Contains all) (one_is w z c) (listed all k w lt e)) h) more second.from);
    lighter = λ named j h.
        let a = first.lighter named j h in
        let b = second.lighter named j h in
        let d = weights-append named j list more in
        let f = weights_next named (P.outcomes + j) all k w lt e in
        omega (arith, a, b, d, f);
    takes = λ named h.
        spent_more c0.taken c1.taken c2.taken P.statements (weights named P.outcomes (take k all)) (weights named P.outcomes (w ∷ [])) (weights named P.outcomes (take (k + 1) all))
        (let f = weights_next named P.outcomes all k w lt e in omega (arith, f)) (first.takes named h) (second.takes named h);
  }

  pub collect_step : (P : Move) (s0 s1 s2 : List (Node L)) (c0 c1 c2 : Count) (all : List World) (k j : ℕ) (w : World) (list more next : List World) → j ≡ k + 1 → next ≡ list ++ more → k < length all → w ≡ get_or all k w
      → Extends s0 s1 → Extends s1 s2 → Collects parts count P s0 s1 c0 c1 all (take k all) list → Leaves parts count P s1 s2 c1 c2 (w ∷ []) more → Collects parts count P s0 s2 c0 c2 all (take j all) next
  collect_step P s0 s1 s2 c0 c1 c2 all k j w list more next ej en lt e x y first second =
      subst (λ (l : List World). Collects parts count P s0 s2 c0 c2 all (take j all) l) (sym en)
      (subst (λ (i : ℕ). Collects parts count P s0 s2 c0 c2 all (take i all) (list ++ more)) (sym ej) (collect_next P s0 s1 s2 c0 c1 c2 all k w list more lt e x y first second))

  pub collect_end : (P : Move) (s0 s1 : List (Node L)) (c0 c1 : Count) (all list : List World) (k : ℕ) → k ≡ length all → Collects parts count P s0 s1 c0 c1 all (take k all) list → Leaves parts count P s0 s1 c0 c1 all list
  collect_end P s0 s1 c0 c1 all list k e h = subst (λ (l : List World). Collects parts count P s0 s1 c0 c1 all l list) (ap (λ (j : ℕ). take j all) e ∙ take-length all) h

  -- a world gives up
  unfit_at : (P : Move) (s0 s1 : List (Node L)) (all : List World) (k : ℕ) (w : World) → k < length all → w ≡ get_or all k w → Extends s0 s1 → IsUnfit parts count P s1 (w ∷ []) → IsUnfit parts count P s0 all
  unfit_at P s0 s1 all k w lt e x h = record {
    word = h.word;
    wide = λ n m cases s.
        let v = one_word count cases h.word in
        let here = sized_at n m s0 all k w lt e s in
        let u = h.wide n m cases (sized_one n m s1 w (sized_kept n m s0 s1 w x here)) in
        let kept = world_kept parts v s0 s1 w x here.fits in
        let inside : Contains (P.meets n (world_of parts v s0 w)) u.met =
        subst (λ (z : meant.World). Contains (P.meets n z) u.met) kept (subst (λ (l : List Met). Contains l u.met) (append-nil (P.meets n (world_of parts v s1 w))) u.is_met) in
        record {
          met = u.met;
          is_met = flat_contains (P.meets n) (map (world_of parts v s0) all) (world_of parts v s0 w) u.met (contains_map (world_of parts v s0) all w (listed all k w lt e)) inside;
          wide = u.wide;
        };
  }

  pub stop_at : (P : Move) (s0 s1 s2 : List (Node L)) (c0 c1 c2 : Count) (all : List World) (k : ℕ) (w : World) (list : List World) (why : Stop L) → k < length all → w ≡ get_or all k w → Keeps s0 s1 c0 c1
      → Collects parts count P s0 s1 c0 c1 all (take k all) list → Stops parts count P s1 (w ∷ []) c1 c2 why → Stops parts count P s0 all c0 c2 why
  stop_at P s0 s1 s2 c0 c1 c2 all k w list why lt e keeps first h = record {
    stopped = λ named a.
        stopped_within c0 c1 c2 (most_steps named P (w ∷ [])) (most_steps named P all) why keeps.limit
        (spent_next c0.taken c1.taken P.statements (weights named P.outcomes (take k all)) (weights named P.outcomes (w ∷ [])) (weights named P.outcomes all) (weights_within named P.outcomes all k w lt e) (first.takes named a))
        (h.stopped named a);
    cause = cause_map (λ l r. IsUnfit parts count P s1 (w ∷ [])) (λ l r. IsUnfit parts count P s0 all) (λ l r u. unfit_at P s0 s1 all k w lt e keeps.table u) why h.cause;
  }
