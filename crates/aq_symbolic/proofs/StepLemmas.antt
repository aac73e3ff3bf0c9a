-- What a gate and the outcomes of a measurement or a reset make of a world.
use Rattle.std.proofs.Common.{◌≡◌, ℕ, ◌+◌, ◌*◌, ◌<◌, ◌≤◌, Bool, List, [], ◌∷◌, ◌++◌, map, filter, All, Contains, length, Option, None, Some, refl, sym, ap, ap₂, subst, ◌∙◌, arith}
use Rattle.std.proofs.lemmas.List.{length-set}
use Rattle.std.proofs.lemmas.List.Elements.{All-nil, All-cons, All-head, All-tail, All-map, All-weaker, All-contains}
use Rattle.aq_ring.specs.Fractions.{Amplitude}
use Rattle.aq_prog.specs.Gates.{FitsGate, apply_gate, project}
use Rattle.aq_prog.specs.Runs.{flipped}
use Rattle.aq_prog.specs.declared.gate.Gate.{Gate}
use Rattle.aq_prog.proofs.DigitLaws.{get_or-tabulate, length-tabulate}
use Rattle.aq_store.specs.Count.{Count}
use Rattle.aq_store.specs.Nodes.{Extends, FitsStore, vector_of}
use Rattle.aq_store.specs.Parts.{part_vector}
use Rattle.aq_store.specs.Stops.{GivesUp}
use Rattle.aq_store.specs.declared.node.Node.{Node}
use Rattle.aq_store.specs.declared.store.Stop.{Stop}
use Rattle.aq_store.proofs.TableLemmas.{HasShape-Extends}
use Rattle.aq_gate_ops.specs.Accounts.{IsStopped}
use Rattle.aq_gate_ops.specs.Causes.{IsCause}
use Rattle.aq_obligations.specs.Covering.{Met}
use Rattle.aq_obligations.specs.Worlds.{Partial, measured_world, reset_world, stored, with_vectors}
use Rattle.aq_obligations.specs.Worlds as meant
use Rattle.aq_correct.specs.WorldLaws.{is_alive}
use Rattle.aq_symbolic.specs.Moves.{Move, of_gate}
use Rattle.aq_symbolic.specs.Playing.{FitsMet, IsUnfit, Leaves, Stops, most_steps}
use Rattle.aq_symbolic.specs.Steps.{AreAlive, FitsSet, HasFields, IsMapped, IsUnfitSet, cleared}
use Rattle.aq_symbolic.specs.Weights.{open_bits, open_from, price, weight, weights}
use Rattle.aq_symbolic.specs.Worlds.{AllFitStore, AreSized, ComesFrom, IsSized, IsView, Pick, View, one_word, picks_of_word, vector_at, world_of}
use Rattle.aq_symbolic.specs.declared.kept.World.{World}
use Rattle.aq_symbolic.proofs.Elements.{first_in, one_is}
use Rattle.aq_symbolic.proofs.SplitLemmas.{from_one, from_self}
use Rattle.aq_symbolic.proofs.StopLemmas.{alone_cause, cause_map, stopped_alone, stopped_within}
use Rattle.aq_symbolic.proofs.WeightLemmas.{open-stored-le, price_some, price_within, weight_le, weight_suc, weights_one, weights_two}
use Rattle.aq_symbolic.proofs.WorldLemmas.{sized_kept, sized_mapped, world_kept, world_mapped}

unmap : {A B : Type 0} (P : B → Type 0) (f : A → B) (xs : List A) → All P (map f xs) → All (λ x. P (f x)) xs
unmap P f [] h = All-nil (λ x. P (f x))
unmap P f (x ∷ xs) h = All-cons (λ y. P (f y)) x xs (All-head P (f x) (map f xs) h) (unmap P f xs (All-tail P (f x) (map f xs) h))

map_twice : {A : Type 0} (f g : A → A) (xs : List A) → map (λ x. f (g x)) xs ≡ map f (map g xs)
map_twice f g [] = refl
map_twice f g (x ∷ xs) = ap (λ l. f (g x) ∷ l) (map_twice f g xs)

abbrev pick : List ℕ → ℕ → Pick
pick word k = record { word = word; part = k }

length-stored : (bit : Option ℕ) (b : Bool) (bits : Partial) → length (stored bit b bits) ≡ length bits
length-stored None b bits = refl
length-stored (Some k) b bits = length-set bits k (Some b)

-- a world's price is within four times its weight
price_four : (named : ℕ → Bool) (w : World) → 2 * price w.lsta.shape.items ≤ 4 * (1 * weights named 0 (w ∷ []))
price_four named w = let a = price_within named 0 w in let b = weights_one named 0 w in omega (arith, a, b)

-- and twice with an outcome to come
price_eight : (named : ℕ → Bool) (w : World) → 8 * price w.lsta.shape.items ≤ 4 * (1 * weights named 1 (w ∷ []))
price_eight named w =
    let a = price_within named 0 w in
    let b = weights_one named 1 w in
    let e : weight named 1 w ≡ 2 * weight named 0 w = (let z : 1 ≡ 1 + 0 = omega arith in ap (λ k. weight named k w) z ∙ weight_suc named 0 w) in
    omega (arith, a, b, e)

module _ {L : Type 0} (parts : L → List Amplitude) (count : ℕ) where
  -- ---- a gate
  gate_seen : (g : Gate) (n : ℕ) (s0 s1 : List (Node L)) (w u : World) (v : View) → IsView count v → length w.lsta.shape.items ≡ n → HasFields w w.start w.bits w.outcomes u
      → IsMapped parts count (apply_gate (length w.lsta.shape.items) g) s0 s1 w.lsta u.lsta → world_of parts v s1 u ≡ with_vectors (apply_gate n g) (world_of parts v s0 w)
  gate_seen g n s0 s1 w u v proper levels f m =
      world_mapped parts count (apply_gate (length w.lsta.shape.items) g) s0 s1 v w u w.start w.bits w.outcomes proper f m ∙ ap (λ q. with_vectors (apply_gate q g) (world_of parts v s0 w)) levels

  picks_fit : (g : Gate) (n : ℕ) (s0 : List (Node L)) (w : World) (v : View) → IsView count v → length w.lsta.shape.items ≡ n → FitsSet parts count (length w.lsta.shape.items) g s0 w.lsta
      → All (FitsGate n g) (map (vector_at parts s0 w.lsta) (v.picks w.case))
  picks_fit g n s0 w v proper levels fit =
      All-map (FitsGate n g) (vector_at parts s0 w.lsta) (v.picks w.case)
      (All-weaker (λ (p : Pick). p.part < count) (λ (p : Pick). FitsGate n g (vector_at parts s0 w.lsta p))
      (λ p lt. subst (λ q. FitsGate q g (vector_at parts s0 w.lsta p)) levels (fit p.word p.part lt)) (v.picks w.case) (proper w.case))

  pub gate_leaves : (g : Gate) (s0 s1 : List (Node L)) (c0 c1 : Count) (w u : World) (list : List World) → HasFields w w.start w.bits w.outcomes u
      → IsMapped parts count (apply_gate (length w.lsta.shape.items) g) s0 s1 w.lsta u.lsta → FitsSet parts count (length w.lsta.shape.items) g s0 w.lsta
      → c1.taken ≤ c0.taken + 2 * price w.lsta.shape.items → list ≡ u ∷ [] → Leaves parts count (of_gate g) s0 s1 c0 c1 (w ∷ []) list
  gate_leaves g s0 s1 c0 c1 w u list f t fit cheap e = record {
    gives = λ n m v proper s.
        let here = All-head (IsSized n m s0) w [] s in
        let seen : map (world_of parts v s1) list ≡ with_vectors (apply_gate n g) (world_of parts v s0 w) ∷ []
        = ap (map (world_of parts v s1)) e ∙ ap (λ (x : meant.World). x ∷ []) (gate_seen g n s0 s1 w u v proper here.levels f t) in
        let after : IsSized n m s1 u = sized_mapped parts count (apply_gate (length w.lsta.shape.items) g) n m s0 s1 w u w.start w.bits w.outcomes f t refl refl here in
        record {
          worlds = ap (filter is_alive) seen;
          sized = subst (λ (l : List World). AreSized n m s1 l) (sym e) (All-cons (IsSized n m s1) u [] after (All-nil (IsSized n m s1)));
        };
    fits = λ n m v proper s d h.
        let here = All-head (IsSized n m s0) w [] s in
        let met : Met = record { gate = g; world = world_of parts v s0 w } in
        subst (FitsMet n) (one_is met d h) (picks_fit g n s0 w v proper here.levels fit);
    from = from_one w u list e (from_self w u f.case t.shape);
    lighter = λ named k h.
        let same = ap (open_from named 0) f.bits in
        let a = weight_le named k (0 + k) u w t.shape (omega (arith, same)) in
        let b = ap (weights named k) e ∙ weights_one named k u in
        let d = weights_one named (0 + k) w in
        omega (arith, a, b, d);
    takes = λ named h. (let a = price_four named w in omega (arith, cheap, a));
  }

  part_fits : (n : ℕ) (g : Gate) (s0 : List (Node L)) (w : World) (word : List ℕ) (k : ℕ) → k < count → All (FitsGate n g) (map (vector_at parts s0 w.lsta) (picks_of_word count word))
      → FitsGate n g (part_vector parts k (vector_of s0 w.lsta word))
  part_fits n g s0 w word k lt fit =
      let all = unmap (FitsGate n g) (vector_at parts s0 w.lsta) (picks_of_word count word) fit in
      let long : length (picks_of_word count word) ≡ count = length-tabulate count (pick word) in
      let at = all k (pick word k) (subst (λ j. k < j) (sym long) lt) in
      subst (λ (p : Pick). FitsGate n g (vector_at parts s0 w.lsta p)) (get_or-tabulate count (pick word) (pick word k) k lt) at

  pub gate_stops : (g : Gate) (s0 : List (Node L)) (c0 c1 : Count) (w : World) (why : Stop L) → IsStopped (2 * price w.lsta.shape.items) c0 c1 why
      → IsCause (λ l r. IsUnfitSet parts count (length w.lsta.shape.items) g s0 w.lsta) why → Stops parts count (of_gate g) s0 (w ∷ []) c0 c1 why
  gate_stops g s0 c0 c1 w why stopped cause = record {
    stopped = λ named h.
        let a = price_four named w in
        stopped_within c0 c0 c1 (2 * price w.lsta.shape.items) (most_steps named (of_gate g) (w ∷ [])) why refl (omega (arith, a)) stopped;
    cause = cause_map (λ l r. IsUnfitSet parts count (length w.lsta.shape.items) g s0 w.lsta) (λ l r. IsUnfit parts count (of_gate g) s0 (w ∷ []))
        (λ l r u. record {
          word = u.word;
          wide = λ n m cases s.
              let here = All-head (IsSized n m s0) w [] s in
              let v = one_word count cases u.word in
              let met : Met = record { gate = g; world = world_of parts v s0 w } in
              record {
                met = met;
                is_met = first_in met [];
                wide = λ fit. u.wide (λ k lt. subst (λ q. FitsGate q g (part_vector parts k (vector_of s0 w.lsta u.word))) (sym here.levels) (part_fits n g s0 w u.word k lt fit));
              };
        }) why cause;
  }

  -- ---- an outcome
  -- u is the world that S makes of w
  pub record IsHalf (S : ℕ → meant.World → meant.World) (s0 s1 : List (Node L)) (w u : World) : Type 0 where
    pub seen : (n : ℕ) (v : View) → IsView count v → length w.lsta.shape.items ≡ n → world_of parts v s1 u ≡ S n (world_of parts v s0 w)
    pub sized : (n m : ℕ) → IsSized n m s0 w → IsSized n m s1 u
    pub case : u.case ≡ w.case
    pub shape : u.lsta.shape.items ≡ w.lsta.shape.items
    pub open_le : (named : ℕ → Bool) → open_bits named u ≤ open_bits named w

  pub measured_half : (qubit : ℕ) (bit : Option ℕ) (b : Bool) (s0 s1 : List (Node L)) (w u : World) → HasFields w w.start (stored bit b w.bits) (w.outcomes ++ b ∷ []) u
      → IsMapped parts count (project (length w.lsta.shape.items) qubit b) s0 s1 w.lsta u.lsta → IsHalf (λ n x. measured_world n qubit bit b x) s0 s1 w u
  measured_half qubit bit b s0 s1 w u f m = record {
    seen = λ n v proper levels.
        world_mapped parts count (project (length w.lsta.shape.items) qubit b) s0 s1 v w u w.start (stored bit b w.bits) (w.outcomes ++ b ∷ []) proper f m
        ∙ ap (λ q. measured_world q qubit bit b (world_of parts v s0 w)) levels;
    sized = λ n k s. sized_mapped parts count (project (length w.lsta.shape.items) qubit b) n k s0 s1 w u w.start (stored bit b w.bits) (w.outcomes ++ b ∷ []) f m refl (length-stored bit b w.bits) s;
    case = f.case;
    shape = m.shape;
    open_le = λ named. (let le = open-stored-le named w.bits bit b in let same = ap (open_from named 0) f.bits in omega (arith, le, same));
  }

  pub reset_half : (qubit : ℕ) (b : Bool) (s0 s1 : List (Node L)) (w u : World) → HasFields w w.start w.bits (w.outcomes ++ b ∷ []) u
      → IsMapped parts count (cleared (length w.lsta.shape.items) qubit b) s0 s1 w.lsta u.lsta → IsHalf (λ n x. reset_world n qubit b x) s0 s1 w u
  reset_half qubit b s0 s1 w u f m = record {
    seen = λ n v proper levels.
        let q = length w.lsta.shape.items in
        let vs = map (vector_at parts s0 w.lsta) (v.picks w.case) in
        let e = map_twice (flipped q qubit b) (project q qubit b) vs in
        let a : world_of parts v s1 u ≡ reset_world q qubit b (world_of parts v s0 w)
        = world_mapped parts count (cleared q qubit b) s0 s1 v w u w.start w.bits (w.outcomes ++ b ∷ []) proper f m
        ∙ (λ i. record { case = v.case w.case; start = w.start; bits = w.bits; outcomes = w.outcomes ++ b ∷ []; vectors = e i }) in
        a ∙ ap (λ j. reset_world j qubit b (world_of parts v s0 w)) levels;
    sized = λ n k s. sized_mapped parts count (cleared (length w.lsta.shape.items) qubit b) n k s0 s1 w u w.start w.bits (w.outcomes ++ b ∷ []) f m refl refl s;
    case = f.case;
    shape = m.shape;
    open_le = λ named. (let same = ap (open_from named 0) f.bits in omega (arith, same));
  }

-- both outcomes of a measurement or a reset
abbrev pub of_halves : (ℕ → meant.World → meant.World) → (ℕ → meant.World → meant.World) → Move
of_halves S T = record { spread = λ n w. S n w ∷ T n w ∷ []; meets = λ n w. []; outcomes = 1; statements = 1; guards = [] }

module _ {L : Type 0} (parts : L → List Amplitude) (count : ℕ) (S T : ℕ → meant.World → meant.World) where
  pub halves_leave : (s0 s1 s2 : List (Node L)) (c0 c2 : Count) (w z o : World) (both list : List World) → Extends s0 s1 → Extends s1 s2 → IsHalf parts count S s0 s1 w z → IsHalf parts count T s1 s2 w o → both ≡ z ∷ o ∷ []
      → AreAlive parts count s2 both list → c2.taken ≤ c0.taken + 8 * price w.lsta.shape.items → Leaves parts count (of_halves S T) s0 s2 c0 c2 (w ∷ []) list
  halves_leave s0 s1 s2 c0 c2 w z o both list x y low high e alive cheap = record {
    gives = λ n m v proper s.
        let here = All-head (IsSized n m s0) w [] s in
        let now = sized_kept n m s0 s1 w x here in
        let first = world_kept parts v s1 s2 z y (low.sized n m here).fits ∙ low.seen n v proper here.levels in
        let second = high.seen n v proper here.levels ∙ ap (T n) (world_kept parts v s0 s1 w x here.fits) in
        let seen : map (world_of parts v s2) both ≡ S n (world_of parts v s0 w) ∷ T n (world_of parts v s0 w) ∷ []
        = ap (map (world_of parts v s2)) e ∙ ap₂ (λ (a b : meant.World). a ∷ b ∷ []) first second in
        let sized : AreSized n m s2 both
        = subst (λ (l : List World). AreSized n m s2 l) (sym e)
        (All-cons (IsSized n m s2) z (o ∷ []) (sized_kept n m s1 s2 z y (low.sized n m here)) (All-cons (IsSized n m s2) o [] (high.sized n m now) (All-nil (IsSized n m s2)))) in
        record {
          worlds = alive.same v ∙ ap (filter is_alive) seen;
          sized = All-weaker (Contains both) (IsSized n m s2) (λ u c. All-contains (IsSized n m s2) both u sized c) list alive.within;
        };
    fits = λ n m v proper s d h. absurd (omega (arith, h.1));
    from =
        let from_both : All (ComesFrom (w ∷ [])) both
        = subst (λ (l : List World). All (ComesFrom (w ∷ [])) l) (sym e)
        (All-cons (ComesFrom (w ∷ [])) z (o ∷ []) (from_self w z low.case low.shape) (All-cons (ComesFrom (w ∷ [])) o [] (from_self w o high.case high.shape) (All-nil (ComesFrom (w ∷ []))))) in
        All-weaker (Contains both) (ComesFrom (w ∷ [])) (λ u c. All-contains (ComesFrom (w ∷ [])) both u from_both c) list alive.within;
    lighter = λ named k h.
        let a = alive.lighter named k in
        let b = ap (weights named k) e ∙ weights_two named k z o in
        let p = weight_le named k k z w low.shape (let l = low.open_le named in omega (arith, l)) in
        let q = weight_le named k k o w high.shape (let l = high.open_le named in omega (arith, l)) in
        let d = weights_one named (1 + k) w ∙ weight_suc named k w in
        omega (arith, a, b, p, q, d);
    takes = λ named h. (let a = price_eight named w in omega (arith, cheap, a));
  }

  pub halves_stop : (s0 : List (Node L)) (c0 c1 c2 : Count) (bound : ℕ) (w : World) (why : Stop L) → c1.limit ≡ c0.limit → c1.taken + bound ≤ c0.taken + 8 * price w.lsta.shape.items → IsStopped bound c1 c2 why
      → IsCause (λ l r. ⊥) why → Stops parts count (of_halves S T) s0 (w ∷ []) c0 c2 why
  halves_stop s0 c0 c1 c2 bound w why limit le stopped cause = record {
    stopped = λ named h. (let a = price_eight named w in stopped_within c0 c1 c2 bound (most_steps named (of_halves S T) (w ∷ [])) why limit (omega (arith, le, a)) stopped);
    cause = cause_map (λ l r. ⊥) (λ l r. IsUnfit parts count (of_halves S T) s0 (w ∷ [])) (λ l r u. absurd u) why cause;
  }

  -- the two steps are missing
  pub halves_unpaid : (s0 : List (Node L)) (c0 c1 : Count) (w : World) (why : Stop L) → FitsStore s0 w.lsta → c1.taken ≤ c0.taken + 2 → GivesUp 2 c0 c1 why → Stops parts count (of_halves S T) s0 (w ∷ []) c0 c1 why
  halves_unpaid s0 c0 c1 w why fits le gives =
      let some = price_some s0 w.lsta fits in
      halves_stop s0 c0 c0 c1 2 w why refl (omega (arith, some)) (stopped_alone c0 c1 2 why le gives) (alone_cause (λ l r. ⊥) why gives.alone)

-- two worlds fit
pub two_fit : {L : Type 0} (s1 s2 : List (Node L)) (z o : World) (both : List World) → both ≡ z ∷ o ∷ [] → Extends s1 s2 → FitsStore s1 z.lsta → FitsStore s2 o.lsta → AllFitStore s2 both
two_fit s1 s2 z o both e x a b =
    subst (λ (l : List World). AllFitStore s2 l) (sym e)
    (All-cons (λ (w : World). FitsStore s2 w.lsta) z (o ∷ []) (HasShape-Extends s1 s2 x z.lsta.shape.items z.lsta.root a)
    (All-cons (λ (w : World). FitsStore s2 w.lsta) o [] b (All-nil (λ (w : World). FitsStore s2 w.lsta))))
