-- The branch that a world takes, and a branch after the split at its bit.
use Rattle.std.proofs.Common.{◌≡◌, ℕ, ◌+◌, ◌*◌, ◌≤◌, Bool, true, false, cond, List, [], ◌∷◌, ◌++◌, map, filter, slice_get, refl, sym, ap, subst, ◌∙◌, arith, append-nil}
use Rattle.std.specs.List.{flat_map}
use Rattle.std.proofs.lemmas.List.Elements.{All-head, All-tail, All-weaker}
use Rattle.aq_ring.specs.Fractions.{Amplitude}
use Rattle.aq_prog.specs.declared.stmt.Guard.{Guard}
use Rattle.aq_prog.specs.declared.stmt.Stmt.{Stmt}
use Rattle.aq_store.specs.Count.{Count}
use Rattle.aq_store.specs.Nodes.{FitsStore}
use Rattle.aq_store.specs.Stops.{GivesUp}
use Rattle.aq_store.specs.declared.node.Node.{Node}
use Rattle.aq_store.specs.declared.store.Stop.{Stop}
use Rattle.aq_obligations.specs.Enough.{guards, outcomes, statements}
use Rattle.aq_obligations.specs.Worlds.{is_known}
use Rattle.aq_obligations.specs.Worlds as meant
use Rattle.aq_correct.specs.WorldLaws.{is_alive}
use Rattle.aq_symbolic.specs.Moves.{Move, of_body, of_branch}
use Rattle.aq_symbolic.specs.Playing.{AllFit, IsUnfit, Leaves, MeetsUnfit, Stops, most_steps}
use Rattle.aq_symbolic.specs.Splitting.{IsSplit}
use Rattle.aq_symbolic.specs.Weights.{AreNamed, weights}
use Rattle.aq_symbolic.specs.Worlds.{ComesFrom, IsSized, View, one_word, world_of}
use Rattle.aq_symbolic.specs.declared.kept.World.{World}
use Rattle.aq_symbolic.proofs.CollectLemmas.{from_then}
use Rattle.aq_symbolic.proofs.Elements.{all_left, all_right}
use Rattle.aq_symbolic.proofs.MoveLemmas.{of_if}
use Rattle.aq_symbolic.proofs.SplitLemmas.{split_from, split_lighter, split_seen, split_sized}
use Rattle.aq_symbolic.proofs.StopLemmas.{alone_cause, cause_map, stopped_alone, stopped_within}
use Rattle.aq_symbolic.proofs.WeightLemmas.{price_some, price_within, spent_le, spent_split, weights_le, weights_one}

-- a smaller bound within a larger one
most_le : (c s t v w : ℕ) → s ≤ t → v ≤ w → c + 4 * (s * v) ≤ c + 4 * (t * w)
most_le c s t v w p q = spent_le c (c + 4 * (s * v)) s t v w p q (omega arith)

-- ---- the branch that is taken

-- what is taken, by what is known of the bit
abbrev taken : Bool → List Stmt → List Stmt → List Stmt
taken b when_true when_false = cond b when_true when_false

taken_outcomes : (b : Bool) (x y : List Stmt) → outcomes (taken b x y) ≤ outcomes x + outcomes y
taken_outcomes true x y = omega arith
taken_outcomes false x y = omega arith

taken_statements : (b : Bool) (x y : List Stmt) → statements (taken b x y) ≤ statements x + statements y
taken_statements true x y = omega arith
taken_statements false x y = omega arith

taken_named : (named : ℕ → Bool) (b : Bool) (x y : List Stmt) → AreNamed named (guards x ++ guards y) → AreNamed named (guards (taken b x y))
taken_named named true x y h = all_left (λ (g : Guard). named g.bit ≡ true) (guards x) (guards y) h
taken_named named false x y h = all_right (λ (g : Guard). named g.bit ≡ true) (guards x) (guards y) h

taken_spread : (n : ℕ) (g : Guard) (b : Bool) (x y : List Stmt) (w : meant.World) → is_known g (slice_get w.bits g.bit) ≡ b → (of_branch g x y).spread n w ≡ (of_body (taken b x y)).spread n w
taken_spread n g true x y w e = ap (λ t. cond t ((of_body x).spread n w) ((of_body y).spread n w)) e
taken_spread n g false x y w e = ap (λ t. cond t ((of_body x).spread n w) ((of_body y).spread n w)) e

taken_meets : (n : ℕ) (g : Guard) (b : Bool) (x y : List Stmt) (w : meant.World) → is_known g (slice_get w.bits g.bit) ≡ b → (of_branch g x y).meets n w ≡ (of_body (taken b x y)).meets n w
taken_meets n g true x y w e = ap (λ t. cond t ((of_body x).meets n w) ((of_body y).meets n w)) e
taken_meets n g false x y w e = ap (λ t. cond t ((of_body x).meets n w) ((of_body y).meets n w)) e

flat_one_same : {A : Type 0} (f g : meant.World → List A) (w : meant.World) → f w ≡ g w → flat_map f (w ∷ []) ≡ flat_map g (w ∷ [])
flat_one_same f g w e = ap (λ l. l ++ []) e

module _ {L : Type 0} (parts : L → List Amplitude) (count : ℕ) where
  taken_leaves_as : (g : Guard) (x y : List Stmt) (b : Bool) (s0 s1 : List (Node L)) (c0 c1 : Count) (w : World) (list : List World) → is_known g (slice_get w.bits g.bit) ≡ b
      → Leaves parts count (of_body (taken b x y)) s0 s1 c0 c1 (w ∷ []) list → Leaves parts count (of_branch g x y) s0 s1 c0 c1 (w ∷ []) list
  taken_leaves_as g x y b s0 s1 c0 c1 w list known p = record {
    gives = λ n m v proper s.
        let a = p.gives n m v proper s in
        let e = flat_one_same ((of_branch g x y).spread n) ((of_body (taken b x y)).spread n) (world_of parts v s0 w) (taken_spread n g b x y (world_of parts v s0 w) known) in
        record { worlds = a.worlds ∙ ap (filter is_alive) (sym e); sized = a.sized };
    fits = λ n m v proper s.
        subst (AllFit n) (sym (flat_one_same ((of_branch g x y).meets n) ((of_body (taken b x y)).meets n) (world_of parts v s0 w) (taken_meets n g b x y (world_of parts v s0 w) known))) (p.fits n m v proper s);
    from = p.from;
    lighter = λ named k h.
        let a = p.lighter named k (taken_named named b x y h) in
        let le = weights_le named (outcomes (taken b x y) + k) ((outcomes x + outcomes y) + k) (w ∷ []) (let o = taken_outcomes b x y in omega (arith, o)) in
        omega (arith, a, le);
    takes = λ named h.
        spent_le c0.taken c1.taken (statements (taken b x y)) (statements x + statements y) (weights named (outcomes (taken b x y)) (w ∷ [])) (weights named (outcomes x + outcomes y) (w ∷ []))
        (taken_statements b x y) (weights_le named (outcomes (taken b x y)) (outcomes x + outcomes y) (w ∷ []) (taken_outcomes b x y)) (p.takes named (taken_named named b x y h));
  }

  taken_stops_as : (g : Guard) (x y : List Stmt) (b : Bool) (s0 : List (Node L)) (c0 c1 : Count) (w : World) (why : Stop L) → is_known g (slice_get w.bits g.bit) ≡ b
      → Stops parts count (of_body (taken b x y)) s0 (w ∷ []) c0 c1 why → Stops parts count (of_branch g x y) s0 (w ∷ []) c0 c1 why
  taken_stops_as g x y b s0 c0 c1 w why known p = record {
    stopped = λ named h.
        stopped_within c0 c0 c1 (most_steps named (of_body (taken b x y)) (w ∷ [])) (most_steps named (of_branch g x y) (w ∷ [])) why refl
        (most_le c0.taken (statements (taken b x y)) (statements x + statements y) (weights named (outcomes (taken b x y)) (w ∷ [])) (weights named (outcomes x + outcomes y) (w ∷ []))
        (taken_statements b x y) (weights_le named (outcomes (taken b x y)) (outcomes x + outcomes y) (w ∷ []) (taken_outcomes b x y)))
        (p.stopped named (taken_named named b x y h));
    cause = cause_map (λ l r. IsUnfit parts count (of_body (taken b x y)) s0 (w ∷ [])) (λ l r. IsUnfit parts count (of_branch g x y) s0 (w ∷ []))
        (λ l r u. record {
          word = u.word;
          wide = λ n m cases s.
              subst (MeetsUnfit n) (sym (flat_one_same ((of_branch g x y).meets n) ((of_body (taken b x y)).meets n) (world_of parts (one_word count cases u.word) s0 w)
              (taken_meets n g b x y (world_of parts (one_word count cases u.word) s0 w) known))) (u.wide n m cases s);
        }) why p.cause;
  }

  -- by the call on the branch's statements
  pub taken_leaves : (g : Guard) (x y l : List Stmt) (b : Bool) (s0 s1 : List (Node L)) (c0 c1 : Count) (w : World) (worlds list : List World) → is_known g (slice_get w.bits g.bit) ≡ b → worlds ≡ w ∷ [] → l ≡ taken b x y
      → Leaves parts count (of_body l) s0 s1 c0 c1 worlds list → Leaves parts count (of_branch g x y) s0 s1 c0 c1 (w ∷ []) list
  taken_leaves g x y l b s0 s1 c0 c1 w worlds list known e at p =
      taken_leaves_as g x y b s0 s1 c0 c1 w list known
      (subst (λ (z : List Stmt). Leaves parts count (of_body z) s0 s1 c0 c1 (w ∷ []) list) at (subst (λ (z : List World). Leaves parts count (of_body l) s0 s1 c0 c1 z list) e p))

  pub taken_stops : (g : Guard) (x y l : List Stmt) (b : Bool) (s0 : List (Node L)) (c0 c1 : Count) (w : World) (worlds : List World) (why : Stop L) → is_known g (slice_get w.bits g.bit) ≡ b → worlds ≡ w ∷ [] → l ≡ taken b x y
      → Stops parts count (of_body l) s0 worlds c0 c1 why → Stops parts count (of_branch g x y) s0 (w ∷ []) c0 c1 why
  taken_stops g x y l b s0 c0 c1 w worlds why known e at p =
      taken_stops_as g x y b s0 c0 c1 w why known
      (subst (λ (z : List Stmt). Stops parts count (of_body z) s0 (w ∷ []) c0 c1 why) at (subst (λ (z : List World). Stops parts count (of_body l) s0 z c0 c1 why) e p))

  -- ---- after the split

  if_seen : {A : Type 0} (f : meant.World → List A) (v : View) (table : List (Node L)) (bit : ℕ) (w : World) (halves : List World) → IsSplit bit w halves
      → flat_map f (map (world_of parts v table) halves) ≡ flat_map (λ z. flat_map f (meant.split bit z)) (map (world_of parts v table) (w ∷ []))
  if_seen f v table bit w halves h = ap (flat_map f) (split_seen parts v table bit w halves h) ∙ sym (append-nil (flat_map f (meant.split bit (world_of parts v table w))))

  -- a world weighs a step at least
  weighs : (named : ℕ → Bool) (k : ℕ) (table : List (Node L)) (w : World) → FitsStore table w.lsta → 1 ≤ weights named k (w ∷ [])
  weighs named k table w fits = (let a = price_some table w.lsta fits in let b = price_within named k w in let e = weights_one named k w in omega (arith, a, b, e))

  -- the step of a split, and the steps of the branches
  if_steps : (g : Guard) (x y : List Stmt) (s0 : List (Node L)) (c0 cp : Count) (w : World) (halves : List World) (named : ℕ → Bool) → FitsStore s0 w.lsta → IsSplit g.bit w halves → cp.taken ≤ c0.taken + 1
      → AreNamed named (of_if g x y).guards → cp.taken + most_steps named (of_branch g x y) halves ≤ c0.taken + most_steps named (of_if g x y) (w ∷ [])
  if_steps g x y s0 c0 cp w halves named fits split paid h =
      spent_split c0.taken cp.taken (statements x + statements y) (weights named (outcomes x + outcomes y) halves) (weights named (outcomes x + outcomes y) (w ∷ [])) paid (weighs named (outcomes x + outcomes y) s0 w fits)
      (split_lighter named (outcomes x + outcomes y) g.bit w halves (All-head (λ (q : Guard). named q.bit ≡ true) g (guards x ++ guards y) h) split)

  pub if_leaves : (g : Guard) (x y : List Stmt) (s0 s1 : List (Node L)) (c0 cp c1 : Count) (w : World) (halves list : List World) → FitsStore s0 w.lsta → IsSplit g.bit w halves → cp.taken ≤ c0.taken + 1
      → Leaves parts count (of_branch g x y) s0 s1 cp c1 halves list → Leaves parts count (of_if g x y) s0 s1 c0 c1 (w ∷ []) list
  if_leaves g x y s0 s1 c0 cp c1 w halves list fits split paid p = record {
    gives = λ n m v proper s.
        let here = All-head (IsSized n m s0) w [] s in
        let a = p.gives n m v proper (split_sized n m s0 g.bit w halves split here) in
        record { worlds = a.worlds ∙ ap (filter is_alive) (if_seen ((of_branch g x y).spread n) v s0 g.bit w halves split); sized = a.sized };
    fits = λ n m v proper s.
        let here = All-head (IsSized n m s0) w [] s in
        subst (AllFit n) (if_seen ((of_branch g x y).meets n) v s0 g.bit w halves split) (p.fits n m v proper (split_sized n m s0 g.bit w halves split here));
    from = All-weaker (ComesFrom halves) (ComesFrom (w ∷ [])) (λ u h. from_then (w ∷ []) halves u (split_from g.bit w halves split) h) list p.from;
    lighter = λ named k h.
        let a = p.lighter named k (All-tail (λ (q : Guard). named q.bit ≡ true) g (guards x ++ guards y) h) in
        let b = split_lighter named ((outcomes x + outcomes y) + k) g.bit w halves (All-head (λ (q : Guard). named q.bit ≡ true) g (guards x ++ guards y) h) split in
        omega (arith, a, b);
    takes = λ named h.
        let a = p.takes named (All-tail (λ (q : Guard). named q.bit ≡ true) g (guards x ++ guards y) h) in
        let b = if_steps g x y s0 c0 cp w halves named fits split paid h in
        omega (arith, a, b);
  }

  pub if_stops : (g : Guard) (x y : List Stmt) (s0 : List (Node L)) (c0 cp c1 : Count) (w : World) (halves : List World) (why : Stop L) → FitsStore s0 w.lsta → IsSplit g.bit w halves → cp.taken ≤ c0.taken + 1 → cp.limit ≡ c0.limit
      → Stops parts count (of_branch g x y) s0 halves cp c1 why → Stops parts count (of_if g x y) s0 (w ∷ []) c0 c1 why
  if_stops g x y s0 c0 cp c1 w halves why fits split paid limit p = record {
    stopped = λ named h.
        stopped_within c0 cp c1 (most_steps named (of_branch g x y) halves) (most_steps named (of_if g x y) (w ∷ [])) why limit (if_steps g x y s0 c0 cp w halves named fits split paid h)
        (p.stopped named (All-tail (λ (q : Guard). named q.bit ≡ true) g (guards x ++ guards y) h));
    cause = cause_map (λ l r. IsUnfit parts count (of_branch g x y) s0 halves) (λ l r. IsUnfit parts count (of_if g x y) s0 (w ∷ []))
        (λ l r u. record {
          word = u.word;
          wide = λ n m cases s.
              let here = All-head (IsSized n m s0) w [] s in
              subst (MeetsUnfit n) (if_seen ((of_branch g x y).meets n) (one_word count cases u.word) s0 g.bit w halves split) (u.wide n m cases (split_sized n m s0 g.bit w halves split here));
        }) why p.cause;
  }

  -- the step is missing, or memory
  pub if_unpaid : (g : Guard) (x y : List Stmt) (s0 : List (Node L)) (c0 c1 : Count) (w : World) (why : Stop L) → FitsStore s0 w.lsta → c1.taken ≤ c0.taken + 1 → GivesUp 1 c0 c1 why
      → Stops parts count (of_if g x y) s0 (w ∷ []) c0 c1 why
  if_unpaid g x y s0 c0 c1 w why fits le gives = record {
    stopped = λ named h.
        let some = weighs named (outcomes x + outcomes y) s0 w fits in
        let room = spent_split c0.taken (c0.taken + 1) (statements x + statements y) 0 (weights named (outcomes x + outcomes y) (w ∷ [])) (omega arith) some (omega arith) in
        stopped_within c0 c0 c1 1 (most_steps named (of_if g x y) (w ∷ [])) why refl (omega (arith, room)) (stopped_alone c0 c1 1 why le gives);
    cause = alone_cause (λ l r. IsUnfit parts count (of_if g x y) s0 (w ∷ [])) why gives.alone;
  }

  -- a move under another name
  pub leaves_as : (P Q : Move) (s0 s1 : List (Node L)) (c0 c1 : Count) (worlds list : List World) → P ≡ Q → Leaves parts count Q s0 s1 c0 c1 worlds list → Leaves parts count P s0 s1 c0 c1 worlds list
  leaves_as P Q s0 s1 c0 c1 worlds list e h = subst (λ (M : Move). Leaves parts count M s0 s1 c0 c1 worlds list) (sym e) h

  pub stops_as : (P Q : Move) (s0 : List (Node L)) (c0 c1 : Count) (worlds : List World) (why : Stop L) → P ≡ Q → Stops parts count Q s0 worlds c0 c1 why → Stops parts count P s0 worlds c0 c1 why
  stops_as P Q s0 c0 c1 worlds why e h = subst (λ (M : Move). Stops parts count M s0 worlds c0 c1 why) (sym e) h
