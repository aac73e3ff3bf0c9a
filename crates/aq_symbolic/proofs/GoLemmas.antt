-- A whole fragment.
use Rattle.std.proofs.Common.{◌≡◌, ℕ, zero, suc, ◌<◌, Bool, true, false, not, ◌&&◌, ◌||◌, cond, List, [], ◌∷◌, map, filter, All, Contains, length, get_or, refl, sym, ap, subst, ◌∙◌, arith}
use Rattle.std.specs.List.{list_all}
use Rattle.std.specs.Prelude.{◌==◌}
use Rattle.std.proofs.Common.{eq-eqb}
use Rattle.std.proofs.lemmas.List.Elements.{All-contains, All-contains_itself, All-head, All-tail, All-weaker}
use Rattle.aq_ring.specs.Fractions.{Amplitude}
use Rattle.aq_ring.specs.Vectors.{is_zero_vector}
use Rattle.aq_ring.proofs.VectorLaws.{is_zero_vector_true}
use Rattle.aq_prog.specs.declared.stmt.Guard.{Guard}
use Rattle.aq_prog.specs.declared.stmt.Stmt.{Stmt}
use Rattle.aq_store.specs.Count.{Count}
use Rattle.aq_store.specs.Nodes.{FitsStore, tree}
use Rattle.aq_store.specs.Words.{IsWord}
use Rattle.aq_store.specs.declared.node.Node.{Node}
use Rattle.aq_obligations.specs.Counting.{is_named}
use Rattle.aq_obligations.specs.Enough.{guards}
use Rattle.aq_obligations.specs.Worlds.{is_nought}
use Rattle.aq_obligations.specs.Worlds as meant
use Rattle.aq_correct.specs.WorldLaws.{is_alive}
use Rattle.aq_symbolic.specs.Moves.{of_body}
use Rattle.aq_symbolic.specs.Playing.{CanPlay, Goes, Leaves, ShowsAll, named_in}
use Rattle.aq_symbolic.specs.Steps.{AreAlive}
use Rattle.aq_symbolic.specs.Weights.{AreNamed}
use Rattle.aq_symbolic.specs.Worlds.{AllFitStore, ComesFrom, IsLive, IsSized, Pick, View, vector_at, world_of}
use Rattle.aq_symbolic.specs.declared.kept.World.{World}
use Rattle.aq_symbolic.proofs.Elements.{contains_map}
use Rattle.aq_symbolic.proofs.NonzeroLemmas.{nonzero_part}
use Rattle.aq_symbolic.proofs.LeadLemmas.{blind, blind_proper}

-- ---- bits that guards name
named_first : (g h : Guard) (gs : List Guard) → h ≡ g → is_named g.bit (h ∷ gs) ≡ true
named_first g h gs e = ap (λ b. b || is_named g.bit gs) (eq-eqb h.bit g.bit (ap (λ (x : Guard). x.bit) e))

named_more : (b c : Bool) → c ≡ true → (b || c) ≡ true
named_more true c e = refl
named_more false c e = e

named_there : (gs : List Guard) (g : Guard) → Contains gs g → is_named g.bit gs ≡ true
named_there [] g h = absurd (omega (arith, h.1))
named_there (x ∷ gs) g h = by h.0 h.1 h.2 (λ c. named_there gs g c)
  where
    by : (k : ℕ) → k < length (x ∷ gs) → get_or (x ∷ gs) k g ≡ g → (Contains gs g → is_named g.bit gs ≡ true) → is_named g.bit (x ∷ gs) ≡ true
    by zero lt e next = named_first g x gs e
    by (suc k) lt e next = named_more (x.bit == g.bit) (is_named g.bit gs) (next (k, omega (arith, lt), e))

pub all_named : (body : List Stmt) → AreNamed (named_in body) (guards body)
all_named body = All-weaker (Contains (guards body)) (λ (g : Guard). named_in body g.bit ≡ true) (λ g c. named_there (guards body) g c) (guards body) (All-contains_itself (guards body))

-- ---- worlds of which all is seen
and_true : (a b : Bool) → (a && b) ≡ true → (a ≡ true) × (b ≡ true)
and_true true b e = (refl, e)
and_true false b e = cc

all_pass : {A : Type 0} (t : A → Bool) (xs : List A) (x : A) → list_all t xs ≡ true → Contains xs x → t x ≡ true
all_pass t [] x e c = absurd (omega (arith, c.1))
all_pass t (y ∷ xs) x e c = by c.0 c.1 c.2 (and_true (t y) (list_all t xs) e) (λ f d. all_pass t xs x f d)
  where
    by : (k : ℕ) → k < length (y ∷ xs) → get_or (y ∷ xs) k x ≡ x → (t y ≡ true) × (list_all t xs ≡ true) → (list_all t xs ≡ true → Contains xs x → t x ≡ true) → t x ≡ true
    by zero lt is both next = ap t (sym is) ∙ both.0
    by (suc k) lt is both next = next both.1 (k, omega (arith, lt), is)

module _ {L : Type 0} (parts : L → List Amplitude) (count : ℕ) (all_parts : (x : L) → length (parts x) ≡ count) where
  -- a world that has a vector that isn't zero, and of which all is seen
  live_seen : (v : View) (table : List (Node L)) (w : World) → ShowsAll count v w → IsLive parts table w → is_alive (world_of parts v table w) ≡ true
  live_seen v table w shows live = by (is_nought (world_of parts v table w)) refl
    where
      by : (b : Bool) → is_nought (world_of parts v table w) ≡ b → not b ≡ true
      by true e =
          let some = nonzero_part parts count all_parts (tree table live.word w.lsta.root) live.nonzero in
          let seen : Pick = record { word = live.word; part = some.0 } in
          absurd (some.2 (is_zero_vector_true (vector_at parts table w.lsta seen)
          (all_pass is_zero_vector (map (vector_at parts table w.lsta) (v.picks w.case)) (vector_at parts table w.lsta seen) e
          (contains_map (vector_at parts table w.lsta) (v.picks w.case) seen (shows.each seen live.is_word some.1)))))
      by false e = refl

  all_alive : (v : View) (table : List (Node L)) (ws : List World) → All (ShowsAll count v) ws → All (IsLive parts table) ws → filter is_alive (map (world_of parts v table) ws) ≡ map (world_of parts v table) ws
  all_alive v table [] s a = refl
  all_alive v table (w ∷ ws) s a =
      ap (λ b. cond b (world_of parts v table w ∷ filter is_alive (map (world_of parts v table) ws)) (filter is_alive (map (world_of parts v table) ws)))
      (live_seen v table w (All-head (ShowsAll count v) w ws s) (All-head (IsLive parts table) w ws a))
      ∙ ap (λ (l : List meant.World). world_of parts v table w ∷ l) (all_alive v table ws (All-tail (ShowsAll count v) w ws s) (All-tail (IsLive parts table) w ws a))

  -- a world that comes of others is seen as they are
  shows_from : (v : View) (ws : List World) (u : World) → All (ShowsAll count v) ws → ComesFrom ws u → ShowsAll count v u
  shows_from v ws u all h =
      let s = All-contains (ShowsAll count v) ws h.world all h.listed in
      record { each = λ p word lt. subst (λ c. Contains (v.picks c) p) (sym h.case) (s.each p (subst (λ (l : List ℕ). IsWord l p.word) h.shape word) lt) }

  pub goes_from : (body : List Stmt) (s0 s1 : List (Node L)) (c0 c1 : Count) (ws ends list : List World) → Leaves parts count (of_body body) s0 s1 c0 c1 ws ends → AreAlive parts count s1 ends list → Goes parts count body s0 s1 ws list
  goes_from body s0 s1 c0 c1 ws ends list p a = record {
    same = λ n m v proper s. a.same v ∙ (p.gives n m v proper s).worlds;
    whole = λ n m v proper shows s.
        sym (all_alive v s1 list (All-weaker (Contains ends) (ShowsAll count v) (λ u c. shows_from v ws u shows (All-contains (ComesFrom ws) ends u p.from c)) list a.within) a.live)
        ∙ a.same v ∙ (p.gives n m v proper s).worlds;
    sized = λ n m s.
        let all = (p.gives n m blind (blind_proper count) s).sized in
        All-weaker (Contains ends) (IsSized n m s1) (λ u c. All-contains (IsSized n m s1) ends u all c) list a.within;
    from = All-weaker (Contains ends) (ComesFrom ws) (λ u c. All-contains (ComesFrom ws) ends u p.from c) list a.within;
    live = a.live;
    fits = p.fits;
    lighter = λ named k h. (let fewer = a.lighter named k in let less = p.lighter named k h in omega (arith, fewer, less));
  }

  pub ends_fit : (body : List Stmt) (s0 s1 : List (Node L)) (c0 c1 : Count) (ws ends : List World) → CanPlay s0 ws body → Leaves parts count (of_body body) s0 s1 c0 c1 ws ends → AllFitStore s1 ends
  ends_fit body s0 s1 c0 c1 ws ends can p =
      All-weaker (IsSized can.qubits can.bits s1) (λ (w : World). FitsStore s1 w.lsta) (λ w h. h.fits) ends (p.gives can.qubits can.bits blind (blind_proper count) can.sized).sized
