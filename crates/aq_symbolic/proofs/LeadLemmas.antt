-- Statements that are played one after the other.
use Rattle.std.proofs.Common.{◌≡◌, ℕ, zero, suc, ◌+◌, ◌*◌, ◌<◌, ◌≤◌, ⊎_elim, Bool, true, false, not, List, [], ◌∷◌, map, filter, All, Contains, length, drop, get_or, refl, sym, ap, subst, ◌∙◌, arith, add-one, drop-cons}
use Rattle.std.specs.List.{flat_map}
use Rattle.std.proofs.Math.Nat.{mul-le-mul_left}
use Rattle.std.proofs.lemmas.List.Elements.{All-contains, All-nil, All-weaker, Contains-append_left, Contains-append_right, Contains-append_cases}
use Rattle.std.proofs.lemmas.List.Sums.{sum_by-cons}
use Rattle.aq_ring.specs.Fractions.{Amplitude}
use Rattle.aq_ring.specs.Vectors.{IsZeroVector}
use Rattle.aq_prog.specs.Gates.{FitsGate}
use Rattle.aq_prog.specs.declared.stmt.Guard.{Guard}
use Rattle.aq_prog.specs.declared.stmt.Stmt.{Stmt, fold-Stmt}
use Rattle.aq_prog.proofs.DigitLaws.{get_or-tabulate, length-tabulate}
use Rattle.aq_prog.proofs.FitsLaws.{always_fits}
use Rattle.aq_store.specs.Count.{Count}
use Rattle.aq_store.specs.declared.node.Node.{Node}
use Rattle.aq_store.specs.declared.store.Stop.{Stop}
use Rattle.aq_obligations.specs.Claims.{ClaimCase}
use Rattle.aq_obligations.specs.Counting.{guards_of}
use Rattle.aq_obligations.specs.Covering.{Met, meets, meets_of}
use Rattle.aq_obligations.specs.Enough.{guards, outcomes, outcomes_step, statements, statements_step}
use Rattle.aq_obligations.specs.Worlds.{Spread, in_worlds, is_nought, spread}
use Rattle.aq_obligations.specs.Worlds as meant
use Rattle.aq_correct.specs.WorldLaws.{is_alive}
use Rattle.aq_correct.proofs.NoughtLaws.{nought_worlds}
use Rattle.aq_symbolic.specs.Moves.{of_body, of_stmt}
use Rattle.aq_symbolic.specs.Playing.{AllFit, FitsMet, IsUnfit, Leaves, MeetsUnfit, Stops, most_steps}
use Rattle.aq_symbolic.specs.Weights.{AreNamed, weights}
use Rattle.aq_symbolic.specs.Worlds.{AreSame, AreSized, ComesFrom, IsView, Pick, View, one_word, picks_of_word, world_of}
use Rattle.aq_symbolic.specs.declared.kept.World.{World}
use Rattle.aq_symbolic.proofs.CollectLemmas.{from_then}
use Rattle.aq_symbolic.proofs.Elements.{all_left, all_right, contains_filter, contains_flat, filter_contains, flat_contains}
use Rattle.aq_symbolic.proofs.StopLemmas.{cause_map, stopped_within}
use Rattle.aq_symbolic.proofs.WeightLemmas.{spent_on, weights_le}

-- ---- a view of nothing
pub no_case : ClaimCase
no_case = record { vectors = []; when = [] }

abbrev pub blind : View
blind = record { case = λ _. no_case; picks = λ _. [] }

pub blind_proper : (count : ℕ) → IsView count blind
blind_proper count = λ c. All-nil (λ (p : Pick). p.part < count)

-- all parts of a word are parts
pub one_proper : (count : ℕ) (cases : ℕ → ClaimCase) (word : List ℕ) → IsView count (one_word count cases word)
one_proper count cases word = λ c k d lt.
    let long : length (picks_of_word count word) ≡ count = length-tabulate count (pick word) in
    let below : k < count = subst (λ j. k < j) long lt in
    subst (λ (p : Pick). p.part < count) (sym (get_or-tabulate count (pick word) d k below)) below
  where
    pick : List ℕ → ℕ → Pick
    pick word k = record { word = word; part = k }

-- ---- gates that dead worlds meet
dead_nought : (w : meant.World) → is_alive w ≡ false → is_nought w ≡ true
dead_nought w e = by (is_nought w) e
  where
    by : (b : Bool) → not b ≡ false → b ≡ true
    by true e = refl
    by false e = cc

-- whatever a dead world meets fits
dead_fits : (n : ℕ) (body : List Stmt) (w : meant.World) → is_alive w ≡ false → (e : Met) → Contains (meets_of n body w) e → FitsMet n e
dead_fits n body w dead e h =
    let zeros = All-contains (λ (d : Met). All IsZeroVector d.world.vectors) (meets_of n body w) e (nought_worlds.met_zero n body w (dead_nought w dead)) h in
    All-weaker IsZeroVector (FitsGate n e.gate) (λ v z. always_fits.zero n e.gate v z) e.world.vectors zeros

-- a gate that a world meets: it fits, or another list that has the living of the worlds has the world
meet_either : (n : ℕ) (body : List Stmt) (us ws : List meant.World) (e : Met) → AreSame us ws → Contains (flat_map (meets_of n body) us) e
    → (FitsMet n e → ⊥) → Contains (flat_map (meets_of n body) ws) e
meet_either n body us ws e same h wide =
    let a = contains_flat (meets_of n body) us e h in
    by a.0 a.1 a.2 (is_alive a.0) refl
  where
    by : (w : meant.World) → Contains us w → Contains (meets_of n body w) e → (b : Bool) → is_alive w ≡ b → Contains (flat_map (meets_of n body) ws) e
    by w listed met true live =
        let there = filter_contains is_alive ws w (subst (λ (l : List meant.World). Contains l w) same (contains_filter is_alive us w listed live)) in
        flat_contains (meets_of n body) ws w e there met
    by w listed met false dead = absurd (wide (dead_fits n body w dead e met))

-- all that worlds meet fit where all that other worlds meet do, if these have the living of them
fits_either : (n : ℕ) (body : List Stmt) (us ws : List meant.World) → AreSame us ws → AllFit n (flat_map (meets_of n body) ws) → AllFit n (flat_map (meets_of n body) us)
fits_either n body us ws same fit e h =
    let a = contains_flat (meets_of n body) us e h in
    by a.0 a.1 a.2 (is_alive a.0) refl
  where
    by : (w : meant.World) → Contains us w → Contains (meets_of n body w) e → (b : Bool) → is_alive w ≡ b → FitsMet n e
    by w listed met true live =
        let there = filter_contains is_alive ws w (subst (λ (l : List meant.World). Contains l w) same (contains_filter is_alive us w listed live)) in
        fit e (flat_contains (meets_of n body) ws w e there met)
    by w listed met false dead = dead_fits n body w dead e met

-- what is met behind a statement is met from before it
met_behind : (n : ℕ) (x : Stmt) (rest : List Stmt) (ws : List meant.World) (e : Met) → Contains (flat_map (meets_of n rest) (flat_map (spread n x) ws)) e → Contains (flat_map (meets_of n (x ∷ rest)) ws) e
met_behind n x rest ws e h =
    let a = contains_flat (meets_of n rest) (flat_map (spread n x) ws) e h in
    let b = contains_flat (spread n x) ws a.0 a.1 in
    flat_contains (meets_of n (x ∷ rest)) ws b.0 e b.1
    (Contains-append_right (meets n x b.0) (flat_map (meets_of n rest) (spread n x b.0)) e (flat_contains (meets_of n rest) (spread n x b.0) a.0 e b.2 a.2))

-- what the statement meets is met
met_here : (n : ℕ) (x : Stmt) (rest : List Stmt) (ws : List meant.World) (e : Met) → Contains (flat_map (meets n x) ws) e → Contains (flat_map (meets_of n (x ∷ rest)) ws) e
met_here n x rest ws e h =
    let b = contains_flat (meets n x) ws e h in
    flat_contains (meets_of n (x ∷ rest)) ws b.0 e b.1 (Contains-append_left (meets n x b.0) (flat_map (meets_of n rest) (spread n x b.0)) e b.2)

-- and nothing else
all_met : (n : ℕ) (x : Stmt) (rest : List Stmt) (ws : List meant.World) → AllFit n (flat_map (meets n x) ws) → AllFit n (flat_map (meets_of n rest) (flat_map (spread n x) ws)) → AllFit n (flat_map (meets_of n (x ∷ rest)) ws)
all_met n x rest ws here behind e h =
    let b = contains_flat (meets_of n (x ∷ rest)) ws e h in
    ⊎_elim (λ g. here e (flat_contains (meets n x) ws b.0 e b.1 g))
    (λ g. let a = contains_flat (meets_of n rest) (spread n x b.0) e g in
    behind e (flat_contains (meets_of n rest) (flat_map (spread n x) ws) a.0 e (flat_contains (spread n x) ws b.0 a.0 b.1 a.1) a.2))
    (Contains-append_cases (meets n x b.0) (flat_map (meets_of n rest) (spread n x b.0)) e b.2)

-- ---- the worlds that statements leave
abbrev made_by : ℕ → List Stmt → Spread
made_by n body = in_worlds (map (spread n) body)

-- the living after a statement and the rest
after_both : (n : ℕ) (x : Stmt) (rest : List Stmt) (ws us : List meant.World) → AreSame us (flat_map (spread n x) ws) → AreSame (flat_map (made_by n rest) us) (flat_map (made_by n (x ∷ rest)) ws)
after_both n x rest ws us same =
    sym (nought_worlds.dropped n rest us)
    ∙ ap (λ (l : List meant.World). filter is_alive (flat_map (made_by n rest) l)) same
    ∙ nought_worlds.dropped n rest (flat_map (spread n x) ws)
    ∙ ap (filter is_alive) (sym (nought_worlds.step (spread n x) (map (spread n) rest) ws))

pub flat_itself : (ws : List meant.World) → flat_map (in_worlds []) ws ≡ ws
flat_itself [] = refl
flat_itself (w ∷ ws) = ap (λ (l : List meant.World). w ∷ l) (flat_itself ws)

-- ---- a statement of a list
cut_at : (i : ℕ) (body : List Stmt) (d : Stmt) → i < length body → drop i body ≡ get_or body i d ∷ drop (i + 1) body
cut_at i body d h = drop-cons body i d h ∙ ap (λ (k : ℕ). get_or body i d ∷ drop k body) (sym (add-one i))

pub cut_here : (i : ℕ) (body : List Stmt) (x : Stmt) → i < length body → x ≡ get_or body i x → drop i body ≡ x ∷ drop (i + 1) body
cut_here i body x h e = cut_at i body x h ∙ ap (λ (s : Stmt). s ∷ drop (i + 1) body) (sym e)

-- its counts
outcomes_cons : (x : Stmt) (rest : List Stmt) → outcomes (x ∷ rest) ≡ (of_stmt x).outcomes + outcomes rest
outcomes_cons x rest = sum_by-cons (fold-Stmt ℕ outcomes_step) x rest

statements_cons : (x : Stmt) (rest : List Stmt) → statements (x ∷ rest) ≡ (of_stmt x).statements + statements rest
statements_cons x rest = sum_by-cons (fold-Stmt ℕ statements_step) x rest

module _ {L : Type 0} (parts : L → List Amplitude) (count : ℕ) where
  -- What the statements that are left come to from the worlds that there are now, all come to. And the steps that were taken
  -- and may still be are no more than those of all.
  pub record LeadsOn (body : List Stmt) (s0 : List (Node L)) (c0 : Count) (worlds : List World) (rest : List Stmt) (table : List (Node L)) (c : Count) (now : List World) : Type 0 where
    pub sized : (n m : ℕ) → AreSized n m s0 worlds → AreSized n m table now
    pub ends : (n m : ℕ) (v : View) → IsView count v → AreSized n m s0 worlds → AreSame (flat_map (made_by n rest) (map (world_of parts v table) now)) (flat_map (made_by n body) (map (world_of parts v s0) worlds))
    pub fits : (n m : ℕ) (v : View) → IsView count v → AreSized n m s0 worlds → AllFit n (flat_map (meets_of n rest) (map (world_of parts v table) now)) → AllFit n (flat_map (meets_of n body) (map (world_of parts v s0) worlds))
    pub unfit : (n m : ℕ) (v : View) → IsView count v → AreSized n m s0 worlds → MeetsUnfit n (flat_map (meets_of n rest) (map (world_of parts v table) now)) → MeetsUnfit n (flat_map (meets_of n body) (map (world_of parts v s0) worlds))
    pub from : All (ComesFrom worlds) now
    pub named : (named : ℕ → Bool) → AreNamed named (guards body) → AreNamed named (guards rest)
    pub lighter : (named : ℕ → Bool) (k : ℕ) → AreNamed named (guards body) → weights named (outcomes rest + k) now ≤ weights named (outcomes body + k) worlds
    pub takes : (named : ℕ → Bool) → AreNamed named (guards body) → c.taken + 4 * (statements rest * weights named (outcomes rest) now) ≤ c0.taken + most_steps named (of_body body) worlds

  pub leads_start : (body : List Stmt) (s0 : List (Node L)) (c0 : Count) (worlds : List World) → LeadsOn body s0 c0 worlds body s0 c0 worlds
  leads_start body s0 c0 worlds = record {
    sized = λ n m s. s;
    ends = λ n m v proper s. refl;
    fits = λ n m v proper s h. h;
    unfit = λ n m v proper s h. h;
    from = λ k d lt. record { world = get_or worlds k d; listed = (k, lt, refl_at worlds k d lt); case = refl; shape = refl };
    named = λ named h. h;
    lighter = λ named k h. (omega arith);
    takes = λ named h. (omega arith);
  }
    where
      refl_at : (ws : List World) (k : ℕ) (d : World) → k < length ws → get_or ws k (get_or ws k d) ≡ get_or ws k d
      refl_at [] k d lt = absurd (omega arith)
      refl_at (w ∷ ws) zero d lt = refl
      refl_at (w ∷ ws) (suc k) d lt = refl_at ws k d (omega arith)

  leads_past : (body : List Stmt) (s0 s1 s2 : List (Node L)) (c0 c1 c2 : Count) (worlds : List World) (x : Stmt) (rest : List Stmt) (now next : List World) → LeadsOn body s0 c0 worlds (x ∷ rest) s1 c1 now
      → Leaves parts count (of_stmt x) s1 s2 c1 c2 now next → LeadsOn body s0 c0 worlds rest s2 c2 next
  leads_past body s0 s1 s2 c0 c1 c2 worlds x rest now next on p = record {
    sized = λ n m s. (p.gives n m blind (blind_proper count) (on.sized n m s)).sized;
    ends = λ n m v proper s.
        let g = p.gives n m v proper (on.sized n m s) in
        after_both n x rest (map (world_of parts v s1) now) (map (world_of parts v s2) next) g.worlds ∙ on.ends n m v proper s;
    fits = λ n m v proper s h.
        let g = p.gives n m v proper (on.sized n m s) in
        on.fits n m v proper s
        (all_met n x rest (map (world_of parts v s1) now) (p.fits n m v proper (on.sized n m s))
        (fits_either n rest (flat_map (spread n x) (map (world_of parts v s1) now)) (map (world_of parts v s2) next) (sym g.worlds) h));
    unfit = λ n m v proper s u.
        let g = p.gives n m v proper (on.sized n m s) in
        let there = meet_either n rest (map (world_of parts v s2) next) (flat_map (spread n x) (map (world_of parts v s1) now)) u.met g.worlds u.is_met u.wide in
        on.unfit n m v proper s (record { met = u.met; is_met = met_behind n x rest (map (world_of parts v s1) now) u.met there; wide = u.wide });
    from = All-weaker (ComesFrom now) (ComesFrom worlds) (λ u h. from_then worlds now u on.from h) next p.from;
    named = λ named h. all_right (λ (g : Guard). named g.bit ≡ true) (guards_of x) (guards rest) (on.named named h);
    lighter = λ named k h.
        let here = all_left (λ (g : Guard). named g.bit ≡ true) (guards_of x) (guards rest) (on.named named h) in
        let a = p.lighter named (outcomes rest + k) here in
        let b = on.lighter named k h in
        let e : (of_stmt x).outcomes + (outcomes rest + k) ≡ outcomes (x ∷ rest) + k = omega (arith, outcomes_cons x rest) in
        let f = ap (λ j. weights named j now) e in
        omega (arith, a, b, f);
    takes = λ named h.
        let here = all_left (λ (g : Guard). named g.bit ≡ true) (guards_of x) (guards rest) (on.named named h) in
        let o = (of_stmt x).outcomes in
        let v = weights named (outcomes (x ∷ rest)) now in
        let first : weights named o now ≤ v = weights_le named o (outcomes (x ∷ rest)) now (omega (arith, outcomes_cons x rest)) in
        let a = p.lighter named (outcomes rest) here in
        let f = ap (λ j. weights named j now) (sym (outcomes_cons x rest)) in
        let second : weights named (outcomes rest) next ≤ v = omega (arith, a, f) in
        let all = on.takes named h in
        let split : statements (x ∷ rest) * v ≡ ((of_stmt x).statements + statements rest) * v = ap (λ j. j * v) (statements_cons x rest) in
        spent_on c0.taken c1.taken c2.taken (of_stmt x).statements (statements rest) (weights named o now) (weights named (outcomes rest) next) v (most_steps named (of_body body) worlds)
        first second (p.takes named here) (omega (arith, all, split));
  }

  pub leads_next : (body : List Stmt) (s0 s1 s2 : List (Node L)) (c0 c1 c2 : Count) (worlds : List World) (i : ℕ) (x : Stmt) (now next : List World) → i < length body → x ≡ get_or body i x
      → LeadsOn body s0 c0 worlds (drop i body) s1 c1 now → Leaves parts count (of_stmt x) s1 s2 c1 c2 now next → LeadsOn body s0 c0 worlds (drop (i + 1) body) s2 c2 next
  leads_next body s0 s1 s2 c0 c1 c2 worlds i x now next h e on p =
      leads_past body s0 s1 s2 c0 c1 c2 worlds x (drop (i + 1) body) now next (subst (λ (l : List Stmt). LeadsOn body s0 c0 worlds l s1 c1 now) (cut_here i body x h e) on) p

  pub leads_out : (body : List Stmt) (s0 s1 : List (Node L)) (c0 c1 : Count) (worlds now : List World) (rest : List Stmt) → rest ≡ [] → LeadsOn body s0 c0 worlds rest s1 c1 now → Leaves parts count (of_body body) s0 s1 c0 c1 worlds now
  leads_out body s0 s1 c0 c1 worlds now rest none some =
      let on = subst (λ (l : List Stmt). LeadsOn body s0 c0 worlds l s1 c1 now) none some in
      record {
        gives = λ n m v proper s. record { worlds = ap (filter is_alive) (sym (flat_itself (map (world_of parts v s1) now))) ∙ on.ends n m v proper s; sized = on.sized n m s };
        fits = λ n m v proper s. on.fits n m v proper s (λ e h. absurd (nothing_met (map (world_of parts v s1) now) e h));
        from = on.from;
        lighter = λ named k h. (let a = on.lighter named k h in let z : 0 + k ≡ k = omega arith in subst (λ j. weights named j now ≤ weights named (outcomes body + k) worlds) z a);
        takes = λ named h. (let a = on.takes named h in omega (arith, a));
      }
    where
      nothing_met : (ws : List meant.World) (e : Met) → Contains (flat_map (λ (w : meant.World). []) ws) e → ⊥
      nothing_met [] e h = omega (arith, h.1)
      nothing_met (w ∷ ws) e h = nothing_met ws e h

  -- a statement gives up
  stop_past : (body : List Stmt) (s0 s1 : List (Node L)) (c0 c1 c2 : Count) (worlds : List World) (x : Stmt) (rest : List Stmt) (now : List World) (why : Stop L) → c1.limit ≡ c0.limit
      → LeadsOn body s0 c0 worlds (x ∷ rest) s1 c1 now → Stops parts count (of_stmt x) s1 now c1 c2 why → Stops parts count (of_body body) s0 worlds c0 c2 why
  stop_past body s0 s1 c0 c1 c2 worlds x rest now why same on h = record {
    stopped = λ named a.
        let here = all_left (λ (g : Guard). named g.bit ≡ true) (guards_of x) (guards rest) (on.named named a) in
        let o = (of_stmt x).outcomes in
        let v = weights named (outcomes (x ∷ rest)) now in
        let first : weights named o now ≤ v = weights_le named o (outcomes (x ∷ rest)) now (omega (arith, outcomes_cons x rest)) in
        let all = on.takes named a in
        let split : statements (x ∷ rest) * v ≡ ((of_stmt x).statements + statements rest) * v = ap (λ j. j * v) (statements_cons x rest) in
        let part = mul-le-mul_left (of_stmt x).statements first in
        stopped_within c0 c1 c2 (most_steps named (of_stmt x) now) (most_steps named (of_body body) worlds) why same (omega (arith, all, split, part)) (h.stopped named here);
    cause = cause_map (λ l r. IsUnfit parts count (of_stmt x) s1 now) (λ l r. IsUnfit parts count (of_body body) s0 worlds)
        (λ l r u. record {
          word = u.word;
          wide = λ n m cases s.
              let v = one_word count cases u.word in
              let w = u.wide n m cases (on.sized n m s) in
              on.unfit n m v (one_proper count cases u.word) s (record { met = w.met; is_met = met_here n x rest (map (world_of parts v s1) now) w.met w.is_met; wide = w.wide });
        }) why h.cause;
  }

  pub stop_next : (body : List Stmt) (s0 s1 : List (Node L)) (c0 c1 c2 : Count) (worlds : List World) (i : ℕ) (x : Stmt) (now : List World) (why : Stop L) → i < length body → x ≡ get_or body i x → c1.limit ≡ c0.limit
      → LeadsOn body s0 c0 worlds (drop i body) s1 c1 now → Stops parts count (of_stmt x) s1 now c1 c2 why → Stops parts count (of_body body) s0 worlds c0 c2 why
  stop_next body s0 s1 c0 c1 c2 worlds i x now why h e same on p =
      stop_past body s0 s1 c0 c1 c2 worlds x (drop (i + 1) body) now why same (subst (λ (l : List Stmt). LeadsOn body s0 c0 worlds l s1 c1 now) (cut_here i body x h e) on) p
