-- How worlds are spread, statement by statement.
use Rattle.std.proofs.Common.{◌≡◌, ℕ, zero, suc, ◌+◌, ◌<◌, Bool, true, false, not, cond, ◌||◌, List, [], ◌∷◌, ◌++◌, map, filter, Contains, length, take, drop, get_or, slice_get, Option, Some, None, ⊎_elim, refl, ap, ap₂, sym, ◌∙◌, subst, arith, append-nil, drop-cons, add-one}
use Rattle.std.specs.List.{flat_map, list_any}
use Rattle.std.proofs.lemmas.List.{take_more, length-set, map-append}
use Rattle.std.proofs.Math.Seq.{take-length}
use Rattle.std.proofs.lemmas.List.Concat.{flat_map-append}
use Rattle.std.proofs.lemmas.List.Elements.{All-nil, All-cons, All-append, All-filter, All-head, All-get_or, filter-append, Contains-append_left, Contains-append_right, Contains-append_cases}
use Rattle.std.proofs.lemmas.List.Folds.{list_all-map}
use Rattle.aq_ring.specs.Vectors.{is_zero_vector}
use Rattle.aq_prog.specs.Cuts.{has_cut}
use Rattle.aq_prog.specs.Gates.{apply_gate}
use Rattle.aq_prog.specs.Programs.{IsValidLevel, IsValidStmt}
use Rattle.aq_prog.specs.declared.gate.Gate.{Gate}
use Rattle.aq_prog.specs.declared.stmt.Guard.{Guard}
use Rattle.aq_prog.specs.declared.stmt.Stmt.{Stmt}
use Rattle.aq_prog.specs.declared.stmt.Stmt.TheVariants as stmt
use Rattle.aq_prog.specs.declared.stmt.Stmt.TheOpen.{Stmt-F}
use Rattle.aq_prog.specs.declared.stmt.Stmt.TheFolds.{every_here-Stmt}
use Rattle.aq_prog.specs.declared.stmt.Stmt.TheViews.{roll-Stmt, out-roll-Stmt}
use Rattle.aq_prog.proofs.StmtLaws.{fold-gate, fold-measure, fold-reset, fold-if, fold-assume, para-gate, para-if}
use Rattle.aq_prog.proofs.CutLaws.{branch_cuts}
use Rattle.aq_plain.specs.Replaying.{IsPlayableStmt}
use Rattle.aq_plain.specs.Vectors.{StateVector}
use Rattle.aq_obligations.specs.Claims.{ClaimCase}
use Rattle.aq_obligations.specs.Covering.{Met, Meets, meets, meets_step, meets_of}
use Rattle.aq_obligations.specs.Worlds.{World, Spread, Partial, in_worlds, spread, spread_step, split, is_known, stored, assumed_worlds, with_vectors, measured_world, reset_world}
use Rattle.aq_correct.specs.WorldLaws.{is_alive}
use Rattle.aq_correct.proofs.NoughtLaws.{nought_worlds}
use Rattle.aq_worlds.specs.Playing.{world_of, is_nothing, lives, IsSized, AreSized, Gives, Collects, Leaves, MeetsUnfit, AreUnfit, spread_of, branch_of, branch_met}
use Rattle.aq_worlds.specs.declared.world.PlainWorld.{PlainWorld}

-- ---- the worlds that are left

lives_is : (c : ClaimCase) (w : PlainWorld) → lives w ≡ is_alive (world_of c w)
lives_is c w = ap not (sym (list_all-map is_zero_vector (λ (v : StateVector). v.amps) w.vectors.items))

map_kept : {A B : Type 0} (f : A → B) (b : Bool) (x : A) (xs : List A) → map f (cond b (x ∷ xs) xs) ≡ cond b (f x ∷ map f xs) (map f xs)
map_kept f true x xs = refl
map_kept f false x xs = refl

pub filter_lives : (c : ClaimCase) (ws : List PlainWorld) → map (world_of c) (filter lives ws) ≡ filter is_alive (map (world_of c) ws)
filter_lives c [] = refl
filter_lives c (w ∷ ws) =
    map_kept (world_of c) (lives w) w (filter lives ws)
    ∙ ap (λ b. cond b (world_of c w ∷ map (world_of c) (filter lives ws)) (map (world_of c) (filter lives ws))) (lives_is c w)
    ∙ ap (λ (l : List World). cond (is_alive (world_of c w)) (world_of c w ∷ l) l) (filter_lives c ws)

pub kept_none : (w : PlainWorld) (xs : List PlainWorld) → is_nothing w ≡ true → xs ≡ xs ++ filter lives (w ∷ [])
kept_none w xs e = sym (append-nil xs) ∙ ap (λ b. xs ++ cond (not b) (w ∷ []) []) (sym e)

pub kept_one : (w : PlainWorld) (xs : List PlainWorld) → is_nothing w ≡ false → xs ++ w ∷ [] ≡ xs ++ filter lives (w ∷ [])
kept_one w xs e = ap (λ b. xs ++ cond (not b) (w ∷ []) []) (sym e)

-- of worlds that are given, those that are alive
pub gives_alive : (n m : ℕ) (c : ClaimCase) (ws : List PlainWorld) (us : List World) → Gives n m c ws us → Gives n m c (filter lives ws) (filter is_alive us)
gives_alive n m c ws us g = record { worlds = filter_lives c ws ∙ ap (filter is_alive) g.worlds; sized = All-filter lives (IsSized n m) ws g.sized }

pub gives_one : (n m : ℕ) (c : ClaimCase) (w : PlainWorld) (u : World) → world_of c w ≡ u → IsSized n m w → Gives n m c (w ∷ []) (u ∷ [])
gives_one n m c w u e s = record { worlds = ap (λ (x : World). x ∷ []) e; sized = All-cons (IsSized n m) w [] s (All-nil (IsSized n m)) }

pub gives_two : (n m : ℕ) (c : ClaimCase) (w v : PlainWorld) (u t : World) → world_of c w ≡ u → world_of c v ≡ t → IsSized n m w → IsSized n m v → Gives n m c (w ∷ v ∷ []) (u ∷ t ∷ [])
gives_two n m c w v u t e f s r = record {
  worlds = ap₂ (λ (x y : World). x ∷ y ∷ []) e f;
  sized = All-cons (IsSized n m) w (v ∷ []) s (All-cons (IsSized n m) v [] r (All-nil (IsSized n m)));
}

pub gives_same : (n m : ℕ) (c : ClaimCase) (list ws : List PlainWorld) (us vs : List World) → list ≡ ws → us ≡ vs → Gives n m c ws us → Gives n m c list vs
gives_same n m c list ws us vs e f g = subst (λ (l : List PlainWorld). Gives n m c l vs) (sym e) (subst (λ (l : List World). Gives n m c ws l) f g)

-- ---- the sizes of a world after a step

pub length-stored : (bit : Option ℕ) (b : Bool) (bits : Partial) → length (stored bit b bits) ≡ length bits
length-stored None b bits = refl
length-stored (Some k) b bits = length-set bits k (Some b)

-- ---- lists of worlds, one after the other

filter_flat : (S : Spread) (xs ys : List World) → filter is_alive (flat_map S xs) ++ filter is_alive (flat_map S ys) ≡ filter is_alive (flat_map S (xs ++ ys))
filter_flat S xs ys = sym (ap (filter is_alive) (flat_map-append S xs ys) ∙ filter-append is_alive (flat_map S xs) (flat_map S ys))

pub collect_next : (S : ℕ → Spread) (all : List PlainWorld) (k : ℕ) (w : PlainWorld) (list more : List PlainWorld) → k < length all → w ≡ get_or all k w
    → Collects S all (take k all) list → Leaves S (w ∷ []) more → Collects S all (take (k + 1) all) (list ++ more)
collect_next S all k w list more lt e first second = λ n m c sized.
    let here : IsSized n m w = subst (IsSized n m) (sym e) (All-get_or (IsSized n m) all k w lt sized) in
    let a : Gives n m c list (filter is_alive (flat_map (S n) (map (world_of c) (take k all)))) = first n m c sized in
    let b : Gives n m c more (filter is_alive (flat_map (S n) (map (world_of c) (w ∷ [])))) = second n m c (All-cons (IsSized n m) w [] here (All-nil (IsSized n m))) in
    let cut : take (k + 1) all ≡ take k all ++ w ∷ [] = take_more all k w lt ∙ ap (λ (x : PlainWorld). take k all ++ x ∷ []) (sym e) in
    record {
      worlds = map-append (world_of c) list more ∙ ap₂ (λ (x y : List World). x ++ y) a.worlds b.worlds ∙ filter_flat (S n) (map (world_of c) (take k all)) (map (world_of c) (w ∷ []))
          ∙ ap (λ (l : List World). filter is_alive (flat_map (S n) l)) (sym (ap (map (world_of c)) cut ∙ map-append (world_of c) (take k all) (w ∷ [])));
      sized = All-append (IsSized n m) list more a.sized b.sized;
    }

pub collect_step : (S : ℕ → Spread) (all : List PlainWorld) (k j : ℕ) (w : PlainWorld) (list more next : List PlainWorld) → j ≡ k + 1 → next ≡ list ++ more → k < length all → w ≡ get_or all k w
    → Collects S all (take k all) list → Leaves S (w ∷ []) more → Collects S all (take j all) next
collect_step S all k j w list more next ej en lt e first second =
    subst (λ (l : List PlainWorld). Collects S all (take j all) l) (sym en)
    (subst (λ (i : ℕ). Collects S all (take i all) (list ++ more)) (sym ej) (collect_next S all k w list more lt e first second))

pub collect_end : (S : ℕ → Spread) (all list : List PlainWorld) (k : ℕ) → k ≡ length all → Collects S all (take k all) list → Leaves S all list
collect_end S all list k e h = subst (λ (l : List PlainWorld). Collects S all l list) (ap (λ (j : ℕ). take j all) e ∙ take-length all) h

pub sized_at : (n m : ℕ) (all : List PlainWorld) (k : ℕ) (w : PlainWorld) → k < length all → w ≡ get_or all k w → AreSized n m all → AreSized n m (w ∷ [])
sized_at n m all k w lt e sized = All-cons (IsSized n m) w [] (subst (IsSized n m) (sym e) (All-get_or (IsSized n m) all k w lt sized)) (All-nil (IsSized n m))

contains_flat_at : (M : Meets) (f : PlainWorld → World) (all : List PlainWorld) (k : ℕ) (w : PlainWorld) (e : Met) → k < length all → w ≡ get_or all k w
    → Contains (flat_map M (map f (w ∷ []))) e → Contains (flat_map M (map f all)) e
contains_flat_at M f [] k w e lt is h = absurd (omega (arith, lt))
contains_flat_at M f (x ∷ xs) zero w e lt is h =
    let one : Contains (M (f w)) e = subst (λ (l : List Met). Contains l e) (append-nil (M (f w))) h in
    Contains-append_left (M (f x)) (flat_map M (map f xs)) e (subst (λ (z : PlainWorld). Contains (M (f z)) e) is one)
contains_flat_at M f (x ∷ xs) (suc k) w e lt is h = Contains-append_right (M (f x)) (flat_map M (map f xs)) e (contains_flat_at M f xs k w e (omega (arith, lt)) is h)

pub unfit_at : (M : ℕ → Meets) (all : List PlainWorld) (k : ℕ) (w : PlainWorld) → k < length all → w ≡ get_or all k w → AreUnfit M (w ∷ []) → AreUnfit M all
unfit_at M all k w lt e h = λ n m c sized.
    let u : MeetsUnfit n (flat_map (M n) (map (world_of c) (w ∷ []))) = h n m c (sized_at n m all k w lt e sized) in
    record { met = u.met; is_met = contains_flat_at (M n) (world_of c) all k w u.met lt e u.is_met; vector = u.vector; there = u.there; wide = u.wide }

-- ---- statements in order

pub no_case : ClaimCase
no_case = record { vectors = []; when = [] }

-- what the statements that are left come to from the worlds that there are now, all come to
pub record LeadsOn (body : List Stmt) (worlds : List PlainWorld) (rest : List Stmt) (now : List PlainWorld) : Type 0 where
  pub sized : (n m : ℕ) → AreSized n m worlds → AreSized n m now
  pub ends : (n m : ℕ) (c : ClaimCase) → AreSized n m worlds
      → filter is_alive (flat_map (spread_of rest n) (map (world_of c) now)) ≡ filter is_alive (flat_map (spread_of body n) (map (world_of c) worlds))
  pub unfit : (n m : ℕ) (c : ClaimCase) → AreSized n m worlds
      → MeetsUnfit n (flat_map (meets_of n rest) (map (world_of c) now)) → MeetsUnfit n (flat_map (meets_of n body) (map (world_of c) worlds))

pub contains_flat : {A B : Type 0} (f : A → List B) (xs : List A) (y : B) → Contains (flat_map f xs) y → (x : A) × Contains xs x × Contains (f x) y
contains_flat f [] y h = absurd (omega (arith, h.1))
contains_flat f (x ∷ xs) y h = ⊎_elim
    (λ g. (x, (0, omega arith, refl), g))
    (λ g. let r = contains_flat f xs y g in (r.0, Contains-append_right (x ∷ []) xs r.0 r.1, r.2))
    (Contains-append_cases (f x) (flat_map f xs) y h)

pub flat_contains : {A B : Type 0} (f : A → List B) (xs : List A) (x : A) (y : B) → Contains xs x → Contains (f x) y → Contains (flat_map f xs) y
flat_contains f [] x y c d = absurd (omega (arith, c.1))
flat_contains f (z ∷ xs) x y c d = by_place c.0 c.1 c.2 (λ g. flat_contains f xs x y g d)
  where
    by_place : (k : ℕ) → k < length (z ∷ xs) → get_or (z ∷ xs) k x ≡ x → (Contains xs x → Contains (flat_map f xs) y) → Contains (flat_map f (z ∷ xs)) y
    by_place zero h e next = Contains-append_left (f z) (flat_map f xs) y (subst (λ w. Contains (f w) y) (sym e) d)
    by_place (suc k) h e next = Contains-append_right (f z) (flat_map f xs) y (next (k, omega (arith, h), e))

flat_filter : {A B : Type 0} (f : A → List B) (t : A → Bool) (xs : List A) (y : B) → Contains (flat_map f (filter t xs)) y → Contains (flat_map f xs) y
flat_filter f t [] y h = h
flat_filter f t (x ∷ xs) y h = by_test (t x) (flat_filter f t xs y) h
  where
    by_test : (b : Bool) → (Contains (flat_map f (filter t xs)) y → Contains (flat_map f xs) y) → Contains (flat_map f (cond b (x ∷ filter t xs) (filter t xs))) y → Contains (flat_map f (x ∷ xs)) y
    by_test true rest h = ⊎_elim (λ g. Contains-append_left (f x) (flat_map f xs) y g) (λ g. Contains-append_right (f x) (flat_map f xs) y (rest g)) (Contains-append_cases (f x) (flat_map f (filter t xs)) y h)
    by_test false rest h = Contains-append_right (f x) (flat_map f xs) y (rest h)

-- what is met behind a statement is met from before it
met_behind : (n : ℕ) (x : Stmt) (rest : List Stmt) (ws : List World) (e : Met) → Contains (flat_map (meets_of n rest) (flat_map (spread n x) ws)) e → Contains (flat_map (meets_of n (x ∷ rest)) ws) e
met_behind n x rest ws e h =
    let a = contains_flat (meets_of n rest) (flat_map (spread n x) ws) e h in
    let b = contains_flat (spread n x) ws a.0 a.1 in
    flat_contains (meets_of n (x ∷ rest)) ws b.0 e b.1
    (Contains-append_right (meets n x b.0) (flat_map (meets_of n rest) (spread n x b.0)) e (flat_contains (meets_of n rest) (spread n x b.0) a.0 e b.2 a.2))

-- what the statement meets is met
met_here : (n : ℕ) (x : Stmt) (rest : List Stmt) (ws : List World) (e : Met) → Contains (flat_map (meets n x) ws) e → Contains (flat_map (meets_of n (x ∷ rest)) ws) e
met_here n x rest ws e h =
    let b = contains_flat (meets n x) ws e h in
    flat_contains (meets_of n (x ∷ rest)) ws b.0 e b.1 (Contains-append_left (meets n x b.0) (flat_map (meets_of n rest) (spread n x b.0)) e b.2)

abbrev after : ℕ → Stmt → List World → List World
after n x ws = filter is_alive (flat_map (spread n x) ws)

leads_past : (body : List Stmt) (worlds : List PlainWorld) (x : Stmt) (rest : List Stmt) (now next : List PlainWorld) → LeadsOn body worlds (x ∷ rest) now → Leaves (λ n. spread n x) now next → LeadsOn body worlds rest next
leads_past body worlds x rest now next on p = record {
  sized = λ n m s. (p n m no_case (on.sized n m s)).sized;
  ends = λ n m c s.
      let ws = map (world_of c) now in
      ap (λ (l : List World). filter is_alive (flat_map (spread_of rest n) l)) (p n m c (on.sized n m s)).worlds
      ∙ nought_worlds.dropped n rest (flat_map (spread n x) ws)
      ∙ ap (filter is_alive) (sym (nought_worlds.step (spread n x) (map (spread n) rest) ws))
      ∙ on.ends n m c s;
  unfit = λ n m c s u.
      let ws = map (world_of c) now in
      let e = u.met in
      let same : Contains (flat_map (meets_of n rest) (after n x ws)) e = subst (λ (l : List World). Contains (flat_map (meets_of n rest) l) e) (p n m c (on.sized n m s)).worlds u.is_met in
      on.unfit n m c s
      (record { met = e; is_met = met_behind n x rest ws e (flat_filter (meets_of n rest) is_alive (flat_map (spread n x) ws) e same); vector = u.vector; there = u.there; wide = u.wide });
}

cut_at : (i : ℕ) (body : List Stmt) (d : Stmt) → i < length body → drop i body ≡ get_or body i d ∷ drop (i + 1) body
cut_at i body d h = drop-cons body i d h ∙ ap (λ (k : ℕ). get_or body i d ∷ drop k body) (sym (add-one i))

cut_here : (i : ℕ) (body : List Stmt) (x : Stmt) → i < length body → x ≡ get_or body i x → drop i body ≡ x ∷ drop (i + 1) body
cut_here i body x h e = cut_at i body x h ∙ ap (λ (s : Stmt). s ∷ drop (i + 1) body) (sym e)

pub leads_next : (body : List Stmt) (worlds : List PlainWorld) (i : ℕ) (x : Stmt) (now next : List PlainWorld) → i < length body → x ≡ get_or body i x → LeadsOn body worlds (drop i body) now
    → Leaves (λ n. spread n x) now next → LeadsOn body worlds (drop (i + 1) body) next
leads_next body worlds i x now next h e on p = leads_past body worlds x (drop (i + 1) body) now next (subst (λ (l : List Stmt). LeadsOn body worlds l now) (cut_here i body x h e) on) p

pub leads_stop : (body : List Stmt) (worlds : List PlainWorld) (i : ℕ) (x : Stmt) (now : List PlainWorld) → i < length body → x ≡ get_or body i x → LeadsOn body worlds (drop i body) now
    → AreUnfit (λ n. meets n x) now → AreUnfit (λ n. meets_of n body) worlds
leads_stop body worlds i x now h e on p = λ n m c s.
    let here = subst (λ (l : List Stmt). LeadsOn body worlds l now) (cut_here i body x h e) on in
    let u : MeetsUnfit n (flat_map (meets n x) (map (world_of c) now)) = p n m c (on.sized n m s) in
    here.unfit n m c s
    (record { met = u.met; is_met = met_here n x (drop (i + 1) body) (map (world_of c) now) u.met u.is_met; vector = u.vector; there = u.there; wide = u.wide })

pub flat_itself : (ws : List World) → flat_map (in_worlds []) ws ≡ ws
flat_itself [] = refl
flat_itself (w ∷ ws) = ap (λ (l : List World). w ∷ l) (flat_itself ws)

pub leads_out : (body : List Stmt) (worlds now list : List PlainWorld) → LeadsOn body worlds [] now → list ≡ filter lives now → Leaves (spread_of body) worlds list
leads_out body worlds now list on e = λ n m c s.
    gives_same n m c list (filter lives now) (filter is_alive (map (world_of c) now)) _ e
    (ap (filter is_alive) (sym (flat_itself (map (world_of c) now))) ∙ on.ends n m c s)
    (gives_alive n m c now (map (world_of c) now) (record { worlds = refl; sized = on.sized n m s }))

-- ---- what a statement makes of a world

flat_one : {A : Type 0} (S : World → List A) (w : World) → flat_map S (w ∷ []) ≡ S w
flat_one S w = append-nil (S w)

-- a statement on one world
pub leaves_by : (x : Stmt) (w : PlainWorld) (list : List PlainWorld) (made : ℕ → ClaimCase → List World) → ((n : ℕ) (c : ClaimCase) → spread n x (world_of c w) ≡ made n c)
    → ((n m : ℕ) (c : ClaimCase) → IsSized n m w → Gives n m c list (filter is_alive (made n c))) → Leaves (λ n. spread n x) (w ∷ []) list
leaves_by x w list made is g = λ n m c s.
    gives_same n m c list list (filter is_alive (made n c)) _ refl (ap (filter is_alive) (sym (flat_one (spread n x) (world_of c w) ∙ is n c))) (g n m c (All-head (IsSized n m) w [] s))

spread_by : (n : ℕ) (x y : Stmt) (S : Spread) (w : World) → x ≡ y → spread n y ≡ S → spread n x w ≡ S w
spread_by n x y S w e f = ap (λ (z : Stmt). spread n z w) e ∙ ap (λ (s : Spread). s w) f

pub spread_gate : (n : ℕ) (x : Stmt) (g : Gate) (w : World) → x ≡ stmt.Gate g → spread n x w ≡ with_vectors (apply_gate n g) w ∷ []
spread_gate n x g w e = spread_by n x (stmt.Gate g) (spread_step n (Stmt-F.Gate g)) w e (fold-gate Spread (spread_step n) g)

pub spread_measure : (n : ℕ) (x : Stmt) (qubit : ℕ) (bit : Option ℕ) (w : World) → x ≡ stmt.Measure qubit bit → spread n x w ≡ measured_world n qubit bit false w ∷ measured_world n qubit bit true w ∷ []
spread_measure n x qubit bit w e = spread_by n x (stmt.Measure qubit bit) (spread_step n (Stmt-F.Measure qubit bit)) w e (fold-measure Spread (spread_step n) qubit bit)

pub spread_reset : (n : ℕ) (x : Stmt) (qubit : ℕ) (w : World) → x ≡ stmt.Reset qubit → spread n x w ≡ reset_world n qubit false w ∷ reset_world n qubit true w ∷ []
spread_reset n x qubit w e = spread_by n x (stmt.Reset qubit) (spread_step n (Stmt-F.Reset qubit)) w e (fold-reset Spread (spread_step n) qubit)

pub spread_assume : (n : ℕ) (x : Stmt) (g : Guard) (w : World) → x ≡ stmt.Assume g → spread n x w ≡ assumed_worlds g (slice_get w.bits g.bit) w
spread_assume n x g w e = spread_by n x (stmt.Assume g) (spread_step n (Stmt-F.Assume g)) w e (fold-assume Spread (spread_step n) g)

spread_if : (n : ℕ) (x : Stmt) (g : Guard) (a b : List Stmt) (w : World) → x ≡ stmt.If g a b → spread n x w ≡ flat_map (branch_of g a b n) (split g.bit w)
spread_if n x g a b w e = spread_by n x (stmt.If g a b) (λ z. flat_map (branch_of g a b n) (split g.bit z)) w e (fold-if Spread (spread_step n) g a b)

meets_by : (n : ℕ) (x y : Stmt) (M : Meets) (w : World) → x ≡ y → meets n y ≡ M → meets n x w ≡ M w
meets_by n x y M w e f = ap (λ (z : Stmt). meets n z w) e ∙ ap (λ (s : Meets). s w) f

pub meets_gate : (n : ℕ) (x : Stmt) (g : Gate) (w : World) → x ≡ stmt.Gate g → meets n x w ≡ record { gate = g; world = w } ∷ []
meets_gate n x g w e = meets_by n x (stmt.Gate g) (meets_step n (Stmt-F.Gate g)) w e (para-gate Meets (meets_step n) g)

meets_if : (n : ℕ) (x : Stmt) (g : Guard) (a b : List Stmt) (w : World) → x ≡ stmt.If g a b → meets n x w ≡ flat_map (branch_met g a b n) (split g.bit w)
meets_if n x g a b w e = meets_by n x (stmt.If g a b) (λ z. flat_map (branch_met g a b n) (split g.bit z)) w e (para-if Meets (meets_step n) g a b)

-- what was split, branched
pub branches_leave : (x : Stmt) (g : Guard) (a b : List Stmt) (w : PlainWorld) (halves list : List PlainWorld) → x ≡ stmt.If g a b
    → ((n m : ℕ) (c : ClaimCase) → IsSized n m w → Gives n m c halves (split g.bit (world_of c w))) → Leaves (branch_of g a b) halves list → Leaves (λ n. spread n x) (w ∷ []) list
branches_leave x g a b w halves list e made p =
    leaves_by x w list (λ n c. flat_map (branch_of g a b n) (split g.bit (world_of c w))) (λ n c. spread_if n x g a b (world_of c w) e)
    (λ n m c s. let h = made n m c s in subst (λ (l : List World). Gives n m c list (filter is_alive (flat_map (branch_of g a b n) l))) h.worlds (p n m c h.sized))

pub branches_unfit : (x : Stmt) (g : Guard) (a b : List Stmt) (w : PlainWorld) (halves : List PlainWorld) → x ≡ stmt.If g a b
    → ((n m : ℕ) (c : ClaimCase) → IsSized n m w → Gives n m c halves (split g.bit (world_of c w))) → AreUnfit (branch_met g a b) halves → AreUnfit (λ n. meets n x) (w ∷ [])
branches_unfit x g a b w halves e made p = λ n m c s.
    let h = made n m c (All-head (IsSized n m) w [] s) in
    let u : MeetsUnfit n (flat_map (branch_met g a b n) (map (world_of c) halves)) = p n m c h.sized in
    let same : flat_map (branch_met g a b n) (map (world_of c) halves) ≡ flat_map (meets n x) (world_of c w ∷ [])
    = ap (flat_map (branch_met g a b n)) h.worlds ∙ sym (meets_if n x g a b (world_of c w) e) ∙ sym (flat_one (meets n x) (world_of c w)) in
    subst (MeetsUnfit n) same u

-- the branch that is taken
pub taken_leaves : (g : Guard) (a b l : List Stmt) (w : PlainWorld) (list : List PlainWorld) (bit : Bool) → is_known g (slice_get w.bits g.bit) ≡ bit → l ≡ cond bit a b
    → Leaves (spread_of l) (w ∷ []) list → Leaves (branch_of g a b) (w ∷ []) list
taken_leaves g a b l w list bit is at p = λ n m c s.
    gives_same n m c list list (filter is_alive (flat_map (spread_of l n) (world_of c w ∷ []))) _ refl
    (ap (λ (z : List Stmt). filter is_alive (flat_map (spread_of z n) (world_of c w ∷ []))) at ∙ by_bit n c bit is) (p n m c s)
  where
    by_bit : (n : ℕ) (c : ClaimCase) (bit : Bool) → is_known g (slice_get w.bits g.bit) ≡ bit
        → filter is_alive (flat_map (spread_of (cond bit a b) n) (world_of c w ∷ [])) ≡ filter is_alive (flat_map (branch_of g a b n) (world_of c w ∷ []))
    by_bit n c true is = ap (λ t. filter is_alive (cond t (spread_of a n (world_of c w)) (spread_of b n (world_of c w)) ++ [])) (sym is)
    by_bit n c false is = ap (λ t. filter is_alive (cond t (spread_of a n (world_of c w)) (spread_of b n (world_of c w)) ++ [])) (sym is)

pub taken_unfit : (g : Guard) (a b l : List Stmt) (w : PlainWorld) (bit : Bool) → is_known g (slice_get w.bits g.bit) ≡ bit → l ≡ cond bit a b
    → AreUnfit (λ n. meets_of n l) (w ∷ []) → AreUnfit (branch_met g a b) (w ∷ [])
taken_unfit g a b l w bit is at p = λ n m c s. subst (MeetsUnfit n) (ap (λ (z : List Stmt). flat_map (meets_of n z) (world_of c w ∷ [])) at ∙ by_bit n c bit is) (p n m c s)
  where
    by_bit : (n : ℕ) (c : ClaimCase) (bit : Bool) → is_known g (slice_get w.bits g.bit) ≡ bit
        → flat_map (meets_of n (cond bit a b)) (world_of c w ∷ []) ≡ flat_map (branch_met g a b n) (world_of c w ∷ [])
    by_bit n c true is = ap (λ t. cond t (meets_of n a (world_of c w)) (meets_of n b (world_of c w)) ++ []) (sym is)
    by_bit n c false is = ap (λ t. cond t (meets_of n a (world_of c w)) (meets_of n b (world_of c w)) ++ []) (sym is)

-- ---- the parts of a statement

neither : (a b : Bool) → (a || b) ≡ false → (a ≡ false) × (b ≡ false)
neither true b e = cc
neither false b e = (refl, e)

branch_uncut : (s : Stmt) (g : Guard) (a b : List Stmt) → s ≡ stmt.If g a b → has_cut s ≡ false → (list_any has_cut a ≡ false) × (list_any has_cut b ≡ false)
branch_uncut s g a b e free = neither _ _ (sym (branch_cuts s g a b e) ∙ free)

pub yes_uncut : (s : Stmt) (g : Guard) (a b l : List Stmt) → s ≡ stmt.If g a b → l ≡ a → has_cut s ≡ false → list_any has_cut l ≡ false
yes_uncut s g a b l e f free = ap (λ (x : List Stmt). list_any has_cut x) f ∙ (branch_uncut s g a b e free).0

pub no_uncut : (s : Stmt) (g : Guard) (a b l : List Stmt) → s ≡ stmt.If g a b → l ≡ b → has_cut s ≡ false → list_any has_cut l ≡ false
no_uncut s g a b l e f free = ap (λ (x : List Stmt). list_any has_cut x) f ∙ (branch_uncut s g a b e free).1

none_at : (i : ℕ) (body : List Stmt) (d : Stmt) → i < length body → list_any has_cut body ≡ false → has_cut (get_or body i d) ≡ false
none_at i [] d h e = absurd (omega (arith, h))
none_at zero (s ∷ body) d h e = (neither (has_cut s) (list_any has_cut body) e).0
none_at (suc i) (s ∷ body) d h e = none_at i body d (omega (arith, h)) (neither (has_cut s) (list_any has_cut body) e).1

pub next_uncut : (i : ℕ) (body : List Stmt) (d x : Stmt) → i < length body → x ≡ get_or body i d → list_any has_cut body ≡ false → has_cut x ≡ false
next_uncut i body d x h e free = ap has_cut e ∙ none_at i body d h free

level_of : (n m k : ℕ) (x : Stmt-F Stmt) (s : Stmt) → s ≡ roll-Stmt x → IsValidStmt n m k s → IsValidLevel n m k x
level_of n m k x s e v =
    subst (IsValidLevel n m k) (out-roll-Stmt x) (every_here-Stmt (IsValidLevel n m k) (roll-Stmt x) (subst (IsValidStmt n m k) e v))

pub branch_bit : (n m : ℕ) (s : Stmt) (g : Guard) (a b : List Stmt) → s ≡ stmt.If g a b → IsPlayableStmt n m s → g.bit < m
branch_bit n m s g a b e p = level_of n m p.claims (Stmt-F.If g a b) s (e ∙ sym (stmt.rolls-If g a b)) p.valid

pub assume_bit : (n m : ℕ) (s : Stmt) (g : Guard) → s ≡ stmt.Assume g → IsPlayableStmt n m s → g.bit < m
assume_bit n m s g e p = level_of n m p.claims (Stmt-F.Assume g) s (e ∙ sym (stmt.rolls-Assume g)) p.valid

pub alone : (n m : ℕ) (w : PlainWorld) → AreSized n m (w ∷ []) → IsSized n m w
alone n m w s = All-head (IsSized n m) w [] s
