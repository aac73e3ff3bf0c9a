-- Macros over nodes become macros over places one by one.
use Rattle.std.proofs.Common.{◌≡◌, ℕ, zero, suc, ◌+◌, ◌<◌, ◌≤◌, inl, inr, List, [], ◌∷◌, ◌++◌, length, take, get_or, slice_get, None, Some, Contains, Result, Ok, Err, IfOk, Vec, refl, sym, ap, subst, ◌∙◌, arith}
use Rattle.std.specs.List.{AllZip}
use Rattle.std.specs.declared.alloc.Global.{Global}
use Rattle.std.proofs.lemmas.List.{take_more, get_or_default}
use Rattle.std.proofs.lemmas.List.Elements.{AllZip-push, all_zip_more}
use Rattle.std.proofs.lemmas.Bool.{cases_lt}
use Rattle.std.proofs.lemmas.Option.{slice_get-get_or, slice_get_within}
use Rattle.aq_store.specs.declared.node.Node.{Node}
use Rattle.aq_store.specs.declared.lsta.Lsta.{Lsta}
use Rattle.aq_store.specs.Levels.{levels_of, lists_of}
use Rattle.aq_store.proofs.TableLemmas.{slice_get-push, slice_get-some}
use Rattle.aq_cert.specs.declared.cert.Rel.{Rel}
use Rattle.aq_cert.specs.declared.cert.Macro.{Macro}
use Rattle.aq_cert.specs.declared.index.Index.{Index}
use Rattle.aq_cert.specs.Rows.{item_of, item_at, list_of, row_at}
use Rattle.aq_cert.specs.Goals.{goal_levels}
use Rattle.aq_cert.specs.Valid.{left_level, goal_level}
use Rattle.aq_cert.specs.Placed.{IsAt, IsPairAt, IsIndexOf, IsPlacedRel, IsPlacedMacro, IsFound, IsPairFound, IsRelFound, IsMacroFound, HasPlace, HasMacroPlaces, StandsIn, StandsAt, lists_in, AreIndexes, ArePlaced, AreGoalLevels}

module _ {X : Type 0} (R : X → X → Type 0) where
  -- one item more
  pub placed-more : (xs ys new : List X) (i : ℕ) (d y : X) → i < length xs → AllZip R (take i xs) ys → R (get_or xs i d) y → new ≡ ys ++ y ∷ [] → AllZip R (take (i + 1) xs) new
  placed-more xs ys new i d y less h r e =
      subst (λ zs. AllZip R zs new) (sym (take_more xs i d less))
      (subst (λ zs. AllZip R (take i xs ++ get_or xs i d ∷ []) zs) (sym e) (AllZip-push R (take i xs) ys (get_or xs i d) y h r))

  pub placed-item : (xs ys new : List X) (i : ℕ) (x y : X) → i < length xs → x ≡ get_or xs i x → AllZip R (take i xs) ys → R x y → new ≡ ys ++ y ∷ [] → AllZip R (take (i + 1) xs) new
  placed-item xs ys new i x y less is h r e = subst (λ zs. AllZip R (take (i + 1) xs) zs) (sym e) (all_zip_more R xs ys i x y less is h r)

module _ {X : Type 0} (R S : X → X → Type 0) where
  pub all_zip-map : ((x y : X) → R x y → S x y) → (xs ys : List X) → AllZip R xs ys → AllZip S xs ys
  all_zip-map f [] [] h = tt
  all_zip-map f [] (y ∷ ys) h = absurd h
  all_zip-map f (x ∷ xs) [] h = absurd h
  all_zip-map f (x ∷ xs) (y ∷ ys) h = (f x y h.0, all_zip-map f xs ys h.1)

pub if_ok-map : {T E : Type 0} (P Q : T → Type 0) → ((x : T) → P x → Q x) → (r : Result T E) → IfOk r P → IfOk r Q
if_ok-map P Q f (Ok x) h = f x h
if_ok-map P Q f (Err e) h = h

-- an index of all of a level has each of its nodes
pub index-whole : (level : List ℕ) (index : Index) (n : ℕ) → length level ≤ n → ((k : ℕ) → k < n → HasPlace index (get_or level k 0)) → (node : ℕ) → Contains level node → HasPlace index node
index-whole level index n all f node h = subst (HasPlace index) (get_or_default level h.0 0 node h.1 ∙ h.2) (f h.0 (omega (arith, h.1)))

-- a list of levels at a level
lists-get : (vs : List (Vec ℕ Global)) (k : ℕ) (v : Vec ℕ Global) → slice_get vs k ≡ Some v → row_at (lists_of vs) k ≡ v.items
lists-get [] k v e = cc
lists-get (w ∷ vs) zero v e = let s : w ≡ v = cc in ap (λ (z : Vec ℕ Global). z.items) s
lists-get (w ∷ vs) (suc k) v e = lists-get vs k v e

pub index-at : (vs : List (Vec ℕ Global)) (k : ℕ) (v : Vec ℕ Global) (nodes : List ℕ) {E : Type 0} (r : Result Index E) → slice_get vs k ≡ Some v → nodes ≡ v.items
    → IfOk r (λ index. IsIndexOf nodes index) → IfOk r (λ index. IsIndexOf (row_at (lists_of vs) k) index)
index-at vs k v nodes r here is h = if_ok-map (λ index. IsIndexOf nodes index) (λ index. IsIndexOf (row_at (lists_of vs) k) index)
    (λ index i. subst (λ l. IsIndexOf l index) (is ∙ sym (lists-get vs k v here)) i) r h

no-list : (vs : List (Vec ℕ Global)) (k : ℕ) → slice_get vs k ≡ None → row_at (lists_of vs) k ≡ []
no-list [] k e = refl
no-list (w ∷ vs) zero e = cc
no-list (w ∷ vs) (suc k) e = no-list vs k e

pub index-absent : (vs : List (Vec ℕ Global)) (k : ℕ) (nodes : List ℕ) {E : Type 0} (r : Result Index E) → slice_get vs k ≡ None → nodes ≡ []
    → IfOk r (λ index. IsIndexOf nodes index) → IfOk r (λ index. IsIndexOf (row_at (lists_of vs) k) index)
index-absent vs k nodes r past is h = if_ok-map (λ index. IsIndexOf nodes index) (λ index. IsIndexOf (row_at (lists_of vs) k) index)
    (λ index i. subst (λ l. IsIndexOf l index) (is ∙ sym (no-list vs k past)) i) r h

-- one goal's index more
pub indexes-more : (all : List (Vec (Vec ℕ Global) Global)) (level : ℕ) (indexes new : List Index) (i : ℕ) (v : Vec (Vec ℕ Global) Global) (levels : List (Vec ℕ Global)) (index : Index)
    → i < length all → v ≡ get_or all i v → levels ≡ v.items → length indexes ≡ i → new ≡ indexes ++ index ∷ [] → IsIndexOf (row_at (lists_of levels) level) index
    → ((g : ℕ) (x : Index) → slice_get indexes g ≡ Some x → IsIndexOf (row_at (lists_in (slice_get all g)) level) x)
    → (g : ℕ) (x : Index) → slice_get new g ≡ Some x → IsIndexOf (row_at (lists_in (slice_get all g)) level) x
indexes-more all level indexes new i v levels index less is same count e one before g x here =
    elim (slice_get-push indexes index g x (subst (λ (l : List Index). slice_get l g ≡ Some x) e here)) [
      | inl old ↦ before g x old
      | inr now ↦
          let at : slice_get all g ≡ Some v = ap (slice_get all) (now.0 ∙ count) ∙ slice_get-get_or all i v less ∙ ap (λ (z : Vec (Vec ℕ Global) Global). Some z) (sym is) in
          subst (λ o. IsIndexOf (row_at (lists_in o) level) x) (sym at) (subst (λ z. IsIndexOf (row_at (lists_of v.items) level) z) now.1 (subst (λ l. IsIndexOf (row_at (lists_of l) level) index) same one))
    ]

module _ (left : Index) (goals : List Index) (nodes : List ℕ) (all : List (Vec (Vec ℕ Global) Global)) (level : ℕ) (l : IsIndexOf nodes left) (a : AreIndexes all level goals) where
  rights : ℕ → List ℕ
  rights g = row_at (lists_in (slice_get all g)) level

  rel-placed : (r s : Rel) → IsRelFound left goals r s → IsPlacedRel (length all) nodes (λ g. row_at (lists_in (slice_get all g)) level) r s
  rel-placed r s h = record {
    same_goal = h.same_goal;
    there = omega (arith, slice_get_within goals s.goal h.right h.listed, a.count);
    pairs = all_zip-map (IsPairFound left h.right) (IsPairAt nodes (row_at (lists_in (slice_get all s.goal)) level))
        (λ p q f. (l.found p.0 q.0 f.0, (a.each s.goal h.right h.listed).found p.1 q.1 f.1)) r.pairs s.pairs h.pairs;
  }

  pub macro-placed : (m n : Macro) → IsMacroFound left goals m n → IsPlacedMacro (length all) nodes (λ g. row_at (lists_in (slice_get all g)) level) m n
  macro-placed m n h = record {
    domain = all_zip-map (IsFound left) (IsAt nodes) (λ x y f. l.found x y f) m.domain n.domain h.domain;
    rels = all_zip-map (IsRelFound left goals) (IsPlacedRel (length all) nodes (λ g. row_at (lists_in (slice_get all g)) level)) rel-placed m.rels n.rels h.rels;
  }

  -- where a macro's nodes stand in the levels, the indexes have places for them
  pub places-there : (m : Macro) → StandsIn (length all) nodes (λ g. row_at (lists_in (slice_get all g)) level) m → HasMacroPlaces left goals m
  places-there m h = record {
    domain = λ x listed. l.complete x (h.domain x listed);
    rels = λ k rel here.
        let r = slice_get-some goals rel.goal (omega (arith, h.there k rel here, a.count)) in
        record {
          right = r.0;
          listed = r.1;
          pairs = λ p listed. (l.complete p.0 (h.pairs k rel p here listed).0, (a.each rel.goal r.0 r.1).complete p.1 (h.pairs k rel p here listed).1);
        };
  }

-- the indexes that a row was written with
pub row-placed : (left : Index) (given goals : List Index) (nodes : List ℕ) (all : List (Vec (Vec ℕ Global) Global)) (level : ℕ) (row : List Macro) {E : Type 0} (r : Result (List Macro) E) → IsIndexOf nodes left → AreIndexes all level goals
    → given ≡ goals → IfOk r (λ list. AllZip (IsMacroFound left given) row list)
    → IfOk r (λ list. AllZip (IsPlacedMacro (length all) nodes (λ g. row_at (lists_in (slice_get all g)) level)) row list)
row-placed left given goals nodes all level row r l a e h =
    if_ok-map (λ list. AllZip (IsMacroFound left given) row list) (λ list. AllZip (IsPlacedMacro (length all) nodes (λ g. row_at (lists_in (slice_get all g)) level)) row list)
    (λ list z. all_zip-map (IsMacroFound left goals) (IsPlacedMacro (length all) nodes (λ g. row_at (lists_in (slice_get all g)) level)) (macro-placed left goals nodes all level l a) row list
    (subst (λ i. AllZip (IsMacroFound left i) row list) e z)) r h

module _ {L : Type 0} (table : List (Node L)) (left : Lsta) (goals : List Lsta) where
  row-same : (rows : List (List Macro)) (k : ℕ) (row : List Macro) → slice_get rows k ≡ Some row → row_at rows k ≡ row
  row-same rows k row e = ap list_of e

  front : (rows : List (List Macro)) (row : List Macro) (k : ℕ) → k < length rows → slice_get (rows ++ row ∷ []) k ≡ slice_get rows k
  front [] row k less = absurd (omega arith)
  front (r ∷ rows) row zero less = refl
  front (r ∷ rows) row (suc k) less = front rows row k (omega arith)

  back : (rows : List (List Macro)) (row : List Macro) → slice_get (rows ++ row ∷ []) (length rows) ≡ Some row
  back [] row = refl
  back (r ∷ rows) row = back rows row

  abbrev IsPlacedAt : ℕ → List Macro → List Macro → Type 0
  IsPlacedAt k = AllZip (IsPlacedMacro (length goals) (left_level table left goals k) (λ g. goal_level table left goals g k))

  -- one level more
  pub rows-more : (macros rows new : List (List Macro)) (level : ℕ) (row placed given : List Macro) (lefts : List (Vec ℕ Global)) (all : List (Vec (Vec ℕ Global) Global)) → level < length macros
      → slice_get macros level ≡ Some row → given ≡ row → length rows ≡ level → new ≡ rows ++ placed ∷ [] → lists_of lefts ≡ levels_of table left → AreGoalLevels table goals all
      → AllZip (IsPlacedMacro (length all) (row_at (lists_of lefts) level) (λ g. row_at (lists_in (slice_get all g)) level)) given placed
      → ((k : ℕ) → k < level → IsPlacedAt k (row_at macros k) (row_at rows k))
      → (k : ℕ) → k < level + 1 → IsPlacedAt k (row_at macros k) (row_at new k)
  rows-more macros rows new level row placed given lefts all inside here same count e l a one before k less = elim (cases_lt k level) [
    | inl early ↦
        subst (λ (z : List Macro). IsPlacedAt k (row_at macros k) z) (sym (ap (λ (z : List (List Macro)). row_at z k) e ∙ ap list_of (front rows placed k (omega (arith, count))))) (before k early)
    | inr late ↦
        (let at : level ≡ k = omega arith in
        let last : row_at new level ≡ placed = ap (λ (z : List (List Macro)). row_at z level) e ∙ ap (λ n. row_at (rows ++ placed ∷ []) n) (sym count) ∙ ap list_of (back rows placed) in
        let first : row_at macros level ≡ given = ap list_of here ∙ sym same in
        subst (λ n. IsPlacedAt n (row_at macros n) (row_at new n)) at
        (subst (λ (z : List Macro). IsPlacedAt level z (row_at new level)) (sym first) (subst (λ (z : List Macro). IsPlacedAt level given z) (sym last) (moved level given placed one))))
  ]
    where
      moved : (level : ℕ) (xs ys : List Macro) → AllZip (IsPlacedMacro (length all) (row_at (lists_of lefts) level) (λ g. row_at (lists_in (slice_get all g)) level)) xs ys → IsPlacedAt level xs ys
      moved level xs ys h =
          all_zip-map (IsPlacedMacro (length all) (row_at (lists_of lefts) level) (λ g. row_at (lists_in (slice_get all g)) level))
          (IsPlacedMacro (length goals) (left_level table left goals level) (λ g. goal_level table left goals g level))
          (λ m n p. record {
            domain = subst (λ z. AllZip (IsAt (row_at z level)) m.domain n.domain) l p.domain;
            rels = all_zip-map (IsPlacedRel (length all) (row_at (lists_of lefts) level) (λ g. row_at (lists_in (slice_get all g)) level))
                (IsPlacedRel (length goals) (left_level table left goals level) (λ g. goal_level table left goals g level))
                (λ r s q. record {
                  same_goal = q.same_goal;
                  there = subst (λ z. s.goal < z) a.count q.there;
                  pairs = subst (λ z. AllZip (IsPairAt z (row_at (goal_levels table goals s.goal) level)) r.pairs s.pairs) (ap (λ z. row_at z level) l)
                      (subst (λ z. AllZip (IsPairAt (row_at (lists_of lefts) level) (row_at z level)) r.pairs s.pairs) (a.each s.goal) q.pairs);
                }) m.rels n.rels p.rels;
          }) xs ys h

  -- the levels that were written down
  pub stands-moved : (lefts : List (Vec ℕ Global)) (all : List (Vec (Vec ℕ Global) Global)) (level : ℕ) (m : Macro) → lists_of lefts ≡ levels_of table left → AreGoalLevels table goals all
      → StandsAt table left goals level m → StandsIn (length all) (row_at (lists_of lefts) level) (λ g. row_at (lists_in (slice_get all g)) level) m
  stands-moved lefts all level m l a h = record {
    domain = λ x listed. subst (λ z. Contains (row_at z level) x) (sym l) (h.domain x listed);
    there = λ k rel here. subst (λ z. rel.goal < z) (sym a.count) (h.there k rel here);
    pairs = λ k rel p here listed.
        let s = h.pairs k rel p here listed in
        (subst (λ z. Contains (row_at z level) p.0) (sym l) s.0, subst (λ z. Contains (row_at z level) p.1) (sym (a.each rel.goal)) s.1);
  }

  pub at-row : (rows : List (List Macro)) (level i : ℕ) (row given : List Macro) (m : Macro) → slice_get rows level ≡ Some row → given ≡ row → slice_get given i ≡ Some m → item_at rows level i ≡ Some m
  at-row rows level i row given m here same at = ap (λ o. item_of o i) here ∙ subst (λ (l : List Macro). slice_get l i ≡ Some m) same at

  pub placed-all : (macros rows : List (List Macro)) (n : ℕ) → length macros ≤ n → n ≤ length macros → length rows ≡ n → ((k : ℕ) → k < n → IsPlacedAt k (row_at macros k) (row_at rows k))
      → ArePlaced table left goals macros rows
  placed-all macros rows n a b count f = record { levels = omega (arith, count); each = λ k less. f k (omega arith) }
