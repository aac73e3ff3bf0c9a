-- Places with more choices, and memos of them.
use Rattle.std.proofs.Common.{◌≡◌, ℕ, inl, inr, zero, suc, ◌+◌, ◌-◌, ◌*◌, ◌<◌, ◌≤◌, ◌⊎◌, Bool, true, false, cond, nat_eq, List, [], ◌∷◌, ◌++◌, length}
use Rattle.std.proofs.Common.{take, drop, get_or, min, slice_get, Option, None, Some, refl, sym, ap, ap₂, subst, ◌∙◌, arith}
use Rattle.std.specs.List.{AllZip}
use Rattle.std.proofs.Math.Seq.{drop-cons}
use Rattle.std.proofs.Math.Nat.{min-eq_left}
use Rattle.std.proofs.Math.ListN.{drop_of_length-le}
use Rattle.std.proofs.lemmas.List.{length-append, length-drop, append_assoc}
use Rattle.std.proofs.lemmas.List.Elements.{length_all_zip, AllZip-get_or}
use Rattle.std.proofs.lemmas.Bool.{eqb-true, eq-eqb}
use Rattle.std.proofs.lemmas.Option.{slice_get_within}
use Rattle.aq_store.specs.declared.node.Node.{Node}
use Rattle.aq_store.specs.declared.node.Node.TheVariants.{Leaf, Inner}
use Rattle.aq_store.specs.Runs.{Run, copies, compress, run_of}
use Rattle.aq_store.specs.Nodes.{EachPair, HasShape, Extends, tree, pairs_at, runs_at}
use Rattle.aq_store.specs.Means.{Means, MeansPair, MeanPairs, under}
use Rattle.aq_store.specs.Words.{IsWord, IsWider, shortened}
use Rattle.aq_store.proofs.TableLemmas.{HasShape-Extends, Extends-refl}
use Rattle.aq_store.proofs.RunLemmas.{before, run_choice, run_next, run_within, before-end, before-start, length-copies}
use Rattle.aq_store.proofs.ShapeLemmas.{one_shape, tree-Extends-shape}
use Rattle.aq_store.proofs.MeansLemmas.{Means-Extends, Means-same, MeansPair-Extends, MeansPair-same, MeanPairs-copies, means_node, tree-choice, opened, pairs_at-kept}
use Rattle.aq_measure_ops.specs.Padding.{Padded, PaddedPair, Appends, IsPadMemo}

-- ---- shapes and words
pub wider_refl : (shape : List ℕ) → IsWider shape shape
wider_refl [] = tt
wider_refl (n ∷ shape) = (omega arith, wider_refl shape)

pub wider-drop : (d : ℕ) (shape wide : List ℕ) → IsWider shape wide → IsWider (drop d shape) (drop d wide)
wider-drop zero shape wide w = w
wider-drop (suc d) [] [] w = tt
wider-drop (suc d) [] (n ∷ wide) w = absurd w
wider-drop (suc d) (m ∷ shape) [] w = absurd w
wider-drop (suc d) (m ∷ shape) (n ∷ wide) w = wider-drop d shape wide w.1

pub wider-length : (shape wide : List ℕ) → IsWider shape wide → length shape ≡ length wide
wider-length [] [] w = refl
wider-length [] (n ∷ wide) w = absurd w
wider-length (m ∷ shape) [] w = absurd w
wider-length (m ∷ shape) (n ∷ wide) w = ap suc (wider-length shape wide w.1)

pub wider-at : (shape wide : List ℕ) (d : ℕ) → IsWider shape wide → get_or shape d 0 ≤ get_or wide d 0
wider-at [] [] d w = omega arith
wider-at [] (n ∷ wide) d w = absurd w
wider-at (m ∷ shape) [] d w = absurd w
wider-at (m ∷ shape) (n ∷ wide) zero w = w.0
wider-at (m ∷ shape) (n ∷ wide) (suc d) w = wider-at shape wide d w.1

-- a word of the shape is as it was
pub shortened-word : (shape word : List ℕ) → IsWord shape word → shortened shape word ≡ word
shortened-word [] word w = refl
shortened-word (n ∷ shape) [] w = absurd w
shortened-word (n ∷ shape) (c ∷ word) w = ap₂ (λ k u. k ∷ u) (min-eq_left {n = c} {m = n - 1} (let lt : c < n = w.0 in omega arith)) (shortened-word shape word w.1)

-- more choices, where there are some
pub wider-some : (shape wide : List ℕ) → IsWider shape wide → ((k : ℕ) → k < length shape → 0 < get_or shape k 0) → (k : ℕ) → k < length wide → 0 < get_or wide k 0
wider-some shape wide w some k lt = omega (arith, some k (omega (arith, wider-length shape wide w)), wider-at shape wide k w)

pub lengthened_most : (n count more : ℕ) (b : Bool) → n ≡ cond b (count + more) count → n ≤ count + more
lengthened_most n count more true e = omega arith
lengthened_most n count more false e = omega arith

-- the numbers from a depth on, told by the length of what is there
pub from_end : (d : ℕ) (from to : List ℕ) → length from ≡ length to → d ≤ length from → drop d to ≡ drop (length to - length (drop d from)) to
from_end d from to same le = ap (λ k. drop k to) (let l = length-drop d from in let e : d ≡ length to - length (drop d from) = omega arith in e)

runs_some : (ps : List (ℕ × ℕ)) → 0 < length ps → 0 < length (compress ps)
runs_some ps some = by (compress ps) refl
  where
    by : (rs : List Run) → compress ps ≡ rs → 0 < length (compress ps)
    by [] e = let a = before-end ps 0 (let l = ap length e in omega arith) in let b = before-start ps in absurd (omega arith)
    by (r ∷ rs) e = let l = ap length e in omega arith

module _ {L : Type 0} where
  -- ---- meanings stay when the table grows
  pub padded-Extended : (old new : List (Node L)) → Extends old new → (from to : List ℕ) (i : ℕ) → HasShape old from i → (word : List ℕ) (v : List L)
      → Padded old from to i word v → Padded new from to i word v
  padded-Extended old new x from to i s word v h w = h w ∙ sym (tree-Extends-shape old new x from i s (shortened from word))

  pub padded-Extends : (old new : List (Node L)) → Extends old new → (from to : List ℕ) (i : ℕ) → HasShape old from i → (word : List ℕ) (v : List L)
      → Padded new from to i word v → Padded old from to i word v
  padded-Extends old new x from to i s word v h w = h w ∙ tree-Extends-shape old new x from i s (shortened from word)

  pub padded_pair-Extends : (old new : List (Node L)) → Extends old new → (from to : List ℕ) (p : ℕ × ℕ) → HasShape old from p.0 → HasShape old from p.1
      → (word : List ℕ) (v : List L) → PaddedPair new from to p word v → PaddedPair old from to p word v
  padded_pair-Extends old new x from to p s t word v h w = h w ∙ ap₂ (λ l r. l ++ r) (tree-Extends-shape old new x from p.0 s (shortened from word))
      (tree-Extends-shape old new x from p.1 t (shortened from word))

  -- a place whose numbers stay
  pub padded_same : (table : List (Node L)) (from to : List ℕ) (i : ℕ) → from ≡ to → HasShape table from i → Means (Padded table from to i) table to i
  padded_same table from to i e s =
      subst (λ u. Means (Padded table from u i) table u i) e
      (record { shaped = s; words = λ word w. ap (λ u. tree table u i) (sym (shortened-word from word w)) })

  -- both sides of a pair
  pub padded_both : (start middle new : List (Node L)) → Extends start middle → Extends middle new → (from to : List ℕ) (p q : ℕ × ℕ) → HasShape start from p.1
      → Means (Padded start from to p.0) middle to q.0 → Means (Padded middle from to p.1) new to q.1 → MeansPair (PaddedPair start from to p) new to q
  padded_both start middle new x y from to p q right m n =
      let first = Means-Extends (Padded start from to p.0) middle new y to q.0 m in
      let second = Means-same (Padded middle from to p.1) (Padded start from to p.1) new to q.1 (padded-Extends start middle x from to p.1 right) n in
      record { left = first.shaped; right = second.shaped; words = λ word w. ap₂ (λ l r. l ++ r) (first.words word w) (second.words word w) }

  -- the root's meaning, by a copy of the shape
  pub padded_root : (old new : List (Node L)) (copy shape wide : List ℕ) (i j : ℕ) → copy ≡ shape → Means (Padded old copy wide i) new wide j → (word : List ℕ)
      → IsWord wide word → tree new word j ≡ tree old (shortened shape word) i
  padded_root old new copy shape wide i j is m word w = m.words word w ∙ ap (λ u. tree old (shortened u word) i) is

  -- ---- the pairs of a place, run by run
  pub record IsMade (R : List ℕ → List L → Type 0) (table : List (Node L)) (below : List ℕ) (runs : List Run) (number more index : ℕ) (old now : List (ℕ × ℕ)) : Type 0 where
    pub added : List (ℕ × ℕ)
    pub is : now ≡ old ++ added
    pub open_at : index < length runs → length added ≡ before runs index
    pub full : length runs ≤ index → length added ≡ number + more
    pub mean : MeanPairs R table below added

  pub made_none : (R : List ℕ → List L → Type 0) (table start : List (Node L)) (below : List ℕ) (id number more : ℕ) (old : List (ℕ × ℕ)) → 0 < length (pairs_at start id)
      → IsMade R table below (runs_at start id) number more 0 old old
  made_none R table start below id number more old some = record {
    added = [];
    is = sym (none old);
    open_at = λ lt. sym (before-start (pairs_at start id));
    full = λ le. absurd (let h = runs_some (pairs_at start id) some in omega arith);
    mean = record { each = λ c q at. (let z = at in cc) };
  }
    where
      none : (l : List (ℕ × ℕ)) → l ++ [] ≡ l
      none [] = refl
      none (p ∷ l) = ap (λ u. p ∷ u) (none l)

  pub made_step : (start old new : List (Node L)) → Extends start old → Extends old new → (above below wide : List ℕ) (number all more id index count n : ℕ) (p q : ℕ × ℕ)
      (before_all pairs next : List (ℕ × ℕ))
      → above ≡ number ∷ below → HasShape start above id → slice_get (runs_at old id) index ≡ Some (run_of p count) → 0 < count
      → n ≡ cond (nat_eq (index + 1) (length (runs_at start id))) (count + more) count
      → IsMade (Padded start above (all ∷ wide) id) old wide (runs_at start id) number more index before_all pairs → MeansPair (PaddedPair old below wide p) new wide q
      → next ≡ pairs ++ copies n q
      → IsMade (Padded start above (all ∷ wide) id) new wide (runs_at start id) number more (index + 1) before_all next
  made_step start old new x y above below wide number all more id index count n p q before_all pairs next split s run some times m image is =
      by (nat_eq (index + 1) (length runs)) refl
    where
      runs : List Run
      runs = runs_at start id

      o : (slice_get start id ≡ Some (Inner (pairs_at start id))) × (length (pairs_at start id) ≡ number) × (0 < number) × EachPair (HasShape start below) (pairs_at start id)
      o = opened start number below id (subst (λ u. HasShape start u id) split s)

      here : slice_get runs index ≡ Some (run_of p count)
      here = ap (λ ps. slice_get (compress ps) index) (sym (pairs_at-kept start old x above id s)) ∙ run

      in_runs : index < length runs
      in_runs = slice_get_within runs index (run_of p count) here

      ends : before runs (index + 1) ≡ before runs index + count
      ends = run_next (pairs_at start id) index count p here

      fits : before runs index + count ≤ number
      fits = let h = run_within (pairs_at start id) index count p here in let l = o.1 in omega arith

      long : length m.added ≡ before runs index
      long = m.open_at in_runs

      under_choice : (c : ℕ) → before runs index ≤ min c (number - 1) → min c (number - 1) < before runs index + count → MeansPair (under (Padded start above (all ∷ wide) id) c) new wide q
      under_choice c le lt =
          let at = run_choice (pairs_at start id) index count (min c (number - 1)) p here le lt in
          MeansPair-same (PaddedPair old below wide p) (under (Padded start above (all ∷ wide) id) c) new wide q
          (λ word v h w.
          padded_pair-Extends start old x below wide p (o.3.left (min c (number - 1)) p at) (o.3.right (min c (number - 1)) p at) word v h w.1
          ∙ sym (tree-choice start id (min c (number - 1)) (shortened below word) p at)
          ∙ ap (λ u. tree start (shortened u (c ∷ word)) id) (sym split))
          image

      grown : next ≡ before_all ++ (m.added ++ copies n q)
      grown = is ∙ ap (λ l. l ++ copies n q) m.is ∙ append_assoc before_all m.added (copies n q)

      size : length (m.added ++ copies n q) ≡ before runs index + n
      size = length-append m.added (copies n q) ∙ ap₂ (λ a b. a + b) long (length-copies n q)

      by : (b : Bool) → nat_eq (index + 1) (length runs) ≡ b → IsMade (Padded start above (all ∷ wide) id) new wide runs number more (index + 1) before_all next
      by true e =
          let last : index + 1 ≡ length runs = eqb-true (index + 1) (length runs) e in
          let longer : n ≡ count + more = times ∙ ap (λ b. cond b (count + more) count) e in
          let stop : before runs (index + 1) ≡ length (pairs_at start id) = before-end (pairs_at start id) (index + 1) (omega arith) in
          let all_of = o.1 in
          record {
            added = m.added ++ copies n q;
            is = grown;
            open_at = λ lt. absurd (omega arith);
            full = λ le. omega (arith, size, ends);
            mean = MeanPairs-copies (Padded start above (all ∷ wide) id) old new y wide m.added (m.added ++ copies n q) n q refl m.mean
                (λ c le lt. under_choice c (omega (arith, long, ends, some, o.2)) (omega (arith, ends, some, o.2)));
          }
      by false e =
          let other : index + 1 ≡ length runs → ⊥ = λ f. (let t = sym (eq-eqb (index + 1) (length runs) f) ∙ e in cc) in
          let same : n ≡ count = times ∙ ap (λ b. cond b (count + more) count) e in
          record {
            added = m.added ++ copies n q;
            is = grown;
            open_at = λ lt. omega (arith, size, ends);
            full = λ le. absurd (other (omega (arith, in_runs)));
            mean = MeanPairs-copies (Padded start above (all ∷ wide) id) old new y wide m.added (m.added ++ copies n q) n q refl m.mean
                (λ c le lt. under_choice c (omega (arith, long, some, fits)) (omega (arith, long, fits, same)));
          }

  pub made_all : (R : List ℕ → List L → Type 0) (table : List (Node L)) (below : List ℕ) (runs : List Run) (number more index : ℕ) (old now : List (ℕ × ℕ)) → length runs ≤ index
      → IsMade R table below runs number more index old now → Appends R table below (number + more) old now
  made_all R table below runs number more index old now le m = record { added = m.added; is = m.is; long = m.full le; mean = m.mean }

  -- the node of the pairs
  pub padded_node : (start last new : List (Node L)) → Extends last new → (from to below : List ℕ) (number count id j : ℕ) (qs : List (ℕ × ℕ)) → to ≡ number ∷ below → count ≡ number → 0 < number
      → Appends (Padded start from (count ∷ below) id) last below count [] qs → slice_get new j ≡ Some (Inner qs) → Means (Padded start from to id) new to j
  padded_node start last new x from to below number count id j qs split is some a made =
      subst (λ u. Means (Padded start from u id) new u j) (sym split)
      (subst (λ k. Means (Padded start from (k ∷ below) id) new (k ∷ below) j) is
      (means_node (Padded start from (count ∷ below) id) new below count j qs made (ap length a.is ∙ a.long) (subst (λ k. 0 < k) (sym is) some)
      (record { each = λ c q at. MeansPair-Extends (under (Padded start from (count ∷ below) id) c) last new x below q (a.mean.each c q (ap (λ l. slice_get l c) (sym a.is) ∙ at)) })
      (λ w. absurd w)
      (λ c word le w. absurd (let lt : c < count = w.0 in omega arith))))

  -- ---- the memo
  pub IsPadMemo-Extends : (old new : List (Node L)) → Extends old new → (to : List ℕ) (at : ℕ → Option ℕ) → IsPadMemo old to at → IsPadMemo new to at
  IsPadMemo-Extends old new x to at m = record {
    each = λ i j e.
        (let r = m.each i j e in
        let below = drop (length to - length r.0) to in (
          r.0,
          HasShape-Extends old new x r.0 i r.1,
          Means-same (Padded old r.0 below i) (Padded new r.0 below i) new below j (padded-Extended old new x r.0 below i r.1)
              (Means-Extends (Padded old r.0 below i) old new x below j r.2),
        ));
  }

  pub IsPadMemo-none : (table : List (Node L)) (to : List ℕ) (at : ℕ → Option ℕ) → ((q : ℕ) → at q ≡ None) → IsPadMemo table to at
  IsPadMemo-none table to at none = record { each = λ i j e. (let z = sym (none i) ∙ e in cc) }

  -- what the memo has for a place of a depth
  pub padded_found : (table : List (Node L)) (to : List ℕ) (at : ℕ → Option ℕ) (from : List ℕ) (d i j : ℕ) → IsPadMemo table to at → length from ≡ length to → d ≤ length from
      → HasShape table (drop d from) i → at i ≡ Some j
      → Means (Padded table (drop d from) (drop d to) i) table (drop d to) j
  padded_found table to at from d i j m same le s e =
      let r = m.each i j e in
      let k = one_shape table r.0 (drop d from) i r.1 s in
      subst (λ u. Means (Padded table (drop d from) u i) table u j) (sym (from_end d from to same le))
      (subst (λ u. Means (Padded table u (drop (length to - length u) to) i) table (drop (length to - length u) to) j) k r.2)

  pub IsPadMemo-put : (old table : List (Node L)) → Extends old table → (to : List ℕ) (at new : ℕ → Option ℕ) (from : List ℕ) (d i j : ℕ) → length from ≡ length to
      → d ≤ length from → HasShape old (drop d from) i → IsPadMemo table to at
      → Means (Padded old (drop d from) (drop d to) i) table (drop d to) j → ((q : ℕ) → new q ≡ cond (nat_eq i q) (Some j) (at q)) → IsPadMemo table to new
  IsPadMemo-put old table x to at new from d i j same le s m image is = record { each = λ k l e. by k l (nat_eq i k) refl (sym (is k) ∙ e) }
    where
      here : Means (Padded table (drop d from) (drop (length to - length (drop d from)) to) i) table (drop (length to - length (drop d from)) to) j
      here =
          subst (λ u. Means (Padded table (drop d from) u i) table u j) (from_end d from to same le)
          (Means-same (Padded old (drop d from) (drop d to) i) (Padded table (drop d from) (drop d to) i) table (drop d to) j (padded-Extended old table x (drop d from) (drop d to) i s) image)

      by : (k l : ℕ) (v : Bool) → nat_eq i k ≡ v → cond (nat_eq i k) (Some j) (at k) ≡ Some l
          → (shape : List ℕ) × HasShape table shape k × Means (Padded table shape (drop (length to - length shape) to) k) table (drop (length to - length shape) to) l
      by k l true e f =
          let own : i ≡ k = eqb-true i k e in
          let value : Some j ≡ Some l = ap (λ c. cond c (Some j) (at k)) (sym e) ∙ f in
          let made : j ≡ l = cc in
          let to_end = drop (length to - length (drop d from)) to in (
            drop d from,
            subst (HasShape table (drop d from)) own (HasShape-Extends old table x (drop d from) i s),
            subst (λ y. Means (Padded table
                (drop d from) to_end k) table to_end y) made (subst (λ y. Means (Padded table (drop d from) to_end y) table to_end j) own here),
          )
      by k l false e f = m.each k l (ap (λ c. cond c (Some j) (at k)) (sym e) ∙ f)
