-- Automata of the parts of a union, and their union.
use Rattle.std.proofs.Common.{◌≡◌, ℕ, inl, inr, zero, suc, ◌+◌, ◌-◌, ◌<◌, ◌≤◌, ◌⊎◌, cond, ltb, List, [], ◌∷◌, ◌++◌, length, map, take, min, max, slice_get, Some, All, refl, sym, ap, ap₂, subst, ◌∙◌, arith}
use Rattle.std.specs.List.{fold}
use Rattle.std.proofs.lemmas.Bool.{cases_lt}
use Rattle.std.proofs.lemmas.List.{append-nil}
use Rattle.std.proofs.lemmas.List.Elements.{All-nil}
use Rattle.std.proofs.lemmas.List.Sums.{sum_by-cons}
use Rattle.std.proofs.lemmas.Option.{slice_get_within}
use Rattle.aq_ring.specs.Fractions.{Amplitude}
use Rattle.aq_store.specs.declared.lsta.Lsta.{Lsta}
use Rattle.aq_store.specs.Nodes.{Extends, vector_of}
use Rattle.aq_store.specs.Words as store
use Rattle.aq_store.specs.Words.{IsWord}
use Rattle.aq_store.proofs.RunLemmas.{slice_get-append_left, slice_get-append_right}
use Rattle.aq_measure_ops.specs.Joining as joining
use Rattle.aq_measure_ops.specs.Joining.{shape_of, first_choices, choices_before, HasPart, AreUnited, HaveLevels}
use Rattle.aq_sets.specs.Vectors.{Listed, lists, vectors_of, products_of}
use Rattle.aq_sets.specs.Sizes.{size_of, larger, united_shape, place, shortened, lower, first_number}
use Rattle.aq_sets.specs.declared.sets.Expr.{Expr}
use Rattle.aq_sets.specs.ValidExprs.{AreValidExprs}
use Rattle.aq_sets.proofs.PlaceLaws.{length-word, ArePositive, shortened-word, has_positive}
use Rattle.aq_sets.proofs.SizeLaws.{has_shape, has_count}
use Rattle.aq_set_build.specs.Products.{AllFit, IsWideAmong}
use Rattle.aq_set_build.specs.Tensors.{Table}
use Rattle.aq_set_build.specs.Listing.{IsMade}
use Rattle.aq_set_build.specs.Unions.{listed_all, shape_all, place_all, AreAlike, IsBelow, AreMade}
use Rattle.aq_set_build.proofs.ProductLemmas.{Fits}
use Rattle.aq_set_build.proofs.ListLemmas.{contains_at}
use Rattle.aq_set_build.proofs.BuiltLemmas.{made-Extends}
use Rattle.aq_set_build.proofs.CoverLemmas.{shortened_word, chosen, other, lt-ltb, le-ltb}
use Rattle.aq_set_build.proofs.PartLemmas.{first_of_union, union_assoc, union_none}
use Rattle.std.proofs.lemmas.List.Elements.{All-append, All-contains, Contains-append_left, Contains-append_right}

-- ---- the words of both crates are the same
same_shortened : (s w : List ℕ) → store.shortened s w ≡ shortened s w
same_shortened [] w = refl
same_shortened (n ∷ s) [] = refl
same_shortened (n ∷ s) (c ∷ w) = ap (λ t. min c (n - 1) ∷ t) (same_shortened s w)

same_first : (s : List ℕ) → store.first_number s ≡ first_number s
same_first [] = refl
same_first (n ∷ s) = refl

same_larger : (a b : List ℕ) → store.larger a b ≡ larger a b
same_larger [] b = refl
same_larger (x ∷ a) [] = refl
same_larger (x ∷ a) (y ∷ b) = ap (λ t. max x y ∷ t) (same_larger a b)

same_united : (a b : List ℕ) → store.united_shape a b ≡ united_shape a b
same_united [] b = refl
same_united (x ∷ a) [] = refl
same_united (x ∷ a) (y ∷ b) = ap (λ t. (x + y) ∷ t) (same_larger a b)

-- a part's word
part_word : (s : List ℕ) (c : ℕ) (w : List ℕ) → ArePositive s → c < first_number s → length w + 1 ≡ length s → IsWord s (c ∷ shortened (lower s) w)
unfolding ArePositive
part_word [] c w p lt e = absurd (omega arith)
part_word (n ∷ s) c w p lt e = (lt, shortened-word s w p.1 (omega arith))

module _ (exprs : List Expr) (valid : AreValidExprs exprs) where
  -- ---- automata as the store grows
  pub all_made-Extends : (old new : Table) → Extends old new → (js : List ℕ) (ls : List Lsta) → AreMade exprs old js ls → AreMade exprs new js ls
  unfolding AreMade
  all_made-Extends old new x [] [] h = tt
  all_made-Extends old new x [] (l ∷ ls) h = absurd h
  all_made-Extends old new x (j ∷ js) [] h = absurd h
  all_made-Extends old new x (j ∷ js) (l ∷ ls) h = (made-Extends exprs j old new x l h.0, all_made-Extends old new x js ls h.1)

  pub all_made-push : (table : Table) (js : List ℕ) (ls : List Lsta) (j : ℕ) (l : Lsta) → AreMade exprs table js ls → IsMade exprs j table l → AreMade exprs table (js ++ j ∷ []) (ls ++ l ∷ [])
  unfolding AreMade
  all_made-push table [] [] j l h m = (m, tt)
  all_made-push table [] (k ∷ ls) j l h m = absurd h
  all_made-push table (i ∷ js) [] j l h m = absurd h
  all_made-push table (i ∷ js) (k ∷ ls) j l h m = (h.0, all_made-push table js ls j l h.1 m)

  pub all_made-none : (table : Table) → AreMade exprs table [] []
  unfolding AreMade
  all_made-none table = tt

  pub all_made-length : (table : Table) (js : List ℕ) (ls : List Lsta) → AreMade exprs table js ls → length ls ≡ length js
  unfolding AreMade
  all_made-length table [] [] h = refl
  all_made-length table [] (l ∷ ls) h = absurd h
  all_made-length table (j ∷ js) [] h = absurd h
  all_made-length table (j ∷ js) (l ∷ ls) h = ap suc (all_made-length table js ls h.1)

  -- the expression of each automaton
  all_made-at : (table : Table) (js : List ℕ) (ls : List Lsta) → AreMade exprs table js ls → (k : ℕ) (l : Lsta) → slice_get ls k ≡ Some l → (j : ℕ) × (slice_get js k ≡ Some j) × IsMade exprs j table l
  unfolding AreMade
  all_made-at table [] [] h k l at = absurd (let lt = slice_get_within [] k l at in omega arith)
  all_made-at table [] (x ∷ ls) h k l at = absurd h
  all_made-at table (j ∷ js) [] h k l at = absurd h
  all_made-at table (j ∷ js) (x ∷ ls) h zero l at = (j, refl, subst (IsMade exprs j table) (let e : x ≡ l = cc in e) h.0)
  all_made-at table (j ∷ js) (x ∷ ls) h (suc k) l at = all_made-at table js ls h.1 k l at

  pub all_made_fit : (table : Table) (js : List ℕ) (ls : List Lsta) → AreMade exprs table js ls → joining.AllFit table ls
  all_made_fit table js ls h = record { each = λ k l at. (all_made-at table js ls h k l at).2.built.fits_store }

  -- each is on so many qubits
  abbrev pub AreLevel : ℕ → List ℕ → Type 0
  AreLevel n js = (k j : ℕ) → slice_get js k ≡ Some j → (j < length exprs) × (length (size_of exprs j).shape ≡ n)

  pub below_level : (i : ℕ) (js : List ℕ) → i < length exprs → All (IsBelow exprs i) js → AreLevel (size_of exprs i).qubits js
  below_level i js lt h k j at =
      let b = All-contains (IsBelow exprs i) js j h (contains_at js k j at) in
      let there : j < length exprs = (let x = b.0 in omega arith) in
      (there, has_shape exprs valid j there ∙ b.1)

  pub all_made_levels : (n : ℕ) (table : Table) (js : List ℕ) (ls : List Lsta) → AreMade exprs table js ls → AreLevel n js → HaveLevels n ls
  all_made_levels n table js ls h level = record {
    each = λ k l at.
        let m = all_made-at table js ls h k l at in
        ap length m.2.built.shape ∙ (level k m.0 m.1).1;
  }

  tail_level : (n j : ℕ) (js : List ℕ) → AreLevel n (j ∷ js) → AreLevel n js
  tail_level n j js h = λ k i at. h (suc k) i at

  -- ---- the shape of the union
  all_shapes : (table : Table) (js : List ℕ) (ls : List Lsta) → AreMade exprs table js ls → (a : List ℕ) → fold store.united_shape a (map shape_of ls) ≡ united_shape a (shape_all exprs js)
  unfolding AreMade shape_all
  all_shapes table [] [] h a = sym (union_none a)
  all_shapes table [] (l ∷ ls) h a = absurd h
  all_shapes table (j ∷ js) [] h a = absurd h
  all_shapes table (j ∷ js) (l ∷ ls) h a =
      let e : store.united_shape a (shape_of l) ≡ united_shape a (size_of exprs j).shape = ap (store.united_shape a) h.0.built.shape ∙ same_united a (size_of exprs j).shape in
      ap (λ s. fold store.united_shape s (map shape_of ls)) e ∙ all_shapes table js ls h.1 (united_shape a (size_of exprs j).shape) ∙ union_assoc a (size_of exprs j).shape (shape_all exprs js)

  pub made_shapes : (table : Table) (js : List ℕ) (ls : List Lsta) → AreMade exprs table js ls → store.united_shapes (map shape_of ls) ≡ shape_all exprs js
  made_shapes table js ls h = all_shapes table js ls h []

  -- ---- its words
  -- from a choice on are the choices of the automata, one after the other
  abbrev FromChoice : Table → Table → List Lsta → ℕ → Lsta → Type 0
  FromChoice old new ls start made = (k : ℕ) (part : Lsta) → slice_get ls k ≡ Some part → HasPart old new part (start + choices_before ls k) made

  from_next : (old new : Table) (l : Lsta) (ls : List Lsta) (start : ℕ) (made : Lsta) → FromChoice old new (l ∷ ls) start made → FromChoice old new ls (start + first_choices l) made
  from_next old new l ls start made h k part at =
      let split : choices_before (l ∷ ls) (suc k) ≡ first_choices l + choices_before ls k = sum_by-cons first_choices l (take k ls) in
      subst (λ n. HasPart old new part n made) (let e : start + choices_before (l ∷ ls) (suc k) ≡ start + first_choices l + choices_before ls k = omega arith in e) (h (suc k) part at)

  words_by : (n : ℕ) (old new : Table) (made : Lsta) (w : List ℕ) → IsWord (store.lower made.shape.items) w → length w + 1 ≡ n
      → (j : ℕ) (js : List ℕ) (l : Lsta) (ls : List Lsta) → IsMade exprs j old l → AreLevel n (j ∷ js) → (start c : ℕ) → HasPart old new l (start + choices_before (l ∷ ls) 0) made
      → (c - first_number (size_of exprs j).shape < first_number (shape_all exprs js)
      → slice_get (listed_all exprs js).vectors (place_all exprs js ((c - first_number (size_of exprs j).shape) ∷ w)) ≡ Some (vector_of new made ((start + first_choices l + (c - first_number (size_of exprs j).shape)) ∷ w)))
      → c < first_number (united_shape (size_of exprs j).shape (shape_all exprs js)) → (c < first_number (size_of exprs j).shape) ⊎ (first_number (size_of exprs j).shape ≤ c)
      → slice_get (vectors_of exprs j ++ (listed_all exprs js).vectors)
      (cond (ltb c (first_number (size_of exprs j).shape)) (place exprs j (c ∷ shortened (lower (size_of exprs j).shape) w))
      ((size_of exprs j).count + place_all exprs js ((c - first_number (size_of exprs j).shape) ∷ w))) ≡ Some (vector_of new made ((start + c) ∷ w))
  words_by n old new made w word long j js l ls m level start c part rest lt (inl below) =
      let s = (size_of exprs j).shape in
      let here = level 0 j refl in
      let short = c ∷ shortened (lower (size_of exprs j).shape) w in
      let p = m.built.words (c ∷ shortened (lower (size_of exprs j).shape) w) (part_word (size_of exprs j).shape c w (has_positive exprs valid j here.0) below (long ∙ sym here.1)) in
      let within = slice_get_within (vectors_of exprs j) (place exprs j (c ∷ shortened (lower (size_of exprs j).shape) w)) _ p in
      let first : first_choices l ≡ first_number (size_of exprs j).shape = ap store.first_number m.built.shape ∙ same_first (size_of exprs j).shape in
      let none : choices_before (l ∷ ls) 0 ≡ 0 = refl in
      let v = part.words (start + c) c w (omega arith) (omega arith) word in
      let same : vector_of old l (c ∷ store.shortened (store.lower l.shape.items) w) ≡ vector_of old l (c ∷ shortened (lower (size_of exprs j).shape) w) =
      ap (λ t. vector_of old l (c ∷ t)) (ap (λ t. store.shortened (store.lower t) w) m.built.shape ∙ same_shortened (lower (size_of exprs j).shape) w) in
      ap (slice_get (vectors_of exprs j ++ (listed_all exprs js).vectors)) (chosen (ltb c (first_number (size_of exprs j).shape)) _ _ (lt-ltb c (first_number (size_of exprs j).shape) below))
      ∙ slice_get-append_left (vectors_of exprs j) (listed_all exprs js).vectors (place exprs j (c ∷ shortened (lower (size_of exprs j).shape) w)) within ∙ p ∙ ap Some (sym (v ∙ same))
  words_by n old new made w word long j js l ls m level start c part rest lt (inr beyond) =
      let here = level 0 j refl in
      let first : first_choices l ≡ first_number (size_of exprs j).shape = ap store.first_number m.built.shape ∙ same_first (size_of exprs j).shape in
      let all = first_of_union (size_of exprs j).shape (shape_all exprs js) in
      let more : start + first_choices l + (c - first_number (size_of exprs j).shape) ≡ start + c = omega arith in
      let count = has_count exprs valid j here.0 in
      ap (slice_get (vectors_of exprs j ++ (listed_all exprs js).vectors)) (other (ltb c (first_number (size_of exprs j).shape)) _ _ (le-ltb c (first_number (size_of exprs j).shape) beyond))
      ∙ slice_get-append_right (vectors_of exprs j) (listed_all exprs js).vectors ((size_of exprs j).count + place_all exprs js ((c - first_number (size_of exprs j).shape) ∷ w))
      (place_all exprs js ((c - first_number (size_of exprs j).shape) ∷ w)) (omega arith)
      ∙ rest (omega arith) ∙ ap (λ t. Some (vector_of new made (t ∷ w))) more

  union_words : (n : ℕ) (old new : Table) (made : Lsta) (w : List ℕ) → IsWord (store.lower made.shape.items) w → length w + 1 ≡ n
      → (js : List ℕ) (ls : List Lsta) → AreMade exprs old js ls → AreLevel n js → (start c : ℕ) → FromChoice old new ls start made → c < first_number (shape_all exprs js)
      → slice_get (listed_all exprs js).vectors (place_all exprs js (c ∷ w)) ≡ Some (vector_of new made ((start + c) ∷ w))
  unfolding AreMade shape_all listed_all place_all
  union_words n old new made w word long [] [] h level start c from lt = absurd (omega arith)
  union_words n old new made w word long [] (l ∷ ls) h level start c from lt = absurd h
  union_words n old new made w word long (j ∷ js) [] h level start c from lt = absurd h
  union_words n old new made w word long (j ∷ js) (l ∷ ls) h level start c from lt =
      words_by n old new made w word long j js l ls h.0 level start c (from 0 l refl)
      (λ lt. union_words n old new made w word long js ls h.1 (tail_level n j js level) (start + first_choices l) (c - first_number (size_of exprs j).shape) (from_next old new l ls start made from) lt)
      lt (cases_lt c (first_number (size_of exprs j).shape))

  -- ---- its products
  all_fit : (table : Table) (js : List ℕ) (ls : List Lsta) → AreMade exprs table js ls → AllFit (listed_all exprs js).products
  unfolding AreMade listed_all
  all_fit table [] [] h = All-nil Fits
  all_fit table [] (l ∷ ls) h = absurd h
  all_fit table (j ∷ js) [] h = absurd h
  all_fit table (j ∷ js) (l ∷ ls) h = All-append Fits (products_of exprs j) (listed_all exprs js).products h.0.fits (all_fit table js ls h.1)

  all_wide : (js : List ℕ) (k j : ℕ) → slice_get js k ≡ Some j → (x y : Amplitude) → IsWideAmong (products_of exprs j) x y → IsWideAmong (listed_all exprs js).products x y
  unfolding listed_all
  all_wide [] k j at x y h = absurd (let lt = slice_get_within [] k j at in omega arith)
  all_wide (i ∷ js) zero j at x y h =
      let e : i ≡ j = cc in
      record { member = Contains-append_left (products_of exprs i) (listed_all exprs js).products (x, y) (subst (λ z. IsWideAmong (products_of exprs z) x y) (sym e) h).member; wide = h.wide }
  all_wide (i ∷ js) (suc k) j at x y h =
      let g = all_wide js k j at x y h in
      record { member = Contains-append_right (products_of exprs i) (listed_all exprs js).products (x, y) g.member; wide = h.wide }

  -- ---- one expression
  one_listed : (i : ℕ) → listed_all exprs (i ∷ []) ≡ lists exprs i
  unfolding listed_all
  one_listed i = λ k. record { vectors = append-nil (lists exprs i).vectors k; products = append-nil (lists exprs i).products k }

  one_shape : (i : ℕ) → shape_all exprs (i ∷ []) ≡ (size_of exprs i).shape
  unfolding shape_all
  one_shape i = union_none (size_of exprs i).shape

  one_place : (i : ℕ) (s word : List ℕ) → (size_of exprs i).shape ≡ s → 0 < length s → IsWord s word → place_all exprs (i ∷ []) word ≡ place exprs i word
  unfolding place_all
  one_place i [] word e some w = absurd (omega arith)
  one_place i (n ∷ s) [] e some w = absurd w
  one_place i (n ∷ s) (c ∷ word) e some w =
      subst (λ (t : List ℕ). cond (ltb c (first_number t)) (place exprs i (c ∷ shortened (lower t) word)) ((size_of exprs i).count + 0) ≡ place exprs i (c ∷ word)) (sym e)
      (chosen (ltb c n) _ _ (lt-ltb c n w.0) ∙ ap (λ t. place exprs i (c ∷ t)) (shortened_word s word w.1))

  pub alike_shape : (i : ℕ) (js : List ℕ) → AreAlike exprs (i ∷ []) js → shape_all exprs js ≡ (size_of exprs i).shape
  alike_shape i js h = sym h.shape ∙ one_shape i

  pub parts_shape : (i : ℕ) (js : List ℕ) (table : Table) (ls : List Lsta) → AreAlike exprs (i ∷ []) js → AreMade exprs table js ls → store.united_shapes (map shape_of ls) ≡ (size_of exprs i).shape
  parts_shape i js table ls h m = made_shapes table js ls m ∙ alike_shape i js h

  words_of : (i : ℕ) (js : List ℕ) (ls : List Lsta) (old new : Table) (made : Lsta) → AreLevel (size_of exprs i).qubits js → AreMade exprs old js ls → AreUnited old new ls made
      → (s word : List ℕ) → made.shape.items ≡ s → s ≡ shape_all exprs js → length s ≡ (size_of exprs i).qubits → 0 < length s → IsWord s word
      → slice_get (listed_all exprs js).vectors (place_all exprs js word) ≡ Some (vector_of new made word)
  words_of i js ls old new made level m u [] [] shape e long some w = absurd (omega arith)
  words_of i js ls old new made level m u [] (c ∷ word) shape e long some w = absurd w
  words_of i js ls old new made level m u (n ∷ s) [] shape e long some w = absurd w
  words_of i js ls old new made level m u (n ∷ s) (c ∷ word) shape e long some w =
      let size = length-word s word w.1 in
      union_words (size_of exprs i).qubits old new made word (subst (λ t. IsWord (store.lower t) word) (sym shape) w.1) (omega arith) js ls m level 0 c
      (λ k part at. subst (λ t. HasPart old new part t made) (let z : choices_before ls k ≡ 0 + choices_before ls k = omega arith in z) (u.each k part at))
      (subst (λ t. c < first_number t) e w.0)
      ∙ ap (λ t. Some (vector_of new made (t ∷ word))) (let z : 0 + c ≡ c = omega arith in z)

  pub made_union : (i : ℕ) → i < length exprs → (js : List ℕ) (ls : List Lsta) (old new : Table) (made : Lsta) → AreAlike exprs (i ∷ []) js → All (IsBelow exprs i) js
      → AreMade exprs old js ls → AreUnited old new ls made → IsMade exprs i new made
  made_union i lt js ls old new made alike below m u =
      let n = (size_of exprs i).qubits in
      let level = below_level i js lt below in
      let some = (valid.qubits i lt).0 in
      let long = has_shape exprs valid i lt in
      let shape : made.shape.items ≡ (size_of exprs i).shape = u.shape ∙ parts_shape i js old ls alike m in
      record {
        built = record {
          shape = shape;
          fits_store = u.fits;
          words = λ word w.
              ap₂ (λ x y. slice_get x.vectors y) (sym (one_listed i) ∙ alike.listed) (sym (one_place i (size_of exprs i).shape word refl (omega arith) w) ∙ alike.places word)
              ∙ words_of i js ls old new made level m u (size_of exprs i).shape word shape (sym (alike_shape i js alike)) long (omega arith) w;
        };
        fits = subst (λ (z : Listed). AllFit z.products) (sym alike.listed ∙ one_listed i) (all_fit old js ls m);
      }

  pub wide_part : (i : ℕ) (js : List ℕ) → AreAlike exprs (i ∷ []) js → (k j : ℕ) → slice_get js k ≡ Some j → (x y : Amplitude) → IsWideAmong (products_of exprs j) x y → IsWideAmong (products_of exprs i) x y
  wide_part i js alike k j at x y h = subst (λ (z : Listed). IsWideAmong z.products x y) (sym alike.listed ∙ one_listed i) (all_wide js k j at x y h)

  pub parts_some : (i : ℕ) (js : List ℕ) → i < length exprs → AreAlike exprs (i ∷ []) js → 0 < length js
  unfolding shape_all
  parts_some i [] lt h = absurd (let e = ap length (alike_shape i [] h) in let n = has_shape exprs valid i lt in let some = (valid.qubits i lt).0 in omega arith)
  parts_some i (j ∷ js) lt h = omega arith

  pub within_of : (i : ℕ) (js : List ℕ) → i < length exprs → All (IsBelow exprs i) js → (k j : ℕ) → slice_get js k ≡ Some j → j < length exprs
  within_of i js lt h k j at = (below_level i js lt h k j at).0
