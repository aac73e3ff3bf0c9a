-- The root of a union.
use Rattle.std.proofs.Common.{◌≡◌, ℕ, inl, inr, zero, suc, ◌+◌, ◌-◌, ◌*◌, ◌^◌, ◌<◌, ◌≤◌, ◌⊎◌, Bool, true, false, true≢false, List, [], ◌∷◌, ◌++◌, map}
use Rattle.std.proofs.Common.{length, take, drop, get_or, slice_get, sum_by, Option, None, Some, refl, sym, ap, ap₂, subst, ◌∙◌, arith}
use Rattle.std.proofs.Math.Seq.{take-append_seam}
use Rattle.std.proofs.Math.Nat.{mul-le-mul_left}
use Rattle.std.proofs.lemmas.List.{length-append, take-append-le}
use Rattle.std.proofs.lemmas.List.Sums.{sum_by_push, sum_by-cons}
use Rattle.std.proofs.lemmas.Option.{slice_get_within}
use Rattle.aq_store.specs.declared.node.Node.{Node}
use Rattle.aq_store.specs.declared.node.Node.TheVariants.{Leaf, Inner}
use Rattle.aq_store.specs.declared.lsta.Lsta.{Lsta}
use Rattle.aq_store.specs.Nodes.{EachPair, HasHeight, HasShape, Extends, FitsStore, tree, pairs_of, pairs_at}
use Rattle.aq_store.specs.Means.{Means, MeansPair, MeanPairs, under}
use Rattle.aq_store.specs.Memos.{is_done}
use Rattle.aq_store.specs.Owed.{owed, prices_of}
use Rattle.aq_store.specs.Accounts.{HoldPairs}
use Rattle.aq_store.specs.Words.{IsWord, IsWider, words, shortened, first_number, lower, united_shapes}
use Rattle.aq_store.proofs.TableLemmas.{HasShape-Extends, EachPair-map, slice_get-some}
use Rattle.aq_store.proofs.RunLemmas.{slice_get-append_left, slice_get-append_right, slice_get-append_cases}
use Rattle.aq_store.proofs.OwedLemmas.{owed-less}
use Rattle.aq_store.proofs.ShapeLemmas.{shape_height}
use Rattle.aq_store.proofs.MeansLemmas.{MeansPair-Extends, MeansPair-same, tree-choice}
use Rattle.aq_measure_ops.specs.Padding.{Padded, Appends}
use Rattle.aq_measure_ops.specs.Joining.{shape_of, first_choices, choices_before, HasPart, AllFit, HaveLevels}
use Rattle.aq_measure_ops.proofs.BudgetLemmas.{IsSome, budget, budget_steps}
use Rattle.aq_measure_ops.proofs.LevelBounds.{pairs_bound}
use Rattle.aq_measure_ops.proofs.ProjectionLemmas.{positive}
use Rattle.aq_measure_ops.proofs.PaddingLemmas.{padded-Extends, wider-some, wider-length}
use Rattle.aq_measure_ops.proofs.UnitedLemmas.{front_sum, shortened_first, part_wider, parts_first, first_at}

split_first : (shape : List ℕ) → 0 < length shape → shape ≡ first_number shape ∷ lower shape
split_first [] some = absurd (omega arith)
split_first (n ∷ shape) some = refl

module _ {L : Type 0} where
  -- the pairs are those of the parts, one part's after the other's
  pub record IsJoined (start table : List (Node L)) (below : List ℕ) (parts : List Lsta) (pairs : List (ℕ × ℕ)) : Type 0 where
    pub long : length pairs ≡ sum_by first_choices parts
    pub shaped : EachPair (HasShape table below) pairs
    pub each : (k : ℕ) (part : Lsta) → slice_get parts k ≡ Some part → (c : ℕ) (q : ℕ × ℕ) → c < first_choices part → slice_get pairs (choices_before parts k + c) ≡ Some q
        → MeansPair (under (Padded start part.shape.items (first_choices part ∷ below) part.root) c) table below q

  pub join_none : (start table : List (Node L)) (below : List ℕ) (pairs : List (ℕ × ℕ)) → pairs ≡ [] → IsJoined start table below [] pairs
  join_none start table below pairs is = record {
    long = ap length is;
    shaped = subst (EachPair (HasShape table below)) (sym is) (record { left = λ c p at. (let z = at in cc); right = λ c p at. (let z = at in cc) });
    each = λ k part at. (let z = at in cc);
  }

  both_shaped : (table : List (Node L)) (below : List ℕ) (ps qs : List (ℕ × ℕ)) → EachPair (HasShape table below) ps → EachPair (HasShape table below) qs
      → EachPair (HasShape table below) (ps ++ qs)
  both_shaped table below ps qs a b = record {
    left = λ c p at. elim (slice_get-append_cases ps qs c p at) [ inl h ↦ a.left c p h | inr h ↦ b.left (c - length ps) p h.1 ];
    right = λ c p at. elim (slice_get-append_cases ps qs c p at) [ inl h ↦ a.right c p h | inr h ↦ b.right (c - length ps) p h.1 ];
  }

  -- one part more
  pub join_step : (start old new : List (Node L)) → Extends start old → Extends old new → (below : List ℕ) (done : List Lsta) (part : Lsta) (pairs all : List (ℕ × ℕ)) → FitsStore start part
      → IsJoined start old below done pairs → Appends (Padded old part.shape.items (first_choices part ∷ below) part.root) new below (first_choices part) pairs all
      → IsJoined start new below (done ++ part ∷ []) all
  join_step start old new x y below done part pairs all s j a = record {
    long = ap length a.is ∙ length-append pairs a.added ∙ ap₂ (λ m n. m + n) j.long a.long ∙ sym (sum_by_push first_choices done part);
    shaped = subst (EachPair (HasShape new below)) (sym a.is)
        (both_shaped new below pairs a.added (EachPair-map _ _ pairs (HasShape-Extends old new y below) j.shaped) (record {
          left = λ c q at.
              (a.mean.each c q at).left;
          right = λ c q at. (a.mean.each c q at).right;
        }));
    each = λ k other at c q lt here. elim (slice_get-append_cases done (part ∷ []) k other at) [
      | inl h ↦ earlier k other h c q lt here
      | inr h ↦ latest k other h.0 h.1 c q lt here
    ];
  }
    where
      in_all : (i : ℕ) (q : ℕ × ℕ) → slice_get all i ≡ Some q → slice_get (pairs ++ a.added) i ≡ Some q
      in_all i q e = ap (λ l. slice_get l i) (sym a.is) ∙ e

      earlier : (k : ℕ) (other : Lsta) → slice_get done k ≡ Some other → (c : ℕ) (q : ℕ × ℕ) → c < first_choices other → slice_get all (choices_before (done ++ part ∷ []) k + c) ≡ Some q
          → MeansPair (under (Padded start other.shape.items (first_choices other ∷ below) other.root) c) new below q
      earlier k other h c q lt here =
          let within = slice_get_within done k other h in
          let same : choices_before (done ++ part ∷ []) k ≡ choices_before done k = ap (sum_by first_choices) (take-append-le k done (part ∷ []) (omega arith)) in
          let front = front_sum done k other h in
          let place : choices_before done k + c < length pairs = omega (arith, front, j.long) in
          MeansPair-Extends (under (Padded start other.shape.items (first_choices other ∷ below) other.root) c) old new y below q
          (j.each k other h c q lt (sym (slice_get-append_left pairs a.added (choices_before done k + c) place)
          ∙ in_all (choices_before done k + c) q (ap (λ m. slice_get all (m + c)) (sym same) ∙ here)))

      latest : (k : ℕ) (other : Lsta) → length done ≤ k → slice_get (part ∷ []) (k - length done) ≡ Some other → (c : ℕ) (q : ℕ × ℕ) → c < first_choices other
          → slice_get all (choices_before (done ++ part ∷ []) k + c) ≡ Some q
          → MeansPair (under (Padded start other.shape.items (first_choices other ∷ below) other.root) c) new below q
      latest k other le h c q lt here =
          let within : k - length done < 1 = slice_get_within (part ∷ []) (k - length done) other h in
          let last : k ≡ length done = omega arith in
          let is : part ≡ other = first_is (k - length done) other within h in
          let front : take k (done ++ part ∷ []) ≡ done = ap (λ m. take m (done ++ part ∷ [])) last ∙ take-append_seam done (part ∷ []) in
          let place : choices_before (done ++ part ∷ []) k + c ≡ length pairs + c = ap (λ m. m + c) (ap (sum_by first_choices) front ∙ sym j.long) in
          let found : slice_get a.added c ≡ Some q = sym (slice_get-append_right pairs a.added (length pairs + c) c refl) ∙ in_all (length pairs + c) q (ap (slice_get all) (sym place) ∙ here) in
          subst (λ (p : Lsta). MeansPair (under (Padded start p.shape.items (first_choices p ∷ below) p.root) c) new below q) is
          (MeansPair-same (under (Padded old part.shape.items (first_choices part ∷ below) part.root) c) (under (Padded start part.shape.items
          (first_choices part ∷ below) part.root) c) new below q
          (λ word v. padded-Extends start old x part.shape.items (first_choices part ∷ below) part.root s (c ∷ word) v) (a.mean.each c q found))
        where
          first_is : (i : ℕ) (other : Lsta) → i < 1 → slice_get (part ∷ []) i ≡ Some other → part ≡ other
          first_is zero other lt e = cc
          first_is (suc i) other lt e = absurd (omega arith)

  pub joined_heights : (start table : List (Node L)) (below : List ℕ) (parts : List Lsta) (pairs : List (ℕ × ℕ)) → IsJoined start table below parts pairs
      → (h : ℕ) × EachPair (HasHeight table h) pairs
  joined_heights start table below parts pairs j = (length below, EachPair-map _ _ pairs (shape_height table below) j.shaped)

  -- the root
  pub joined_root : (start last new : List (Node L)) → Extends last new → (shape : List ℕ) (parts : List Lsta) (pairs : List (ℕ × ℕ)) (root : ℕ) → 0 < length shape
      → 0 < length pairs → first_number shape ≡ sum_by first_choices parts
      → IsJoined start last (lower shape) parts pairs → slice_get new root ≡ Some (Inner pairs) → HasShape new shape root
  unfolding HasShape
  joined_root start last new x shape parts pairs root levels some number j made =
      subst (λ u. HasShape new u root) (sym (split_first shape levels))
      (pairs, record { here = made; some = some }, j.long ∙ sym number, EachPair-map _ _ pairs (HasShape-Extends last new x (lower shape)) j.shaped)

  -- each part is in the union
  pub joined_part : (start last new : List (Node L)) → Extends last new → (parts : List Lsta) (pairs : List (ℕ × ℕ)) (made : Lsta)
      → IsJoined start last (lower made.shape.items) parts pairs → slice_get new made.root ≡ Some (Inner pairs)
      → (k : ℕ) (part : Lsta) → slice_get parts k ≡ Some part → HasPart start new part (choices_before parts k) made
  joined_part start last new x parts pairs made j here k part at = record {
    words = λ choice c word is lt w.
        let below = lower made.shape.items in
        let front = front_sum parts k part at in
        let within : choice < length pairs = omega (arith, front, j.long) in
        let q = slice_get-some pairs choice within in
        let m = MeansPair-Extends (under (Padded start part.shape.items (first_choices part ∷ below) part.root) c) last new x below q.0 (j.each k part at c q.0 lt (ap
        (slice_get pairs) (sym is) ∙ q.1)) in
        tree-choice new made.root choice word q.0 (ap (λ l. slice_get l choice) (ap pairs_of here) ∙ q.1)
        ∙ m.words word (lt, w)
        ∙ ap (λ u. tree start u part.root) (shortened_first part.shape.items c word lt);
  }

-- ---- what all parts and the root take
pub loop_most : (p f n b t u v : ℕ) → p + f ≤ n → u ≤ t + 2 * p * b → v ≤ u + 2 * f * b → v ≤ t + n * (2 * b)
loop_most p f n b t u v le before more =
    let e : 2 * p * b + 2 * f * b ≡ 2 * b * (p + f) = omega arith in
    let g : n * (2 * b) ≡ 2 * b * n = omega arith in
    omega (arith, mul-le-mul_left (2 * b) le)

pub loop_step : (p f q b t u v : ℕ) → q ≡ p + f → u ≤ t + 2 * p * b → v ≤ u + 2 * f * b → v ≤ t + 2 * q * b
loop_step p f q b t u v is before more = let e : 2 * q * b ≡ 2 * (p + f) * b = ap (λ k. 2 * k * b) is in let g : 2 * (p + f) * b ≡ 2 * p * b + 2 * f * b = omega arith in omega arith

pub loop_end : (q n b t u : ℕ) → q ≡ n → u ≤ t + 2 * q * b → u ≤ t + n * (2 * b)
loop_end q n b t u is le = let e : 2 * q * b ≡ 2 * n * b = ap (λ k. 2 * k * b) is in let g : n * (2 * b) ≡ 2 * n * b = omega arith in omega arith

pub two_sum : (left right : Lsta) → sum_by first_choices (left ∷ right ∷ []) ≡ first_choices left + first_choices right
two_sum left right = sum_by-cons first_choices left (right ∷ []) ∙ (let e = sum_by-cons first_choices right [] in
    let g : first_choices left + sum_by first_choices (right ∷ []) ≡ first_choices left + first_choices right = omega arith in g)

pub one_sum : (left : Lsta) → sum_by first_choices (left ∷ []) ≡ first_choices left
one_sum left = let e = sum_by-cons first_choices left [] in omega arith

pub two_levels : (left right : Lsta) → length left.shape.items ≡ length right.shape.items → HaveLevels (length left.shape.items) (left ∷ right ∷ [])
two_levels left right same = record { each = λ k part at. by k part at }
  where
    by : (k : ℕ) (part : Lsta) → slice_get (left ∷ right ∷ []) k ≡ Some part → length part.shape.items ≡ length left.shape.items
    by zero part at = let is : left ≡ part = cc in ap (λ (p : Lsta). length p.shape.items) (sym is)
    by (suc zero) part at = let is : right ≡ part = cc in ap (λ (p : Lsta). length p.shape.items) (sym is) ∙ sym same
    by (suc (suc k)) part at = cc

module _ {L : Type 0} (table : List (Node L)) where
  pub two_fit : (left right : Lsta) → FitsStore table left → FitsStore table right → AllFit table (left ∷ right ∷ [])
  two_fit left right a b = record { each = λ k part at. by k part at }
    where
      by : (k : ℕ) (part : Lsta) → slice_get (left ∷ right ∷ []) k ≡ Some part → FitsStore table part
      by zero part at = let is : left ≡ part = cc in subst (FitsStore table) is a
      by (suc zero) part at = let is : right ≡ part = cc in subst (FitsStore table) is b
      by (suc (suc k)) part at = cc

  -- each level of the union has a choice
  union_some : (n : ℕ) (parts : List Lsta) → 0 < length parts → AllFit table parts → HaveLevels n parts
      → IsSome (united_shapes (map shape_of parts)) × (length (united_shapes (map shape_of parts)) ≡ n)
  union_some n parts some fits levels =
      let first = slice_get-some parts 0 some in
      let wide = part_wider n parts 0 first.0 levels first.1 in (
        wider-some first.0.shape.items (united_shapes (map shape_of parts)) wide (positive table first.0.shape.items first.0.root (fits.each 0 first.0 first.1)),
        sym (wider-length first.0.shape.items (united_shapes (map shape_of parts)) wide) ∙ levels.each 0 first.0 first.1,
      )

  pub union_first : (n : ℕ) (parts : List Lsta) → 0 < n → 0 < length parts → AllFit table parts → HaveLevels n parts → 0 < sum_by first_choices parts
  union_first n parts more some fits levels =
      let u = union_some n parts some fits levels in
      omega (arith, u.0 0 (omega (arith, u.1, more)), parts_first n parts levels, first_at (united_shapes (map shape_of parts)))

  pub united_levels : (n : ℕ) (parts : List Lsta) (shape : List ℕ) → 0 < n → 0 < length parts → AllFit table parts → HaveLevels n parts
      → shape ≡ united_shapes (map shape_of parts) → 0 < length shape
  united_levels n parts shape more some fits levels is = omega (arith, (union_some n parts some fits levels).1, ap length is, more)

  -- the bound on a union
  pub union_bound : (n : ℕ) (parts : List Lsta) → 0 < n → 0 < length parts → AllFit table parts → HaveLevels n parts
      → sum_by first_choices parts + 1 + sum_by first_choices parts * (2 * budget (lower (united_shapes (map shape_of parts))))
      ≤ 2 * words (united_shapes (map shape_of parts)) * 2 ^ (length (united_shapes (map shape_of parts)) + 1)
  unfolding budget
  union_bound n parts more some fits levels =
      let u = union_some n parts some fits levels in
      let all = united_shapes (map shape_of parts) in
      let split = split_first all (omega (arith, u.1, more)) in
      let number = parts_first n parts levels in
      let most = budget_steps all u.0 in
      let e : budget all ≡ first_number all + 1 + first_number all * (2 * budget (lower all)) = ap budget split in
      let f : first_number all + 1 + first_number all * (2 * budget (lower all)) ≡ sum_by first_choices parts + 1 + sum_by first_choices parts * (2 * budget (lower all)) = ap
      (λ k. k + 1 + k * (2 * budget (lower all))) number in
      omega arith

  -- what is owed for a part, whatever is done
  pub part_owed : (at : ℕ → Option ℕ) (shape wide : List ℕ) (root : ℕ) → 0 < length shape → IsWider shape wide → HasShape table shape root
      → (levels : List (List ℕ)) × HoldPairs table (lower shape) root levels × (owed (prices_of (lower wide)) (is_done at) levels ≤ 2 * first_number shape * budget (lower wide))
  part_owed at [] wide root some w s = absurd (omega arith)
  part_owed at (m ∷ shape) [] root some w s = absurd w
  part_owed at (m ∷ shape) (n ∷ wide) root some w s =
      let r = pairs_bound table (λ i. false) (λ i. refl) m shape wide root w.1 s in
      let less = owed-less (prices_of wide) (λ i. false) (is_done at) (λ i e. absurd (true≢false (sym e))) r.0 in
      (r.0, r.1, omega (arith, r.2, less))
