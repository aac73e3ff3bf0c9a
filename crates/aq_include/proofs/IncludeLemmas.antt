-- From the roots to the answer.
use Rattle.std.proofs.Common.{◌≡◌, ℕ, zero, suc, ◌+◌, ◌*◌, ◌^◌, ◌<◌, ◌≤◌, inl, inr, List, [], ◌∷◌, ◌++◌, length, drop, take, slice_get, get_or, Option, Some, None, Contains, refl, sym, ap, ap₂, subst, ◌∙◌, arith, sum_by}
use Rattle.std.proofs.lemmas.List.{take_more}
use Rattle.std.proofs.lemmas.List.Sums.{sum_by_push}
use Rattle.std.proofs.lemmas.Option.{slice_get_within, slice_get-get_or}
use Rattle.aq_ring.specs.Fractions.{Amplitude}
use Rattle.aq_store.specs.declared.node.Node.{Node}
use Rattle.aq_store.specs.declared.lsta.Lsta.{Lsta}
use Rattle.aq_store.specs.Nodes.{HasShape, FitsStore}
use Rattle.aq_store.proofs.TableLemmas.{slice_get-push, slice_get-some}
use Rattle.aq_cert.specs.declared.cert.Rel.{Rel}
use Rattle.aq_cert.specs.declared.cert.Macro.{Macro}
use Rattle.aq_cert.specs.declared.cert.Cert.{Cert}
use Rattle.aq_cert.specs.Meaning.{amplitudes, Included}
use Rattle.aq_cert.specs.Rows.{item_of, item_at, row_at}
use Rattle.aq_cert.specs.Goals.{rest_of, goal_rest, levels_in}
use Rattle.aq_cert.specs.Macros.{IsOfLevel}
use Rattle.aq_cert.specs.Valid.{IsValid}
use Rattle.aq_cert.specs.Placed.{ArePlaced, StandsAt, AllStand}
use Rattle.aq_include.proofs.GoodLemmas.{good-holds, root-matched}
use Rattle.aq_include.proofs.CertLemmas.{valid-written}
use Rattle.aq_include.specs.declared.table.Table.{Table}
use Rattle.aq_store.specs.declared.store.Stop.{Stop}
use Rattle.aq_store.specs.declared.store.Stop.TheVariants as stop
use Rattle.aq_include.specs.Costs.{rel_weight, budget}
use Rattle.aq_store.specs.Words.{words}
use Rattle.aq_include.specs.Least.{IsWholeRoot}
use Rattle.aq_cert.specs.Rows.{row_of, row_length}
use Rattle.aq_include.specs.Ends.{StopsWide}
use Rattle.aq_include.specs.Search.{IsTable, IsReached}
use Rattle.aq_include.specs.Answers.{IsFresh, IsRootRel, goal_words, search_budget, StopsFor}
use Rattle.aq_cert.proofs.MemberLemmas.{of-cons, of-none, in-head}
use Rattle.aq_cert.proofs.PlaceLemmas.{first-level}
use Rattle.aq_store.specs.Levels.{levels_of}
use Rattle.aq_include.proofs.BudgetLemmas.{budget-bound}
use Rattle.aq_include.proofs.StepLemmas.{some-word}

of-one : {X : Type 0} (x y : X) → Contains (x ∷ []) y → y ≡ x
of-one x y h = elim (of-cons x [] y h) [ inl e ↦ e | inr k ↦ absurd (of-none y k) ]

no-row : {X : Type 0} (rows : List (List X)) (k i : ℕ) (x : X) → row_length rows k ≡ 0 → item_at rows k i ≡ Some x → ⊥
no-row rows k i x e here = at (slice_get rows k) e here
  where
    at : {X : Type 0} (o : Option (List X)) {x : X} → row_of o ≡ 0 → item_of o i ≡ Some x → ⊥
    at None e h = cc
    at (Some xs) {x = x} e h = absurd (omega (arith, e, slice_get_within xs i x h))

pub empty-push : {X : Type 0} (rows : List (List X)) → ((k : ℕ) → row_length rows k ≡ 0) → (k : ℕ) → row_length (rows ++ [] ∷ []) k ≡ 0
empty-push [] f zero = refl
empty-push [] f (suc k) = refl
empty-push (r ∷ rows) f zero = f 0
empty-push (r ∷ rows) f (suc k) = empty-push rows (λ j. f (suc j)) k

-- one root more
pub root-more : (root : ℕ) (goals : List Lsta) (n : ℕ) (rels new : List Rel) (rel : Rel) → length rels ≡ n → new ≡ rels ++ rel ∷ []
    → ((k : ℕ) (r : Rel) → slice_get rels k ≡ Some r → IsRootRel root goals k r) → IsRootRel root goals n rel
    → (k : ℕ) (r : Rel) → slice_get new k ≡ Some r → IsRootRel root goals k r
root-more root goals n rels new rel count e before last k r here =
    elim (slice_get-push rels rel k r (subst (λ (l : List Rel). slice_get l k ≡ Some r) e here)) [
      | inl old ↦ before k r old
      | inr now ↦ subst (λ z. IsRootRel root goals z r) (sym (now.0 ∙ count)) (subst (IsRootRel root goals n) now.1 last)
    ]

root-weight : (goals : List Lsta) (n : ℕ) (goal : Lsta) (root : ℕ) (rel : Rel) → slice_get goals n ≡ Some goal → rel.goal ≡ n → rel.pairs ≡ (root, goal.root) ∷ []
    → rel_weight (goal_rest goals 0) rel ≡ words goal.shape.items
root-weight goals n goal root rel listed number pairs =
    ap₂ (λ (l : List (ℕ × ℕ)) (g : ℕ). length l * words (goal_rest goals 0 g)) pairs number
    ∙ ap (λ o. 1 * words (rest_of o 0)) listed ∙ one (words goal.shape.items)
  where
    one : (n : ℕ) → 1 * n ≡ n
    one n = omega arith

pub weight-more : (goals : List Lsta) (n root : ℕ) (goal : Lsta) (rels new : List Rel) (rel : Rel) → n < length goals → goal ≡ get_or goals n goal → rel.goal ≡ n → rel.pairs ≡ (root, goal.root) ∷ []
    → new ≡ rels ++ rel ∷ [] → sum_by (rel_weight (goal_rest goals 0)) rels ≡ goal_words (take n goals) → sum_by (rel_weight (goal_rest goals 0)) new ≡ goal_words (take (n + 1) goals)
weight-more goals n root goal rels new rel less is number pairs e h =
    let here = slice_get-get_or goals n goal less ∙ ap Some (sym is) in
    ap (sum_by (rel_weight (goal_rest goals 0))) e ∙ sum_by_push (rel_weight (goal_rest goals 0)) rels rel
    ∙ ap₂ (λ a b. a + b) h (root-weight goals n goal root rel here number pairs)
    ∙ sym (sum_by_push (λ (g : Lsta). words g.shape.items) (take n goals) goal)
    ∙ ap (λ (g : Lsta). goal_words (take n goals ++ g ∷ [])) is ∙ ap goal_words (sym (take_more goals n goal less))

pub whole-root : (left : Lsta) (goals : List Lsta) (m : Macro) → m.domain ≡ left.root ∷ [] → ((k : ℕ) (rel : Rel) → slice_get m.rels k ≡ Some rel → IsRootRel left.root goals k rel)
    → length m.rels ≡ length goals → IsWholeRoot left goals m
whole-root left goals m d f count = record {
  is_root = record {
    domain = subst (λ (l : List ℕ). Contains l left.root) (sym d) (in-head left.root []);
    pairs = λ k rel here.
        let r = f k rel here in
        (r.goal, ap (slice_get goals) r.number ∙ r.listed, subst (λ (l : List (ℕ × ℕ)). Contains l (left.root, r.goal.root)) (sym r.pairs) (in-head (left.root, r.goal.root) []));
  };
  only = λ x listed. of-one left.root x (subst (λ (l : List ℕ). Contains l x) d listed);
  each = λ g goal listed.
      let s = slice_get-some m.rels g (omega (arith, count, slice_get_within goals g goal listed)) in
      (g, s.0, s.1, (f g s.0 s.1).number);
  only_roots = λ k rel p here listed.
      let r = f k rel here in
      (r.goal, ap (slice_get goals) r.number ∙ r.listed, of-one (left.root, r.goal.root) p (subst (λ (l : List (ℕ × ℕ)). Contains l p) r.pairs listed));
}

module _ {L : Type 0} (parts : L → List Amplitude) (table : List (Node L)) where
  pub root-level : (left : Lsta) (goals : List Lsta) (m : Macro) → IsWholeRoot left goals m → FitsStore table left → ((g : ℕ) (goal : Lsta) → slice_get goals g ≡ Some goal → FitsStore table goal)
      → ((g : ℕ) (goal : Lsta) → slice_get goals g ≡ Some goal → length goal.shape.items ≡ length left.shape.items)
      → IsOfLevel table (drop 0 left.shape.items) (goal_rest goals 0) m
  root-level left goals m r fits all one = record {
    domain = λ x listed. subst (HasShape table left.shape.items) (sym (r.only x listed)) fits;
    deep = λ k rel here. (let g = r.is_root.pairs k rel here in ap (λ o. length (rest_of o 0)) g.1 ∙ one rel.goal g.0 g.1);
    pairs = λ k rel p here listed.
        let g = r.only_roots k rel p here listed in (
          subst (λ (z : ℕ × ℕ). HasShape table left.shape.items z.0) (sym g.2) fits,
          subst (λ (z : ℕ × ℕ). HasShape table (goal_rest goals 0 rel.goal) z.1) (sym g.2) (subst (λ o. HasShape table (rest_of o 0) g.0.root) (sym g.1) (all rel.goal g.0 g.1)),
        );
  }

  pub fresh-table : (shape : List ℕ) (goals : List Lsta) (t : Table) → IsFresh (length shape) t → IsTable parts table shape goals t
  fresh-table shape goals t h = record { even = h.even; good = λ k i m here. absurd (no-row t.macros.items k i m (h.none k) here) }

  root-stands-in : (lsta : Lsta) → Contains (row_at (levels_of table lsta) 0) lsta.root
  root-stands-in lsta = subst (λ (l : List ℕ). Contains l lsta.root) (sym (first-level table lsta.shape.items (lsta.root ∷ []))) (in-head lsta.root [])

  -- the roots stand in the first levels
  pub root-stands : (left : Lsta) (goals : List Lsta) (m : Macro) → IsWholeRoot left goals m → StandsAt table left goals 0 m
  root-stands left goals m r = record {
    domain = λ x listed. subst (Contains (row_at (levels_of table left) 0)) (sym (r.only x listed)) (root-stands-in left);
    there = λ k rel here. (let g = r.is_root.pairs k rel here in slice_get_within goals rel.goal g.0 g.1);
    pairs = λ k rel p here listed.
        let g = r.only_roots k rel p here listed in (
          subst (λ (z : ℕ × ℕ). Contains (row_at (levels_of table left) 0) z.0) (sym g.2) (root-stands-in left),
          subst (λ o. Contains (row_at (levels_in table o) 0) p.1) (sym g.1) (subst (λ (z : ℕ × ℕ). Contains (row_at (levels_of table g.0) 0) z.1) (sym g.2) (root-stands-in g.0)),
        );
  }

  pub none-stand : (n : ℕ) (left : Lsta) (goals : List Lsta) (t : Table) → IsFresh n t → AllStand table left goals t.macros.items
  none-stand n left goals t h = record { each = λ k i m here. absurd (no-row t.macros.items k i m (h.none k) here) }

  -- the certificate of a table in which the root was reached
  pub certified : (left : Lsta) (goals : List Lsta) (m : Macro) (old new : Table) (i : ℕ) (rows : List (List Macro)) (cert : Cert) → IsWholeRoot left goals m → IsFresh (length left.shape.items) old
      → IsReached parts table left.shape.items goals 0 m old new i → ArePlaced table left goals new.macros.items rows → cert.macros ≡ rows → cert.edges ≡ new.edges.items → cert.ends ≡ new.ends
      → IsValid parts table left goals cert × Included parts table left goals
  certified left goals m old new i rows cert r f h p a b d =
      let place : i ≡ 0 = elim h.fresh [ inl there ↦ absurd (no-row old.macros.items 0 i m (f.none 0) there) | inr e ↦ e ∙ f.none 0 ] in
      let first : item_at new.macros.items 0 0 ≡ Some m = ap (item_at new.macros.items 0) (sym place) ∙ h.here in
      let plain = valid-written parts table left goals m new rows r h.grown first p in
      let same : record { macros = rows; edges = new.edges.items; ends = new.ends } ≡ cert = λ j. record { macros = sym a j; edges = sym b j; ends = sym d j } in (
        subst (IsValid parts table left goals) same plain,
        λ word nonzero. root-matched parts table left goals m r.is_root word
            (good-holds parts table goals new.macros.items new.edges.items new.ends left.shape.items 0 0 m (h.grown.good 0 0 m first) first word) nonzero,
      )

  pub wide-inclusion : (left : Lsta) (goals : List Lsta) (m : Macro) → IsWholeRoot left goals m → (e : Stop L) → StopsWide parts table m e → StopsFor parts table left goals e
  wide-inclusion left goals m r stop.Spent h = tt
  wide-inclusion left goals m r (stop.Wide l q) h = absurd h
  wide-inclusion left goals m r (stop.WideParts l q) h =
      let a = r.only_roots h.number h.rel h.left_pair h.here h.left_listed in
      let b = r.only_roots h.number h.rel h.right_pair h.here h.right_listed in
      record {
        number = h.rel.goal;
        goal = b.0;
        listed = b.1;
        word = h.word;
        other = h.other;
        left_entry = subst (λ (z : ℕ × ℕ). Contains (amplitudes parts table h.word z.0) l) a.2 h.left;
        right_entry = subst (λ (z : ℕ × ℕ). Contains (amplitudes parts table h.other z.1) q) b.2 h.right;
        unfit = h.unfit;
      }
  wide-inclusion left goals m r stop.Memory h = tt

  pub budget-within : (left : Lsta) (goals : List Lsta) (w : ℕ) → FitsStore table left → w ≡ 1 + goal_words goals → budget (drop 0 left.shape.items) w ≤ search_budget left goals
  budget-within left goals w fits e =
      let b = budget-bound left.shape.items w (some-word table left.shape.items left.root fits) in
      let same : words left.shape.items * w * 2 ^ length left.shape.items ≡ words left.shape.items * (1 + goal_words goals) * 2 ^ length left.shape.items =
      ap (λ z. words left.shape.items * z * 2 ^ length left.shape.items) e in
      omega (arith, b, same)
