-- One turn of the search: the macro under a choice, and what the turns take.
use Rattle.std.proofs.Common.{◌≡◌, ℕ, suc, ◌+◌, ◌*◌, ◌<◌, ◌≤◌, ◌⊎◌, inl, inr, List, [], ◌∷◌, length, drop, slice_get, get_or, Some, None, refl, sym, ap, subst, ◌∙◌, arith, sum_by}
use Rattle.std.specs.Prelude.{slice_index}
use Rattle.std.proofs.Math.Nat.{mul-le-mul_right}
use Rattle.std.proofs.lemmas.List.{drop_more, drop_all}
use Rattle.std.proofs.lemmas.List.Sums.{sum_by-cons}
use Rattle.aq_ring.specs.Fractions.{Amplitude}
use Rattle.aq_store.specs.declared.node.Node.{Node}
use Rattle.aq_store.specs.declared.lsta.Lsta.{Lsta}
use Rattle.aq_store.specs.Count.{Count}
use Rattle.aq_store.specs.Nodes.{HasShape, pairs_at, pairs_of}
use Rattle.aq_store.proofs.TableLemmas.{slice_get-some}
use Rattle.aq_cert.specs.declared.cert.Rel.{Rel}
use Rattle.aq_cert.specs.declared.cert.Macro.{Macro}
use Rattle.aq_cert.specs.declared.cert.Edge.{Edge}
use Rattle.aq_cert.specs.Goals.{goal_rest}
use Rattle.aq_cert.specs.Macros.{IsOfLevel}
use Rattle.aq_cert.specs.Held.{IsHeld}
use Rattle.aq_cert.proofs.HeldLemmas.{IsBelow, goals_below}
use Rattle.aq_store.specs.declared.store.Stop.{Stop}
use Rattle.aq_store.specs.declared.store.Stop.TheVariants as stop
use Rattle.aq_include.specs.declared.step.Stepped.{Stepped}
use Rattle.aq_include.specs.declared.table.Table.{Table}
use Rattle.aq_include.specs.Steps.{IsBack}
use Rattle.aq_include.specs.Candidates.{IsStepped}
use Rattle.aq_include.specs.Costs.{Takes, IsCause, rel_weight, weight, budget, turn_budget}
use Rattle.aq_store.specs.Words.{words}
use Rattle.aq_include.specs.Least.{IsLeast}
use Rattle.aq_include.specs.Search.{IsTable, Leads}
use Rattle.aq_include.proofs.BudgetLemmas.{budget-mono}
use Rattle.aq_include.proofs.SearchLemmas.{leads-holds}
use Rattle.aq_include.proofs.LeastLemmas.{least-step, wide-step}
use Rattle.aq_include.proofs.EndLemmas.{no-end}
use Rattle.aq_include.specs.Ends.{IsNotWide, StopsWide, Ends}
use Rattle.aq_store.specs.Words.{IsWord}
use Rattle.aq_cert.specs.Meaning.{IsBefore}

-- ---- what the turns take

pub budget-split : (shape : List ℕ) (level w : ℕ) → level < length shape → budget (drop level shape) w ≡ get_or shape level 0 * turn_budget (drop (level + 1) shape) w
budget-split shape level w less = ap (λ s. budget s w) (drop_more shape level 0 less) ∙ split (get_or shape level 0) (drop (level + 1) shape)
  where
    split : (n : ℕ) (later : List ℕ) → budget (n ∷ later) w ≡ n * turn_budget later w
    split n later = unfold budget in refl

pub turn-takes : (done b : ℕ) (s m t : Count) → Takes (done * b) s m → Takes b m t → Takes ((done + 1) * b) s t
turn-takes done b s m t h k = record { later = omega (arith, h.later, k.later); cheap = omega (arith, h.cheap, k.cheap); same = k.same ∙ h.same }

pub turns-take : (shape : List ℕ) (level w done n : ℕ) (s m t : Count) → level < length shape → done < n → n ≡ get_or shape level 0
    → Takes (done * turn_budget (drop (level + 1) shape) w) s m → Takes (turn_budget (drop (level + 1) shape) w) m t → Takes (budget (drop level shape) w) s t
turns-take shape level w done n s m t inside less is h k =
    let b : ℕ = turn_budget (drop (level + 1) shape) w in
    let some : done + 1 ≤ n = omega arith in
    let all : (done + 1) * b ≤ n * b = mul-le-mul_right b some in
    let whole : budget (drop level shape) w ≡ n * b = budget-split shape level w inside ∙ ap (λ z. z * b) (sym is) in
    record { later = omega (arith, h.later, k.later); cheap = omega (arith, h.cheap, k.cheap, all, whole); same = k.same ∙ h.same }

pub turns-cause : {L : Type 0} → (shape : List ℕ) (level w done n : ℕ) (s m : Count) (why : Stop L) → level < length shape → done < n → n ≡ get_or shape level 0
    → Takes (done * turn_budget (drop (level + 1) shape) w) s m → IsCause (turn_budget (drop (level + 1) shape) w) m why → IsCause (budget (drop level shape) w) s why
turns-cause shape level w done n s m stop.Spent inside less is h k =
    let b : ℕ = turn_budget (drop (level + 1) shape) w in
    let some : done + 1 ≤ n = omega arith in
    let all : (done + 1) * b ≤ n * b = mul-le-mul_right b some in
    let whole : budget (drop level shape) w ≡ n * b = budget-split shape level w inside ∙ ap (λ z. z * b) (sym is) in
    omega (arith, h.cheap, h.same, k, all, whole)
turns-cause shape level w done n s m (stop.Wide l r) inside less is h k = tt
turns-cause shape level w done n s m (stop.WideParts l r) inside less is h k = tt
turns-cause shape level w done n s m stop.Memory inside less is h k = tt

-- the loop is done
pub all-turns : (shape : List ℕ) (level w done n : ℕ) (s m : Count) → level < length shape → n ≤ done → done ≤ n → n ≡ get_or shape level 0
    → Takes (done * turn_budget (drop (level + 1) shape) w) s m → Takes (budget (drop level shape) w) s m
all-turns shape level w done n s m inside a b is h =
    let c : ℕ = turn_budget (drop (level + 1) shape) w in
    let same : done ≡ n = omega arith in
    let whole : budget (drop level shape) w ≡ done * c = budget-split shape level w inside ∙ ap (λ z. z * c) (sym is ∙ sym same) in
    subst (λ z. Takes z s m) (sym whole) h

-- a step, and the search below
pub step-takes : (shape : List ℕ) (v w : ℕ) (s m t : Count) → v ≤ 2 * w → Takes w s m → Takes (budget shape v) m t → Takes (turn_budget shape w) s t
step-takes shape v w s m t le h k =
    let b = budget-mono shape v (2 * w) le in
    record { later = omega (arith, h.later, k.later); cheap = omega (arith, h.cheap, k.cheap, b); same = k.same ∙ h.same }

pub step-cause : {L : Type 0} → (shape : List ℕ) (v w : ℕ) (s m : Count) (why : Stop L) → v ≤ 2 * w → Takes w s m → IsCause (budget shape v) m why → IsCause (turn_budget shape w) s why
step-cause shape v w s m stop.Spent le h k = (let b = budget-mono shape v (2 * w) le in omega (arith, h.cheap, h.same, k, b))
step-cause shape v w s m (stop.Wide l r) le h k = tt
step-cause shape v w s m (stop.WideParts l r) le h k = tt
step-cause shape v w s m stop.Memory le h k = tt

-- ---- the macro under a choice is of the next level

one-more : (xs : List ℕ) (k : ℕ) → length xs ≡ suc k → (n : ℕ) × (later : List ℕ) × (xs ≡ n ∷ later)
one-more [] k e = absurd (omega arith)
one-more (x ∷ xs) k e = (x, xs, refl)

module _ {L : Type 0} (table : List (Node L)) where
  child-shape : (n : ℕ) (shape : List ℕ) (c x : ℕ) (p : ℕ × ℕ) → HasShape table (n ∷ shape) x → slice_get (pairs_at table x) c ≡ Some p → HasShape table shape p.0 × HasShape table shape p.1
  unfolding HasShape
  child-shape n shape c x p h here =
      let e : slice_get h.0 c ≡ Some p = sym (ap (λ o. slice_get (pairs_of o) c) h.1.here) ∙ here in
      (h.3.left c p e, h.3.right c p e)

  either : (P : ℕ → Type 0) (y a b : ℕ) → (y ≡ a) ⊎ (y ≡ b) → P a × P b → P y
  either P y a b (inl e) h = subst P (sym e) h.0
  either P y a b (inr e) h = subst P (sym e) h.1

  pub level-step : (c n : ℕ) (left : List ℕ) (rest below : ℕ → List ℕ) (m to : Macro) → IsBelow rest below → IsOfLevel table (n ∷ left) rest m → IsBack table c m to
      → IsOfLevel table left below to
  level-step c n left rest below m to under h back = record {
    domain = λ y listed.
        let k = back.domain y listed in
        either (HasShape table left) y k.pair.0 k.pair.1 k.is (child-shape n left c k.parent k.pair (h.domain k.parent k.listed) k.here);
    deep = λ j t here.
        let f = back.sources j t here in
        let s = one-more (rest f.rel.goal) (length left) (h.deep f.number f.rel f.here ∙ omega arith) in
        let e : below t.goal ≡ s.1 = ap below f.is.same_goal ∙ under.later f.rel.goal s.0 s.1 s.2 in
        let d : length (s.0 ∷ s.1) ≡ length (n ∷ left) = ap (λ (l : List ℕ). length l) (sym s.2) ∙ h.deep f.number f.rel f.here in
        ap (λ (l : List ℕ). length l) e ∙ omega (arith, d);
    pairs = λ j t p here listed.
        let f = back.sources j t here in
        let k = f.is.only p listed in
        let s = one-more (rest f.rel.goal) (length left) (h.deep f.number f.rel f.here ∙ omega arith) in
        let e : below t.goal ≡ s.1 = ap below f.is.same_goal ∙ under.later f.rel.goal s.0 s.1 s.2 in
        let shapes = h.pairs f.number f.rel k.parent f.here k.listed in
        let a = child-shape n left c k.parent.0 k.left shapes.0 k.left_here in
        let b = child-shape s.0 s.1 f.choice k.parent.1 k.right (subst (λ l. HasShape table l k.parent.1) s.2 shapes.1) k.right_here in (
          either (HasShape table left) p.0 k.left.0 k.left.1 (firsts p k.left k.right k.is) a,
          subst (λ l. HasShape table l p.1) (sym e) (either (HasShape table s.1) p.1 k.right.0 k.right.1 (seconds p k.left k.right k.is) b),
        );
  }
    where
      firsts : (q l r : ℕ × ℕ) → (q ≡ (l.0, r.0)) ⊎ (q ≡ (l.1, r.1)) → (q.0 ≡ l.0) ⊎ (q.0 ≡ l.1)
      firsts q l r (inl e) = inl (ap (λ (z : ℕ × ℕ). z.0) e)
      firsts q l r (inr e) = inr (ap (λ (z : ℕ × ℕ). z.0) e)

      seconds : (q l r : ℕ × ℕ) → (q ≡ (l.0, r.0)) ⊎ (q ≡ (l.1, r.1)) → (q.1 ≡ r.0) ⊎ (q.1 ≡ r.1)
      seconds q l r (inl e) = inl (ap (λ (z : ℕ × ℕ). z.1) e)
      seconds q l r (inr e) = inr (ap (λ (z : ℕ × ℕ). z.1) e)

  -- the macro that a step makes is of the next level
  pub stepped-level : (parts : L → List Amplitude) (shape : List ℕ) (goals : List Lsta) (level c : ℕ) (m : Macro) (s : Stepped) → level < length shape → IsOfLevel table (drop level shape) (goal_rest goals level) m
      → IsStepped parts table c (goal_rest goals level) (goal_rest goals (level + 1)) m s → IsOfLevel table (drop (level + 1) shape) (goal_rest goals (level + 1)) s.to
  stepped-level parts shape goals level c m s less h k =
      level-step c (get_or shape level 0) (drop (level + 1) shape) (goal_rest goals level) (goal_rest goals (level + 1)) m s.to (goals_below goals level)
      (subst (λ l. IsOfLevel table l (goal_rest goals level) m) (drop_more shape level 0 less) h) k.back

  -- the choices that were followed hold each word
  pub earlier-hold : (parts : L → List Amplitude) (shape : List ℕ) (goals : List Lsta) (level done : ℕ) (m : Macro) (t : Table) (edges : List Edge) → level < length shape → done ≤ get_or shape level 0
      → IsOfLevel table (drop level shape) (goal_rest goals level) m → IsTable parts table shape goals t → length edges ≡ done
      → ((c : ℕ) (e : Edge) → slice_get edges c ≡ Some e → Leads table shape goals level c m t e)
      → (d : ℕ) (word : List ℕ) → d < done → IsHeld parts table (goal_rest goals level) m (d ∷ word)
  earlier-hold parts shape goals level done m t edges inside all h k count leads d word less =
      let e = slice_get-some edges d (omega (arith, count)) in
      leads-holds parts table shape goals level d (get_or shape level 0) (drop (level + 1) shape) m t e.0 (drop_more shape level 0 inside) (omega arith)
      (subst (λ l. IsOfLevel table l (goal_rest goals level) m) (drop_more shape level 0 inside) h) k (leads d e.0 e.1) word

  -- the first word below, with the choice before it
  pub least-turn : (parts : L → List Amplitude) (count : ℕ) (all_parts : (x : L) → length (parts x) ≡ count) (shape : List ℕ) (goals : List Lsta) (level c : ℕ) (m : Macro) (s : Stepped)
      → level < length shape → c < slice_index (drop level shape) 0 → IsOfLevel table (drop level shape) (goal_rest goals level) m
      → IsStepped parts table c (goal_rest goals level) (goal_rest goals (level + 1)) m s
      → ((d : ℕ) (word : List ℕ) → d < c → IsHeld parts table (goal_rest goals level) m (d ∷ word)) → (word whole : List ℕ) → whole ≡ c ∷ word
      → IsLeast parts table (drop (level + 1) shape) (goal_rest goals (level + 1)) s.to word → IsLeast parts table (drop level shape) (goal_rest goals level) m whole
  least-turn parts count all_parts shape goals level c m s inside less h k before word whole is least =
      let split = drop_more shape level 0 inside in
      let below : c < get_or shape level 0 = subst (λ (l : List ℕ). c < slice_index l 0) split less in
      subst (λ w. IsLeast parts table (drop level shape) (goal_rest goals level) m w) (sym is)
      (subst (λ l. IsLeast parts table l (goal_rest goals level) m (c ∷ word)) (sym split)
      (least-step parts count all_parts table c (get_or shape level 0) (drop (level + 1) shape) (goal_rest goals level) (goal_rest goals (level + 1)) m s.to s.from below (goals_below goals level)
      (subst (λ l. IsOfLevel table l (goal_rest goals level) m) split h) k.edge k.back
      (k.keeps (get_or shape level 0) (drop (level + 1) shape) (subst (λ l. IsOfLevel table l (goal_rest goals level) m) split h) below) before word least))

-- ---- the last level

no-words : (xs : List ℕ) → length xs ≡ 0 → words xs ≡ 1
no-words [] e = refl
no-words (x ∷ xs) e = absurd (omega arith)

ends-each : (rest : ℕ → List ℕ) (rels : List Rel) → ((k : ℕ) (rel : Rel) → slice_get rels k ≡ Some rel → length (rest rel.goal) ≡ 0)
    → sum_by (λ (r : Rel). length r.pairs) rels ≤ sum_by (rel_weight rest) rels
ends-each rest [] f = omega arith
ends-each rest (r ∷ rels) f =
    let one : length r.pairs * words (rest r.goal) ≡ length r.pairs * 1 = ap (λ z. length r.pairs * z) (no-words (rest r.goal) (f 0 r refl)) in
    omega (arith, sum_by-cons (λ (q : Rel). length q.pairs) r rels, sum_by-cons (rel_weight rest) r rels, one, ends-each rest rels (λ k rel e. f (suc k) rel e))

pub ends-cheap : {L : Type 0} (table : List (Node L)) (rest : ℕ → List ℕ) (m : Macro) → IsOfLevel table [] rest m → sum_by (λ (r : Rel). length r.pairs) m.rels ≤ weight rest m
ends-cheap table rest m h = omega (arith, ends-each rest m.rels (λ k rel e. h.deep k rel e))

pub end-budget : (shape : List ℕ) (level w : ℕ) → length shape ≤ level → budget (drop level shape) w ≡ w
unfolding budget
end-budget shape level w past = ap (λ s. budget s w) (drop_all level shape past)

none-before : (word : List ℕ) → ¬ (IsBefore word [])
unfolding IsBefore
none-before [] b = b
none-before (c ∷ word) b = b

empty-word : IsWord [] []
empty-word = tt

module _ {L : Type 0} (parts : L → List Amplitude) (table : List (Node L)) where
  pub not-wide : (m : Macro) (e : Stop L) → IsNotWide e → StopsWide parts table m e
  not-wide m stop.Spent h = tt
  not-wide m (stop.Wide l r) h = absurd h
  not-wide m (stop.WideParts l r) h = absurd h
  not-wide m stop.Memory h = tt

  pub stops-back : (c : ℕ) (rest : ℕ → List ℕ) (m to : Macro) (e : Stop L) → IsBack table c m to → StopsWide parts table to e → StopsWide parts table m e
  stops-back c rest m to stop.Spent back h = tt
  stops-back c rest m to (stop.Wide l r) back h = absurd h
  stops-back c rest m to (stop.WideParts l r) back h = wide-step parts table c rest m to l r back h
  stops-back c rest m to stop.Memory back h = tt

  pub least-end : (sh : List ℕ) (rest : ℕ → List ℕ) (m : Macro) (word : List ℕ) → sh ≡ [] → IsOfLevel table [] rest m → Ends parts table m None → word ≡ [] → IsLeast parts table sh rest m word
  least-end sh rest m word e level ends w =
      subst (λ s. IsLeast parts table s rest m word) (sym e) (subst (λ v. IsLeast parts table [] rest m v) (sym w) (record {
        is_word = empty-word;
        escapes = no-end parts table rest m level ends.0 ends.1;
        least = λ earlier b. absurd (none-before earlier b);
      }))
