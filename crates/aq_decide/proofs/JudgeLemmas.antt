-- What is told of worlds, one after the other.
use Rattle.std.proofs.Common.{◌≡◌, ℕ, zero, suc, Bool, true, false, cond, Result, Ok, Err, IfOk, IfErr, ◌+◌, ◌*◌, ◌^◌, ◌<◌, ◌≤◌, List, [], ◌∷◌, ◌++◌, length, take, drop, get_or, slice_get, Some, All, Contains, refl, sym, ap, ◌∙◌, subst, arith}
use Rattle.std.specs.List.{AllZip, sum_by}
use Rattle.std.proofs.Math.Nat.{mul-le-mul_left, mul-le-mul_right}
use Rattle.std.proofs.Math.Seq.{take-length}
use Rattle.std.proofs.lemmas.List.{length-append, take_more}
use Rattle.std.proofs.lemmas.List.Elements.{All-contains, All-more, All-nil, All-weaker}
use Rattle.std.proofs.lemmas.List.Sums.{count_by-le-length, length-filter, sum_by-cons, sum_by-take-le, sum_by_more, sum_by_push}
use Rattle.std.proofs.lemmas.Option.{get_or_from_slice_get, slice_get_within}
use Rattle.aq_ring.specs.Fractions.{Amplitude}
use Rattle.aq_prog.specs.declared.program.Program.{Program}
use Rattle.aq_sets.specs.Sizes.{place, size_of}
use Rattle.aq_sets.specs.Vectors.{vectors_of}
use Rattle.aq_sets.specs.declared.sets.Sets.{Sets}
use Rattle.aq_sets.proofs.SizeLaws.{has_count, has_shape}
use Rattle.aq_store.specs.Count.{Count}
use Rattle.aq_store.specs.Nodes.{vector_of}
use Rattle.aq_store.specs.Words.{IsWord, words}
use Rattle.aq_store.specs.declared.lsta.Lsta.{Lsta}
use Rattle.aq_store.specs.declared.store.Stop.{Stop}
use Rattle.aq_store.specs.declared.store.Stop.TheVariants.{Spent, Wide, WideParts, Memory}
use Rattle.aq_cert.specs.Goals.{FitTogether}
use Rattle.aq_cert.specs.declared.cert.Cert.{Cert}
use Rattle.aq_include.specs.Answers.{Answers, IsPaid, StopsFor, cert_size, goal_words, search_budget}
use Rattle.aq_include.specs.Costs.{IsCause, Takes}
use Rattle.aq_include.specs.declared.inclusion.Answer.{Answer}
use Rattle.aq_include.specs.declared.inclusion.Answer.TheVariants as answer
use Rattle.aq_obligations.specs.Asking.{meaning_of}
use Rattle.aq_obligations.specs.Bound.{IsBoundCase}
use Rattle.aq_obligations.specs.Claims.{ClaimCase, are_met}
use Rattle.aq_obligations.specs.Enough.{words_of}
use Rattle.aq_obligations.specs.Wide.{WideComparison}
use Rattle.aq_obligations.specs.Worlds.{IsKept, Partial, filled, worlds}
use Rattle.aq_obligations.specs.Worlds as meant
use Rattle.aq_obligations.specs.declared.bound.BoundCase.{BoundCase}
use Rattle.aq_obligations.specs.declared.bound.Obligation.{Obligation}
use Rattle.aq_correct.specs.WorldLaws.{WorldsCompare, WorldsCoverRuns}
use Rattle.aq_decide.specs.Asked.{CanBeDecided}
use Rattle.aq_set_build.specs.Listing.{IsBuilt}
use Rattle.aq_set_build.specs.Tensors.{Table}
use Rattle.aq_set_build.proofs.CoverLemmas.{valid_exprs}
use Rattle.aq_symbolic.specs.Weights.{price}
use Rattle.aq_symbolic.specs.declared.kept.World.{World}
use Rattle.aq_decide.specs.Budgets.{goal_words_of, judge_budget, prices}
use Rattle.aq_decide.specs.Deciding.{AreKept, IsCertified, IsFirstEscape}
use Rattle.aq_decide.specs.Goals.{AreBuilt, met_cases}
use Rattle.aq_decide.specs.Judging.{IsPaidWithin, Tells}
use Rattle.aq_decide.specs.Kept.{AreWorlds, IsWorld, alone}
use Rattle.aq_decide.specs.Stops.{GivesUpFor}
use Rattle.aq_decide.proofs.Elements.{filter_out, get_at, get_contains, some_is, zip_left, zip_length, zip_push, zip_right}
use Rattle.aq_decide.proofs.KeptLemmas.{cut, escape_of, kept_of, wide_of}

-- ---- what a call gives
pub ok_map : {T E : Type 0} (P Q : T → Type 0) → ((a : T) → P a → Q a) → (r : Result T E) → IfOk r P → IfOk r Q
ok_map P Q f (Ok a) h = f a h
ok_map P Q f (Err e) h = tt

pub err_map : {T E : Type 0} (P Q R : E → Type 0) → ((e : E) → P e → Q e → R e) → (r : Result T E) → IfErr r P → IfErr r Q → IfErr r R
err_map P Q R f (Ok a) h g = tt
err_map P Q R f (Err e) h g = f e h g

pub met_built : (s : Sets) (table : Table) (cases cs : List BoundCase) (goals met met_now : List Lsta) (bits bs : Partial) → cs ≡ cases → bs ≡ bits → met_now ≡ met → AreBuilt s cases table goals
    → ((t : Sets) (u : Table) → AreBuilt t cs u goals → AreBuilt t (met_cases cs bs) u met) → AreBuilt s (met_cases cases bits) table met_now
met_built s table cases cs goals met met_now bits bs e i n built f =
    let a = f s table (subst (λ (l : List BoundCase). AreBuilt s l table goals) (sym e) built) in
    subst (λ (l : List Lsta). AreBuilt s (met_cases cases bits) table l) (sym n)
    (subst (λ (b : Partial). AreBuilt s (met_cases cases b) table met) i (subst (λ (l : List BoundCase). AreBuilt s (met_cases l bs) table met) e a))

-- ---- one world
module _ (p : Program) (s : Sets) (o : Obligation) (asked : CanBeDecided p s o) (table : Table) (w : World) (met : List Lsta) (built : AreBuilt s (met_cases o.goal.cases w.bits) table met) where
  bound_of : (u : meant.World) (i : IsWorld s o.from table w u) → IsBoundCase p s i.bound
  bound_of u i = All-contains (IsBoundCase p s) o.from i.bound asked.bound.from (get_contains o.from w.case i.bound i.number)

  levels_of : (c : BoundCase) → IsBoundCase p s c → length (size_of s.exprs c.set).shape ≡ p.qubits
  levels_of c b = has_shape s.exprs (valid_exprs s asked.sets) c.set b.there ∙ b.qubits

  goal_bound : (c : BoundCase) → Contains (met_cases o.goal.cases w.bits) c → IsBoundCase p s c
  goal_bound c h = All-contains (IsBoundCase p s) o.goal.cases c asked.bound.goal (filter_out (λ (d : BoundCase). are_met d.when (filled w.bits)) o.goal.cases c h).0

  of_goal : (g : ℕ) (goal : Lsta) → slice_get met g ≡ Some goal → (c : BoundCase) × IsBoundCase p s c × IsBuilt s.exprs c.set table goal
  of_goal g goal e =
      let z = zip_right (λ (c : BoundCase) (m : Lsta). IsBuilt s.exprs c.set table m) (met_cases o.goal.cases w.bits) met g goal built e in
      (z.0, goal_bound z.0 (get_contains (met_cases o.goal.cases w.bits) g z.0 z.1), z.2)

  pub fit_together : (u : meant.World) → IsWorld s o.from table w u → FitTogether table w.lsta met
  fit_together u i =
      let left = ap length i.is.vectors.shape ∙ levels_of i.bound (bound_of u i) in
      record {
        left_fits = i.is.vectors.fits_store;
        goals_fit = λ g goal e. (of_goal g goal e).2.fits_store;
        one_length = λ g goal e. (let a = of_goal g goal e in ap length a.2.shape ∙ levels_of a.0 a.1 ∙ sym left);
      }

  counted : (d : BoundCase) → d.set < length s.exprs → length (vectors_of s.exprs d.set) ≡ (size_of s.exprs d.set).count
  counted d there = has_count s.exprs (valid_exprs s asked.sets) d.set there

  built_for : (u : meant.World) → IsWorld s o.from table w u → AreBuilt s (met_cases o.goal.cases u.bits) table met
  built_for u i = subst (λ (b : Partial). AreBuilt s (met_cases o.goal.cases b) table met) (sym i.is.bits) built

  long : WorldsCoverRuns → (u : meant.World) → Contains (worlds (meaning_of p s o)) u → (i : IsWorld s o.from table w u) → length u.vectors ≡ (size_of s.exprs i.bound.set).count
  long law u there i =
      (law.sized (meaning_of p s o) u asked.bound.uncut there).1 ∙ ap (λ c. length c.vectors) i.is.case ∙ counted i.bound (bound_of u i).there

  pub tells : WorldsCoverRuns → (a : Answer) → Answers alone table w.lsta met a → (u : meant.World) → Contains (worlds (meaning_of p s o)) u → (i : IsWorld s o.from table w u) → Tells p s o i.bound u a
  tells law (answer.Included cert) h u there i = (
    record {
      case = i.bound;
      of_case = i.is.case;
      table = table;
      left = w.lsta;
      goals = met;
      has_vectors = i.is.vectors;
      are_goals = built_for u i;
      fit = fit_together u i;
      valid = h.0;
    },
    kept_of s asked.sets table p o i.bound (bound_of u i).there u w.lsta met i.is.vectors (long law u there i) (built_for u i) h.1,
  )
  tells law (answer.Escapes word) h u there i = (
    subst (λ t. IsWord t word) i.is.vectors.shape h.is_word,
    escape_of s asked.sets table p o i.bound (bound_of u i).there u w.lsta met i.is.vectors (long law u there i) (built_for u i) word
        (All-weaker (IsBoundCase p s) (λ (d : BoundCase). d.set < length s.exprs) (λ d b. b.there) o.goal.cases asked.bound.goal) counted h,
  )

  -- ---- what it takes
  words_within : (cases : List BoundCase) (list : List Lsta) → AreBuilt s (met_cases cases w.bits) table list → goal_words list ≤ sum_by (words_of s) cases
  words_within cases list b =
      let a = words_are (met_cases cases w.bits) list b in
      let c = fewer cases in
      omega (arith, a, c)
    where
      words_are : (cs : List BoundCase) (ls : List Lsta) → AreBuilt s cs table ls → goal_words ls ≡ sum_by (words_of s) cs
      words_are [] [] h = refl
      words_are [] (l ∷ ls) h = absurd h
      words_are (c ∷ cs) [] h = absurd h
      words_are (c ∷ cs) (l ∷ ls) h =
          let x = sum_by-cons (λ (goal : Lsta). words goal.shape.items) l ls in
          let y = sum_by-cons (words_of s) c cs in
          let e = ap words h.0.shape in
          let rest = words_are cs ls h.1 in
          omega (arith, x, y, e, rest)

      fewer : (cs : List BoundCase) → sum_by (words_of s) (met_cases cs w.bits) ≤ sum_by (words_of s) cs
      fewer [] = omega arith
      fewer (c ∷ cs) = by (are_met c.when (filled w.bits)) (fewer cs)
        where
          by : (t : Bool) → sum_by (words_of s) (met_cases cs w.bits) ≤ sum_by (words_of s) cs
              → sum_by (words_of s) (cond t (c ∷ met_cases cs w.bits) (met_cases cs w.bits)) ≤ sum_by (words_of s) (c ∷ cs)
          by true rest = let x = sum_by-cons (words_of s) c (met_cases cs w.bits) in let y = sum_by-cons (words_of s) c cs in omega (arith, x, y, rest)
          by false rest = let y = sum_by-cons (words_of s) c cs in omega (arith, y, rest)

  few_goals : length met ≤ length o.goal.cases
  few_goals =
      let a = zip_length (λ (c : BoundCase) (m : Lsta). IsBuilt s.exprs c.set table m) (met_cases o.goal.cases w.bits) met built in
      let b = length-filter (λ (d : BoundCase). are_met d.when (filled w.bits)) o.goal.cases in
      let c = count_by-le-length (λ (d : BoundCase). are_met d.when (filled w.bits)) o.goal.cases in
      omega (arith, a, b, c)

  pub few_met : (n : ℕ) → length o.goal.cases < n → length met < n
  few_met n lt = let a = few_goals in omega (arith, a, lt)

  pub budget_within : search_budget w.lsta met ≤ judge_budget s o (w ∷ [])
  budget_within =
      let shape = w.lsta.shape.items in
      let a = words shape in
      let n = 2 ^ length shape in
      let g = goal_words met in
      let V = goal_words_of s o in
      let le = words_within o.goal.cases met built in
      let b : a * n * (1 + g) ≤ a * n * (1 + V) = mul-le-mul_left (a * n) (let x : 1 + g ≤ 1 + V = omega (arith, le) in x) in
      let e : length shape + 1 ≡ suc (length shape) = omega arith in
      let two : 2 ^ (length shape + 1) ≡ 2 * n = ap (λ k. 2 ^ k) e ∙ power (length shape) in
      let c : price shape * (1 + V) ≡ a * (2 * n) * (1 + V) = ap (λ k. a * k * (1 + V)) two in
      let d : a * (2 * n) * (1 + V) ≡ 2 * (a * n * (1 + V)) = omega arith in
      let f : 2 * (a * (1 + g) * n) ≡ 2 * (a * n * (1 + g)) = omega arith in
      let h = sum_by-cons (λ (x : World). price x.lsta.shape.items) w [] in
      let i : prices (w ∷ []) * (1 + V) ≡ price shape * (1 + V) = ap (λ k. k * (1 + V)) (h ∙ (omega arith)) in
      omega (arith, b, c, d, f, i)
    where
      power : (m : ℕ) → 2 ^ suc m ≡ 2 * 2 ^ m
      power m = simp native.Mathlib.Numerals.unary_clauses (omega arith)

  pub takes_within : (before now : Count) → Takes (search_budget w.lsta met) before now → Takes (judge_budget s o (w ∷ [])) before now
  takes_within before now t = record { later = t.later; cheap = (let a = budget_within in omega (arith, a, t.cheap)); same = t.same }

  pub paid_within : (before now : Count) (a : Answer) → IsPaid met before now a → IsPaidWithin (length o.goal.cases) before now a
  paid_within before now (answer.Included cert) h = let a = few_goals in omega (arith, a, h)
  paid_within before now (answer.Escapes word) h = tt

  pub judge_stops : WorldsCoverRuns → WorldsCompare → (u : meant.World) → Contains (worlds (meaning_of p s o)) u → IsWorld s o.from table w u → (before : Count) (why : Stop Amplitude)
      → StopsFor alone table w.lsta met why → IsCause (search_budget w.lsta met) before why → GivesUpFor (WideComparison (meaning_of p s o)) (judge_budget s o (w ∷ [])) before why
  judge_stops cover law u there i before Spent h c = let a = budget_within in omega (arith, a, c)
  judge_stops cover law u there i before (Wide l r) h c = absurd h
  judge_stops cover law u there i before (WideParts l r) h c =
      wide_of s asked.sets table p o i.bound (bound_of u i).there u w.lsta met i.is.vectors (long cover u there i) (built_for u i) law asked.bound.uncut there l r h
  judge_stops cover law u there i before Memory h c = tt

-- ---- several worlds
module _ (p : Program) (s : Sets) (o : Obligation) (table : Table) where
  -- what is known once some of the worlds are judged
  pub record AreJudged (k : ℕ) (ws : List World) (before now : Count) (certs : List Cert) : Type 0 where
    pub certified : AllZip (IsCertified s o) (take k (worlds (meaning_of p s o))) certs
    pub kept : AreKept (meaning_of p s o) (take k (worlds (meaning_of p s o)))
    pub paid : sum_by cert_size certs + 2 * before.taken ≤ 2 * now.taken + length certs * (1 + length o.goal.cases)
    pub takes : Takes (judge_budget s o (take k ws)) before now

  -- the world at a position, and which one it is
  pub world_at : (ws : List World) (k : ℕ) (w : World) → AreWorlds s o.from table ws (worlds (meaning_of p s o)) → k < length ws → w ≡ get_or ws k w
      → (u : meant.World) × (slice_get (worlds (meaning_of p s o)) k ≡ Some u) × IsWorld s o.from table w u
  world_at ws k w all lt e = zip_left (IsWorld s o.from table) ws (worlds (meaning_of p s o)) k w all (got ws k w lt (sym e))
    where
      got : (xs : List World) (j : ℕ) (x : World) → j < length xs → get_or xs j x ≡ x → slice_get xs j ≡ Some x
      got [] j x l i = absurd (omega (arith, l))
      got (y ∷ xs) zero x l i = ap Some i
      got (y ∷ xs) (suc j) x l i = got xs j x (omega (arith, l)) i

  pub none_judged : (ws : List World) (count : Count) → AreJudged 0 ws count count []
  none_judged ws count = record {
    certified = tt;
    kept = All-nil (λ (w : meant.World). All (IsKept (meaning_of p s o) w) w.vectors);
    paid = omega arith;
    takes = record { later = omega arith; cheap = omega arith; same = refl };
  }

  budget_more : (ws : List World) (k : ℕ) (w : World) → k < length ws → w ≡ get_or ws k w → judge_budget s o (take k ws) + judge_budget s o (w ∷ []) ≡ judge_budget s o (take (k + 1) ws)
  budget_more ws k w lt e =
      let f : World → ℕ = λ x. price x.lsta.shape.items in
      let V = goal_words_of s o in
      let a = sum_by_more f ws k w lt in
      let b = ap f e in
      let c = sum_by-cons f w [] in
      let d : prices (take (k + 1) ws) ≡ prices (take k ws) + prices (w ∷ []) = omega (arith, a, b, c) in
      let i : prices (take (k + 1) ws) * (1 + V) ≡ (prices (take k ws) + prices (w ∷ [])) * (1 + V) = ap (λ n. n * (1 + V)) d in
      let j : (prices (take k ws) + prices (w ∷ [])) * (1 + V) ≡ prices (take k ws) * (1 + V) + prices (w ∷ []) * (1 + V) = omega arith in
      omega (arith, i, j)

  budget_le : (ws : List World) (k : ℕ) → judge_budget s o (take k ws) ≤ judge_budget s o ws
  budget_le ws k = mul-le-mul_right (1 + goal_words_of s o) (sum_by-take-le (λ (x : World). price x.lsta.shape.items) ws k)

  budget_more_le : (ws : List World) (k : ℕ) (w : World) → k < length ws → w ≡ get_or ws k w → judge_budget s o (take k ws) + judge_budget s o (w ∷ []) ≤ judge_budget s o ws
  budget_more_le ws k w lt e = let a = budget_more ws k w lt e in let b = budget_le ws (k + 1) in omega (arith, a, b)

  takes_next : (ws : List World) (k : ℕ) (w : World) (a b c : Count) → k < length ws → w ≡ get_or ws k w → Takes (judge_budget s o (take k ws)) a b → Takes (judge_budget s o (w ∷ [])) b c
      → Takes (judge_budget s o (take (k + 1) ws)) a c
  takes_next ws k w a b c lt e f g = record {
    later = omega (arith, f.later, g.later);
    cheap = (let m = budget_more ws k w lt e in omega (arith, m, f.cheap, g.cheap));
    same = g.same ∙ f.same;
  }

  pub takes_all : (ws : List World) (k : ℕ) (a b : Count) → Takes (judge_budget s o (take k ws)) a b → Takes (judge_budget s o ws) a b
  takes_all ws k a b t = record { later = t.later; cheap = (let m = budget_le ws k in omega (arith, m, t.cheap)); same = t.same }

  pub takes_more : (ws : List World) (k : ℕ) (w : World) (a b c : Count) → k < length ws → w ≡ get_or ws k w → Takes (judge_budget s o (take k ws)) a b → Takes (judge_budget s o (w ∷ [])) b c
      → Takes (judge_budget s o ws) a c
  takes_more ws k w a b c lt e f g = takes_all ws (k + 1) a c (takes_next ws k w a b c lt e f g)

  cut_at : (us : List meant.World) (k : ℕ) (u : meant.World) → slice_get us k ≡ Some u → take (k + 1) us ≡ take k us ++ u ∷ []
  cut_at us k u e =
      take_more us k u (slice_get_within us k u e) ∙ ap (λ (x : meant.World). take k us ++ x ∷ []) (get_or_from_slice_get us k u u e)

  pub judged_more : (ws : List World) (k j : ℕ) (w : World) (u : meant.World) (a b c : Count) (certs next : List Cert) (cert : Cert) → j ≡ k + 1 → next ≡ certs ++ cert ∷ [] → k < length ws → w ≡ get_or ws k w
      → slice_get (worlds (meaning_of p s o)) k ≡ Some u → AreJudged k ws a b certs → IsCertified s o u cert → All (IsKept (meaning_of p s o) u) u.vectors
      → IsPaidWithin (length o.goal.cases) b c (answer.Included cert) → Takes (judge_budget s o (w ∷ [])) b c → AreJudged j ws a c next
  judged_more ws k j w u a b c certs next cert ej en lt e at h certified kept paid takes =
      let us = worlds (meaning_of p s o) in
      let cut = cut_at us k u at in
      let x = sum_by_push cert_size certs cert in
      let y : length (certs ++ cert ∷ []) ≡ length certs + 1 = length-append certs (cert ∷ []) in
      let z : length (certs ++ cert ∷ []) * (1 + length o.goal.cases) ≡ length certs * (1 + length o.goal.cases) + (1 + length o.goal.cases)
      = ap (λ n. n * (1 + length o.goal.cases)) y ∙ (omega arith) in
      let here : AreJudged (k + 1) ws a c (certs ++ cert ∷ []) = record {
        certified = subst (λ l. AllZip (IsCertified s o) l (certs ++ cert ∷ [])) (sym cut) (zip_push (IsCertified s o) (take k us) certs u cert h.certified certified);
        kept = All-more (λ (v : meant.World). All (IsKept (meaning_of p s o) v) v.vectors) us k u (slice_get_within us k u at) h.kept
            (subst (λ (v : meant.World). All (IsKept (meaning_of p s o) v) v.vectors) (sym (get_or_from_slice_get us k u u at)) kept);
        paid = omega (arith, x, z, h.paid, paid);
        takes = takes_next ws k w a b c lt e h.takes takes;
      } in
      subst (λ (l : List Cert). AreJudged j ws a c l) (sym en) (subst (λ (i : ℕ). AreJudged i ws a c (certs ++ cert ∷ [])) (sym ej) here)

  -- the automaton of the world's case
  source_of : (sources : List Lsta) (w : World) (u : meant.World) → AreBuilt s o.from table sources → (i : IsWorld s o.from table w u)
      → (made : Lsta) × (slice_get sources w.case ≡ Some made) × IsBuilt s.exprs i.bound.set table made
  source_of sources w u built i = zip_left (λ (c : BoundCase) (made : Lsta). IsBuilt s.exprs c.set table made) o.from sources w.case i.bound built i.number

  pub source_there : (sources : List Lsta) (w : World) (u : meant.World) → AreBuilt s o.from table sources → IsWorld s o.from table w u → w.case < length sources
  source_there sources w u built i = let z = source_of sources w u built i in slice_get_within sources w.case z.0 z.1

  pub source_built : (sources : List Lsta) (w : World) (u : meant.World) (made : Lsta) → AreBuilt s o.from table sources → made ≡ get_or sources w.case made → (i : IsWorld s o.from table w u) → IsBuilt s.exprs i.bound.set table made
  source_built sources w u made built e i =
      let z = source_of sources w u built i in
      subst (λ (l : Lsta). IsBuilt s.exprs i.bound.set table l) (some_is z.0 made (sym z.1 ∙ get_at sources w.case made (source_there sources w u built i) e)) z.2

  pub judged_escape : (ws : List World) (k : ℕ) (w : World) (u : meant.World) (a b : Count) (certs : List Cert) (word : List ℕ) (made : Lsta) → slice_get (worlds (meaning_of p s o)) k ≡ Some u → AreJudged k ws a b certs
      → (i : IsWorld s o.from table w u) → IsBuilt s.exprs i.bound.set table made → Tells p s o i.bound u (answer.Escapes word) → IsFirstEscape p s o w word (vector_of table made word)
  judged_escape ws k w u a b certs word made at h i built t =
      let us = worlds (meaning_of p s o) in
      record {
        earlier = take k us;
        world = u;
        later = drop (suc k) us;
        worlds_are = cut us k u at;
        earlier_kept = h.kept;
        case = i.bound;
        number = i.number;
        of_case = i.is.case;
        start = i.is.start;
        bits = i.is.bits;
        outcomes = i.is.outcomes;
        is_word = t.0;
        escape = t.1;
        state_is = ap (λ (c : ClaimCase). slice_get c.vectors (place s.exprs i.bound.set word)) i.is.case ∙ built.words word t.0;
      }

  pub judged_stops : (ws : List World) (k : ℕ) (w : World) (a b : Count) (certs : List Cert) (W : Type 0) (why : Stop Amplitude) → k < length ws → w ≡ get_or ws k w → AreJudged k ws a b certs
      → GivesUpFor W (judge_budget s o (w ∷ [])) b why → GivesUpFor W (judge_budget s o ws) a why
  judged_stops ws k w a b certs W why lt e h g = by why g (budget_more_le ws k w lt e) h.takes
    where
      by : (why : Stop Amplitude) → GivesUpFor W (judge_budget s o (w ∷ [])) b why → judge_budget s o (take k ws) + judge_budget s o (w ∷ []) ≤ judge_budget s o ws → Takes (judge_budget s o (take k ws)) a b
          → GivesUpFor W (judge_budget s o ws) a why
      by Spent g le t = omega (arith, g, le, t.cheap, t.same)
      by (Wide l r) g le t = g
      by (WideParts l r) g le t = g
      by Memory g le t = tt

  pub judged_end : (ws : List World) (k : ℕ) (a b : Count) (certs : List Cert) → AreWorlds s o.from table ws (worlds (meaning_of p s o)) → k ≡ length ws → AreJudged k ws a b certs
      → (AllZip (IsCertified s o) (worlds (meaning_of p s o)) certs × AreKept (meaning_of p s o) (worlds (meaning_of p s o))) × Takes (judge_budget s o ws) a b
  judged_end ws k a b certs all e h =
      let us = worlds (meaning_of p s o) in
      let whole : take k us ≡ us = ap (λ n. take n us) (e ∙ zip_length (IsWorld s o.from table) ws us all) ∙ take-length us in (
        (subst (λ l. AllZip (IsCertified s o) l certs) whole h.certified, subst (AreKept (meaning_of p s o)) whole h.kept),
        takes_all ws k a b h.takes,
      )
