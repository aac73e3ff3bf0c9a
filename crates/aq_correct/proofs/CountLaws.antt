-- How many obligations there are, and how many statements their fragments have.
use Rattle.std.proofs.Common.{◌≡◌, ℕ, suc, ◌+◌, ◌*◌, Bool, true, false, cond, List, [], ◌∷◌, ◌++◌, map, length, sum_by, Some, None, refl, ap, sym, ◌∙◌, subst, arith, length-append}
use Rattle.std.specs.List.{AllByRecursion}
use Rattle.std.proofs.lemmas.List.Sums.{sum_by-append, sum_by-cons}
use Rattle.aq_prog.specs.declared.stmt.Guard.{Guard}
use Rattle.aq_prog.specs.declared.stmt.Stmt.{Stmt, fold-Stmt}
use Rattle.aq_prog.specs.declared.stmt.Stmt.TheVariants as stmt
use Rattle.aq_prog.specs.Cuts.{has_cut, cut_step}
use Rattle.aq_obligations.specs.Enough.{statements, statements_step}
use Rattle.aq_obligations.specs.Owing.{Here, Owed, Debt, opposite, fresh, further, owed, at_end, owes, owes_all, claim_at}
use Rattle.aq_obligations.specs.OwingCounts.{Number, number_step, number, numbers, Total, Totals, with_statement, branch_total, total_step, total, totals, firsts, OwesSoMany}
use Rattle.aq_obligations.specs.declared.kind.Kind.{Kind}
use Rattle.aq_obligations.specs.declared.kind.Kind.TheVariants as kinds
use Rattle.aq_correct.proofs.StmtLaws.{fold-gate, fold-measure, fold-reset, fold-assume, para-gate, para-measure, para-reset, para-if, para-while, para-assert, para-assume, by_induction}
use Rattle.aq_correct.proofs.OwingProofs.{owes-loop, owes-assert, owes-branch, owes-plain, assume_uncut}

firsts_are : {A : Type 0} (f : Stmt → A) (body : List Stmt) → firsts (map (λ s. (s, f s)) body) ≡ body
firsts_are f [] = refl
firsts_are f (s ∷ body) = ap (λ (l : List Stmt). s ∷ l) (firsts_are f body)

-- ---- statements
statements-further : (xs : List Stmt) (s : Stmt) → statements (xs ++ s ∷ []) ≡ statements xs + statements (s ∷ [])
statements-further xs s = sum_by-append (fold-Stmt ℕ statements_step) xs (s ∷ [])

one_statement : (g : Guard) → statements (stmt.Assume g ∷ []) ≡ 1
one_statement g = let e = fold-assume ℕ statements_step g in omega (arith, e)

module _ (B : Type 0) (claims : ℕ → List B) where
  -- ---- how many
  MakesSo : Debt B → ℕ → Type 0
  MakesSo debt r = (h : Here B) → length (debt h) ≡ r

  abbrev IsCounted : Stmt → Type 0
  IsCounted s = (debt : Debt B) (r : ℕ) → MakesSo debt r → MakesSo (owes claims s debt) (number s r)

  counted_all : (body : List Stmt) → AllByRecursion IsCounted body → (debt : Debt B) (r : ℕ) → MakesSo debt r → MakesSo (owes_all claims body debt) (numbers body r)
  counted_all [] h debt r d = d
  counted_all (s ∷ body) h debt r d = h.0 (owes_all claims body debt) (numbers body r) (counted_all body h.1 debt r d)

  counted_end : (kind : Kind) (line : ℕ) (goal : List B) → MakesSo (at_end kind line goal) 1
  unfolding MakesSo
  counted_end kind line goal h = refl

  counted_plain : (s : Stmt) → has_cut s ≡ false → ((r : ℕ) → number s r ≡ r) → IsCounted s
  unfolding MakesSo
  counted_plain s c same debt r d h = ap length (owes-plain B claims s c debt h) ∙ d (further s h) ∙ sym (same r)

  abbrev numbers_by : Guard → List Stmt → List Stmt → ℕ → Stmt → ℕ
  numbers_by g y z r s = cond (has_cut s) (numbers y r + numbers z r) r

  number_if : (g : Guard) (y z : List Stmt) (r : ℕ) → number (stmt.If g y z) r ≡ numbers_by g y z r (stmt.If g y z)
  number_if g y z r = ap (λ (o : Number). o r) (para-if Number number_step g y z) ∙ (λ i. numbers_by g y z r (stmt.If g (firsts_are number y i) (firsts_are number z i)))

  counted_cut : (g : Guard) (y z : List Stmt) → has_cut (stmt.If g y z) ≡ true → AllByRecursion IsCounted y → AllByRecursion IsCounted z → IsCounted (stmt.If g y z)
  unfolding MakesSo
  counted_cut g y z c hy hz debt r d h =
      let first = counted_all y hy debt r d (further (stmt.Assume g) h) in
      let second = counted_all z hz debt r d (further (stmt.Assume (opposite g)) h) in
      ap length (owes-branch B claims g y z debt h c)
      ∙ length-append (owes_all claims y debt (further (stmt.Assume g) h)) (owes_all claims z debt (further (stmt.Assume (opposite g)) h))
      ∙ (λ i. first i + second i)
      ∙ sym (number_if g y z r ∙ ap (λ (b : Bool). cond b (numbers y r + numbers z r) r) c)

  counted_if : (g : Guard) (y z : List Stmt) → AllByRecursion IsCounted y → AllByRecursion IsCounted z → IsCounted (stmt.If g y z)
  counted_if g y z hy hz = by_test (has_cut (stmt.If g y z)) refl
    where
      by_test : (b : Bool) → has_cut (stmt.If g y z) ≡ b → IsCounted (stmt.If g y z)
      by_test false c = counted_plain (stmt.If g y z) c (λ r. number_if g y z r ∙ ap (λ (b : Bool). cond b (numbers y r + numbers z r) r) c)
      by_test true c = counted_cut g y z c hy hz

  counted_loop : (g : Guard) (claim : ℕ) (body : List Stmt) (line : ℕ) → AllByRecursion IsCounted body → IsCounted (stmt.While g claim body line)
  unfolding MakesSo
  counted_loop g claim body line hb debt r d h =
      let e = ap length (owes-loop B claims g claim body line debt h) in
      let inner = counted_all body hb (at_end kinds.Keep line (claims claim)) 1 (counted_end kinds.Keep line (claims claim)) (fresh (claims claim) (Some g)) in
      let both = length-append (owes_all claims body (at_end kinds.Keep line (claims claim)) (fresh (claims claim) (Some g))) (debt (fresh (claims claim) (Some (opposite g)))) in
      let n = ap (λ (o : Number). o r) (para-while Number number_step g claim body line) in
      e ∙ ap suc (both ∙ (λ i. inner i + d (fresh (claims claim) (Some (opposite g))) i)) ∙ sym n

  counted_assert : (claim line : ℕ) → IsCounted (stmt.Assert claim line)
  unfolding MakesSo
  counted_assert claim line debt r d h =
      ap length (owes-assert B claims claim line debt h) ∙ ap suc (d (fresh (claims claim) None)) ∙ sym (ap (λ (o : Number). o r) (para-assert Number number_step claim line))

  counted : (s : Stmt) → IsCounted s
  counted = by_induction IsCounted (record {
    gate = λ g. counted_plain (stmt.Gate g) (fold-gate Bool cut_step g) (λ r. ap (λ (o : Number). o r) (para-gate Number number_step g));
    measure = λ qubit bit. counted_plain (stmt.Measure qubit bit) (fold-measure Bool cut_step qubit bit) (λ r. ap (λ (o : Number). o r) (para-measure Number number_step qubit bit));
    reset = λ qubit. counted_plain (stmt.Reset qubit) (fold-reset Bool cut_step qubit) (λ r. ap (λ (o : Number). o r) (para-reset Number number_step qubit));
    branch = counted_if;
    loop = counted_loop;
    claim = counted_assert;
    assuming = λ g. counted_plain (stmt.Assume g) (assume_uncut B claims g) (λ r. ap (λ (o : Number). o r) (para-assume Number number_step g));
  })

  each_counted : (body : List Stmt) → AllByRecursion IsCounted body
  each_counted [] = tt
  each_counted (s ∷ body) = (counted s, each_counted body)

  -- ---- how many statements
  abbrev together : List (Owed B) → ℕ
  together ds = sum_by (λ d. statements d.here.fragment) ds

  HasTotal : Debt B → Total → Type 0
  HasTotal debt w = (h : Here B) → together (debt h) ≡ w.own + w.times * statements h.fragment

  abbrev IsSummed : Stmt → Type 0
  IsSummed s = (debt : Debt B) (w : Total) → HasTotal debt w → HasTotal (owes claims s debt) (total s w)

  summed_all : (body : List Stmt) → AllByRecursion IsSummed body → (debt : Debt B) (w : Total) → HasTotal debt w → HasTotal (owes_all claims body debt) (totals body w)
  summed_all [] h debt w d = d
  summed_all (s ∷ body) h debt w d = h.0 (owes_all claims body debt) (totals body w) (summed_all body h.1 debt w d)

  summed_end : (kind : Kind) (line : ℕ) (goal : List B) → HasTotal (at_end kind line goal) (record { own = 0; times = 1 })
  unfolding HasTotal
  summed_end kind line goal h = omega arith

  plain_sum : (own times f k : ℕ) → own + times * (f + k) ≡ (own + times * k) + times * f
  plain_sum own times f k = omega arith

  summed_plain : (s : Stmt) → has_cut s ≡ false → ((w : Total) → total s w ≡ with_statement s w) → IsSummed s
  unfolding HasTotal
  summed_plain s c same debt w d h =
      ap together (owes-plain B claims s c debt h) ∙ d (further s h) ∙ ap (λ (n : ℕ). w.own + w.times * n) (statements-further h.fragment s)
      ∙ plain_sum w.own w.times (statements h.fragment) (statements (s ∷ []))
      ∙ ap (λ (v : Total). v.own + v.times * statements h.fragment) (sym (same w))

  abbrev totals_by : Guard → List Stmt → List Stmt → Total → Stmt → Total
  totals_by g y z w s = cond (has_cut s) (branch_total (totals y w) (totals z w)) (with_statement s w)

  total_if : (g : Guard) (y z : List Stmt) (w : Total) → total (stmt.If g y z) w ≡ totals_by g y z w (stmt.If g y z)
  total_if g y z w = ap (λ (o : Totals). o w) (para-if Totals total_step g y z) ∙ (λ i. totals_by g y z w (stmt.If g (firsts_are total y i) (firsts_are total z i)))

  branch_sum : (a p b q f n : ℕ) → n ≡ f + 1 → (a + p * n) + (b + q * n) ≡ ((a + p) + (b + q)) + (p + q) * f
  branch_sum a p b q f n e = subst (λ (k : ℕ). (a + p * k) + (b + q * k) ≡ ((a + p) + (b + q)) + (p + q) * f) (sym e) (omega arith)

  summed_cut : (g : Guard) (y z : List Stmt) → has_cut (stmt.If g y z) ≡ true → AllByRecursion IsSummed y → AllByRecursion IsSummed z → IsSummed (stmt.If g y z)
  unfolding HasTotal
  summed_cut g y z c hy hz debt w d h =
      let f : ℕ = statements h.fragment in
      let first = summed_all y hy debt w d (further (stmt.Assume g) h) in
      let second = summed_all z hz debt w d (further (stmt.Assume (opposite g)) h) in
      let more : (k : Guard) → statements (h.fragment ++ stmt.Assume k ∷ []) ≡ f + 1 = λ k. statements-further h.fragment (stmt.Assume k) ∙ ap (λ (n : ℕ). f + n) (one_statement k) in
      ap together (owes-branch B claims g y z debt h c)
      ∙ sum_by-append (λ d. statements d.here.fragment) (owes_all claims y debt (further (stmt.Assume g) h)) (owes_all claims z debt (further (stmt.Assume (opposite g)) h))
      ∙ (λ i. first i + second i)
      ∙ (λ i. ((totals y w).own + (totals y w).times * more g i) + ((totals z w).own + (totals z w).times * more (opposite g) i))
      ∙ branch_sum (totals y w).own (totals y w).times (totals z w).own (totals z w).times f (f + 1) refl
      ∙ ap (λ (v : Total). v.own + v.times * f) (sym (total_if g y z w ∙ ap (λ (b : Bool). cond b (branch_total (totals y w) (totals z w)) (with_statement (stmt.If g y z) w)) c))

  summed_if : (g : Guard) (y z : List Stmt) → AllByRecursion IsSummed y → AllByRecursion IsSummed z → IsSummed (stmt.If g y z)
  summed_if g y z hy hz = by_test (has_cut (stmt.If g y z)) refl
    where
      by_test : (b : Bool) → has_cut (stmt.If g y z) ≡ b → IsSummed (stmt.If g y z)
      by_test false c = summed_plain (stmt.If g y z) c (λ w. total_if g y z w ∙ ap (λ (b : Bool). cond b (branch_total (totals y w) (totals z w)) (with_statement (stmt.If g y z) w)) c)
      by_test true c = summed_cut g y z c hy hz

  loop_sum : (f i v w p q : ℕ) → i ≡ v + p * 0 → w ≡ q → f + (i + w) ≡ (v + q) + 1 * f
  loop_sum f i v w p q e k = omega (arith, e, k)

  summed_loop : (g : Guard) (claim : ℕ) (body : List Stmt) (line : ℕ) → AllByRecursion IsSummed body → IsSummed (stmt.While g claim body line)
  unfolding HasTotal
  summed_loop g claim body line hb debt w d h =
      let inner = totals body (record { own = 0; times = 1 }) in
      let i = summed_all body hb (at_end kinds.Keep line (claims claim)) (record { own = 0; times = 1 }) (summed_end kinds.Keep line (claims claim)) (fresh (claims claim) (Some g)) in
      let b = d (fresh (claims claim) (Some (opposite g))) in
      let rest : w.own + w.times * 0 ≡ w.own = omega arith in
      ap together (owes-loop B claims g claim body line debt h)
      ∙ sum_by-cons (λ d. statements d.here.fragment) (owed kinds.Entry line (claims claim) h) (owes_all claims body (at_end kinds.Keep line (claims claim)) (fresh (claims claim) (Some g)) ++ debt (fresh (claims claim) (Some (opposite g))))
      ∙ ap (λ (n : ℕ). statements h.fragment + n) (sum_by-append (λ d. statements d.here.fragment) (owes_all claims body (at_end kinds.Keep line (claims claim)) (fresh (claims claim) (Some g))) (debt (fresh (claims claim) (Some (opposite g)))))
      ∙ loop_sum (statements h.fragment) _ inner.own _ inner.times w.own i (b ∙ rest)
      ∙ ap (λ (v : Total). v.own + v.times * statements h.fragment) (sym (ap (λ (o : Totals). o w) (para-while Totals total_step g claim body line)))

  assert_sum : (f a p : ℕ) → f + (a + p * 0) ≡ a + 1 * f
  assert_sum f a p = omega arith

  summed_assert : (claim line : ℕ) → IsSummed (stmt.Assert claim line)
  unfolding HasTotal
  summed_assert claim line debt w d h =
      ap together (owes-assert B claims claim line debt h)
      ∙ sum_by-cons (λ d. statements d.here.fragment) (owed kinds.Assert line (claims claim) h) (debt (fresh (claims claim) None))
      ∙ ap (λ (n : ℕ). statements h.fragment + n) (d (fresh (claims claim) None))
      ∙ assert_sum (statements h.fragment) w.own w.times
      ∙ ap (λ (v : Total). v.own + v.times * statements h.fragment) (sym (ap (λ (o : Totals). o w) (para-assert Totals total_step claim line)))

  summed : (s : Stmt) → IsSummed s
  summed = by_induction IsSummed (record {
    gate = λ g. summed_plain (stmt.Gate g) (fold-gate Bool cut_step g) (λ w. ap (λ (o : Totals). o w) (para-gate Totals total_step g));
    measure = λ qubit bit. summed_plain (stmt.Measure qubit bit) (fold-measure Bool cut_step qubit bit) (λ w. ap (λ (o : Totals). o w) (para-measure Totals total_step qubit bit));
    reset = λ qubit. summed_plain (stmt.Reset qubit) (fold-reset Bool cut_step qubit) (λ w. ap (λ (o : Totals). o w) (para-reset Totals total_step qubit));
    branch = summed_if;
    loop = summed_loop;
    claim = summed_assert;
    assuming = λ g. summed_plain (stmt.Assume g) (assume_uncut B claims g) (λ w. ap (λ (o : Totals). o w) (para-assume Totals total_step g));
  })

  each_summed : (body : List Stmt) → AllByRecursion IsSummed body
  each_summed [] = tt
  each_summed (s ∷ body) = (summed s, each_summed body)

  all_counted : (pre post : List B) (body : List Stmt) → length (owes_all claims body (at_end kinds.Post 0 post) (record { start = true; from = pre; given = None; fragment = [] })) ≡ numbers body 1
  unfolding MakesSo
  all_counted pre post body = counted_all body (each_counted body) (at_end kinds.Post 0 post) 1 (counted_end kinds.Post 0 post) (record { start = true; from = pre; given = None; fragment = [] })

  end_sum : (a p : ℕ) → a + p * 0 ≡ a
  end_sum a p = omega arith

  all_summed : (pre post : List B) (body : List Stmt) → together (owes_all claims body (at_end kinds.Post 0 post) (record { start = true; from = pre; given = None; fragment = [] })) ≡ (totals body (record { own = 0; times = 1 })).own
  unfolding HasTotal
  all_summed pre post body =
      summed_all body (each_summed body) (at_end kinds.Post 0 post) (record { own = 0; times = 1 }) (summed_end kinds.Post 0 post) (record { start = true; from = pre; given = None; fragment = [] })
      ∙ end_sum (totals body (record { own = 0; times = 1 })).own (totals body (record { own = 0; times = 1 })).times

pub owes_so_many : (B : Type 0) → OwesSoMany B
owes_so_many B = record {
  number = λ claims pre post body. all_counted B (claim_at claims) pre post body;
  total = λ claims pre post body. all_summed B (claim_at claims) pre post body;
}
