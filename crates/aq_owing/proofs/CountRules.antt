-- How many obligations statements have, and how many statements in their fragments, rule by rule and told up to 2^64.
use Rattle.std.proofs.Common.{◌≡◌, ℕ, zero, suc, ◌+◌, ◌*◌, ◌<◌, Bool, true, false, cond, List, [], ◌∷◌, map, length, drop, get_or, drop-cons, add-one, refl, ap, ap₂, sym, ◌∙◌, arith, Some}
use Rattle.std.specs.Prelude.{slice_get}
use Rattle.aq_prog.specs.Cuts.{has_cut, cut_step}
use Rattle.aq_prog.specs.declared.stmt.Guard.{Guard}
use Rattle.aq_prog.specs.declared.stmt.Stmt.{Stmt}
use Rattle.aq_prog.specs.declared.stmt.Stmt.TheVariants as stmt
use Rattle.aq_prog.proofs.StmtLaws.{fold-while, fold-assert, para-gate, para-measure, para-reset, para-if, para-while, para-assert, para-assume, by_induction}
use Rattle.aq_sets.specs.Caps.{capped}
use Rattle.aq_sets.proofs.CapLaws.{capped-sum, capped-product}
use Rattle.aq_obligations.specs.OwingCounts.{Number, number_step, number, numbers, Total, Totals, with_statement, branch_total, total_step, total, totals, firsts}
use Rattle.aq_owing.specs.Making.{IsTold, with_statements}
use Rattle.aq_owing.specs.declared.counting.Counted as told

firsts_are : {A : Type 0} (f : Stmt → A) (body : List Stmt) → firsts (map (λ s. (s, f s)) body) ≡ body
firsts_are f [] = refl
firsts_are f (s ∷ body) = ap (λ (l : List Stmt). s ∷ l) (firsts_are f body)

loop_cuts : (g : Guard) (claim : ℕ) (body : List Stmt) (line : ℕ) → has_cut (stmt.While g claim body line) ≡ true
loop_cuts g claim body line = fold-while Bool cut_step g claim body line

assert_cuts : (claim line : ℕ) → has_cut (stmt.Assert claim line) ≡ true
assert_cuts claim line = fold-assert Bool cut_step claim line

not_both : (b : Bool) → b ≡ true → b ≡ false → ⊥
not_both b e f = cc

-- ---- how many
number_if : (g : Guard) (y z : List Stmt) (r : ℕ) → number (stmt.If g y z) r ≡ cond (has_cut (stmt.If g y z)) (numbers y r + numbers z r) r
number_if g y z r =
    ap (λ (o : Number). o r) (para-if Number number_step g y z)
    ∙ (λ i. cond (has_cut (stmt.If g (firsts_are number y i) (firsts_are number z i))) (numbers y r + numbers z r) r)

number_plain : (s : Stmt) → has_cut s ≡ false → (r : ℕ) → number s r ≡ r
number_plain = by_induction (λ s. has_cut s ≡ false → (r : ℕ) → number s r ≡ r) (record {
  gate = λ g h r. ap (λ (o : Number). o r) (para-gate Number number_step g);
  measure = λ qubit bit h r. ap (λ (o : Number). o r) (para-measure Number number_step qubit bit);
  reset = λ qubit h r. ap (λ (o : Number). o r) (para-reset Number number_step qubit);
  branch = λ g y z hy hz h r. number_if g y z r ∙ ap (λ (b : Bool). cond b (numbers y r + numbers z r) r) h;
  loop = λ g claim body line hb h r. absurd (not_both _ (loop_cuts g claim body line) h);
  claim = λ claim line h r. absurd (not_both _ (assert_cuts claim line) h);
  assuming = λ g h r. ap (λ (o : Number). o r) (para-assume Number number_step g);
})

number_assert : (claim line r : ℕ) → number (stmt.Assert claim line) r ≡ suc r
number_assert claim line r = ap (λ (o : Number). o r) (para-assert Number number_step claim line)

number_loop : (g : Guard) (claim : ℕ) (body : List Stmt) (line r : ℕ) → number (stmt.While g claim body line) r ≡ suc (numbers body 1 + r)
number_loop g claim body line r = ap (λ (o : Number). o r) (para-while Number number_step g claim body line)

number_branch : (g : Guard) (y z : List Stmt) (r : ℕ) → has_cut (stmt.If g y z) ≡ true → number (stmt.If g y z) r ≡ numbers y r + numbers z r
number_branch g y z r h = number_if g y z r ∙ ap (λ (b : Bool). cond b (numbers y r + numbers z r) r) h

pub numbers_at : (body : List Stmt) (i : ℕ) (d : Stmt) (r : ℕ) → i < length body → numbers (drop i body) r ≡ number (get_or body i d) (numbers (drop (i + 1) body) r)
numbers_at body i d r h =
    ap (λ (l : List Stmt). numbers l r) (drop-cons body i d h) ∙ ap (λ (k : ℕ). number (get_or body i d) (numbers (drop k body) r)) (sym (add-one i))

-- ---- how many, told
sum_told : (x y a b : ℕ) → x ≡ capped a → y ≡ capped b → capped (x + y) ≡ capped (a + b)
sum_told x y a b e f = ap₂ (λ m n. capped (m + n)) e f ∙ capped-sum a b

product_told : (x y a b : ℕ) → x ≡ capped a → y ≡ capped b → capped (x * y) ≡ capped (a * b)
product_told x y a b e f = ap₂ (λ m n. capped (m * n)) e f ∙ capped-product a b

one_told : 1 ≡ capped 1
one_told = omega arith

pub plain_told : (s : Stmt) (behind b : ℕ) → has_cut s ≡ false → behind ≡ capped b → behind ≡ capped (number s b)
plain_told s behind b h e = e ∙ ap capped (sym (number_plain s h b))

pub assert_told : (s : Stmt) (claim line behind b r : ℕ) → s ≡ stmt.Assert claim line → behind ≡ capped b → r ≡ capped (1 + behind) → r ≡ capped (number s b)
assert_told s claim line behind b r is e f =
    let more : 1 + b ≡ suc b = omega arith in
    f ∙ sum_told 1 behind 1 b one_told e ∙ ap capped (more ∙ sym (ap (λ (x : Stmt). number x b) is ∙ number_assert claim line b))

pub loop_told : (s : Stmt) (g : Guard) (claim : ℕ) (body : List Stmt) (line behind b turn both r : ℕ) → s ≡ stmt.While g claim body line → behind ≡ capped b
    → turn ≡ capped (numbers body 1) → both ≡ capped (turn + behind) → r ≡ capped (1 + both) → r ≡ capped (number s b)
loop_told s g claim body line behind b turn both r is e t f h =
    let more : 1 + (numbers body 1 + b) ≡ suc (numbers body 1 + b) = omega arith in
    h ∙ sum_told 1 both 1 (numbers body 1 + b) one_told (f ∙ sum_told turn behind (numbers body 1) b t e)
    ∙ ap capped (more ∙ sym (ap (λ (x : Stmt). number x b) is ∙ number_loop g claim body line b))

pub branch_told : (s : Stmt) (g : Guard) (y z : List Stmt) (b first second r : ℕ) → s ≡ stmt.If g y z → has_cut s ≡ true
    → first ≡ capped (numbers y b) → second ≡ capped (numbers z b) → r ≡ capped (first + second) → r ≡ capped (number s b)
branch_told s g y z b first second r is h e f k =
    k ∙ sum_told first second (numbers y b) (numbers z b) e f
    ∙ ap capped (sym (ap (λ (x : Stmt). number x b) is ∙ number_branch g y z b (ap has_cut (sym is) ∙ h)))

-- ---- how many statements
total_if : (g : Guard) (y z : List Stmt) (w : Total) → total (stmt.If g y z) w ≡ cond (has_cut (stmt.If g y z)) (branch_total (totals y w) (totals z w)) (with_statement (stmt.If g y z) w)
total_if g y z w =
    ap (λ (o : Totals). o w) (para-if Totals total_step g y z)
    ∙ (λ i. cond (has_cut (stmt.If g (firsts_are total y i) (firsts_are total z i))) (branch_total (totals y w) (totals z w)) (with_statement (stmt.If g (firsts_are total y i) (firsts_are total z i)) w))

total_plain : (s : Stmt) → has_cut s ≡ false → (w : Total) → total s w ≡ with_statement s w
total_plain = by_induction (λ s. has_cut s ≡ false → (w : Total) → total s w ≡ with_statement s w) (record {
  gate = λ g h w. ap (λ (o : Totals). o w) (para-gate Totals total_step g);
  measure = λ qubit bit h w. ap (λ (o : Totals). o w) (para-measure Totals total_step qubit bit);
  reset = λ qubit h w. ap (λ (o : Totals). o w) (para-reset Totals total_step qubit);
  branch = λ g y z hy hz h w. total_if g y z w ∙ ap (λ (b : Bool). cond b (branch_total (totals y w) (totals z w)) (with_statement (stmt.If g y z) w)) h;
  loop = λ g claim body line hb h w. absurd (not_both _ (loop_cuts g claim body line) h);
  claim = λ claim line h w. absurd (not_both _ (assert_cuts claim line) h);
  assuming = λ g h w. ap (λ (o : Totals). o w) (para-assume Totals total_step g);
})

abbrev behind_cut : ℕ → Total
behind_cut own = record { own = own; times = 1 }

total_assert : (claim line : ℕ) (w : Total) → total (stmt.Assert claim line) w ≡ behind_cut w.own
total_assert claim line w = ap (λ (o : Totals). o w) (para-assert Totals total_step claim line)

total_loop : (g : Guard) (claim : ℕ) (body : List Stmt) (line : ℕ) (w : Total) → total (stmt.While g claim body line) w ≡ behind_cut ((totals body (behind_cut 0)).own + w.own)
total_loop g claim body line w = ap (λ (o : Totals). o w) (para-while Totals total_step g claim body line)

total_branch : (g : Guard) (y z : List Stmt) (w : Total) → has_cut (stmt.If g y z) ≡ true → total (stmt.If g y z) w ≡ branch_total (totals y w) (totals z w)
total_branch g y z w h = total_if g y z w ∙ ap (λ (b : Bool). cond b (branch_total (totals y w) (totals z w)) (with_statement (stmt.If g y z) w)) h

pub totals_at : (body : List Stmt) (i : ℕ) (d : Stmt) (w : Total) → i < length body → totals (drop i body) w ≡ total (get_or body i d) (totals (drop (i + 1) body) w)
totals_at body i d w h =
    ap (λ (l : List Stmt). totals l w) (drop-cons body i d h) ∙ ap (λ (k : ℕ). total (get_or body i d) (totals (drop k body) w)) (sym (add-one i))

-- ---- how many statements, told
get_or_some : (body : List Stmt) (i : ℕ) → i < length body → (x : Stmt) × ((slice_get body i ≡ Some x) × (get_or body i x ≡ x))
get_or_some [] i h = absurd (omega (arith, h))
get_or_some (s ∷ body) zero h = (s, (refl, refl))
get_or_some (s ∷ body) (suc i) h = get_or_some body i (omega (arith, h))

pub same_told : (t : told.Counted) (x y : Total) → x ≡ y → IsTold t x → IsTold t y
same_told t x y e h = (h.0 ∙ ap (λ (z : Total). capped z.own) e, h.1 ∙ ap (λ (z : Total). capped z.times) e)

pub own_told : (own behind_own behind_times statements_told product : ℕ) (b : Total) (n : ℕ) → behind_own ≡ capped b.own → behind_times ≡ capped b.times → statements_told ≡ capped n
    → product ≡ capped (behind_times * statements_told) → own ≡ capped (behind_own + product) → own ≡ capped (b.own + b.times * n)
own_told own behind_own behind_times statements_told product b n e f h k l =
    l ∙ sum_told behind_own product b.own (b.times * n) e (k ∙ product_told behind_times statements_told b.times n f h)

pub three_told : (x y z a b c both r : ℕ) → x ≡ capped a → y ≡ capped b → both ≡ capped (x + y) → z ≡ capped c → r ≡ capped (both + z) → r ≡ capped ((a + b) + c)
three_told x y z a b c both r e f h k l = l ∙ sum_told both z (a + b) c (h ∙ sum_told x y a b e f) k

pub plain_total : (s : Stmt) (t : told.Counted) (b : Total) → has_cut s ≡ false → IsTold t (with_statements (s ∷ []) b) → IsTold t (total s b)
plain_total s t b h e = same_told t (with_statement s b) (total s b) (sym (total_plain s h b)) e

pub assert_total : (s : Stmt) (claim line : ℕ) (t : told.Counted) (b : Total) → s ≡ stmt.Assert claim line → IsTold t (behind_cut (0 + b.own)) → IsTold t (total s b)
assert_total s claim line t b is e =
    let none : b.own ≡ 0 + b.own = omega arith in
    same_told t (behind_cut (0 + b.own)) (total s b) (sym (ap (λ (x : Stmt). total x b) is ∙ total_assert claim line b ∙ ap behind_cut none)) e

pub loop_total : (s : Stmt) (g : Guard) (claim : ℕ) (body : List Stmt) (line : ℕ) (t : told.Counted) (b : Total) → s ≡ stmt.While g claim body line
    → IsTold t (behind_cut ((totals body (behind_cut 0)).own + b.own)) → IsTold t (total s b)
loop_total s g claim body line t b is e =
    same_told t (behind_cut ((totals body (behind_cut 0)).own + b.own)) (total s b) (sym (ap (λ (x : Stmt). total x b) is ∙ total_loop g claim body line b)) e

pub branch_totals : (s : Stmt) (g : Guard) (y z : List Stmt) (t : told.Counted) (b : Total) → s ≡ stmt.If g y z → has_cut s ≡ true
    → IsTold t (branch_total (totals y b) (totals z b)) → IsTold t (total s b)
branch_totals s g y z t b is h e =
    same_told t (branch_total (totals y b) (totals z b)) (total s b) (sym (ap (λ (x : Stmt). total x b) is ∙ total_branch g y z b (ap has_cut (sym is) ∙ h))) e

-- one statement more, from the end
pub one_more : (body : List Stmt) (i : ℕ) (new old : told.Counted) (b : Total) (left : ℕ) → i < length body → i + 1 ≡ left
    → ((s : Stmt) (w : Total) → slice_get body i ≡ Some s → IsTold old w → IsTold new (total s w)) → IsTold old (totals (drop left body) b)
    → IsTold new (totals (drop i body) b)
one_more body i new old b left h next step e = by_first (get_or_some body i h)
  where
    by_first : (x : Stmt) × ((slice_get body i ≡ Some x) × (get_or body i x ≡ x)) → IsTold new (totals (drop i body) b)
    by_first f =
        same_told new (total f.0 (totals (drop left body) b)) (totals (drop i body) b)
        (sym (totals_at body i f.0 b h ∙ ap (λ (s : Stmt). total s (totals (drop (i + 1) body) b)) f.1.1 ∙ ap (λ (k : ℕ). total f.0 (totals (drop k body) b)) next))
        (step f.0 (totals (drop left body) b) f.1.0 e)
