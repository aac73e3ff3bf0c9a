-- Gates and projections are linear, so they keep proportional vectors proportional and zero vectors zero.
use Rattle.std.proofs.Common.{◌≡◌, ℕ, zero, suc, ◌<◌, Bool, true, false, cond, eqb, List, [], ◌∷◌, ◌++◌, map, length, refl, sym, ap, ◌∙◌, ⊎_elim}
use Rattle.std.proofs.lemmas.List.{length-map, map-append, get_or_past}
use Rattle.std.proofs.lemmas.Bool.{cases_lt}
use Rattle.aq_ring.specs.Fractions.{Amplitude}
use Rattle.aq_ring.specs.Amplitudes.{amplitude_zero, sum, product, turn, quotient}
use Rattle.aq_ring.specs.Vectors.{IsZeroVector, Proportional, scaled}
use Rattle.aq_ring.proofs.AmplitudeLaws.{product_comm, product_sum, product-zero, turn-product, quotient_product, sum-zero}
use Rattle.aq_prog.specs.Digits.{digit, with_digit, amplitude_at, tabulate}
use Rattle.aq_prog.specs.Gates.{divided, term, term_at, entry_at, is_controlled, gate_entry, apply_gate, apply_gates, project}
use Rattle.aq_prog.specs.declared.gate.Entry.{Entry}
use Rattle.aq_prog.specs.declared.gate.Entry.TheVariants as entry
use Rattle.aq_prog.specs.declared.gate.Gate.{Gate}
use Rattle.aq_prog.proofs.DigitLaws.{length-tabulate, get_or-tabulate}

pub map-tabulate : {A B : Type 0} (f : A → B) (m : ℕ) (g : ℕ → A) → map f (tabulate m g) ≡ tabulate m (λ x. f (g x))
map-tabulate f zero g = refl
map-tabulate f (suc m) g = map-append f (tabulate m g) (g m ∷ []) ∙ ap (λ l. l ++ f (g m) ∷ []) (map-tabulate f m g)

zero_right : (s : Amplitude) → product s amplitude_zero ≡ amplitude_zero
zero_right s = product_comm s amplitude_zero ∙ product-zero s

turn-scaled : (j : ℕ) (s p : Amplitude) → turn j (product s p) ≡ product s (turn j p)
turn-scaled j s p = ap (turn j) (product_comm s p) ∙ turn-product j p s ∙ product_comm (turn j p) s

quotient-scaled : (s p : Amplitude) → quotient (product s p) ≡ product s (quotient p)
quotient-scaled s p = ap quotient (product_comm s p) ∙ quotient_product p s ∙ product_comm (quotient p) s

divided-scaled : (e : ℕ) (s p : Amplitude) → divided e (product s p) ≡ product s (divided e p)
divided-scaled zero s p = refl
divided-scaled (suc e) s p = ap quotient (divided-scaled e s p) ∙ quotient-scaled s (divided e p)

pub term-scaled : (e : Entry) (s p : Amplitude) → term e (product s p) ≡ product s (term e p)
term-scaled entry.Zero s p = sym (zero_right s)
term-scaled (entry.Unit j e) s p = ap (divided e) (turn-scaled j s p) ∙ divided-scaled e s (turn j p)

pub term-zero : (e : Entry) → term e amplitude_zero ≡ amplitude_zero
term-zero e = ap (term e) (sym (product-zero amplitude_zero)) ∙ term-scaled e amplitude_zero amplitude_zero ∙ product-zero (term e amplitude_zero)

pub amplitude_at-scaled : (s : Amplitude) (v : List Amplitude) (x : ℕ) → amplitude_at (scaled s v) x ≡ product s (amplitude_at v x)
amplitude_at-scaled s [] x = sym (zero_right s)
amplitude_at-scaled s (p ∷ v) zero = refl
amplitude_at-scaled s (p ∷ v) (suc x) = amplitude_at-scaled s v x

if_scaled : (s : Amplitude) (b : Bool) (p q : Amplitude) → cond b (product s p) (product s q) ≡ product s (cond b p q)
if_scaled s true p q = refl
if_scaled s false p q = refl

pub gate_entry-scaled : (n : ℕ) (g : Gate) (s : Amplitude) (v : List Amplitude) (x : ℕ) → gate_entry n g (scaled s v) x ≡ product s (gate_entry n g v x)
gate_entry-scaled n g s v x =
    (λ i. cond (is_controlled n g.controls x) (sum (of 0 i) (of 1 i)) (amplitude_at-scaled s v x i))
    ∙ ap (λ t. cond (is_controlled n g.controls x) t (product s (amplitude_at v x))) (sym (product_sum s (term_at n g v x 0) (term_at n g v x 1)))
    ∙ if_scaled s (is_controlled n g.controls x) _ _
  where
    of : (column : ℕ) → term_at n g (scaled s v) x column ≡ product s (term_at n g v x column)
    of column = ap (term (entry_at g.matrix.rows (digit n g.target x) column)) (amplitude_at-scaled s v (with_digit n g.target column x)) ∙ term-scaled (entry_at g.matrix.rows (digit n g.target x) column) s _

pub apply_gate-scaled : (n : ℕ) (g : Gate) (s : Amplitude) (v : List Amplitude) → apply_gate n g (scaled s v) ≡ scaled s (apply_gate n g v)
unfolding apply_gate
apply_gate-scaled n g s v =
    (λ i. tabulate (length-map v (product s) i) (λ x. gate_entry-scaled n g s v x i)) ∙ sym (map-tabulate (product s) (length v) (gate_entry n g v))

pub apply_gate-proportional : (n : ℕ) (g : Gate) (u v : List Amplitude) → Proportional u v → Proportional (apply_gate n g u) (apply_gate n g v)
apply_gate-proportional n g u v h = record {
  left = h.left;
  right = h.right;
  left_nonzero = h.left_nonzero;
  right_nonzero = h.right_nonzero;
  same = sym (apply_gate-scaled n g h.left u) ∙ ap (apply_gate n g) h.same ∙ apply_gate-scaled n g h.right v;
}

pub project-scaled : (n q : ℕ) (outcome : Bool) (s : Amplitude) (v : List Amplitude) → project n q outcome (scaled s v) ≡ scaled s (project n q outcome v)
unfolding project
project-scaled n q outcome s v =
    (λ i. tabulate (length-map v (product s) i) (λ x. entry_scaled x i)) ∙ sym (map-tabulate (product s) (length v) _)
  where
    entry_scaled : (x : ℕ) → cond (eqb (digit n q x) (cond outcome 1 0)) (amplitude_at (scaled s v) x) amplitude_zero ≡ product s (cond (eqb (digit n q x) (cond outcome 1 0)) (amplitude_at v x) amplitude_zero)
    entry_scaled x = (λ i. cond (eqb (digit n q x) (cond outcome 1 0)) (amplitude_at-scaled s v x i) (sym (zero_right s) i)) ∙ if_scaled s (eqb (digit n q x) (cond outcome 1 0)) _ _

pub project-proportional : (n q : ℕ) (outcome : Bool) (u v : List Amplitude) → Proportional u v → Proportional (project n q outcome u) (project n q outcome v)
project-proportional n q outcome u v h = record {
  left = h.left;
  right = h.right;
  left_nonzero = h.left_nonzero;
  right_nonzero = h.right_nonzero;
  same = sym (project-scaled n q outcome h.left u) ∙ ap (project n q outcome) h.same ∙ project-scaled n q outcome h.right v;
}

-- ---- zero
pub zero_at : (v : List Amplitude) → IsZeroVector v → (x : ℕ) → amplitude_at v x ≡ amplitude_zero
zero_at v h x = ⊎_elim (λ lt. h x amplitude_zero lt) (λ ge. get_or_past v x amplitude_zero ge) (cases_lt x (length v))

tabulate-zero : (m : ℕ) (f : ℕ → Amplitude) → ((x : ℕ) → f x ≡ amplitude_zero) → IsZeroVector (tabulate m f)
tabulate-zero m f h k d lt = get_or-tabulate m f d k (rw (length-tabulate m f) at lt) ∙ h k

same_if : (b : Bool) (p : Amplitude) → cond b p p ≡ p
same_if true p = refl
same_if false p = refl

pub apply_gate-zero : (n : ℕ) (g : Gate) (v : List Amplitude) → IsZeroVector v → IsZeroVector (apply_gate n g v)
unfolding apply_gate
apply_gate-zero n g v h = tabulate-zero (length v) (gate_entry n g v)
    (λ x. (λ i. cond (is_controlled n g.controls x) (sum (of x 0 i) (of x 1 i)) (zero_at v h x i))
    ∙ ap (λ t. cond (is_controlled n g.controls x) t amplitude_zero) (sum-zero amplitude_zero) ∙ same_if (is_controlled n g.controls x) amplitude_zero)
  where
    of : (x column : ℕ) → term_at n g v x column ≡ amplitude_zero
    of x column = ap (term (entry_at g.matrix.rows (digit n g.target x) column)) (zero_at v h (with_digit n g.target column x)) ∙ term-zero _

pub project-zero : (n q : ℕ) (outcome : Bool) (v : List Amplitude) → IsZeroVector v → IsZeroVector (project n q outcome v)
unfolding project
project-zero n q outcome v h = tabulate-zero (length v) _
    (λ x. ap (λ t. cond (eqb (digit n q x) (cond outcome 1 0)) t amplitude_zero) (zero_at v h x) ∙ same_if (eqb (digit n q x) (cond outcome 1 0)) amplitude_zero)

-- ---- sizes
pub length-apply_gate : (n : ℕ) (g : Gate) (v : List Amplitude) → length (apply_gate n g v) ≡ length v
unfolding apply_gate
length-apply_gate n g v = length-tabulate (length v) (gate_entry n g v)

pub length-apply_gates : (n : ℕ) (gs : List Gate) (v : List Amplitude) → length (apply_gates n gs v) ≡ length v
length-apply_gates n [] v = refl
length-apply_gates n (g ∷ gs) v = length-apply_gates n gs (apply_gate n g v) ∙ length-apply_gate n g v

pub length-project : (n q : ℕ) (outcome : Bool) (v : List Amplitude) → length (project n q outcome v) ≡ length v
unfolding project
length-project n q outcome v = length-tabulate (length v) _

-- the entries by index
pub amplitude_at-apply_gate : (n : ℕ) (g : Gate) (v : List Amplitude) (x : ℕ) → x < length v → amplitude_at (apply_gate n g v) x ≡ gate_entry n g v x
unfolding apply_gate
amplitude_at-apply_gate n g v x h = get_or-tabulate (length v) (gate_entry n g v) amplitude_zero x h
