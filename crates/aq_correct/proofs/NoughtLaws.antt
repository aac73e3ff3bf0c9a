-- Worlds whose every vector is zero.
use Rattle.std.proofs.Common.{◌≡◌, ℕ, Bool, true, false, not, cond, List, [], ◌∷◌, ◌++◌, map, filter, All, Option, Some, None, slice_get, refl, ap, sym, ◌∙◌, subst}
use Rattle.std.specs.List.{AllByRecursion, flat_map, list_all}
use Rattle.std.proofs.lemmas.List.Concat.{flat_map-append}
use Rattle.std.proofs.lemmas.List.Elements.{filter-append, All-cons, All-nil}
use Rattle.aq_ring.specs.Fractions.{Amplitude}
use Rattle.aq_ring.specs.Vectors.{IsZeroVector, is_zero_vector}
use Rattle.aq_ring.proofs.VectorLaws.{is_zero_vector_true}
use Rattle.aq_prog.specs.Gates.{apply_gate, project, flip_gate}
use Rattle.aq_prog.specs.Runs.{flipped}
use Rattle.aq_prog.specs.declared.stmt.Guard.{Guard}
use Rattle.aq_prog.specs.declared.stmt.Stmt.{Stmt}
use Rattle.aq_prog.proofs.VectorLaws.{apply_gate-zero, project-zero}
use Rattle.aq_obligations.specs.Worlds.{World, Spread, either, split, in_worlds, agrees, is_known, branch, assumed_worlds, spread, spread_step, is_nought}
use Rattle.aq_obligations.specs.Covering.{Met, Meets, branch_meets, meets, meets_step, meets_of}
use Rattle.aq_correct.specs.WorldLaws.{NoughtWorlds, is_alive}
use Rattle.aq_correct.proofs.StartLaws.{and_true}
use Rattle.aq_correct.proofs.StoreLaws.{both_true}
use Rattle.aq_correct.proofs.ZeroTests.{zero_vector_test}
use Rattle.aq_correct.proofs.StmtLaws.{fold-gate, fold-measure, fold-reset, fold-if, fold-while, fold-assert, fold-assume, para-gate, para-measure, para-reset, para-if, para-while, para-assert, para-assume, by_induction}
use Rattle.aq_correct.proofs.CoverLaws.{each_append, each_flat}

step_is : (S : Spread) (rest : List Spread) (ws : List World) → flat_map (in_worlds (S ∷ rest)) ws ≡ flat_map (in_worlds rest) (flat_map S ws)
step_is S rest [] = refl
step_is S rest (w ∷ ws) = ap (λ (us : List World). flat_map (in_worlds rest) (S w) ++ us) (step_is S rest ws) ∙ sym (flat_map-append (in_worlds rest) (S w) (flat_map S ws))

abbrev IsNought : World → Type 0
IsNought w = is_nought w ≡ true

-- nothing but such worlds comes of one, and it meets nothing but such worlds
abbrev Dies : Spread → Type 0
Dies S = (w : World) → IsNought w → AllByRecursion IsNought (S w)

abbrev MeetsNought : Meets → Type 0
MeetsNought M = (w : World) → IsNought w → AllByRecursion (λ e. IsNought e.world) (M w)

abbrev pub Duo : Type 0
Duo = Spread × Meets

abbrev IsDead : Duo → Type 0
IsDead t = Dies t.0 × MeetsNought t.1

map_nought : (f : List Amplitude → List Amplitude) → ((v : List Amplitude) → IsZeroVector v → IsZeroVector (f v)) → (vs : List (List Amplitude)) → list_all is_zero_vector vs ≡ true → list_all is_zero_vector (map f vs) ≡ true
map_nought f keep [] e = refl
map_nought f keep (v ∷ vs) e =
    let b = and_true (is_zero_vector v) (list_all is_zero_vector vs) e in
    both_true (is_zero_vector (f v)) (list_all is_zero_vector (map f vs)) (zero_vector_test (f v) (keep v (is_zero_vector_true v b.0))) (map_nought f keep vs b.1)

flipped-zero : (n qubit : ℕ) (b : Bool) (v : List Amplitude) → IsZeroVector v → IsZeroVector (flipped n qubit b v)
flipped-zero n qubit true v z = apply_gate-zero n (flip_gate qubit) v z
flipped-zero n qubit false v z = z

split-dies : (k : ℕ) → Dies (split k)
split-dies k w e = by_known (slice_get w.bits k)
  where
    by_known : (x : Option (Option Bool)) → AllByRecursion IsNought (either k x w)
    by_known None = (e, tt)
    by_known (Some None) = (e, (e, tt))
    by_known (Some (Some b)) = (e, tt)

dies-in : (ss : List Spread) → AllByRecursion Dies ss → Dies (in_worlds ss)
dies-in [] h w e = (e, tt)
dies-in (S ∷ ss) h w e = each_flat (in_worlds ss) IsNought IsNought (dies-in ss h.1) (S w) (h.0 w e)

abbrev duo : ℕ → Stmt → Duo
duo n s = (spread n s, meets n s)

abbrev IsDeadStmt : ℕ → Stmt → Type 0
IsDeadStmt n s = IsDead (duo n s)

each_spread : (n : ℕ) (body : List Stmt) → AllByRecursion (IsDeadStmt n) body → AllByRecursion Dies (map (spread n) body)
each_spread n [] h = tt
each_spread n (s ∷ body) h = (h.0.0, each_spread n body h.1)

body_dies : (n : ℕ) (body : List Stmt) → AllByRecursion (IsDeadStmt n) body → Dies (in_worlds (map (spread n) body))
body_dies n body h = dies-in (map (spread n) body) (each_spread n body h)

body_meets : (n : ℕ) (body : List Stmt) → AllByRecursion (IsDeadStmt n) body → MeetsNought (meets_of n body)
body_meets n [] h w e = tt
body_meets n (s ∷ body) h w e = each_append (λ d. IsNought d.world) (meets n s w) (flat_map (meets_of n body) (spread n s w)) (h.0.1 w e)
    (each_flat (meets_of n body) IsNought (λ d. IsNought d.world) (body_meets n body h.1) (spread n s w) (h.0.0 w e))

either_of : {A : Type 0} (P : A → Type 0) (b : Bool) (xs ys : List A) → AllByRecursion P xs → AllByRecursion P ys → AllByRecursion P (cond b xs ys)
either_of P true xs ys h k = h
either_of P false xs ys h k = k

dead_by : (n : ℕ) (s : Stmt) (S : Spread) (M : Meets) → spread n s ≡ S → meets n s ≡ M → Dies S → MeetsNought M → IsDeadStmt n s
dead_by n s S M e f d m = subst IsDead {x = (S, M)} {y = duo n s} (λ i. (sym e i, sym f i)) (d, m)

dead : (n : ℕ) (s : Stmt) → IsDeadStmt n s
dead n = by_induction (IsDeadStmt n) (record {
  gate = λ g. dead_by n _ _ _ (fold-gate Spread (spread_step n) g) (para-gate Meets (meets_step n) g)
      (λ w e. (map_nought (apply_gate n g) (apply_gate-zero n g) w.vectors e, tt)) (λ w e. (e, tt));
  measure = λ qubit bit. dead_by n _ _ _ (fold-measure Spread (spread_step n) qubit bit) (para-measure Meets (meets_step n) qubit bit)
      (λ w e. (map_nought (project n qubit false) (project-zero n qubit false) w.vectors e, (map_nought (project n qubit true) (project-zero n qubit true) w.vectors e, tt))) (λ w e. tt);
  reset = λ qubit. dead_by n _ _ _ (fold-reset Spread (spread_step n) qubit) (para-reset Meets (meets_step n) qubit)
      (λ w e. (
        map_nought (flipped n qubit false) (flipped-zero n qubit false) (map (project n qubit false) w.vectors) (map_nought (project n qubit false) (project-zero n qubit false) w.vectors e),
        (map_nought (flipped n qubit true) (flipped-zero n qubit true) (map (project n qubit true) w.vectors) (map_nought (project n qubit true) (project-zero n qubit true) w.vectors e), tt),
      )) (λ w e. tt);
  branch = λ g y z h k. dead_by n _ _ _ (fold-if Spread (spread_step n) g y z) (para-if Meets (meets_step n) g y z)
      (λ w e. each_flat (branch g (in_worlds (map (spread n) y)) (in_worlds (map (spread n) z))) IsNought IsNought
      (λ x f. either_of IsNought (is_known g (slice_get x.bits g.bit)) _ _ (body_dies n y h x f) (body_dies n z k x f)) (split g.bit w) (split-dies g.bit w e))
      (λ w e. each_flat (branch_meets g (meets_of n y) (meets_of n z)) IsNought (λ d. IsNought d.world)
      (λ x f. either_of (λ d. IsNought d.world) (is_known g (slice_get x.bits g.bit)) _ _ (body_meets n y h x f) (body_meets n z k x f)) (split g.bit w) (split-dies g.bit w e));
  loop = λ g claim body line h. dead_by n _ _ _ (fold-while Spread (spread_step n) g claim body line) (para-while Meets (meets_step n) g claim body line) (λ w e. (e, tt)) (λ w e. tt);
  claim = λ claim line. dead_by n _ _ _ (fold-assert Spread (spread_step n) claim line) (para-assert Meets (meets_step n) claim line) (λ w e. (e, tt)) (λ w e. tt);
  assuming = λ g. dead_by n _ _ _ (fold-assume Spread (spread_step n) g) (para-assume Meets (meets_step n) g) (λ w e. by_known g w e (slice_get w.bits g.bit)) (λ w e. tt);
})
  where
    by_known : (g : Guard) (w : World) → IsNought w → (x : Option (Option Bool)) → AllByRecursion IsNought (assumed_worlds g x w)
    by_known g w e None = tt
    by_known g w e (Some None) = (e, tt)
    by_known g w e (Some (Some b)) = either_of IsNought (agrees g b) (w ∷ []) [] (e, tt) tt

each_dead : (n : ℕ) (body : List Stmt) → AllByRecursion (IsDeadStmt n) body
each_dead n [] = tt
each_dead n (s ∷ body) = (dead n s, each_dead n body)

-- ---- leaving them out
none_alive : (ws : List World) → AllByRecursion IsNought ws → filter is_alive ws ≡ []
none_alive [] h = refl
none_alive (w ∷ ws) h = ap (λ (b : Bool). cond (not b) (w ∷ filter is_alive ws) (filter is_alive ws)) h.0 ∙ none_alive ws h.1

dropped_of : (S : Spread) → Dies S → (ws : List World) → filter is_alive (flat_map S (filter is_alive ws)) ≡ filter is_alive (flat_map S ws)
dropped_of S d [] = refl
dropped_of S d (w ∷ ws) = by_test (is_nought w) refl (dropped_of S d ws) ∙ sym (filter-append is_alive (S w) (flat_map S ws))
  where
    by_test : (b : Bool) → is_nought w ≡ b → filter is_alive (flat_map S (filter is_alive ws)) ≡ filter is_alive (flat_map S ws)
        → filter is_alive (flat_map S (cond (not (is_nought w)) (w ∷ filter is_alive ws) (filter is_alive ws))) ≡ filter is_alive (S w) ++ filter is_alive (flat_map S ws)
    by_test true e r =
        ap (λ (b : Bool). filter is_alive (flat_map S (cond (not b) (w ∷ filter is_alive ws) (filter is_alive ws)))) e ∙ r
        ∙ ap (λ (us : List World). us ++ filter is_alive (flat_map S ws)) (sym (none_alive (S w) (d w e)))
    by_test false e r =
        ap (λ (b : Bool). filter is_alive (flat_map S (cond (not b) (w ∷ filter is_alive ws) (filter is_alive ws)))) e
        ∙ filter-append is_alive (S w) (flat_map S (filter is_alive ws)) ∙ ap (λ (us : List World). filter is_alive (S w) ++ us) r

each_zero : (vs : List (List Amplitude)) → list_all is_zero_vector vs ≡ true → All IsZeroVector vs
each_zero [] e = All-nil IsZeroVector
each_zero (v ∷ vs) e =
    let b = and_true (is_zero_vector v) (list_all is_zero_vector vs) e in
    All-cons IsZeroVector v vs (is_zero_vector_true v b.0) (each_zero vs b.1)

splits-die : (bits : List ℕ) → AllByRecursion Dies (map split bits)
splits-die [] = tt
splits-die (k ∷ bits) = (split-dies k, splits-die bits)

met_nought : (es : List Met) → AllByRecursion (λ e. IsNought e.world) es → All (λ e. All IsZeroVector e.world.vectors) es
met_nought [] h = All-nil (λ e. All IsZeroVector e.world.vectors)
met_nought (e ∷ es) h = All-cons (λ d. All IsZeroVector d.world.vectors) e es (each_zero e.world.vectors h.0) (met_nought es h.1)

pub nought_worlds : NoughtWorlds
nought_worlds = record {
  step = step_is;
  dropped = λ n body ws. dropped_of (in_worlds (map (spread n) body)) (body_dies n body (each_dead n body)) ws;
  dropped_at_end = λ bits ws. dropped_of (in_worlds (map split bits)) (dies-in (map split bits) (splits-die bits)) ws;
  met_zero = λ n body w e. met_nought (meets_of n body w) (body_meets n body (each_dead n body) w e);
}
