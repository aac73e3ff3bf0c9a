-- Worlds that are the same but for their vectors: what statements make of two such worlds are such worlds again, whatever
-- relation of vectors stays as each vector is acted on in the same way.
use Rattle.std.proofs.Common.{◌≡◌, ℕ, Bool, true, false, cond, List, [], ◌∷◌, ◌++◌, map, Option, Some, None, slice_get, slice_set, refl, sym, ap, subst}
use Rattle.std.specs.List.{AllByRecursion, AllZip, flat_map}
use Rattle.aq_ring.specs.Fractions.{Amplitude}
use Rattle.aq_prog.specs.Gates.{apply_gate, project}
use Rattle.aq_prog.specs.Runs.{flipped}
use Rattle.aq_prog.specs.declared.stmt.Guard.{Guard}
use Rattle.aq_prog.specs.declared.stmt.Stmt.{Stmt}
use Rattle.aq_prog.proofs.StmtLaws.{fold-gate, fold-measure, fold-reset, fold-if, fold-while, fold-assert, fold-assume, para-gate, para-measure, para-reset, para-if, para-while, para-assert, para-assume, by_induction}
use Rattle.aq_obligations.specs.Worlds.{World, Partial, Spread, decided, either, split, in_worlds, agrees, is_known, branch, assumed_worlds, spread, spread_step, with_vectors, stored, measured_world}
use Rattle.aq_obligations.specs.Covering.{Met, Meets, branch_meets, meets, meets_step, meets_of}

-- ---- lists side by side
pub zip_append : {A B : Type 0} (P : A → B → Type 0) (xs us : List A) (ys vs : List B) → AllZip P xs ys → AllZip P us vs → AllZip P (xs ++ us) (ys ++ vs)
zip_append P [] us [] vs h g = g
zip_append P [] us (y ∷ ys) vs h g = absurd h
zip_append P (x ∷ xs) us [] vs h g = absurd h
zip_append P (x ∷ xs) us (y ∷ ys) vs h g = (h.0, zip_append P xs us ys vs h.1 g)

pub zip_flat : {A B C D : Type 0} (P : A → B → Type 0) (Q : C → D → Type 0) (f : A → List C) (g : B → List D) → ((x : A) (y : B) → P x y → AllZip Q (f x) (g y)) → (xs : List A) (ys : List B)
    → AllZip P xs ys → AllZip Q (flat_map f xs) (flat_map g ys)
zip_flat P Q f g step [] [] h = tt
zip_flat P Q f g step [] (y ∷ ys) h = absurd h
zip_flat P Q f g step (x ∷ xs) [] h = absurd h
zip_flat P Q f g step (x ∷ xs) (y ∷ ys) h = zip_append Q (f x) (flat_map f xs) (g y) (flat_map g ys) (step x y h.0) (zip_flat P Q f g step xs ys h.1)

zip_either : {A B : Type 0} (P : A → B → Type 0) (b : Bool) (xs us : List A) (ys vs : List B) → AllZip P xs ys → AllZip P us vs → AllZip P (cond b xs us) (cond b ys vs)
zip_either P true xs us ys vs h g = h
zip_either P false xs us ys vs h g = g

-- ---- twins
module _ (R : List (List Amplitude) → List (List Amplitude) → Type 0) where
  pub record IsTwin (w u : World) : Type 0 where
    pub case : w.case ≡ u.case
    pub start : w.start ≡ u.start
    pub bits : w.bits ≡ u.bits
    pub outcomes : w.outcomes ≡ u.outcomes
    pub vectors : R w.vectors u.vectors

  pub record IsTwinMet (d e : Met) : Type 0 where
    pub gate : d.gate ≡ e.gate
    pub world : IsTwin d.world e.world

  abbrev pub AreTwins : List World → List World → Type 0
  AreTwins = AllZip IsTwin

  abbrev Follows : Spread → Type 0
  Follows S = (w u : World) → IsTwin w u → AreTwins (S w) (S u)

  abbrev MeetsAlike : Meets → Type 0
  MeetsAlike M = (w u : World) → IsTwin w u → AllZip IsTwinMet (M w) (M u)

  decided_twin : (k : ℕ) (b : Bool) (w u : World) → IsTwin w u → IsTwin (decided k b w) (decided k b u)
  decided_twin k b w u t = record {
    case = t.case;
    start = ap (λ (s : Partial). slice_set s k (Some b)) t.start;
    bits = ap (λ (s : Partial). slice_set s k (Some b)) t.bits;
    outcomes = t.outcomes;
    vectors = t.vectors;
  }

  pub split_twins : (k : ℕ) → Follows (split k)
  split_twins k w u t = subst (λ (x : Option (Option Bool)). AreTwins (split k w) (either k x u)) (ap (λ (s : Partial). slice_get s k) t.bits) (by (slice_get w.bits k))
    where
      by : (x : Option (Option Bool)) → AreTwins (either k x w) (either k x u)
      by None = (t, tt)
      by (Some None) = (decided_twin k false w u t, (decided_twin k true w u t, tt))
      by (Some (Some b)) = (t, tt)

  in_twins : (ss : List Spread) → AllByRecursion Follows ss → Follows (in_worlds ss)
  in_twins [] h w u t = (t, tt)
  in_twins (S ∷ ss) h w u t = zip_flat IsTwin IsTwin (in_worlds ss) (in_worlds ss) (in_twins ss h.1) (S w) (S u) (h.0 w u t)

  each_split : (bits : List ℕ) → AllByRecursion Follows (map split bits)
  each_split [] = tt
  each_split (k ∷ bits) = (split_twins k, each_split bits)

  pub decisions_twins : (bits : List ℕ) → Follows (in_worlds (map split bits))
  decisions_twins bits = in_twins (map split bits) (each_split bits)

  branch_twins : (g : Guard) (A B : Spread) → Follows A → Follows B → Follows (branch g A B)
  branch_twins g A B a b w u t = subst (λ (x : Option (Option Bool)). AreTwins (branch g A B w) (cond (is_known g x) (A u) (B u))) (ap (λ (s : Partial). slice_get s g.bit) t.bits)
      (zip_either IsTwin (is_known g (slice_get w.bits g.bit)) (A w) (B w) (A u) (B u) (a w u t) (b w u t))

  branch_meet : (g : Guard) (A B : Meets) → MeetsAlike A → MeetsAlike B → MeetsAlike (branch_meets g A B)
  branch_meet g A B a b w u t = subst (λ (x : Option (Option Bool)). AllZip IsTwinMet (branch_meets g A B w) (cond (is_known g x) (A u) (B u))) (ap (λ (s : Partial). slice_get s g.bit) t.bits)
      (zip_either IsTwinMet (is_known g (slice_get w.bits g.bit)) (A w) (B w) (A u) (B u) (a w u t) (b w u t))

  assumed_twins : (g : Guard) → Follows (λ w. assumed_worlds g (slice_get w.bits g.bit) w)
  assumed_twins g w u t = subst (λ (x : Option (Option Bool)). AreTwins (assumed_worlds g (slice_get w.bits g.bit) w) (assumed_worlds g x u)) (ap (λ (s : Partial). slice_get s g.bit) t.bits) (by (slice_get w.bits g.bit))
    where
      by : (x : Option (Option Bool)) → AreTwins (assumed_worlds g x w) (assumed_worlds g x u)
      by None = tt
      by (Some None) = (decided_twin g.bit g.value w u t, tt)
      by (Some (Some b)) = zip_either IsTwin (agrees g b) (w ∷ []) [] (u ∷ []) [] (t, tt) tt

  module _ (closed : (f : List Amplitude → List Amplitude) (vs us : List (List Amplitude)) → R vs us → R (map f vs) (map f us)) where
    acted_twin : (f : List Amplitude → List Amplitude) (w u : World) → IsTwin w u → IsTwin (with_vectors f w) (with_vectors f u)
    acted_twin f w u t = record { case = t.case; start = t.start; bits = t.bits; outcomes = t.outcomes; vectors = closed f w.vectors u.vectors t.vectors }

    measured_twin : (n qubit : ℕ) (bit : Option ℕ) (b : Bool) (w u : World) → IsTwin w u → IsTwin (measured_world n qubit bit b w) (measured_world n qubit bit b u)
    measured_twin n qubit bit b w u t = record {
      case = t.case;
      start = t.start;
      bits = ap (stored bit b) t.bits;
      outcomes = ap (λ (o : List Bool). o ++ b ∷ []) t.outcomes;
      vectors = closed (project n qubit b) w.vectors u.vectors t.vectors;
    }

    abbrev IsAlike : ℕ → Stmt → Type 0
    IsAlike n s = Follows (spread n s) × MeetsAlike (meets n s)

    each_spread : (n : ℕ) (body : List Stmt) → AllByRecursion (IsAlike n) body → AllByRecursion Follows (map (spread n) body)
    each_spread n [] h = tt
    each_spread n (s ∷ body) h = (h.0.0, each_spread n body h.1)

    body_follows : (n : ℕ) (body : List Stmt) → AllByRecursion (IsAlike n) body → Follows (in_worlds (map (spread n) body))
    body_follows n body h = in_twins (map (spread n) body) (each_spread n body h)

    body_meet : (n : ℕ) (body : List Stmt) → AllByRecursion (IsAlike n) body → MeetsAlike (meets_of n body)
    body_meet n [] h w u t = tt
    body_meet n (s ∷ body) h w u t =
        zip_append IsTwinMet (meets n s w) (flat_map (meets_of n body) (spread n s w)) (meets n s u) (flat_map (meets_of n body) (spread n s u)) (h.0.1 w u t)
        (zip_flat IsTwin IsTwinMet (meets_of n body) (meets_of n body) (body_meet n body h.1) (spread n s w) (spread n s u) (h.0.0 w u t))

    alike_by : (n : ℕ) (s : Stmt) (S : Spread) (M : Meets) → spread n s ≡ S → meets n s ≡ M → Follows S → MeetsAlike M → IsAlike n s
    alike_by n s S M e f a b = (subst Follows (sym e) a, subst MeetsAlike (sym f) b)

    alike : (n : ℕ) (s : Stmt) → IsAlike n s
    alike n = by_induction (IsAlike n) (record {
      gate = λ g. alike_by n _ _ _ (fold-gate Spread (spread_step n) g) (para-gate Meets (meets_step n) g)
          (λ w u t. (acted_twin (apply_gate n g) w u t, tt)) (λ w u t. (record { gate = refl; world = t }, tt));
      measure = λ qubit bit. alike_by n _ _ _ (fold-measure Spread (spread_step n) qubit bit) (para-measure Meets (meets_step n) qubit bit)
          (λ w u t. (measured_twin n qubit bit false w u t, (measured_twin n qubit bit true w u t, tt))) (λ w u t. tt);
      reset = λ qubit. alike_by n _ _ _ (fold-reset Spread (spread_step n) qubit) (para-reset Meets (meets_step n) qubit)
          (λ w u t. (
            acted_twin (flipped n qubit false) (measured_world n qubit None false w) (measured_world n qubit None false u) (measured_twin n qubit None false w u t),
            (acted_twin (flipped n qubit true) (measured_world n qubit None true w) (measured_world n qubit None true u) (measured_twin n qubit None true w u t), tt),
          )) (λ w u t. tt);
      branch = λ g y z h k. alike_by n _ _ _ (fold-if Spread (spread_step n) g y z) (para-if Meets (meets_step n) g y z)
          (λ w u t. zip_flat IsTwin IsTwin (branch g (in_worlds (map (spread n) y)) (in_worlds (map (spread n) z))) (branch g (in_worlds (map (spread n) y)) (in_worlds (map (spread n) z)))
          (branch_twins g (in_worlds (map (spread n) y)) (in_worlds (map (spread n) z)) (body_follows n y h) (body_follows n z k)) (split g.bit w) (split g.bit u) (split_twins g.bit w u t))
          (λ w u t. zip_flat IsTwin IsTwinMet (branch_meets g (meets_of n y) (meets_of n z)) (branch_meets g (meets_of n y) (meets_of n z))
          (branch_meet g (meets_of n y) (meets_of n z) (body_meet n y h) (body_meet n z k)) (split g.bit w) (split g.bit u) (split_twins g.bit w u t));
      loop = λ g claim body line h. alike_by n _ _ _ (fold-while Spread (spread_step n) g claim body line) (para-while Meets (meets_step n) g claim body line) (λ w u t. (t, tt)) (λ w u t. tt);
      claim = λ claim line. alike_by n _ _ _ (fold-assert Spread (spread_step n) claim line) (para-assert Meets (meets_step n) claim line) (λ w u t. (t, tt)) (λ w u t. tt);
      assuming = λ g. alike_by n _ _ _ (fold-assume Spread (spread_step n) g) (para-assume Meets (meets_step n) g) (assumed_twins g) (λ w u t. tt);
    })

    each_alike : (n : ℕ) (body : List Stmt) → AllByRecursion (IsAlike n) body
    each_alike n [] = tt
    each_alike n (s ∷ body) = (alike n s, each_alike n body)

    pub played_twins : (n : ℕ) (body : List Stmt) (w u : World) → IsTwin w u → AreTwins (in_worlds (map (spread n) body) w) (in_worlds (map (spread n) body) u)
    played_twins n body = body_follows n body (each_alike n body)

    pub met_twins : (n : ℕ) (body : List Stmt) (w u : World) → IsTwin w u → AllZip IsTwinMet (meets_of n body w) (meets_of n body u)
    met_twins n body = body_meet n body (each_alike n body)
