-- A bracket that is put together is valid: its terms have different indices, each below 2 to the number of its qubits.
use Rattle.std.proofs.Common.{◌≡◌, ℕ, suc, ◌+◌, ◌*◌, ◌^◌, ◌<◌, ◌≤◌, ◌==◌, Bool, true, false, not, nat_lt, nat_eq, List, [], ◌∷◌, map, length, Ok, refl, sym, subst, ◌∙◌, arith}
use Rattle.std.specs.Prelude.{if◌then◌else◌}
use Rattle.std.specs.List.{AllByRecursion, IsDistinct, fold}
use Rattle.std.proofs.lemmas.Bool.{eqb-true, not-false}
use Rattle.std.proofs.lemmas.Grind.{pow_more}
use Rattle.std.proofs.lemmas.Cmp.{nat_eq_equiv}
use Rattle.std.proofs.lemmas.List.{length_push, map-append}
use Rattle.std.proofs.lemmas.List.Elements.{All-from_recursion}
use Rattle.std.proofs.lemmas.Map.Keys.{IsDistinct-push}
use Rattle.aq_lex.specs.declared.place.Place.{Place}
use Rattle.aq_base.specs.Checks.{refuse_if, ◌>>=◌, ◌>>◌}
use Rattle.aq_base.specs.Limits.{most_qubits}
use Rattle.aq_set_read.specs.Gathered.{Gathered, counted}
use Rattle.aq_set_read.specs.Coefs.{roots_of}
use Rattle.aq_set_read.specs.Meaning.{Step, step, out_of_range, node, digits_of, ket_length, digit, binary, index_of, most_roots, stands_in, term_of, term_behind, term_taken, terms_taken, bracket_qubits, bracket_made}
use Rattle.aq_set_parse.specs.declared.tree.SetTerm.{SetTerm}
use Rattle.aq_sets.specs.declared.sets.Term.{Term}
use Rattle.aq_sets.specs.declared.sets.Expr.TheVariants as expr
use Rattle.aq_set_read.specs.declared.set_fault.SetFault.TheVariants as faults
use Rattle.aq_set_read.proofs.BracketLaws.{any_index}
use Rattle.aq_set_read.proofs.ValidChecks.{Judged, follows, unless, weaker}
use Rattle.aq_sets.proofs.ValidSizes.{holds_behind}
use Rattle.aq_set_read.proofs.ValidNodes.{IsSound, IsGrown, not_grown, grown_twice, IsFine, node-fine, one_node_more, counted-judged, counted-sound, few-within}

-- ---- indices

digit-small : (b : ℕ) → digit b ≤ 1
digit-small b = by (b == 49)
  where
    by : (c : Bool) → (if c then 1 else 0) ≤ 1
    by true = omega arith
    by false = omega arith

binary-from : (digits : List ℕ) (n k : ℕ) → n < 2 ^ k → fold (λ n b. 2 * n + digit b) n digits < 2 ^ (k + length digits)
binary-from [] n k lt = subst (λ m. n < 2 ^ m) (omega arith) lt
binary-from (b ∷ digits) n k lt =
    let small = digit-small b in
    let double = pow_more 2 k in
    let more : 2 * n + digit b < 2 ^ (k + 1) = omega (arith, lt, small, double) in
    subst (λ m. fold (λ n b. 2 * n + digit b) (2 * n + digit b) digits < 2 ^ m) (omega arith) (binary-from digits (2 * n + digit b) (k + 1) more)

binary-below : (digits : List ℕ) → binary digits < 2 ^ length digits
binary-below digits = subst (λ m. binary digits < 2 ^ m) (omega arith) (binary-from digits 0 0 (omega arith))

-- ---- terms

abbrev indices : List Term → List ℕ
indices terms = map (λ (t : Term). t.index) terms

pub record AreTerms (n : ℕ) (terms : List Term) : Type 0 where
  pub below : AllByRecursion (λ (t : Term). t.index < 2 ^ n) terms
  pub distinct : IsDistinct nat_eq (indices terms)

-- so many terms are taken behind what is gathered
pub record AreTaken (n count : ℕ) (g : Gathered) (s : Step (List Term)) : Type 0 where
  pub sound : IsSound s.gathered
  pub grown : IsGrown g s.gathered
  pub terms : AreTerms n s.value
  pub long : length s.value ≡ count

one_taken : (n : ℕ) (earlier : List Term) (t : SetTerm) (g : Gathered) → IsSound g → AreTerms n earlier → ket_length t ≡ n → stands_in earlier (index_of t) ≡ false → g.nodes + 1 ≤ 100000
    → AreTaken n (length earlier + 1) g (step (one_node_more g) (term_behind earlier t))
one_taken n earlier t g sound terms fits new few = record {
  sound = counted-sound g sound few;
  grown = not_grown g (suc g.nodes);
  terms = record {
    below = holds_behind (λ (x : Term). x.index < 2 ^ n) earlier (term_of t) terms.below (subst (λ m. index_of t < 2 ^ m) fits (binary-below (digits_of t.ket.text)));
    distinct = subst (IsDistinct nat_eq) (sym (map-append (λ (x : Term). x.index) earlier (term_of t ∷ [])))
        (IsDistinct-push nat_eq_equiv (indices earlier) (index_of t) terms.distinct (any_index earlier (index_of t) ∙ new));
  };
  long = length_push earlier (term_of t);
}

term-taken : (n : ℕ) (earlier : List Term) (t : SetTerm) (g : Gathered) → IsSound g → AreTerms n earlier → Judged (AreTaken n (length earlier + 1) g) (term_taken n earlier t g)
unfolding term_taken
term-taken n earlier t g sound terms =
    let R = AreTaken n (length earlier + 1) g in
    let last = counted t.ket.at g >>= λ h. Ok (step h (term_behind earlier t)) in
    let third = refuse_if (stands_in earlier (index_of t)) (faults.RepeatedKet t.ket.at) >> last in
    let second = refuse_if (not (ket_length t == n)) (faults.KetLength t.ket.at) >> third in
    unless R (nat_lt most_roots (roots_of t.coef)) (faults.AmpTooWide t.at) (refuse_if (nat_lt most_qubits n) (faults.QubitCount t.ket.at) >> second) tt (λ narrow.
    unless R (nat_lt most_qubits n) (faults.QubitCount t.ket.at) second tt (λ few.
    unless R (not (ket_length t == n)) (faults.KetLength t.ket.at) third tt (λ fits.
    unless R (stands_in earlier (index_of t)) (faults.RepeatedKet t.ket.at) last tt (λ new.
    counted-judged R t.ket.at g (λ h. Ok (step h (term_behind earlier t))) (one_taken n earlier t g sound terms (eqb-true (ket_length t) n (not-false (ket_length t == n) fits)) new)))))

terms-taken : (n : ℕ) (earlier : List Term) (ts : List SetTerm) (g : Gathered) → IsSound g → AreTerms n earlier → Judged (AreTaken n (length earlier + length ts) g) (terms_taken n earlier ts g)
terms-taken n earlier [] g sound terms = record { sound = sound; grown = not_grown g g.nodes; terms = terms; long = omega arith }
terms-taken n earlier (t ∷ ts) g sound terms =
    follows (AreTaken n (length earlier + 1) g) (AreTaken n (length earlier + length (t ∷ ts)) g) (term_taken n earlier t g) (λ s. terms_taken n s.value ts s.gathered)
    (term-taken n earlier t g sound terms) (λ s taken.
    weaker (AreTaken n (length s.value + length ts) s.gathered) (AreTaken n (length earlier + length (t ∷ ts)) g) (terms_taken n s.value ts s.gathered)
    (terms-taken n s.value ts s.gathered taken.sound taken.terms) (λ r rest. record {
      sound = rest.sound;
      grown = grown_twice g s.gathered r.gathered taken.grown rest.grown;
      terms = rest.terms;
      long = omega (arith, rest.long, taken.long);
    }))

-- a bracket of some qubits has a term
some_terms : (terms : List SetTerm) → 0 < bracket_qubits terms → 0 < length terms
some_terms [] lt = lt
some_terms (t ∷ ts) lt = omega arith

bracket-fine : (at : Place) (terms : List SetTerm) (g : Gathered) (s : Step (List Term)) → AreTaken (bracket_qubits terms) (length terms) g s
    → Judged (IsFine g) (node at (out_of_range (bracket_qubits terms)) (expr.Kets (bracket_qubits terms) s.value) (bracket_qubits terms) s.gathered)
bracket-fine at terms g s taken =
    let n = bracket_qubits terms in
    weaker (IsFine s.gathered) (IsFine g) (node at (out_of_range n) (expr.Kets n s.value) n s.gathered)
    (node-fine at (out_of_range n) (expr.Kets n s.value) n s.gathered taken.sound (λ passed.
    let few = few-within n passed in
    let some = some_terms terms few.0 in
    record {
      valid = (omega (arith, some, taken.long), All-from_recursion (λ (t : Term). t.index < 2 ^ n) s.value taken.terms.below, taken.terms.distinct);
      is = refl;
      few = few;
    }))
    (λ r fine. record { sound = fine.sound; grown = grown_twice g s.gathered r.gathered taken.grown fine.grown; made = fine.made })

no_terms : (n : ℕ) → AreTerms n []
unfolding IsDistinct
no_terms n = record { below = tt; distinct = tt }

pub bracket_made-fine : (at : Place) (terms : List SetTerm) (g : Gathered) → IsSound g → Judged (IsFine g) (bracket_made at terms g)
unfolding bracket_made
bracket_made-fine at terms g sound =
    let n = bracket_qubits terms in
    follows (AreTaken n (length terms) g) (IsFine g) (terms_taken n [] terms g) (λ s. node at (out_of_range n) (expr.Kets n s.value) n s.gathered)
    (weaker (AreTaken n (0 + length terms) g) (AreTaken n (length terms) g) (terms_taken n [] terms g) (terms-taken n [] terms g sound (no_terms n)) (λ s taken. record { sound = taken.sound; grown = taken.grown; terms = taken.terms; long = omega (arith, taken.long) }))
    (bracket-fine at terms g)
