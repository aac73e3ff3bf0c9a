-- Terms of a bracket, and their indices.
use Rattle.std.proofs.Common.{◌≡◌, ℕ, ◌≤◌, tests, rules, Bool, true, false, not, ◌||◌, List, [], ◌∷◌, ◌++◌, map, nat_eq, nat_lt, ◌==◌, length, Ok, Err, refl, sym, ap, ◌∙◌}
use Rattle.std.specs.List.{list_any}
use Rattle.aq_lex.specs.declared.place.Place.{Place}
use Rattle.aq_base.specs.Checks.{refuse_if, ◌>>=◌, ◌>>◌}
use Rattle.aq_base.specs.Limits.{most_qubits}
use Rattle.aq_set_read.specs.Gathered.{Gathered, counted}
use Rattle.aq_set_read.specs.Meaning.{step, stands_in, digits_of, ket_length, binary, index_of, term_of, term_behind, term_taken, most_roots}
use Rattle.aq_set_read.specs.Parts.{term_added, term_counted, roots_taken}
use Rattle.aq_set_read.specs.Coefs.{amplitude_of, roots_of}
use Rattle.aq_set_parse.specs.declared.tree.SetTerm.{SetTerm}
use Rattle.aq_set_read.proofs.CheckLaws.{passes, has_passed, check_then}
use Rattle.aq_sets.specs.declared.sets.Term.{Term}
use Rattle.aq_set_read.specs.declared.set_fault.SetFault.TheVariants as faults

-- an index is in the set where it is a term's
pub any_index : (terms : List Term) (index : ℕ) → list_any (nat_eq index) (map (λ (t : Term). t.index) terms) ≡ stands_in terms index
any_index [] index = refl
any_index (t ∷ ts) index = ap (λ b. nat_eq index t.index || b) (any_index ts index)

not_not : (b : Bool) → not (not b) ≡ b
not_not true = refl
not_not false = refl

-- what the set says of a new index
pub new_index : (is_new : Bool) (keys : List ℕ) (before terms : List Term) (index : ℕ) → is_new ≡ not (list_any (nat_eq index) keys) → keys ≡ map (λ (t : Term). t.index) before → before ≡ terms → stands_in terms index ≡ not is_new
new_index is_new keys before terms index e k same =
    sym (any_index terms index)
    ∙ ap (λ (ts : List Term). list_any (nat_eq index) (map (λ (t : Term). t.index) ts)) (sym same)
    ∙ ap (list_any (nat_eq index)) (sym k)
    ∙ sym (not_not (list_any (nat_eq index) keys))
    ∙ ap not (sym e)

pub term_repeated : (at : Place) (terms : List Term) (term : Term) → stands_in terms term.index ≡ true → term_added at terms term ≡ Err (faults.RepeatedKet at)
term_repeated at terms term e = ap (λ b. refuse_if b (faults.RepeatedKet at) >> Ok (terms ++ term ∷ [])) e

pub term_new : (at : Place) (terms : List Term) (term : Term) → stands_in terms term.index ≡ false → term_added at terms term ≡ Ok (terms ++ term ∷ [])
term_new at terms term e = ap (λ b. refuse_if b (faults.RepeatedKet at) >> Ok (terms ++ term ∷ [])) e

-- a term whose length fits is put behind the others
pub term_goes_on : (n : ℕ) (earlier : List Term) (t : SetTerm) (g : Gathered) (roots : ℕ) (digits : List ℕ) (term : Term) →
    roots_taken t ≡ Ok roots → n ≤ most_qubits → digits ≡ digits_of t.ket.text → length digits ≡ n →
    term.index ≡ binary digits → term.amp ≡ amplitude_of t.minus t.coef → term_counted t.ket.at earlier term g ≡ term_taken n earlier t g
unfolding term_taken
term_goes_on n earlier t g roots digits term taken few at_digits long at_index at_amp =
    let is_few : nat_lt most_qubits n ≡ false = search (tests, rules) in
    let same_length : ket_length t ≡ n = ap (λ (ds : List ℕ). length ds) (sym at_digits) ∙ long in
    let is_long : not (ket_length t == n) ≡ false = search (tests, rules) in
    let index : term.index ≡ index_of t = at_index ∙ ap binary at_digits in
    let same : term ≡ term_of t = λ i. record { index = index i; amp = at_amp i } in
    let last = refuse_if (stands_in earlier (index_of t)) (faults.RepeatedKet t.ket.at) >> (counted t.ket.at g >>= λ h. Ok (step h (term_behind earlier t))) in
    ap (λ (x : Term). term_counted t.ket.at earlier x g) same
    ∙ check_then (stands_in earlier (index_of t)) (faults.RepeatedKet t.ket.at) (term_behind earlier t) (λ terms. counted t.ket.at g >>= λ h. Ok (step h terms))
    ∙ sym (passes (not (ket_length t == n)) (faults.KetLength t.ket.at) last is_long)
    ∙ sym (passes (nat_lt most_qubits n) (faults.QubitCount t.ket.at) (refuse_if (not (ket_length t == n)) (faults.KetLength t.ket.at) >> last) is_few)
    ∙ sym (passes (nat_lt most_roots (roots_of t.coef)) (faults.AmpTooWide t.at) (refuse_if (nat_lt most_qubits n) (faults.QubitCount t.ket.at) >> refuse_if (not (ket_length t == n)) (faults.KetLength t.ket.at) >> last)
    (has_passed (nat_lt most_roots (roots_of t.coef)) (faults.AmpTooWide t.at) (roots_of t.coef) roots taken))
