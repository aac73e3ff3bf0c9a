-- Cases that were looked up: their expressions are there, on the program's qubits, and their bits are bits of the program.
use Rattle.std.proofs.Common.{◌≡◌, ℕ, ◌+◌, ◌<◌, ◌≤◌, ◌==◌, Bool, true, false, cond, ◌&&◌, nat_lt, List, [], ◌∷◌, All, IfOk, length, map, Option, None, Some, Result, Ok, Err, refl, ap, ◌∙◌, subst, arith, if◌then◌else◌}
use Rattle.std.specs.List.{find}
use Rattle.std.specs.Str.{bytes_eq}
use Rattle.std.proofs.Math.ListN.{get_or-map}
use Rattle.std.proofs.lemmas.Bool.Decides.{nat_tests}
use Rattle.std.proofs.lemmas.List.Elements.{All-cons, All-head, All-nil, All-tail, All-weaker}
use Rattle.aq_base.specs.Checks.{all_checked, or_refuse, ◌>>=◌}
use Rattle.aq_base.specs.Limits.{most_bits}
use Rattle.aq_prog.specs.Programs.{AreInRow, IsValidProgram}
use Rattle.aq_prog.specs.declared.program.BitRegister.{BitRegister}
use Rattle.aq_prog.specs.declared.program.Program.{Program}
use Rattle.aq_prog.specs.declared.stmt.Guard.{Guard}
use Rattle.aq_sets.specs.Tables.{table, at_position}
use Rattle.aq_sets.specs.Sizes.{Size, no_size, size_of, size_step}
use Rattle.aq_sets.specs.Valid.{IsValidClaim, IsValidSets}
use Rattle.aq_sets.specs.declared.sets.Case.{Case}
use Rattle.aq_sets.specs.declared.sets.Cond.{Cond}
use Rattle.aq_sets.specs.declared.sets.Expr.{Expr}
use Rattle.aq_sets.specs.declared.sets.NamedClaim.{NamedClaim}
use Rattle.aq_sets.specs.declared.sets.Sets.{Sets}
use Rattle.aq_obligations.specs.Bound.{IsBoundCase}
use Rattle.aq_owing.specs.Asking.{Checked, bit_of, bit_in, register_named, guard_on, bound_cond, bound_case, bound_claim, bound_claims, claim_named, Asked, asked, AreBound, AreShort, Gives, AreQubits}
use Rattle.aq_obligations.specs.declared.bound.BoundCase.{BoundCase}
use Rattle.aq_owing.specs.declared.asked.ObligationFault.{ObligationFault}
use Rattle.aq_owing.specs.declared.asked.ObligationFault.TheVariants as faults

-- what stands at a position among the qubits of sizes
pub are_qubits : (exprs : List Expr) (numbers : List ℕ) → numbers ≡ map (λ s. s.qubits) (table size_step exprs) → AreQubits exprs numbers
unfolding size_of
are_qubits exprs numbers e i = ap (λ (ns : List ℕ). at_position 0 ns i) e ∙ get_or-map (λ (s : Size). s.qubits) (table size_step exprs) i no_size

-- ---- registers
in_row : (first end : ℕ) (registers : List BitRegister) → AreInRow first end registers → (first ≤ end) × All (λ r. r.first + r.size ≤ end) registers
in_row first end [] e = (omega (arith, e), All-nil (λ r. r.first + r.size ≤ end))
in_row first end (r ∷ rs) h =
    let t = in_row (first + r.size) end rs h.2 in
    (omega (arith, t.0), All-cons (λ r. r.first + r.size ≤ end) r rs (omega (arith, t.0, h.0)) t.1)

pub within_bits : (p : Program) → IsValidProgram p → All (λ r. r.first + r.size ≤ p.bits) p.registers
within_bits p valid = (in_row 0 p.bits p.registers valid.row).1

pub short_registers : (p : Program) → IsValidProgram p → AreShort p.registers
short_registers p valid = All-weaker (λ r. r.first + r.size ≤ p.bits) (λ r. r.first + r.size ≤ most_bits) (λ r h. omega (arith, h, valid.bits)) p.registers (within_bits p valid)

found_in : {A : Type 0} (P : A → Type 0) (test : A → Bool) (xs : List A) (x : A) → All P xs → find test xs ≡ Some x → P x
found_in P test [] x all e = absurd (cc e)
found_in P test (y ∷ ys) x all e = by_test (found_in P test ys x (All-tail P y ys all)) (test y) e
  where
    by_test : (find test ys ≡ Some x → P x) → (b : Bool) → cond b (Some y) (find test ys) ≡ Some x → P x
    by_test in_rest true h = let same : y ≡ x = cc in subst P same (All-head P y ys all)
    by_test in_rest false h = in_rest h

both_true : (u v : Bool) → (u && v) ≡ true → (u ≡ true) × (v ≡ true)
both_true true true e = (refl, refl)
both_true true false e = cc
both_true false v e = cc

bit_within : (index : Option ℕ) (r : BitRegister) (b : ℕ) → bit_of index r ≡ Some b → b < r.first + r.size
bit_within None r b e = by_test (r.size == 1) refl e
  where
    by_test : (t : Bool) → (r.size == 1) ≡ t → (if t then Some r.first else None) ≡ Some b → b < r.first + r.size
    by_test true h k = let one : r.size ≡ 1 = grind (arith, nat_tests) in let same : r.first ≡ b = cc in omega (arith, one, same)
    by_test false h k = absurd (cc k)
bit_within (Some i) r b e = by_test (r.indexed && nat_lt i r.size) refl e
  where
    by_test : (t : Bool) → (r.indexed && nat_lt i r.size) ≡ t → (if t then Some (r.first + i) else None) ≡ Some b → b < r.first + r.size
    by_test true h k =
        let less : nat_lt i r.size ≡ true = (both_true r.indexed (nat_lt i r.size) h).1 in
        let below : i < r.size = grind (arith, nat_tests) in
        let same : r.first + i ≡ b = cc in omega (arith, below, same)
    by_test false h k = absurd (cc k)

bit_below : (bits : ℕ) (registers : List BitRegister) (test : BitRegister → Bool) (index : Option ℕ) (b : ℕ) → All (λ r. r.first + r.size ≤ bits) registers
    → bit_in index (find test registers) ≡ Some b → b < bits
bit_below bits registers test index b all e = by_found (find test registers) refl e
  where
    by_found : (o : Option BitRegister) → find test registers ≡ o → bit_in index o ≡ Some b → b < bits
    by_found None h k = absurd (cc k)
    by_found (Some r) h k =
        let within = found_in (λ r. r.first + r.size ≤ bits) test registers r all h in
        let inside = bit_within index r b k in
        omega (arith, within, inside)

-- ---- conditions
bit_found : (fault : ObligationFault) (value : Bool) (o : Option ℕ) (g : Guard) → (or_refuse fault o >>= λ bit. Ok (guard_on value bit)) ≡ Ok g → o ≡ Some g.bit
bit_found fault value None g e = absurd (cc e)
bit_found fault value (Some b) g e = let same : guard_on value b ≡ g = cc in ap (λ (x : Guard). Some x.bit) same

cond_below : (p : Program) (name : List ℕ) (c : Cond) (g : Guard) → IsValidProgram p → bound_cond p name c ≡ Ok g → g.bit < p.bits
cond_below p name c g valid e =
    bit_below p.bits p.registers (λ r. bytes_eq r.name c.bit) c.index g.bit (within_bits p valid) (bit_found _ c.value (bit_in c.index (register_named p.registers c.bit)) g e)

-- what each gives has a property
each_checked : {A B : Type 0} (P : A → Type 0) (Q : B → Type 0) (f : A → Checked B) → ((x : A) (y : B) → P x → f x ≡ Ok y → Q y)
    → (xs : List A) (ys : List B) → All P xs → all_checked f xs ≡ Ok ys → All Q ys
each_checked P Q f gives [] ys all e = let same : [] ≡ ys = cc in subst (All Q) same (All-nil Q)
each_checked {B = B} P Q f gives (x ∷ xs) ys all e =
    by_first (λ zs. each_checked P Q f gives xs zs (All-tail P x xs all)) (f x) refl (all_checked f xs) refl e
  where
    by_first : ((zs : List B) → all_checked f xs ≡ Ok zs → All Q zs) → (r : Checked B) → f x ≡ r → (s : Checked (List B)) → all_checked f xs ≡ s
        → (r >>= λ y. s >>= λ zs. Ok (y ∷ zs)) ≡ Ok ys → All Q ys
    by_first in_rest (Err u) h s k l = absurd (cc l)
    by_first in_rest (Ok y) h (Err u) k l = absurd (cc l)
    by_first in_rest (Ok y) h (Ok zs) k l = let same : y ∷ zs ≡ ys = cc in subst (All Q) same (All-cons Q y zs (gives x y (All-head P x xs all) h) (in_rest zs k))

-- ---- cases
abbrev case_with : Case → List Guard → BoundCase
case_with c guards = record { set = c.set; when = guards }

case_bound : (p : Program) (s : Sets) (name : List ℕ) (c : Case) (b : BoundCase) → IsValidProgram p → c.set < length s.exprs → bound_case p s name c ≡ Ok b → IsBoundCase p s b
unfolding bound_case
case_bound p s name c b valid there e = by_test ((size_of s.exprs c.set).qubits == p.qubits) refl (all_checked (bound_cond p name) c.when) refl e
  where
    by_test : (t : Bool) → ((size_of s.exprs c.set).qubits == p.qubits) ≡ t → (r : Checked (List Guard)) → all_checked (bound_cond p name) c.when ≡ r
        → (if t then (r >>= λ guards. Ok (case_with c guards)) else Err (faults.QubitsDiffer name (size_of s.exprs c.set).qubits)) ≡ Ok b → IsBoundCase p s b
    by_test false h r k l = absurd (cc l)
    by_test true h (Err u) k l = absurd (cc l)
    by_test true h (Ok guards) k l =
        let same : case_with c guards ≡ b = cc in
        subst (IsBoundCase p s) same (record {
          there = there;
          qubits = grind (arith, nat_tests);
          bits = each_checked (λ _. Unit {0}) (λ g. g.bit < p.bits) (bound_cond p name) (λ d g _ is. cond_below p name d g valid is) c.when guards (λ _ _ _. tt) k;
        })

claim_bound : (p : Program) (s : Sets) (claim : NamedClaim) (cases : List BoundCase) → IsValidProgram p → IsValidClaim s.exprs claim → bound_claim p s claim ≡ Ok cases → All (IsBoundCase p s) cases
claim_bound p s claim cases valid ok e =
    each_checked (λ c. c.set < length s.exprs) (IsBoundCase p s) (bound_case p s claim.name) (λ c b there is. case_bound p s claim.name c b valid there is) claim.cases cases ok.there e

-- ---- what is asked
abbrev all_of : List BoundCase → List BoundCase → List (List BoundCase) → Asked
all_of before after claims = record { before = before; after = after; claims = claims }

-- the claims that are found are valid
named_valid : (s : Sets) (name : List ℕ) (claim : NamedClaim) → IsValidSets s → claim_named s name ≡ Ok claim → IsValidClaim s.exprs claim
named_valid s name claim ok e = by_found (find (λ c. bytes_eq c.name name) s.claims) refl e
  where
    by_found : (x : Option NamedClaim) → find (λ c. bytes_eq c.name name) s.claims ≡ x → or_refuse (faults.UnknownClaim name) x ≡ Ok claim → IsValidClaim s.exprs claim
    by_found None h k = absurd (cc k)
    by_found (Some found) h k =
        let same : found ≡ claim = cc in
        subst (IsValidClaim s.exprs) same (found_in (IsValidClaim s.exprs) (λ c. bytes_eq c.name name) s.claims found ok.claims h)

claims_bound : (p : Program) (s : Sets) (first second : NamedClaim) (others : List NamedClaim) (a : Asked) → IsValidProgram p
    → IsValidClaim s.exprs first → IsValidClaim s.exprs second → All (IsValidClaim s.exprs) others
    → bound_claims p s first second others ≡ Ok a → AreBound p s a
claims_bound p s first second others a valid f g h e =
    by_cases (bound_claim p s first) refl (bound_claim p s second) refl (all_checked (bound_claim p s) others) refl e
  where
    by_cases : (q : Checked (List BoundCase)) → bound_claim p s first ≡ q → (r : Checked (List BoundCase)) → bound_claim p s second ≡ r
        → (t : Checked (List (List BoundCase))) → all_checked (bound_claim p s) others ≡ t
        → (q >>= λ before. r >>= λ after. t >>= λ claims. Ok (all_of before after claims)) ≡ Ok a → AreBound p s a
    by_cases (Err u) i r j t k l = absurd (cc l)
    by_cases (Ok before) i (Err u) j t k l = absurd (cc l)
    by_cases (Ok before) i (Ok after) j (Err u) k l = absurd (cc l)
    by_cases (Ok before) i (Ok after) j (Ok claims) k l =
        let same : all_of before after claims ≡ a = cc in
        subst (AreBound p s) same (record {
          before = claim_bound p s first before valid f i;
          after = claim_bound p s second after valid g j;
          claims = each_checked (IsValidClaim s.exprs) (All (IsBoundCase p s)) (bound_claim p s) (λ c cases ok is. claim_bound p s c cases valid ok is) others claims h k;
        })

asked_bound : (p : Program) (s : Sets) (pre post : List ℕ) (a : Asked) → IsValidProgram p → IsValidSets s → asked p s pre post ≡ Ok a → AreBound p s a
unfolding asked
asked_bound p s pre post a valid ok e =
    by_found (claim_named s pre) refl (claim_named s post) refl (all_checked (claim_named s) p.claims) refl e
  where
    by_found : (x : Checked NamedClaim) → claim_named s pre ≡ x → (y : Checked NamedClaim) → claim_named s post ≡ y
        → (z : Checked (List NamedClaim)) → all_checked (claim_named s) p.claims ≡ z
        → (x >>= λ first. y >>= λ second. z >>= λ others. bound_claims p s first second others) ≡ Ok a → AreBound p s a
    by_found (Err u) h y i z j l = absurd (cc l)
    by_found (Ok first) h (Err u) i z j l = absurd (cc l)
    by_found (Ok first) h (Ok second) i (Err u) j l = absurd (cc l)
    by_found (Ok first) h (Ok second) i (Ok others) j l = claims_bound p s first second others a valid
        (named_valid s pre first ok h) (named_valid s post second ok i)
        (each_checked (λ _. Unit {0}) (IsValidClaim s.exprs) (claim_named s) (λ name c _ is. named_valid s name c ok is) p.claims others (λ _ _ _. tt) j) l

pub are_bound : (p : Program) (s : Sets) (pre post : List ℕ) (r : Result Asked ObligationFault) → IsValidProgram p → IsValidSets s → Gives (λ a. a) r (asked p s pre post)
    → IfOk r (AreBound p s)
are_bound p s pre post (Ok a) valid ok e = asked_bound p s pre post a valid ok e
are_bound p s pre post (Err u) valid ok e = tt
