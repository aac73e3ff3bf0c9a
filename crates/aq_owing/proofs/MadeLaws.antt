-- The obligations that are made go with the program and its sets.
use Rattle.std.proofs.Common.{◌≡◌, ℕ, zero, suc, ◌+◌, Bool, true, false, ◌||◌, nat_lt, List, [], ◌∷◌, All, length, map, Ok, Err, min, refl, ap, ap₂, sym, ◌∙◌, arith, ⊎_elim}
use Rattle.std.proofs.lemmas.Bool.Decides.{nat_tests}
use Rattle.std.proofs.lemmas.List.Elements.{All-cons, All-head, All-nil, All-tail, All-weaker, All-contains}
use Rattle.aq_base.specs.Checks.{refuse_if, ◌>>=◌, ◌>>◌}
use Rattle.aq_base.specs.Limits.{most_obligations, most_fragment_statements}
use Rattle.aq_prog.specs.Cuts.{AreUncut}
use Rattle.aq_prog.specs.Programs.{IsValidProgram}
use Rattle.aq_prog.specs.declared.program.Program.{Program}
use Rattle.aq_sets.specs.Caps.{capped}
use Rattle.aq_sets.specs.declared.sets.Sets.{Sets}
use Rattle.aq_obligations.specs.Bound.{IsBoundCase, IsBoundObligation}
use Rattle.aq_obligations.specs.Owing.{Owed, claim_at}
use Rattle.aq_obligations.specs.OwingCounts.{OwesSoMany, numbers, totals}
use Rattle.aq_obligations.specs.declared.bound.BoundCase.{BoundCase}
use Rattle.aq_obligations.specs.declared.bound.Obligation.{Obligation}
use Rattle.aq_correct.specs.OwingLaws.{HasClaimedCases, IsClaimed, IsValidOwed, OwesClaimed, OwesFragments, OwesValid}
use Rattle.aq_owing.specs.Asking.{AreBound, Asked, Checked, asked}
use Rattle.aq_owing.specs.Made.{are_too_many, made, made_obligations, obligations_of, owed_by}
use Rattle.aq_owing.specs.declared.asked.ObligationFault.{ObligationFault}
use Rattle.aq_owing.specs.declared.asked.ObligationFault.TheVariants as faults

at_claim : (P : BoundCase → Type 0) (claims : List (List BoundCase)) (k : ℕ) → All (All P) claims → All P (claim_at claims k)
at_claim P [] k h = All-nil P
at_claim P (c ∷ claims) zero h = All-head (All P) c claims h
at_claim P (c ∷ claims) (suc k) h = at_claim P claims k (All-tail (All P) c claims h)

claimed_bound : (p : Program) (s : Sets) (a : Asked) (c : BoundCase) → AreBound p s a → IsClaimed a.claims a.before a.after c → IsBoundCase p s c
claimed_bound p s a c b h =
    ⊎_elim (λ i. All-contains (IsBoundCase p s) a.before c b.before i)
    (λ r. ⊎_elim (λ i. All-contains (IsBoundCase p s) a.after c b.after i)
    (λ i. All-contains (IsBoundCase p s) (claim_at a.claims i.0) c (at_claim (IsBoundCase p s) a.claims i.0 b.claims) i.1) r) h

owed_bound : (p : Program) (s : Sets) (a : Asked) (d : Owed BoundCase) → AreBound p s a → IsValidOwed p.qubits p.bits (length p.claims) d → AreUncut d.here.fragment
    → HasClaimedCases (IsClaimed a.claims a.before a.after) d → IsBoundObligation p s (made d)
owed_bound p s a d b v u h = record {
  from = All-weaker (IsClaimed a.claims a.before a.after) (IsBoundCase p s) (λ c i. claimed_bound p s a c b i) d.here.from h.from;
  given = v.given;
  fragment = v.fragment;
  uncut = u;
  goal = All-weaker (IsClaimed a.claims a.before a.after) (IsBoundCase p s) (λ c i. claimed_bound p s a c b i) d.goal h.goal;
}

all_bound : (p : Program) (s : Sets) (a : Asked) (ds : List (Owed BoundCase)) → AreBound p s a → All (IsValidOwed p.qubits p.bits (length p.claims)) ds → All (λ d. AreUncut d.here.fragment) ds
    → All (HasClaimedCases (IsClaimed a.claims a.before a.after)) ds → All (IsBoundObligation p s) (map made ds)
all_bound p s a [] b v u h = All-nil (IsBoundObligation p s)
all_bound p s a (d ∷ ds) b v u h =
    All-cons (IsBoundObligation p s) (made d) (map made ds)
    (owed_bound p s a d b (All-head (IsValidOwed p.qubits p.bits (length p.claims)) d ds v) (All-head (λ (x : Owed BoundCase). AreUncut x.here.fragment) d ds u) (All-head (HasClaimedCases (IsClaimed a.claims a.before a.after)) d ds h))
    (all_bound p s a ds b (All-tail (IsValidOwed p.qubits p.bits (length p.claims)) d ds v) (All-tail (λ (x : Owed BoundCase). AreUncut x.here.fragment) d ds u) (All-tail (HasClaimedCases (IsClaimed a.claims a.before a.after)) d ds h))

pub obligations_bound : (p : Program) (s : Sets) (a : Asked) → IsValidProgram p → AreBound p s a → OwesValid BoundCase → OwesFragments BoundCase → OwesClaimed BoundCase
    → All (IsBoundObligation p s) (obligations_of p a)
obligations_bound p s a valid b v u h =
    all_bound p s a (owed_by p a) b (v.valid p.qubits p.bits (length p.claims) a.claims a.before a.after p.body valid.body)
    (u.uncut a.claims a.before a.after p.body) (h.cases a.claims a.before a.after p.body)

-- ---- too many
-- the number of obligations, told up to one more than there may be
pub count_told : (n x : ℕ) → x ≡ capped n → min x (most_obligations + 1) ≡ min n (most_obligations + 1)
count_told n x e = omega (arith, e)

pub more_obligations : (n x : ℕ) → x ≡ min n (most_obligations + 1) → nat_lt most_obligations x ≡ nat_lt most_obligations n
more_obligations n x e = by_test (nat_lt most_obligations x) refl (nat_lt most_obligations n) refl
  where
    by_test : (a : Bool) → nat_lt most_obligations x ≡ a → (b : Bool) → nat_lt most_obligations n ≡ b → a ≡ b
    by_test true h true k = refl
    by_test false h false k = refl
    by_test true h false k = grind (arith, nat_tests)
    by_test false h true k = grind (arith, nat_tests)

pub more_statements : (n x : ℕ) → x ≡ capped n → nat_lt most_fragment_statements x ≡ nat_lt most_fragment_statements n
more_statements n x e = by_test (nat_lt most_fragment_statements x) refl (nat_lt most_fragment_statements n) refl
  where
    by_test : (a : Bool) → nat_lt most_fragment_statements x ≡ a → (b : Bool) → nat_lt most_fragment_statements n ≡ b → a ≡ b
    by_test true h true k = refl
    by_test false h false k = refl
    by_test true h false k = grind (arith, nat_tests)
    by_test false h true k = grind (arith, nat_tests)

pub too_many_told : (p : Program) (a : Asked) (number own : ℕ) → OwesSoMany BoundCase → number ≡ min (numbers p.body 1) (most_obligations + 1)
    → own ≡ capped (totals p.body (record { own = 0; times = 1 })).own
    → (nat_lt most_obligations number || nat_lt most_fragment_statements own) ≡ are_too_many (owed_by p a)
too_many_told p a number own law e f =
    ap₂ (λ (x y : Bool). x || y)
    (more_obligations (numbers p.body 1) number e ∙ ap (nat_lt most_obligations) (sym (law.number a.claims a.before a.after p.body)))
    (more_statements (totals p.body (record { own = 0; times = 1 })).own own f ∙ ap (nat_lt most_fragment_statements) (sym (law.total a.claims a.before a.after p.body)))

-- ---- the whole
pub made_so : (p : Program) (s : Sets) (pre post : List ℕ) (a : Asked) (list : List Obligation) → asked p s pre post ≡ Ok a → are_too_many (owed_by p a) ≡ false → list ≡ obligations_of p a
    → made_obligations p s pre post ≡ Ok list
made_so p s pre post a list e t l =
    ap (λ (r : Checked Asked). r >>= λ x. refuse_if (are_too_many (owed_by p x)) faults.TooManyObligations >> Ok (obligations_of p x)) e
    ∙ ap (λ b. refuse_if b faults.TooManyObligations >> Ok (obligations_of p a)) t ∙ ap Ok (sym l)

pub too_many_so : (p : Program) (s : Sets) (pre post : List ℕ) (a : Asked) → asked p s pre post ≡ Ok a → are_too_many (owed_by p a) ≡ true
    → made_obligations p s pre post ≡ Err faults.TooManyObligations
too_many_so p s pre post a e t =
    ap (λ (r : Checked Asked). r >>= λ x. refuse_if (are_too_many (owed_by p x)) faults.TooManyObligations >> Ok (obligations_of p x)) e
    ∙ ap (λ b. refuse_if b faults.TooManyObligations >> Ok (obligations_of p a)) t

pub fault_so : (p : Program) (s : Sets) (pre post : List ℕ) (f : ObligationFault) → asked p s pre post ≡ Err f → made_obligations p s pre post ≡ Err f
fault_so p s pre post f e = ap (λ (r : Checked Asked). r >>= λ x. refuse_if (are_too_many (owed_by p x)) faults.TooManyObligations >> Ok (obligations_of p x)) e
