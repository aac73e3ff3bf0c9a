-- A program and sets to try the look-up on are valid.
use Rattle.std.proofs.Common.{◌≡◌, ℕ, zero, suc, ◌<◌, ◌≤◌, Bool, true, false, List, [], ◌∷◌, ◌++◌, length, Some, refl, sym, ap, ◌∙◌, subst, arith}
use Rattle.std.specs.Prelude.{slice_get}
use Rattle.std.specs.List.{IsDistinct}
use Rattle.std.proofs.lemmas.List.Elements.{All-cons, All-nil}
use Rattle.aq_prog.specs.Programs.{IsValidProgram, IsValidStmt}
use Rattle.aq_prog.specs.declared.program.BitRegister.{BitRegister}
use Rattle.aq_prog.specs.declared.program.Program.{Program}
use Rattle.aq_prog.specs.declared.stmt.Stmt.{Stmt}
use Rattle.aq_sets.specs.Sizes.{size_of}
use Rattle.aq_sets.specs.Valid.{IsValidClaim, IsValidExpr, IsShort, HasFewTerms, IsShortClaim, HasShortLists, IsValidSets}
use Rattle.aq_sets.specs.declared.sets.Cond.{Cond}
use Rattle.aq_sets.specs.declared.sets.Expr.{Expr}
use Rattle.aq_sets.specs.declared.sets.Expr.TheVariants as expr
use Rattle.aq_sets.specs.declared.sets.NamedClaim.{NamedClaim}
use Rattle.aq_sets.specs.declared.sets.NamedSet.{NamedSet}
use Rattle.aq_sets.specs.declared.sets.Sets.{Sets}

abbrev pub register : List ℕ → ℕ → ℕ → Bool → BitRegister
register name first size indexed = record { name = name; first = first; size = size; indexed = indexed }

-- a register of two bits and one of a single bit
abbrev pub two_registers : List BitRegister
two_registers = register (99 ∷ []) 0 2 true ∷ register (100 ∷ []) 2 1 false ∷ []

abbrev program_of : List BitRegister → List (List ℕ) → List Stmt → Program
program_of registers claims body = record { qubits = 2; bits = 3; registers = registers; claims = claims; body = body }

valid_example : IsValidProgram (program_of two_registers [] [])
unfolding IsDistinct
valid_example = record {
  qubits = omega arith;
  bits = omega arith;
  names = ((refl, tt), (tt, tt));
  row = (refl, omega arith, (refl, omega arith, refl));
  body = All-nil (IsValidStmt 2 3 0);
}

pub valid_program : (registers : List BitRegister) (claims : List (List ℕ)) (body : List Stmt) → registers ≡ two_registers → claims ≡ [] → body ≡ [] → IsValidProgram (program_of registers claims body)
valid_program registers claims body e f g = subst IsValidProgram (λ i. program_of (sym e i) (sym f i) (sym g i)) valid_example

-- two elements, one pushed behind the other
pub two_pushed : {A : Type 0} (xs ys zs : List A) (x y : A) → xs ≡ [] → ys ≡ xs ++ x ∷ [] → zs ≡ ys ++ y ∷ [] → zs ≡ x ∷ y ∷ []
two_pushed xs ys zs x y e f g = g ∙ ap (λ l. l ++ y ∷ []) (f ∙ ap (λ l. l ++ x ∷ []) e)

abbrev pub two_exprs : List Expr
two_exprs = expr.All 1 ∷ expr.All 2 ∷ []

abbrev pub claim_of : List ℕ → ℕ → List Cond → NamedClaim
claim_of name set when = record { name = name; cases = record { set = set; when = when } ∷ [] }

abbrev pub one_set : List NamedSet
one_set = record { name = 115 ∷ []; expr = 1 } ∷ []

abbrev pub two_claims : ℕ → List Cond → List Cond → List NamedClaim
two_claims set when other = claim_of (112 ∷ []) set when ∷ claim_of (113 ∷ []) 1 other ∷ []

abbrev sets_of : List Expr → List NamedSet → List NamedClaim → Sets
sets_of exprs sets claims = record { exprs = exprs; sets = sets; claims = claims }

valid_exprs : (i : ℕ) (e : Expr) → slice_get two_exprs i ≡ Some e → IsValidExpr two_exprs i e
valid_exprs zero e h = let same : expr.All 1 ≡ e = cc in subst (IsValidExpr two_exprs 0) same tt
valid_exprs (suc zero) e h = let same : expr.All 2 ≡ e = cc in subst (IsValidExpr two_exprs 1) same tt
valid_exprs (suc (suc i)) e h = absurd (cc h)

valid_qubits : (i : ℕ) → i < 2 → (0 < (size_of two_exprs i).qubits) × ((size_of two_exprs i).qubits ≤ 16)
unfolding size_of
valid_qubits zero h = (omega arith, omega arith)
valid_qubits (suc zero) h = (omega arith, omega arith)
valid_qubits (suc (suc i)) h = absurd (omega (arith, h))

valid_claim : (name : List ℕ) (set : ℕ) (when : List Cond) → set < 2 → IsValidClaim two_exprs (claim_of name set when)
valid_claim name set when h = record {
  some = omega arith;
  there = All-cons (λ c. c.set < 2) (record { set = set; when = when }) [] h (All-nil (λ c. c.set < 2));
  equal = (
    (size_of two_exprs set).qubits,
    All-cons (λ c. (size_of two_exprs c.set).qubits ≡ (size_of two_exprs set).qubits) (record { set = set; when = when }) [] refl
        (All-nil (λ c. (size_of two_exprs c.set).qubits ≡ (size_of two_exprs set).qubits)),
  );
}

short_claim : (name : List ℕ) (set : ℕ) (when : List Cond) → IsShort when → IsShortClaim (claim_of name set when)
short_claim name set when few = record { cases = omega arith; conditions = All-cons (λ c. IsShort c.when) (record { set = set; when = when }) [] few (All-nil (λ c. IsShort c.when)) }

short_two : (set : ℕ) (when other : List Cond) → IsShort when → IsShort other → HasShortLists (sets_of two_exprs one_set (two_claims set when other))
short_two set when other few less = record {
  terms = All-cons HasFewTerms (expr.All 1) (expr.All 2 ∷ []) tt (All-cons HasFewTerms (expr.All 2) [] tt (All-nil HasFewTerms));
  sets = omega arith;
  claims = omega arith;
  each_claim = All-cons IsShortClaim (claim_of (112 ∷ []) set when) (claim_of (113 ∷ []) 1 other ∷ []) (short_claim (112 ∷ []) set when few)
      (All-cons IsShortClaim (claim_of (113 ∷ []) 1 other) [] (short_claim (113 ∷ []) 1 other less) (All-nil IsShortClaim));
}

valid_two : (set : ℕ) (when other : List Cond) → set < 2 → IsShort when → IsShort other → IsValidSets (sets_of two_exprs one_set (two_claims set when other))
unfolding IsDistinct
valid_two set when other h few less = record {
  exprs = valid_exprs;
  qubits = valid_qubits;
  sets = All-cons (λ n. n.expr < 2) (record { name = 115 ∷ []; expr = 1 }) [] (omega arith) (All-nil (λ n. n.expr < 2));
  claims = All-cons (IsValidClaim two_exprs) (claim_of (112 ∷ []) set when) (claim_of (113 ∷ []) 1 other ∷ []) (valid_claim (112 ∷ []) set when h)
      (All-cons (IsValidClaim two_exprs) (claim_of (113 ∷ []) 1 other) [] (valid_claim (113 ∷ []) 1 other (omega arith)) (All-nil (IsValidClaim two_exprs)));
  names = ((refl, (refl, tt)), ((refl, tt), (tt, tt)));
  short = omega arith;
  lists = short_two set when other few less;
}

pub valid_sets : (exprs : List Expr) (sets : List NamedSet) (claims : List NamedClaim) (set : ℕ) (when other : List Cond) → set < 2 → IsShort when → other ≡ []
    → exprs ≡ two_exprs → sets ≡ one_set → claims ≡ two_claims set when other → IsValidSets (sets_of exprs sets claims)
valid_sets exprs sets claims set when other h few none e f g =
    let long = ap length none in
    subst IsValidSets (λ i. sets_of (sym e i) (sym f i) (sym g i)) (valid_two set when other h few (omega (arith, long)))
