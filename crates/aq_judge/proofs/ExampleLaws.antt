-- A program, sets and obligations to try the judge on are valid.
use Rattle.std.proofs.Common.{◌≡◌, ℕ, zero, suc, ◌<◌, ◌≤◌, Bool, false, ◌||◌, Option, List, [], ◌∷◌, All, length, get_or, Some, IfSome, ap₂, refl, sym, ap, ◌∙◌, subst, arith}
use Rattle.std.specs.Prelude.{slice_get}
use Rattle.std.specs.List.{AllByRecursion, IsDistinct}
use Rattle.std.proofs.lemmas.List.Elements.{All-cons, All-nil, recursion_from_All}
use Rattle.aq_ring.specs.Fractions.{Amplitude}
use Rattle.aq_prog.specs.Gates.{IsValidGate}
use Rattle.aq_prog.specs.Programs.{IsValidProgram, IsValidStmt, IsValidLevel}
use Rattle.aq_prog.specs.declared.gate.Gate.{Gate}
use Rattle.aq_prog.specs.declared.program.BitRegister.{BitRegister}
use Rattle.aq_prog.specs.declared.program.Program.{Program}
use Rattle.aq_prog.specs.declared.stmt.Stmt.{Stmt, every_made-Stmt}
use Rattle.aq_prog.specs.declared.stmt.Stmt.TheViews.{roll-Stmt}
use denote.Hole.Carrier.{roll}
use Rattle.aq_prog.specs.declared.stmt.Stmt.TheVariants as stmt
use Rattle.aq_prog.specs.declared.stmt.Stmt.TheOpen.{Stmt-F}
use Rattle.aq_prog.specs.declared.stmt.Guard.{Guard}
use Rattle.aq_prog.specs.Cuts.{cut_step, AreUncut}
use Rattle.aq_prog.proofs.CutLaws.{branch_cuts}
use Rattle.aq_prog.proofs.StmtLaws.{fold-gate, fold-measure}
use Rattle.aq_sets.specs.Sizes.{size_of}
use Rattle.aq_sets.specs.Valid.{IsValidExpr, IsShortClaim, IsValidSets, IsValidClaim}
use Rattle.aq_sets.specs.declared.sets.Expr.{Expr}
use Rattle.aq_sets.specs.declared.sets.Sets.{Sets}
use Rattle.aq_sets.specs.declared.sets.Term.{Term}
use Rattle.aq_sets.proofs.ShortLists.{terms-short}
use Rattle.aq_obligations.specs.Bound.{IsBoundCase, IsBoundObligation}
use Rattle.aq_obligations.specs.declared.bound.Obligation.{Obligation}
use Rattle.aq_obligations.specs.declared.bound.BoundCase.{BoundCase}
use Rattle.aq_judge.specs.Examples.{IsSmallCase, IsSmallObligation, IsSmallStmt, table}

-- ---- the sets

one_qubit : (a : Amplitude) (i : ℕ) → i < 6 → (size_of (table a) i).qubits ≡ 1
unfolding size_of
one_qubit a zero h = refl
one_qubit a (suc zero) h = refl
one_qubit a (suc (suc zero)) h = refl
one_qubit a (suc (suc (suc zero))) h = refl
one_qubit a (suc (suc (suc (suc zero)))) h = refl
one_qubit a (suc (suc (suc (suc (suc zero))))) h = refl
one_qubit a (suc (suc (suc (suc (suc (suc i)))))) h = absurd (omega (arith, h))

some_is : {x y : Expr} → ◌≡◌ {A = Option Expr} (Some x) (Some y) → x ≡ y
some_is e = cc

one_term : (t : Term) → t.index < 2 → (0 < 1) × All (λ (t : Term). t.index < 2) (t ∷ [])
one_term t h = (omega arith, All-cons (λ (t : Term). t.index < 2) t [] h (All-nil (λ (t : Term). t.index < 2)))

two_terms : (t u : Term) → t.index < 2 → u.index < 2 → All (λ (t : Term). t.index < 2) (t ∷ u ∷ [])
two_terms t u h k = All-cons (λ (t : Term). t.index < 2) t (u ∷ []) h (All-cons (λ (t : Term). t.index < 2) u [] k (All-nil (λ (t : Term). t.index < 2)))

valid_exprs : (a : Amplitude) (i : ℕ) (e : Expr) → slice_get (table a) i ≡ Some e → IsValidExpr (table a) i e
unfolding size_of IsDistinct
valid_exprs a zero e h = subst (IsValidExpr (table a) 0) (some_is h) (omega arith, (one_term _ (omega arith)).1, (tt, tt))
valid_exprs a (suc zero) e h = subst (IsValidExpr (table a) 1) (some_is h) (omega arith, (one_term _ (omega arith)).1, (tt, tt))
valid_exprs a (suc (suc zero)) e h = subst (IsValidExpr (table a) 2) (some_is h) tt
valid_exprs a (suc (suc (suc zero))) e h = subst (IsValidExpr (table a) 3) (some_is h) (omega arith, omega arith, refl)
valid_exprs a (suc (suc (suc (suc zero)))) e h = subst (IsValidExpr (table a) 4) (some_is h) (omega arith, two_terms _ _ (omega arith) (omega arith), ((refl, tt), (tt, tt)))
valid_exprs a (suc (suc (suc (suc (suc zero))))) e h = subst (IsValidExpr (table a) 5) (some_is h) (omega arith, two_terms _ _ (omega arith) (omega arith), ((refl, tt), (tt, tt)))
valid_exprs a (suc (suc (suc (suc (suc (suc i)))))) e h = absurd (cc h)

valid_qubits : (a : Amplitude) (i : ℕ) → i < 6 → (0 < (size_of (table a) i).qubits) × ((size_of (table a) i).qubits ≤ 16)
valid_qubits a i h = let e = one_qubit a i h in (omega (arith, e), omega (arith, e))

pub valid_sets : (a : Amplitude) (s : Sets) → s.exprs ≡ table a → s.sets ≡ [] → s.claims ≡ [] → IsValidSets s
unfolding IsDistinct
valid_sets a s e f g = subst IsValidSets (λ i. record { exprs = sym e i; sets = sym f i; claims = sym g i }) (record {
  exprs = valid_exprs a;
  qubits = valid_qubits a;
  sets = All-nil (λ n. n.expr < 6);
  claims = All-nil (IsValidClaim (table a));
  names = tt;
  short = omega arith;
  lists = record {
    terms = terms-short (table a) (valid_exprs a) (valid_qubits a);
    sets = omega arith;
    claims = omega arith;
    each_claim = All-nil IsShortClaim;
  };
})

-- ---- the program
abbrev program_of : List BitRegister → Program
program_of registers = record { qubits = 1; bits = 1; registers = registers; claims = []; body = [] }

pub valid_program : (r : BitRegister) → r.first ≡ 0 → r.size ≡ 1 → IsValidProgram (program_of (r ∷ []))
unfolding IsDistinct
valid_program r first size = record {
  qubits = omega arith;
  bits = omega arith;
  names = (tt, tt);
  row = (first, omega (arith, size), omega (arith, first, size));
  body = All-nil (IsValidStmt 1 1 0);
}

-- ---- the statements
gate_valid : (g : Gate) → IsValidGate 1 g → IsValidStmt 1 1 0 (stmt.Gate g)
unfolding roll-Stmt roll
gate_valid g v = every_made-Stmt (IsValidLevel 1 1 0) (Stmt-F.Gate g) (Stmt-F.Gate g) refl v

pub gate_small : (g : Gate) → IsValidGate 1 g → IsSmallStmt (stmt.Gate g)
gate_small g v = record { valid = gate_valid g v; uncut = fold-gate Bool cut_step g }

measure_valid : IsValidStmt 1 1 0 (stmt.Measure 0 (Some 0))
unfolding roll-Stmt roll
measure_valid = every_made-Stmt (IsValidLevel 1 1 0) (Stmt-F.Measure 0 (Some 0)) (Stmt-F.Measure 0 (Some 0)) refl (omega arith, omega arith)

pub measure_small : IsSmallStmt (stmt.Measure 0 (Some 0))
measure_small = record { valid = measure_valid; uncut = fold-measure Bool cut_step 0 (Some 0) }

if_valid : (g : Guard) (x : Stmt) → g.bit < 1 → IsValidStmt 1 1 0 x → IsValidStmt 1 1 0 (stmt.If g (x ∷ []) [])
unfolding roll-Stmt roll
if_valid g x lt v = every_made-Stmt (IsValidLevel 1 1 0) (Stmt-F.If g (x ∷ []) []) (Stmt-F.If g ((x, v) ∷ []) []) refl lt

if_one : (g : Guard) (x : Stmt) → g.bit < 1 → IsSmallStmt x → IsSmallStmt (stmt.If g (x ∷ []) [])
if_one g x lt small = record {
  valid = if_valid g x lt small.valid;
  uncut = branch_cuts (stmt.If g (x ∷ []) []) g (x ∷ []) [] refl ∙ ap (λ (b : Bool). (b || false) || false) small.uncut;
}

pub if_small : (g : Guard) (x : Stmt) (when_true when_false : List Stmt) → when_true ≡ x ∷ [] → when_false ≡ [] → g.bit < 1 → IsSmallStmt x → IsSmallStmt (stmt.If g when_true when_false)
if_small g x when_true when_false e f lt small = subst IsSmallStmt (λ i. stmt.If g (sym e i) (sym f i)) (if_one g x lt small)

all_uncut : (body : List Stmt) → AllByRecursion IsSmallStmt body → AreUncut body
all_uncut [] a = refl
all_uncut (s ∷ body) a = ap₂ (λ (x y : Bool). x || y) a.0.uncut (all_uncut body a.1)

-- ---- the cases

pub bound_cases : (a : Amplitude) (p : Program) (s : Sets) (cases : List BoundCase) → s.exprs ≡ table a → p.qubits ≡ 1 → p.bits ≡ 1 → All IsSmallCase cases → All (IsBoundCase p s) cases
bound_cases a p s cases e q b small = λ k d h. bound (small k d h)
  where
    bound : {c : BoundCase} → IsSmallCase c → IsBoundCase p s c
    bound {c = c} i = record {
      there = subst (λ (l : List Expr). c.set < length l) (sym e) i.there;
      qubits = subst (λ (l : List Expr). (size_of l c.set).qubits ≡ p.qubits) (sym e) (one_qubit a c.set i.there ∙ sym q);
      bits = subst (λ (m : ℕ). All (λ g. g.bit < m) c.when) (sym b) i.bits;
    }

pub bound : (a : Amplitude) (p : Program) (s : Sets) (o : Obligation) → s.exprs ≡ table a → p.qubits ≡ 1 → p.bits ≡ 1 → length p.claims ≡ 0 → IsSmallObligation o → IsBoundObligation p s o
bound a p s o e q b k small = record {
  from = bound_cases a p s o.from e q b small.from;
  given = subst (λ (m : ℕ). IfSome o.given (λ g. g.bit < m)) (sym b) small.given;
  fragment = valid_all;
  uncut = all_uncut o.fragment (recursion_from_All IsSmallStmt o.fragment small.fragment);
  goal = bound_cases a p s o.goal.cases e q b small.goal;
}
  where
    valid_all : All (IsValidStmt p.qubits p.bits (length p.claims)) o.fragment
    valid_all = λ i d h. subst (λ (n : ℕ). IsValidStmt n p.bits (length p.claims) (get_or o.fragment i d)) (sym q)
        (subst (λ (m : ℕ). IsValidStmt 1 m (length p.claims) (get_or o.fragment i d)) (sym b) (subst (λ (c : ℕ). IsValidStmt 1 1 c (get_or o.fragment i d)) (sym k) (small.fragment i d h).valid))
