-- The obligations of valid statements are valid.
use Rattle.std.proofs.Common.{◌≡◌, ℕ, ◌<◌, Bool, true, false, List, [], ◌∷◌, All, Option, Some, None, IfSome, refl, sym, subst}
use Rattle.std.specs.List.{AllByRecursion}
use Rattle.std.proofs.lemmas.List.Elements.{All-from_recursion, recursion_from_All, All-push, All-nil}
use Rattle.aq_prog.specs.Programs.{IsValidLevel, IsValidStmt}
use Rattle.aq_prog.specs.declared.stmt.Guard.{Guard}
use Rattle.aq_prog.specs.declared.stmt.Stmt.{Stmt, every_made-Stmt}
use Rattle.aq_prog.specs.declared.stmt.Stmt.TheVariants as stmt
use Rattle.aq_prog.specs.declared.stmt.Stmt.TheOpen.{Stmt-F}
use Rattle.aq_prog.specs.declared.stmt.Stmt.TheViews.{roll-Stmt}
use Rattle.aq_prog.specs.Cuts.{has_cut, cut_step}
use Rattle.aq_obligations.specs.Owing.{Here, Owed, Debt, opposite, fresh, further, at_end, owes, owes_all, claim_at}
use Rattle.aq_correct.specs.OwingLaws.{IsValidOwed, OwesValid}
use Rattle.aq_obligations.specs.declared.kind.Kind.{Kind}
use Rattle.aq_obligations.specs.declared.kind.Kind.TheVariants as kinds
use Rattle.aq_correct.proofs.StmtLaws.{fold-gate, fold-measure, fold-reset, by_induction}
use Rattle.aq_correct.proofs.CoverLaws.{each_append}
use Rattle.aq_prog.proofs.InsideLaws.{inside_if, inside_while}
use Rattle.aq_correct.proofs.OwingProofs.{owes-loop, owes-assert, owes-branch, owes-plain, assume_uncut}
use denote.Hole.Carrier.{roll}

module _ (B : Type 0) (n m k : ℕ) (claims : ℕ → List B) where
  abbrev IsValid : Stmt → Type 0
  IsValid s = IsValidStmt n m k s

  assume-valid : (g : Guard) → g.bit < m → IsValid (stmt.Assume g)
  unfolding roll-Stmt roll
  assume-valid g lt = every_made-Stmt (IsValidLevel n m k) (Stmt-F.Assume g) (Stmt-F.Assume g) refl lt

  record IsValidHere (h : Here B) : Type 0 where
    fragment : All IsValid h.fragment
    given : IfSome h.given (λ g. g.bit < m)

  further-valid : (s : Stmt) (h : Here B) → IsValid s → IsValidHere h → IsValidHere (further s h)
  further-valid s h v w = record { fragment = All-push IsValid h.fragment s w.fragment v; given = w.given }

  fresh-valid : (claim : List B) (given : Option Guard) → IfSome given (λ g. g.bit < m) → IsValidHere (fresh claim given)
  fresh-valid claim given lt = record { fragment = All-nil IsValid; given = lt }

  abbrev AreValid : List (Owed B) → Type 0
  AreValid ds = AllByRecursion (IsValidOwed n m k) ds

  OwesOnlyValid : Debt B → Type 0
  OwesOnlyValid debt = (h : Here B) → IsValidHere h → AreValid (debt h)

  end_valid : (kind : Kind) (line : ℕ) (goal : List B) → OwesOnlyValid (at_end kind line goal)
  unfolding OwesOnlyValid
  end_valid kind line goal h v = (record { fragment = v.fragment; given = v.given }, tt)

  abbrev IsPassedOn : Stmt → Type 0
  IsPassedOn s = IsValid s → (debt : Debt B) → OwesOnlyValid debt → OwesOnlyValid (owes claims s debt)

  all_passed : (body : List Stmt) → AllByRecursion IsPassedOn body → AllByRecursion IsValid body → (debt : Debt B) → OwesOnlyValid debt → OwesOnlyValid (owes_all claims body debt)
  all_passed [] h v debt d = d
  all_passed (s ∷ body) h v debt d = h.0 v.0 (owes_all claims body debt) (all_passed body h.1 v.1 debt d)

  plain_passed : (s : Stmt) → has_cut s ≡ false → IsPassedOn s
  unfolding OwesOnlyValid
  plain_passed s c v debt d h w = subst AreValid (sym (owes-plain B claims s c debt h)) (d (further s h) (further-valid s h v w))

  cut_passed : (g : Guard) (when_true when_false : List Stmt) → has_cut (stmt.If g when_true when_false) ≡ true → AllByRecursion IsPassedOn when_true → AllByRecursion IsPassedOn when_false → IsPassedOn (stmt.If g when_true when_false)
  unfolding OwesOnlyValid
  cut_passed g when_true when_false c hy hz v debt d h w =
      let inside = inside_if (IsValidLevel n m k) g when_true when_false v in
      subst AreValid (sym (owes-branch B claims g when_true when_false debt h c))
      (each_append (IsValidOwed n m k) _ _
      (all_passed when_true hy inside.1 debt d (further (stmt.Assume g) h) (further-valid (stmt.Assume g) h (assume-valid g inside.0) w))
      (all_passed when_false hz inside.2 debt d (further (stmt.Assume (opposite g)) h) (further-valid (stmt.Assume (opposite g)) h (assume-valid (opposite g) inside.0) w)))

  branch_passed : (g : Guard) (when_true when_false : List Stmt) → AllByRecursion IsPassedOn when_true → AllByRecursion IsPassedOn when_false → IsPassedOn (stmt.If g when_true when_false)
  branch_passed g when_true when_false hy hz = by_test (has_cut (stmt.If g when_true when_false)) refl
    where
      by_test : (b : Bool) → has_cut (stmt.If g when_true when_false) ≡ b → IsPassedOn (stmt.If g when_true when_false)
      by_test false c = plain_passed (stmt.If g when_true when_false) c
      by_test true c = cut_passed g when_true when_false c hy hz

  loop_passed : (g : Guard) (claim : ℕ) (body : List Stmt) (line : ℕ) → AllByRecursion IsPassedOn body → IsPassedOn (stmt.While g claim body line)
  unfolding OwesOnlyValid
  loop_passed g claim body line hb v debt d h w =
      let inside = inside_while (IsValidLevel n m k) g claim body line v in
      subst AreValid (sym (owes-loop B claims g claim body line debt h)) (
        record { fragment = w.fragment; given = w.given },
        each_append (IsValidOwed n m k) _ _
            (all_passed body hb inside.1 (at_end kinds.Keep line (claims claim)) (end_valid kinds.Keep line (claims claim)) (fresh (claims claim) (Some g)) (fresh-valid (claims claim) (Some g) inside.0.0))
            (d (fresh (claims claim) (Some (opposite g))) (fresh-valid (claims claim) (Some (opposite g)) inside.0.0)),
      )

  assert_passed : (claim line : ℕ) → IsPassedOn (stmt.Assert claim line)
  unfolding OwesOnlyValid
  assert_passed claim line v debt d h w =
      subst AreValid (sym (owes-assert B claims claim line debt h)) (record { fragment = w.fragment; given = w.given }, d (fresh (claims claim) None) (fresh-valid (claims claim) None tt))

  passed_on : (s : Stmt) → IsPassedOn s
  passed_on = by_induction IsPassedOn (record {
    gate = λ g. plain_passed (stmt.Gate g) (fold-gate Bool cut_step g);
    measure = λ qubit bit. plain_passed (stmt.Measure qubit bit) (fold-measure Bool cut_step qubit bit);
    reset = λ qubit. plain_passed (stmt.Reset qubit) (fold-reset Bool cut_step qubit);
    branch = branch_passed;
    loop = loop_passed;
    claim = assert_passed;
    assuming = λ g. plain_passed (stmt.Assume g) (assume_uncut B claims g);
  })

  each_passed : (body : List Stmt) → AllByRecursion IsPassedOn body
  each_passed [] = tt
  each_passed (s ∷ body) = (passed_on s, each_passed body)

  all_valid : (pre post : List B) (body : List Stmt) → All IsValid body → All (IsValidOwed n m k) (owes_all claims body (at_end kinds.Post 0 post) (record { start = true; from = pre; given = None; fragment = [] }))
  unfolding OwesOnlyValid
  all_valid pre post body v = All-from_recursion (IsValidOwed n m k) _
      (all_passed body (each_passed body) (recursion_from_All IsValid body v) (at_end kinds.Post 0 post) (end_valid kinds.Post 0 post) (record { start = true; from = pre; given = None; fragment = [] })
      (record { fragment = All-nil IsValid; given = tt }))

pub owes_valid : (B : Type 0) → OwesValid B
owes_valid B = record { valid = λ n m k claims pre post body v. all_valid B n m k (claim_at claims) pre post body v }
