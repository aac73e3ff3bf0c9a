-- The cases of the obligations are those of the claims.
use Rattle.std.proofs.Common.{◌≡◌, ℕ, Bool, true, false, List, [], ◌∷◌, All, Contains, Option, Some, None, refl, sym, subst, inl, inr}
use Rattle.std.specs.List.{AllByRecursion}
use Rattle.std.proofs.lemmas.List.Elements.{All-from_recursion, All-weaker, All-contains_itself}
use Rattle.aq_prog.specs.declared.stmt.Guard.{Guard}
use Rattle.aq_prog.specs.declared.stmt.Stmt.{Stmt}
use Rattle.aq_prog.specs.declared.stmt.Stmt.TheVariants as stmt
use Rattle.aq_prog.specs.Cuts.{has_cut, cut_step}
use Rattle.aq_obligations.specs.Owing.{Here, Owed, Debt, opposite, fresh, further, at_end, owes, owes_all, claim_at, obligations}
use Rattle.aq_correct.specs.OwingLaws.{IsClaimed, HasClaimedCases, OwesClaimed}
use Rattle.aq_obligations.specs.declared.kind.Kind.{Kind}
use Rattle.aq_obligations.specs.declared.kind.Kind.TheVariants as kinds
use Rattle.aq_correct.proofs.StmtLaws.{fold-gate, fold-measure, fold-reset, by_induction}
use Rattle.aq_correct.proofs.CoverLaws.{each_append}
use Rattle.aq_correct.proofs.OwingProofs.{owes-loop, owes-assert, owes-branch, owes-plain, assume_uncut}

module _ (B : Type 0) (P : B → Type 0) (claims : ℕ → List B) (of_claims : (k : ℕ) → All P (claims k)) where
  record Has (d : Owed B) : Type 0 where
    from : All P d.here.from
    goal : All P d.goal

  abbrev HasHere : Here B → Type 0
  HasHere h = All P h.from

  abbrev AreFine : List (Owed B) → Type 0
  AreFine ds = AllByRecursion Has ds

  OwesOnly : Debt B → Type 0
  OwesOnly debt = (h : Here B) → HasHere h → AreFine (debt h)

  end_has : (kind : Kind) (line : ℕ) (goal : List B) → All P goal → OwesOnly (at_end kind line goal)
  unfolding OwesOnly
  end_has kind line goal g h v = (record { from = v; goal = g }, tt)

  abbrev IsPassedOn : Stmt → Type 0
  IsPassedOn s = (debt : Debt B) → OwesOnly debt → OwesOnly (owes claims s debt)

  all_passed : (body : List Stmt) → AllByRecursion IsPassedOn body → (debt : Debt B) → OwesOnly debt → OwesOnly (owes_all claims body debt)
  all_passed [] h debt d = d
  all_passed (s ∷ body) h debt d = h.0 (owes_all claims body debt) (all_passed body h.1 debt d)

  plain_passed : (s : Stmt) → has_cut s ≡ false → IsPassedOn s
  unfolding OwesOnly
  plain_passed s c debt d h w = subst AreFine (sym (owes-plain B claims s c debt h)) (d (further s h) w)

  cut_passed : (g : Guard) (when_true when_false : List Stmt) → has_cut (stmt.If g when_true when_false) ≡ true → AllByRecursion IsPassedOn when_true → AllByRecursion IsPassedOn when_false → IsPassedOn (stmt.If g when_true when_false)
  unfolding OwesOnly
  cut_passed g when_true when_false c hy hz debt d h w =
      subst AreFine (sym (owes-branch B claims g when_true when_false debt h c))
      (each_append Has _ _
      (all_passed when_true hy debt d (further (stmt.Assume g) h) w)
      (all_passed when_false hz debt d (further (stmt.Assume (opposite g)) h) w))

  branch_passed : (g : Guard) (when_true when_false : List Stmt) → AllByRecursion IsPassedOn when_true → AllByRecursion IsPassedOn when_false → IsPassedOn (stmt.If g when_true when_false)
  branch_passed g when_true when_false hy hz = by_test (has_cut (stmt.If g when_true when_false)) refl
    where
      by_test : (b : Bool) → has_cut (stmt.If g when_true when_false) ≡ b → IsPassedOn (stmt.If g when_true when_false)
      by_test false c = plain_passed (stmt.If g when_true when_false) c
      by_test true c = cut_passed g when_true when_false c hy hz

  loop_passed : (g : Guard) (claim : ℕ) (body : List Stmt) (line : ℕ) → AllByRecursion IsPassedOn body → IsPassedOn (stmt.While g claim body line)
  unfolding OwesOnly
  loop_passed g claim body line hb debt d h w =
      subst AreFine (sym (owes-loop B claims g claim body line debt h)) (
        record { from = w; goal = of_claims claim },
        each_append Has _ _
            (all_passed body hb (at_end kinds.Keep line (claims claim)) (end_has kinds.Keep line (claims claim) (of_claims claim)) (fresh (claims claim) (Some g)) (of_claims claim))
            (d (fresh (claims claim) (Some (opposite g))) (of_claims claim)),
      )

  assert_passed : (claim line : ℕ) → IsPassedOn (stmt.Assert claim line)
  unfolding OwesOnly
  assert_passed claim line debt d h w =
      subst AreFine (sym (owes-assert B claims claim line debt h)) (record { from = w; goal = of_claims claim }, d (fresh (claims claim) None) (of_claims claim))

  passed_on : (s : Stmt) → IsPassedOn s
  passed_on = by_induction IsPassedOn (record {
    gate = λ g. plain_passed (stmt.Gate g) (fold-gate Bool cut_step g);
    measure = λ qubit bit. plain_passed (stmt.Measure qubit bit) (fold-measure Bool cut_step qubit bit);
    reset = λ qubit. plain_passed (stmt.Reset qubit) (fold-reset Bool cut_step qubit);
    branch = branch_passed;
    loop = loop_passed;
    claim = assert_passed;
    assuming = λ g. plain_passed (stmt.Assume g) (assume_uncut B claims g);
  })

  each_passed : (body : List Stmt) → AllByRecursion IsPassedOn body
  each_passed [] = tt
  each_passed (s ∷ body) = (passed_on s, each_passed body)

  all_have : (pre post : List B) (body : List Stmt) → All P pre → All P post
      → AllByRecursion Has (owes_all claims body (at_end kinds.Post 0 post) (record { start = true; from = pre; given = None; fragment = [] }))
  unfolding OwesOnly
  all_have pre post body f g =
      all_passed body (each_passed body) (at_end kinds.Post 0 post) (end_has kinds.Post 0 post g) (record { start = true; from = pre; given = None; fragment = [] }) f

told_claims : {B : Type 0} (P : B → Type 0) (claims : ℕ → List B) (of_claims : (k : ℕ) → All P (claims k)) (ds : List (Owed B)) → AllByRecursion (Has B P claims of_claims) ds
    → AllByRecursion (HasClaimedCases P) ds
told_claims P claims of_claims [] h = tt
told_claims P claims of_claims (d ∷ ds) h = (record { from = h.0.from; goal = h.0.goal }, told_claims P claims of_claims ds h.1)

each_of : {B : Type 0} (P : B → Type 0) (xs : List B) → ((c : B) → Contains xs c → P c) → All P xs
each_of P xs f = All-weaker (Contains xs) P f xs (All-contains_itself xs)

pub owes_claimed : (B : Type 0) → OwesClaimed B
owes_claimed B = record { cases = all_claimed }
  where
    all_claimed : (claims : List (List B)) (pre post : List B) (body : List Stmt) → All (HasClaimedCases (IsClaimed claims pre post)) (obligations claims pre post body)
    all_claimed claims pre post body =
        let P : B → Type 0 = IsClaimed claims pre post in
        let each : (k : ℕ) → All P (claim_at claims k) = λ k. each_of P (claim_at claims k) (λ c h. inr (inr (k, h))) in
        All-from_recursion (HasClaimedCases P) _ (told_claims P (claim_at claims) each _
        (all_have B P (claim_at claims) each pre post body (each_of P pre (λ c h. inl h)) (each_of P post (λ c h. inr (inl h)))))
