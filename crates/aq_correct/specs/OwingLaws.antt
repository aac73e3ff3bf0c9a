-- The obligations of a program by their rules, and that a program is correct where they are true.
use Rattle.std.specs.Prelude.{◌≡◌, ℕ, true, false, List, [], ◌∷◌, ◌++◌, All, Contains, Some, None, IfSome, ◌<◌, ◌⊎◌}
use Rattle.aq_ring.specs.Fractions.{Amplitude}
use Rattle.aq_prog.specs.Programs.{IsValidStmt}
use Rattle.aq_prog.specs.declared.stmt.Guard.{Guard}
use Rattle.aq_prog.specs.declared.stmt.Stmt.{Stmt}
use Rattle.aq_prog.specs.declared.stmt.Stmt.TheVariants as stmt
use Rattle.aq_obligations.specs.Claims.{ClaimCase}
use Rattle.aq_obligations.specs.Correct.{IsCorrect}
use Rattle.aq_prog.specs.Cuts.{has_cut, AreUncut}
use Rattle.aq_obligations.specs.Obligations.{IsTrueOf}
use Rattle.aq_obligations.specs.Owing.{Here, Owed, Debt, opposite, fresh, further, owed, at_end, owes_all, claim_at, obligations, obligation_of, annotated_by}
use Rattle.aq_obligations.specs.declared.kind.Kind.TheVariants as kinds

-- What a list of statements owes, rule by rule. These are all lists, so the rules alone say what is owed.
pub record OwesByRule (B : Type 0) : Type 0 where
  pub none : (claims : ℕ → List B) (rest : Debt B) (here : Here B) → owes_all claims [] rest here ≡ rest here
  pub plain : (claims : ℕ → List B) (s : Stmt) (body : List Stmt) (rest : Debt B) (here : Here B) → has_cut s ≡ false
      → owes_all claims (s ∷ body) rest here ≡ owes_all claims body rest (further s here)
  pub asserted : (claims : ℕ → List B) (claim line : ℕ) (body : List Stmt) (rest : Debt B) (here : Here B)
      → owes_all claims (stmt.Assert claim line ∷ body) rest here ≡ owed kinds.Assert line (claims claim) here ∷ owes_all claims body rest (fresh (claims claim) None)
  pub looped : (claims : ℕ → List B) (guard : Guard) (claim : ℕ) (inner : List Stmt) (line : ℕ) (body : List Stmt) (rest : Debt B) (here : Here B)
      → owes_all claims (stmt.While guard claim inner line ∷ body) rest here
      ≡ owed kinds.Entry line (claims claim) here
      ∷ (owes_all claims inner (at_end kinds.Keep line (claims claim)) (fresh (claims claim) (Some guard)) ++ owes_all claims body rest (fresh (claims claim) (Some (opposite guard))))
  pub branched : (claims : ℕ → List B) (guard : Guard) (when_true when_false body : List Stmt) (rest : Debt B) (here : Here B) → has_cut (stmt.If guard when_true when_false) ≡ true
      → owes_all claims (stmt.If guard when_true when_false ∷ body) rest here
      ≡ owes_all claims (stmt.Assume guard ∷ (when_true ++ body)) rest here ++ owes_all claims (stmt.Assume (opposite guard) ∷ (when_false ++ body)) rest here

-- no fragment has a cut, and there is at least one obligation
pub record OwesFragments (B : Type 0) : Type 0 where
  pub uncut : (claims : List (List B)) (pre post : List B) (body : List Stmt) → All (λ d. AreUncut d.here.fragment) (obligations claims pre post body)
  pub some : (claims : List (List B)) (pre post : List B) (body : List Stmt) → (obligations claims pre post body ≡ []) → ⊥

-- the obligation's fragment is valid, and what is known of a bit besides
pub record IsValidOwed {B : Type 0} (n m k : ℕ) (d : Owed B) : Type 0 where
  pub fragment : All (IsValidStmt n m k) d.here.fragment
  pub given : IfSome d.here.given (λ g. g.bit < m)

-- The obligations of valid statements are valid.
pub record OwesValid (B : Type 0) : Type 0 where
  pub valid : (n m k : ℕ) (claims : List (List B)) (pre post : List B) (body : List Stmt) → All (IsValidStmt n m k) body
      → All (IsValidOwed n m k) (obligations claims pre post body)

-- the case is one of the claims'
abbrev pub IsClaimed : {B : Type 0} → List (List B) → List B → List B → B → Type 0
IsClaimed claims pre post c = Contains pre c ⊎ (Contains post c ⊎ ((k : ℕ) × Contains (claim_at claims k) c))

-- each case of the assumption and of the goal is so
pub record HasClaimedCases {B : Type 0} (P : B → Type 0) (d : Owed B) : Type 0 where
  pub from : All P d.here.from
  pub goal : All P d.goal

-- The cases of the obligations are cases of the claims.
pub record OwesClaimed (B : Type 0) : Type 0 where
  pub cases : (claims : List (List B)) (pre post : List B) (body : List Stmt) → All (HasClaimedCases (IsClaimed claims pre post)) (obligations claims pre post body)

-- Where every obligation is true, the program is correct: for all outcomes and all numbers of turns.
pub record TrueThenCorrect (B : Type 0) : Type 0 where
  pub correct : (n m k : ℕ) (case : B → ClaimCase) (products : List B → List (Amplitude × Amplitude)) (claims : List (List B)) (pre post : List B) (body : List Stmt)
      → All (IsValidStmt n m k) body
      → All (λ d. IsTrueOf (obligation_of n m case products d)) (obligations claims pre post body)
      → IsCorrect (annotated_by n m case claims pre post body)
