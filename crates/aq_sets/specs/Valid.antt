-- When the sets of a file are valid: what they name is there, their qubits agree, and none of its lists is long.
use Rattle.std.specs.Prelude.{◌≡◌, ℕ, ◌^◌, ◌<◌, ◌≤◌, ◌++◌, List, All, length, map, nat_eq, slice_get, Some}
use Rattle.std.specs.List.{IsDistinct}
use Rattle.std.specs.Str.{bytes_eq}
use Rattle.aq_base.specs.Limits.{most_qubits}
use Rattle.aq_sets.specs.Sizes.{size_of}
use Rattle.aq_sets.specs.declared.sets.Expr.{Expr}
use Rattle.aq_sets.specs.declared.sets.Expr.TheVariants as expr
use Rattle.aq_sets.specs.declared.sets.NamedClaim.{NamedClaim}
use Rattle.aq_sets.specs.declared.sets.Sets.{Sets}

-- the expression at position i names earlier ones, and is well put together
abbrev pub IsValidExpr : List Expr → ℕ → Expr → Type 0
IsValidExpr exprs i (expr.Kets qubits terms) = (0 < length terms) × All (λ t. t.index < 2 ^ qubits) terms × IsDistinct nat_eq (map (λ t. t.index) terms)
IsValidExpr exprs i (expr.All qubits) = Unit {0}
IsValidExpr exprs i (expr.Tensor left right) = (left < i) × (right < i)
IsValidExpr exprs i (expr.Union left right) = (left < i) × (right < i) × ((size_of exprs left).qubits ≡ (size_of exprs right).qubits)
IsValidExpr exprs i (expr.Power base times) = base < i

-- a claim has a case, and its cases are on equally many qubits
pub record IsValidClaim (exprs : List Expr) (claim : NamedClaim) : Type 0 where
  pub some : 0 < length claim.cases
  pub there : All (λ c. c.set < length exprs) claim.cases
  pub equal : (n : ℕ) × All (λ c. (size_of exprs c.set).qubits ≡ n) claim.cases

-- fewer than 2^32 members
abbrev pub IsShort : {A : Type 0} → List A → Type 0
IsShort xs = length xs < 2 ^ 32

abbrev pub HasFewTerms : Expr → Type 0
HasFewTerms (expr.Kets qubits terms) = IsShort terms
HasFewTerms (expr.All qubits) = Unit {0}
HasFewTerms (expr.Tensor left right) = Unit {0}
HasFewTerms (expr.Union left right) = Unit {0}
HasFewTerms (expr.Power base times) = Unit {0}

-- few cases, and of each case few conditions
pub record IsShortClaim (claim : NamedClaim) : Type 0 where
  pub cases : IsShort claim.cases
  pub conditions : All (λ c. IsShort c.when) claim.cases

-- no list of terms, sets, claims, cases or conditions has 2^32 members or more
pub record HasShortLists (s : Sets) : Type 0 where
  pub terms : All HasFewTerms s.exprs
  pub sets : IsShort s.sets
  pub claims : IsShort s.claims
  pub each_claim : All IsShortClaim s.claims

pub record IsValidSets (s : Sets) : Type 0 where
  pub exprs : (i : ℕ) (e : Expr) → slice_get s.exprs i ≡ Some e → IsValidExpr s.exprs i e
  pub qubits : (i : ℕ) → i < length s.exprs → (0 < (size_of s.exprs i).qubits) × ((size_of s.exprs i).qubits ≤ most_qubits)
  pub sets : All (λ n. n.expr < length s.exprs) s.sets
  pub claims : All (IsValidClaim s.exprs) s.claims
  pub names : IsDistinct bytes_eq (map (λ n. n.name) s.sets ++ map (λ n. n.name) s.claims)
  pub short : length s.exprs < 2 ^ 32
  pub lists : HasShortLists s
