-- The claims of a set file that are asked of a program, with the names of their bits looked up in it.
use Rattle.std.specs.Prelude.{◌≡◌, ℕ, ◌+◌, ◌≤◌, ◌==◌, Bool, ◌&&◌, List, All, Option, Some, None, Result, Ok, Err, nat_lt, if◌then◌else◌}
use Rattle.std.specs.List.{find}
use Rattle.std.specs.Str.{bytes_eq}
use Rattle.aq_base.specs.Checks.{CheckedBy, GivesUnless, all_checked, or_refuse, ◌>>=◌}
use Rattle.aq_base.specs.Limits.{most_bits}
use Rattle.aq_prog.specs.declared.program.BitRegister.{BitRegister}
use Rattle.aq_prog.specs.declared.program.Program.{Program}
use Rattle.aq_prog.specs.declared.stmt.Guard.{Guard}
use Rattle.aq_sets.specs.Sizes.{size_of}
use Rattle.aq_sets.specs.Tables.{at_position}
use Rattle.aq_sets.specs.declared.sets.Expr.{Expr}
use Rattle.aq_sets.specs.declared.sets.Cond.{Cond}
use Rattle.aq_sets.specs.declared.sets.Case.{Case}
use Rattle.aq_sets.specs.declared.sets.NamedClaim.{NamedClaim}
use Rattle.aq_sets.specs.declared.sets.Sets.{Sets}
use Rattle.aq_obligations.specs.Bound.{IsBoundCase}
use Rattle.aq_obligations.specs.declared.bound.BoundCase.{BoundCase}
use Rattle.aq_owing.specs.declared.asked.AskedClaims.{AskedClaims}
use Rattle.aq_owing.specs.declared.asked.ObligationFault.{ObligationFault}
use Rattle.aq_owing.specs.declared.asked.ObligationFault.TheVariants as faults

abbrev pub Checked : Type 0 → Type 0
Checked = CheckedBy ObligationFault

-- the bit of a register: without an index it is to have one bit, and an index is to be one of a register with a size
abbrev pub bit_of : Option ℕ → BitRegister → Option ℕ
bit_of None r = if r.size == 1 then Some r.first else None
bit_of (Some i) r = if r.indexed && nat_lt i r.size then Some (r.first + i) else None

abbrev pub bit_in : Option ℕ → Option BitRegister → Option ℕ
bit_in index None = None
bit_in index (Some r) = bit_of index r

abbrev pub register_named : List BitRegister → List ℕ → Option BitRegister
register_named registers name = find (λ r. bytes_eq r.name name) registers

abbrev pub guard_on : Bool → ℕ → Guard
guard_on value bit = record { bit = bit; value = value }

-- the registers end within the largest number of bits
abbrev pub AreShort : List BitRegister → Type 0
AreShort registers = All (λ r. r.first + r.size ≤ most_bits) registers

-- a condition of the claim with this name
abbrev pub bound_cond : Program → List ℕ → Cond → Checked Guard
bound_cond p name c = or_refuse (faults.BitUnknown name c.bit) (bit_in c.index (register_named p.registers c.bit)) >>= λ bit. Ok (guard_on c.value bit)

-- a case of the claim: its qubits first, and then its conditions
unfoldable pub bound_case : Program → Sets → List ℕ → Case → Checked BoundCase
bound_case p s name c =
    if (size_of s.exprs c.set).qubits == p.qubits
    then (all_checked (bound_cond p name) c.when >>= λ guards. Ok (record { set = c.set; when = guards }))
    else Err (faults.QubitsDiffer name (size_of s.exprs c.set).qubits)

abbrev pub bound_claim : Program → Sets → NamedClaim → Checked (List BoundCase)
bound_claim p s claim = all_checked (bound_case p s claim.name) claim.cases

-- the claim with this name
abbrev pub claim_named : Sets → List ℕ → Checked NamedClaim
claim_named s name = or_refuse (faults.UnknownClaim name) (find (λ c. bytes_eq c.name name) s.claims)

-- The cases of the precondition, of the postcondition, and of the claims that the program's body names, by their numbers.
abbrev pub Asked : Type 0
Asked = AskedClaims

-- the cases of claims that were looked up
abbrev pub bound_claims : Program → Sets → NamedClaim → NamedClaim → List NamedClaim → Checked Asked
bound_claims p s first second others =
    bound_claim p s first >>= λ before.
    bound_claim p s second >>= λ after.
    all_checked (bound_claim p s) others >>= λ claims.
    Ok (record { before = before; after = after; claims = claims })

-- All claims are looked up before the cases of any are.
unfoldable pub asked : Program → Sets → List ℕ → List ℕ → Checked Asked
asked p s pre post =
    claim_named s pre >>= λ first.
    claim_named s post >>= λ second.
    all_checked (claim_named s) p.claims >>= λ others.
    bound_claims p s first second others

-- ---- what a function of the program answers: the same, unless memory ran out

abbrev pub Gives : {A B : Type 0} → (B → A) → Result B ObligationFault → Checked A → Type 0
Gives = GivesUnless faults.Memory

-- ---- what is known of cases that were looked up

-- the numbers are those of the qubits of the expressions at their positions
abbrev pub AreQubits : List Expr → List ℕ → Type 0
AreQubits exprs numbers = (i : ℕ) → at_position 0 numbers i ≡ (size_of exprs i).qubits

-- each case goes with the program and the sets
pub record AreBound (p : Program) (s : Sets) (a : Asked) : Type 0 where
  pub before : All (IsBoundCase p s) a.before
  pub after : All (IsBoundCase p s) a.after
  pub claims : All (All (IsBoundCase p s)) a.claims
