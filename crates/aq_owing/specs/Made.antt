-- The obligations of a program as they are made, how many there may be, and what they and the program's claims mean.
use Rattle.std.specs.Prelude.{ℕ, ◌||◌, Bool, List, map, length, nat_lt, Ok}
use Rattle.std.specs.List.{sum_by}
use Rattle.aq_base.specs.Checks.{refuse_if, ◌>>=◌, ◌>>◌}
use Rattle.aq_base.specs.Limits.{most_obligations, most_fragment_statements}
use Rattle.aq_prog.specs.declared.program.Program.{Program}
use Rattle.aq_sets.specs.declared.sets.Sets.{Sets}
use Rattle.aq_obligations.specs.Asking.{case_of}
use Rattle.aq_obligations.specs.Correct.{Annotated}
use Rattle.aq_obligations.specs.Enough.{statements}
use Rattle.aq_obligations.specs.Owing.{Owed, annotated_by, obligations}
use Rattle.aq_obligations.specs.declared.bound.BoundCase.{BoundCase}
use Rattle.aq_obligations.specs.declared.bound.Obligation.{Obligation}
use Rattle.aq_owing.specs.Asking.{Asked, Checked, asked}
use Rattle.aq_owing.specs.declared.asked.ObligationFault.TheVariants as faults

-- what is owed, as an obligation
abbrev pub made : Owed BoundCase → Obligation
made d = record {
  start = d.here.start;
  from = d.here.from;
  given = d.here.given;
  fragment = d.here.fragment;
  goal = record { kind = d.kind; line = d.line; cases = d.goal };
}

-- what the program owes between its claims, in order
abbrev pub owed_by : Program → Asked → List (Owed BoundCase)
owed_by p a = obligations a.claims a.before a.after p.body

abbrev pub obligations_of : Program → Asked → List Obligation
obligations_of p a = map made (owed_by p a)

-- the statements of all fragments together, inner ones included
abbrev pub fragment_statements : List (Owed BoundCase) → ℕ
fragment_statements owed = sum_by (λ d. statements d.here.fragment) owed

-- there are too many, or their fragments have too many statements together
abbrev pub are_too_many : List (Owed BoundCase) → Bool
are_too_many owed = nat_lt most_obligations (length owed) || nat_lt most_fragment_statements (fragment_statements owed)

-- The obligations of a program between the claims with two names: the claims are bound first, and there may not be too many.
abbrev pub made_obligations : Program → Sets → List ℕ → List ℕ → Checked (List Obligation)
made_obligations p s pre post = asked p s pre post >>= λ a. refuse_if (are_too_many (owed_by p a)) faults.TooManyObligations >> Ok (obligations_of p a)

-- the program with what is claimed of it, by the vectors that the cases list
abbrev pub annotated : Program → Sets → Asked → Annotated
annotated p s a = annotated_by p.qubits p.bits (case_of s) a.claims a.before a.after p.body
