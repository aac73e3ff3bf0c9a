-- What the parts of the making of obligations give.
use Rattle.std.specs.Prelude.{◌≡◌, false, true, ℕ, ◌+◌, ◌*◌, List, ◌++◌, map, drop, Option, Some, None}
use Rattle.aq_prog.specs.Cuts.{has_cut}
use Rattle.aq_prog.specs.declared.stmt.Stmt.{Stmt}
use Rattle.aq_prog.specs.declared.stmt.Stmt.TheVariants as stmt
use Rattle.aq_sets.specs.Caps.{capped}
use Rattle.aq_obligations.specs.Enough.{statements}
use Rattle.aq_obligations.specs.OwingCounts.{Total}
use Rattle.aq_obligations.specs.Owing.{Here, at_end, claim_at, owes_all}
use Rattle.aq_obligations.specs.declared.bound.BoundCase.{BoundCase}
use Rattle.aq_obligations.specs.declared.bound.Goal.{Goal}
use Rattle.aq_obligations.specs.declared.bound.Obligation.{Obligation}
use Rattle.aq_owing.specs.Made.{made}
use Rattle.aq_owing.specs.declared.part.Part.{Part}
use Rattle.aq_owing.specs.declared.part.Part.TheVariants as part
use Rattle.aq_owing.specs.declared.counting.Counted as told
use Rattle.aq_owing.specs.declared.place.FragmentStart as start

-- the statement is so
abbrev pub IsPart : Stmt → Part → Type 0
IsPart s part.Plain = has_cut s ≡ false
IsPart s (part.Assertion claim line) = s ≡ stmt.Assert claim line
IsPart s (part.Loop guard claim body line) = s ≡ stmt.While guard claim body.now line
IsPart s (part.Branch guard when_true when_false) = (s ≡ stmt.If guard when_true.now when_false.now) × (has_cut s ≡ true)

-- the total is told, each of its numbers up to 2^64
abbrev pub IsTold : told.Counted → Total → Type 0
IsTold t x = (t.own ≡ capped x.own) × (t.times ≡ capped x.times)

-- statements that go to the end of the fragment
abbrev pub with_statements : List Stmt → Total → Total
with_statements body behind = record { own = behind.own + behind.times * statements body; times = behind.times }

-- the place from which a fragment starts, as the code keeps it
abbrev pub here_of : start.FragmentStart → Here BoundCase
here_of h = record { start = h.start; from = h.from; given = h.given; fragment = h.fragment }

-- what statements owe from a place to a goal
abbrev pub owed_from : List (List BoundCase) → Goal → List Stmt → Here BoundCase → List Obligation
owed_from claims goal body here = map made (owes_all (claim_at claims) body (at_end goal.kind goal.line goal.cases) here)

-- What the statements from this position on owe was added to the list; or some of it was, and what those behind the first of
-- them owe from the place that is left is the rest.
abbrev pub Leaves : List (List BoundCase) → Goal → List Stmt → ℕ → Here BoundCase → List Obligation → List Obligation → Option start.FragmentStart → Type 0
Leaves claims goal body index here old new None = new ≡ old ++ owed_from claims goal (drop index body) here
Leaves claims goal body index here old new (Some h) = new ++ owed_from claims goal (drop (index + 1) body) (here_of h) ≡ old ++ owed_from claims goal (drop index body) here
