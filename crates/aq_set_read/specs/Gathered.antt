-- What the items of a set file before a place have given, and computations that add to it or stop at the first fault.
use Rattle.std.specs.Prelude.{ℕ, suc, List, [], ◌∷◌, ◌++◌, Option, Some, None, Result, Ok, nat_lt, if◌then◌else◌}
use Rattle.std.specs.Str.{bytes_eq}
use Rattle.aq_base.specs.Checks.{CheckedBy, GivesUnless, refuse_if, ◌>>◌}
use Rattle.aq_base.specs.Limits.{most_nodes}
use Rattle.aq_lex.specs.declared.place.Place.{Place}
use Rattle.aq_set_read.specs.declared.made.Made.{Made}
use Rattle.aq_sets.specs.declared.sets.Expr.{Expr}
use Rattle.aq_sets.specs.declared.sets.NamedSet.{NamedSet}
use Rattle.aq_sets.specs.declared.sets.NamedClaim.{NamedClaim}
use Rattle.aq_set_read.specs.declared.set_fault.SetFault.{SetFault}
use Rattle.aq_set_read.specs.declared.set_fault.SetFault.TheVariants as faults

-- The expressions, the number of nodes, and the names of sets and claims with what a set stands for.
pub record Gathered : Type 0 where
  pub exprs : List Expr
  pub nodes : ℕ
  pub names : List (List ℕ × Option Made)
  pub sets : List NamedSet
  pub claims : List NamedClaim

abbrev pub nothing_gathered : Gathered
nothing_gathered = record { exprs = []; nodes = 0; names = []; sets = []; claims = [] }

-- what a name has, where it was given
abbrev pub named : List (List ℕ × Option Made) → List ℕ → Option (Option Made)
named [] name = None
named (entry ∷ rest) name = if bytes_eq name entry.0 then Some entry.1 else named rest name

-- one name more
abbrev pub with_name : List ℕ → Option Made → Gathered → Gathered
with_name name made g = record { exprs = g.exprs; nodes = g.nodes; names = g.names ++ (name, made) ∷ []; sets = g.sets; claims = g.claims }

-- ---- checks, of which the first that fails tells the fault

abbrev pub Checked : Type 0 → Type 0
Checked = CheckedBy SetFault

-- one node more; the fault is at this place
abbrev pub counted : Place → Gathered → Checked Gathered
counted at g = refuse_if (nat_lt most_nodes (suc g.nodes)) (faults.TooManyNodes at)
    >> Ok (record { exprs = g.exprs; nodes = suc g.nodes; names = g.names; sets = g.sets; claims = g.claims })

-- ---- what a function of the program answers: the same, unless memory ran out

abbrev pub Gives : {A B : Type 0} → (B → A) → Result B SetFault → Checked A → Type 0
Gives = GivesUnless faults.Memory
