-- Bits that guards name.
use Rattle.std.specs.Prelude.{ℕ, ◌==◌, ◌||◌, Bool, List}
use Rattle.std.specs.List.{list_any}
use Rattle.aq_prog.specs.declared.stmt.Guard.{Guard}
use Rattle.aq_prog.specs.declared.stmt.Stmt.{Stmt, fold-Stmt}
use Rattle.aq_obligations.specs.Enough.{guards_step, guards, conditions}
use Rattle.aq_obligations.specs.Worlds.{given_guards}
use Rattle.aq_obligations.specs.declared.bound.Obligation.{Obligation}

-- one of the guards is on the bit
abbrev pub is_named : ℕ → List Guard → Bool
is_named bit guards = list_any (λ g. g.bit == bit) guards

-- the guards of a statement and of those inside
abbrev pub guards_of : Stmt → List Guard
guards_of = fold-Stmt (List Guard) guards_step

-- a guard of the obligation's statements is, or what is given, or a condition of its cases
abbrev pub is_named_in : ℕ → Obligation → Bool
is_named_in bit o =
    is_named bit (guards o.fragment) || (is_named bit (given_guards o.given) || (is_named bit (conditions o.from) || is_named bit (conditions o.goal.cases)))
