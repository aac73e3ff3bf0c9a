-- Automata that were made before, by the numbers of their expressions.
use Rattle.std.specs.Prelude.{◌≡◌, ℕ, List, nat_eq, Option, Some, cond}
use Rattle.indexmap.specs.IndexMap.{get}
use Rattle.aq_store.specs.declared.lsta.Lsta.{Lsta}
use Rattle.aq_sets.specs.declared.sets.Expr.{Expr}
use Rattle.aq_set_build.specs.declared.built.Built.{Built}
use Rattle.aq_set_build.specs.Listing.{IsMade}
use Rattle.aq_set_build.specs.Tensors.{Table}

-- the same root and the same levels
pub record IsCopy (lsta copy : Lsta) : Type 0 where
  pub root : copy.root ≡ lsta.root
  pub shape : copy.shape.items ≡ lsta.shape.items

-- what was made of an expression, if it was
abbrev pub built_at : Built → ℕ → Option Lsta
built_at memo i = get nat_eq memo.made i

-- new has a copy of this automaton, and else the entries of old
pub record Keeps (old new : ℕ → Option Lsta) (i : ℕ) (made : Lsta) : Type 0 where
  pub copy : Lsta
  pub same : IsCopy made copy
  pub puts : (q : ℕ) → new q ≡ cond (nat_eq i q) (Some copy) (old q)

-- each entry of a memo is an automaton of the expression with its number
pub record IsBuildMemo (exprs : List Expr) (table : Table) (at : ℕ → Option Lsta) : Type 0 where
  pub each : (i : ℕ) (made : Lsta) → at i ≡ Some made → IsMade exprs i table made
