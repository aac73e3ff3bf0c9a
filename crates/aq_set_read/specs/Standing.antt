-- What stands at the positions of sets and claims, in the words of what a tree means directly.
use Rattle.std.specs.Prelude.{◌≡◌, ℕ, List, map}
use Rattle.aq_set_parse.specs.declared.tree.SetTree.{SetTree}
use Rattle.aq_sets.specs.Sizes.{size_of}
use Rattle.aq_sets.specs.Vectors.{vectors_of}
use Rattle.aq_sets.specs.declared.sets.Expr.{Expr}
use Rattle.aq_sets.specs.declared.sets.Case.{Case}
use Rattle.aq_sets.specs.declared.sets.Sets.{Sets}
use Rattle.aq_set_read.specs.Direct.{Meant, denoted, Known, MeantCase, sets_meant, Said, claims_meant}
use Rattle.aq_set_read.specs.Texts.{HasSetTree}

-- the vectors that the expression at a position lists, and its number of qubits
abbrev pub denoted_at : List Expr → ℕ → Meant
denoted_at exprs i = denoted (size_of exprs i).qubits (vectors_of exprs i)

abbrev pub case_at : List Expr → Case → MeantCase
case_at exprs c = record { when = c.when; set = denoted_at exprs c.set }

-- each set by its name, in order
abbrev pub sets_at : Sets → Known
sets_at s = map (λ n. (n.name, denoted_at s.exprs n.expr)) s.sets

-- each claim by its name, in order
abbrev pub claims_at : Sets → Said
claims_at s = map (λ n. (n.name, map (case_at s.exprs) n.cases)) s.claims

-- The text's tokens have a tree, whose items mean directly what stands at the positions of these sets and claims.
pub record MeansSets (text : List ℕ) (s : Sets) : Type 0 where
  pub tree : SetTree
  pub has_tree : HasSetTree text tree
  pub sets : sets_at s ≡ sets_meant tree.items
  pub claims : claims_at s ≡ claims_meant tree.items
