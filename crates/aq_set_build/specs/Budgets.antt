-- Bounds on steps.
use Rattle.std.specs.Prelude.{ℕ, ◌+◌, ◌-◌, ◌*◌, ◌^◌, List, [], ◌∷◌, length}
use Rattle.aq_store.specs.Words.{words}
use Rattle.aq_sets.specs.Sizes.{size_of}
use Rattle.aq_sets.specs.declared.sets.Expr.{Expr}
use Rattle.aq_set_build.specs.Unions.{nodes_all}

-- what all words of a shape come to, each with the nodes of a binary tree
abbrev pub weight : List ℕ → ℕ
weight shape = words shape * 2 ^ (length shape + 1)

-- The steps of a walk over a tree of this shape in which no node is met twice, where what is done at a leaf takes so many:
-- for each node an entry of a memo and its pairs, and for each pair two nodes of the next level.
unfoldable pub walk_budget : ℕ → List ℕ → ℕ
walk_budget leaf [] = leaf
walk_budget leaf (n ∷ shape) = n + 1 + n * (2 * walk_budget leaf shape)

-- the steps that the automaton of an expression takes at most
abbrev pub build_budget : List Expr → ℕ → ℕ
build_budget exprs i = 8 * ((size_of exprs i).nodes * weight (size_of exprs i).shape)

-- the same, where it isn't in the memo yet, without the step that its entry takes
abbrev pub new_budget : List Expr → ℕ → ℕ
new_budget exprs i = build_budget exprs i - 1

-- the same of parts of a union, where each is taken to be as large as the whole
abbrev pub parts_budget : List Expr → ℕ → List ℕ → ℕ
parts_budget exprs i parts = 8 * (nodes_all exprs parts * weight (size_of exprs i).shape)
