-- Unions of many expressions, one after the other, and unions that are taken apart.
use Rattle.std.specs.Prelude.{◌≡◌, ℕ, ◌+◌, ◌-◌, ◌<◌, ◌==◌, List, [], ◌∷◌, ◌++◌, All, nat_lt, reverse, if◌then◌else◌}
use Rattle.aq_store.specs.declared.lsta.Lsta.{Lsta}
use Rattle.aq_sets.specs.Vectors.{Listed, nothing_listed, united, lists}
use Rattle.aq_sets.specs.Sizes.{size_of, united_shape, first_number, lower, shortened, Placing, place}
use Rattle.aq_sets.specs.declared.sets.Expr.{Expr}
use Rattle.aq_sets.specs.declared.sets.Expr.TheVariants as expr
use Rattle.aq_set_build.specs.Listing.{IsMade}
use Rattle.aq_set_build.specs.Tensors.{Table}

-- what a union, or a power of one time, is taken apart into: the last one comes first
abbrev pub opened : Expr → List ℕ
opened (expr.Union left right) = right ∷ left ∷ []
opened (expr.Power base times) = if times == 1 then base ∷ [] else []
opened e = []

-- the number of an expression that isn't taken apart
abbrev pub kept : Expr → ℕ → List ℕ
kept (expr.Union left right) i = []
kept (expr.Power base times) i = if times == 1 then [] else i ∷ []
kept e i = i ∷ []

-- one step where an expression is taken apart
abbrev pub opening_steps : Expr → ℕ
opening_steps (expr.Union left right) = 1
opening_steps (expr.Power base times) = if times == 1 then 1 else 0
opening_steps e = 0

module _ (exprs : List Expr) where
  -- the vectors of each expression in turn, and their products
  unfoldable pub listed_all : List ℕ → Listed
  listed_all [] = nothing_listed
  listed_all (i ∷ is) = united (lists exprs i) (listed_all is)

  -- the choices of their union
  unfoldable pub shape_all : List ℕ → List ℕ
  shape_all [] = []
  shape_all (i ∷ is) = united_shape (size_of exprs i).shape (shape_all is)

  -- The first choice tells the expression: those of the first one come first. A later choice past its number means its last one.
  unfoldable pub place_all : List ℕ → Placing
  place_all [] word = 0
  place_all (i ∷ is) [] = 0
  place_all (i ∷ is) (choice ∷ word) =
      if nat_lt choice (first_number (size_of exprs i).shape)
      then place exprs i (choice ∷ shortened (lower (size_of exprs i).shape) word)
      else (size_of exprs i).count + place_all is ((choice - first_number (size_of exprs i).shape) ∷ word)

  -- the nodes of all
  unfoldable pub nodes_all : List ℕ → ℕ
  nodes_all [] = 0
  nodes_all (i ∷ is) = (size_of exprs i).nodes + nodes_all is

  -- both lists have one union: the same vectors, products and choices, and each word leads to the same place
  pub record AreAlike (xs ys : List ℕ) : Type 0 where
    pub listed : listed_all xs ≡ listed_all ys
    pub shape : shape_all xs ≡ shape_all ys
    pub places : (word : List ℕ) → place_all xs word ≡ place_all ys word

  -- j stands before i, and is on as many qubits
  abbrev pub IsBelow : ℕ → ℕ → Type 0
  IsBelow i j = (j < i) × ((size_of exprs j).qubits ≡ (size_of exprs i).qubits)

  -- the expression is the union of the parts and of what is yet to be taken apart, of which the last comes first
  pub record IsOpening (i : ℕ) (parts rest : List ℕ) : Type 0 where
    pub alike : AreAlike (i ∷ []) (parts ++ reverse rest)
    pub below : All (IsBelow i) parts
    pub waiting : All (IsBelow i) rest

  -- the automata of these expressions, one for each
  unfoldable pub AreMade : Table → List ℕ → List Lsta → Type 0
  AreMade table [] [] = Unit {0}
  AreMade table [] (l ∷ ls) = ⊥
  AreMade table (i ∷ is) [] = ⊥
  AreMade table (i ∷ is) (l ∷ ls) = IsMade exprs i table l × AreMade table is ls
