-- The automata of cases, and the goals of a world.
use Rattle.std.specs.Prelude.{List, filter}
use Rattle.std.specs.List.{AllZip}
use Rattle.aq_sets.specs.declared.sets.Sets.{Sets}
use Rattle.aq_store.specs.declared.lsta.Lsta.{Lsta}
use Rattle.aq_obligations.specs.Claims.{are_met}
use Rattle.aq_obligations.specs.Worlds.{Partial, filled}
use Rattle.aq_obligations.specs.declared.bound.BoundCase.{BoundCase}
use Rattle.aq_set_build.specs.Listing.{IsBuilt, IsMade}
use Rattle.aq_set_build.specs.Tensors.{Table}

-- each automaton is that of its case's expression
abbrev pub AreBuilt : Sets → List BoundCase → Table → List Lsta → Type 0
AreBuilt s cases table list = AllZip (λ c made. IsBuilt s.exprs c.set table made) cases list

-- the same, and each product of a tensor or a power in the expressions fits
abbrev pub AreMade : Sets → List BoundCase → Table → List Lsta → Type 0
AreMade s cases table list = AllZip (λ c made. IsMade s.exprs c.set table made) cases list

-- the cases whose conditions hold in the bits, with 0 for those that aren't known
abbrev pub met_cases : List BoundCase → Partial → List BoundCase
met_cases cases bits = filter (λ c. are_met c.when (filled bits)) cases
