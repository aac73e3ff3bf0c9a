-- How long the lists of a set file's tree are: no longer than its text.
use Rattle.std.specs.Prelude.{ℕ, ◌≤◌, All, length}
use Rattle.aq_set_parse.specs.declared.tree.SetCase.{SetCase}
use Rattle.aq_set_parse.specs.declared.tree.SetItem.{SetItem}
use Rattle.aq_set_parse.specs.declared.tree.SetItem.TheVariants as items
use Rattle.aq_set_parse.specs.declared.tree.SetTree.{SetTree}

-- at most n conditions
abbrev pub IsShortCase : ℕ → SetCase → Type 0
IsShortCase n case = length case.when ≤ n

-- a claim has at most n cases, each of at most n conditions
abbrev pub IsShortItem : ℕ → SetItem → Type 0
IsShortItem n (items.Set name expr) = Unit {0}
IsShortItem n (items.Claim name cases) = (length cases ≤ n) × All (IsShortCase n) cases

-- no claim has more than n cases, and no case more than n conditions
abbrev pub IsShortTree : ℕ → SetTree → Type 0
IsShortTree n tree = All (IsShortItem n) tree.items
