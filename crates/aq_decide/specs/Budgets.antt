-- How many steps the parts of a decision take at most.
use Rattle.std.specs.Prelude.{ℕ, suc, ◌+◌, ◌-◌, ◌*◌, ◌^◌, List}
use Rattle.std.specs.List.{sum_by}
use Rattle.aq_prog.specs.declared.program.Program.{Program}
use Rattle.aq_sets.specs.declared.sets.Sets.{Sets}
use Rattle.aq_obligations.specs.Enough.{mentioned_bits, outcomes, statements, words_of}
use Rattle.aq_obligations.specs.declared.bound.BoundCase.{BoundCase}
use Rattle.aq_obligations.specs.declared.bound.Obligation.{Obligation}
use Rattle.aq_set_build.specs.Budgets.{build_budget}
use Rattle.aq_symbolic.specs.Weights.{open_bits, price}
use Rattle.aq_symbolic.specs.declared.kept.World.{World}
use Rattle.aq_decide.specs.Splitting.{is_asked}

-- to build the automata of the cases
abbrev pub build_all : Sets → List BoundCase → ℕ
build_all s cases = sum_by (λ c. build_budget s.exprs c.set) cases

-- what the worlds of a case come to at most: its words, each with the nodes of a binary tree, twice for each outcome
-- and for each bit that is mentioned
abbrev pub spread_weight : Program → Sets → Obligation → BoundCase → ℕ
spread_weight p s o c = 2 ^ (outcomes o.fragment + mentioned_bits p o) * words_of s c * 2 ^ suc p.qubits

-- to split worlds at the bits that conditions of the cases are on: a step for each world that is added
abbrev pub split_budget : List BoundCase → List World → ℕ
split_budget cases ws = sum_by (λ w. 2 ^ open_bits (is_asked cases) w - 1) ws

-- to play the fragment on the world of a case, and to split the worlds that come of it
abbrev pub play_budget : Program → Sets → Obligation → BoundCase → ℕ
play_budget p s o c = 4 * (statements o.fragment * spread_weight p s o c) + spread_weight p s o c

abbrev pub play_all : Program → Sets → Obligation → List BoundCase → ℕ
play_all p s o cases = sum_by (play_budget p s o) cases

abbrev pub spread_all : Program → Sets → Obligation → List BoundCase → ℕ
spread_all p s o cases = sum_by (spread_weight p s o) cases

-- the words of the goal's cases
abbrev pub goal_words_of : Sets → Obligation → ℕ
goal_words_of s o = sum_by (words_of s) o.goal.cases

-- what worlds come to: the words of each, each with the nodes of a binary tree
abbrev pub prices : List World → ℕ
prices ws = sum_by (λ w. price w.lsta.shape.items) ws

-- to judge worlds
abbrev pub judge_budget : Sets → Obligation → List World → ℕ
judge_budget s o ws = prices ws * (1 + goal_words_of s o)
