-- Worlds whose states are kept as an automaton: which worlds of the definitions they are.
--
-- A world of the definitions has a list of vectors. An automaton has a vector for each word, and of labels with several parts
-- one for each part. So a kept world is many worlds of the definitions, one for each list of words and parts that is looked
-- at: all words in order give the whole case, and one word gives the runs from one state.
use Rattle.std.specs.Prelude.{◌≡◌, ℕ, ◌<◌, List, map, filter, length, All, Contains}
use Rattle.aq_ring.specs.Fractions.{Amplitude}
use Rattle.aq_store.specs.Nodes.{FitsStore, tree, vector_of}
use Rattle.aq_store.specs.Kinds.{HasState, IsNull}
use Rattle.aq_store.specs.Parts.{part_vector}
use Rattle.aq_store.specs.declared.lsta.Lsta.{Lsta}
use Rattle.aq_store.specs.declared.node.Node.{Node}
use Rattle.aq_prog.specs.Digits.{tabulate}
use Rattle.aq_obligations.specs.Claims.{ClaimCase}
use Rattle.aq_obligations.specs.Worlds.{Partial}
use Rattle.aq_obligations.specs.Worlds as meant
use Rattle.aq_correct.specs.WorldLaws.{is_alive}
use Rattle.aq_symbolic.specs.declared.kept.World.{World}

-- one state of an automaton: a word, and a part of its labels
pub record Pick : Type 0 where
  pub word : List ℕ
  pub part : ℕ

-- what the numbers of cases mean, and which states of a case are looked at, in this order
pub record View : Type 0 where
  pub case : ℕ → ClaimCase
  pub picks : ℕ → List Pick

-- each part that is looked at is one of the labels'
abbrev pub IsView : ℕ → View → Type 0
IsView count v = (case : ℕ) → All (λ p. p.part < count) (v.picks case)

-- all parts of one word
abbrev pub picks_of_word : ℕ → List ℕ → List Pick
picks_of_word count word = tabulate count (λ k. record { word = word; part = k })

-- what is seen of all cases is one word
abbrev pub one_word : ℕ → (ℕ → ClaimCase) → List ℕ → View
one_word count cases word = record { case = cases; picks = λ _. picks_of_word count word }

module _ {L : Type 0} (parts : L → List Amplitude) where
  -- the vector of a state
  abbrev pub vector_at : List (Node L) → Lsta → Pick → List Amplitude
  vector_at table lsta p = part_vector parts p.part (vector_of table lsta p.word)

  -- the world that is seen
  abbrev pub world_of : View → List (Node L) → World → meant.World
  world_of v table w = record { case = v.case w.case; start = w.start; bits = w.bits; outcomes = w.outcomes; vectors = map (vector_at table w.lsta) (v.picks w.case) }

  -- every vector of the world is zero
  abbrev pub IsNothing : List (Node L) → World → Type 0
  IsNothing table w = IsNull parts table w.lsta.root

  -- one of the world's vectors isn't zero
  abbrev pub IsLive : List (Node L) → World → Type 0
  IsLive table w = HasState parts table w.lsta.shape.items w.lsta.root

-- the world has m bits, and an automaton of n levels in the table
pub record IsSized {L : Type 0} (n m : ℕ) (table : List (Node L)) (w : World) : Type 0 where
  pub start : length w.start ≡ m
  pub bits : length w.bits ≡ m
  pub levels : length w.lsta.shape.items ≡ n
  pub fits : FitsStore table w.lsta

abbrev pub AreSized : {L : Type 0} → ℕ → ℕ → List (Node L) → List World → Type 0
AreSized n m table ws = All (IsSized n m table) ws

-- each automaton fits the table
abbrev pub AllFitStore : {L : Type 0} → List (Node L) → List World → Type 0
AllFitStore table ws = All (λ w. FitsStore table w.lsta) ws

-- the same worlds, but for those whose every vector is zero
abbrev pub AreSame : List meant.World → List meant.World → Type 0
AreSame ws us = filter is_alive ws ≡ filter is_alive us

-- it is of the same case and shape as one of the worlds
pub record ComesFrom (ws : List World) (u : World) : Type 0 where
  pub world : World
  pub listed : Contains ws world
  pub case : u.case ≡ world.case
  pub shape : u.lsta.shape.items ≡ world.lsta.shape.items
