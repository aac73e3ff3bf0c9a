-- What is played on kept worlds.
use Rattle.std.specs.Prelude.{◌≡◌, ℕ, ◌+◌, ◌*◌, ◌<◌, ◌≤◌, Bool, List, map, filter, All, Contains}
use Rattle.std.specs.List.{flat_map}
use Rattle.aq_ring.specs.Fractions.{Amplitude}
use Rattle.aq_prog.specs.Gates.{FitsGate}
use Rattle.aq_prog.specs.declared.stmt.Stmt.{Stmt}
use Rattle.aq_store.specs.Count.{Count}
use Rattle.aq_store.specs.Words.{IsWord}
use Rattle.aq_store.specs.declared.node.Node.{Node}
use Rattle.aq_store.specs.declared.store.Stop.{Stop}
use Rattle.aq_gate_ops.specs.Accounts.{IsStopped}
use Rattle.aq_gate_ops.specs.Causes.{IsCause}
use Rattle.aq_obligations.specs.Claims.{ClaimCase}
use Rattle.aq_obligations.specs.Counting.{is_named}
use Rattle.aq_obligations.specs.Covering.{Met}
use Rattle.aq_obligations.specs.Enough.{guards}
use Rattle.aq_obligations.specs.Worlds as meant
use Rattle.aq_correct.specs.WorldLaws.{is_alive}
use Rattle.aq_plain.specs.Replaying.{ArePlayable, IsPlayableStmt}
use Rattle.aq_symbolic.specs.Moves.{Move, of_body}
use Rattle.aq_symbolic.specs.Weights.{AreNamed, weights}
use Rattle.aq_symbolic.specs.Worlds.{AreSame, AreSized, ComesFrom, IsLive, IsView, Pick, View, one_word, world_of}
use Rattle.aq_symbolic.specs.declared.kept.World.{World}

-- the gate fits on each vector of the world that meets it
abbrev pub FitsMet : ℕ → Met → Type 0
FitsMet n e = All (λ v. FitsGate n e.gate v) e.world.vectors

-- all that are met fit
abbrev pub AllFit : ℕ → List Met → Type 0
AllFit n all = (e : Met) → Contains all e → FitsMet n e

-- one that is met doesn't fit
pub record MeetsUnfit (n : ℕ) (all : List Met) : Type 0 where
  pub met : Met
  pub is_met : Contains all met
  pub wide : FitsMet n met → ⊥

-- the most steps that a move takes on worlds: four times the weights, for each statement
abbrev pub most_steps : (ℕ → Bool) → Move → List World → ℕ
most_steps named m ws = 4 * (m.statements * weights named m.outcomes ws)

module _ {L : Type 0} (parts : L → List Amplitude) (count : ℕ) where
  -- the list is these worlds, however it is looked at
  pub record Gives (n m : ℕ) (v : View) (table : List (Node L)) (list : List World) (those : List meant.World) : Type 0 where
    pub worlds : AreSame (map (world_of parts v table) list) those
    pub sized : AreSized n m table list

  -- Of all these worlds some have been played on, while the table and the counter went from old to new: the list is what comes
  -- of those. Each gate that they met fits.
  pub record Collects (move : Move) (old new : List (Node L)) (before now : Count) (all some list : List World) : Type 0 where
    pub gives : (n m : ℕ) (v : View) → IsView count v → AreSized n m old all → Gives n m v new list (flat_map (move.spread n) (map (world_of parts v old) some))
    pub fits : (n m : ℕ) (v : View) → IsView count v → AreSized n m old all → AllFit n (flat_map (move.meets n) (map (world_of parts v old) some))
    pub from : All (ComesFrom all) list
    pub lighter : (named : ℕ → Bool) (k : ℕ) → AreNamed named move.guards → weights named k list ≤ weights named (move.outcomes + k) some
    pub takes : (named : ℕ → Bool) → AreNamed named move.guards → now.taken ≤ before.taken + most_steps named move some

  -- the list is what comes of the worlds
  abbrev pub Leaves : Move → List (Node L) → List (Node L) → Count → Count → List World → List World → Type 0
  Leaves move old new before now ws list = Collects move old new before now ws ws list

  -- From one word of the worlds' automata, a gate is met that doesn't fit: on some part, for labels with several.
  pub record IsUnfit (move : Move) (table : List (Node L)) (ws : List World) : Type 0 where
    pub word : List ℕ
    pub wide : (n m : ℕ) (cases : ℕ → ClaimCase) → AreSized n m table ws → MeetsUnfit n (flat_map (move.meets n) (map (world_of parts (one_word count cases word) table) ws))

  -- Why a move on the worlds gives up: for want of memory, of steps, where its most steps are more than were left, or since
  -- a gate doesn't fit.
  pub record Stops (move : Move) (table : List (Node L)) (ws : List World) (before now : Count) (why : Stop L) : Type 0 where
    pub stopped : (named : ℕ → Bool) → AreNamed named move.guards → IsStopped (most_steps named move ws) before now why
    pub cause : IsCause (λ l r. IsUnfit move table ws) why

-- the worlds and the statements have the same numbers of qubits and bits
pub record CanPlay {L : Type 0} (table : List (Node L)) (ws : List World) (body : List Stmt) : Type 0 where
  pub qubits : ℕ
  pub bits : ℕ
  pub sized : AreSized qubits bits table ws
  pub playable : ArePlayable qubits bits body

pub record CanPlayStmt {L : Type 0} (table : List (Node L)) (ws : List World) (s : Stmt) : Type 0 where
  pub qubits : ℕ
  pub bits : ℕ
  pub sized : AreSized qubits bits table ws
  pub playable : IsPlayableStmt qubits bits s

-- the bits that the guards of the statements name
abbrev pub named_in : List Stmt → ℕ → Bool
named_in body bit = is_named bit (guards body)

-- For each world at the start four times the words times 2^(n+1), twice for each outcome and for each bit that isn't known and
-- that a guard names; and all this for each statement.
abbrev pub steps_for : List Stmt → List World → ℕ
steps_for body ws = most_steps (named_in body) (of_body body) ws

-- each word of a world and each part of its labels is looked at
pub record ShowsAll (count : ℕ) (v : View) (w : World) : Type 0 where
  pub each : (p : Pick) → IsWord w.lsta.shape.items p.word → p.part < count → Contains (v.picks w.case) p

module _ {L : Type 0} (parts : L → List Amplitude) (count : ℕ) where
  -- The list is what comes of the worlds, but for worlds whose every vector is zero. However the worlds are looked at, what is
  -- seen is the same but for those that seem zero so; and where all words are looked at, it is the same.
  pub record Goes (body : List Stmt) (old new : List (Node L)) (ws list : List World) : Type 0 where
    pub same : (n m : ℕ) (v : View) → IsView count v → AreSized n m old ws → AreSame (map (world_of parts v new) list) (flat_map ((of_body body).spread n) (map (world_of parts v old) ws))
    pub whole : (n m : ℕ) (v : View) → IsView count v → All (ShowsAll count v) ws → AreSized n m old ws
        → map (world_of parts v new) list ≡ filter is_alive (flat_map ((of_body body).spread n) (map (world_of parts v old) ws))
    pub sized : (n m : ℕ) → AreSized n m old ws → AreSized n m new list
    pub from : All (ComesFrom ws) list
    pub live : All (IsLive parts new) list
    pub fits : (n m : ℕ) (v : View) → IsView count v → AreSized n m old ws → AllFit n (flat_map ((of_body body).meets n) (map (world_of parts v old) ws))
    -- each outcome and each decision on a bit that the statements name at most doubles what there is
    pub lighter : (named : ℕ → Bool) (k : ℕ) → AreNamed named (of_body body).guards → weights named k list ≤ weights named ((of_body body).outcomes + k) ws
