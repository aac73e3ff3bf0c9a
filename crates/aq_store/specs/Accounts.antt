-- What a call with a memo takes, told by levels: lists of places, from the top down, that hold all that the call may meet.
-- They may hold more, and hold a place twice, so that each bound on a whole operation chooses its own.
use Rattle.std.specs.Prelude.{◌≡◌, ℕ, ◌+◌, ◌≤◌, List, slice_get, Option, Some}
use Rattle.aq_store.specs.declared.node.Node.{Node}
use Rattle.aq_store.specs.declared.store.Stop.{Stop}
use Rattle.aq_store.specs.Count.{Count}
use Rattle.aq_store.specs.Memos.{is_done}
use Rattle.aq_store.specs.Nodes.{pairs_at}
use Rattle.aq_store.specs.Owed.{AreLevels, IsIn, first_of, owed, prices_of}
use Rattle.aq_store.specs.Stops.{GivesUp}

module _ {L : Type 0} (table : List (Node L)) (shape : List ℕ) where
  -- the levels hold a place, and all places below
  pub record HoldPlace (id : ℕ) (levels : List (List ℕ)) : Type 0 where
    pub closed : AreLevels table shape levels
    pub here : IsIn id (first_of levels)

  -- the levels hold both places of a pair, and all places below
  pub record HoldPair (p : ℕ × ℕ) (levels : List (List ℕ)) : Type 0 where
    pub closed : AreLevels table shape levels
    pub left : IsIn p.0 (first_of levels)
    pub right : IsIn p.1 (first_of levels)

  -- the levels hold the places of each pair of a place, and all places below
  pub record HoldPairs (id : ℕ) (levels : List (List ℕ)) : Type 0 where
    pub each : (c : ℕ) (p : ℕ × ℕ) → slice_get (pairs_at table id) c ≡ Some p → HoldPair p levels

-- For levels of which H tells that they hold what the call may meet, with the price of a place by the shape of what is
-- made of it, and a memo: the call takes at most what is owed for the places that the memo hasn't.
abbrev pub TakesOwed : (List (List ℕ) → Type 0) → List ℕ → (ℕ → Option ℕ) → Count → Count → Type 0
TakesOwed H shape at before now = (levels : List (List ℕ)) → H levels → now.taken ≤ before.taken + owed (prices_of shape) (is_done at) levels

-- what the call has taken is no longer owed
abbrev pub PaysOwed : (List (List ℕ) → Type 0) → List ℕ → (ℕ → Option ℕ) → (ℕ → Option ℕ) → Count → Count → Type 0
PaysOwed H shape old new before now =
    (levels : List (List ℕ)) → H levels → now.taken + owed (prices_of shape) (is_done new) levels ≤ before.taken + owed (prices_of shape) (is_done old) levels

-- where the call gives up for want of steps, what is owed is more than there is
abbrev pub StopsOwed : {L : Type 0} → (List (List ℕ) → Type 0) → List ℕ → (ℕ → Option ℕ) → Count → Count → Stop L → Type 0
StopsOwed H shape at before now why = (levels : List (List ℕ)) → H levels → GivesUp (owed (prices_of shape) (is_done at) levels) before now why
