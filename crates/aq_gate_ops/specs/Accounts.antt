-- What a gate takes, told by levels: lists of places from the root down to the target, and below it lists of ordered pairs
-- of places, that hold all that the call may meet. They may hold more, and hold a key twice, so that each bound on the
-- whole gate chooses its own.
use Rattle.std.specs.Prelude.{◌≡◌, ℕ, zero, suc, ◌+◌, ◌*◌, ◌<◌, ◌≤◌, ◌==◌, Bool, true, false, ◌&&◌, if◌then◌else◌, List, [], ◌∷◌, slice_get, drop, Some, is_some}
use Rattle.aq_store.specs.Count.{Count}
use Rattle.aq_store.specs.Memos.{memo_at, is_done, pair_memo_at}
use Rattle.aq_store.specs.Nodes.{HasShape, pairs_at, total_cost}
use Rattle.aq_store.specs.Owed.{IsIn, first_of, owed, IsLevel}
use Rattle.aq_store.specs.declared.memo.Memo.{Memo}
use Rattle.aq_store.specs.declared.memo.PairMemo.{PairMemo}
use Rattle.aq_store.specs.declared.node.Node.{Node}
use Rattle.aq_store.specs.declared.store.Stop.{Stop}
use Rattle.aq_store.specs.declared.store.Stop.TheVariants.{Spent}
use Rattle.aq_prog.specs.declared.gate.Gate.{Gate}
use Rattle.aq_gate_ops.specs.Turns.{only_turns, key_of}

-- ---- prices
-- where at most two levels are left, of one choice each, an ordered pair of places has no entry in the memo: it is
-- worked out anew each time that it is met
abbrev pub is_low : List ℕ → Bool
is_low [] = true
is_low (n ∷ []) = n == 1
is_low (n ∷ m ∷ []) = (n == 1) && (m == 1)
is_low (n ∷ m ∷ k ∷ shape) = false

-- what the nodes of both rows of a pair cost, with those of all pairs below it, one for each choice and side
abbrev pub rows_cost : List ℕ → ℕ
rows_cost [] = 2
rows_cost (n ∷ shape) = 2 * n + n * (2 * rows_cost shape)

-- what a pair takes each time that it is met, by the shape below: these nodes where it has no entry, else nothing, since
-- its price has all
abbrev pub anew : List ℕ → ℕ
anew shape = if is_low shape then rows_cost shape else 0

-- of a pair that has an entry: both rows' nodes, what the pairs of each choice take anew, and the entry
abbrev pub row_prices : List ℕ → List ℕ
row_prices [] = []
row_prices (n ∷ shape) = if is_low (n ∷ shape) then [] else (suc (2 * n + n * (2 * anew shape)) ∷ row_prices shape)

-- what a place's pair takes anew, with so many levels between: at the target that of its two sides, above it nothing
abbrev pub anew_at : ℕ → List ℕ → ℕ
anew_at zero shape = anew shape
anew_at (suc m) shape = 0

-- of a place, for so many levels: its node, what the pair of each choice takes anew, and an entry of the memo
abbrev pub gate_prices : ℕ → List ℕ → List ℕ
gate_prices zero shape = []
gate_prices (suc k) [] = []
gate_prices (suc k) (n ∷ shape) = suc (n + n * anew_at k shape) ∷ gate_prices k shape

-- one step for each key
abbrev pub ones : List ℕ → List ℕ
ones [] = []
ones (p ∷ prices) = 1 ∷ ones prices

-- whether a pair is done
abbrev pub is_made : PairMemo → ℕ × ℕ → Bool
is_made memo p = is_some (pair_memo_at memo p)

-- ---- what is paid
module _ {L : Type 0} where
  -- A call has taken at most what is no longer owed. Besides what the new nodes of the table cost it has taken at most
  -- one step for each key that wasn't done and is now.
  pub record Pays (owed_before owed_now keys_before keys_now : ℕ) (old new : List (Node L)) (before now : Count) : Type 0 where
    pub all : now.taken + owed_now ≤ before.taken + owed_before
    pub besides : now.taken + total_cost old + keys_now ≤ before.taken + total_cost new + keys_before

  -- A call that gave up has taken no more than a bound. Where it did so for want of steps, the bound is more than were
  -- left, and the counter stands at its limit.
  pub record IsStopped (bound : ℕ) (before now : Count) (why : Stop L) : Type 0 where
    pub cheap : now.taken ≤ before.taken + bound
    pub full : why ≡ Spent → now.taken ≡ now.limit
    pub spent : why ≡ Spent → before.limit < before.taken + bound

  -- ---- below the target
  abbrev pub PaysRows : (List (List (ℕ × ℕ)) → Type 0) → List ℕ → ℕ → PairMemo → PairMemo → List (Node L) → List (Node L) → Count → Count → Type 0
  PaysRows H shape more memo_old memo_new old new before now =
      (levels : List (List (ℕ × ℕ))) → H levels
      → Pays (owed (row_prices shape) (is_made memo_old) levels + more) (owed (row_prices shape) (is_made memo_new) levels)
      (owed (ones (row_prices shape)) (is_made memo_old) levels) (owed (ones (row_prices shape)) (is_made memo_new) levels) old new before now

  abbrev pub StopsRows : (List (List (ℕ × ℕ)) → Type 0) → List ℕ → ℕ → PairMemo → Count → Count → Stop L → Type 0
  StopsRows H shape more memo before now why =
      (levels : List (List (ℕ × ℕ))) → H levels → IsStopped (owed (row_prices shape) (is_made memo) levels + more) before now why

-- ---- from the target up, with so many levels of places
abbrev pub gate_owed : ℕ → List ℕ → Memo → PairMemo → List (List ℕ) → List (List (ℕ × ℕ)) → ℕ
gate_owed k shape memo rows levels pairs =
    owed (gate_prices k shape) (is_done (memo_at memo)) levels + owed (row_prices (drop k shape)) (is_made rows) pairs

abbrev pub gate_keys : ℕ → List ℕ → Memo → PairMemo → List (List ℕ) → List (List (ℕ × ℕ)) → ℕ
gate_keys k shape memo rows levels pairs =
    owed (ones (gate_prices k shape)) (is_done (memo_at memo)) levels + owed (ones (row_prices (drop k shape))) (is_made rows) pairs

module _ {L : Type 0} where
  abbrev pub PaysGate : (List (List ℕ) → List (List (ℕ × ℕ)) → Type 0) → ℕ → List ℕ → ℕ
      → Memo → PairMemo → Memo → PairMemo → List (Node L) → List (Node L) → Count → Count → Type 0
  PaysGate H k shape more memo_old rows_old memo_new rows_new old new before now =
      (levels : List (List ℕ)) (pairs : List (List (ℕ × ℕ))) → H levels pairs
      → Pays (gate_owed k shape memo_old rows_old levels pairs + more)
      (gate_owed k shape memo_new rows_new levels pairs)
      (gate_keys k shape memo_old rows_old levels pairs) (gate_keys k shape memo_new rows_new levels pairs) old new before now

  abbrev pub StopsGate : (List (List ℕ) → List (List (ℕ × ℕ)) → Type 0) → ℕ → List ℕ → ℕ
      → Memo → PairMemo → Count → Count → Stop L → Type 0
  StopsGate H k shape more memo rows before now why =
      (levels : List (List ℕ)) (pairs : List (List (ℕ × ℕ))) → H levels pairs
      → IsStopped (gate_owed k shape memo rows levels pairs + more) before now why

-- ---- what the levels hold
module _ {L : Type 0} (table : List (Node L)) where
  -- both places of each pair have the shape, and the next level has the left sides under each choice, and the right sides
  pub record IsPairLevel (shape : List ℕ) (l next : List (ℕ × ℕ)) : Type 0 where
    pub left : (p : ℕ × ℕ) → IsIn p l → HasShape table shape p.0
    pub right : (p : ℕ × ℕ) → IsIn p l → HasShape table shape p.1
    pub low : (p a b : ℕ × ℕ) (c : ℕ) → IsIn p l → slice_get (pairs_at table p.0) c ≡ Some a → slice_get (pairs_at table p.1) c ≡ Some b → IsIn (a.0, b.0) next
    pub high : (p a b : ℕ × ℕ) (c : ℕ) → IsIn p l → slice_get (pairs_at table p.0) c ≡ Some a → slice_get (pairs_at table p.1) c ≡ Some b → IsIn (a.1, b.1) next

  -- levels of pairs of places of this shape, from the top down
  unfoldable pub ArePairLevels : List ℕ → List (List (ℕ × ℕ)) → Type 0
  ArePairLevels [] ls = Unit {0}
  ArePairLevels (n ∷ shape) [] = Unit {0}
  ArePairLevels (n ∷ shape) (l ∷ ls) = IsPairLevel (n ∷ shape) l (first_of ls) × ArePairLevels shape ls

  -- the levels hold a pair of places, and all below
  pub record HoldKey (shape : List ℕ) (p : ℕ × ℕ) (levels : List (List (ℕ × ℕ))) : Type 0 where
    pub closed : ArePairLevels shape levels
    pub here : IsIn p (first_of levels)

  -- they hold the left sides of two pairs, and the right sides
  pub record HoldTwo (shape : List ℕ) (l r : ℕ × ℕ) (levels : List (List (ℕ × ℕ))) : Type 0 where
    pub closed : ArePairLevels shape levels
    pub low : IsIn (l.0, r.0) (first_of levels)
    pub high : IsIn (l.1, r.1) (first_of levels)

  -- they do so for each choice of two places
  pub record HoldBelow (shape : List ℕ) (p : ℕ × ℕ) (levels : List (List (ℕ × ℕ))) : Type 0 where
    pub each : (a b : ℕ × ℕ) (c : ℕ) → slice_get (pairs_at table p.0) c ≡ Some a → slice_get (pairs_at table p.1) c ≡ Some b → HoldTwo shape a b levels

  module _ (gate : Gate) where
    -- each place has the shape, and the next level has the keys of its pairs
    pub record IsTargetLevel (shape : List ℕ) (l : List ℕ) (next : List (ℕ × ℕ)) : Type 0 where
      pub shaped : (i : ℕ) → IsIn i l → HasShape table shape i
      pub pairs : (i c : ℕ) (p : ℕ × ℕ) → IsIn i l → slice_get (pairs_at table i) c ≡ Some p
          → IsIn (key_of (only_turns gate) p) next

    -- levels of places, of which so many stand above the target, and of pairs below it
    unfoldable pub AreGateLevels : ℕ → List ℕ → List (List ℕ) → List (List (ℕ × ℕ)) → Type 0
    AreGateLevels m [] levels pairs = Unit {0}
    AreGateLevels zero (n ∷ shape) levels pairs = IsTargetLevel (n ∷ shape) (first_of levels) (first_of pairs) × ArePairLevels shape pairs
    AreGateLevels (suc m) (n ∷ shape) [] pairs = Unit {0}
    AreGateLevels (suc m) (n ∷ shape) (l ∷ ls) pairs = IsLevel table (n ∷ shape) l (first_of ls) × AreGateLevels m shape ls pairs

    -- the levels hold a place, with so many levels above the target, and all below
    pub record HoldGate (m : ℕ) (shape : List ℕ) (id : ℕ) (levels : List (List ℕ)) (pairs : List (List (ℕ × ℕ))) : Type 0 where
      pub closed : AreGateLevels m shape levels pairs
      pub here : IsIn id (first_of levels)

    pub record HoldSides (m : ℕ) (shape : List ℕ) (p : ℕ × ℕ) (levels : List (List ℕ)) (pairs : List (List (ℕ × ℕ))) : Type 0 where
      pub closed : AreGateLevels m shape levels pairs
      pub left : IsIn p.0 (first_of levels)
      pub right : IsIn p.1 (first_of levels)

    -- they hold a pair of a place: by its key where the place is at the target, and else both sides
    abbrev pub HoldGatePair : ℕ → List ℕ → ℕ × ℕ → List (List ℕ) → List (List (ℕ × ℕ)) → Type 0
    HoldGatePair zero shape p levels pairs = HoldKey shape (key_of (only_turns gate) p) pairs
    HoldGatePair (suc m) shape p levels pairs = HoldSides m shape p levels pairs
