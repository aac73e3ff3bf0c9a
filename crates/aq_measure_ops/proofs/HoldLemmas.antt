-- Levels that hold a place hold what stands below it.
use Rattle.std.proofs.Common.{◌≡◌, ℕ, ◌+◌, ◌<◌, ◌≤◌, List, [], ◌∷◌, length, slice_get, Option, Some, refl, sym, ap, subst, ◌∙◌, arith}
use Rattle.aq_store.specs.declared.node.Node.{Node}
use Rattle.aq_store.specs.Runs.{compress, run_of}
use Rattle.aq_store.specs.Nodes.{HasShape, Extends, pairs_at, runs_at}
use Rattle.aq_store.specs.Owed.{AreLevels, rest_of}
use Rattle.aq_store.specs.Accounts.{HoldPlace, HoldPair, HoldPairs}
use Rattle.aq_store.proofs.RunLemmas.{before, run_choice}
use Rattle.aq_store.proofs.MeansLemmas.{pairs_at-kept}
use Rattle.aq_store.proofs.OwedLemmas.{AreLevels-Extends, lower, lower-left, lower-right}

module _ {L : Type 0} where
  -- a place's levels, without the first, hold its pairs
  pub pairs_held : (table : List (Node L)) (above below : List ℕ) (m id : ℕ) (levels : List (List ℕ)) → above ≡ m ∷ below → HoldPlace table above id levels
      → HoldPairs table below id (rest_of levels)
  pairs_held table above below m id levels split h =
      let all : AreLevels table (m ∷ below) levels = subst (λ u. AreLevels table u levels) split h.closed in
      record {
        each = λ c p at. record {
          closed = lower table m below levels all;
          left = lower-left table m below levels id c p all h.here at;
          right = lower-right table m below levels id c p all h.here at;
        };
      }

  pub HoldPair-Extends : (old new : List (Node L)) → Extends old new → (shape : List ℕ) (p : ℕ × ℕ) (levels : List (List ℕ)) → HoldPair old shape p levels → HoldPair new shape p levels
  HoldPair-Extends old new x shape p levels h = record { closed = AreLevels-Extends old new x shape levels h.closed; left = h.left; right = h.right }

  -- the pair of a run
  pub run_held : (start old : List (Node L)) → Extends start old → (above below : List ℕ) (id index count : ℕ) (p : ℕ × ℕ) (levels : List (List ℕ)) → HasShape start above id
      → HoldPairs start below id levels
      → slice_get (runs_at old id) index ≡ Some (run_of p count) → 0 < count → HoldPair old below p levels
  run_held start old x above below id index count p levels s h run some =
      let here : slice_get (runs_at start id) index ≡ Some (run_of p count) = ap (λ ps. slice_get (compress ps) index) (sym (pairs_at-kept start old x above id s)) ∙ run in
      let first = run_choice (pairs_at start id) index count (before (compress (pairs_at start id)) index) p here (omega arith) (omega arith) in
      HoldPair-Extends start old x below p levels (h.each (before (compress (pairs_at start id)) index) p first)
