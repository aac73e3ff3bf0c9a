-- What is owed for places from the target up.
use Rattle.std.proofs.Common.{◌≡◌, ℕ, zero, suc, ◌+◌, ◌*◌, ◌<◌, ◌≤◌, true, false, List, [], ◌∷◌, drop, slice_get, Some}
use Rattle.std.proofs.lemmas.Bool.{eq-eqb}
use Rattle.std.proofs.Common.{Option, is_some, cond, nat_eq, refl, sym, ap, subst, ◌∙◌, arith}
use Rattle.aq_store.specs.Count.{Count}
use Rattle.aq_store.specs.Memos.{memo_at, is_done}
use Rattle.aq_store.specs.Nodes.{HasShape, Extends, pairs_at, runs_at, total_cost}
use Rattle.aq_store.specs.Owed.{IsIn, first_of, rest_of, owed}
use Rattle.aq_store.specs.Runs.{compress, run_of}
use Rattle.aq_store.specs.declared.memo.Memo.{Memo}
use Rattle.aq_store.specs.declared.memo.PairMemo.{PairMemo}
use Rattle.aq_store.specs.declared.node.Node.{Node}
use Rattle.aq_prog.specs.declared.gate.Gate.{Gate}
use Rattle.aq_store.proofs.MeansLemmas.{pairs_at-kept}
use Rattle.aq_store.proofs.OwedLemmas.{IsLevel-Extends}
use Rattle.aq_store.proofs.RunLemmas.{before, run_choice}
use Rattle.aq_store.proofs.TableLemmas.{HasShape-Extends}
use Rattle.aq_gate_ops.specs.Accounts.{anew, anew_at, row_prices, gate_prices, ones, is_made, Pays, gate_owed, gate_keys, HoldKey, AreGateLevels, HoldGate, HoldSides, HoldGatePair}
use Rattle.aq_gate_ops.specs.Turns.{only_turns, key_of}
use Rattle.aq_gate_ops.proofs.RowAccounts.{owed_more, key_paid, ArePairLevels-Extends}

-- ---- levels
module _ {L : Type 0} (gate : Gate) where
  pub AreGateLevels-Extends : (old new : List (Node L)) → Extends old new → (m : ℕ) (shape : List ℕ) (levels : List (List ℕ)) (pairs : List (List (ℕ × ℕ))) → AreGateLevels old gate m shape levels pairs → AreGateLevels new gate m shape levels pairs
  unfolding AreGateLevels
  AreGateLevels-Extends old new x zero [] ls ps m = tt
  AreGateLevels-Extends old new x (suc k) [] ls ps m = tt
  AreGateLevels-Extends old new x zero (n ∷ shape) ls ps m = (
    record {
      shaped = λ i at. HasShape-Extends old new x (n ∷ shape) i (m.0.shaped i at);
      pairs = λ i c p at e. m.0.pairs i c p at (ap (λ qs. slice_get qs c) (sym (pairs_at-kept old new x (n ∷ shape) i (m.0.shaped i at))) ∙ e);
    },
    ArePairLevels-Extends old new x shape ps m.1,
  )
  AreGateLevels-Extends old new x (suc k) (n ∷ shape) [] ps m = tt
  AreGateLevels-Extends old new x (suc k) (n ∷ shape) (l ∷ ls) ps m = (IsLevel-Extends old new x (n ∷ shape) l (first_of ls) m.0, AreGateLevels-Extends old new x k shape ls ps m.1)

  pub HoldGatePair-Extends : (old new : List (Node L)) → Extends old new → (m : ℕ) (shape : List ℕ) (p : ℕ × ℕ) (levels : List (List ℕ)) (pairs : List (List (ℕ × ℕ))) → HoldGatePair old gate m shape p levels pairs
      → HoldGatePair new gate m shape p levels pairs
  HoldGatePair-Extends old new x zero shape p ls ps h = record { closed = ArePairLevels-Extends old new x shape ps h.closed; here = h.here }
  HoldGatePair-Extends old new x (suc m) shape p ls ps h = record { closed = AreGateLevels-Extends old new x m shape ls ps h.closed; left = h.left; right = h.right }

  sides_held : (table : List (Node L)) (m n : ℕ) (below : List ℕ) (i c : ℕ) (p : ℕ × ℕ) (levels : List (List ℕ)) (pairs : List (List (ℕ × ℕ))) → AreGateLevels table gate m (n ∷ below) levels pairs → IsIn i (first_of levels)
      → slice_get (pairs_at table i) c ≡ Some p → HoldGatePair table gate m below p (rest_of levels) pairs
  unfolding AreGateLevels
  sides_held table zero n below i c p ls ps m at e = record { closed = m.1; here = m.0.pairs i c p at e }
  sides_held table (suc k) n below i c p [] ps m at e = let none = at.at in cc
  sides_held table (suc k) n below i c p (l ∷ ls) ps m at e = record { closed = m.1; left = m.0.left i c p at e; right = m.0.right i c p at e }

  -- the pair of a run
  pub gate_pair : (start old : List (Node L)) → Extends start old → (above below : List ℕ) (m n : ℕ) → above ≡ n ∷ below → (id index count : ℕ) (p : ℕ × ℕ) (levels : List (List ℕ)) (pairs : List (List (ℕ × ℕ)))
      → HasShape start above id → HoldGate start gate m above id levels pairs → slice_get (runs_at old id) index ≡ Some (run_of p count) → 0 < count → HoldGatePair old gate m below p (rest_of levels) pairs
  gate_pair start old x above below m n split id index count p levels pairs s h run some =
      let here : slice_get (runs_at start id) index ≡ Some (run_of p count) = ap (λ ps. slice_get (compress ps) index) (sym (pairs_at-kept start old x above id s)) ∙ run in
      let first = run_choice (pairs_at start id) index count (before (compress (pairs_at start id)) index) p here (omega arith) (omega arith) in
      HoldGatePair-Extends start old x m below p (rest_of levels) pairs
      (sides_held start m n below id (before (compress (pairs_at start id)) index) p levels pairs (subst (λ u. AreGateLevels start gate m u levels pairs) split h.closed) h.here first)

  -- at the target, and above it
  pub key_held : (table : List (Node L)) (m : ℕ) → m ≡ 0 → (shape : List ℕ) (p : ℕ × ℕ) (levels : List (List ℕ)) (pairs : List (List (ℕ × ℕ))) → HoldGatePair table gate m shape p levels pairs → HoldKey table shape (key_of (only_turns gate) p) pairs
  key_held table m e shape p levels pairs h = subst (λ k. HoldGatePair table gate k shape p levels pairs) e h

  pub both_held : (table : List (Node L)) (k m : ℕ) → k ≡ suc m → (shape : List ℕ) (p : ℕ × ℕ) (levels : List (List ℕ)) (pairs : List (List (ℕ × ℕ))) → HoldGatePair table gate k shape p levels pairs → HoldSides table gate m shape p levels pairs
  both_held table k m e shape p levels pairs h = subst (λ j. HoldGatePair table gate j shape p levels pairs) e h

-- a place that was just put is done
pub place_put : (at new : ℕ → Option ℕ) (i j : ℕ) → ((q : ℕ) → new q ≡ cond (nat_eq i q) (Some j) (at q)) → is_done new i ≡ true
place_put at new i j is = ap is_some (is i ∙ ap (λ b. cond b (Some j) (at i)) (eq-eqb i i refl))

-- ---- what is paid
module _ {L : Type 0} where
  -- a place is done
  pub place_paid : (above below : List ℕ) (m n : ℕ) → above ≡ n ∷ below → (memo_start memo_middle memo_last : Memo) (rows_start rows_last : PairMemo)
      → ((q : ℕ) → is_done (memo_at memo_start) q ≡ true → is_done (memo_at memo_middle) q ≡ true) → ((q : ℕ) → is_done (memo_at memo_middle) q ≡ true → is_done (memo_at memo_last) q ≡ true)
      → (levels : List (List ℕ)) (pairs : List (List (ℕ × ℕ))) (i more : ℕ) (start middle last : List (Node L)) (t u v w : Count) → more ≤ n * anew_at m below → IsIn i (first_of levels) → is_done (memo_at memo_start) i ≡ false → is_done (memo_at memo_last) i ≡ true
      → Pays (gate_owed m below memo_start rows_start (rest_of levels) pairs + more) (gate_owed m below memo_middle rows_last (rest_of levels) pairs)
      (gate_keys m below memo_start rows_start (rest_of levels) pairs) (gate_keys m below memo_middle rows_last (rest_of levels) pairs) start middle t u
      → v.taken ≤ u.taken + n → v.taken + total_cost middle ≡ u.taken + total_cost last → w.taken ≤ v.taken + 1
      → Pays (gate_owed (suc m) above memo_start rows_start levels pairs + 0) (gate_owed (suc m) above memo_last rows_last levels pairs)
      (gate_keys (suc m) above memo_start rows_start levels pairs) (gate_keys (suc m) above memo_last rows_last levels pairs) start last t w
  place_paid above below m n split memo_start memo_middle memo_last rows_start rows_last more next levels pairs i extra start middle last t u v w few at new now h node grown put =
      let a = h.all in
      let b = h.besides in
      let d = key_paid (suc (n + n * anew_at m below)) (gate_prices m below) (is_done (memo_at memo_start)) (is_done (memo_at memo_middle)) (is_done (memo_at memo_last)) more next levels i
      (owed (row_prices (drop m below)) (is_made rows_start) pairs) (owed (row_prices (drop m below)) (is_made rows_last) pairs)
      (owed (ones (row_prices (drop m below))) (is_made rows_start) pairs) (owed (ones (row_prices (drop m below))) (is_made rows_last) pairs)
      start last t w at new now (omega arith) (omega arith) in
      let e = d.all in
      let f = d.besides in
      subst (λ s. Pays (gate_owed (suc m) s memo_start rows_start levels pairs + 0) (gate_owed (suc m) s memo_last rows_last levels pairs)
      (gate_keys (suc m) s memo_start rows_start levels pairs) (gate_keys (suc m) s memo_last rows_last levels pairs) start last t w) (sym split)
      (record { all = omega arith; besides = omega arith })

  -- both rows of a pair at the target
  pub target_paid : (k : ℕ) → k ≡ 0 → (below : List ℕ) (memo : Memo) (rows_start rows_last : PairMemo) (levels : List (List ℕ)) (pairs : List (List (ℕ × ℕ))) (start last : List (Node L)) (t u : Count)
      → Pays (owed (row_prices below) (is_made rows_start) pairs + anew below) (owed (row_prices below) (is_made rows_last) pairs) (owed (ones (row_prices below)) (is_made rows_start) pairs)
      (owed (ones (row_prices below)) (is_made rows_last) pairs) start last t u
      → Pays (gate_owed k below memo rows_start levels pairs + anew_at k below) (gate_owed k below memo rows_last levels pairs) (gate_keys k below memo rows_start levels pairs) (gate_keys k below memo rows_last levels pairs) start last t u
  unfolding owed
  target_paid k e below memo rows_start rows_last levels pairs start last t u h =
      let a = h.all in
      let b = h.besides in
      subst (λ j. Pays (gate_owed j below memo rows_start levels pairs + anew_at j below) (gate_owed j below memo rows_last levels pairs) (gate_keys j below memo rows_start levels pairs) (gate_keys j below memo rows_last levels pairs) start last t u) (sym e)
      (record { all = omega arith; besides = omega arith })

  -- one call at the level below
  pub side_paid : (k m : ℕ) → k ≡ m → (below : List ℕ) (memo_start memo_last : Memo) (rows_start rows_last : PairMemo) (levels : List (List ℕ)) (pairs : List (List (ℕ × ℕ))) (start last : List (Node L)) (t u : Count)
      → Pays (gate_owed m below memo_start rows_start levels pairs + 0) (gate_owed m below memo_last rows_last levels pairs) (gate_keys m below memo_start rows_start levels pairs) (gate_keys m below memo_last rows_last levels pairs) start last t u
      → Pays (gate_owed k below memo_start rows_start levels pairs + anew_at k below) (gate_owed k below memo_last rows_last levels pairs) (gate_keys k below memo_start rows_start levels pairs) (gate_keys k below memo_last rows_last levels pairs) start last t u
  side_paid k m e below memo_start memo_last rows_start rows_last levels pairs start last t u h =
      let a = h.all in
      subst (λ j. Pays (gate_owed j below memo_start rows_start levels pairs + anew_at j below) (gate_owed j below memo_last rows_last levels pairs) (gate_keys j below memo_start rows_start levels pairs) (gate_keys j below memo_last rows_last levels pairs) start last t u) (sym e)
      (record { all = omega arith; besides = h.besides })

-- what is owed for a place that isn't done, and for a pair at the target
pub place_more : (above below : List ℕ) (m n : ℕ) → above ≡ n ∷ below → (memo : Memo) (rows : PairMemo) (levels : List (List ℕ)) (pairs : List (List (ℕ × ℕ))) (i : ℕ) → IsIn i (first_of levels)
    → is_done (memo_at memo) i ≡ false → gate_owed m below memo rows (rest_of levels) pairs + suc (n + n * anew_at m below) ≤ gate_owed (suc m) above memo rows levels pairs
place_more above below m n split memo rows levels pairs i at new =
    subst (λ s. gate_owed m below memo rows (rest_of levels) pairs + suc (n + n * anew_at m below) ≤ gate_owed (suc m) s memo rows levels pairs) (sym split)
    (let h = owed_more (suc (n + n * anew_at m below)) (gate_prices m below) (is_done (memo_at memo)) levels i at new in omega arith)

pub target_more : (k : ℕ) → k ≡ 0 → (below : List ℕ) (memo : Memo) (rows : PairMemo) (levels : List (List ℕ)) (pairs : List (List (ℕ × ℕ))) → owed (row_prices below) (is_made rows) pairs + anew below ≤ gate_owed k below memo rows levels pairs + anew_at k below
unfolding owed
target_more k e below memo rows levels pairs = subst (λ j. owed (row_prices below) (is_made rows) pairs + anew below ≤ gate_owed j below memo rows levels pairs + anew_at j below) (sym e) (omega arith)

pub side_more : (k m : ℕ) → k ≡ m → (below : List ℕ) (memo : Memo) (rows : PairMemo) (levels : List (List ℕ)) (pairs : List (List (ℕ × ℕ))) → gate_owed m below memo rows levels pairs ≤ gate_owed k below memo rows levels pairs
side_more k m e below memo rows levels pairs = subst (λ j. gate_owed m below memo rows levels pairs ≤ gate_owed j below memo rows levels pairs) (sym e) (omega arith)
