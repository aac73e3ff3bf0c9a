-- What is owed for pairs below the target.
use Rattle.std.proofs.Common.{◌≡◌, ℕ, suc, ◌+◌, ◌*◌, ◌≤◌, Bool, true, false, List, [], ◌∷◌, slice_get, Some, is_some, cond}
use Rattle.std.proofs.Common.{refl, sym, ap, ap₂, subst, ◌∙◌, arith, ◌&&◌}
use Rattle.std.proofs.Math.Nat.{mul-le-mul_left}
use Rattle.std.proofs.lemmas.Bool.{eq-eqb}
use Rattle.aq_store.specs.Count.{Count}
use Rattle.aq_store.specs.Memos.{pair_memo_at, same_key, PutsPair}
use Rattle.aq_store.specs.Nodes.{HasShape, Extends, pairs_at, total_cost}
use Rattle.aq_store.specs.Owed.{IsIn, first_of, rest_of, missing, owed}
use Rattle.aq_store.specs.declared.memo.PairMemo.{PairMemo}
use Rattle.aq_store.specs.declared.node.Node.{Node}
use Rattle.aq_store.proofs.MeansLemmas.{pairs_at-kept}
use Rattle.aq_store.proofs.OwedLemmas.{missing-one, owed-less, owed-failed}
use Rattle.aq_store.proofs.TableLemmas.{HasShape-Extends}
use Rattle.aq_gate_ops.specs.Accounts.{is_low, rows_cost, anew, row_prices, ones, is_made, Pays, ArePairLevels, HoldKey, HoldTwo, HoldBelow}

pub paid_product : (p m n : ℕ) → m + 1 ≤ n → p * m + p ≤ p * n
paid_product p m n h = let a = mul-le-mul_left p h in let b : p * (m + 1) ≡ p * m + p = omega arith in omega arith

-- ---- prices
both : (a b : Bool) → (a && b) ≡ true → (a ≡ true) × (b ≡ true)
both true b e = (refl, e)
both false b e = cc

pub low_below : (n : ℕ) (below : List ℕ) → is_low (n ∷ below) ≡ true → is_low below ≡ true
low_below n [] e = refl
low_below n (m ∷ []) e = (both _ _ e).1
low_below n (m ∷ k ∷ below) e = cc

-- the cost of a pair without an entry
pub anew_low : (shape : List ℕ) → is_low shape ≡ true → anew shape ≡ rows_cost shape
anew_low shape low = ap (λ b. cond b (rows_cost shape) 0) low

pub prices_low : (n : ℕ) (shape : List ℕ) → is_low (n ∷ shape) ≡ true → row_prices (n ∷ shape) ≡ []
prices_low n shape low = ap (λ b. cond b [] (suc (2 * n + n * (2 * anew shape)) ∷ row_prices shape)) low

none_below : (shape : List ℕ) → is_low shape ≡ true → row_prices shape ≡ []
none_below [] low = refl
none_below (n ∷ shape) low = prices_low n shape low

record ArePricesLow (above below : List ℕ) (n : ℕ) : Type 0 where
  here : row_prices above ≡ []
  under : row_prices below ≡ []
  cost : anew above ≡ 2 * n + n * (2 * anew below)

low_prices : (above below : List ℕ) (n : ℕ) → above ≡ n ∷ below → is_low above ≡ true → ArePricesLow above below n
low_prices above below n split low =
    let first : is_low (n ∷ below) ≡ true = sym (ap is_low split) ∙ low in
    let rest = low_below n below first in
    record {
      here = ap row_prices split ∙ prices_low n below first;
      under = none_below below rest;
      cost = ap anew split ∙ anew_low (n ∷ below) first ∙ ap (λ c. 2 * n + n * (2 * c)) (sym (anew_low below rest));
    }

high_prices : (above below : List ℕ) (n : ℕ) → above ≡ n ∷ below → is_low above ≡ false → row_prices above ≡ suc (2 * n + n * (2 * anew below)) ∷ row_prices below
high_prices above below n split high =
    ap row_prices split ∙ ap (λ b. cond b [] (suc (2 * n + n * (2 * anew below)) ∷ row_prices below)) (sym (ap is_low split) ∙ high)

-- ---- what is paid
module _ {K : Type 0} where
  -- a key is done, after keys of lower levels
  pub owed_key : (p : ℕ) (prices : List ℕ) (before middle after : K → Bool) → ((k : K) → before k ≡ true → middle k ≡ true) → ((k : K) → middle k ≡ true → after k ≡ true)
      → (levels : List (List K)) (k : K) (t v : ℕ) → IsIn k (first_of levels) → before k ≡ false → after k ≡ true
      → v + owed prices middle (rest_of levels) ≤ t + owed prices before (rest_of levels) + p
      → v + owed (p ∷ prices) after levels ≤ t + owed (p ∷ prices) before levels
  unfolding owed
  owed_key p prices before middle after more next [] k t v at new now le = let none = at.at in cc
  owed_key p prices before middle after more next (l ∷ ls) k t v at new now le =
      let one = missing-one before after (λ x h. next x (more x h)) l k at.place at.at new now in
      let a = paid_product p (missing after l) (missing before l) one in
      let b = owed-less prices middle after next ls in
      omega arith

  -- what is owed for a key and all below it
  pub owed_more : (p : ℕ) (prices : List ℕ) (before : K → Bool) (levels : List (List K)) (k : K) → IsIn k (first_of levels) → before k ≡ false
      → owed prices before (rest_of levels) + p ≤ owed (p ∷ prices) before levels
  owed_more p prices before levels k at new =
      let h = owed-failed p prices before levels k 0 (owed prices before (rest_of levels) + p) at new (omega arith) in
      omega arith

  -- the same for both prices, with something else that is owed and known
  pub key_paid : {L : Type 0} (p : ℕ) (prices : List ℕ) (before middle after : K → Bool) → ((k : K) → before k ≡ true → middle k ≡ true) → ((k : K) → middle k ≡ true → after k ≡ true)
      → (levels : List (List K)) (k : K) (rest_before rest_now more_before more_now : ℕ) (start last : List (Node L)) (t v : Count)
      → IsIn k (first_of levels) → before k ≡ false → after k ≡ true
      → v.taken + (owed prices middle (rest_of levels) + rest_now) ≤ t.taken + (owed prices before (rest_of levels) + rest_before) + p
      → v.taken + total_cost start + (owed (ones prices) middle (rest_of levels) + more_now) ≤ t.taken + total_cost last + (owed (ones prices) before (rest_of levels) + more_before) + 1
      → Pays (owed (p ∷ prices) before levels + rest_before) (owed (p ∷ prices) after levels + rest_now)
      (owed (1 ∷ ones prices) before levels + more_before) (owed (1 ∷ ones prices) after levels + more_now) start last t v
  key_paid p prices before middle after more next levels k rest_before rest_now more_before more_now start last t v at new now le few =
      let a = owed_key p prices before middle after more next levels k (t.taken + rest_before) (v.taken + rest_now) at new now (omega arith) in
      let b = owed_key 1 (ones prices) before middle after more next levels k (t.taken + total_cost last + more_before) (v.taken + total_cost start + more_now) at new now (omega arith) in
      record { all = omega arith; besides = omega arith }

module _ {L : Type 0} where
  -- more may be taken than is
  pub pays_more : (a b k m d e : ℕ) (start last : List (Node L)) (t u : Count) → d ≤ e → Pays (a + d) b k m start last t u → Pays (a + e) b k m start last t u
  pays_more a b k m d e start last t u le h =
      let p = h.all in
      record { all = omega arith; besides = h.besides }

  -- one call after another
  pub pays_then : (a b c k m n d e f : ℕ) (start middle last : List (Node L)) (t u v : Count) → d + e ≤ f → Pays (a + d) b k m start middle t u → Pays (b + e) c m n middle last u v
      → Pays (a + f) c k n start last t v
  pays_then a b c k m n d e f start middle last t u v le first second =
      let p = first.all in
      let q = first.besides in
      let r = second.all in
      let s = second.besides in
      record { all = omega arith; besides = omega arith }

  -- and then nodes
  pub pays_nodes : (a b k m d e f : ℕ) (start middle last : List (Node L)) (t u v : Count) → d + e ≤ f → Pays (a + d) b k m start middle t u → v.taken ≤ u.taken + e
      → v.taken + total_cost middle ≤ u.taken + total_cost last → Pays (a + f) b k m start last t v
  pays_nodes a b k m d e f start middle last t u v le first cheap few =
      let p = first.all in
      let q = first.besides in
      record { all = omega arith; besides = omega arith }

  pub pays_nothing : (a e k : ℕ) (table : List (Node L)) (t : Count) → Pays (a + e) a k k table table t t
  pays_nothing a e k table t = record { all = omega arith; besides = omega arith }

  -- both rows of a pair that has an entry are done
  pub row_paid : (above below : List ℕ) (n : ℕ) → above ≡ n ∷ below → is_low above ≡ false → (before middle after : ℕ × ℕ → Bool) → ((k : ℕ × ℕ) → before k ≡ true → middle k ≡ true) → ((k : ℕ × ℕ) → middle k ≡ true → after k ≡ true)
      → (levels : List (List (ℕ × ℕ))) (k : ℕ × ℕ) (start last : List (Node L)) (t u v : Count) → IsIn k (first_of levels) → before k ≡ false → after k ≡ true → v.taken ≤ u.taken + 1
      → Pays (owed (row_prices below) before (rest_of levels) + (2 * n + n * (2 * anew below))) (owed (row_prices below) middle (rest_of levels))
      (owed (ones (row_prices below)) before (rest_of levels)) (owed (ones (row_prices below)) middle (rest_of levels)) start last t u
      → Pays (owed (row_prices above) before levels + anew above) (owed (row_prices above) after levels) (owed (ones (row_prices above)) before levels) (owed (ones (row_prices above)) after levels) start last t v
  row_paid above below n split high before middle after more next levels k start last t u v at new now le h =
      let a = h.all in
      let b = h.besides in
      let d = key_paid (suc (2 * n + n * (2 * anew below))) (row_prices below) before middle after more next levels k 0 0 0 0 start last t v at new now (omega arith) (omega arith) in
      let e = d.all in
      let f = d.besides in
      subst (λ ps. Pays (owed ps before levels + anew above) (owed ps after levels) (owed (ones ps) before levels) (owed (ones ps) after levels) start last t v) (sym (high_prices above below n split high))
      (record { all = omega arith; besides = omega arith })

  -- both rows of a pair that has none are worked out
  pub low_paid : (above below : List ℕ) (n : ℕ) → above ≡ n ∷ below → is_low above ≡ true → (before after : ℕ × ℕ → Bool) (levels : List (List (ℕ × ℕ))) (start last : List (Node L)) (t u : Count)
      → Pays (owed (row_prices below) before (rest_of levels) + (2 * n + n * (2 * anew below))) (owed (row_prices below) after (rest_of levels))
      (owed (ones (row_prices below)) before (rest_of levels)) (owed (ones (row_prices below)) after (rest_of levels)) start last t u
      → Pays (owed (row_prices above) before levels + anew above) (owed (row_prices above) after levels) (owed (ones (row_prices above)) before levels) (owed (ones (row_prices above)) after levels) start last t u
  unfolding owed
  low_paid above below n split low before after levels start last t u h =
      let p = low_prices above below n split low in
      let g = subst (λ ps. Pays (owed ps before (rest_of levels) + (2 * n + n * (2 * anew below))) (owed ps after (rest_of levels)) (owed (ones ps) before (rest_of levels)) (owed (ones ps) after (rest_of levels)) start last t u) p.under h in
      let a = g.all in
      let b = g.besides in
      let e = p.cost in
      subst (λ ps. Pays (owed ps before levels + anew above) (owed ps after levels) (owed (ones ps) before levels) (owed (ones ps) after levels) start last t u) (sym p.here)
      (record { all = omega arith; besides = omega arith })

  -- two leaves
  pub leaves_paid : (shape : List ℕ) → shape ≡ [] → (done : ℕ × ℕ → Bool) (levels : List (List (ℕ × ℕ))) (start last : List (Node L)) (t u : Count) → u.taken ≤ t.taken + 2 → u.taken + total_cost start ≤ t.taken + total_cost last
      → Pays (owed (row_prices shape) done levels + anew shape) (owed (row_prices shape) done levels) (owed (ones (row_prices shape)) done levels) (owed (ones (row_prices shape)) done levels) start last t u
  leaves_paid shape none done levels start last t u two few =
      let e : anew shape ≡ 2 = ap anew none in
      record { all = omega arith; besides = omega arith }

-- what is owed for a pair that has an entry and isn't done
pub row_more : (above below : List ℕ) (n : ℕ) → above ≡ n ∷ below → is_low above ≡ false → (before : ℕ × ℕ → Bool) (levels : List (List (ℕ × ℕ))) (k : ℕ × ℕ) → IsIn k (first_of levels) → before k ≡ false
    → owed (row_prices below) before (rest_of levels) + suc (2 * n + n * (2 * anew below)) ≤ owed (row_prices above) before levels
row_more above below n split high before levels k at new =
    subst (λ ps. owed (row_prices below) before (rest_of levels) + suc (2 * n + n * (2 * anew below)) ≤ owed ps before levels) (sym (high_prices above below n split high))
    (owed_more (suc (2 * n + n * (2 * anew below))) (row_prices below) before levels k at new)

-- and for one that has none
pub low_more : (above below : List ℕ) (n : ℕ) → above ≡ n ∷ below → is_low above ≡ true → (before : ℕ × ℕ → Bool) (levels : List (List (ℕ × ℕ)))
    → owed (row_prices below) before (rest_of levels) + (2 * n + n * (2 * anew below)) ≤ owed (row_prices above) before levels + anew above
unfolding owed
low_more above below n split low before levels =
    let p = low_prices above below n split low in
    let e = p.cost in
    let none : owed (row_prices below) before (rest_of levels) ≡ 0 = ap (λ ps. owed ps before (rest_of levels)) p.under in
    omega arith

-- a pair that was just put is done
pub pair_put : (old new : PairMemo) (key made : ℕ × ℕ) → PutsPair old new key made → is_made new key ≡ true
pair_put old new key made puts =
    let same : same_key key key ≡ true = ap₂ (λ a b. a && b) (eq-eqb key.0 key.0 refl) (eq-eqb key.1 key.1 refl) in
    ap is_some (puts key ∙ ap (λ b. cond b (Some made) (pair_memo_at old key)) same)

-- ---- levels
module _ {L : Type 0} where
  pub ArePairLevels-Extends : (old new : List (Node L)) → Extends old new → (shape : List ℕ) (levels : List (List (ℕ × ℕ))) → ArePairLevels old shape levels → ArePairLevels new shape levels
  unfolding ArePairLevels
  ArePairLevels-Extends old new x [] ls m = tt
  ArePairLevels-Extends old new x (n ∷ shape) [] m = tt
  ArePairLevels-Extends old new x (n ∷ shape) (l ∷ ls) m = (
    record {
      left = λ p at. HasShape-Extends old new x (n ∷ shape) p.0 (m.0.left p at);
      right = λ p at. HasShape-Extends old new x (n ∷ shape) p.1 (m.0.right p at);
      low = λ p a b c at e f. m.0.low p a b c at (ap (λ ps. slice_get ps c) (sym (pairs_at-kept old new x (n ∷ shape) p.0 (m.0.left p at))) ∙ e)
          (ap (λ ps. slice_get ps c) (sym (pairs_at-kept old new x (n ∷ shape) p.1 (m.0.right p at))) ∙ f);
      high = λ p a b c at e f. m.0.high p a b c at (ap (λ ps. slice_get ps c) (sym (pairs_at-kept old new x (n ∷ shape) p.0 (m.0.left p at))) ∙ e)
          (ap (λ ps. slice_get ps c) (sym (pairs_at-kept old new x (n ∷ shape) p.1 (m.0.right p at))) ∙ f);
    },
    ArePairLevels-Extends old new x shape ls m.1,
  )

  below_held : (table : List (Node L)) (n : ℕ) (below : List ℕ) (p : ℕ × ℕ) (levels : List (List (ℕ × ℕ))) → ArePairLevels table (n ∷ below) levels → IsIn p (first_of levels)
      → HoldBelow table below p (rest_of levels)
  unfolding ArePairLevels
  below_held table n below p [] m at = let none = at.at in cc
  below_held table n below p (l ∷ ls) m at = record { each = λ a b c e f. record { closed = m.1; low = m.0.low p a b c at e f; high = m.0.high p a b c at e f } }

  -- levels that hold a key hold what stands below it
  pub key_below : (table : List (Node L)) (above below : List ℕ) (n : ℕ) → above ≡ n ∷ below → (p : ℕ × ℕ) (levels : List (List (ℕ × ℕ))) → HoldKey table above p levels
      → HoldBelow table below p (rest_of levels)
  key_below table above below n split p levels h = below_held table n below p levels (subst (λ s. ArePairLevels table s levels) split h.closed) h.here

  -- the pairs of a choice, in a table that has grown
  pub two_held : (start old : List (Node L)) → Extends start old → (above below : List ℕ) (p l r : ℕ × ℕ) (c : ℕ) (levels : List (List (ℕ × ℕ))) → HasShape start above p.0 → HasShape start above p.1
      → HoldBelow start below p levels → slice_get (pairs_at old p.0) c ≡ Some l → slice_get (pairs_at old p.1) c ≡ Some r → HoldTwo old below l r levels
  two_held start old x above below p l r c levels s t h e f =
      let two = h.each l r c (ap (λ ps. slice_get ps c) (sym (pairs_at-kept start old x above p.0 s)) ∙ e) (ap (λ ps. slice_get ps c) (sym (pairs_at-kept start old x above p.1 t)) ∙ f) in
      record { closed = ArePairLevels-Extends start old x below levels two.closed; low = two.low; high = two.high }
