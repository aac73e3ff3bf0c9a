-- What is done stays done.
use Rattle.std.proofs.Common.{ℕ, Bool, true, false, IsTrue, Some, is_some, cond, refl, sym, subst}
use Rattle.aq_store.specs.declared.memo.PairMemo.{PairMemo}
use Rattle.aq_store.specs.Memos.{pair_memo_at, same_key, PutsPair, StayDone}

pub stay_done : (old new : PairMemo) (key made : ℕ × ℕ) → PutsPair old new key made → StayDone old new
stay_done old new key made puts q done = subst (λ o. IsTrue (is_some o)) (sym (puts q)) (by (same_key key q))
  where
    by : (b : Bool) → IsTrue (is_some (cond b (Some made) (pair_memo_at old q)))
    by true = refl
    by false = done
