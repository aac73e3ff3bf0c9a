-- An error that is passed on is the one that came.
use Rattle.std.proofs.Common.{◌≡◌, Result, Ok, Err, IsErr, IsErrAnd, IfErr, subst, sym}
use Rattle.aq_store.specs.declared.store.Stop.{Stop}

pub passed : {T L : Type 0} (P : Stop L → Type 0) (r : Result T (Stop L)) (e : Stop L) → IsErr r × IsErrAnd r (λ found. found ≡ e) → P e → IfErr r P
passed P (Err found) e h k = subst P (sym h.1) k
passed P (Ok x) e h k = absurd h.1
