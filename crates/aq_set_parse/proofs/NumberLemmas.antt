-- A number that is read digit by digit.
use Rattle.std.proofs.Common.{◌≡◌, ℕ, ◌+◌, ◌-◌, ◌*◌, ◌^◌, ◌<◌, ◌≤◌, List, length, drop, get_or, ap, arith}
use Rattle.std.proofs.lemmas.List.{drop_more}
use Rattle.std.proofs.lemmas.Bool.Decides.{nat_tests}
use Rattle.aq_lex.specs.Bytes.{value, value_after}
use Rattle.aq_lex.proofs.Runs.{value_after-ge}
use Rattle.aq_set_parse.specs.Fronts.{number_class}
use Rattle.aq_set_parse.specs.declared.token.SetClass.TheVariants as «class»

pub class_long : (n : ℕ) → 2 ^ 127 ≤ n → «class».LongNumber ≡ number_class n
class_long n h = grind (arith, nat_tests)

pub too_long : (n : ℕ) (bs : List ℕ) (i : ℕ) → value_after n (drop i bs) ≡ value bs → i < length bs → 2 ^ 127 ≤ 10 * n + (get_or bs i 0 - 48) → «class».LongNumber ≡ number_class (value bs)
too_long n bs i e l h =
    let at : value_after n (drop i bs) ≡ value_after (10 * n + (get_or bs i 0 - 48)) (drop (i + 1) bs) = ap (value_after n) (drop_more bs i 0 l) in
    let more = value_after-ge (10 * n + (get_or bs i 0 - 48)) (drop (i + 1) bs) in
    class_long (value bs) (omega arith)
