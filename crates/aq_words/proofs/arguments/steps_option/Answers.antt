use Rattle.std.proofs.Common.{rules, ◌≡◌, ◌∙◌, ap, ◌∷◌, ◌++◌, [], ℕ, List, ◌≤◌, ◌<◌, ◌^◌, ◌/◌, ◌%◌, ◌+◌, codes, arith}
use Rattle.std.specs.Fmt.{decimal}
use Rattle.std.proofs.lemmas.Fmt.{decimal_digit, decimal_step}
use Rattle.aq_words.proofs.arguments.steps_option.Goals as goal

-- one digit more
step : (n : ℕ) (front : List ℕ) → 10 ≤ n → n < 2 ^ 64 → decimal (n / 10) ≡ front → decimal n ≡ front ++ ((48 + n % 10) ∷ [])
step n front low high e = decimal_step n low high ∙ ap (λ t. t ++ ((48 + n % 10) ∷ [])) e

default_text : decimal 20000000 ≡ codes "20000000"
default_text =
    step 20000000 (codes "2000000") (omega arith) (omega arith)
    (step 2000000 (codes "200000") (omega arith) (omega arith)
    (step 200000 (codes "20000") (omega arith) (omega arith)
    (step 20000 (codes "2000") (omega arith) (omega arith)
    (step 2000 (codes "200") (omega arith) (omega arith)
    (step 200 (codes "20") (omega arith) (omega arith)
    (step 20 (codes "2") (omega arith) (omega arith) (decimal_digit 2 (omega arith))))))))

pub returns-clause-rule : goal.returns-clause-rule
returns-clause-rule c = rw default_text (search rules)
