-- The steps of a decision, all together.
use Rattle.std.proofs.Common.{◌≡◌, ℕ, suc, ◌+◌, ◌*◌, ◌^◌, ◌≤◌, List, [], ◌∷◌, length, All, sym, ap, ◌∙◌, arith}
use Rattle.std.specs.List.{sum_by}
use Rattle.std.proofs.Math.Nat.{mul-le-mul_right}
use Rattle.std.proofs.lemmas.List.Elements.{All-head, All-tail}
use Rattle.std.proofs.lemmas.List.Sums.{sum_by-cons}
use Rattle.aq_prog.specs.declared.program.Program.{Program}
use Rattle.aq_sets.specs.Sizes.{size_of, words}
use Rattle.aq_sets.specs.declared.sets.Sets.{Sets}
use Rattle.aq_obligations.specs.Enough.{enough, mentioned_bits, outcomes, statements, weight_of, words_of}
use Rattle.aq_obligations.specs.declared.bound.BoundCase.{BoundCase}
use Rattle.aq_obligations.specs.declared.bound.Obligation.{Obligation}
use Rattle.aq_set_build.specs.Budgets.{build_budget}
use Rattle.aq_decide.specs.Budgets.{build_all, goal_words_of, judge_budget, play_all, play_budget, prices, spread_all, spread_weight}
use Rattle.aq_symbolic.specs.declared.kept.World.{World}

abbrev pub HasLevels : Program → Sets → BoundCase → Type 0
HasLevels p s c = length (size_of s.exprs c.set).shape ≡ p.qubits

product_four : (a b c d : ℕ) → c ≡ d → a * (b * c) ≡ d * (a * b)
product_four a b c d e = ap (λ x. a * (b * x)) e ∙ (omega arith)

build_one : (p : Program) (s : Sets) (c : BoundCase) → HasLevels p s c → build_budget s.exprs c.set ≡ 8 * (2 ^ suc p.qubits * weight_of s c)
build_one p s c levels =
    let shape = (size_of s.exprs c.set).shape in
    let e : length shape + 1 ≡ suc p.qubits = omega (arith, levels) in
    ap (λ n. 8 * n) (product_four (size_of s.exprs c.set).nodes (words shape) (2 ^ (length shape + 1)) (2 ^ suc p.qubits) (ap (λ n. 2 ^ n) e))

build_sum : (p : Program) (s : Sets) (cases : List BoundCase) → All (HasLevels p s) cases → build_all s cases ≡ 8 * (2 ^ suc p.qubits * sum_by (weight_of s) cases)
build_sum p s [] all = omega arith
build_sum p s (c ∷ cases) all =
    let a = sum_by-cons (λ (d : BoundCase). build_budget s.exprs d.set) c cases in
    let b = sum_by-cons (weight_of s) c cases in
    let here = build_one p s c (All-head (HasLevels p s) c cases all) in
    let rest = build_sum p s cases (All-tail (HasLevels p s) c cases all) in
    let d = ap (λ n. 8 * (2 ^ suc p.qubits * n)) b in
    omega (arith, a, here, rest, d)

spread_sum : (p : Program) (s : Sets) (o : Obligation) (cases : List BoundCase) → spread_all p s o cases ≡ 2 ^ (outcomes o.fragment + mentioned_bits p o) * sum_by (words_of s) cases * 2 ^ suc p.qubits
spread_sum p s o [] = omega arith
spread_sum p s o (c ∷ cases) =
    let k = 2 ^ (outcomes o.fragment + mentioned_bits p o) in
    let a = sum_by-cons (spread_weight p s o) c cases in
    let b = ap (λ n. 2 ^ (outcomes o.fragment + mentioned_bits p o) * n * 2 ^ suc p.qubits) (sum_by-cons (words_of s) c cases) in
    let rest = spread_sum p s o cases in
    omega (arith, a, b, rest)

play_sum : (p : Program) (s : Sets) (o : Obligation) (cases : List BoundCase) → play_all p s o cases ≡ 4 * (statements o.fragment * spread_all p s o cases) + spread_all p s o cases
play_sum p s o [] = omega arith
play_sum p s o (c ∷ cases) =
    let a = sum_by-cons (play_budget p s o) c cases in
    let b = ap (λ n. 4 * (statements o.fragment * n) + n) (sum_by-cons (spread_weight p s o) c cases) in
    let rest = play_sum p s o cases in
    omega (arith, a, b, rest)

-- with T for what all worlds come to
played_and_judged : (T t stm V x y : ℕ) → x ≤ T → y ≡ T * (suc stm + V) → 4 * (stm * T) + T + x * (1 + V) ≤ 8 * y
played_and_judged T t stm V x y le e =
    let a = mul-le-mul_right (1 + V) le in
    let b : T * (suc stm + V) ≡ T * stm + T * (1 + V) = omega arith in
    let c : stm * T ≡ T * stm = omega arith in
    let d : T * (1 + V) ≡ T + T * V = omega arith in
    omega (arith, a, b, c, d, e)

pub all_steps : (p : Program) (s : Sets) (o : Obligation) (ws : List World) → All (HasLevels p s) o.from → All (HasLevels p s) o.goal.cases → prices ws ≤ spread_all p s o o.from
    → build_all s o.goal.cases + build_all s o.from + play_all p s o o.from + judge_budget s o ws ≤ enough p s o
unfolding enough
all_steps p s o ws from goal few =
    let T = spread_all p s o o.from in
    let V = goal_words_of s o in
    let stm = statements o.fragment in
    let M = 2 ^ (outcomes o.fragment + mentioned_bits p o) in
    let N = 2 ^ suc p.qubits in
    let W = sum_by (words_of s) o.from in
    let a = build_sum p s o.from from in
    let b = build_sum p s o.goal.cases goal in
    let c = play_sum p s o o.from in
    let d = spread_sum p s o o.from in
    let e : M * W * N * (suc stm + V) ≡ T * (suc stm + V) = ap (λ n. n * (suc stm + V)) (sym d) in
    let f = played_and_judged T 0 stm V (prices ws) (M * W * N * (suc stm + V)) few e in
    let g : N * (sum_by (weight_of s) o.from + sum_by (weight_of s) o.goal.cases) ≡ N * sum_by (weight_of s) o.from + N * sum_by (weight_of s) o.goal.cases = omega arith in
    omega (arith, a, b, c, f, g)
