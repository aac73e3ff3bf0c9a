-- The number of statements, inner ones included, as a measure.
use Rattle.std.proofs.Common.{◌≡◌, ℕ, zero, suc, ◌+◌, ◌<◌, ◌≤◌, List, [], ◌∷◌, ◌++◌, map, length, drop, take, get_or, refl, ap, ap₂, sym, ◌∙◌, arith, Some}
use Rattle.std.specs.Prelude.{slice_get}
use Rattle.aq_prog.specs.declared.stmt.Guard.{Guard}
use Rattle.aq_prog.specs.declared.stmt.Stmt.{Stmt, fold-Stmt}
use Rattle.aq_prog.specs.declared.stmt.Stmt.TheVariants as stmt
use Rattle.aq_prog.specs.declared.stmt.Stmt.TheOpen.{Stmt-F}
use Rattle.aq_prog.proofs.StmtLaws.{fold-if, fold-while}

abbrev added : List ℕ → ℕ
added [] = 0
added (n ∷ ns) = n + added ns

abbrev weight_step : Stmt-F ℕ → ℕ
weight_step (Stmt-F.Gate gate) = 1
weight_step (Stmt-F.Measure qubit bit) = 1
weight_step (Stmt-F.Reset qubit) = 1
weight_step (Stmt-F.If guard when_true when_false) = 1 + (added when_true + added when_false)
weight_step (Stmt-F.While guard claim body line) = 1 + added body
weight_step (Stmt-F.Assert claim line) = 1
weight_step (Stmt-F.Assume guard) = 1

abbrev pub weight : Stmt → ℕ
weight = fold-Stmt ℕ weight_step

abbrev pub weight_of : List Stmt → ℕ
weight_of [] = 0
weight_of (s ∷ body) = weight s + weight_of body

weight_is : (body : List Stmt) → added (map weight body) ≡ weight_of body
weight_is [] = refl
weight_is (s ∷ body) = ap (λ k. weight s + k) (weight_is body)

pub branch_weight : (s : Stmt) (g : Guard) (a b : List Stmt) → s ≡ stmt.If g a b → weight s ≡ 1 + (weight_of a + weight_of b)
branch_weight s g a b e = ap weight e ∙ fold-if ℕ weight_step g a b ∙ ap₂ (λ x y. 1 + (x + y)) (weight_is a) (weight_is b)

pub loop_weight : (s : Stmt) (g : Guard) (claim : ℕ) (body : List Stmt) (line : ℕ) → s ≡ stmt.While g claim body line → weight s ≡ 1 + weight_of body
loop_weight s g claim body line e = ap weight e ∙ fold-while ℕ weight_step g claim body line ∙ ap (λ x. 1 + x) (weight_is body)

pub weight_append : (a b : List Stmt) → weight_of (a ++ b) ≡ weight_of a + weight_of b
weight_append [] b = omega arith
weight_append (s ∷ a) b = let e = weight_append a b in omega (arith, e)

-- a statement and those behind it
pub weight_at : (i : ℕ) (body : List Stmt) (x : Stmt) → i < length body → x ≡ get_or body i x → weight x + weight_of (drop (i + 1) body) ≤ weight_of body
weight_at i [] x h e = absurd (omega (arith, h))
weight_at zero (s ∷ body) x h e = let same : weight x ≡ weight s = ap weight e in omega (arith, same)
weight_at (suc i) (s ∷ body) x h e =
    let below = weight_at i body x (omega (arith, h)) e in
    let next : suc i + 1 ≡ suc (i + 1) = omega arith in
    let same = ap (λ (k : ℕ). weight_of (drop k (s ∷ body))) next in
    omega (arith, below, same)

-- what is read at a position is what stands there
pub found : (body : List Stmt) (i : ℕ) (s x : Stmt) → slice_get body i ≡ Some s → x ≡ get_or body i x → x ≡ s
found [] i s x e h = absurd (cc e)
found (y ∷ body) zero s x e h = let same : y ≡ s = cc in h ∙ same
found (y ∷ body) (suc i) s x e h = found body i s x e h

pub there : (body : List Stmt) (i : ℕ) (x : Stmt) → i < length body → x ≡ get_or body i x → slice_get body i ≡ Some x
there [] i x h e = absurd (omega (arith, h))
there (y ∷ body) zero x h e = ap Some (sym e)
there (y ∷ body) (suc i) x h e = there body i x (omega (arith, h)) e

pub below_weight : (i : ℕ) (body : List Stmt) (x : Stmt) → i < length body → x ≡ get_or body i x → weight x ≤ weight_of body
below_weight i body x h e = let at = weight_at i body x h e in omega (arith, at)

pub alone_is : (body : List Stmt) (i : ℕ) (s : Stmt) → slice_get body i ≡ Some s → take 1 (drop i body) ≡ s ∷ []
alone_is [] i s e = absurd (cc e)
alone_is (y ∷ body) zero s e = let same : y ≡ s = cc in ap (λ x. x ∷ []) same
alone_is (y ∷ body) (suc i) s e = alone_is body i s e
