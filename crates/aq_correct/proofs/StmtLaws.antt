-- Induction over statements without a cut.
use Rattle.std.proofs.Common.{◌≡◌, ℕ, Bool, true, false, ◌||◌, List, [], ◌∷◌, map, Option, refl, sym, ap, ◌∙◌}
use Rattle.std.specs.List.{AllByRecursion, list_any}
use Rattle.aq_prog.specs.declared.gate.Gate.{Gate}
use Rattle.aq_prog.specs.declared.stmt.Guard.{Guard}
use Rattle.aq_prog.specs.declared.stmt.Stmt.{Stmt}
use Rattle.aq_prog.specs.declared.stmt.Stmt.TheVariants as stmt
pub use Rattle.aq_prog.proofs.StmtLaws.{fold-gate, fold-measure, fold-reset, fold-if, fold-while, fold-assert, fold-assume, para-gate, para-measure, para-reset, para-if, para-while, para-assert, para-assume, IsInductive, by_induction, all_by_induction}
use Rattle.aq_prog.specs.Cuts.{has_cut, cut_step}

or_false : (a b : Bool) → (a || b) ≡ false → (a ≡ false) × (b ≡ false)
or_false true b e = cc
or_false false b e = (refl, e)

any_map : (body : List Stmt) → list_any (λ (b : Bool). b) (map has_cut body) ≡ list_any has_cut body
any_map [] = refl
any_map (s ∷ body) = ap (λ (b : Bool). has_cut s || b) (any_map body)

pub uncut_head : (s : Stmt) (body : List Stmt) → list_any has_cut (s ∷ body) ≡ false → has_cut s ≡ false
uncut_head s body e = (or_false (has_cut s) (list_any has_cut body) e).0

pub uncut_tail : (s : Stmt) (body : List Stmt) → list_any has_cut (s ∷ body) ≡ false → list_any has_cut body ≡ false
uncut_tail s body e = (or_false (has_cut s) (list_any has_cut body) e).1

-- the branches of a statement without a cut are without one
pub uncut-if : (g : Guard) (yes_body no_body : List Stmt) → has_cut (stmt.If g yes_body no_body) ≡ false → (list_any has_cut yes_body ≡ false) × (list_any has_cut no_body ≡ false)
uncut-if g yes_body no_body e =
    let b = or_false (list_any (λ (b : Bool). b) (map has_cut yes_body)) (list_any (λ (b : Bool). b) (map has_cut no_body)) (sym (fold-if Bool cut_step g yes_body no_body) ∙ e) in
    (sym (any_map yes_body) ∙ b.0, sym (any_map no_body) ∙ b.1)

pub cut-if : (g : Guard) (yes_body no_body : List Stmt) → has_cut (stmt.If g yes_body no_body) ≡ (list_any has_cut yes_body || list_any has_cut no_body)
cut-if g yes_body no_body = fold-if Bool cut_step g yes_body no_body ∙ (λ i. any_map yes_body i || any_map no_body i)

pub record IsInductiveUncut (P : Stmt → Type 0) : Type 0 where
  pub gate : (g : Gate) → P (stmt.Gate g)
  pub measure : (qubit : ℕ) (bit : Option ℕ) → P (stmt.Measure qubit bit)
  pub reset : (qubit : ℕ) → P (stmt.Reset qubit)
  pub branch : (g : Guard) (yes_body no_body : List Stmt) → AllByRecursion P yes_body → AllByRecursion P no_body → P (stmt.If g yes_body no_body)
  pub assuming : (g : Guard) → P (stmt.Assume g)

module _ (P : Stmt → Type 0) where
  abbrev Uncut : Stmt → Type 0
  Uncut s = has_cut s ≡ false → P s

  pub all_uncut : (body : List Stmt) → AllByRecursion Uncut body → list_any has_cut body ≡ false → AllByRecursion P body
  all_uncut [] h e = tt
  all_uncut (s ∷ body) h e = (h.0 (uncut_head s body e), all_uncut body h.1 (uncut_tail s body e))

  pub by_uncut_induction : IsInductiveUncut P → (s : Stmt) → has_cut s ≡ false → P s
  by_uncut_induction i = by_induction Uncut (record {
    gate = λ g _. i.gate g;
    measure = λ qubit bit _. i.measure qubit bit;
    reset = λ qubit _. i.reset qubit;
    branch = λ g yes_body no_body h k e.
        let b = uncut-if g yes_body no_body e in
        i.branch g yes_body no_body (all_uncut yes_body h b.0) (all_uncut no_body k b.1);
    loop = λ g claim body line h e. absurd (true_false (sym (fold-while Bool cut_step g claim body line) ∙ e));
    claim = λ claim line e. absurd (true_false (sym (fold-assert Bool cut_step claim line) ∙ e));
    assuming = λ g _. i.assuming g;
  })
    where
      true_false : ◌≡◌ {A = Bool} true false → ⊥
      true_false e = cc

  pub all_by_uncut_induction : IsInductiveUncut P → (body : List Stmt) → list_any has_cut body ≡ false → AllByRecursion P body
  all_by_uncut_induction i [] e = tt
  all_by_uncut_induction i (s ∷ body) e = (by_uncut_induction i s (uncut_head s body e), all_by_uncut_induction i body (uncut_tail s body e))
