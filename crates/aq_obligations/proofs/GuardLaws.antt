-- Bits that guards name.
use Rattle.std.proofs.Common.{◌≡◌, ℕ, suc, ◌+◌, ◌<◌, Bool, true, false, ◌||◌, List, ◌++◌, ◌==◌, length, map, drop, get_or, ap, ap₂, sym, ◌∙◌, drop-cons, add-one}
use Rattle.std.proofs.lemmas.List.Folds.{list_any-append, flat_map-map}
use Rattle.aq_prog.specs.declared.stmt.Guard.{Guard}
use Rattle.aq_prog.specs.declared.stmt.Stmt.{Stmt}
use Rattle.aq_prog.specs.declared.stmt.Stmt.TheVariants as stmt
use Rattle.aq_prog.specs.declared.stmt.Stmt.TheOpen.{Stmt-F}
use Rattle.aq_prog.specs.declared.stmt.Stmt.TheFolds.{fold-roll-Stmt}
use Rattle.aq_obligations.specs.Enough.{all_of, guards_step, guards, conditions}
use Rattle.aq_obligations.specs.declared.bound.BoundCase.{BoundCase}
use Rattle.aq_obligations.specs.Counting.{is_named, guards_of}

pub named_append : (bit : ℕ) (xs ys : List Guard) → is_named bit (xs ++ ys) ≡ (is_named bit xs || is_named bit ys)
named_append bit xs ys = list_any-append (λ (g : Guard). g.bit == bit) xs ys

pub named_all : (bit : ℕ) (body : List Stmt) → is_named bit (all_of (map guards_of body)) ≡ is_named bit (guards body)
named_all bit body = ap (is_named bit) (flat_map-map (λ (gs : List Guard). gs) guards_of body)

pub named_if : (bit : ℕ) (g : Guard) (when_true when_false : List Stmt)
    → is_named bit (guards_of (stmt.If g when_true when_false)) ≡ ((g.bit == bit) || (is_named bit (guards when_true) || is_named bit (guards when_false)))
named_if bit g when_true when_false =
    ap (is_named bit) (ap guards_of (sym (stmt.rolls-If g when_true when_false)) ∙ fold-roll-Stmt (List Guard) guards_step (Stmt-F.If g when_true when_false))
    ∙ ap (λ (b : Bool). (g.bit == bit) || b) (named_append bit (all_of (map guards_of when_true)) (all_of (map guards_of when_false)))
    ∙ ap₂ (λ (x y : Bool). (g.bit == bit) || (x || y)) (named_all bit when_true) (named_all bit when_false)

pub named_while : (bit : ℕ) (g : Guard) (claim : ℕ) (body : List Stmt) (line : ℕ) → is_named bit (guards_of (stmt.While g claim body line)) ≡ ((g.bit == bit) || is_named bit (guards body))
named_while bit g claim body line =
    ap (is_named bit) (ap guards_of (sym (stmt.rolls-While g claim body line)) ∙ fold-roll-Stmt (List Guard) guards_step (Stmt-F.While g claim body line))
    ∙ ap (λ (b : Bool). (g.bit == bit) || b) (named_all bit body)

pub named_from : (bit i : ℕ) (body : List Stmt) (d : Stmt) → i < length body
    → is_named bit (guards (drop i body)) ≡ (is_named bit (guards_of (get_or body i d)) || is_named bit (guards (drop (i + 1) body)))
named_from bit i body d h =
    ap (λ (l : List Stmt). is_named bit (guards l)) (drop-cons body i d h) ∙ named_append bit (guards_of (get_or body i d)) (guards (drop (suc i) body))
    ∙ ap (λ (k : ℕ). is_named bit (guards_of (get_or body i d)) || is_named bit (guards (drop k body))) (sym (add-one i))

pub condition_from : (bit i : ℕ) (cases : List BoundCase) (d : BoundCase) → i < length cases
    → is_named bit (conditions (drop i cases)) ≡ (is_named bit (get_or cases i d).when || is_named bit (conditions (drop (i + 1) cases)))
condition_from bit i cases d h =
    ap (λ (l : List BoundCase). is_named bit (conditions l)) (drop-cons cases i d h) ∙ named_append bit (get_or cases i d).when (conditions (drop (suc i) cases))
    ∙ ap (λ (k : ℕ). is_named bit (get_or cases i d).when || is_named bit (conditions (drop k cases))) (sym (add-one i))

-- what is named first, or later
pub named_first : (whole rest first more : Bool) → rest ≡ whole → rest ≡ (first || more) → first ≡ true → whole ≡ true
named_first whole rest true more e f g = sym e ∙ f
named_first whole rest false more e f g = cc

pub named_later : (whole rest first more : Bool) → rest ≡ whole → rest ≡ (first || more) → first ≡ false → more ≡ whole
named_later whole rest true more e f g = cc
named_later whole rest false more e f g = sym f ∙ e
