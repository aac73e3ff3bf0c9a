use Rattle.std.proofs.Common.{◌||◌, ◌==◌, Bool, List, sym, ◌∙◌, ap}
use Rattle.aq_prog.specs.declared.stmt.Stmt.{Stmt}
use Rattle.aq_obligations.specs.Enough.{guards}
use Rattle.aq_obligations.specs.Counting.{is_named, guards_of}
use Rattle.aq_obligations.proofs.GuardLaws.{named_if, named_while}
use Rattle.aq_obligations.proofs.steps.+guarded.Goals as goal

pub is_guard-returns-in-If : goal.is_guard-returns-in-If
is_guard-returns-in-If t c =
    let bit = c.args.bit in
    let g = c.in-If.guard in
    let first = c.is_guarded.ensures ∙ ap (λ (l : List Stmt). is_named bit (guards l)) c.as_slice.ensures in
    let second = c.is_guarded-in-If.ensures ∙ ap (λ (l : List Stmt). is_named bit (guards l)) c.as_slice-in-If.ensures in
    c.either.ensures ∙ ap (λ (b : Bool). (g.bit == bit) || b) (c.either-inside.ensures ∙ (λ k. first k || second k)) ∙ sym (named_if bit g c.in-If.yes c.in-If.no)
    ∙ ap (λ (s : Stmt). is_named bit (guards_of s)) (sym c.in-If.is)

pub is_guard-returns-in-While : goal.is_guard-returns-in-While
is_guard-returns-in-While t c =
    let bit = c.args.bit in
    let g = c.in-While.guard in
    let inside = c.is_guarded-in-While.ensures ∙ ap (λ (l : List Stmt). is_named bit (guards l)) c.as_slice-in-While.ensures in
    c.either-in-While.ensures ∙ ap (λ (b : Bool). (g.bit == bit) || b) inside ∙ sym (named_while bit g c.in-While.claim c.in-While.body c.in-While.line)
    ∙ ap (λ (s : Stmt). is_named bit (guards_of s)) (sym c.in-While.is)
