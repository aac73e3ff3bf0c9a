use Rattle.std.proofs.Common.{◌∙◌, ap, not, ◌++◌, ◌∷◌, [], List, Ok, sym}
use Rattle.aq_sets.specs.declared.sets.Term.{Term}
use Rattle.aq_set_read.proofs.BracketLaws.{new_index, term_repeated, term_new}
use Rattle.aq_set_read.proofs.brackets.Terms.with.Goals as goal

pub returns-then-not-is_new : goal.returns-then-not-is_new
returns-then-not-is_new c =
    let e = new_index c.in-Ok.is_new c.self.inside.indices.keys c.self.inside.list c.args.self c.args.term.index c.in-Ok.ensures.added c.self.invariant c.self.view_is in
    λ _. term_repeated c.args.at c.args.self c.args.term (e ∙ ap not c.if-not-is_new.true)

pub returns : goal.returns
returns c =
    let e = new_index c.in-Ok.is_new c.self.inside.indices.keys c.self.inside.list c.args.self c.args.term.index c.in-Ok.ensures.added c.self.invariant c.self.view_is in
    term_new c.args.at c.args.self c.args.term (e ∙ ap not c.if-not-is_new.false)
    ∙ sym (ap Ok c.in_ok-push.ensures.ok ∙ ap (λ (ts : List Term). Ok (ts ++ c.args.term ∷ [])) c.self.view_is)
