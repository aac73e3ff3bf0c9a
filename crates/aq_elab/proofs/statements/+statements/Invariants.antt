use Rattle.std.proofs.Common.{◌≡◌, drop}
use Rattle.aq_elab.specs.Behind.{behind}
use Rattle.aq_elab.specs.Statements.{statements_of}
use Rattle.aq_elab.proofs.statements.+statements.Given as goal

abbrev pub invariant-body-loop-item : goal.invariant-body-loop-item
invariant-body-loop-item l = behind l.out (statements_of l.inside (drop l.item-index l.items) l.scope) ≡ behind l.fn.out (statements_of l.inside l.items l.fn.scope)
