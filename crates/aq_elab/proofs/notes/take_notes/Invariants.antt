use Rattle.std.proofs.Common.{◌≡◌, None, drop}
use Rattle.aq_elab.specs.Behind.{all_noted}
use Rattle.aq_elab.proofs.notes.take_notes.Given as goal

abbrev pub invariant-loop-note : goal.invariant-loop-note
invariant-loop-note l = all_noted l.is_loop (drop l.note-index l.notes) (record { known = l.scope; statements = l.out; invariant = l.invariant' }) ≡ all_noted l.is_loop l.notes (record { known = l.fn.scope; statements = l.fn.out; invariant = None })
