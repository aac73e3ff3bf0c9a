use Rattle.std.proofs.Common.{◌≡◌, ◌+◌, drop}
use Rattle.aq_lex.specs.Notes.{uncommented_len}
use Rattle.aq_lex.proofs.note.uncommented_len.Given as goal

abbrev pub invariant-loop-i : goal.invariant-loop-i
invariant-loop-i l = uncommented_len l.bytes ≡ l.i + uncommented_len (drop l.i l.bytes)
