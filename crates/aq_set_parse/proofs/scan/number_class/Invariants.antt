use Rattle.std.proofs.Common.{◌≡◌, ◌<◌, ◌^◌, drop}
use Rattle.aq_lex.specs.Bytes.{value, value_after}
use Rattle.aq_set_parse.proofs.scan.number_class.Given as goal

abbrev pub invariant-loop-digit : goal.invariant-loop-digit
invariant-loop-digit l = (value_after l.number (drop l.digit-index l.digits) ≡ value l.digits) × (l.number < 2 ^ 127)
