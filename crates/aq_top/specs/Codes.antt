-- Exit statuses.
use Rattle.std.specs.Prelude.{ℕ}
use Rattle.aq_top.specs.declared.status.Status.{Status}
use Rattle.aq_top.specs.declared.status.Status.TheVariants as status

abbrev pub code_of : Status → ℕ
code_of status.Good = 0
code_of status.Refuted = 1
code_of status.GaveUp = 2
code_of status.Refused = 3
code_of status.Usage = 4
code_of status.Read = 5
code_of status.Write = 6
code_of status.Memory = 7
