use Rattle.std.proofs.Common.{length}
use Rattle.aq_decide.proofs.reading.+add_entries.Given as goal

-- what is left of the word
abbrev pub decreases-add_entries : goal.decreases-add_entries
decreases-add_entries l = length l.word.now
