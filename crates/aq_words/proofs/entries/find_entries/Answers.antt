use Rattle.std.proofs.Common.{map}
use Rattle.std.specs.String.{string_bytes}
use Rattle.aq_words.proofs.EntryLaws.{found_entries, no_entries}
use Rattle.aq_words.proofs.entries.find_entries.Goals as goal

pub returns-in-Ok-clause-found : goal.returns-in-Ok-clause-found
returns-in-Ok-clause-found c =
    found_entries _ (map string_bytes c.args.words.now) _ c.requires c.in-Ok.ensures.matches c.in-Ok.ensures.kinds

pub returns-in-Err-clause-refused : goal.returns-in-Err-clause-refused
returns-in-Err-clause-refused c = λ usage.
    no_entries _ (map string_bytes c.args.words.now) c.in-Err.error c.requires c.in-Err.ensures.kinds (c.cause_of.ensures usage)
