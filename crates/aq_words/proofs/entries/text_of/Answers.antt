use Rattle.std.proofs.Common.{rules, ◌∙◌, sym, Some, None}
use Rattle.clap.specs.Words.{found_of}
use Rattle.aq_words.proofs.EntryLaws.{text_in_rows}
use Rattle.aq_words.proofs.entries.text_of.Goals as goal

pub returns-in_ok-copy-in-Some : goal.returns-in_ok-copy-in-Some
returns-in_ok-copy-in-Some c =
    c.in_ok-copy-in-Some.ensures.ok ∙ sym (text_in_rows (found_of c.args.matches.now) c.args.id.now (Some c.in-Some.text.now) (search rules))

pub returns-in-None : goal.returns-in-None
returns-in-None c = c.new.ensures.bytes ∙ sym (text_in_rows (found_of c.args.matches.now) c.args.id.now None (search rules))
