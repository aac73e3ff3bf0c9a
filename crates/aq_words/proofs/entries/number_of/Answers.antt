use Rattle.std.proofs.Common.{rules, sym}
use Rattle.std.specs.Str.Parse.{ExplainsUnsignedError, HasUnsignedDigitsIfOk, ParsesUnsigned}
use Rattle.clap.specs.Words.{found_of}
use Rattle.aq_words.proofs.EntryLaws.{number_none, number_out, number_some}
use Rattle.aq_words.proofs.entries.number_of.Goals as goal

pub returns-then-number-most-clause-value : goal.returns-then-number-most-clause-value
returns-then-number-most-clause-value c = sym (number_some _
    (λ bs r. ParsesUnsigned 64 10 bs r × ExplainsUnsignedError 10 bs r × HasUnsignedDigitsIfOk bs r)
    (found_of c.args.matches.now) c.args.id.now c.args.most c.in-Some.number (λ u x g. g.0)
    (c.in-Some.ensures.none, c.in-Some.ensures.value) c.if-number-ge1.true c.if-number-most.true)

pub returns-else-number-ge1-clause-value : goal.returns-else-number-ge1-clause-value
returns-else-number-ge1-clause-value c = sym (number_out _
    (λ bs r. ParsesUnsigned 64 10 bs r × ExplainsUnsignedError 10 bs r × HasUnsignedDigitsIfOk bs r)
    (found_of c.args.matches.now) c.args.id.now c.args.most c.in-Some.number (λ u x g. g.0)
    (c.in-Some.ensures.none, c.in-Some.ensures.value) (search rules))

pub returns-in-None-clause-value : goal.returns-in-None-clause-value
returns-in-None-clause-value c = sym (number_none _
    (λ bs r. ParsesUnsigned 64 10 bs r × ExplainsUnsignedError 10 bs r × HasUnsignedDigitsIfOk bs r)
    (found_of c.args.matches.now) c.args.id.now c.args.most (λ u x g. g.0)
    (c.in-None.ensures.none, c.in-None.ensures.value))
