use Rattle.std.proofs.Common.{Some, subst, sym}
use Rattle.aq_words.specs.Commands.{command_of}
use Rattle.aq_words.specs.declared.command.Command.{Command}
use Rattle.aq_top.specs.Commands.{CommandEnd}
use Rattle.aq_top.specs.Ends.{Ends}
use Rattle.aq_top.specs.Reads.{ReadFailedOf}
use Rattle.aq_top.proofs.top.obey.Goals as goal

pub returns-in-Check-clause-ends : goal.returns-in-Check-clause-ends
returns-in-Check-clause-ends g c =
    let told = g.S.Shelf.meaning.holds c.args.shelf.now in
    let failed = ReadFailedOf g.S.Shelf.meaning c.args.shelf.now c.check.new.shelf in
    subst (λ (x : Command). Ends g.K.Sink.meaning c.args.out.now c.check.new.out (CommandEnd told failed (Some (command_of x))) c.check.result) (sym c.in-Check.is) c.check.ensures.ends

pub returns-in-Replay-clause-ends : goal.returns-in-Replay-clause-ends
returns-in-Replay-clause-ends g c =
    let told = g.S.Shelf.meaning.holds c.args.shelf.now in
    let failed = ReadFailedOf g.S.Shelf.meaning c.args.shelf.now c.replay.new.shelf in
    subst (λ (x : Command). Ends g.K.Sink.meaning c.args.out.now c.replay.new.out (CommandEnd told failed (Some (command_of x))) c.replay.result) (sym c.in-Replay.is) c.replay.ensures.ends

pub returns-in-Trial-clause-ends : goal.returns-in-Trial-clause-ends
returns-in-Trial-clause-ends g c =
    let told = g.S.Shelf.meaning.holds c.args.shelf.now in
    let failed = ReadFailedOf g.S.Shelf.meaning c.args.shelf.now c.args.shelf.now in
    subst (λ (x : Command). Ends g.K.Sink.meaning c.args.out.now c.trial.new.out (CommandEnd told failed (Some (command_of x))) c.trial.result) (sym c.in-Trial.is) c.trial.ensures
