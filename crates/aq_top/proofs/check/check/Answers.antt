use Rattle.aq_top.specs.Reads.{ReadFailedOf}
use Rattle.aq_top.proofs.EndsLemmas.{Ends-more, loaded_end, refused_end}
use Rattle.aq_top.proofs.check.check.Goals as goal

pub returns-in-Ok-clause-ends : goal.returns-in-Ok-clause-ends
returns-in-Ok-clause-ends g c =
    let failed = ReadFailedOf g.S.Shelf.meaning c.args.shelf.now c.load.new.shelf in
    loaded_end _ _ _ _ failed _ _ _ _ _ c.worlds.ensures.decide c.in-Ok.ensures.read c.say_report.ensures

pub returns-in-Err-clause-ends : goal.returns-in-Err-clause-ends
returns-in-Err-clause-ends g c =
    let failed = ReadFailedOf g.S.Shelf.meaning c.args.shelf.now c.load.new.shelf in
    Ends-more _ _ _ _ _ _ (refused_end _ failed _ _ c.in-Err.ensures.cause) c.say_refusal.ensures
