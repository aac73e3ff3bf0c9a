use Rattle.aq_top.specs.Reads.{ReadFailedOf}
use Rattle.aq_top.proofs.EndsLemmas.{Ends-more, replay_end, unplayed_end}
use Rattle.aq_top.proofs.ReplayLemmas.{halted}
use Rattle.aq_top.proofs.replay.replay.Goals as goal

pub returns-in-Ok-play-clause-ends : goal.returns-in-Ok-play-clause-ends
returns-in-Ok-play-clause-ends g c =
    let failed = ReadFailedOf g.S.Shelf.meaning c.args.shelf.now c.load_start.new.shelf in
    Ends-more _ _ _ _ _ _ (replay_end _ failed _ _ _ _ _ c.in-Ok.ensures.read c.in-Ok-play.ensures) c.say_end.ensures

pub returns-in-Err-play-clause-ends : goal.returns-in-Err-play-clause-ends
returns-in-Err-play-clause-ends g c =
    let failed = ReadFailedOf g.S.Shelf.meaning c.args.shelf.now c.load_start.new.shelf in
    Ends-more _ _ _ _ _ _ (unplayed_end _ failed _ _ (halted _ failed _ _ _ _ _ _ _ c.in-Ok.ensures.read c.in-Err-play.ensures c.stop_name.ensures c.refused_replay.ensures)) c.say_refusal.ensures

pub returns-in-Err-clause-ends : goal.returns-in-Err-clause-ends
returns-in-Err-clause-ends g c =
    let failed = ReadFailedOf g.S.Shelf.meaning c.args.shelf.now c.load_start.new.shelf in
    Ends-more _ _ _ _ _ _ (unplayed_end _ failed _ _ c.in-Err.ensures.cause) c.say_refusal-in-Err.ensures
