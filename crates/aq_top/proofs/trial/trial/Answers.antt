use Rattle.aq_top.proofs.EndsLemmas.{Ends-more, trial_end, untried_end}
use Rattle.aq_top.proofs.trial.trial.Goals as goal

pub returns-in-Ok : goal.returns-in-Ok
returns-in-Ok g c = trial_end _ _ _ _ _ _ _ _ _ c.worlds.ensures.decide c.in-Ok.ensures.read c.count_verdicts.ensures c.say_trial.ensures

pub returns-in-Err : goal.returns-in-Err
returns-in-Err g c = Ends-more _ _ _ _ _ _ (untried_end _ _ c.in-Err.ensures.cause) c.say_refusal.ensures
