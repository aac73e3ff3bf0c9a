use Rattle.aq_top.proofs.TrialLemmas.{cause_of_texts}
use Rattle.aq_top.proofs.trial.load_trial.Goals as goal

pub returns-in-Ok-clause-cause : goal.returns-in-Ok-clause-cause
returns-in-Ok-clause-cause c =
    cause_of_texts c.load_texts.result c.args.number _ _ c.in-Ok.ensures.program c.in-Ok.ensures.sets c.load_texts.ensures.cause
