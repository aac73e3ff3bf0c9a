use Rattle.aq_top.proofs.EndsLemmas.{command_ends, memory_ends, usage_ends}
use Rattle.aq_top.proofs.top.answer.Goals as goal

pub returns-in-Ok-clause-ends : goal.returns-in-Ok-clause-ends
returns-in-Ok-clause-ends g c = command_ends _ _ _ _ _ _ _ _ c.in-Ok.ensures.command c.obey.ensures.ends

pub returns-in-Err-Usage-clause-ends : goal.returns-in-Err-Usage-clause-ends
returns-in-Err-Usage-clause-ends g c = usage_ends _ _ _ _ _ _ _ c.in-Err-Usage.field-0 c.in-Err-Usage.field-0-is c.in-Err-Usage.ensures.command c.say_usage.ensures

pub returns-in-Err-Memory-clause-ends : goal.returns-in-Err-Memory-clause-ends
returns-in-Err-Memory-clause-ends g c = memory_ends _ _ _ _ _ _ _ c.say_memory.ensures
