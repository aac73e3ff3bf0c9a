use Rattle.aq_top.proofs.ReportLemmas.{refuted_status, given_up_status, good_status}
use Rattle.aq_top.proofs.judging.tally_status.Goals as goal

pub returns-then-tally-gt0 : goal.returns-then-tally-gt0
returns-then-tally-gt0 c = λ vs h. refuted_status c.args.tally vs h c.if-tally-gt0.true

pub returns-then-tally-gt0-2 : goal.returns-then-tally-gt0-2
returns-then-tally-gt0-2 c = λ vs h. given_up_status c.args.tally vs h c.if-tally-gt0.false c.if-tally-gt0-2.true

pub returns-else-tally-gt0-2 : goal.returns-else-tally-gt0-2
returns-else-tally-gt0-2 c = λ vs h. good_status c.args.tally vs h c.if-tally-gt0.false c.if-tally-gt0-2.false
