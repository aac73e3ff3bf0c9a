use Rattle.std.proofs.Common.{sym}
use Rattle.aq_label.proofs.RatioLemmas.{same-exact, different-not}
use Rattle.aq_label.proofs.WalkLemmas.{mismatch-ratio}
use Rattle.aq_label.proofs.ratio_of_amps.Goals as goal

pub returns-in-Ok-clause-same : goal.returns-in-Ok-clause-same
returns-in-Ok-clause-same c = λ s. (same-exact c.args.left.now c.args.right.now c.ratio.result (sym c.requires) (c.ratio.ensures c.args.left.now c.args.right.now c.in-Ok.ensures) s).proportional

pub returns-in-Ok-clause-different : goal.returns-in-Ok-clause-different
returns-in-Ok-clause-different c = different-not c.args.left.now c.args.right.now c.ratio.result (sym c.requires) (c.ratio.ensures c.args.left.now c.args.right.now c.in-Ok.ensures)

pub returns-in-Err-clause-different : goal.returns-in-Err-clause-different
returns-in-Err-clause-different c = different-not c.args.left.now c.args.right.now c.in-Err.mismatch (sym c.requires) (mismatch-ratio c.args.left.now c.args.right.now _ c.in-Err.ensures)
