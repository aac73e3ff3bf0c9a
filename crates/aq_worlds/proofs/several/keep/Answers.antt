use Rattle.std.proofs.Common.{◌∙◌, sym}
use Rattle.aq_worlds.proofs.SpreadLaws.{kept_none, kept_one}
use Rattle.aq_worlds.proofs.several.keep.Goals as goal

pub returns-then-is_zero : goal.returns-then-is_zero
returns-then-is_zero c = kept_none c.args.world c.args.list.now.items (sym c.is_zero.ensures ∙ c.if-is_zero.true)

pub returns : goal.returns
returns c = c.in_ok-push.ensures.items ∙ kept_one c.args.world c.args.list.now.items (sym c.is_zero.ensures ∙ c.if-is_zero.false)
