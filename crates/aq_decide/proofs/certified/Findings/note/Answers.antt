use Rattle.std.proofs.Common.{rules, refl}
use Rattle.aq_decide.proofs.certified.Findings.note.Goals as goal

pub returns : goal.returns
returns c = (
  record { left = c.in_ok-copy_of.field-0; goals = c.in_ok-copy_all.field-0; cert = c.in-Ok-Ok.cert; price = c.args.price },
  c.in_ok-push.ensures.ok,
  c.in_ok-copy_of.ensures,
  c.in_ok-copy_all.ensures,
  search rules,
  refl,
)
