use Rattle.std.proofs.Common.{◌+◌, ◌*◌}
use Rattle.aq_set_build.proofs.bracket.+bracket.Given as goal

abbrev pub decreases-kets_at : goal.decreases-kets_at
decreases-kets_at l = 2 * l.height

abbrev pub decreases-side_at : goal.decreases-side_at
decreases-side_at l = 2 * l.height + 1
