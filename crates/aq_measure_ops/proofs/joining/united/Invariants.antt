use Rattle.std.proofs.Common.{◌≡◌, take}
use Rattle.aq_store.specs.Words.{united_shape}
use Rattle.aq_measure_ops.proofs.joining.united.Given as goal

abbrev pub invariant-loop-level : goal.invariant-loop-level
invariant-loop-level g l = l.shape.items ≡ united_shape (take l.level l.left) (take l.level l.right)
