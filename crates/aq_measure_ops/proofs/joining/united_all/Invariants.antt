use Rattle.std.proofs.Common.{◌≡◌, take, map}
use Rattle.aq_store.specs.Words.{united_shapes}
use Rattle.aq_measure_ops.specs.Joining.{shape_of}
use Rattle.aq_measure_ops.proofs.joining.united_all.Given as goal

abbrev pub invariant-loop-part : goal.invariant-loop-part
invariant-loop-part g l = record {
  shape : l.shape.items ≡ united_shapes (map shape_of (take l.part-index l.parts));
  still : l.steps ≡ l.fn.steps;
}
