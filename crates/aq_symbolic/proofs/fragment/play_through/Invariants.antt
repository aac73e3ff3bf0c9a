use Rattle.std.proofs.Common.{length, take}
use Rattle.aq_symbolic.specs.Moves.{of_body}
use Rattle.aq_symbolic.specs.Playing.{Collects}
use Rattle.aq_symbolic.specs.Steps.{Keeps}
use Rattle.aq_symbolic.proofs.fragment.play_through.Given as goal

abbrev pub invariant-loop-world : goal.invariant-loop-world
invariant-loop-world g l = record {
  keeps : Keeps l.fn.store l.store l.fn.steps l.steps;
  made : Collects g.L.Label.parts g.L.Label.part_count (of_body l.body) l.fn.store l.store l.fn.steps l.steps l.fn.worlds.items (take (length l.yielded) l.fn.worlds.items) l.list.items;
}
