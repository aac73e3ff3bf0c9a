use Rattle.std.proofs.Common.{true, length, sym, ap, subst}
use Rattle.aq_prog.specs.Gates.{flip_gate}
use Rattle.aq_gate_ops.specs.Action.{IsActing}
use Rattle.aq_gate_ops.proofs.GateLemmas.{acting_later}
use Rattle.aq_measure_ops.proofs.ProjectionLemmas.{projecting_later}
use Rattle.aq_symbolic.proofs.kept.World.reset.Goals as goal

pub clear-requires-clause-memo : goal.clear-requires-clause-memo
clear-requires-clause-memo g c = subst (λ n. IsActing g.L.Label.parts g.L.Label.part_count (flip_gate c.args.qubit) n c.project_with.new.store c.args.flip.now) (sym (ap length c.in_ok-half.ensures.projected.shape))
    (acting_later g.L.Label.parts g.L.Label.part_count (flip_gate c.args.qubit) (length c.args.self.now.lsta.shape.items) c.args.store.now c.project_with.new.store c.project_with.ensures.keeps c.args.flip.now c.requires.flip)

pub returns-clause-memo : goal.returns-clause-memo
returns-clause-memo g c = projecting_later g.L.Label.parts c.args.qubit true (length c.args.self.now.lsta.shape.items) c.project_with.new.store c.clear.new.store c.clear.ensures.keeps.table c.project_with.new.projecting c.in_ok-half.ensures.memo

pub returns-clause-flip : goal.returns-clause-flip
returns-clause-flip g c = subst (λ n. IsActing g.L.Label.parts g.L.Label.part_count (flip_gate c.args.qubit) n c.clear.new.store c.clear.new.flip) (ap length c.in_ok-half.ensures.projected.shape) c.in_ok-lsta.ensures.memo
