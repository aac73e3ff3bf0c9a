use Rattle.std.proofs.Common.{[], ◌∷◌, sym, subst}
use Rattle.aq_store.specs.Nodes.{HasShape}
use Rattle.aq_store.proofs.TableLemmas.{HasShape-Extends}
use Rattle.aq_gate_ops.proofs.tests.turns.Goals as goal

pub above-requires-clause-first_left : goal.above-requires-clause-first_left
above-requires-clause-first_left c = HasShape-Extends c.leaf-2.new.store c.leaf-3.new.store c.leaf-3.ensures.keeps [] c.in_ok-one.one (HasShape-Extends c.leaf.new.store c.leaf-2.new.store c.leaf-2.ensures.keeps [] c.in_ok-one.one (c.in_ok-one.ensures.made))

pub above-requires-clause-first_right : goal.above-requires-clause-first_right
above-requires-clause-first_right c = HasShape-Extends c.leaf-2.new.store c.leaf-3.new.store c.leaf-3.ensures.keeps [] c.in_ok-one.one (HasShape-Extends c.leaf.new.store c.leaf-2.new.store c.leaf-2.ensures.keeps [] c.in_ok-one.one (c.in_ok-one.ensures.made))

pub above-requires-clause-second_left : goal.above-requires-clause-second_left
above-requires-clause-second_left c = HasShape-Extends c.leaf-2.new.store c.leaf-3.new.store c.leaf-3.ensures.keeps [] c.in_ok-zero.zero (c.in_ok-zero.ensures.made)

pub above-requires-clause-second_right : goal.above-requires-clause-second_right
above-requires-clause-second_right c = HasShape-Extends c.leaf-2.new.store c.leaf-3.new.store c.leaf-3.ensures.keeps [] c.in_ok-one.one (HasShape-Extends c.leaf.new.store c.leaf-2.new.store c.leaf-2.ensures.keeps [] c.in_ok-one.one (c.in_ok-one.ensures.made))

pub above-requires-2-clause-first_left : goal.above-requires-2-clause-first_left
above-requires-2-clause-first_left c = HasShape-Extends c.leaf-3.new.store c.above.new.store c.above.ensures.keeps [] c.in_ok-one.one (HasShape-Extends c.leaf-2.new.store c.leaf-3.new.store c.leaf-3.ensures.keeps [] c.in_ok-one.one (HasShape-Extends c.leaf.new.store c.leaf-2.new.store c.leaf-2.ensures.keeps [] c.in_ok-one.one (c.in_ok-one.ensures.made)))

pub above-requires-2-clause-first_right : goal.above-requires-2-clause-first_right
above-requires-2-clause-first_right c = HasShape-Extends c.leaf-3.new.store c.above.new.store c.above.ensures.keeps [] c.in_ok-minus.minus (c.in_ok-minus.ensures.made)

pub above-requires-2-clause-second_left : goal.above-requires-2-clause-second_left
above-requires-2-clause-second_left c = HasShape-Extends c.leaf-3.new.store c.above.new.store c.above.ensures.keeps [] c.in_ok-zero.zero (HasShape-Extends c.leaf-2.new.store c.leaf-3.new.store c.leaf-3.ensures.keeps [] c.in_ok-zero.zero (c.in_ok-zero.ensures.made))

pub above-requires-2-clause-second_right : goal.above-requires-2-clause-second_right
above-requires-2-clause-second_right c = HasShape-Extends c.leaf-3.new.store c.above.new.store c.above.ensures.keeps [] c.in_ok-minus.minus (c.in_ok-minus.ensures.made)

pub apply-requires-clause-fits : goal.apply-requires-clause-fits
apply-requires-clause-fits c = subst (λ u. HasShape c.above-2.new.store u c.in_ok-root.root) (sym c.in_ok-vec.ensures.items) (HasShape-Extends c.above.new.store c.above-2.new.store c.above-2.ensures.keeps (2 ∷ []) c.in_ok-root.root (c.in_ok-root.ensures.made))
