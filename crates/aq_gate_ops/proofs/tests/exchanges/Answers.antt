use Rattle.std.proofs.Common.{[], ◌∷◌, sym, subst}
use Rattle.aq_store.specs.Nodes.{HasShape}
use Rattle.aq_store.proofs.TableLemmas.{HasShape-Extends}
use Rattle.aq_gate_ops.proofs.tests.exchanges.Goals as goal

pub above-requires-clause-first_left : goal.above-requires-clause-first_left
above-requires-clause-first_left c = HasShape-Extends c.leaf.new.store c.leaf-2.new.store c.leaf-2.ensures.keeps [] c.in_ok-one.one (c.in_ok-one.ensures.made)

pub above-requires-clause-second_right : goal.above-requires-clause-second_right
above-requires-clause-second_right c = HasShape-Extends c.leaf.new.store c.leaf-2.new.store c.leaf-2.ensures.keeps [] c.in_ok-one.one (c.in_ok-one.ensures.made)

pub above-requires-2-clause-first_left : goal.above-requires-2-clause-first_left
above-requires-2-clause-first_left c = HasShape-Extends c.leaf-2.new.store c.above.new.store c.above.ensures.keeps [] c.in_ok-zero.zero (c.in_ok-zero.ensures.made)

pub above-requires-2-clause-first_right : goal.above-requires-2-clause-first_right
above-requires-2-clause-first_right c = HasShape-Extends c.leaf-2.new.store c.above.new.store c.above.ensures.keeps [] c.in_ok-zero.zero (c.in_ok-zero.ensures.made)

pub above-requires-2-clause-second_left : goal.above-requires-2-clause-second_left
above-requires-2-clause-second_left c = HasShape-Extends c.leaf-2.new.store c.above.new.store c.above.ensures.keeps [] c.in_ok-zero.zero (c.in_ok-zero.ensures.made)

pub above-requires-2-clause-second_right : goal.above-requires-2-clause-second_right
above-requires-2-clause-second_right c = HasShape-Extends c.leaf-2.new.store c.above.new.store c.above.ensures.keeps [] c.in_ok-zero.zero (c.in_ok-zero.ensures.made)

pub above-requires-3-clause-first_left : goal.above-requires-3-clause-first_left
above-requires-3-clause-first_left c = HasShape-Extends c.above.new.store c.above-2.new.store c.above-2.ensures.keeps [] c.in_ok-one.one (HasShape-Extends c.leaf-2.new.store c.above.new.store c.above.ensures.keeps [] c.in_ok-one.one (HasShape-Extends c.leaf.new.store c.leaf-2.new.store c.leaf-2.ensures.keeps [] c.in_ok-one.one (c.in_ok-one.ensures.made)))

pub above-requires-3-clause-first_right : goal.above-requires-3-clause-first_right
above-requires-3-clause-first_right c = HasShape-Extends c.above.new.store c.above-2.new.store c.above-2.ensures.keeps [] c.in_ok-zero.zero (HasShape-Extends c.leaf-2.new.store c.above.new.store c.above.ensures.keeps [] c.in_ok-zero.zero (c.in_ok-zero.ensures.made))

pub above-requires-3-clause-second_left : goal.above-requires-3-clause-second_left
above-requires-3-clause-second_left c = HasShape-Extends c.above.new.store c.above-2.new.store c.above-2.ensures.keeps [] c.in_ok-zero.zero (HasShape-Extends c.leaf-2.new.store c.above.new.store c.above.ensures.keeps [] c.in_ok-zero.zero (c.in_ok-zero.ensures.made))

pub above-requires-3-clause-second_right : goal.above-requires-3-clause-second_right
above-requires-3-clause-second_right c = HasShape-Extends c.above.new.store c.above-2.new.store c.above-2.ensures.keeps [] c.in_ok-zero.zero (HasShape-Extends c.leaf-2.new.store c.above.new.store c.above.ensures.keeps [] c.in_ok-zero.zero (c.in_ok-zero.ensures.made))

pub above-requires-4-clause-first_left : goal.above-requires-4-clause-first_left
above-requires-4-clause-first_left c = HasShape-Extends c.above-2.new.store c.above-3.new.store c.above-3.ensures.keeps [] c.in_ok-zero.zero (HasShape-Extends c.above.new.store c.above-2.new.store c.above-2.ensures.keeps [] c.in_ok-zero.zero (HasShape-Extends c.leaf-2.new.store c.above.new.store c.above.ensures.keeps [] c.in_ok-zero.zero (c.in_ok-zero.ensures.made)))

pub above-requires-4-clause-first_right : goal.above-requires-4-clause-first_right
above-requires-4-clause-first_right c = HasShape-Extends c.above-2.new.store c.above-3.new.store c.above-3.ensures.keeps [] c.in_ok-zero.zero (HasShape-Extends c.above.new.store c.above-2.new.store c.above-2.ensures.keeps [] c.in_ok-zero.zero (HasShape-Extends c.leaf-2.new.store c.above.new.store c.above.ensures.keeps [] c.in_ok-zero.zero (c.in_ok-zero.ensures.made)))

pub above-requires-4-clause-second_left : goal.above-requires-4-clause-second_left
above-requires-4-clause-second_left c = HasShape-Extends c.above-2.new.store c.above-3.new.store c.above-3.ensures.keeps [] c.in_ok-zero.zero (HasShape-Extends c.above.new.store c.above-2.new.store c.above-2.ensures.keeps [] c.in_ok-zero.zero (HasShape-Extends c.leaf-2.new.store c.above.new.store c.above.ensures.keeps [] c.in_ok-zero.zero (c.in_ok-zero.ensures.made)))

pub above-requires-4-clause-second_right : goal.above-requires-4-clause-second_right
above-requires-4-clause-second_right c = HasShape-Extends c.above-2.new.store c.above-3.new.store c.above-3.ensures.keeps [] c.in_ok-one.one (HasShape-Extends c.above.new.store c.above-2.new.store c.above-2.ensures.keeps [] c.in_ok-one.one (HasShape-Extends c.leaf-2.new.store c.above.new.store c.above.ensures.keeps [] c.in_ok-one.one (HasShape-Extends c.leaf.new.store c.leaf-2.new.store c.leaf-2.ensures.keeps [] c.in_ok-one.one (c.in_ok-one.ensures.made))))

pub above-requires-5-clause-first_left : goal.above-requires-5-clause-first_left
above-requires-5-clause-first_left c = HasShape-Extends c.above-3.new.store c.above-4.new.store c.above-4.ensures.keeps (2 ∷ []) c.in_ok-ket.ket (HasShape-Extends c.above-2.new.store c.above-3.new.store c.above-3.ensures.keeps (2 ∷ []) c.in_ok-ket.ket (HasShape-Extends c.above.new.store c.above-2.new.store c.above-2.ensures.keeps (2 ∷ []) c.in_ok-ket.ket (c.in_ok-ket.ensures.made)))

pub above-requires-5-clause-first_right : goal.above-requires-5-clause-first_right
above-requires-5-clause-first_right c = HasShape-Extends c.above-3.new.store c.above-4.new.store c.above-4.ensures.keeps (2 ∷ []) c.in_ok-none.none (HasShape-Extends c.above-2.new.store c.above-3.new.store c.above-3.ensures.keeps (2 ∷ []) c.in_ok-none.none (c.in_ok-none.ensures.made))

pub above-requires-5-clause-second_left : goal.above-requires-5-clause-second_left
above-requires-5-clause-second_left c = HasShape-Extends c.above-3.new.store c.above-4.new.store c.above-4.ensures.keeps (2 ∷ []) c.in_ok-none.none (HasShape-Extends c.above-2.new.store c.above-3.new.store c.above-3.ensures.keeps (2 ∷ []) c.in_ok-none.none (c.in_ok-none.ensures.made))

pub above-requires-5-clause-second_right : goal.above-requires-5-clause-second_right
above-requires-5-clause-second_right c = HasShape-Extends c.above-3.new.store c.above-4.new.store c.above-4.ensures.keeps (2 ∷ []) c.in_ok-ket.ket (HasShape-Extends c.above-2.new.store c.above-3.new.store c.above-3.ensures.keeps (2 ∷ []) c.in_ok-ket.ket (HasShape-Extends c.above.new.store c.above-2.new.store c.above-2.ensures.keeps (2 ∷ []) c.in_ok-ket.ket (c.in_ok-ket.ensures.made)))

pub above-requires-6-clause-first_left : goal.above-requires-6-clause-first_left
above-requires-6-clause-first_left c = HasShape-Extends c.above-4.new.store c.above-5.new.store c.above-5.ensures.keeps (2 ∷ []) c.in_ok-low.low (HasShape-Extends c.above-3.new.store c.above-4.new.store c.above-4.ensures.keeps (2 ∷ []) c.in_ok-low.low (c.in_ok-low.ensures.made))

pub above-requires-6-clause-first_right : goal.above-requires-6-clause-first_right
above-requires-6-clause-first_right c = HasShape-Extends c.above-4.new.store c.above-5.new.store c.above-5.ensures.keeps (2 ∷ []) c.in_ok-high.high (c.in_ok-high.ensures.made)

pub above-requires-6-clause-second_left : goal.above-requires-6-clause-second_left
above-requires-6-clause-second_left c = HasShape-Extends c.above-4.new.store c.above-5.new.store c.above-5.ensures.keeps (2 ∷ []) c.in_ok-high.high (c.in_ok-high.ensures.made)

pub above-requires-6-clause-second_right : goal.above-requires-6-clause-second_right
above-requires-6-clause-second_right c = HasShape-Extends c.above-4.new.store c.above-5.new.store c.above-5.ensures.keeps (2 ∷ []) c.in_ok-low.low (HasShape-Extends c.above-3.new.store c.above-4.new.store c.above-4.ensures.keeps (2 ∷ []) c.in_ok-low.low (c.in_ok-low.ensures.made))

pub apply-requires-clause-fits : goal.apply-requires-clause-fits
apply-requires-clause-fits c = subst (λ u. HasShape c.above-6.new.store u c.in_ok-root.root) (sym c.in_ok-vec.ensures.items) (HasShape-Extends c.above-5.new.store c.above-6.new.store c.above-6.ensures.keeps (2 ∷ 2 ∷ []) c.in_ok-root.root (c.in_ok-root.ensures.made))
