use Rattle.std.proofs.Common.{◌≡◌, ℕ, [], ◌∷◌, length, sym, ◌∙◌}
use Rattle.aq_store.proofs.TableLemmas.{HasShape-Extends, Extends-trans}
use Rattle.aq_measure_ops.proofs.PaddingLemmas.{wider-length}
use Rattle.aq_measure_ops.proofs.tests.unites.Goals as goal

pub union-requires-clause-left : goal.union-requires-clause-left
union-requires-clause-left c = HasShape-Extends c.drawn.new.store c.drawn-2.new.store c.drawn-2.ensures.keeps c.in_ok-left.left.shape.items c.in_ok-left.left.root c.in_ok-left.ensures.made

pub union-requires-clause-same : goal.union-requires-clause-same
union-requires-clause-same c =
    wider-length c.in_ok-left.left.shape.items (5 ∷ 6 ∷ 7 ∷ []) c.in_ok-left.ensures.wider ∙ sym (wider-length c.in_ok-right.right.shape.items (5 ∷ 6 ∷ 7 ∷ []) c.in_ok-right.ensures.wider)

pub has_part-requires-clause-part : goal.has_part-requires-clause-part
has_part-requires-clause-part c = HasShape-Extends c.drawn.new.store c.union.new.store (Extends-trans _ _ _ c.drawn-2.ensures.keeps c.union.ensures.keeps)
    c.in_ok-left.left.shape.items c.in_ok-left.left.root c.in_ok-left.ensures.made

pub has_part-requires-then-branch-clause-part : goal.has_part-requires-then-branch-clause-part
has_part-requires-then-branch-clause-part c = HasShape-Extends c.drawn-2.new.store c.union.new.store c.union.ensures.keeps c.in_ok-right.right.shape.items c.in_ok-right.right.root
    c.in_ok-right.ensures.made
