use Rattle.std.proofs.Common.{◌≡◌, ℕ, zero, suc, inr, ◌<◌, ◌+◌, List, [], ◌∷◌, length, slice_get, Some, arith, lit≤, refl, sym, ap, subst, ◌∙◌}
use Rattle.aq_store.specs.declared.node.Node.{Node}
use Rattle.aq_store.specs.declared.lsta.Lsta.{Lsta}
use Rattle.aq_store.specs.Nodes.{FitsStore}
use Rattle.aq_store.proofs.TableLemmas.{HasShape-Extends, Extends-trans}
use Rattle.aq_measure_ops.specs.Joining.{AllFit, HaveLevels}
use Rattle.aq_measure_ops.proofs.PaddingLemmas.{wider-length}
use Rattle.aq_measure_ops.proofs.UnitedLemmas.{united_long}
use Rattle.aq_measure_ops.proofs.tests.unites_from_the_left.Goals as goal

three_fit : {L : Type 0} (table : List (Node L)) (x y z : Lsta) → FitsStore table x → FitsStore table y → FitsStore table z → AllFit table (x ∷ y ∷ z ∷ [])
three_fit table x y z a b d = record { each = λ k part at. by k part at }
  where
    by : (k : ℕ) (part : Lsta) → slice_get (x ∷ y ∷ z ∷ []) k ≡ Some part → FitsStore table part
    by zero part at = let is : x ≡ part = cc in subst (FitsStore table) is a
    by (suc zero) part at = let is : y ≡ part = cc in subst (FitsStore table) is b
    by (suc (suc zero)) part at = let is : z ≡ part = cc in subst (FitsStore table) is d
    by (suc (suc (suc k))) part at = cc

three_levels : (n : ℕ) (x y z : Lsta) → length x.shape.items ≡ n → length y.shape.items ≡ n → length z.shape.items ≡ n → HaveLevels n (x ∷ y ∷ z ∷ [])
three_levels n x y z a b d = record { each = λ k part at. by k part at }
  where
    by : (k : ℕ) (part : Lsta) → slice_get (x ∷ y ∷ z ∷ []) k ≡ Some part → length part.shape.items ≡ n
    by zero part at = let is : x ≡ part = cc in ap (λ (p : Lsta). length p.shape.items) (sym is) ∙ a
    by (suc zero) part at = let is : y ≡ part = cc in ap (λ (p : Lsta). length p.shape.items) (sym is) ∙ b
    by (suc (suc zero)) part at = let is : z ≡ part = cc in ap (λ (p : Lsta). length p.shape.items) (sym is) ∙ d
    by (suc (suc (suc k))) part at = cc

pub union-requires-clause-left : goal.union-requires-clause-left
union-requires-clause-left c = HasShape-Extends c.drawn.new.store c.drawn-3.new.store (Extends-trans _ _ _ c.drawn-2.ensures.keeps c.drawn-3.ensures.keeps)
    c.in_ok-first.first.shape.items c.in_ok-first.first.root c.in_ok-first.ensures.made

pub union-requires-clause-right : goal.union-requires-clause-right
union-requires-clause-right c = HasShape-Extends c.drawn-2.new.store c.drawn-3.new.store c.drawn-3.ensures.keeps c.in_ok-second.second.shape.items c.in_ok-second.second.root
    c.in_ok-second.ensures.made

pub union-requires-clause-same : goal.union-requires-clause-same
union-requires-clause-same c =
    wider-length c.in_ok-first.first.shape.items (5 ∷ 6 ∷ 7 ∷ []) c.in_ok-first.ensures.wider ∙ sym (wider-length c.in_ok-second.second.shape.items (5 ∷ 6 ∷ 7 ∷ []) c.in_ok-second.ensures.wider)

pub union-requires-2-clause-right : goal.union-requires-2-clause-right
union-requires-2-clause-right c = HasShape-Extends c.drawn-3.new.store c.union.new.store c.union.ensures.keeps c.in_ok-third.third.shape.items c.in_ok-third.third.root c.in_ok-third.ensures.made

pub union-requires-2-clause-same : goal.union-requires-2-clause-same
union-requires-2-clause-same c =
    let one = wider-length c.in_ok-first.first.shape.items (5 ∷ 6 ∷ 7 ∷ []) c.in_ok-first.ensures.wider in
    let two = wider-length c.in_ok-second.second.shape.items (5 ∷ 6 ∷ 7 ∷ []) c.in_ok-second.ensures.wider in
    let three = wider-length c.in_ok-third.third.shape.items (5 ∷ 6 ∷ 7 ∷ []) c.in_ok-third.ensures.wider in
    ap length c.in_ok-two.ensures.united.shape ∙ united_long c.in_ok-first.first.shape.items c.in_ok-second.second.shape.items 3 (inr one) two ∙ sym three

pub union_of-requires-clause-fits : goal.union_of-requires-clause-fits
union_of-requires-clause-fits c =
    let later = Extends-trans _ _ _ c.union.ensures.keeps c.union-2.ensures.keeps in
    three_fit c.union-2.new.store c.in_ok-first.first c.in_ok-second.second c.in_ok-third.third
    (HasShape-Extends c.drawn.new.store c.union-2.new.store (Extends-trans _ _ _ c.drawn-2.ensures.keeps
    (Extends-trans _ _ _ c.drawn-3.ensures.keeps later)) c.in_ok-first.first.shape.items c.in_ok-first.first.root c.in_ok-first.ensures.made)
    (HasShape-Extends c.drawn-2.new.store c.union-2.new.store (Extends-trans _ _ _ c.drawn-3.ensures.keeps later) c.in_ok-second.second.shape.items c.in_ok-second.second.root
    c.in_ok-second.ensures.made)
    (HasShape-Extends c.drawn-3.new.store c.union-2.new.store later c.in_ok-third.third.shape.items c.in_ok-third.third.root c.in_ok-third.ensures.made)

pub union_of-requires-clause-levels : goal.union_of-requires-clause-levels
union_of-requires-clause-levels c = (
  3,
  lit≤ tt,
  three_levels 3 c.in_ok-first.first c.in_ok-second.second c.in_ok-third.third (wider-length c.in_ok-first.first.shape.items (5 ∷ 6 ∷ 7 ∷ []) c.in_ok-first.ensures.wider)
      (wider-length c.in_ok-second.second.shape.items (5 ∷ 6 ∷ 7 ∷ []) c.in_ok-second.ensures.wider) (wider-length c.in_ok-third.third.shape.items (5 ∷ 6 ∷ 7 ∷ []) c.in_ok-third.ensures.wider),
)
