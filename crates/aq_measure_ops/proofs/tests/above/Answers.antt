use Rattle.std.proofs.Common.{◌≡◌, ℕ, inl, inr, ◌+◌, ◌-◌, ◌<◌, ◌≤◌, ◌^◌, List, [], ◌∷◌, ◌++◌, length, slice_get, Some, arith, refl, sym, ap, ap₂, subst, ◌∙◌}
use Rattle.std.proofs.lemmas.List.{length-append}
use Rattle.aq_store.specs.declared.node.Node.TheVariants.{Leaf, Inner}
use Rattle.aq_store.specs.Runs.{copies}
use Rattle.aq_store.specs.Nodes.{EachPair, HasShape}
use Rattle.aq_store.proofs.TableLemmas.{HasShape-Extends, EachPair-map}
use Rattle.aq_store.proofs.ShapeLemmas.{shape_height}
use Rattle.aq_store.proofs.RunLemmas.{slice_get-append_cases, slice_get-copies, length-copies}
use Rattle.aq_measure_ops.proofs.tests.above.Goals as goal

each_more : (P : ℕ → Type 0) (p q : List (ℕ × ℕ)) (n x y : ℕ) → EachPair P p → P x → P y → q ≡ p ++ copies n (x, y) → EachPair P q
each_more P p q n x y m hx hy is = record {
  left = λ c u at. elim (slice_get-append_cases p (copies n (x, y)) c u (ap (λ l. slice_get l c) (sym is)
      ∙ at)) [ inl h ↦ m.left c u h | inr h ↦ subst {A = ℕ × ℕ} (λ v. P v.0) (slice_get-copies n (c - length p) (x, y) u h.1) hx ];
  right = λ c u at. elim (slice_get-append_cases p (copies n (x, y)) c u (ap (λ l. slice_get l c) (sym is)
      ∙ at)) [ inl h ↦ m.right c u h | inr h ↦ subst {A = ℕ × ℕ} (λ v. P v.1) (slice_get-copies n (c - length p) (x, y) u h.1) hy ];
}

none_meet : (P : ℕ → Type 0) (p : List (ℕ × ℕ)) → p ≡ [] → EachPair P p
none_meet P p is = subst (EachPair P) (sym is) (record { left = λ c u at. (let z = at in cc); right = λ c u at. (let z = at in cc) })

all_meet : (P : ℕ → Type 0) (n a b : ℕ) (o p q r : List (ℕ × ℕ)) → o ≡ [] → p ≡ o ++ copies n (a, b) → q ≡ p ++ copies 1 (b, b) → r ≡ q ++ copies 1 (b, a) → P a → P b → EachPair P r
all_meet P n a b o p q r e f g h x y = each_more P q r 1 b a (each_more P p q 1 b b (each_more P o p n a b (none_meet P o e) x y f) y y g) y x h

more : (p q : List (ℕ × ℕ)) (n : ℕ) (x : ℕ × ℕ) → q ≡ p ++ copies n x → length q ≡ length p + n
more p q n x is = ap length is ∙ length-append p (copies n x) ∙ ap (λ k. length p + k) (length-copies n x)

pub push-requires-2-clause-room : goal.push-requires-2-clause-room
push-requires-2-clause-room c = omega (arith, c.requires.few, ap length c.new-pairs.ensures, more _ _ _ _ c.in-Ok.ensures)

pub push-requires-3-clause-room : goal.push-requires-3-clause-room
push-requires-3-clause-room c = omega (arith, c.requires.few, ap length c.new-pairs.ensures, more _ _ _ _ c.in-Ok.ensures, more _ _ _ _ c.in-Ok-push.ensures)

pub node_of-requires-clause-some : goal.node_of-requires-clause-some
node_of-requires-clause-some c = omega (arith, more _ _ _ _ c.in-Ok-push-2.ensures)

pub node_of-requires-clause-heights : goal.node_of-requires-clause-heights
node_of-requires-clause-heights c =
    let s = c.args.first.now.shape.items in
    let second = subst (λ u. HasShape c.args.store.now u c.args.second.now.root) (sym c.requires.same) c.requires.second in (
      length s,
      EachPair-map _ _ c.push-3.new.self (shape_height c.args.store.now s)
          (all_meet (HasShape c.args.store.now s) c.args.count c.args.first.now.root c.args.second.now.root c.new-pairs.result c.push.new.self c.push-2.new.self c.push-3.new.self
          c.new-pairs.ensures c.in-Ok.ensures c.in-Ok-push.ensures c.in-Ok-push-2.ensures c.requires.first second),
    )

pub returns-clause-made : goal.returns-clause-made
unfolding HasShape
returns-clause-made c =
    let s = c.args.first.now.shape.items in
    let second = subst (λ u. HasShape c.args.store.now u c.args.second.now.root) (sym c.requires.same) c.requires.second in
    let is : c.extend_from_slice.new.self.items ≡ (c.args.count + 2) ∷ s = c.in-Ok-extend_from_slice.ensures.items ∙ ap₂ (λ l r. l ++ r) (c.in-Ok-push-3.ensures.items
    ∙ ap (λ l. l ++ (c.args.count + 2) ∷ []) c.new-shape.ensures.items) c.as_slice.ensures.value in
    let long : length c.push-3.new.self ≡ c.args.count + 2 = omega (
      arith,
      ap length c.new-pairs.ensures,
      more _ _ _ _ c.in-Ok.ensures,
      more _ _ _ _ c.in-Ok-push.ensures,
      more _ _
          _ _ c.in-Ok-push-2.ensures,
    ) in
    let whole : HasShape c.node_of.new.self ((c.args.count + 2) ∷ s) c.in_ok-root.root = (
      c.push-3.new.self,
      record { here = c.in_ok-root.ensures.adds.here; some = omega (arith, long) },
      long,
      EachPair-map _ _ c.push-3.new.self (HasShape-Extends c.args.store.now c.node_of.new.self c.node_of.ensures.keeps s)
          (all_meet (HasShape c.args.store.now s) c.args.count c.args.first.now.root c.args.second.now.root c.new-pairs.result c.push.new.self c.push-2.new.self c.push-3.new.self
          c.new-pairs.ensures c.in-Ok.ensures c.in-Ok-push.ensures c.in-Ok-push-2.ensures c.requires.first second),
    ) in
    subst (λ u. HasShape c.node_of.new.self u c.in_ok-root.root) (sym is) whole
