-- Walks over the runs of a node, and what they take.
use Rattle.std.proofs.Common.{◌≡◌, ℕ, ◌+◌, ◌-◌, ◌*◌, ◌<◌, ◌≤◌, inl, inr, List, [], ◌++◌, length, drop, get_or, slice_get, Some, sym, ap, ap₂, subst, ◌∙◌, arith}
use Rattle.std.proofs.Math.Nat.{mul-le-mul_right}
use Rattle.std.proofs.Math.ListN.{drop_of_length-le}
use Rattle.std.proofs.lemmas.List.{length-append}
use Rattle.std.proofs.lemmas.Bool.{cases_lt}
use Rattle.aq_store.specs.declared.node.Node.{Node}
use Rattle.aq_store.specs.Runs.{copies, compress, run_of}
use Rattle.aq_store.specs.Nodes.{HasShape, IsLeaf, Extends, pairs_at, runs_at}
use Rattle.aq_store.proofs.TableLemmas.{HasShape-Extends}
use Rattle.aq_store.proofs.RunLemmas.{before, run_choice, run_next, run_within, length-copies}
use Rattle.aq_store.proofs.MeansLemmas.{pairs_at-kept, opened}
use Rattle.aq_store.proofs.OwedLemmas.{split_shape}
use Rattle.aq_set_build.specs.Budgets.{walk_budget}

-- at the depth of the leaves
pub leaf_shape : {L : Type 0} (table : List (Node L)) (shape : List ℕ) (d id : ℕ) → d ≡ length shape → HasShape table (drop d shape) id → IsLeaf table id
unfolding HasShape
leaf_shape table shape d id e s = subst (λ u. HasShape table u id) (drop_of_length-le shape (let k : length shape ≤ d = omega arith in k)) s

pub no_levels : (shape : List ℕ) (d : ℕ) → d ≡ length shape → drop d shape ≡ []
no_levels shape d e = drop_of_length-le shape (let k : length shape ≤ d = omega arith in k)

pub budget_leaf : (e : ℕ) (shape : List ℕ) (d : ℕ) → d ≡ length shape → walk_budget e (drop d shape) ≡ e
unfolding walk_budget
budget_leaf e shape d is = ap (walk_budget e) (no_levels shape d is)

pub budget_node : (e : ℕ) (shape : List ℕ) (d : ℕ) → d < length shape
    → walk_budget e (drop d shape) ≡ get_or shape d 0 + 1 + get_or shape d 0 * (2 * walk_budget e (drop (d + 1) shape))
unfolding walk_budget
budget_node e shape d lt = ap (walk_budget e) (split_shape shape d lt)

-- what is done at a leaf takes a step more than e
pub budget_some : (e : ℕ) (shape : List ℕ) (d : ℕ) → d ≤ length shape → 0 < walk_budget (e + 1) (drop d shape)
budget_some e shape d le = elim (cases_lt d (length shape)) [
  | inl lt ↦ (let f = budget_node (e + 1) shape d lt in omega arith)
  | inr past ↦ (let f = budget_leaf (e + 1) shape d (omega arith) in omega arith)
]

-- ---- arithmetic of the loop: k pairs are made, of n
pub one_more : (k c b : ℕ) → 0 < c → k * (2 * b) + b + b ≤ (k + c) * (2 * b)
one_more k c b some = let le : k + 1 ≤ k + c = omega arith in omega (arith, mul-le-mul_right (2 * b) le)

pub on_the_way : (k c n b f : ℕ) → f ≡ n + 1 + n * (2 * b) → 0 < c → k + c ≤ n → k * (2 * b) + b + b ≤ f - 1
on_the_way k c n b f e some le =
    let one : k + 1 ≤ n = omega arith in
    omega (arith, mul-le-mul_right (2 * b) one)

pub at_the_end : (k n b f : ℕ) → f ≡ n + 1 + n * (2 * b) → k ≡ n → k * (2 * b) + k ≤ f - 1
at_the_end k n b f e is =
    let same : k * (2 * b) ≡ n * (2 * b) = ap (λ m. m * (2 * b)) is in
    omega arith

module _ {L : Type 0} where
  -- what is known of the pair of a run, read from a store that has grown
  pub record IsRunAt (start old : List (Node L)) (shape : List ℕ) (d id index count : ℕ) (p : ℕ × ℕ) : Type 0 where
    pub left : HasShape old (drop (d + 1) shape) p.0
    pub right : HasShape old (drop (d + 1) shape) p.1
    pub room : before (runs_at start id) index + count ≤ get_or shape d 0
    pub next : before (runs_at start id) (index + 1) ≡ before (runs_at start id) index + count

  pub run_at_place : (start old : List (Node L)) → Extends start old → (shape : List ℕ) (d id index count : ℕ) (p : ℕ × ℕ) → d < length shape → HasShape start (drop d shape) id
      → slice_get (runs_at old id) index ≡ Some (run_of p count) → 0 < count → IsRunAt start old shape d id index count p
  run_at_place start old x shape d id index count p lt s run some =
      let o = opened start (get_or shape d 0) (drop (d + 1) shape) id (subst (λ u. HasShape start u id) (split_shape shape d lt) s) in
      let here : slice_get (runs_at start id) index ≡ Some (run_of p count) = ap (λ ps. slice_get (compress ps) index) (sym (pairs_at-kept start old x (drop d shape) id s)) ∙ run in
      let first = run_choice (pairs_at start id) index count (before (runs_at start id) index) p here (omega arith) (omega arith) in
      record {
        left = HasShape-Extends start old x (drop (d + 1) shape) p.0 (o.3.left (before (runs_at start id) index) p first);
        right = HasShape-Extends start old x (drop (d + 1) shape) p.1 (o.3.right (before (runs_at start id) index) p first);
        room = omega (arith, run_within (pairs_at start id) index count p here, o.1);
        next = run_next (pairs_at start id) index count p here;
      }

  -- a place above the leaves has as many pairs as the shape says
  pub inner_place : (table : List (Node L)) (shape : List ℕ) (d id : ℕ) → d < length shape → HasShape table (drop d shape) id
      → (length (pairs_at table id) ≡ get_or shape d 0) × (0 < get_or shape d 0)
  inner_place table shape d id lt s =
      let o = opened table (get_or shape d 0) (drop (d + 1) shape) id (subst (λ u. HasShape table u id) (split_shape shape d lt) s) in
      (o.1, o.2)

  pub runs_kept : (start old : List (Node L)) → Extends start old → (shape : List ℕ) (d id : ℕ) → HasShape start (drop d shape) id → length (runs_at old id) ≡ length (runs_at start id)
  runs_kept start old x shape d id s = ap (λ ps. length (compress ps)) (pairs_at-kept start old x (drop d shape) id s)

  pub pairs_kept : (start old : List (Node L)) → Extends start old → (shape : List ℕ) (d id : ℕ) → HasShape start (drop d shape) id → length (pairs_at old id) ≡ length (pairs_at start id)
  pairs_kept start old x shape d id s = ap length (pairs_at-kept start old x (drop d shape) id s)

pub pushed_count : (old new : List (ℕ × ℕ)) (count a b : ℕ) (q : ℕ × ℕ) → new ≡ old ++ copies count q → length old ≡ a → b ≡ a + count → length new ≡ b
pushed_count old new count a b q is long next =
    ap length is ∙ length-append old (copies count q) ∙ ap₂ (λ m n. m + n) long (length-copies count q) ∙ sym next
