-- What the macros of a table take in a certificate.
use Rattle.std.proofs.Common.{◌≡◌, ◌≢◌, ℕ, zero, suc, ◌+◌, ◌*◌, ◌<◌, ◌≤◌, List, [], ◌∷◌, ◌++◌, length, slice_get, Option, Some, None, refl, sym, ap, ap₂, subst, ◌∙◌, arith, sum_by}
use Rattle.std.proofs.lemmas.List.Sums.{sum_by-cons, sum_by_push}
use Rattle.aq_store.specs.Count.{Count}
use Rattle.aq_store.specs.declared.node.Node.{Node}
use Rattle.aq_store.specs.declared.lsta.Lsta.{Lsta}
use Rattle.aq_store.proofs.TableLemmas.{slice_get-some}
use Rattle.aq_cert.specs.declared.cert.Rel.{Rel}
use Rattle.aq_cert.specs.declared.cert.Macro.{Macro}
use Rattle.aq_cert.specs.declared.cert.Cert.{Cert}
use Rattle.aq_cert.specs.Rows.{item_of, item_at, row_at, row_of, row_length}
use Rattle.aq_cert.specs.Valid.{left_level, goal_level}
use Rattle.aq_cert.specs.Placed.{IsAt, IsPairAt, IsPlacedRel, IsPlacedMacro, ArePlaced}
use Rattle.aq_cert.proofs.ReadLemmas.{zip-length, zip-sum}
use Rattle.aq_include.specs.declared.table.Table.{Table}
use Rattle.aq_include.specs.Tables.{IsPushed}
use Rattle.aq_include.specs.Costs.{size}
use Rattle.aq_include.specs.Search.{table_size}
use Rattle.aq_include.specs.Answers.{IsFresh, IsRootRel, cert_size}

module _ {X : Type 0} where
  -- a list that has one item more at its end
  row-pushed : (xs ys : List X) (x : X) → length ys ≡ length xs + 1 → ((j : ℕ) (y : X) → slice_get xs j ≡ Some y → slice_get ys j ≡ Some y) → slice_get ys (length xs) ≡ Some x → ys ≡ xs ++ x ∷ []
  row-pushed [] [] x n f e = absurd (omega arith)
  row-pushed [] (y ∷ []) x n f e = let s : y ≡ x = cc in ap (λ z. z ∷ []) s
  row-pushed [] (y ∷ z ∷ ys) x n f e = absurd (omega arith)
  row-pushed (w ∷ xs) [] x n f e = absurd (omega arith)
  row-pushed (w ∷ xs) (y ∷ ys) x n f e =
      let h : Some y ≡ Some w = f 0 w refl in
      let s : y ≡ w = cc in
      ap₂ (λ z zs. z ∷ zs) s (row-pushed xs ys x (omega (arith, n)) (λ j z g. f (suc j) z g) e)

  -- one row changes
  sum-at : (f : List X → ℕ) (old new : List (List X)) (k : ℕ) (a b : List X) → length new ≡ length old → slice_get old k ≡ Some a → slice_get new k ≡ Some b
      → ((l : ℕ) → l ≢ k → slice_get new l ≡ slice_get old l) → sum_by f new + f a ≡ sum_by f old + f b
  sum-at f [] new k a b n e g h = cc
  sum-at f (x ∷ old) [] k a b n e g h = cc
  sum-at f (x ∷ old) (y ∷ new) zero a b n e g h =
      let p : x ≡ a = cc in
      let q : y ≡ b = cc in
      let same : sum_by f new ≡ sum_by f old = sums-same f old new (omega (arith, n)) (λ l. h (suc l) (λ z. absurd (omega (arith, z)))) in
      omega (arith, sum_by-cons f x old, sum_by-cons f y new, ap f p, ap f q, same)
    where
      sums-same : (f : List X → ℕ) (old new : List (List X)) → length new ≡ length old → ((l : ℕ) → slice_get new l ≡ slice_get old l) → sum_by f new ≡ sum_by f old
      sums-same f [] [] n h = refl
      sums-same f [] (y ∷ new) n h = absurd (omega arith)
      sums-same f (x ∷ old) [] n h = absurd (omega arith)
      sums-same f (x ∷ old) (y ∷ new) n h =
          let e : Some y ≡ Some x = h 0 in
          let s : y ≡ x = cc in
          sum_by-cons f y new ∙ ap₂ (λ p q. p + q) (ap f s) (sums-same f old new (omega (arith, n)) (λ l. h (suc l))) ∙ sym (sum_by-cons f x old)
  sum-at f (x ∷ old) (y ∷ new) (suc k) a b n e g h =
      let first : Some y ≡ Some x = h 0 (λ z. absurd (omega (arith, z))) in
      let s : y ≡ x = cc in
      let rest = sum-at f old new k a b (omega (arith, n)) e g (λ l d. h (suc l) (λ z. d (omega (arith, z)))) in
      omega (arith, sum_by-cons f x old, sum_by-cons f y new, ap f s, rest)

  row-there : (rows : List (List X)) (k i : ℕ) (x : X) → item_at rows k i ≡ Some x → (xs : List X) × (slice_get rows k ≡ Some xs) × (slice_get xs i ≡ Some x)
  row-there rows k i x e = by (slice_get rows k) e
    where
      by : (o : Option (List X)) → item_of o i ≡ Some x → (xs : List X) × (o ≡ Some xs) × (slice_get xs i ≡ Some x)
      by None h = cc
      by (Some xs) h = (xs, refl, h)

-- a macro more
pub size-push : (k i : ℕ) (m : Macro) (old new : Table) → k < length old.macros.items → IsPushed k m i old.macros.items new.macros.items → table_size new ≡ table_size old + size m
size-push k i m old new less p =
    let a = slice_get-some old.macros.items k less in
    let b = row-there new.macros.items k i m p.here in
    let count : i ≡ length a.0 = p.place ∙ ap row_of a.1 in
    let longer : length b.0 ≡ length a.0 + 1 = sym (ap row_of b.1) ∙ p.longer ∙ ap (λ z. z + 1) count in
    let is : b.0 ≡ a.0 ++ m ∷ [] = row-pushed a.0 b.0 m longer
    (λ j y e. sym (ap (λ o. item_of o j) b.1) ∙ p.keeps.keeps k j y (ap (λ o. item_of o j) a.1 ∙ e)) (ap (slice_get b.0) (sym count) ∙ b.2) in
    let sums = sum-at (λ (row : List Macro). sum_by size row) old.macros.items new.macros.items k a.0 b.0 p.rows a.1 b.1 p.others in
    let last : sum_by size b.0 ≡ sum_by size a.0 + size m = ap (sum_by size) is ∙ sum_by_push size a.0 m in
    omega (arith, sums, last)

no-items : (xs : List Macro) → length xs ≡ 0 → sum_by size xs ≡ 0
no-items [] e = refl
no-items (x ∷ xs) e = absurd (omega arith)

no-rows : (rows : List (List Macro)) → ((k : ℕ) → row_length rows k ≡ 0) → sum_by (λ (row : List Macro). sum_by size row) rows ≡ 0
no-rows [] f = refl
no-rows (r ∷ rows) f = omega (arith, sum_by-cons (λ (row : List Macro). sum_by size row) r rows, no-items r (f 0), no-rows rows (λ k. f (suc k)))

pub fresh-size : (n : ℕ) (t : Table) → IsFresh n t → table_size t ≡ 0
fresh-size n t h = no-rows t.macros.items h.none

pair-count : (xs : List Rel) (root : ℕ) (goals : List Lsta) (n : ℕ) → ((k : ℕ) (rel : Rel) → slice_get xs k ≡ Some rel → IsRootRel root goals (n + k) rel) → sum_by (λ (r : Rel). length r.pairs) xs ≡ length xs
pair-count [] root goals n f = refl
pair-count (x ∷ xs) root goals n f =
    let one : length x.pairs ≡ 1 = ap (λ (l : List (ℕ × ℕ)). length l) (f 0 x refl).pairs in
    let rest = pair-count xs root goals (n + 1) (λ k rel e. subst (λ z. IsRootRel root goals z rel) (omega arith) (f (suc k) rel e)) in
    omega (arith, sum_by-cons (λ (r : Rel). length r.pairs) x xs, one, rest)

-- the roots take one for the left and one for each goal
pub root-size : (m : Macro) (root : ℕ) (goals : List Lsta) → m.domain ≡ root ∷ [] → ((k : ℕ) (rel : Rel) → slice_get m.rels k ≡ Some rel → IsRootRel root goals k rel) → length m.rels ≡ length goals
    → size m ≡ 1 + length goals
root-size m root goals d f count =
    let one : length m.domain ≡ 1 = ap (λ (l : List ℕ). length l) d in
    let rest = pair-count m.rels root goals 0 (λ k rel e. subst (λ z. IsRootRel root goals z rel) (omega arith) (f k rel e)) in
    omega (arith, one, rest, count)

module _ {L : Type 0} (table : List (Node L)) (left : Lsta) (goals : List Lsta) where
  abbrev IsPlacedHere : ℕ → Macro → Macro → Type 0
  IsPlacedHere k = IsPlacedMacro (length goals) (left_level table left goals k) (λ g. goal_level table left goals g k)

  macro-size : (k : ℕ) (m n : Macro) → IsPlacedHere k m n → size n ≡ size m
  macro-size k m n h =
      let d = zip-length (IsAt (left_level table left goals k)) m.domain n.domain h.domain in
      let r = zip-sum (IsPlacedRel (length goals) (left_level table left goals k) (λ g. goal_level table left goals g k)) (λ (r : Rel). length r.pairs) (λ (r : Rel). length r.pairs)
      (λ r s q. zip-length (IsPairAt (left_level table left goals k) (goal_level table left goals s.goal k)) r.pairs s.pairs q.pairs) m.rels n.rels h.rels in
      omega (arith, d, r)

  rows-size : (macros rows : List (List Macro)) (f : List Macro → ℕ) → length rows ≡ length macros → ((k : ℕ) → k < length macros → f (row_at rows k) ≡ f (row_at macros k)) → sum_by f rows ≡ sum_by f macros
  rows-size [] [] f n h = refl
  rows-size [] (r ∷ rows) f n h = absurd (omega arith)
  rows-size (m ∷ macros) [] f n h = absurd (omega arith)
  rows-size (m ∷ macros) (r ∷ rows) f n h =
      let first : f r ≡ f m = h 0 (omega arith) in
      sum_by-cons f r rows ∙ ap₂ (λ a b. a + b) first (rows-size macros rows f (omega (arith, n)) (λ k less. h (suc k) (omega arith))) ∙ sym (sum_by-cons f m macros)

  -- places take as much as nodes
  pub placed-size : (macros rows : List (List Macro)) → ArePlaced table left goals macros rows → sum_by (λ (row : List Macro). sum_by size row) rows ≡ sum_by (λ (row : List Macro). sum_by size row) macros
  placed-size macros rows h = rows-size macros rows (λ (row : List Macro). sum_by size row) h.levels
      (λ k less. zip-sum (IsPlacedHere k) size size (macro-size k) (row_at macros k) (row_at rows k) (h.each k less))

  -- what the search took pays for the certificate
  pub cert-paid : (new : Table) (rows : List (List Macro)) (cert : Cert) (root : Macro) (old : Table) (n : ℕ) (before now : Count) → ArePlaced table left goals new.macros.items rows → cert.macros ≡ rows
      → IsFresh n old → size root ≡ 1 + length goals → table_size new + 2 * before.taken ≤ table_size old + size root + 2 * now.taken → cert_size cert + 2 * before.taken ≤ 2 * now.taken + 1 + length goals
  cert-paid new rows cert root old n before now p c f s h =
      let same : cert_size cert ≡ table_size new = ap (λ (z : List (List Macro)). sum_by (λ (row : List Macro). sum_by size row) z) c ∙ placed-size new.macros.items rows p in
      omega (arith, same, fresh-size n old f, s, h)
