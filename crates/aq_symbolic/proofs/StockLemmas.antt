-- The memos that are kept for statements.
use Rattle.std.proofs.Common.{◌≡◌, ℕ, ◌+◌, ◌<◌, ◌≤◌, ◌⊎◌, inl, inr, ⊎_elim, List, [], ◌∷◌, ◌++◌, Some, All, Contains, IfSome, length, get_or, slice_get, slice_set, take, sym, ap, ap₂, subst, ◌∙◌, arith}
use Rattle.std.proofs.lemmas.List.{take_all, take_more}
use Rattle.std.proofs.lemmas.List.Elements.{All-append, All-cons, All-contains, All-contains_itself, All-head, All-nil, All-set, All-weaker}
use Rattle.std.proofs.lemmas.Option.{get_or_from_slice_get, slice_get_within}
use Rattle.aq_ring.specs.Fractions.{Amplitude}
use Rattle.aq_prog.specs.declared.gate.Gate.{Gate}
use Rattle.aq_prog.specs.declared.stmt.Stmt.{Stmt}
use Rattle.aq_store.specs.Nodes.{Extends}
use Rattle.aq_store.specs.declared.node.Node.{Node}
use Rattle.aq_symbolic.specs.Memos.{AreAllMemos, AreFresh, AreMemos, ArePut, IsPlaced, IsTaken, entry}
use Rattle.aq_symbolic.specs.Worlds.{AreSized, IsSized}
use Rattle.aq_symbolic.specs.declared.kept.World.{World}
use Rattle.aq_symbolic.specs.declared.memos.Memos.{Memos}
use Rattle.aq_symbolic.specs.declared.stock.StmtMemos.{StmtMemos}
use Rattle.aq_symbolic.proofs.CollectLemmas.{sized_at}
use Rattle.aq_symbolic.proofs.MemoLemmas.{memos_later, memos_new}

-- ---- lists that are the same so far
pub same_next : {X : Type 0} (xs ys : List X) (i : ℕ) (c d : X) → i < length xs → i < length ys → get_or xs i c ≡ get_or ys i d → take i xs ≡ take i ys → take (i + 1) xs ≡ take (i + 1) ys
same_next xs ys i c d m n e h = take_more xs i c m ∙ ap₂ (λ l r. l ++ r ∷ []) h e ∙ sym (take_more ys i d n)

pub same_whole : {X : Type 0} (xs ys : List X) (i : ℕ) → length xs ≤ i → length ys ≤ i → take i xs ≡ take i ys → xs ≡ ys
same_whole xs ys i m n h = sym (take_all i xs m) ∙ h ∙ take_all i ys n

pub gate_of : (a b : Gate) → a.target ≡ b.target → a.matrix.rows ≡ b.matrix.rows → a.controls ≡ b.controls → a ≡ b
gate_of a b e f h = λ i. record { controls = h i; target = e i; matrix = record { rows = f i } }

-- ---- one entry
pub entry_is : (e : StmtMemos) (s : Stmt) (levels : ℕ) → e.levels ≡ levels → e.stmt ≡ s → e ≡ entry s levels e.memos
entry_is e s levels l m = λ i. record { stmt = m i; levels = l i; memos = e.memos }

pub placed_at : (entries : List StmtMemos) (i : ℕ) (e : StmtMemos) (s : Stmt) (levels : ℕ) → slice_get entries i ≡ Some e → e.levels ≡ levels → e.stmt ≡ s → IsPlaced s levels entries i
placed_at entries i e s levels at l m = record { memos = e.memos; stands = at ∙ ap Some (entry_is e s levels l m) }

-- ---- what is left, and what is put in
pub all_kept : (P : StmtMemos → Type 0) (old : List StmtMemos) → All (λ e. P e ⊎ Contains old e) old
all_kept P old = All-weaker (Contains old) (λ e. P e ⊎ Contains old e) (λ e c. inr c) old (All-contains_itself old)

pub all_set : (P : StmtMemos → Type 0) (old : List StmtMemos) (i : ℕ) (x : StmtMemos) → P x → All (λ e. P e ⊎ Contains old e) (slice_set old i x)
all_set P old i x p = All-set (λ e. P e ⊎ Contains old e) old i x (inl p) (all_kept P old)

pub all_pushed : (P : StmtMemos → Type 0) (old : List StmtMemos) (x : StmtMemos) → P x → All (λ e. P e ⊎ Contains old e) (old ++ x ∷ [])
all_pushed P old x p = All-append (λ e. P e ⊎ Contains old e) old (x ∷ []) (all_kept P old) (All-cons (λ e. P e ⊎ Contains old e) x [] (inl p) (All-nil (λ e. P e ⊎ Contains old e)))

pub placed_in : (s : Stmt) (levels : ℕ) (entries : List StmtMemos) (i : ℕ) (memos : Memos) → slice_get entries i ≡ Some (entry s levels memos) → Contains entries (entry s levels memos)
placed_in s levels entries i memos at = (i, slice_get_within entries i (entry s levels memos) at, get_or_from_slice_get entries i (entry s levels memos) (entry s levels memos) at)

-- what is read at the place is the statement's entry
placed_read : (s : Stmt) (levels : ℕ) (entries : List StmtMemos) (i : ℕ) (p : IsPlaced s levels entries i) (x : StmtMemos) → x ≡ get_or entries i x → x ≡ entry s levels p.memos
placed_read s levels entries i p x e = e ∙ get_or_from_slice_get entries i (entry s levels p.memos) x p.stands

pub placed_memos : (s : Stmt) (levels : ℕ) (entries : List StmtMemos) (i : ℕ) (x : StmtMemos) (m : Memos) → IsPlaced s levels entries i → x ≡ get_or entries i x → m ≡ x.memos → Contains entries (entry s levels m)
placed_memos s levels entries i x m p e f =
    let same : m ≡ p.memos = f ∙ ap (λ (y : StmtMemos). y.memos) (placed_read s levels entries i p x e) in
    placed_in s levels entries i m (p.stands ∙ ap (λ (y : Memos). Some (entry s levels y)) (sym same))

pub placed_put : (s : Stmt) (levels : ℕ) (entries : List StmtMemos) (i : ℕ) (x : StmtMemos) (m : Memos) → IsPlaced s levels entries i → x ≡ get_or entries i x → ArePut s levels m entries (slice_set entries i (record { stmt = x.stmt; levels = x.levels; memos = m }))
placed_put s levels entries i x m p e =
    let read = placed_read s levels entries i p x e in
    let now : StmtMemos = record { stmt = x.stmt; levels = x.levels; memos = m } in
    all_set (λ y. y ≡ entry s levels m) entries i now (entry_is now s levels (ap (λ (y : StmtMemos). y.levels) read) (ap (λ (y : StmtMemos). y.stmt) read))

-- ---- the levels of worlds
pub levels_same : {L : Type 0} (n m : ℕ) (table : List (Node L)) (all seen : List World) (k : ℕ) (w : World) (levels : ℕ) → k < length all → w ≡ get_or all k w → AreSized n m table all → seen ≡ all → IfSome (slice_get seen 0) (λ u. levels ≡ length u.lsta.shape.items) → levels ≡ length w.lsta.shape.items
levels_same n m table all seen k w levels lt e s f h =
    first all lt s (subst (λ (l : List World). IfSome (slice_get l 0) (λ u. levels ≡ length u.lsta.shape.items)) f h) ∙ sym (sized_at n m table all k w lt e s).levels
  where
    first : (l : List World) → k < length l → AreSized n m table l → IfSome (slice_get l 0) (λ u. levels ≡ length u.lsta.shape.items) → levels ≡ n
    first [] less t g = absurd (omega (arith, less))
    first (u ∷ us) less t g = g ∙ (All-head (IsSized n m table) u us t).levels

-- ---- what they are of
module _ {L : Type 0} (parts : L → List Amplitude) (count : ℕ) where
  abbrev IsOfStmt : List (Node L) → StmtMemos → Type 0
  IsOfStmt table e = AreMemos parts count e.levels table e.memos e.stmt

  pub stock_none : (table : List (Node L)) (entries : List StmtMemos) → entries ≡ [] → AreAllMemos parts count table entries
  stock_none table entries e = subst (λ (l : List StmtMemos). AreAllMemos parts count table l) (sym e) (All-nil (IsOfStmt table))

  pub stock_later : (old new : List (Node L)) → Extends old new → (entries : List StmtMemos) → AreAllMemos parts count old entries → AreAllMemos parts count new entries
  stock_later old new x entries h = All-weaker (IsOfStmt old) (IsOfStmt new) (λ e m. memos_later parts count e.levels old new x e.memos e.stmt m) entries h

  pub memos_taken : (table : List (Node L)) (s : Stmt) (levels : ℕ) (old new : List StmtMemos) (memos : Memos) → IsTaken s levels old new memos → AreAllMemos parts count table old → AreMemos parts count levels table memos s
  memos_taken table s levels old new memos t h = ⊎_elim (λ f. memos_new parts count levels table memos f s) (λ c. All-contains (IsOfStmt table) old (entry s levels memos) h c) t.taken

  pub stock_taken : (table : List (Node L)) (s : Stmt) (levels : ℕ) (old new : List StmtMemos) (memos : Memos) → IsTaken s levels old new memos → AreAllMemos parts count table old → AreAllMemos parts count table new
  stock_taken table s levels old new memos t h =
      All-weaker (λ e. AreFresh e.memos ⊎ Contains old e) (IsOfStmt table)
      (λ e g. ⊎_elim (λ f. memos_new parts count e.levels table e.memos f e.stmt) (λ c. All-contains (IsOfStmt table) old e h c) g) new t.left

  pub stock_put : (table : List (Node L)) (s : Stmt) (levels : ℕ) (memos : Memos) (old new : List StmtMemos) → ArePut s levels memos old new → AreMemos parts count levels table memos s → AreAllMemos parts count table old → AreAllMemos parts count table new
  stock_put table s levels memos old new p m h =
      All-weaker (λ e. (e ≡ entry s levels memos) ⊎ Contains old e) (IsOfStmt table)
      (λ e g. ⊎_elim (λ (q : e ≡ entry s levels memos). subst (IsOfStmt table) (sym q) m) (λ c. All-contains (IsOfStmt table) old e h c) g) new p
