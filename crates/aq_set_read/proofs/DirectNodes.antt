-- What stands at a position: it stays where expressions are put behind, and a new node's is told from those that it names.
use Rattle.std.proofs.Common.{◌≡◌, ℕ, zero, suc, ◌+◌, ◌*◌, ◌<◌, Bool, false, List, [], ◌∷◌, ◌++◌, length, Ok, refl, sym, ap, ap₂, ◌∙◌, arith}
use Rattle.std.specs.Prelude.{replicate}
use Rattle.std.specs.List.{fold}
use Rattle.std.proofs.lemmas.List.{get_or_push, replicate_more}
use Rattle.std.proofs.lemmas.List.Sums.{fold-append, fold_push}
use Rattle.aq_lex.specs.declared.place.Place.{Place}
use Rattle.aq_base.specs.Checks.{◌>>=◌}
use Rattle.aq_sets.specs.Tables.{table, at_position}
use Rattle.aq_sets.specs.Sizes.{Size, size_step, size_of}
use Rattle.aq_sets.specs.Vectors.{Listed, nothing_listed, listed_step, lists, power}
use Rattle.aq_set_read.specs.Gathered.{Gathered, counted}
use Rattle.aq_set_read.specs.Meaning.{Step, out_of_range, with_expr, node}
use Rattle.aq_set_read.specs.Direct.{Meant, denoted, product_of, union_of, in_turn}
use Rattle.aq_set_read.specs.Standing.{denoted_at}
use Rattle.aq_set_read.specs.declared.made.Made.{Made}
use Rattle.aq_sets.specs.declared.sets.Expr.{Expr}
use Rattle.aq_sets.specs.declared.sets.Expr.TheVariants as expr
use Rattle.aq_sets.proofs.TableLaws.{get_or-grown, length-table, table-push}
use Rattle.aq_sets.proofs.ValidSizes.{size-stays, size-last}
use Rattle.aq_set_read.specs.declared.set_fault.SetFault.TheVariants as faults
use Rattle.aq_set_read.proofs.ValidChecks.{Judged, unless}
use Rattle.aq_set_read.proofs.ValidNodes.{IsMade, IsGrown, counted-judged, few-within}

-- ---- positions

lists-stays : (xs ys : List Expr) (i : ℕ) → i < length xs → lists (xs ++ ys) i ≡ lists xs i
unfolding lists
lists-stays xs ys i lt =
    let long = length-table listed_step xs in
    ap (λ (t : List Listed). at_position nothing_listed t i) (fold-append (λ done e. done ++ listed_step done e ∷ []) [] xs ys)
    ∙ get_or-grown listed_step (table listed_step xs) ys i nothing_listed (omega (arith, lt, long))

lists-last : (xs : List Expr) (e : Expr) → lists (xs ++ e ∷ []) (length xs) ≡ listed_step (table listed_step xs) e
unfolding lists
lists-last xs e =
    ap (λ (t : List Listed). at_position nothing_listed t (length xs)) (table-push listed_step xs e)
    ∙ get_or_push (table listed_step xs) (listed_step (table listed_step xs) e) nothing_listed (length xs) (length-table listed_step xs)

pub denoted-stays : (xs ys : List Expr) (i : ℕ) → i < length xs → denoted_at (xs ++ ys) i ≡ denoted_at xs i
denoted-stays xs ys i lt = ap₂ (λ (s : Size) (l : Listed). denoted s.qubits l.vectors) (size-stays xs ys i lt) (lists-stays xs ys i lt)

-- what an expression has behind others
abbrev pub denoted_behind : List Expr → Expr → Meant
denoted_behind xs e = denoted (size_step (table size_step xs) e).qubits (listed_step (table listed_step xs) e).vectors

denoted-last : (xs : List Expr) (e : Expr) → denoted_at (xs ++ e ∷ []) (length xs) ≡ denoted_behind xs e
denoted-last xs e = ap₂ (λ (s : Size) (l : Listed). denoted s.qubits l.vectors) (size-last xs e) (lists-last xs e)

-- ---- what is put together

-- what stands where an expression was made
abbrev pub made_at : List Expr → Made → Meant
made_at exprs m = denoted_at exprs m.expr

pub made-stays : (g h : Gathered) (m : Made) → IsGrown g h → IsMade g.exprs m → made_at h.exprs m ≡ made_at g.exprs m
made-stays g h m grown made = ap (λ (es : List Expr). made_at es m) grown.exprs ∙ denoted-stays g.exprs grown.more m.expr made.there

-- the value stands for this
abbrev pub StandsFor : Meant → Step Made → Type 0
StandsFor d s = made_at s.gathered.exprs s.value ≡ d

pub node-stands : (at : Place) (refused : Bool) (e : Expr) (qubits : ℕ) (g : Gathered) (d : Meant)
    → (refused ≡ false → denoted_behind g.exprs e ≡ d) → Judged (StandsFor d) (node at refused e qubits g)
node-stands at refused e qubits g d is =
    unless (StandsFor d) refused (faults.QubitCount at) (counted at g >>= λ h. Ok (with_expr e qubits h)) tt (λ passed.
    counted-judged (StandsFor d) at g (λ h. Ok (with_expr e qubits h)) (λ few. denoted-last g.exprs e ∙ is passed))

-- ---- nodes by what they name

pub product-behind : (xs : List Expr) (left right : ℕ) → denoted_behind xs (expr.Tensor left right) ≡ product_of (denoted_at xs left) (denoted_at xs right)
unfolding size_of lists
product-behind xs left right = refl

pub union-behind : (xs : List Expr) (left right : ℕ) → denoted_behind xs (expr.Union left right) ≡ union_of (denoted_at xs left) (denoted_at xs right)
unfolding size_of lists
union-behind xs left right = refl

abbrev copies : ℕ → Meant → Meant
copies n x = in_turn product_of (replicate n x)

-- one copy more
copies-more : (n : ℕ) (x : Meant) → copies (suc (suc n)) x ≡ product_of (copies (suc n) x) x
copies-more n x =
    let one : n + 1 ≡ suc n = omega arith in
    ap (λ (xs : List Meant). fold product_of x xs) (sym (replicate_more n x ∙ ap (λ k. replicate k x) one)) ∙ fold_push product_of x (replicate n x) x

copies-are : (n : ℕ) (qubits : ℕ) (base : Listed) → denoted (qubits * suc n) (power (suc n) base).vectors ≡ copies (suc n) (denoted qubits base.vectors)
copies-are zero qubits base =
    let one : qubits * 1 ≡ qubits = omega arith in
    ap (λ k. denoted k base.vectors) one
copies-are (suc n) qubits base =
    let x = denoted qubits base.vectors in
    let same : qubits * suc (suc n) ≡ qubits * suc n + qubits = omega arith in
    ap (λ k. denoted k (power (suc (suc n)) base).vectors) same
    ∙ ap (λ (d : Meant). product_of d x) (copies-are n qubits base)
    ∙ sym (copies-more n x)

-- a power of some qubits has a factor
pub power-behind : (xs : List Expr) (base times qubits : ℕ) → out_of_range (qubits * times) ≡ false
    → denoted_behind xs (expr.Power base times) ≡ in_turn product_of (replicate times (denoted_at xs base))
unfolding size_of lists
power-behind xs base zero qubits passed =
    let some = (few-within (qubits * 0) passed).0 in
    absurd (omega (arith, some))
power-behind xs base (suc n) qubits passed = copies-are n (size_of xs base).qubits (lists xs base)
