-- A tree by the grammar has no want of memory as its fault: by induction over the grammar. Its chains have an operand, and
-- its claims a case.
use Rattle.std.proofs.Common.{◌≡◌, ℕ, zero, suc, ◌+◌, ◌*◌, ◌<◌, ◌==◌, Bool, true, false, not, nat_lt, List, [], ◌∷◌, ◌++◌, map, length, Option, Some, None, Ok, Err, IfErr, sym, subst, arith}
use denote.Hole.Carrier.{roll}
use Rattle.std.specs.List.{AllByRecursion}
use Rattle.std.specs.Option.{is_some}
use Rattle.std.proofs.lemmas.List.{length_push}
use Rattle.aq_base.specs.Checks.{refuse_if, ◌>>=◌, ◌>>◌}
use Rattle.aq_base.specs.Limits.{most_names, most_nodes, most_qubits}
use Rattle.aq_grammar.specs.Words.{IsMany}
use Rattle.aq_lex.specs.declared.place.Place.{Place}
use Rattle.aq_set_parse.specs.Piece.{SetPiece}
use Rattle.aq_set_parse.specs.SetGrammar.{IsAtom, IsPower, IsChain, IsTensor, IsUnion, IsGroup, IsExpr, IsCases, IsItem, IsFile}
use Rattle.aq_set_parse.specs.declared.mark.SetMark.{SetMark}
use Rattle.aq_set_parse.specs.declared.mark.SetMark.TheVariants as marks
use Rattle.aq_set_parse.specs.declared.tree.SetWord.{SetWord}
use Rattle.aq_set_parse.specs.declared.tree.SetTerm.{SetTerm}
use Rattle.aq_set_parse.specs.declared.tree.SetPower.{SetPower}
use Rattle.aq_set_parse.specs.declared.tree.SetExpr.{SetExpr}
use Rattle.aq_set_parse.specs.declared.tree.SetFactor.{SetFactor}
use Rattle.aq_set_parse.specs.declared.tree.SetPart.{SetPart}
use Rattle.aq_set_parse.specs.declared.tree.SetExpr.TheOpen.{SetExpr-F, SetFactor-F, SetPart-F}
use Rattle.aq_set_parse.specs.declared.tree.SetExpr.TheFolds.{map-SetExpr, fold-roll-SetExpr, fold-roll-SetFactor, fold-roll-SetPart}
use Rattle.aq_set_parse.specs.declared.tree.SetExpr.TheViews.{roll-SetExpr}
use Rattle.aq_set_parse.specs.declared.tree.SetCase.{SetCase}
use Rattle.aq_set_parse.specs.declared.tree.SetItem.{SetItem}
use Rattle.aq_set_parse.specs.declared.tree.SetItem.TheVariants as items
use Rattle.aq_set_parse.specs.declared.tree.SetTree.{SetTree}
use Rattle.aq_sets.specs.declared.sets.Expr.{Expr}
use Rattle.aq_sets.specs.declared.sets.Expr.TheVariants as expr
use Rattle.aq_sets.specs.declared.sets.Term.{Term}
use Rattle.aq_set_read.specs.Coefs.{roots_of}
use Rattle.aq_set_read.specs.Gathered.{Gathered, Checked, counted, named, nothing_gathered}
use Rattle.aq_set_read.specs.Meaning.{Step, step, out_of_range, with_expr, node, ket_length, index_of, most_roots, stands_in, term_behind, term_taken, terms_taken, bracket_qubits, bracket_made, all_made, set_named, name_made, powered, Join, tensored, united, Meaning, Operand, joined, chained, expr_step, factor_step, part_step, meaning, factor_of, part_of, cases_made, same_qubits, first_qubits, cases_of, naming, with_set, with_claim, item_taken, items_taken, sets_in, sets_of}
use Rattle.aq_set_read.specs.declared.made.Made.{Made}
use Rattle.aq_set_read.specs.declared.set_fault.SetFault.{SetFault}
use Rattle.aq_set_read.specs.declared.set_fault.SetFault.TheVariants as faults
use Rattle.aq_set_read.proofs.ValidChecks.{IsOfItems}

-- ---- checks

-- a fault of items that isn't want of memory
abbrev pub IsNamed : SetFault → Type 0
IsNamed f = IsOfItems f × (f ≡ faults.Memory → ⊥)

-- the check's fault, where it has one, is of that kind
abbrev pub Told : {A : Type 0} → Checked A → Type 0
Told c = IfErr c IsNamed

then-told : {A B : Type 0} (c : Checked A) (f : A → Checked B) → Told c → ((x : A) → Told (f x)) → Told (c >>= f)
then-told (Ok x) f h k = k x
then-told (Err e) f h k = h

behind-told : {A : Type 0} (c : Checked (Unit {0})) (next : Checked A) → Told c → Told next → Told (c >> next)
behind-told (Ok u) next h k = k
behind-told (Err e) next h k = h

refuse-told : (test : Bool) (f : SetFault) → IsNamed f → Told (refuse_if test f)
refuse-told true f h = h
refuse-told false f h = tt

-- a test that refuses, and then what follows
unless-told : {A : Type 0} (test : Bool) (f : SetFault) (next : Checked A) → IsNamed f → Told next → Told (refuse_if test f >> next)
unless-told test f next h k = behind-told (refuse_if test f) next (refuse-told test f h) k

counted-told : (at : Place) (g : Gathered) → Told (counted at g)
counted-told at g = unless-told (nat_lt most_nodes (suc g.nodes)) (faults.TooManyNodes at) _ (tt, λ e. cc) tt

-- ---- nodes

node-told : (at : Place) (refused : Bool) (e : Expr) (qubits : ℕ) (g : Gathered) → Told (node at refused e qubits g)
node-told at refused e qubits g =
    unless-told refused (faults.QubitCount at) (counted at g >>= λ h. Ok (with_expr e qubits h)) (tt, λ e. cc)
    (then-told (counted at g) (λ h. Ok (with_expr e qubits h)) (counted-told at g) (λ h. tt))

term-told : (n : ℕ) (earlier : List Term) (t : SetTerm) (g : Gathered) → Told (term_taken n earlier t g)
unfolding term_taken
term-told n earlier t g =
    let last = counted t.ket.at g >>= λ h. Ok (step h (term_behind earlier t)) in
    let third = refuse_if (stands_in earlier (index_of t)) (faults.RepeatedKet t.ket.at) >> last in
    let second = refuse_if (not (ket_length t == n)) (faults.KetLength t.ket.at) >> third in
    unless-told (nat_lt most_roots (roots_of t.coef)) (faults.AmpTooWide t.at) (refuse_if (nat_lt most_qubits n) (faults.QubitCount t.ket.at) >> second) (tt, λ e. cc)
    (unless-told (nat_lt most_qubits n) (faults.QubitCount t.ket.at) second (tt, λ e. cc)
    (unless-told (not (ket_length t == n)) (faults.KetLength t.ket.at) third (tt, λ e. cc)
    (unless-told (stands_in earlier (index_of t)) (faults.RepeatedKet t.ket.at) last (tt, λ e. cc)
    (then-told (counted t.ket.at g) (λ h. Ok (step h (term_behind earlier t))) (counted-told t.ket.at g) (λ h. tt)))))

terms-told : (n : ℕ) (earlier : List Term) (ts : List SetTerm) (g : Gathered) → Told (terms_taken n earlier ts g)
terms-told n earlier [] g = tt
terms-told n earlier (t ∷ ts) g =
    then-told (term_taken n earlier t g) (λ s. terms_taken n s.value ts s.gathered) (term-told n earlier t g) (λ s. terms-told n s.value ts s.gathered)

-- ---- what is meant

abbrev IsTold : Meaning → Type 0
IsTold run = (g : Gathered) → Told (run g)

abbrev IsToldOperand : Operand → Type 0
IsToldOperand x = IsTold x.run

bracket-told : (at : Place) (terms : List SetTerm) → IsTold (bracket_made at terms)
unfolding bracket_made
bracket-told at terms g =
    let n = bracket_qubits terms in
    then-told (terms_taken n [] terms g) (λ s. node at (out_of_range n) (expr.Kets n s.value) n s.gathered) (terms-told n [] terms g)
    (λ s. node-told at (out_of_range n) (expr.Kets n s.value) n s.gathered)

all-told : (at : Place) (number : ℕ) → IsTold (all_made at number)
unfolding all_made
all-told at number = node-told at (out_of_range number) (expr.All number) number

named-told : (name : SetWord) (g : Gathered) (o : Option (Option Made)) → Told (set_named name g o)
named-told name g None = (tt, λ e. cc)
named-told name g (Some None) = (tt, λ e. cc)
named-told name g (Some (Some m)) = tt

name-told : (name : SetWord) → IsTold (name_made name)
unfolding name_made
name-told name g = named-told name g (named g.names name.text)

powered-told : (power : Option SetPower) (s : Step Made) → Told (powered power s)
powered-told None s = tt
powered-told (Some p) s =
    let qubits = s.value.qubits * p.number in
    node-told p.at (out_of_range qubits) (expr.Power s.value.expr p.number) qubits s.gathered

abbrev IsToldJoin : Join → Type 0
IsToldJoin join = (at : Place) (left right : Made) (g : Gathered) → Told (join at left right g)

tensored-told : IsToldJoin tensored
tensored-told at left right = node-told at (nat_lt most_qubits (left.qubits + right.qubits)) (expr.Tensor left.expr right.expr) (left.qubits + right.qubits)

united-told : IsToldJoin united
united-told at left right = node-told at (not (left.qubits == right.qubits)) (expr.Union left.expr right.expr) left.qubits

joined-told : (join : Join) → IsToldJoin join → (xs : List Operand) → AllByRecursion IsToldOperand xs → (s : Step Made) → Told (joined join xs s)
joined-told join told [] h s = tt
joined-told join told (x ∷ xs) h s =
    then-told (x.run s.gathered) (λ r. join x.at s.value r.value r.gathered >>= joined join xs) (h.0 s.gathered) (λ r.
    then-told (join x.at s.value r.value r.gathered) (joined join xs) (told x.at s.value r.value r.gathered) (joined-told join told xs h.1))

-- ---- the grammar

-- what holds of each text of G holds of each of many
many-all : {T A : Type 0} (G : A → List T → Type 0) (P : A → Type 0) → ((x : A) (front : List T) → G x front → P x)
    → (xs : List A) (front : List T) → IsMany G xs front → AllByRecursion P xs
many-all G P each [] front h = tt
many-all G P each (x ∷ xs) front h = (each x h.a h.left, many-all G P each xs h.b h.right)

all-mapped : {A B : Type 0} (P : B → Type 0) (f : A → B) (xs : List A) → AllByRecursion (λ (x : A). P (f x)) xs → AllByRecursion P (map f xs)
all-mapped P f [] h = tt
all-mapped P f (x ∷ xs) h = (h.0, all-mapped P f xs h.1)

-- a chain has an operand
chain-told : {A : Type 0} (m : SetMark) (at : A → Place) (G : A → List SetPiece → Type 0) (operand : A → Operand)
    → ((x : A) (front : List SetPiece) → G x front → IsToldOperand (operand x))
    → (join : Join) → IsToldJoin join → (xs : List A) (front : List SetPiece) → IsChain m at G xs front → IsTold (chained join (map operand xs))
chain-told m at G operand each join told [] front h g = absurd h
chain-told m at G operand each join told (x ∷ xs) front h g =
    then-told ((operand x).run g) (joined join (map operand xs)) (each x h.a h.left.0 g)
    (joined-told join told (map operand xs) (all-mapped IsToldOperand operand xs (many-all _ (λ (y : _). IsToldOperand (operand y)) (λ y part later. each y later.0.b later.0.right) xs h.b h.right)))

abbrev IsToldExpr : SetExpr → Type 0
IsToldExpr e = IsTold (meaning e)

-- what one level of a tree means, from what its parts mean
level-told : (y : SetExpr-F SetExpr SetFactor SetPart) → IsTold (expr_step (map-SetExpr SetExpr SetFactor SetPart Meaning Operand Operand meaning factor_of part_of y))
    → IsToldExpr (roll-SetExpr y)
level-told y = subst IsTold (sym (fold-roll-SetExpr Meaning Operand Operand expr_step factor_step part_step y))

module _ (G : SetExpr → List SetPiece → Type 0) (group : (e : SetExpr) (front : List SetPiece) → G e front → IsToldExpr e) where
  atom-told : (e : SetExpr) (front : List SetPiece) → IsAtom G e front → IsToldExpr e
  unfolding roll-SetExpr roll
  atom-told _ front (IsAtom.bracket at terms _ h) = level-told (SetExpr-F.Bracket at terms) (bracket-told at terms)
  atom-told _ front (IsAtom.all at number _ h) = level-told (SetExpr-F.All at number) (all-told at number)
  atom-told _ front (IsAtom.named name _ h) = level-told (SetExpr-F.Name name) (name-told name)
  atom-told e front (IsAtom.group _ _ h) = group e front h

  factor-told : (x : SetFactor) (front : List SetPiece) → IsPower G x front → IsToldOperand (factor_of x)
  factor-told x front h =
      let y : SetFactor-F SetExpr SetFactor SetPart = record { at = x.at; expr = x.expr; power = x.power } in
      subst IsToldOperand (sym (fold-roll-SetFactor Meaning Operand Operand expr_step factor_step part_step y)) (λ g.
      then-told (meaning x.expr g) (powered x.power) (atom-told x.expr h.a h.left g) (powered-told x.power))

  tensor-told : (e : SetExpr) (front : List SetPiece) → IsTensor G e front → IsToldExpr e
  unfolding roll-SetExpr roll
  tensor-told _ front (IsTensor.tensor factors _ h) =
      level-told (SetExpr-F.Tensor factors) (chain-told marks.Star (λ x. x.at) (IsPower G) factor_of factor-told tensored tensored-told factors front h)

  part-told : (x : SetPart) (front : List SetPiece) → IsTensor G x.expr front → IsToldOperand (part_of x)
  part-told x front h =
      let y : SetPart-F SetExpr SetFactor SetPart = record { at = x.at; expr = x.expr } in
      subst IsToldOperand (sym (fold-roll-SetPart Meaning Operand Operand expr_step factor_step part_step y)) (tensor-told x.expr front h)

  union-told : (e : SetExpr) (front : List SetPiece) → IsUnion G e front → IsToldExpr e
  unfolding roll-SetExpr roll
  union-told _ front (IsUnion.union parts _ h) =
      level-told (SetExpr-F.Union parts) (chain-told marks.Union (λ x. x.at) (λ (x : SetPart). IsTensor G x.expr) part_of part-told united united-told parts front h)

group-told : (deep : ℕ) (e : SetExpr) (front : List SetPiece) → IsGroup deep e front → IsToldExpr e
group-told zero e front h = absurd h
group-told (suc deep) e front h = union-told (IsGroup deep) (group-told deep) e h.right.a h.right.left

expr-told : (deep : ℕ) (e : SetExpr) (front : List SetPiece) → IsExpr deep e front → IsToldExpr e
expr-told deep = union-told (IsGroup deep) (group-told deep)

-- ---- items

naming-told : (name : SetWord) (g : Gathered) → Told (naming name g)
unfolding naming
naming-told name g =
    unless-told (nat_lt most_names (suc (length g.names))) (faults.TooManyNames name.at) (refuse_if (is_some (named g.names name.text)) (faults.TwiceNamed name.at)) (tt, λ e. cc)
    (refuse-told (is_some (named g.names name.text)) (faults.TwiceNamed name.at) (tt, λ e. cc))

same-told : (n : ℕ) (cases : List SetCase) (made : List Made) → Told (same_qubits n cases made)
same-told n [] made = tt
same-told n (c ∷ cs) [] = tt
same-told n (c ∷ cs) (m ∷ ms) = unless-told (not (m.qubits == n)) (faults.QubitCount c.at) (same_qubits n cs ms) (tt, λ e. cc) (same-told n cs ms)

first-told : (made : List Made) → 0 < length made → Told (first_qubits made)
first-told [] some = absurd (omega (arith, some))
first-told (m ∷ ms) some = tt

-- the expressions of a claim's cases, of which there is one or more, and then what follows
cases-told : (made : List Made) (cases : List SetCase) (g : Gathered) (next : Step (List Made) → Checked Gathered) → AllByRecursion (λ (c : SetCase). IsToldExpr c.expr) cases
    → 0 < length made + length cases → ((s : Step (List Made)) → 0 < length s.value → Told (next s)) → Told (cases_made made cases g >>= next)
cases-told made [] g next h some k = k (step g made) (omega (arith, some))
cases-told made (c ∷ cs) g next h some k =
    by (meaning c.expr g) (h.0 g) (λ s. let long = length_push made s.value in cases-told (made ++ s.value ∷ []) cs s.gathered next h.1 (omega (arith, long)) k)
  where
    more : Step Made → Checked (Step (List Made))
    more s = cases_made (made ++ s.value ∷ []) cs s.gathered

    by : (r : Checked (Step Made)) → Told r → ((s : Step Made) → Told (more s >>= next)) → Told ((r >>= more) >>= next)
    by (Ok s) t rest = rest s
    by (Err e) t rest = t

module _ (E : SetExpr → List SetPiece → Type 0) (told : (e : SetExpr) (front : List SetPiece) → E e front → IsToldExpr e) where
  claim-told : (name : SetWord) (cases : List SetCase) (front : List SetPiece) → IsCases E cases front → (g : Gathered) → Told (item_taken (items.Claim name cases) g)
  claim-told name [] front h g = absurd h
  claim-told name (c ∷ cs) front h g =
      let cases = c ∷ cs in
      let last : Step (List Made) → Checked Gathered = λ s. Ok (with_claim name.text (cases_of cases s.value) s.gathered) in
      behind-told (naming name g) _ (naming-told name g) (cases-told [] cases g (λ s. first_qubits s.value >>= λ n. same_qubits n cases s.value >> last s)
      (told c.expr h.left.0.a h.left.0.left, many-all _ (λ (x : SetCase). IsToldExpr x.expr) (λ x part later. told x.expr later.right.0.a later.right.0.left) cs h.b h.right)
      (omega arith) (λ s some.
      then-told (first_qubits s.value) (λ n. same_qubits n cases s.value >> last s) (first-told s.value some) (λ n.
      behind-told (same_qubits n cases s.value) (last s) (same-told n cases s.value) tt)))

  item-told : (x : SetItem) (front : List SetPiece) → IsItem E x front → (g : Gathered) → Told (item_taken x g)
  item-told _ front (IsItem.set name e _ h) g =
      behind-told (naming name g) (meaning e g >>= λ s. Ok (with_set name.text s)) (naming-told name g)
      (then-told (meaning e g) (λ s. Ok (with_set name.text s)) (told e h.right.a h.right.left g) (λ s. tt))
  item-told _ front (IsItem.claim name cases _ h) g = claim-told name cases h.right.a h.right.left g

abbrev IsToldItem : SetItem → Type 0
IsToldItem x = (g : Gathered) → Told (item_taken x g)

items-told : (xs : List SetItem) → AllByRecursion IsToldItem xs → (g : Gathered) → Told (items_taken xs g)
items-told [] h g = tt
items-told (x ∷ xs) h g = then-told (item_taken x g) (items_taken xs) (h.0 g) (items-told xs h.1)

-- what a tree by the grammar means, or a fault of an item that isn't want of memory
pub tree-told : (deep : ℕ) (tree : SetTree) (ts : List SetPiece) → IsFile deep tree ts → Told (sets_of tree)
unfolding sets_of
tree-told deep tree ts h =
    then-told (items_taken tree.items nothing_gathered) (λ g. Ok (sets_in g))
    (items-told tree.items (many-all (IsItem (IsExpr deep)) IsToldItem (item-told (IsExpr deep) (expr-told deep)) tree.items h.a h.left) nothing_gathered)
    (λ g. tt)
