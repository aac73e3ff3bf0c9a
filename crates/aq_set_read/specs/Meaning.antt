-- What the items of a set file mean, in the order of the text: inner parts before outer ones, left ones before right ones.
use Rattle.std.specs.Prelude.{ℕ, suc, ◌+◌, ◌*◌, ◌-◌, ◌==◌, Bool, not, ◌||◌, List, [], ◌∷◌, ◌++◌, map, length, Option, Some, None, Ok, Err, nat_lt, take, drop, if◌then◌else◌}
use Rattle.std.specs.List.{list_any, fold}
use Rattle.std.specs.Option.{is_some}
use Rattle.aq_lex.specs.declared.place.Place.{Place}
use Rattle.aq_base.specs.Checks.{refuse_if, ◌>>=◌, ◌>>◌}
use Rattle.aq_base.specs.Limits.{most_names, most_qubits}
use Rattle.aq_set_read.specs.Gathered.{Gathered, Checked, counted, named, nothing_gathered}
use Rattle.aq_set_read.specs.Coefs.{amplitude_of, roots_of}
use Rattle.aq_set_read.specs.declared.made.Made.{Made}
use Rattle.aq_set_parse.specs.declared.tree.SetWord.{SetWord}
use Rattle.aq_set_parse.specs.declared.tree.SetTerm.{SetTerm}
use Rattle.aq_set_parse.specs.declared.tree.SetPower.{SetPower}
use Rattle.aq_set_parse.specs.declared.tree.SetExpr.{SetExpr}
use Rattle.aq_set_parse.specs.declared.tree.SetFactor.{SetFactor}
use Rattle.aq_set_parse.specs.declared.tree.SetPart.{SetPart}
use Rattle.aq_set_parse.specs.declared.tree.SetExpr.TheOpen.{SetExpr-F, SetFactor-F, SetPart-F}
use Rattle.aq_set_parse.specs.declared.tree.SetExpr.TheFolds.{fold-SetExpr, fold-SetFactor, fold-SetPart}
use Rattle.aq_set_parse.specs.declared.tree.SetCond.{SetCond}
use Rattle.aq_set_parse.specs.declared.tree.SetCase.{SetCase}
use Rattle.aq_set_parse.specs.declared.tree.SetItem.{SetItem}
use Rattle.aq_set_parse.specs.declared.tree.SetItem.TheVariants as items
use Rattle.aq_set_parse.specs.declared.tree.SetTree.{SetTree}
use Rattle.aq_sets.specs.declared.sets.Term.{Term}
use Rattle.aq_sets.specs.declared.sets.Expr.{Expr}
use Rattle.aq_sets.specs.declared.sets.Expr.TheVariants as expr
use Rattle.aq_sets.specs.declared.sets.Cond.{Cond}
use Rattle.aq_sets.specs.declared.sets.Case.{Case}
use Rattle.aq_sets.specs.declared.sets.Sets.{Sets}
use Rattle.aq_set_read.specs.declared.set_fault.SetFault.TheVariants as faults

-- ---- an expression that is put together

-- what is gathered then, and the value
pub record Step (A : Type 0) : Type 0 where
  pub gathered : Gathered
  pub value : A

abbrev pub step : {A : Type 0} → Gathered → A → Step A
step g x = record { gathered = g; value = x }

abbrev pub out_of_range : ℕ → Bool
out_of_range qubits = qubits == 0 || nat_lt most_qubits qubits

-- a new expression, behind the others
abbrev pub with_expr : Expr → ℕ → Gathered → Step Made
with_expr e qubits g = step
    (record { exprs = g.exprs ++ e ∷ []; nodes = g.nodes; names = g.names; sets = g.sets; claims = g.claims })
    (record { expr = length g.exprs; qubits = qubits })

-- a new node: its qubits are refused before it is counted
abbrev pub node : Place → Bool → Expr → ℕ → Gathered → Checked (Step Made)
node at refused e qubits g = refuse_if refused (faults.QubitCount at) >> (counted at g >>= λ h. Ok (with_expr e qubits h))

-- ---- brackets

-- the digits 0 and 1 between `|` and `>`
abbrev pub digits_of : List ℕ → List ℕ
digits_of text = take (length text - 2) (drop 1 text)

-- how many digits a term's ket has
abbrev pub ket_length : SetTerm → ℕ
ket_length t = length (digits_of t.ket.text)

-- the byte of a binary digit: `1` is one, and any other zero
abbrev pub digit : ℕ → ℕ
digit b = if b == 49 then 1 else 0

-- the number of binary digits, which are bytes
abbrev pub binary : List ℕ → ℕ
binary digits = fold (λ n b. 2 * n + digit b) 0 digits

abbrev pub index_of : SetTerm → ℕ
index_of t = binary (digits_of t.ket.text)

-- the largest exponent of a division by sqrt2
abbrev pub most_roots : ℕ
most_roots = 4294967295

abbrev pub stands_in : List Term → ℕ → Bool
stands_in terms index = list_any (λ t. index == t.index) terms

abbrev pub term_of : SetTerm → Term
term_of t = record { index = index_of t; amp = amplitude_of t.minus t.coef }

-- a term behind others
abbrev pub term_behind : List Term → SetTerm → List Term
term_behind earlier t = earlier ++ term_of t ∷ []

-- a term of a bracket of n qubits, behind others
unfoldable pub term_taken : ℕ → List Term → SetTerm → Gathered → Checked (Step (List Term))
term_taken n earlier t g =
    refuse_if (nat_lt most_roots (roots_of t.coef)) (faults.AmpTooWide t.at)
    >> refuse_if (nat_lt most_qubits n) (faults.QubitCount t.ket.at)
    >> refuse_if (not (ket_length t == n)) (faults.KetLength t.ket.at)
    >> refuse_if (stands_in earlier (index_of t)) (faults.RepeatedKet t.ket.at)
    >> (counted t.ket.at g >>= λ h. Ok (step h (term_behind earlier t)))

abbrev pub terms_taken : ℕ → List Term → List SetTerm → Gathered → Checked (Step (List Term))
terms_taken n earlier [] g = Ok (step g earlier)
terms_taken n earlier (t ∷ ts) g = term_taken n earlier t g >>= λ s. terms_taken n s.value ts s.gathered

-- the first ket tells the number of qubits
abbrev pub bracket_qubits : List SetTerm → ℕ
bracket_qubits [] = 0
bracket_qubits (t ∷ ts) = ket_length t

-- a bracket is a node behind its terms; a text's has a term, and a ket has a digit
unfoldable pub bracket_made : Place → List SetTerm → Gathered → Checked (Step Made)
bracket_made at terms g =
    terms_taken (bracket_qubits terms) [] terms g >>= λ s.
    node at (out_of_range (bracket_qubits terms)) (expr.Kets (bracket_qubits terms) s.value) (bracket_qubits terms) s.gathered

-- ---- the other expressions

unfoldable pub all_made : Place → ℕ → Gathered → Checked (Step Made)
all_made at number = node at (out_of_range number) (expr.All number) number

abbrev pub set_named : SetWord → Gathered → Option (Option Made) → Checked (Step Made)
set_named name g None = Err (faults.UnknownSet name.at)
set_named name g (Some None) = Err (faults.UnknownSet name.at)
set_named name g (Some (Some m)) = Ok (step g m)

-- an earlier set; its use is no node
unfoldable pub name_made : SetWord → Gathered → Checked (Step Made)
name_made name g = set_named name g (named g.names name.text)

abbrev pub powered : Option SetPower → Step Made → Checked (Step Made)
powered None s = Ok s
powered (Some p) s = node p.at (out_of_range (s.value.qubits * p.number)) (expr.Power s.value.expr p.number) (s.value.qubits * p.number) s.gathered

-- what two expressions make at an operator
abbrev pub Join : Type 0
Join = Place → Made → Made → Gathered → Checked (Step Made)

abbrev pub tensored : Join
tensored at left right = node at (nat_lt most_qubits (left.qubits + right.qubits)) (expr.Tensor left.expr right.expr) (left.qubits + right.qubits)

abbrev pub united : Join
united at left right = node at (not (left.qubits == right.qubits)) (expr.Union left.expr right.expr) left.qubits

-- what an expression means: it is put together behind what is gathered
abbrev pub Meaning : Type 0
Meaning = Gathered → Checked (Step Made)

-- an operand, at its operator
pub record Operand : Type 0 where
  pub at : Place
  pub run : Meaning

-- the operands behind the first, each joined to all before it
abbrev pub joined : Join → List Operand → Step Made → Checked (Step Made)
joined join [] s = Ok s
joined join (x ∷ xs) s = x.run s.gathered >>= λ r. join x.at s.value r.value r.gathered >>= joined join xs

-- operands from the left to the right; a tree has at least one
abbrev pub chained : Join → List Operand → Meaning
chained join [] g = Err faults.Memory
chained join (x ∷ xs) g = x.run g >>= joined join xs

abbrev pub expr_step : SetExpr-F Meaning Operand Operand → Meaning
expr_step (SetExpr-F.Bracket at terms) = bracket_made at terms
expr_step (SetExpr-F.All at number) = all_made at number
expr_step (SetExpr-F.Name name) = name_made name
expr_step (SetExpr-F.Tensor factors) = chained tensored factors
expr_step (SetExpr-F.Union parts) = chained united parts

abbrev pub factor_step : SetFactor-F Meaning Operand Operand → Operand
factor_step f = record { at = f.at; run = λ g. f.expr g >>= powered f.power }

abbrev pub part_step : SetPart-F Meaning Operand Operand → Operand
part_step p = record { at = p.at; run = p.expr }

abbrev pub meaning : SetExpr → Meaning
meaning = fold-SetExpr Meaning Operand Operand expr_step factor_step part_step

-- an operand of a product, and of a union
abbrev pub factor_of : SetFactor → Operand
factor_of = fold-SetFactor Meaning Operand Operand expr_step factor_step part_step

abbrev pub part_of : SetPart → Operand
part_of = fold-SetPart Meaning Operand Operand expr_step factor_step part_step

-- ---- items

abbrev pub cond_of : SetCond → Cond
cond_of c = record { bit = c.name.text; index = c.index; value = c.value }

abbrev pub case_of : SetCase → Made → Case
case_of c m = record { set = m.expr; when = map cond_of c.when }

-- the expressions of a claim's cases in order, behind those of earlier cases
abbrev pub cases_made : List Made → List SetCase → Gathered → Checked (Step (List Made))
cases_made made [] g = Ok (step g made)
cases_made made (c ∷ cs) g = meaning c.expr g >>= λ s. cases_made (made ++ s.value ∷ []) cs s.gathered

-- all have n qubits; the fault is at the first token of the first case that hasn't
abbrev pub same_qubits : ℕ → List SetCase → List Made → Checked (Unit {0})
same_qubits n (c ∷ cs) (m ∷ ms) = refuse_if (not (m.qubits == n)) (faults.QubitCount c.at) >> same_qubits n cs ms
same_qubits n cs ms = Ok tt

-- the qubits of the first; a tree's claim has at least one case
abbrev pub first_qubits : List Made → Checked ℕ
first_qubits [] = Err faults.Memory
first_qubits (m ∷ ms) = Ok m.qubits

abbrev pub cases_of : List SetCase → List Made → List Case
cases_of (c ∷ cs) (m ∷ ms) = case_of c m ∷ cases_of cs ms
cases_of cs ms = []

-- a new name
unfoldable pub naming : SetWord → Gathered → Checked (Unit {0})
naming name g =
    refuse_if (nat_lt most_names (suc (length g.names))) (faults.TooManyNames name.at)
    >> refuse_if (is_some (named g.names name.text)) (faults.TwiceNamed name.at)

abbrev pub with_set : List ℕ → Step Made → Gathered
with_set name s = record {
  exprs = s.gathered.exprs;
  nodes = s.gathered.nodes;
  names = s.gathered.names ++ (name, Some s.value) ∷ [];
  sets = s.gathered.sets ++ record { name = name; expr = s.value.expr } ∷ [];
  claims = s.gathered.claims;
}

abbrev pub with_claim : List ℕ → List Case → Gathered → Gathered
with_claim name cases g = record {
  exprs = g.exprs;
  nodes = g.nodes;
  names = g.names ++ (name, None) ∷ [];
  sets = g.sets;
  claims = g.claims ++ record { name = name; cases = cases } ∷ [];
}

abbrev pub item_taken : SetItem → Gathered → Checked Gathered
item_taken (items.Set name e) g = naming name g >> (meaning e g >>= λ s. Ok (with_set name.text s))
item_taken (items.Claim name cases) g =
    naming name g
    >> (cases_made [] cases g >>= λ s.
    first_qubits s.value >>= λ n.
    same_qubits n cases s.value
    >> Ok (with_claim name.text (cases_of cases s.value) s.gathered))

abbrev pub items_taken : List SetItem → Gathered → Checked Gathered
items_taken [] g = Ok g
items_taken (x ∷ xs) g = item_taken x g >>= items_taken xs

abbrev pub sets_in : Gathered → Sets
sets_in g = record { exprs = g.exprs; sets = g.sets; claims = g.claims }

-- What a set file's tree says, or its first fault.
unfoldable pub sets_of : SetTree → Checked Sets
sets_of tree = items_taken tree.items nothing_gathered >>= λ g. Ok (sets_in g)
