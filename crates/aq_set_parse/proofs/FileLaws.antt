-- The readers of cases, items and files read their rules of the grammar.
use Rattle.std.proofs.Common.{◌≡◌, ℕ, suc, ◌<◌, List, length, Ok, Option, Some, Bool, true, false, refl, ap, subst, ◌∙◌, inl, inr}
use Rattle.std.specs.Prelude.{◌||◌, not}
use Rattle.aq_grammar.specs.Words.{Joined, ◌⨾◌, first_or, IsMany}
use Rattle.aq_grammar.specs.Readers.{mapped, after, before, many}
use Rattle.aq_grammar.specs.Laws.{In, Reads, Both}
use Rattle.aq_grammar.proofs.Reading.{Mapped, Either, OneIn, one-Reads, BeforeIn, before-Reads, same-Reads, renamed}
use Rattle.aq_grammar.proofs.Parts.{nothing, either, not_left, not_right, stricter, next_of, longer, one_long}
use Rattle.aq_set_parse.specs.Piece.{SetPiece}
use Rattle.aq_set_parse.specs.Tokens.{is_mark, sort_of, shows, begins, IsMark, mark_at, place_of}
use Rattle.aq_set_parse.specs.SetGrammar.{IsGroup, IsExpr, IsWhen, IsCase, IsCases, IsHead, IsItem, IsFile}
use Rattle.aq_set_parse.specs.Reading.{case_of, case_at, cases_at, set_of, set_at, claim_of, claim_at, item_at, goes_on, tree_of, file_at}
use Rattle.aq_set_parse.specs.declared.mark.SetMark.{SetMark}
use Rattle.aq_set_parse.specs.declared.mark.SetMark.TheVariants as marks
use Rattle.aq_set_parse.specs.declared.lexeme.SetSort.{SetSort}
use Rattle.aq_set_parse.specs.declared.lexeme.SetSort.TheVariants as sorts
use Rattle.aq_set_parse.specs.declared.reader.Fault.TheVariants as faults
use Rattle.aq_set_parse.specs.declared.tree.SetWord.{SetWord}
use Rattle.aq_set_parse.specs.declared.tree.SetCond.{SetCond}
use Rattle.aq_set_parse.specs.declared.tree.SetExpr.{SetExpr}
use Rattle.aq_set_parse.specs.declared.tree.SetCase.{SetCase}
use Rattle.aq_set_parse.specs.declared.tree.SetItem.{SetItem}
use Rattle.aq_set_parse.specs.declared.tree.SetTree.{SetTree}
use Rattle.aq_set_parse.proofs.Marks.{like, like_mark, last, mark_part, mark_next, after_mark}
use Rattle.aq_set_parse.proofs.TermLaws.{when_goes_on, when_part, when_next, head_part}
use Rattle.aq_set_parse.proofs.Layers.{Layer, flat, renamed_layer, mapped_layer, same_layer, both_layer, before_layer, placed_layer, choice_layer, layer_goes, many_layer, separated_layer, next_goes}
use Rattle.aq_set_parse.proofs.ExprLaws.{expr_goes_on, union_long, group_opens, expr_layer}

-- ---- cases

abbrev pub case_goes_on : Option SetSort → Bool
case_goes_on s = when_goes_on s || expr_goes_on s

abbrev pub IsAlone : (SetExpr → List SetPiece → Type 0) → SetExpr × List SetCond → List SetPiece → Type 0
IsAlone E = Both E IsWhen

pub alone_long : (deep : ℕ) (v : SetExpr × List SetCond) (front : List SetPiece) → IsAlone (IsExpr deep) v front → 0 < length front
alone_long deep v front l = longer front l (union_long (IsGroup deep) (group_opens deep) v.0 l.a l.left)

pub case_layer : (deep : ℕ) → Layer last (case_at deep) (IsCase (IsExpr deep)) (IsCase (IsExpr (suc deep))) (λ n. case_goes_on (sort_of n))
unfolding case_at
case_layer deep =
    same_layer case_of (λ x. (x.at, (x.expr, x.when))) (λ v. refl) (λ x. refl)
    (placed_layer place_of
    (both_layer (expr_layer deep) (flat (stricter (λ n. case_goes_on (sort_of n)) when_part (λ n e. not_left (when_goes_on (sort_of n)) (expr_goes_on (sort_of n)) e)))
    (λ xs front n l e. when_next expr_goes_on refl xs front n l (not_right (when_goes_on (sort_of n)) (expr_goes_on (sort_of n)) e)))
    (alone_long deep))

pub comma_begins : (front : List SetPiece) (n : Option SetPiece) → IsMark marks.Comma front → begins marks.Comma (first_or front n) ≡ true
comma_begins front n z = ap (shows marks.Comma) (mark_next marks.Comma front n z)

pub comma_calm : (front : List SetPiece) (n : Option SetPiece) → IsMark marks.Comma front → case_goes_on (sort_of (first_or front n)) ≡ false
comma_calm front n z = ap case_goes_on (mark_next marks.Comma front n z)

pub comma_long : (front : List SetPiece) → IsMark marks.Comma front → 0 < length front
comma_long front z = one_long (is_mark marks.Comma) front z

pub comma_layer : Layer last (mark_at marks.Comma) (λ _. IsMark marks.Comma) (λ _. IsMark marks.Comma) nothing
comma_layer = flat (mark_part marks.Comma refl)

abbrev pub cases_goes_on : Option SetSort → Bool
cases_goes_on s = shows marks.Comma s || case_goes_on s

pub cases_layer : (deep : ℕ) → Layer last (cases_at deep) (IsCases (IsExpr deep)) (IsCases (IsExpr (suc deep))) (λ n. cases_goes_on (sort_of n))
unfolding cases_at
cases_layer deep = separated_layer (begins marks.Comma) comma_layer (case_layer deep) comma_begins comma_calm comma_long

pub next_case_goes : (deep : ℕ) (ts : List SetPiece) (x : SetCase × List SetPiece) → after (mark_at marks.Comma) (case_at deep) ts ≡ Ok x → length x.1 < length ts
next_case_goes deep = next_goes (begins marks.Comma) comma_layer (case_layer deep) comma_begins comma_calm comma_long

-- ---- items

abbrev pub IsSetItem : (SetExpr → List SetPiece → Type 0) → SetWord × SetExpr → List SetPiece → Type 0
IsSetItem E v = IsHead marks.Set v.0 ⨾ E v.1 ⨾ IsMark marks.Semicolon

abbrev pub IsClaimItem : (SetExpr → List SetPiece → Type 0) → SetWord × List SetCase → List SetPiece → Type 0
IsClaimItem E v = IsHead marks.Claim v.0 ⨾ IsCases E v.1 ⨾ IsMark marks.Semicolon

pub after_head : {Q : List SetPiece → Type 0} (word : SetMark) (w : SetWord) (front : List SetPiece) (n : Option SetPiece) → Joined (IsHead word w) Q front → sort_of (first_or front n) ≡ Some (sorts.Fixed word)
after_head word w front n l = ap sort_of (next_of front n l) ∙ after_mark word l.a (first_or l.b n) l.left

set_layer : (deep : ℕ) → Layer last (set_at deep) (Mapped set_of (IsSetItem (IsExpr deep))) (Mapped set_of (IsSetItem (IsExpr (suc deep)))) nothing
unfolding set_at
set_layer deep = mapped_layer set_of (both_layer (flat (head_part marks.Set refl)) (before_layer (expr_layer deep) (flat (mark_part marks.Semicolon refl)) (λ front n z. ap expr_goes_on (mark_next marks.Semicolon front n z))) (λ x front n l e. refl))

claim_layer : (deep : ℕ) → Layer last (claim_at deep) (Mapped claim_of (IsClaimItem (IsExpr deep))) (Mapped claim_of (IsClaimItem (IsExpr (suc deep)))) nothing
unfolding claim_at
claim_layer deep = mapped_layer claim_of (both_layer (flat (head_part marks.Claim refl)) (before_layer (cases_layer deep) (flat (mark_part marks.Semicolon refl)) (λ front n z. ap cases_goes_on (mark_next marks.Semicolon front n z))) (λ x front n l e. refl))

item_to : (E : SetExpr → List SetPiece → Type 0) (x : SetItem) (front : List SetPiece) → Either (Mapped set_of (IsSetItem E)) (Mapped claim_of (IsClaimItem E)) x front → IsItem E x front
item_to E x front l =
    elim l [
      | inl h ↦ subst (λ (y : SetItem). IsItem E y front) h.is (IsItem.set h.from.0 h.from.1 front h.spelled)
      | inr h ↦ subst (λ (y : SetItem). IsItem E y front) h.is (IsItem.claim h.from.0 h.from.1 front h.spelled)
    ]

item_from : (E : SetExpr → List SetPiece → Type 0) (x : SetItem) (front : List SetPiece) → IsItem E x front → Either (Mapped set_of (IsSetItem E)) (Mapped claim_of (IsClaimItem E)) x front
item_from E _ _ (IsItem.set w expr front l) = inl (record { from = (w, expr); is = refl; spelled = l })
item_from E _ _ (IsItem.claim w cases front l) = inr (record { from = (w, cases); is = refl; spelled = l })

pub item_layer : (deep : ℕ) → Layer last (item_at deep) (IsItem (IsExpr deep)) (IsItem (IsExpr (suc deep))) nothing
unfolding item_at
item_layer deep = renamed_layer (choice_layer (begins marks.Set) (set_layer deep) (claim_layer deep)
    (λ x front n l. ap (shows marks.Set) (after_head marks.Set l.from.0 front n l.spelled))
    (λ x front n l. ap (shows marks.Set) (after_head marks.Claim l.from.0 front n l.spelled))) (item_to (IsExpr deep)) (item_from (IsExpr deep)) (item_to (IsExpr (suc deep)))

pub item_first : {E : SetExpr → List SetPiece → Type 0} (good : Option SetSort → Bool) (value : Bool) → good (Some (sorts.Fixed marks.Set)) ≡ value → good (Some (sorts.Fixed marks.Claim)) ≡ value → (x : SetItem) (front : List SetPiece) (n : Option SetPiece) → IsItem E x front → good (sort_of (first_or front n)) ≡ value
item_first good value one two _ _ n (IsItem.set w expr front l) = ap good (after_head marks.Set w front n l) ∙ one
item_first good value one two _ _ n (IsItem.claim w cases front l) = ap good (after_head marks.Claim w front n l) ∙ two

abbrev pub goes_on_at : Option SetSort → Bool
goes_on_at s = not (shows marks.End s)

pub item_begins : {E : SetExpr → List SetPiece → Type 0} (x : SetItem) (front : List SetPiece) (n : Option SetPiece) → IsItem E x front → goes_on (first_or front n) ≡ true
item_begins x front n l = item_first goes_on_at true refl refl x front n l

pub item_long : {E : SetExpr → List SetPiece → Type 0} (x : SetItem) (front : List SetPiece) → IsItem E x front → 0 < length front
item_long _ _ (IsItem.set w expr front l) = longer front l (longer l.a l.left (one_long (is_mark marks.Set) l.left.a l.left.left))
item_long _ _ (IsItem.claim w cases front l) = longer front l (longer l.a l.left (one_long (is_mark marks.Claim) l.left.a l.left.left))

pub items_layer : (deep : ℕ) → Layer last (many goes_on (item_at deep)) (IsMany (IsItem (IsExpr deep))) (IsMany (IsItem (IsExpr (suc deep)))) (either goes_on nothing)
items_layer deep = many_layer goes_on (item_layer deep) item_begins item_long (λ x front n l. refl)

pub item_goes : (deep : ℕ) (ts : List SetPiece) (x : SetItem × List SetPiece) → item_at deep ts ≡ Ok x → length x.1 < length ts
item_goes deep = layer_goes goes_on (item_layer deep) item_begins item_long

-- ---- files

pub end-Reads : Reads (mark_at marks.End) (OneIn (is_mark marks.End)) (λ _. IsMark marks.End)
end-Reads = one-Reads faults.Unexpected (is_mark marks.End) (like (sorts.Fixed marks.End)) (like_mark marks.End)

abbrev pub FileIn : ℕ → In SetPiece SetTree
FileIn deep tree front n = IsFile deep tree front

abbrev ListIn : ℕ → In SetPiece (List SetItem)
ListIn deep = BeforeIn (items_layer deep).context (OneIn (is_mark marks.End))

abbrev IsList : ℕ → List SetItem → List SetPiece → Type 0
IsList deep xs = IsMany (IsItem (IsExpr deep)) xs ⨾ IsMark marks.End

list-Reads : (deep : ℕ) → Reads (before (many goes_on (item_at deep)) (mark_at marks.End)) (ListIn deep) (IsList (suc deep))
list-Reads deep = before-Reads (many goes_on (item_at deep)) (mark_at marks.End) (items_layer deep).context (OneIn (is_mark marks.End)) (IsMany (IsItem (IsExpr (suc deep)))) (λ _. IsMark marks.End) (items_layer deep).reads end-Reads

abbrev items_of : SetTree → List SetItem
items_of tree = tree.items

file_to : (deep : ℕ) (tree : SetTree) (front : List SetPiece) (n : Option SetPiece) → ListIn deep (items_of tree) front n → IsFile deep tree front
file_to deep tree front n l = record { a = l.a; b = l.b; parts = l.parts; left = (items_layer deep).tight tree.items l.a (first_or l.b n) l.left; right = l.right }

file_from : (deep : ℕ) (tree : SetTree) (front : List SetPiece) (n : Option SetPiece) → IsFile deep tree front → ListIn deep (items_of tree) front n
file_from deep tree front n l = record { a = l.a; b = l.b; parts = l.parts; left = (items_layer deep).enough tree.items l.a (first_or l.b n) l.left (ap (λ s. goes_on_at s || false) (mark_next marks.End l.b n l.right)); right = l.right }

pub file-Reads : (deep : ℕ) → Reads (file_at deep) (FileIn deep) (IsFile (suc deep))
unfolding file_at
file-Reads deep =
    renamed (mapped tree_of (before (many goes_on (item_at deep)) (mark_at marks.End))) (λ tree. ListIn deep (items_of tree)) (FileIn deep) (λ tree. IsList (suc deep) (items_of tree)) (IsFile (suc deep))
    (same-Reads tree_of items_of (before (many goes_on (item_at deep)) (mark_at marks.End)) (ListIn deep) (IsList (suc deep)) (λ v. refl) (λ tree. refl) (list-Reads deep))
    (file_to deep) (file_from deep) (λ tree front l. l)
