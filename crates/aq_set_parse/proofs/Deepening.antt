-- With more depth the readers answer the same, but where they stopped for depth.
use Rattle.std.proofs.Common.{◌≡◌, ℕ, zero, suc, ◌+◌, List, Result, Err, refl, inr, arith}
use Rattle.aq_lex.specs.declared.place.Place.{Place}
use Rattle.aq_grammar.specs.Readers.{both, mapped, after, before, switch, optional, many, front_and_more, separated, placed}
use Rattle.aq_grammar.proofs.Agreement.{Agree, same_agree, mapped_agree, both_agree, choice_agree, switch_agree, placed_agree, after_agree, before_agree, many_agree, fault_stays}
use Rattle.aq_set_parse.specs.Piece.{SetPiece}
use Rattle.aq_set_parse.specs.Tokens.{begins, mark_at, place_of}
use Rattle.aq_set_parse.specs.Reading.{Inner, opening_of, vector_at, basis_at, named_at, atom_by, atom_at, power_at, powered_at, link_at, chain_at, factor_of, factors_at, tensor_of, tensor_at, part_of, parts_at, union_of, union_at, inside_at, group_at, expr_at, when_at, case_of, case_at, cases_at, head_at, set_of, set_at, claim_of, claim_at, item_at, goes_on, tree_of, file_at}
use Rattle.aq_set_parse.specs.declared.mark.SetMark.{SetMark}
use Rattle.aq_set_parse.specs.declared.mark.SetMark.TheVariants as marks
use Rattle.aq_set_parse.specs.declared.reader.Fault.{Fault}
use Rattle.aq_set_parse.specs.declared.reader.Fault.TheVariants as faults
use Rattle.aq_set_parse.specs.declared.reader.Opening.{Opening}
use Rattle.aq_set_parse.specs.declared.reader.Opening.TheVariants as openings

abbrev Reader : Type 0 → Type 0
Reader A = List SetPiece → Result (A × List SetPiece) (Fault × List SetPiece)

link_agree : {A B : Type 0} (make : Place × A → B) (p q : Reader A) → Agree faults.TooDeep p q → Agree faults.TooDeep (link_at make p) (link_at make q)
unfolding link_at
link_agree make p q h = mapped_agree faults.TooDeep make (placed place_of p) (placed place_of q) (placed_agree faults.TooDeep place_of p q h)

next_link_agree : {A B : Type 0} (m : SetMark) (make : Place × A → B) (p q : Reader A) → Agree faults.TooDeep p q → Agree faults.TooDeep (link_at make (after (mark_at m) p)) (link_at make (after (mark_at m) q))
next_link_agree m make p q h = link_agree make (after (mark_at m) p) (after (mark_at m) q) (after_agree faults.TooDeep (mark_at m) p q h)

list_agree : {B : Type 0} (m : SetMark) (p q r s : Reader B) → Agree faults.TooDeep p q → Agree faults.TooDeep r s → Agree faults.TooDeep (mapped front_and_more (both p (many (begins m) r))) (mapped front_and_more (both q (many (begins m) s)))
list_agree m p q r s h k =
    mapped_agree faults.TooDeep front_and_more (both p (many (begins m) r)) (both q (many (begins m) s))
    (both_agree faults.TooDeep p q (many (begins m) r) (many (begins m) s) h (many_agree faults.TooDeep (begins m) r s k))

chain_agree : {A B : Type 0} (m : SetMark) (make : Place × A → B) (p q : Reader A) → Agree faults.TooDeep p q → Agree faults.TooDeep (chain_at m make p) (chain_at m make q)
unfolding chain_at
chain_agree m make p q h = list_agree m (link_at make p) (link_at make q) (link_at make (after (mark_at m) p)) (link_at make (after (mark_at m) q)) (link_agree make p q h) (next_link_agree m make p q h)

atom_by_agree : (p q : Inner) → Agree faults.TooDeep p q → (k : Opening) → Agree faults.TooDeep (atom_by p k) (atom_by q k)
atom_by_agree p q h openings.Bracket = same_agree faults.TooDeep vector_at
atom_by_agree p q h openings.All = same_agree faults.TooDeep basis_at
atom_by_agree p q h openings.Group = h
atom_by_agree p q h openings.Name = same_agree faults.TooDeep named_at

powered_agree : (p q : Inner) → Agree faults.TooDeep p q → Agree faults.TooDeep (powered_at p) (powered_at q)
unfolding powered_at atom_at
powered_agree p q h =
    both_agree faults.TooDeep (switch opening_of (atom_by p)) (switch opening_of (atom_by q)) (optional (begins marks.Caret) power_at) (optional (begins marks.Caret) power_at)
    (switch_agree faults.TooDeep opening_of (atom_by p) (atom_by q) (atom_by_agree p q h)) (same_agree faults.TooDeep (optional (begins marks.Caret) power_at))

union_agree : (p q : Inner) → Agree faults.TooDeep p q → Agree faults.TooDeep (union_at p) (union_at q)
unfolding union_at parts_at tensor_at factors_at
union_agree p q h =
    let f = mapped_agree faults.TooDeep tensor_of (chain_at marks.Star factor_of (powered_at p)) (chain_at marks.Star factor_of (powered_at q)) (chain_agree marks.Star factor_of (powered_at p) (powered_at q) (powered_agree p q h)) in
    mapped_agree faults.TooDeep union_of (chain_at marks.Union part_of (mapped tensor_of (chain_at marks.Star factor_of (powered_at p)))) (chain_at marks.Union part_of (mapped tensor_of (chain_at marks.Star factor_of (powered_at q))))
    (chain_agree marks.Union part_of (mapped tensor_of (chain_at marks.Star factor_of (powered_at p))) (mapped tensor_of (chain_at marks.Star factor_of (powered_at q))) f)

inside_agree : (p q : Inner) → Agree faults.TooDeep p q → Agree faults.TooDeep (inside_at p) (inside_at q)
unfolding inside_at
inside_agree p q h =
    after_agree faults.TooDeep (mark_at marks.ParenOpen) (before (union_at p) (mark_at marks.ParenClose)) (before (union_at q) (mark_at marks.ParenClose))
    (before_agree faults.TooDeep (mark_at marks.ParenClose) (union_at p) (union_at q) (union_agree p q h))

group_agree : (deep : ℕ) → Agree faults.TooDeep (group_at deep) (group_at (suc deep))
unfolding group_at
group_agree zero ts = inr (ts, refl)
group_agree (suc deep) ts = inside_agree (group_at deep) (group_at (suc deep)) (group_agree deep) ts

expr_agree : (deep : ℕ) → Agree faults.TooDeep (expr_at deep) (expr_at (suc deep))
unfolding expr_at
expr_agree deep = union_agree (group_at deep) (group_at (suc deep)) (group_agree deep)

case_agree : (deep : ℕ) → Agree faults.TooDeep (case_at deep) (case_at (suc deep))
unfolding case_at
case_agree deep =
    mapped_agree faults.TooDeep case_of (placed place_of (both (expr_at deep) when_at)) (placed place_of (both (expr_at (suc deep)) when_at))
    (placed_agree faults.TooDeep place_of (both (expr_at deep) when_at) (both (expr_at (suc deep)) when_at)
    (both_agree faults.TooDeep (expr_at deep) (expr_at (suc deep)) when_at when_at (expr_agree deep) (same_agree faults.TooDeep when_at)))

cases_agree : (deep : ℕ) → Agree faults.TooDeep (cases_at deep) (cases_at (suc deep))
unfolding cases_at separated
cases_agree deep = list_agree marks.Comma (case_at deep) (case_at (suc deep)) (after (mark_at marks.Comma) (case_at deep)) (after (mark_at marks.Comma) (case_at (suc deep))) (case_agree deep) (after_agree faults.TooDeep (mark_at marks.Comma) (case_at deep) (case_at (suc deep)) (case_agree deep))

item_agree : (deep : ℕ) → Agree faults.TooDeep (item_at deep) (item_at (suc deep))
unfolding item_at set_at claim_at
item_agree deep =
    choice_agree faults.TooDeep (begins marks.Set)
    (mapped set_of (both (head_at marks.Set) (before (expr_at deep) (mark_at marks.Semicolon)))) (mapped set_of (both (head_at marks.Set) (before (expr_at (suc deep)) (mark_at marks.Semicolon))))
    (mapped claim_of (both (head_at marks.Claim) (before (cases_at deep) (mark_at marks.Semicolon)))) (mapped claim_of (both (head_at marks.Claim) (before (cases_at (suc deep)) (mark_at marks.Semicolon))))
    (mapped_agree faults.TooDeep set_of (both (head_at marks.Set) (before (expr_at deep) (mark_at marks.Semicolon))) (both (head_at marks.Set) (before (expr_at (suc deep)) (mark_at marks.Semicolon)))
    (both_agree faults.TooDeep (head_at marks.Set) (head_at marks.Set) (before (expr_at deep) (mark_at marks.Semicolon)) (before (expr_at (suc deep)) (mark_at marks.Semicolon)) (same_agree faults.TooDeep (head_at marks.Set))
    (before_agree faults.TooDeep (mark_at marks.Semicolon) (expr_at deep) (expr_at (suc deep)) (expr_agree deep))))
    (mapped_agree faults.TooDeep claim_of (both (head_at marks.Claim) (before (cases_at deep) (mark_at marks.Semicolon))) (both (head_at marks.Claim) (before (cases_at (suc deep)) (mark_at marks.Semicolon)))
    (both_agree faults.TooDeep (head_at marks.Claim) (head_at marks.Claim) (before (cases_at deep) (mark_at marks.Semicolon)) (before (cases_at (suc deep)) (mark_at marks.Semicolon)) (same_agree faults.TooDeep (head_at marks.Claim))
    (before_agree faults.TooDeep (mark_at marks.Semicolon) (cases_at deep) (cases_at (suc deep)) (cases_agree deep))))

file_agree : (deep : ℕ) → Agree faults.TooDeep (file_at deep) (file_at (suc deep))
unfolding file_at
file_agree deep =
    mapped_agree faults.TooDeep tree_of (before (many goes_on (item_at deep)) (mark_at marks.End)) (before (many goes_on (item_at (suc deep))) (mark_at marks.End))
    (before_agree faults.TooDeep (mark_at marks.End) (many goes_on (item_at deep)) (many goes_on (item_at (suc deep))) (many_agree faults.TooDeep goes_on (item_at deep) (item_at (suc deep)) (item_agree deep)))

-- another fault than that of depth stays with any more depth
pub deeper_fault : (more deep : ℕ) (ts rest : List SetPiece) (k : Fault) → (k ≡ faults.TooDeep → ⊥) → file_at deep ts ≡ Err (k, rest) → file_at (more + deep) ts ≡ Err (k, rest)
deeper_fault zero deep ts rest k not e = let z : 0 + deep ≡ deep = omega arith in rw z e
deeper_fault (suc more) deep ts rest k not e =
    let z : suc more + deep ≡ suc (more + deep) = omega arith in
    rw z (fault_stays faults.TooDeep (file_at (more + deep) ts) (file_at (suc (more + deep)) ts) k rest not (file_agree (more + deep) ts) (deeper_fault more deep ts rest k not e))
