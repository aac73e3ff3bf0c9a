-- The readers of brackets, powers and conditions read their rules of the grammar.
use Rattle.std.proofs.Common.{◌≡◌, ℕ, ◌<◌, List, [], ◌∷◌, length, Ok, Option, Some, None, Bool, true, false, refl, ap, subst, ◌∙◌, arith, length-append}
use Rattle.std.specs.Prelude.{◌||◌, not}
use Rattle.aq_lex.specs.declared.place.Place.{Place}
use Rattle.aq_grammar.specs.Words.{◌⨾◌, first_or, IsOptional, IsMany, IsSeparated}
use Rattle.aq_grammar.specs.Readers.{after, optional, front_and_more}
use Rattle.aq_grammar.specs.Laws.{Both}
use Rattle.aq_grammar.proofs.Reading.{Mapped, Placed}
use Rattle.aq_grammar.proofs.Parts.{Part, nothing, renamed_part, mapped_part, same_part, both_part, after_part, before_part, optional_part, many_part, part_goes, separated_part, one_more_goes, placed_part, next_of, longer, one_long, token_long}
use Rattle.aq_set_parse.specs.Piece.{SetPiece}
use Rattle.aq_set_parse.specs.Tokens.{is_mark, sort_of, shows, shows_ket, shows_sign, begins, begins_sign, IsMark, mark_at, IsKet, ket_of, minus_of, place_of}
use Rattle.aq_set_parse.specs.SetGrammar.{IsExponent, IsCoef, IsFirstTerm, IsLaterTerm, IsTerms, IsBracket, IsAll, IsPowerOf, IsIndex, IsCond, IsWhen, IsHead}
use Rattle.aq_set_parse.specs.Reading.{coef_at, no_ket, term_at, signed_of, first_term_at, later_term_at, terms_at, bracket_at, all_at, power_of, power_at, index_at, cond_of, cond_at, conds_at, listed, when_at, head_at}
use Rattle.aq_set_parse.specs.declared.mark.SetMark.{SetMark}
use Rattle.aq_set_parse.specs.declared.mark.SetMark.TheVariants as marks
use Rattle.aq_set_parse.specs.declared.lexeme.SetSort.{SetSort}
use Rattle.aq_set_parse.specs.declared.lexeme.SetSort.TheVariants as sorts
use Rattle.aq_set_parse.specs.declared.tree.SetWord.{SetWord}
use Rattle.aq_set_parse.specs.declared.tree.SetCoef.{SetCoef}
use Rattle.aq_set_parse.specs.declared.tree.SetTerm.{SetTerm}
use Rattle.aq_set_parse.specs.declared.tree.SetCond.{SetCond}
use Rattle.aq_set_parse.proofs.Marks.{like, Others, last, mark_part, name_part, ket_part, number_part, value_part, plus_or_minus_part, mark_next, ket_next, sign_next, after_mark, optional_then}
use Rattle.aq_set_parse.proofs.ScalarLaws.{sign_goes_on, sign_part, exponent_part, coef_goes_on, coef_part, coef_next}

-- ---- terms

abbrev IsUnsigned : Option SetCoef × SetWord → List SetPiece → Type 0
IsUnsigned = Both (IsOptional IsCoef) IsKet

unsigned_long : (v : Option SetCoef × SetWord) (front : List SetPiece) → IsUnsigned v front → 0 < length front
unsigned_long v front l = let lt = token_long ket_of v.1 l.b l.right in omega (arith, lt, ap length l.parts, length-append l.a l.b)

abbrev term_goes_on : Option SetSort → Bool
term_goes_on s = not (shows_ket s) || coef_goes_on s

maybe_coef_part : Part Others last (optional no_ket coef_at) (IsOptional IsCoef) (λ n. term_goes_on (sort_of n))
maybe_coef_part = optional_part no_ket coef_part (λ x front n l. coef_next (λ s. not (shows_ket s)) true (λ k. refl) refl refl refl x front n l)

term_part : Part Others last term_at (Placed place_of IsUnsigned) nothing
unfolding term_at
term_part = placed_part place_of (both_part maybe_coef_part ket_part (λ w front n l e. ap term_goes_on (ket_next w front n l))) unsigned_long

-- how a term begins
term_next : (good : Option SetSort → Bool) (value : Bool) → ((k : ℕ) → good (Some (sorts.Number k)) ≡ value) → good (Some (sorts.Fixed marks.Omega)) ≡ value → good (Some (sorts.Fixed marks.Imaginary)) ≡ value → good (Some (sorts.Fixed marks.ParenOpen)) ≡ value → good (Some sorts.Ket) ≡ value → (v : Option SetCoef × SetWord) (front : List SetPiece) (n : Option SetPiece) → IsUnsigned v front → good (sort_of (first_or front n)) ≡ value
term_next good value number omega imaginary paren ket v front n l =
    optional_then good value (coef_next good value number omega imaginary paren) v.0 front n l (ap good (ket_next v.1 l.b n l.right) ∙ ket)

abbrev parts_of : SetTerm → Bool × (Place × (Option SetCoef × SetWord))
parts_of x = (x.minus, (x.at, (x.coef, x.ket)))

first_term_part : Part Others last first_term_at IsFirstTerm nothing
unfolding first_term_at
first_term_part = same_part signed_of parts_of (λ x. refl) (λ y. refl) (both_part sign_part term_part (λ v front n l e. term_next sign_goes_on false (λ k. refl) refl refl refl refl v.1 front n l.0))

later_term_part : Part Others last later_term_at IsLaterTerm nothing
unfolding later_term_at
later_term_part = same_part signed_of parts_of (λ x. refl) (λ y. refl) (both_part plus_or_minus_part term_part (λ v front n l e. refl))

later_term_begins : (x : SetTerm) (front : List SetPiece) (n : Option SetPiece) → IsLaterTerm x front → begins_sign (first_or front n) ≡ true
later_term_begins x front n l = ap begins_sign (next_of front n l) ∙ sign_next shows_sign true refl refl x.minus l.a (first_or l.b n) l.left

later_term_long : (x : SetTerm) (front : List SetPiece) → IsLaterTerm x front → 0 < length front
later_term_long x front l = longer front l (token_long minus_of x.minus l.a l.left)

pub later_term_goes : (ts : List SetPiece) (x : SetTerm × List SetPiece) → later_term_at ts ≡ Ok x → length x.1 < length ts
later_term_goes = part_goes begins_sign later_term_part later_term_begins later_term_long

abbrev terms_goes_on : Option SetSort → Bool
terms_goes_on s = shows_sign s || false

terms_to : (xs : List SetTerm) (front : List SetPiece) → Mapped front_and_more (Both IsFirstTerm (IsMany IsLaterTerm)) xs front → IsTerms xs front
terms_to xs front l = subst (λ (v : List SetTerm). IsTerms v front) l.is l.spelled

terms_from : (xs : List SetTerm) (front : List SetPiece) → IsTerms xs front → Mapped front_and_more (Both IsFirstTerm (IsMany IsLaterTerm)) xs front
terms_from [] front l = absurd l
terms_from (x ∷ xs) front l = record { from = (x, xs); is = refl; spelled = l }

terms_part : Part Others last terms_at IsTerms (λ n. terms_goes_on (sort_of n))
unfolding terms_at
terms_part = renamed_part (mapped_part front_and_more (both_part first_term_part (many_part begins_sign later_term_part later_term_begins later_term_long (λ x front n l. refl)) (λ xs front n l e. refl))) terms_to terms_from

pub bracket_part : Part Others last bracket_at IsBracket nothing
unfolding bracket_at
bracket_part = after_part (mark_part marks.BracketOpen refl) (before_part terms_part (mark_part marks.BracketClose refl) (λ front n z. ap terms_goes_on (mark_next marks.BracketClose front n z)))

-- ---- `all` and powers

pub all_part : Part Others last all_at IsAll nothing
unfolding all_at
all_part = after_part (mark_part marks.All refl) number_part

exponent_long : (k : ℕ) (front : List SetPiece) → IsExponent k front → 0 < length front
exponent_long k front l = longer front l (one_long (is_mark marks.Caret) l.a l.left)

pub power_part : Part Others last power_at IsPowerOf nothing
unfolding power_at
power_part = same_part power_of (λ x. (x.at, x.number)) (λ x. refl) (λ y. refl) (placed_part place_of exponent_part exponent_long)

-- ---- conditions

index_part : Part Others last index_at IsIndex nothing
unfolding index_at
index_part = after_part (mark_part marks.BracketOpen refl) (before_part number_part (mark_part marks.BracketClose refl) (λ front n z. refl))

abbrev index_goes_on : Option SetSort → Bool
index_goes_on s = shows marks.BracketOpen s || false

maybe_index_part : Part Others last (optional (begins marks.BracketOpen) index_at) (IsOptional IsIndex) (λ n. index_goes_on (sort_of n))
maybe_index_part = optional_part (begins marks.BracketOpen) index_part (λ x front n l. ap (shows marks.BracketOpen) (after_mark marks.BracketOpen front n l))

cond_part : Part Others last cond_at IsCond nothing
unfolding cond_at
cond_part = same_part cond_of (λ x. (x.name, (x.index, x.value))) (λ x. refl) (λ y. refl)
    (both_part name_part (both_part maybe_index_part (after_part (mark_part marks.Equals refl) value_part) (λ b front n l e. ap index_goes_on (after_mark marks.Equals front n l))) (λ v front n l e. refl))

abbrev conds_goes_on : Option SetSort → Bool
conds_goes_on s = shows marks.And s || false

conds_part : Part Others last conds_at (IsSeparated (IsMark marks.And) IsCond) (λ n. conds_goes_on (sort_of n))
unfolding conds_at
conds_part = separated_part (begins marks.And) (mark_part marks.And refl) cond_part (λ front n z. ap (shows marks.And) (mark_next marks.And front n z)) (λ front n z. refl) (λ front z. one_long (is_mark marks.And) front z)

pub next_cond_goes : (ts : List SetPiece) (x : SetCond × List SetPiece) → after (mark_at marks.And) cond_at ts ≡ Ok x → length x.1 < length ts
next_cond_goes = one_more_goes (begins marks.And) (mark_part marks.And refl) cond_part (λ front n z. ap (shows marks.And) (mark_next marks.And front n z)) (λ front n z. refl) (λ front z. one_long (is_mark marks.And) front z)

abbrev pub when_goes_on : Option SetSort → Bool
when_goes_on s = shows marks.When s || conds_goes_on s

abbrev IsConds : List SetCond → List SetPiece → Type 0
IsConds xs = IsMark marks.When ⨾ IsSeparated (IsMark marks.And) IsCond xs

when_to : (xs : List SetCond) (front : List SetPiece) → Mapped listed (IsOptional IsConds) xs front → IsWhen xs front
when_to xs front l = subst (λ (ys : List SetCond). IsWhen ys front) l.is (when_to_at l.from front l.spelled) where
  when_to_at : (o : Option (List SetCond)) (front : List SetPiece) → IsOptional IsConds o front → IsWhen (listed o) front
  when_to_at None front l = l
  when_to_at (Some []) front l = absurd l.right
  when_to_at (Some (x ∷ xs)) front l = l

when_from : (xs : List SetCond) (front : List SetPiece) → IsWhen xs front → Mapped listed (IsOptional IsConds) xs front
when_from [] front l = record { from = None; is = refl; spelled = l }
when_from (x ∷ xs) front l = record { from = Some (x ∷ xs); is = refl; spelled = l }

pub when_part : Part Others last when_at IsWhen (λ n. when_goes_on (sort_of n))
unfolding when_at
when_part = renamed_part (mapped_part listed (optional_part (begins marks.When) (after_part (mark_part marks.When refl) conds_part) (λ x front n l. ap (shows marks.When) (after_mark marks.When front n l)))) when_to when_from

-- what comes next behind an expression in a case
pub when_next : (good : Option SetSort → Bool) → good (Some (sorts.Fixed marks.When)) ≡ false → (xs : List SetCond) (front : List SetPiece) (n : Option SetPiece) → IsWhen xs front → good (sort_of n) ≡ false → good (sort_of (first_or front n)) ≡ false
when_next good word [] front n l e = ap (λ (f : List SetPiece). good (sort_of (first_or f n))) l ∙ e
when_next good word (x ∷ xs) front n l e = ap good (after_mark marks.When front n l) ∙ word

-- ---- the begin of an item

pub head_part : (word : SetMark) → is_mark marks.End (like (sorts.Fixed word)) ≡ false → Part Others last (head_at word) (IsHead word) nothing
unfolding head_at
head_part word other = after_part (mark_part word other) (before_part name_part (mark_part marks.Assign refl) (λ front n z. refl))
