-- The readers of what has no bodies read their rules of the grammar.
use Rattle.std.proofs.Common.{◌≡◌, ℕ, ◌<◌, List, [], ◌∷◌, ◌++◌, length, Result, Ok, Err, Option, Some, None, Bool, true, false, refl, sym, ap, subst, ◌∙◌, append_assoc, arith, length-append, ◌⊎◌, inl, inr}
use Rattle.std.specs.Prelude.{◌||◌, is_some, codes}
use Rattle.std.proofs.lemmas.List.{append-nil}
use Rattle.aq_grammar.specs.Words.{Joined, ◌⨾◌, first_or, IsOptional, IsMany, IsSeen}
use Rattle.aq_grammar.specs.Readers.{after, before, optional, mapped, switch}
use Rattle.aq_grammar.specs.Laws.{Both}
use Rattle.aq_grammar.proofs.Reading.{Mapped, Either, Switched}
use Rattle.aq_grammar.proofs.Parts.{Part, nothing, either, not_right, seen_part, renamed_part, weaker, stricter, mapped_part, same_part, both_part, after_part, before_part, optional_part, then_optional_part, choice_part, switch_part, many_part, part_goes, separated_part, one_more_goes, placed_part, next_of, longer, one_long, token_long}
use Rattle.aq_grammar.proofs.Stops.{Sinks, never-Sinks, seen-Sinks, FaultNext, mapped-Sinks, Behind, after-Sinks, before-Sinks, optional-Sinks, Passing, SwitchPlace, switch-Sinks, renamed-Sinks}
use Rattle.aq_parse.specs.Places.{Nowhere, BadLibrary, BadVersion}
use Rattle.aq_parse.specs.Piece.{Piece}
use Rattle.aq_parse.specs.Tokens.{sort_of, shows, is_mark, begins, begins_name, begins_number, begins_note, shows_name, shows_number, shows_note, IsMark, mark_at, IsName, IsNumber, number_of, IsPi, is_pi, IsValue, IsNote, note_of, note_at, place_of, taken_if, version_in, version_of, three_at, library_in, library_of, library_at}
use Rattle.aq_parse.specs.Grammar.{IsVersion, IsSize, IsSpot, IsSpots, IsSource, IsTarget, IsDivisor, IsSign, Amount, IsAngle, IsAngled, IsTest, IsHead, MaybeSpots, Simple}
use Rattle.aq_parse.specs.Reading.{size_at, spot_of, spot_at, spots_at, source_at, target_at, divisor_at, turn_at, times_turn_at, counted_of, turn_of, counted_at, amount_at, sign_at, angle_of, angle_at, angled_at, clear_of, equal_of, equals_at, clear_at, equal_at, test_at, head_at, include_of, include_at, qubit_of, qubit_at, register_at, qreg_of, qreg_at, creg_of, creg_at, bit_of, bit_at, measure_of, measure_at, reset_of, reset_at, listed, maybe_spots_at, barrier_of, barrier_at, Tail, assigns, assign_tail_at, call_tail_at, named_of, named_at, start_of, start_in, simple_by, simple_at, notes_at, version_at, forgotten, maybe_version_at}
use Rattle.aq_parse.specs.declared.mark.Mark.{Mark}
use Rattle.aq_parse.specs.declared.mark.Mark.TheVariants as marks
use Rattle.aq_parse.specs.declared.lexeme.Sort.{Sort}
use Rattle.aq_parse.specs.declared.lexeme.Sort.TheVariants as sorts
use Rattle.aq_parse.specs.declared.reader.Fault.{Fault}
use Rattle.aq_parse.specs.declared.reader.Fault.TheVariants as faults
use Rattle.aq_parse.specs.declared.reader.Start.{Start}
use Rattle.aq_parse.specs.declared.reader.Start.TheVariants as starts
use Rattle.aq_parse.specs.declared.tree.Word.{Word}
use Rattle.aq_parse.specs.declared.tree.Note.{Note}
use Rattle.aq_parse.specs.declared.tree.Spot.{Spot}
use Rattle.aq_parse.specs.declared.tree.Angle.{Angle}
use Rattle.aq_parse.specs.declared.tree.Test.{Test}
use Rattle.aq_parse.specs.declared.tree.Node.{Node}
use Rattle.aq_parse.specs.declared.tree.Node.TheVariants as nodes
use Rattle.aq_parse.proofs.Marks.{like, Others, last, mark_part, name_part, number_part, pi_part, value_part, note_part, mark_next, note_next, pi_next, after_mark, after_name, after_number}

-- ---- spots

abbrev pub spot_goes_on : Option Sort → Bool
spot_goes_on s = shows marks.BracketOpen s || false

abbrev pub spot_go : Option Piece → Bool
spot_go n = spot_goes_on (sort_of n)

pub size_part : Part Others last size_at IsSize nothing
unfolding size_at
size_part = after_part (mark_part marks.BracketOpen refl) (before_part number_part (mark_part marks.BracketClose refl) (λ front n z. refl))

pub maybe_size_part : Part Others last (optional (begins marks.BracketOpen) size_at) (IsOptional IsSize) spot_go
maybe_size_part = optional_part (begins marks.BracketOpen) size_part (λ x front n l. ap (shows marks.BracketOpen) (after_mark marks.BracketOpen front n l))

pub spot_part : Part Others last spot_at IsSpot spot_go
unfolding spot_at
spot_part = same_part spot_of (λ s. (s.name, s.index)) (λ x. refl) (λ y. refl) (both_part name_part maybe_size_part (λ y front n l e. refl))

-- a spot ends before such a mark
pub spot_ends : (m : Mark) → spot_goes_on (Some (sorts.Fixed m)) ≡ false → (front : List Piece) (n : Option Piece) → IsMark m front → spot_go (first_or front n) ≡ false
spot_ends m other front n z = ap spot_goes_on (mark_next m front n z) ∙ other

abbrev pub spots_goes_on : Option Sort → Bool
spots_goes_on s = (shows marks.Comma s || spot_goes_on s)

abbrev pub spots_go : Option Piece → Bool
spots_go n = spots_goes_on (sort_of n)

pub spots_part : Part Others last spots_at IsSpots spots_go
unfolding spots_at
spots_part = separated_part (begins marks.Comma) (mark_part marks.Comma refl) spot_part (λ front n z. ap (shows marks.Comma) (mark_next marks.Comma front n z)) (spot_ends marks.Comma refl) (λ front z. one_long (is_mark marks.Comma) front z)

pub comma_spot_goes : (ts : List Piece) (x : Spot × List Piece) → after (mark_at marks.Comma) spot_at ts ≡ Ok x → length x.1 < length ts
comma_spot_goes = one_more_goes (begins marks.Comma) (mark_part marks.Comma refl) spot_part (λ front n z. ap (shows marks.Comma) (mark_next marks.Comma front n z)) (spot_ends marks.Comma refl) (λ front z. one_long (is_mark marks.Comma) front z)

pub source_part : Part Others last source_at IsSource spot_go
unfolding source_at
source_part = after_part (mark_part marks.Assign refl) (after_part (mark_part marks.Measure refl) spot_part)

pub target_part : Part Others last target_at IsTarget spot_go
unfolding target_at
target_part = after_part (mark_part marks.Arrow refl) spot_part

-- ---- angles

pub divisor_part : Part Others last divisor_at IsDivisor nothing
unfolding divisor_at
divisor_part = after_part (mark_part marks.Slash refl) number_part

abbrev pub turn_goes_on : Option Sort → Bool
turn_goes_on s = shows marks.Slash s || false

abbrev pub turn_go : Option Piece → Bool
turn_go n = turn_goes_on (sort_of n)

abbrev pub IsTurn : Option ℕ → List Piece → Type 0
IsTurn over = IsPi ⨾ IsOptional IsDivisor over

pub turn_part : Part Others last turn_at IsTurn turn_go
unfolding turn_at
turn_part = after_part pi_part (optional_part (begins marks.Slash) divisor_part (λ x front n l. ap (shows marks.Slash) (after_mark marks.Slash front n l)))

pub times_turn_part : Part Others last times_turn_at (λ over. IsMark marks.Star ⨾ IsTurn over) turn_go
unfolding times_turn_at
times_turn_part = after_part (mark_part marks.Star refl) turn_part

abbrev pub amount_goes_on : Option Sort → Bool
amount_goes_on s = shows marks.Star s || turn_goes_on s

abbrev pub amount_go : Option Piece → Bool
amount_go n = amount_goes_on (sort_of n)

abbrev pub IsCounted : ℕ × Option (Option ℕ) → List Piece → Type 0
IsCounted = Both IsNumber (IsOptional (λ over. IsMark marks.Star ⨾ IsTurn over))

pub counted_part : Part Others last counted_at (Mapped counted_of IsCounted) amount_go
unfolding counted_at
counted_part = mapped_part counted_of (both_part number_part (optional_part (begins marks.Star) times_turn_part (λ x front n l. ap (shows marks.Star) (after_mark marks.Star front n l))) (λ y front n l e. refl))

abbrev pub IsAmount : ℕ × (Bool × ℕ) → List Piece → Type 0
IsAmount v = Amount v.0 v.1.0 v.1.1

counted_to : (v : ℕ × Option (Option ℕ)) (front : List Piece) → IsCounted v front → IsAmount (counted_of v) front
counted_to (n, None) front l = Amount.plain n front (subst (IsNumber n) (sym (l.parts ∙ ap (λ (f : List Piece). l.a ++ f) l.right ∙ append-nil l.a)) l.left)
counted_to (n, Some over) front l =
    let r = l.right in
    Amount.turn (Some n) over front (record {
      a = l.a ++ r.a;
      b = r.b;
      parts = l.parts ∙ ap (λ (f : List Piece). l.a ++ f) r.parts ∙ sym (append_assoc l.a r.a r.b);
      left = record { a = l.a; b = r.a; parts = refl; left = l.left; right = r.left };
      right = r.right;
    })

amount_to : (v : ℕ × (Bool × ℕ)) (front : List Piece) → Either (Mapped counted_of IsCounted) (Mapped turn_of IsTurn) v front → IsAmount v front
amount_to v front l =
    elim l [
      | inl h ↦ subst (λ (w : ℕ × (Bool × ℕ)). IsAmount w front) h.is (counted_to h.from front h.spelled)
      | inr h ↦ subst (λ (w : ℕ × (Bool × ℕ)). IsAmount w front) h.is (Amount.turn None h.from front (record { a = []; b = front; parts = refl; left = refl; right = h.spelled }))
    ]

amount_from : (times : ℕ) (pi : Bool) (over : ℕ) (front : List Piece) → Amount times pi over front → Either (Mapped counted_of IsCounted) (Mapped turn_of IsTurn) (times, (pi, over)) front
amount_from _ _ _ _ (Amount.plain n front l) = inl (record { from = (n, None); is = refl; spelled = record { a = front; b = []; parts = sym (append-nil front); left = l; right = refl } })
amount_from _ _ _ _ (Amount.turn (Some n) over front l) =
    let f = l.left in
    inl (record {
      from = (n, Some over);
      is = refl;
      spelled = record {
        a = f.a;
        b = f.b ++ l.b;
        parts = l.parts ∙ ap (λ (g : List Piece). g ++ l.b) f.parts ∙ append_assoc f.a f.b l.b;
        left = f.left;
        right = record { a = f.b; b = l.b; parts = refl; left = f.right; right = l.right };
      };
    })
amount_from _ _ _ _ (Amount.turn None over front l) =
    inr (record { from = over; is = refl; spelled = subst (IsTurn over) (sym (l.parts ∙ ap (λ (g : List Piece). g ++ l.b) l.left)) l.right })

counted_next : (v : ℕ × (Bool × ℕ)) (front : List Piece) (n : Option Piece) → Mapped counted_of IsCounted v front → begins_number (first_or front n) ≡ true
counted_next v front n l = ap shows_number (after_number l.from.0 front n l.spelled)

turn_next : (v : ℕ × (Bool × ℕ)) (front : List Piece) (n : Option Piece) → Mapped turn_of IsTurn v front → begins_number (first_or front n) ≡ false
turn_next v front n l = ap (λ o. shows_number (sort_of o)) (next_of front n l.spelled) ∙ pi_next shows_number false l.spelled.a (first_or l.spelled.b n) refl refl l.spelled.left

pub amount_part : Part Others last amount_at IsAmount amount_go
unfolding amount_at
amount_part = renamed_part (choice_part begins_number counted_part (stricter amount_go (mapped_part turn_of turn_part) (λ n e. not_right (shows marks.Star (sort_of n)) (turn_goes_on (sort_of n)) e)) counted_next turn_next) amount_to (λ v front l. amount_from v.0 v.1.0 v.1.1 front l)

-- an amount begins with a number or with pi
pub amount_begins : (good : Option Sort → Bool) (value : Bool) → ((k : ℕ) → good (Some (sorts.Number k)) ≡ value) → good (Some (sorts.Fixed marks.Pi)) ≡ value → good (Some (sorts.Fixed marks.PiSign)) ≡ value → (v : ℕ × (Bool × ℕ)) (front : List Piece) (n : Option Piece) → IsAmount v front → good (sort_of (first_or front n)) ≡ value
amount_begins good value number word sign v front n l =
    elim (amount_from v.0 v.1.0 v.1.1 front l) [
      | inl h ↦ ap good (after_number h.from.0 front n h.spelled) ∙ number h.from.0
      | inr h ↦ ap (λ o. good (sort_of o)) (next_of front n h.spelled) ∙ pi_next good value h.spelled.a (first_or h.spelled.b n) word sign h.spelled.left
    ]

amount_long : (v : ℕ × (Bool × ℕ)) (front : List Piece) → IsAmount v front → 0 < length front
amount_long v front l =
    elim (amount_from v.0 v.1.0 v.1.1 front l) [
      | inl h ↦ longer front h.spelled (token_long number_of h.from.0 h.spelled.a h.spelled.left)
      | inr h ↦ longer front h.spelled (one_long is_pi h.spelled.a h.spelled.left)
    ]

sign_to : (b : Bool) (front : List Piece) → Mapped is_some (IsOptional (λ (u : Unit {0}). IsMark marks.Minus)) b front → IsSign b front
sign_to b front l = subst (λ (c : Bool). IsSign c front) l.is (sign_to_at l.from front l.spelled) where
  sign_to_at : (o : Option (Unit {0})) (front : List Piece) → IsOptional (λ (u : Unit {0}). IsMark marks.Minus) o front → IsSign (is_some o) front
  sign_to_at None front l = l
  sign_to_at (Some u) front l = l

sign_from : (b : Bool) (front : List Piece) → IsSign b front → Mapped is_some (IsOptional (λ (u : Unit {0}). IsMark marks.Minus)) b front
sign_from true front l = record { from = Some tt; is = refl; spelled = l }
sign_from false front l = record { from = None; is = refl; spelled = l }

abbrev pub sign_goes_on : Option Sort → Bool
sign_goes_on s = shows marks.Minus s || false

pub sign_part : Part Others last sign_at IsSign (λ n. sign_goes_on (sort_of n))
unfolding sign_at
sign_part = renamed_part (mapped_part is_some (optional_part (begins marks.Minus) (mark_part marks.Minus refl) (λ x front n l. ap (shows marks.Minus) (mark_next marks.Minus front n l)))) sign_to sign_from

signed_long : (v : Bool × (ℕ × (Bool × ℕ))) (front : List Piece) → Both IsSign IsAmount v front → 0 < length front
signed_long v front l = let lt = amount_long v.1 l.b l.right in omega (arith, lt, ap length l.parts, length-append l.a l.b)

pub angle_part : Part Others last angle_at IsAngle amount_go
unfolding angle_at
angle_part = same_part angle_of (λ a. (a.at, (a.minus, (a.times, (a.pi, a.over))))) (λ x. refl) (λ y. refl)
    (placed_part place_of (both_part sign_part amount_part (λ v front n l e. amount_begins sign_goes_on false (λ k. refl) refl refl v front n l)) signed_long)

pub angled_part : Part Others last angled_at IsAngled nothing
unfolding angled_at
angled_part = after_part (mark_part marks.ParenOpen refl) (before_part angle_part (mark_part marks.ParenClose refl) (λ front n z. ap amount_goes_on (mark_next marks.ParenClose front n z)))

-- ---- tests

pub equals_part : Part Others last equals_at (λ v. IsMark marks.Equals ⨾ IsValue v) nothing
unfolding equals_at
equals_part = after_part (mark_part marks.Equals refl) value_part

abbrev pub test_goes_on : Option Sort → Bool
test_goes_on s = (shows marks.Equals s || false) || spot_goes_on s

abbrev pub test_go : Option Piece → Bool
test_go n = test_goes_on (sort_of n)

abbrev IsEqual : Spot × Option Bool → List Piece → Type 0
IsEqual = Both IsSpot (IsOptional (λ v. IsMark marks.Equals ⨾ IsValue v))

equal_part : Part Others last equal_at (Mapped equal_of IsEqual) test_go
unfolding equal_at
equal_part = mapped_part equal_of (then_optional_part (begins marks.Equals) spot_part equals_part
    (λ v front n l. ap (shows marks.Equals) (after_mark marks.Equals front n l))
    (λ v front n l. ap spot_goes_on (after_mark marks.Equals front n l)))

clear_part : Part Others last clear_at (Mapped clear_of (λ s. IsMark marks.Bang ⨾ IsSpot s)) spot_go
unfolding clear_at
clear_part = mapped_part clear_of (after_part (mark_part marks.Bang refl) spot_part)

equal_to : (v : Spot × Option Bool) (front : List Piece) → IsEqual v front → IsTest (equal_of v) front
equal_to (s, None) front l = IsTest.set s front (subst (IsSpot s) (sym (l.parts ∙ ap (λ (f : List Piece). l.a ++ f) l.right ∙ append-nil l.a)) l.left)
equal_to (s, Some b) front l = IsTest.equal s b front l

test_to : (t : Test) (front : List Piece) → Either (Mapped clear_of (λ s. IsMark marks.Bang ⨾ IsSpot s)) (Mapped equal_of IsEqual) t front → IsTest t front
test_to t front l =
    elim l [
      | inl h ↦ subst (λ (u : Test). IsTest u front) h.is (IsTest.clear h.from front h.spelled)
      | inr h ↦ subst (λ (u : Test). IsTest u front) h.is (equal_to h.from front h.spelled)
    ]

test_from : (t : Test) (front : List Piece) → IsTest t front → Either (Mapped clear_of (λ s. IsMark marks.Bang ⨾ IsSpot s)) (Mapped equal_of IsEqual) t front
test_from _ _ (IsTest.set s front l) = inr (record { from = (s, None); is = refl; spelled = record { a = front; b = []; parts = sym (append-nil front); left = l; right = refl } })
test_from _ _ (IsTest.clear s front l) = inl (record { from = s; is = refl; spelled = l })
test_from _ _ (IsTest.equal s b front l) = inr (record { from = (s, Some b); is = refl; spelled = l })

-- a spot begins with a name
pub after_spot : {Q : List Piece → Type 0} (s : Spot) (front : List Piece) (n : Option Piece) → Joined (IsSpot s) Q front → sort_of (first_or front n) ≡ Some sorts.Name
after_spot s front n l = ap sort_of (next_of front n l) ∙ after_name s.name l.a (first_or l.b n) l.left

pub test_part : Part Others last test_at IsTest test_go
unfolding test_at
test_part = renamed_part (choice_part (begins marks.Bang) (stricter test_go clear_part (λ n e. not_right (shows marks.Equals (sort_of n) || false) (spot_goes_on (sort_of n)) e)) equal_part
    (λ t front n l. ap (shows marks.Bang) (after_mark marks.Bang front n l.spelled))
    (λ t front n l. ap (shows marks.Bang) (after_spot l.from.0 front n l.spelled))) test_to test_from

pub head_part : (word : Mark) → is_mark marks.End (like (sorts.Fixed word)) ≡ false → Part Others last (head_at word) (IsHead word) nothing
unfolding head_at
head_part word other = after_part (mark_part word other) (after_part (mark_part marks.ParenOpen refl) (before_part test_part (mark_part marks.ParenClose refl) (λ front n z. ap test_goes_on (mark_next marks.ParenClose front n z))))

-- ---- the tokens that may not be taken

abbrev pub Deep : Fault → Type 0
Deep k = k ≡ faults.TooDeep

pub deep_other : (k : Fault) → Deep k → Others k
deep_other k e h = cc

taken_fault : (b : Bool) (k : Fault) → taken_if b ≡ Err k → k ≡ faults.NotTaken
taken_fault true k e = absurd cc
taken_fault false k e = cc

pub library_fault : (s : Sort) (text : List ℕ) (k : Fault) → library_in s text ≡ Err k → (k ≡ faults.Unexpected) ⊎ (k ≡ faults.NotTaken)
library_fault (sorts.Fixed m) text k e = inl cc
library_fault sorts.Name text k e = inl cc
library_fault (sorts.Number n) text k e = inl cc
library_fault sorts.Decimal text k e = inl cc
library_fault sorts.Quoted text k e = inr (taken_fault _ k e)
library_fault sorts.Note text k e = inl cc

library_end : (s : Sort) (text : List ℕ) (u : Unit {0}) → library_in s text ≡ Ok u → is_mark marks.End (like s) ≡ false
library_end (sorts.Fixed m) text u e = absurd cc
library_end sorts.Name text u e = refl
library_end (sorts.Number n) text u e = refl
library_end sorts.Decimal text u e = refl
library_end sorts.Quoted text u e = refl
library_end sorts.Note text u e = refl

pub version_fault : (s : Sort) (text : List ℕ) (k : Fault) → version_in s text ≡ Err k → (k ≡ faults.Unexpected) ⊎ (k ≡ faults.NotTaken)
version_fault (sorts.Fixed m) text k e = inl cc
version_fault sorts.Name text k e = inl cc
version_fault (sorts.Number n) text k e = inr (taken_fault _ k e)
version_fault sorts.Decimal text k e = inr (taken_fault _ k e)
version_fault sorts.Quoted text k e = inl cc
version_fault sorts.Note text k e = inl cc

version_end : (s : Sort) (text : List ℕ) (u : Unit {0}) → version_in s text ≡ Ok u → is_mark marks.End (like s) ≡ false
version_end (sorts.Fixed m) text u e = absurd cc
version_end sorts.Name text u e = refl
version_end (sorts.Number n) text u e = refl
version_end sorts.Decimal text u e = refl
version_end sorts.Quoted text u e = refl
version_end sorts.Note text u e = refl

not_deep : (k : Fault) → Deep k → (k ≡ faults.Unexpected) ⊎ (k ≡ faults.NotTaken) → ⊥
not_deep k e h = elim h [ inl u ↦ cc | inr u ↦ cc ]

unexpected_not_deep : Deep faults.Unexpected → ⊥
unexpected_not_deep e = cc

pub stdgates : Piece
stdgates = record { sort = sorts.Quoted; text = 34 ∷ (codes "stdgates.inc" ++ 34 ∷ []); at = record { line = 0; column = 0 } }

stdgates_taken : library_of stdgates ≡ Ok tt
unfolding stdgates
stdgates_taken = refl

pub library_part : Part Deep last library_at (IsSeen library_of) nothing
library_part = seen_part faults.Unexpected library_of stdgates tt stdgates_taken unexpected_not_deep (λ t k e f. not_deep k e (library_fault t.sort t.text k f)) (λ t u e. library_end t.sort t.text u e)

pub three_part : Part Deep last three_at (IsSeen version_of) nothing
three_part = seen_part faults.Unexpected version_of (like (sorts.Number 3)) tt refl unexpected_not_deep (λ t k e f. not_deep k e (version_fault t.sort t.text k f)) (λ t u e. version_end t.sort t.text u e)

pub version_part : Part Deep last version_at IsVersion nothing
unfolding version_at
version_part = after_part (weaker (mark_part marks.Openqasm refl) deep_other) (before_part three_part (weaker (mark_part marks.Semicolon refl) deep_other) (λ front n z. refl))

-- ---- statements

abbrev pub IsIncluded : Unit {0} → List Piece → Type 0
IsIncluded u = IsMark marks.Include ⨾ IsSeen library_of u ⨾ IsMark marks.Semicolon

include_part : Part Deep last include_at (Mapped include_of IsIncluded) nothing
unfolding include_at
include_part = mapped_part include_of (after_part (weaker (mark_part marks.Include refl) deep_other) (before_part library_part (weaker (mark_part marks.Semicolon refl) deep_other) (λ front n z. refl)))

abbrev IsQubit : Option ℕ × Word → List Piece → Type 0
IsQubit v = IsMark marks.Qubit ⨾ IsOptional IsSize v.0 ⨾ IsName v.1 ⨾ IsMark marks.Semicolon

pub qubit_part : Part Others last qubit_at (Mapped qubit_of IsQubit) nothing
unfolding qubit_at
qubit_part = mapped_part qubit_of (after_part (mark_part marks.Qubit refl) (both_part maybe_size_part (before_part name_part (mark_part marks.Semicolon refl) (λ front n z. refl)) (λ w front n l e. ap spot_goes_on (after_name w front n l))))

abbrev IsRegister : Mark → Word × Option ℕ → List Piece → Type 0
IsRegister word v = IsMark word ⨾ IsName v.0 ⨾ IsOptional IsSize v.1 ⨾ IsMark marks.Semicolon

register_part : (word : Mark) → is_mark marks.End (like (sorts.Fixed word)) ≡ false → Part Others last (register_at word) (IsRegister word) nothing
unfolding register_at
register_part word other = after_part (mark_part word other) (both_part name_part (before_part maybe_size_part (mark_part marks.Semicolon refl) (spot_ends marks.Semicolon refl)) (λ v front n l e. refl))

qreg_part : Part Others last qreg_at (Mapped qreg_of (IsRegister marks.Qreg)) nothing
unfolding qreg_at
qreg_part = mapped_part qreg_of (register_part marks.Qreg refl)

creg_part : Part Others last creg_at (Mapped creg_of (IsRegister marks.Creg)) nothing
unfolding creg_at
creg_part = mapped_part creg_of (register_part marks.Creg refl)

maybe_source_part : Part Others last (optional (begins marks.Assign) source_at) (IsOptional IsSource) (either (begins marks.Assign) spot_go)
maybe_source_part = optional_part (begins marks.Assign) source_part (λ x front n l. ap (shows marks.Assign) (after_mark marks.Assign front n l))

abbrev IsBit : Option ℕ × (Word × Option Spot) → List Piece → Type 0
IsBit v = IsMark marks.Bit ⨾ IsOptional IsSize v.0 ⨾ IsName v.1.0 ⨾ IsOptional IsSource v.1.1 ⨾ IsMark marks.Semicolon

bit_part : Part Others last bit_at (Mapped bit_of IsBit) nothing
unfolding bit_at
bit_part = mapped_part bit_of (after_part (mark_part marks.Bit refl) (both_part maybe_size_part
    (both_part name_part (before_part maybe_source_part (mark_part marks.Semicolon refl) (λ front n z. ap (λ s. shows marks.Assign s || spot_goes_on s) (mark_next marks.Semicolon front n z))) (λ v front n l e. refl))
    (λ v front n l e. ap spot_goes_on (after_name v.0 front n l))))

-- the next token before what may be left out
optional_then : {A : Type 0} {K : A → List Piece → Type 0} {Q : List Piece → Type 0} (good : Option Sort → Bool) (value : Bool) → ((x : A) (front : List Piece) (n : Option Piece) → K x front → good (sort_of (first_or front n)) ≡ value) → (o : Option A) (front : List Piece) (n : Option Piece) (l : Joined (IsOptional K o) Q front) → good (sort_of (first_or l.b n)) ≡ value → good (sort_of (first_or front n)) ≡ value
optional_then good value h None front n l e = ap (λ (f : List Piece). good (sort_of (first_or f n))) (l.parts ∙ ap (λ (f : List Piece). f ++ l.b) l.left) ∙ e
optional_then good value h (Some x) front n l e = ap (λ o. good (sort_of o)) (next_of front n l) ∙ h x l.a (first_or l.b n) l.left

maybe_target_part : Part Others last (optional (begins marks.Arrow) target_at) (IsOptional IsTarget) (either (begins marks.Arrow) spot_go)
maybe_target_part = optional_part (begins marks.Arrow) target_part (λ x front n l. ap (shows marks.Arrow) (after_mark marks.Arrow front n l))

abbrev IsMeasure : Spot × Option Spot → List Piece → Type 0
IsMeasure v = IsMark marks.Measure ⨾ IsSpot v.0 ⨾ IsOptional IsTarget v.1 ⨾ IsMark marks.Semicolon

measure_part : Part Others last measure_at (Mapped measure_of IsMeasure) nothing
unfolding measure_at
measure_part = mapped_part measure_of (after_part (mark_part marks.Measure refl) (both_part spot_part
    (before_part maybe_target_part (mark_part marks.Semicolon refl) (λ front n z. ap (λ s. shows marks.Arrow s || spot_goes_on s) (mark_next marks.Semicolon front n z)))
    (λ o front n l e. optional_then spot_goes_on false (λ x f m k. ap spot_goes_on (after_mark marks.Arrow f m k)) o front n l (spot_ends marks.Semicolon refl l.b n l.right))))

abbrev IsReset : Spot → List Piece → Type 0
IsReset s = IsMark marks.Reset ⨾ IsSpot s ⨾ IsMark marks.Semicolon

reset_part : Part Others last reset_at (Mapped reset_of IsReset) nothing
unfolding reset_at
reset_part = mapped_part reset_of (after_part (mark_part marks.Reset refl) (before_part spot_part (mark_part marks.Semicolon refl) (spot_ends marks.Semicolon refl)))

-- spots begin with a name
spots_next : (xs : List Spot) (front : List Piece) (n : Option Piece) → IsSpots xs front → sort_of (first_or front n) ≡ Some sorts.Name
spots_next [] front n l = absurd l
spots_next (x ∷ xs) front n l = after_spot x front n l

maybe_spots_to : (xs : List Spot) (front : List Piece) → Mapped listed (IsOptional IsSpots) xs front → MaybeSpots xs front
maybe_spots_to xs front l = subst (λ (ys : List Spot). MaybeSpots ys front) l.is (maybe_spots_at_to l.from front l.spelled) where
  maybe_spots_at_to : (o : Option (List Spot)) (front : List Piece) → IsOptional IsSpots o front → MaybeSpots (listed o) front
  maybe_spots_at_to None front l = l
  maybe_spots_at_to (Some []) front l = absurd l
  maybe_spots_at_to (Some (x ∷ xs)) front l = l

maybe_spots_from : (xs : List Spot) (front : List Piece) → MaybeSpots xs front → Mapped listed (IsOptional IsSpots) xs front
maybe_spots_from [] front l = record { from = None; is = refl; spelled = l }
maybe_spots_from (x ∷ xs) front l = record { from = Some (x ∷ xs); is = refl; spelled = l }

maybe_spots_part : Part Others last maybe_spots_at MaybeSpots (either begins_name spots_go)
unfolding maybe_spots_at
maybe_spots_part = renamed_part (mapped_part listed (optional_part begins_name spots_part (λ xs front n l. ap shows_name (spots_next xs front n l)))) maybe_spots_to maybe_spots_from

abbrev IsBarrier : List Spot → List Piece → Type 0
IsBarrier xs = IsMark marks.Barrier ⨾ MaybeSpots xs ⨾ IsMark marks.Semicolon

barrier_part : Part Others last barrier_at (Mapped barrier_of IsBarrier) nothing
unfolding barrier_at
barrier_part = mapped_part barrier_of (after_part (mark_part marks.Barrier refl) (before_part maybe_spots_part (mark_part marks.Semicolon refl) (λ front n z. ap (λ s. shows_name s || spots_goes_on s) (mark_next marks.Semicolon front n z))))

abbrev IsAssignTail : Option ℕ × Spot → List Piece → Type 0
IsAssignTail v = IsOptional IsSize v.0 ⨾ IsSource v.1 ⨾ IsMark marks.Semicolon

source_next : (s : Spot) (front : List Piece) (n : Option Piece) → (IsSource s ⨾ IsMark marks.Semicolon) front → sort_of (first_or front n) ≡ Some (sorts.Fixed marks.Assign)
source_next s front n l = ap sort_of (next_of front n l) ∙ after_mark marks.Assign l.a (first_or l.b n) l.left

assign_tail_part : Part Others last assign_tail_at IsAssignTail nothing
unfolding assign_tail_at
assign_tail_part = both_part maybe_size_part (before_part source_part (mark_part marks.Semicolon refl) (spot_ends marks.Semicolon refl)) (λ s front n l e. ap spot_goes_on (source_next s front n l))

abbrev IsCallTail : Option Angle × List Spot → List Piece → Type 0
IsCallTail v = IsOptional IsAngled v.0 ⨾ IsSpots v.1 ⨾ IsMark marks.Semicolon

call_spots_next : (xs : List Spot) (front : List Piece) (n : Option Piece) → (IsSpots xs ⨾ IsMark marks.Semicolon) front → sort_of (first_or front n) ≡ Some sorts.Name
call_spots_next xs front n l = ap sort_of (next_of front n l) ∙ spots_next xs l.a (first_or l.b n) l.left

call_tail_part : Part Others last call_tail_at IsCallTail nothing
unfolding call_tail_at
call_tail_part = both_part (optional_part (begins marks.ParenOpen) angled_part (λ x front n l. ap (shows marks.ParenOpen) (after_mark marks.ParenOpen front n l)))
    (before_part spots_part (mark_part marks.Semicolon refl) (λ front n z. ap spots_goes_on (mark_next marks.Semicolon front n z)))
    (λ xs front n l e. ap (λ s. shows marks.ParenOpen s || false) (call_spots_next xs front n l))

abbrev IsTail : Tail → List Piece → Type 0
IsTail = Either (Mapped inl IsAssignTail) (Mapped inr IsCallTail)

abbrev assigns_in : Option Sort → Bool
assigns_in s = shows marks.BracketOpen s || shows marks.Assign s

assign_begins : (t : Tail) (front : List Piece) (n : Option Piece) → Mapped inl IsAssignTail t front → assigns (first_or front n) ≡ true
assign_begins t front n l = optional_then assigns_in true (λ x f m k. ap assigns_in (after_mark marks.BracketOpen f m k)) l.from.0 front n l.spelled (ap assigns_in (source_next l.from.1 l.spelled.b n l.spelled.right))

call_begins : (t : Tail) (front : List Piece) (n : Option Piece) → Mapped inr IsCallTail t front → assigns (first_or front n) ≡ false
call_begins t front n l = optional_then assigns_in false (λ x f m k. ap assigns_in (after_mark marks.ParenOpen f m k)) l.from.0 front n l.spelled (ap assigns_in (call_spots_next l.from.1 l.spelled.b n l.spelled.right))

abbrev IsNamed : Word × Tail → List Piece → Type 0
IsNamed = Both IsName IsTail

named_part : Part Others last named_at (Mapped named_of IsNamed) nothing
unfolding named_at
named_part = mapped_part named_of (both_part name_part (choice_part assigns (mapped_part inl assign_tail_part) (mapped_part inr call_tail_part) assign_begins call_begins) (λ t front n l e. refl))

-- ---- which of them, by the first token

abbrev SimpleBy : Start → Node → List Piece → Type 0
SimpleBy starts.Include = Mapped include_of IsIncluded
SimpleBy starts.Qubit = Mapped qubit_of IsQubit
SimpleBy starts.Qreg = Mapped qreg_of (IsRegister marks.Qreg)
SimpleBy starts.Bit = Mapped bit_of IsBit
SimpleBy starts.Creg = Mapped creg_of (IsRegister marks.Creg)
SimpleBy starts.Measure = Mapped measure_of IsMeasure
SimpleBy starts.Reset = Mapped reset_of IsReset
SimpleBy starts.Barrier = Mapped barrier_of IsBarrier
SimpleBy starts.Named = Mapped named_of IsNamed

simple_parts : (k : Start) → Part Deep last (simple_by k) (SimpleBy k) nothing
simple_parts starts.Include = include_part
simple_parts starts.Qubit = weaker qubit_part deep_other
simple_parts starts.Qreg = weaker qreg_part deep_other
simple_parts starts.Bit = weaker bit_part deep_other
simple_parts starts.Creg = weaker creg_part deep_other
simple_parts starts.Measure = weaker measure_part deep_other
simple_parts starts.Reset = weaker reset_part deep_other
simple_parts starts.Barrier = weaker barrier_part deep_other
simple_parts starts.Named = weaker named_part deep_other

simple_begins : (k : Start) (x : Node) (front : List Piece) (n : Option Piece) → SimpleBy k x front → start_of (first_or front n) ≡ k
simple_begins starts.Include x front n l = ap start_in (after_mark marks.Include front n l.spelled)
simple_begins starts.Qubit x front n l = ap start_in (after_mark marks.Qubit front n l.spelled)
simple_begins starts.Qreg x front n l = ap start_in (after_mark marks.Qreg front n l.spelled)
simple_begins starts.Bit x front n l = ap start_in (after_mark marks.Bit front n l.spelled)
simple_begins starts.Creg x front n l = ap start_in (after_mark marks.Creg front n l.spelled)
simple_begins starts.Measure x front n l = ap start_in (after_mark marks.Measure front n l.spelled)
simple_begins starts.Reset x front n l = ap start_in (after_mark marks.Reset front n l.spelled)
simple_begins starts.Barrier x front n l = ap start_in (after_mark marks.Barrier front n l.spelled)
simple_begins starts.Named x front n l = ap start_in (after_name l.from.0 front n l.spelled)

assign_node : (v : Word × Tail) (front : List Piece) (t : Option ℕ × Spot) → Joined (IsName v.0) (IsAssignTail t) front → Simple (nodes.Measure t.1 (Some (spot_of (v.0, t.0))) true) front
assign_node v front t l =
    let r = l.right in
    Simple.assign t.1 (spot_of (v.0, t.0)) front (record {
      a = l.a ++ r.a;
      b = r.b;
      parts = l.parts ∙ ap (λ (f : List Piece). l.a ++ f) r.parts ∙ sym (append_assoc l.a r.a r.b);
      left = record { a = l.a; b = r.a; parts = refl; left = l.left; right = r.left };
      right = r.right;
    })

named_to : (v : Word × Tail) (front : List Piece) → IsNamed v front → Simple (named_of v) front
named_to v front l =
    elim l.right [
      | inl h ↦ subst (λ (t : Tail). Simple (named_of (v.0, t)) front) h.is (assign_node v front h.from (record { a = l.a; b = l.b; parts = l.parts; left = l.left; right = h.spelled }))
      | inr h ↦ subst (λ (t : Tail). Simple (named_of (v.0, t)) front) h.is (Simple.call v.0 h.from.0 h.from.1 front (record { a = l.a; b = l.b; parts = l.parts; left = l.left; right = h.spelled }))
    ]

simple_to_by : (k : Start) (x : Node) (front : List Piece) → SimpleBy k x front → Simple x front
simple_to_by starts.Include x front l = subst (λ (y : Node). Simple y front) l.is (Simple.include front l.spelled)
simple_to_by starts.Qubit x front l = subst (λ (y : Node). Simple y front) l.is (Simple.qubit l.from.1 l.from.0 front l.spelled)
simple_to_by starts.Qreg x front l = subst (λ (y : Node). Simple y front) l.is (Simple.qreg l.from.0 l.from.1 front l.spelled)
simple_to_by starts.Bit x front l = subst (λ (y : Node). Simple y front) l.is (Simple.bit l.from.1.0 l.from.0 l.from.1.1 front l.spelled)
simple_to_by starts.Creg x front l = subst (λ (y : Node). Simple y front) l.is (Simple.creg l.from.0 l.from.1 front l.spelled)
simple_to_by starts.Measure x front l = subst (λ (y : Node). Simple y front) l.is (Simple.measure l.from.0 l.from.1 front l.spelled)
simple_to_by starts.Reset x front l = subst (λ (y : Node). Simple y front) l.is (Simple.reset l.from front l.spelled)
simple_to_by starts.Barrier x front l = subst (λ (y : Node). Simple y front) l.is (Simple.barrier l.from front l.spelled)
simple_to_by starts.Named x front l = subst (λ (y : Node). Simple y front) l.is (named_to l.from front l.spelled)

simple_from : (x : Node) (front : List Piece) → Simple x front → Switched SimpleBy x front
simple_from _ _ (Simple.include front l) = (starts.Include, record { from = tt; is = refl; spelled = l })
simple_from _ _ (Simple.qubit name size front l) = (starts.Qubit, record { from = (size, name); is = refl; spelled = l })
simple_from _ _ (Simple.qreg name size front l) = (starts.Qreg, record { from = (name, size); is = refl; spelled = l })
simple_from _ _ (Simple.bit name size from front l) = (starts.Bit, record { from = (size, (name, from)); is = refl; spelled = l })
simple_from _ _ (Simple.creg name size front l) = (starts.Creg, record { from = (name, size); is = refl; spelled = l })
simple_from _ _ (Simple.assign from into front l) =
    let s = l.left in (
      starts.Named,
      record {
        from = (into.name, inl (into.index, from));
        is = refl;
        spelled = record {
          a = s.a;
          b = s.b ++ l.b;
          parts = l.parts ∙ ap (λ (f : List Piece). f ++ l.b) s.parts ∙ append_assoc s.a s.b l.b;
          left = s.left;
          right = inl (record { from = (into.index, from); is = refl; spelled = record { a = s.b; b = l.b; parts = refl; left = s.right; right = l.right } });
        };
      },
    )
simple_from _ _ (Simple.measure from into front l) = (starts.Measure, record { from = (from, into); is = refl; spelled = l })
simple_from _ _ (Simple.reset spot front l) = (starts.Reset, record { from = spot; is = refl; spelled = l })
simple_from _ _ (Simple.barrier spots front l) = (starts.Barrier, record { from = spots; is = refl; spelled = l })
simple_from _ _ (Simple.call name angle spots front l) =
    (starts.Named, record { from = (name, inr (angle, spots)); is = refl; spelled = record { a = l.a; b = l.b; parts = l.parts; left = l.left; right = inr (record { from = (angle, spots); is = refl; spelled = l.right }) } })

pub simple_part : Part Deep last simple_at Simple nothing
unfolding simple_at
simple_part = renamed_part (switch_part start_of simple_by SimpleBy simple_parts simple_begins starts.Include) (λ x front l. simple_to_by l.0 x front l.1) simple_from

-- ---- notes

pub notes_part : Part Others last notes_at (IsMany IsNote) (either begins_note nothing)
unfolding notes_at
notes_part = many_part begins_note note_part (λ x front n l. ap shows_note (note_next x front n l)) (λ x front l. token_long note_of x front l) (λ x front n l. refl)

pub note_goes : (ts : List Piece) (x : Note × List Piece) → note_at ts ≡ Ok x → length x.1 < length ts
note_goes = part_goes begins_note note_part (λ x front n l. ap shows_note (note_next x front n l)) (λ x front l. token_long note_of x front l)

-- ---- how a statement without a body begins

pub simple_first : {R : Type 0} (good : Option Sort → R) (value : R)
    → good (Some (sorts.Fixed marks.Include)) ≡ value → good (Some (sorts.Fixed marks.Qubit)) ≡ value → good (Some (sorts.Fixed marks.Qreg)) ≡ value → good (Some (sorts.Fixed marks.Bit)) ≡ value → good (Some (sorts.Fixed marks.Creg)) ≡ value
    → good (Some (sorts.Fixed marks.Measure)) ≡ value → good (Some (sorts.Fixed marks.Reset)) ≡ value → good (Some (sorts.Fixed marks.Barrier)) ≡ value → good (Some sorts.Name) ≡ value
    → (x : Node) (front : List Piece) (n : Option Piece) → Simple x front → good (sort_of (first_or front n)) ≡ value
simple_first good value include qubit qreg bit creg measure reset barrier name _ _ n (Simple.include front l) = ap good (after_mark marks.Include front n l) ∙ include
simple_first good value include qubit qreg bit creg measure reset barrier name _ _ n (Simple.qubit w size front l) = ap good (after_mark marks.Qubit front n l) ∙ qubit
simple_first good value include qubit qreg bit creg measure reset barrier name _ _ n (Simple.qreg w size front l) = ap good (after_mark marks.Qreg front n l) ∙ qreg
simple_first good value include qubit qreg bit creg measure reset barrier name _ _ n (Simple.bit w size from front l) = ap good (after_mark marks.Bit front n l) ∙ bit
simple_first good value include qubit qreg bit creg measure reset barrier name _ _ n (Simple.creg w size front l) = ap good (after_mark marks.Creg front n l) ∙ creg
simple_first good value include qubit qreg bit creg measure reset barrier name _ _ n (Simple.assign from into front l) = ap good (after_spot into front n l) ∙ name
simple_first good value include qubit qreg bit creg measure reset barrier name _ _ n (Simple.measure from into front l) = ap good (after_mark marks.Measure front n l) ∙ measure
simple_first good value include qubit qreg bit creg measure reset barrier name _ _ n (Simple.reset spot front l) = ap good (after_mark marks.Reset front n l) ∙ reset
simple_first good value include qubit qreg bit creg measure reset barrier name _ _ n (Simple.barrier spots front l) = ap good (after_mark marks.Barrier front n l) ∙ barrier
simple_first good value include qubit qreg bit creg measure reset barrier name _ _ n (Simple.call w angle spots front l) = ap good (after_name w front n l) ∙ name

-- ---- where what has no bodies is not taken

word_other : (k : Fault) → k ≡ faults.NotTaken → Others k
word_other k e h = cc

word_is_other : Others faults.NotTaken
word_is_other = word_other faults.NotTaken refl

unexpected_not_word : faults.Unexpected ≡ faults.NotTaken → ⊥
unexpected_not_word e = cc

abbrev LibraryBy : Start → List Piece → Option Piece → Type 0
LibraryBy starts.Include = Behind (mark_part marks.Include refl).context (FaultNext faults.NotTaken library_of)
LibraryBy starts.Qubit = Nowhere
LibraryBy starts.Qreg = Nowhere
LibraryBy starts.Bit = Nowhere
LibraryBy starts.Creg = Nowhere
LibraryBy starts.Measure = Nowhere
LibraryBy starts.Reset = Nowhere
LibraryBy starts.Barrier = Nowhere
LibraryBy starts.Named = Nowhere

include_sinks : Sinks faults.NotTaken include_at (LibraryBy starts.Include)
unfolding include_at
include_sinks =
    mapped-Sinks faults.NotTaken include_of (after (mark_at marks.Include) (before library_at (mark_at marks.Semicolon))) (LibraryBy starts.Include)
    (after-Sinks faults.NotTaken (mark_at marks.Include) (before library_at (mark_at marks.Semicolon)) (mark_part marks.Include refl).context (λ _. IsMark marks.Include) (FaultNext faults.NotTaken library_of) (mark_part marks.Include refl).reads ((mark_part marks.Include refl).calm faults.NotTaken word_is_other)
    (before-Sinks faults.NotTaken library_at (mark_at marks.Semicolon) (FaultNext faults.NotTaken library_of) (seen-Sinks faults.NotTaken faults.Unexpected library_of unexpected_not_word) ((mark_part marks.Semicolon refl).calm faults.NotTaken word_is_other)))

library_sinks : (k : Start) → Sinks faults.NotTaken (simple_by k) (LibraryBy k)
library_sinks starts.Include = include_sinks
library_sinks starts.Qubit = never-Sinks faults.NotTaken qubit_at (qubit_part.calm faults.NotTaken word_is_other)
library_sinks starts.Qreg = never-Sinks faults.NotTaken qreg_at (qreg_part.calm faults.NotTaken word_is_other)
library_sinks starts.Bit = never-Sinks faults.NotTaken bit_at (bit_part.calm faults.NotTaken word_is_other)
library_sinks starts.Creg = never-Sinks faults.NotTaken creg_at (creg_part.calm faults.NotTaken word_is_other)
library_sinks starts.Measure = never-Sinks faults.NotTaken measure_at (measure_part.calm faults.NotTaken word_is_other)
library_sinks starts.Reset = never-Sinks faults.NotTaken reset_at (reset_part.calm faults.NotTaken word_is_other)
library_sinks starts.Barrier = never-Sinks faults.NotTaken barrier_at (barrier_part.calm faults.NotTaken word_is_other)
library_sinks starts.Named = never-Sinks faults.NotTaken named_at (named_part.calm faults.NotTaken word_is_other)

-- a mark, and behind it a token with the fault
behind_to : (m : Mark) (other : is_mark marks.End (like (sorts.Fixed m)) ≡ false) (view : Piece → Result (Unit {0}) Fault) (front : List Piece) (n : Option Piece) → Behind (mark_part m other).context (FaultNext faults.NotTaken view) front n → IsMark m front × (t : Piece) × (n ≡ Some t) × (view t ≡ Err faults.NotTaken)
behind_to m other view front n d =
    let l = d.whole in
    let whole : front ≡ l.a = l.parts ∙ ap (λ (f : List Piece). l.a ++ f) l.right.0 ∙ append-nil l.a in
    (subst (IsMark m) (sym whole) ((mark_part m other).reads.forget l.a (first_or l.b n) d.value l.left), l.right.1, l.right.2, l.right.3)

behind_from : (m : Mark) (other : is_mark marks.End (like (sorts.Fixed m)) ≡ false) (view : Piece → Result (Unit {0}) Fault) (front : List Piece) (n : Option Piece) → IsMark m front × (t : Piece) × (n ≡ Some t) × (view t ≡ Err faults.NotTaken) → Behind (mark_part m other).context (FaultNext faults.NotTaken view) front n
behind_from m other view front n d = record { value = tt; whole = record { a = front; b = []; parts = sym (append-nil front); left = (mark_part m other).enough tt front n d.0 refl; right = (refl, d.1, d.2, d.3) } }

library_to : (k : Start) (front : List Piece) (n : Option Piece) → LibraryBy k front n → BadLibrary front n
library_to starts.Include front n d = behind_to marks.Include refl library_of front n d
library_to starts.Qubit front n d = absurd d
library_to starts.Qreg front n d = absurd d
library_to starts.Bit front n d = absurd d
library_to starts.Creg front n d = absurd d
library_to starts.Measure front n d = absurd d
library_to starts.Reset front n d = absurd d
library_to starts.Barrier front n d = absurd d
library_to starts.Named front n d = absurd d

library_from : (front : List Piece) (n : Option Piece) → BadLibrary front n → SwitchPlace start_of LibraryBy front n
library_from front n d = subst (λ (k : Start). LibraryBy k front n) (sym (ap start_in (mark_next marks.Include front n d.0))) (behind_from marks.Include refl library_of front n d)

pub simple_word-Sinks : Sinks faults.NotTaken simple_at BadLibrary
unfolding simple_at
simple_word-Sinks = renamed-Sinks faults.NotTaken (switch start_of simple_by) (SwitchPlace start_of LibraryBy) BadLibrary (switch-Sinks faults.NotTaken start_of simple_by LibraryBy library_sinks) (λ front n d. library_to (start_of (first_or front n)) front n d) library_from

version_word-Sinks : Sinks faults.NotTaken version_at (Behind (mark_part marks.Openqasm refl).context (FaultNext faults.NotTaken version_of))
unfolding version_at
version_word-Sinks =
    after-Sinks faults.NotTaken (mark_at marks.Openqasm) (before three_at (mark_at marks.Semicolon)) (mark_part marks.Openqasm refl).context (λ _. IsMark marks.Openqasm) (FaultNext faults.NotTaken version_of) (mark_part marks.Openqasm refl).reads ((mark_part marks.Openqasm refl).calm faults.NotTaken word_is_other)
    (before-Sinks faults.NotTaken three_at (mark_at marks.Semicolon) (FaultNext faults.NotTaken version_of) (seen-Sinks faults.NotTaken faults.Unexpected version_of unexpected_not_word) ((mark_part marks.Semicolon refl).calm faults.NotTaken word_is_other))

pub maybe_version_word-Sinks : Sinks faults.NotTaken maybe_version_at BadVersion
unfolding maybe_version_at
maybe_version_word-Sinks =
    let D : List Piece → Option Piece → Type 0 = Behind (mark_part marks.Openqasm refl).context (FaultNext faults.NotTaken version_of) in
    renamed-Sinks faults.NotTaken (mapped forgotten (optional (begins marks.Openqasm) version_at)) (Passing (begins marks.Openqasm) D) BadVersion
    (mapped-Sinks faults.NotTaken forgotten (optional (begins marks.Openqasm) version_at) (Passing (begins marks.Openqasm) D) (optional-Sinks faults.NotTaken (begins marks.Openqasm) version_at D version_word-Sinks))
    (λ front n d. behind_to marks.Openqasm refl version_of front n d.1)
    (λ front n d. (ap (shows marks.Openqasm) (mark_next marks.Openqasm front n d.0), behind_from marks.Openqasm refl version_of front n d))
