-- A mark is told by its code, and what the next token is behind a text of one token.
use Rattle.std.proofs.Common.{◌≡◌, ℕ, ◌==◌, List, [], ◌∷◌, Option, Some, Bool, true, false, refl, sym, ap, ◌∙◌, get_or, eq-eqb, ◌⊎◌, inl, inr}
use Rattle.std.specs.Prelude.{◌||◌}
use Rattle.std.proofs.lemmas.Bool.{eqb-true}
use Rattle.aq_grammar.specs.Words.{Joined, first_or}
use Rattle.aq_grammar.proofs.Parts.{Part, nothing, one_part, token_part, next_of}
use Rattle.aq_parse.specs.Piece.{Piece}
use Rattle.aq_parse.specs.Tokens.{code, is_sort, is_mark, sort_of, IsMark, mark_at, when, is_name, word_of, name_of, IsName, name_at, number_in, number_of, IsNumber, number_at, IsPi, is_pi, pi_at, value_in, value_of, IsValue, value_at, is_note_sort, note_of, IsNote, note_at, IsEnd}
use Rattle.aq_lex.specs.declared.place.Place.{Place}
use Rattle.aq_parse.specs.declared.mark.Mark.{Mark}
use Rattle.aq_parse.specs.declared.mark.Mark.TheVariants as marks
use Rattle.aq_parse.specs.declared.lexeme.Sort.{Sort}
use Rattle.aq_parse.specs.declared.lexeme.Sort.TheVariants as sorts
use Rattle.aq_parse.specs.declared.reader.Fault.{Fault}
use Rattle.aq_parse.specs.declared.reader.Fault.TheVariants as faults
use Rattle.aq_parse.specs.declared.tree.Word.{Word}
use Rattle.aq_parse.specs.declared.tree.Note.{Note}

the_marks : List Mark
the_marks = marks.Openqasm ∷ marks.Include ∷ marks.Qubit ∷ marks.Qreg ∷ marks.Bit ∷ marks.Creg ∷ marks.Measure ∷ marks.Reset ∷ marks.Barrier ∷ marks.If ∷ marks.Else ∷ marks.While ∷ marks.Pi ∷ marks.True ∷ marks.False ∷ marks.Foreign ∷ marks.Semicolon ∷ marks.Comma ∷ marks.ParenOpen ∷ marks.ParenClose ∷ marks.BracketOpen ∷ marks.BracketClose ∷ marks.BraceOpen ∷ marks.BraceClose ∷ marks.Assign ∷ marks.Equals ∷ marks.Bang ∷ marks.Minus ∷ marks.Arrow ∷ marks.Star ∷ marks.Slash ∷ marks.At ∷ marks.PiSign ∷ marks.End ∷ []

mark_of : (k : Mark) → get_or the_marks (code k) marks.End ≡ k
unfolding the_marks
mark_of marks.Openqasm = refl
mark_of marks.Include = refl
mark_of marks.Qubit = refl
mark_of marks.Qreg = refl
mark_of marks.Bit = refl
mark_of marks.Creg = refl
mark_of marks.Measure = refl
mark_of marks.Reset = refl
mark_of marks.Barrier = refl
mark_of marks.If = refl
mark_of marks.Else = refl
mark_of marks.While = refl
mark_of marks.Pi = refl
mark_of marks.True = refl
mark_of marks.False = refl
mark_of marks.Foreign = refl
mark_of marks.Semicolon = refl
mark_of marks.Comma = refl
mark_of marks.ParenOpen = refl
mark_of marks.ParenClose = refl
mark_of marks.BracketOpen = refl
mark_of marks.BracketClose = refl
mark_of marks.BraceOpen = refl
mark_of marks.BraceClose = refl
mark_of marks.Assign = refl
mark_of marks.Equals = refl
mark_of marks.Bang = refl
mark_of marks.Minus = refl
mark_of marks.Arrow = refl
mark_of marks.Star = refl
mark_of marks.Slash = refl
mark_of marks.At = refl
mark_of marks.PiSign = refl
mark_of marks.End = refl

pub same_code : (k m : Mark) → (code k == code m) ≡ true → k ≡ m
same_code k m e = sym (mark_of k) ∙ ap (λ (i : ℕ). get_or the_marks i marks.End) (eqb-true (code k) (code m) e) ∙ mark_of m

pub sort_is : (m : Mark) (s : Sort) → is_sort m s ≡ true → s ≡ sorts.Fixed m
sort_is m (sorts.Fixed k) e = ap sorts.Fixed (same_code k m e)
sort_is m sorts.Name e = absurd cc
sort_is m (sorts.Number n) e = absurd cc
sort_is m sorts.Decimal e = absurd cc
sort_is m sorts.Quoted e = absurd cc
sort_is m sorts.Note e = absurd cc

-- ---- a token of each sort

abbrev pub like : Sort → Piece
like s = record { sort = s; text = []; at = record { line = 0; column = 0 } }

pub like_mark : (m : Mark) → is_mark m (like (sorts.Fixed m)) ≡ true
like_mark m = eq-eqb (code m) (code m) refl

-- ---- readers of one token

-- any fault but that a token is unexpected
abbrev pub Others : Fault → Type 0
Others k = k ≡ faults.Unexpected → ⊥

abbrev pub last : Piece → Bool
last = is_mark marks.End

no_others : Others faults.Unexpected → ⊥
no_others h = h refl

pub mark_part : (m : Mark) → is_sort marks.End (sorts.Fixed m) ≡ false → Part Others last (mark_at m) (λ _. IsMark m) nothing
mark_part m other = one_part faults.Unexpected (is_mark m) (like (sorts.Fixed m)) (like_mark m) no_others (λ t e. ap (is_sort marks.End) (sort_is m t.sort e) ∙ other)

when_is : {A : Type 0} (b : Bool) (x y : A) → when b x ≡ Some y → b ≡ true
when_is true x y e = refl
when_is false x y e = absurd cc

name_sort : (s : Sort) → is_name s ≡ true → s ≡ sorts.Name
name_sort (sorts.Fixed k) e = absurd cc
name_sort sorts.Name e = refl
name_sort (sorts.Number n) e = absurd cc
name_sort sorts.Decimal e = absurd cc
name_sort sorts.Quoted e = absurd cc
name_sort sorts.Note e = absurd cc

number_sort : (s : Sort) (k : ℕ) → number_in s ≡ Some k → s ≡ sorts.Number k
number_sort (sorts.Fixed m) k e = absurd cc
number_sort sorts.Name k e = absurd cc
number_sort (sorts.Number n) k e = cc
number_sort sorts.Decimal k e = absurd cc
number_sort sorts.Quoted k e = absurd cc
number_sort sorts.Note k e = absurd cc

note_sort : (s : Sort) → is_note_sort s ≡ true → s ≡ sorts.Note
note_sort (sorts.Fixed k) e = absurd cc
note_sort sorts.Name e = absurd cc
note_sort (sorts.Number n) e = absurd cc
note_sort sorts.Decimal e = absurd cc
note_sort sorts.Quoted e = absurd cc
note_sort sorts.Note e = refl

is_either : (a b : Bool) → a || b ≡ true → (a ≡ true) ⊎ (b ≡ true)
is_either true b e = inl refl
is_either false b e = inr e

-- `pi` is a word or a sign
pub pi_sort : (s : Sort) → is_sort marks.Pi s || is_sort marks.PiSign s ≡ true → (s ≡ sorts.Fixed marks.Pi) ⊎ (s ≡ sorts.Fixed marks.PiSign)
pi_sort s e = elim (is_either (is_sort marks.Pi s) (is_sort marks.PiSign s) e) [ inl h ↦ inl (sort_is marks.Pi s h) | inr h ↦ inr (sort_is marks.PiSign s h) ]

-- no value is the end
end_value : (k : Mark) (b : Bool) → value_in (sorts.Fixed k) ≡ Some b → is_sort marks.End (sorts.Fixed k) ≡ false
end_value marks.Openqasm b e = refl
end_value marks.Include b e = refl
end_value marks.Qubit b e = refl
end_value marks.Qreg b e = refl
end_value marks.Bit b e = refl
end_value marks.Creg b e = refl
end_value marks.Measure b e = refl
end_value marks.Reset b e = refl
end_value marks.Barrier b e = refl
end_value marks.If b e = refl
end_value marks.Else b e = refl
end_value marks.While b e = refl
end_value marks.Pi b e = refl
end_value marks.True b e = refl
end_value marks.False b e = refl
end_value marks.Foreign b e = refl
end_value marks.Semicolon b e = refl
end_value marks.Comma b e = refl
end_value marks.ParenOpen b e = refl
end_value marks.ParenClose b e = refl
end_value marks.BracketOpen b e = refl
end_value marks.BracketClose b e = refl
end_value marks.BraceOpen b e = refl
end_value marks.BraceClose b e = refl
end_value marks.Assign b e = refl
end_value marks.Equals b e = refl
end_value marks.Bang b e = refl
end_value marks.Minus b e = refl
end_value marks.Arrow b e = refl
end_value marks.Star b e = refl
end_value marks.Slash b e = refl
end_value marks.At b e = refl
end_value marks.PiSign b e = refl
end_value marks.End b e = absurd cc

end_sort : (s : Sort) (b : Bool) → value_in s ≡ Some b → is_sort marks.End s ≡ false
end_sort (sorts.Fixed k) b e = end_value k b e
end_sort sorts.Name b e = absurd cc
end_sort (sorts.Number n) b e = refl
end_sort sorts.Decimal b e = absurd cc
end_sort sorts.Quoted b e = absurd cc
end_sort sorts.Note b e = absurd cc

pub name_part : Part Others last name_at IsName nothing
name_part = token_part faults.Unexpected name_of (like sorts.Name) (word_of (like sorts.Name)) refl no_others (λ t w e. ap (is_sort marks.End) (name_sort t.sort (when_is (is_name t.sort) (word_of t) w e)))

pub number_part : Part Others last number_at IsNumber nothing
number_part = token_part faults.Unexpected number_of (like (sorts.Number 0)) 0 refl no_others (λ t k e. ap (is_sort marks.End) (number_sort t.sort k e))

pub pi_part : Part Others last pi_at (λ _. IsPi) nothing
pi_part = one_part faults.Unexpected is_pi (like (sorts.Fixed marks.Pi)) refl no_others (λ t e. elim (pi_sort t.sort e) [ inl h ↦ ap (is_sort marks.End) h | inr h ↦ ap (is_sort marks.End) h ])

pub value_part : Part Others last value_at IsValue nothing
value_part = token_part faults.Unexpected value_of (like (sorts.Number 0)) false refl no_others (λ t b e. end_sort t.sort b e)

pub note_part : Part Others last note_at IsNote nothing
note_part = token_part faults.Unexpected note_of (like sorts.Note) _ refl no_others (λ t x e. ap (is_sort marks.End) (note_sort t.sort (when_is (is_note_sort t.sort) _ x e)))

-- ---- the next token

pub mark_next : (m : Mark) (front : List Piece) (n : Option Piece) → IsMark m front → sort_of (first_or front n) ≡ Some (sorts.Fixed m)
mark_next m front n l = ap (λ (f : List Piece). sort_of (first_or f n)) l.1 ∙ ap Some (sort_is m l.0.sort l.2)

pub name_next : (w : Word) (front : List Piece) (n : Option Piece) → IsName w front → sort_of (first_or front n) ≡ Some sorts.Name
name_next w front n l = ap (λ (f : List Piece). sort_of (first_or f n)) l.1 ∙ ap Some (name_sort l.0.sort (when_is (is_name l.0.sort) (word_of l.0) w l.2))

pub number_next : (k : ℕ) (front : List Piece) (n : Option Piece) → IsNumber k front → sort_of (first_or front n) ≡ Some (sorts.Number k)
number_next k front n l = ap (λ (f : List Piece). sort_of (first_or f n)) l.1 ∙ ap Some (number_sort l.0.sort k l.2)

pub note_next : (x : Note) (front : List Piece) (n : Option Piece) → IsNote x front → sort_of (first_or front n) ≡ Some sorts.Note
note_next x front n l = ap (λ (f : List Piece). sort_of (first_or f n)) l.1 ∙ ap Some (note_sort l.0.sort (when_is (is_note_sort l.0.sort) _ x l.2))

-- what holds of both ways to write pi
pub pi_next : (good : Option Sort → Bool) (value : Bool) (front : List Piece) (n : Option Piece) → good (Some (sorts.Fixed marks.Pi)) ≡ value → good (Some (sorts.Fixed marks.PiSign)) ≡ value → IsPi front → good (sort_of (first_or front n)) ≡ value
pi_next good value front n e f l =
    ap (λ (g : List Piece). good (sort_of (first_or g n))) l.1
    ∙ elim (pi_sort l.0.sort l.2) [ inl h ↦ ap (λ (s : Sort). good (Some s)) h ∙ e | inr h ↦ ap (λ (s : Sort). good (Some s)) h ∙ f ]

pub after_mark : {Q : List Piece → Type 0} (m : Mark) (front : List Piece) (n : Option Piece) → Joined (IsMark m) Q front → sort_of (first_or front n) ≡ Some (sorts.Fixed m)
after_mark m front n l = ap sort_of (next_of front n l) ∙ mark_next m l.a (first_or l.b n) l.left

pub after_name : {Q : List Piece → Type 0} (w : Word) (front : List Piece) (n : Option Piece) → Joined (IsName w) Q front → sort_of (first_or front n) ≡ Some sorts.Name
after_name w front n l = ap sort_of (next_of front n l) ∙ name_next w l.a (first_or l.b n) l.left

pub after_number : {Q : List Piece → Type 0} (k : ℕ) (front : List Piece) (n : Option Piece) → Joined (IsNumber k) Q front → sort_of (first_or front n) ≡ Some (sorts.Number k)
after_number k front n l = ap sort_of (next_of front n l) ∙ number_next k l.a (first_or l.b n) l.left

pub end_next : (at : Place) (front : List Piece) (n : Option Piece) → IsEnd at front → sort_of (first_or front n) ≡ Some (sorts.Fixed marks.End)
end_next at front n l = ap (λ (f : List Piece). sort_of (first_or f n)) l.1 ∙ ap Some (sort_is marks.End l.0.sort (when_is (is_mark marks.End l.0) l.0.at at l.2))
