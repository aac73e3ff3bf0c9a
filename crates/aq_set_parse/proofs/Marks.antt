-- A mark is told by its code, and what the next token is behind a text of one token.
use Rattle.std.proofs.Common.{◌≡◌, ℕ, ◌==◌, List, [], ◌∷◌, ◌++◌, Option, Some, None, Bool, true, false, refl, sym, ap, ◌∙◌, get_or, eq-eqb, ◌⊎◌, inl, inr}
use Rattle.std.proofs.lemmas.Bool.{eqb-true}
use Rattle.aq_grammar.specs.Words.{Joined, first_or, IsOptional}
use Rattle.aq_grammar.proofs.Parts.{Part, nothing, one_part, token_part, next_of}
use Rattle.aq_set_parse.specs.Piece.{SetPiece}
use Rattle.aq_set_parse.specs.Tokens.{code, is_sort, is_mark, sort_of, IsMark, mark_at, when, is_name, word_of, name_of, IsName, name_at, is_ket, ket_of, IsKet, ket_at, number_in, number_of, IsNumber, number_at, value_in, value_of, IsValue, value_at, minus_in, minus_of, IsPlusOrMinus, plus_or_minus_at}
use Rattle.aq_set_parse.specs.declared.mark.SetMark.{SetMark}
use Rattle.aq_set_parse.specs.declared.mark.SetMark.TheVariants as marks
use Rattle.aq_set_parse.specs.declared.lexeme.SetSort.{SetSort}
use Rattle.aq_set_parse.specs.declared.lexeme.SetSort.TheVariants as sorts
use Rattle.aq_set_parse.specs.declared.reader.Fault.{Fault}
use Rattle.aq_set_parse.specs.declared.reader.Fault.TheVariants as faults
use Rattle.aq_set_parse.specs.declared.tree.SetWord.{SetWord}

the_marks : List SetMark
the_marks = marks.Set ∷ marks.Claim ∷ marks.When ∷ marks.And ∷ marks.Union ∷ marks.All ∷ marks.Omega ∷ marks.Imaginary ∷ marks.Root ∷ marks.Assign ∷ marks.Equals ∷ marks.Semicolon ∷ marks.Comma ∷ marks.BracketOpen ∷ marks.BracketClose ∷ marks.ParenOpen ∷ marks.ParenClose ∷ marks.Star ∷ marks.Caret ∷ marks.Plus ∷ marks.Minus ∷ marks.Slash ∷ marks.End ∷ []

mark_of : (k : SetMark) → get_or the_marks (code k) marks.End ≡ k
unfolding the_marks
mark_of marks.Set = refl
mark_of marks.Claim = refl
mark_of marks.When = refl
mark_of marks.And = refl
mark_of marks.Union = refl
mark_of marks.All = refl
mark_of marks.Omega = refl
mark_of marks.Imaginary = refl
mark_of marks.Root = refl
mark_of marks.Assign = refl
mark_of marks.Equals = refl
mark_of marks.Semicolon = refl
mark_of marks.Comma = refl
mark_of marks.BracketOpen = refl
mark_of marks.BracketClose = refl
mark_of marks.ParenOpen = refl
mark_of marks.ParenClose = refl
mark_of marks.Star = refl
mark_of marks.Caret = refl
mark_of marks.Plus = refl
mark_of marks.Minus = refl
mark_of marks.Slash = refl
mark_of marks.End = refl

pub same_code : (k m : SetMark) → (code k == code m) ≡ true → k ≡ m
same_code k m e = sym (mark_of k) ∙ ap (λ (i : ℕ). get_or the_marks i marks.End) (eqb-true (code k) (code m) e) ∙ mark_of m

pub sort_is : (m : SetMark) (s : SetSort) → is_sort m s ≡ true → s ≡ sorts.Fixed m
sort_is m (sorts.Fixed k) e = ap sorts.Fixed (same_code k m e)
sort_is m sorts.Name e = absurd cc
sort_is m (sorts.Number n) e = absurd cc
sort_is m sorts.Ket e = absurd cc

-- ---- a token of each sort

abbrev pub like : SetSort → SetPiece
like s = record { sort = s; text = []; at = record { line = 0; column = 0 } }

pub like_mark : (m : SetMark) → is_mark m (like (sorts.Fixed m)) ≡ true
like_mark m = eq-eqb (code m) (code m) refl

-- ---- readers of one token

-- any fault but that a token is unexpected
abbrev pub Others : Fault → Type 0
Others k = k ≡ faults.Unexpected → ⊥

abbrev pub last : SetPiece → Bool
last = is_mark marks.End

no_others : Others faults.Unexpected → ⊥
no_others h = h refl

pub mark_part : (m : SetMark) → is_sort marks.End (sorts.Fixed m) ≡ false → Part Others last (mark_at m) (λ _. IsMark m) nothing
mark_part m other = one_part faults.Unexpected (is_mark m) (like (sorts.Fixed m)) (like_mark m) no_others (λ t e. ap (is_sort marks.End) (sort_is m t.sort e) ∙ other)

when_is : {A : Type 0} (b : Bool) (x y : A) → when b x ≡ Some y → b ≡ true
when_is true x y e = refl
when_is false x y e = absurd cc

name_sort : (s : SetSort) → is_name s ≡ true → s ≡ sorts.Name
name_sort (sorts.Fixed k) e = absurd cc
name_sort sorts.Name e = refl
name_sort (sorts.Number n) e = absurd cc
name_sort sorts.Ket e = absurd cc

ket_sort : (s : SetSort) → is_ket s ≡ true → s ≡ sorts.Ket
ket_sort (sorts.Fixed k) e = absurd cc
ket_sort sorts.Name e = absurd cc
ket_sort (sorts.Number n) e = absurd cc
ket_sort sorts.Ket e = refl

number_sort : (s : SetSort) (k : ℕ) → number_in s ≡ Some k → s ≡ sorts.Number k
number_sort (sorts.Fixed m) k e = absurd cc
number_sort sorts.Name k e = absurd cc
number_sort (sorts.Number n) k e = cc
number_sort sorts.Ket k e = absurd cc

-- neither a value nor a sign is the end
value_sort : (s : SetSort) (b : Bool) → value_in s ≡ Some b → is_sort marks.End s ≡ false
value_sort (sorts.Fixed k) b e = absurd cc
value_sort sorts.Name b e = refl
value_sort (sorts.Number n) b e = refl
value_sort sorts.Ket b e = refl

sign_mark_is : (k : SetMark) (b c d : Bool) → (code k == code marks.Minus) ≡ c → (code k == code marks.Plus) ≡ d → minus_in (sorts.Fixed k) ≡ Some b → (k ≡ marks.Minus) ⊎ (k ≡ marks.Plus)
sign_mark_is k b true d e f g = inl (same_code k marks.Minus e)
sign_mark_is k b false true e f g = inr (same_code k marks.Plus f)
sign_mark_is k b false false e f g = absurd cc

-- what holds of plus and of minus
pub sign_sort : (s : SetSort) (b : Bool) → minus_in s ≡ Some b → (s ≡ sorts.Fixed marks.Minus) ⊎ (s ≡ sorts.Fixed marks.Plus)
sign_sort (sorts.Fixed k) b e = elim (sign_mark_is k b (code k == code marks.Minus) (code k == code marks.Plus) refl refl e) [ inl h ↦ inl (ap sorts.Fixed h) | inr h ↦ inr (ap sorts.Fixed h) ]
sign_sort sorts.Name b e = absurd cc
sign_sort (sorts.Number n) b e = absurd cc
sign_sort sorts.Ket b e = absurd cc

pub name_part : Part Others last name_at IsName nothing
name_part = token_part faults.Unexpected name_of (like sorts.Name) (word_of (like sorts.Name)) refl no_others (λ t w e. ap (is_sort marks.End) (name_sort t.sort (when_is (is_name t.sort) (word_of t) w e)))

pub ket_part : Part Others last ket_at IsKet nothing
ket_part = token_part faults.Unexpected ket_of (like sorts.Ket) (word_of (like sorts.Ket)) refl no_others (λ t w e. ap (is_sort marks.End) (ket_sort t.sort (when_is (is_ket t.sort) (word_of t) w e)))

pub number_part : Part Others last number_at IsNumber nothing
number_part = token_part faults.Unexpected number_of (like (sorts.Number 0)) 0 refl no_others (λ t k e. ap (is_sort marks.End) (number_sort t.sort k e))

pub value_part : Part Others last value_at IsValue nothing
value_part = token_part faults.Unexpected value_of (like (sorts.Number 0)) false refl no_others (λ t b e. value_sort t.sort b e)

pub plus_or_minus_part : Part Others last plus_or_minus_at IsPlusOrMinus nothing
plus_or_minus_part = token_part faults.Unexpected minus_of (like (sorts.Fixed marks.Minus)) true refl no_others (λ t b e. elim (sign_sort t.sort b e) [ inl h ↦ ap (is_sort marks.End) h | inr h ↦ ap (is_sort marks.End) h ])

-- ---- the next token

pub mark_next : (m : SetMark) (front : List SetPiece) (n : Option SetPiece) → IsMark m front → sort_of (first_or front n) ≡ Some (sorts.Fixed m)
mark_next m front n l = ap (λ (f : List SetPiece). sort_of (first_or f n)) l.1 ∙ ap Some (sort_is m l.0.sort l.2)

pub name_next : (w : SetWord) (front : List SetPiece) (n : Option SetPiece) → IsName w front → sort_of (first_or front n) ≡ Some sorts.Name
name_next w front n l = ap (λ (f : List SetPiece). sort_of (first_or f n)) l.1 ∙ ap Some (name_sort l.0.sort (when_is (is_name l.0.sort) (word_of l.0) w l.2))

pub ket_next : (w : SetWord) (front : List SetPiece) (n : Option SetPiece) → IsKet w front → sort_of (first_or front n) ≡ Some sorts.Ket
ket_next w front n l = ap (λ (f : List SetPiece). sort_of (first_or f n)) l.1 ∙ ap Some (ket_sort l.0.sort (when_is (is_ket l.0.sort) (word_of l.0) w l.2))

pub number_next : (k : ℕ) (front : List SetPiece) (n : Option SetPiece) → IsNumber k front → sort_of (first_or front n) ≡ Some (sorts.Number k)
number_next k front n l = ap (λ (f : List SetPiece). sort_of (first_or f n)) l.1 ∙ ap Some (number_sort l.0.sort k l.2)

-- what holds of both signs
pub sign_next : (good : Option SetSort → Bool) (value : Bool) → good (Some (sorts.Fixed marks.Minus)) ≡ value → good (Some (sorts.Fixed marks.Plus)) ≡ value → (b : Bool) (front : List SetPiece) (n : Option SetPiece) → IsPlusOrMinus b front → good (sort_of (first_or front n)) ≡ value
sign_next good value minus plus b front n l =
    ap (λ (g : List SetPiece). good (sort_of (first_or g n))) l.1
    ∙ elim (sign_sort l.0.sort b l.2) [ inl h ↦ ap (λ (s : SetSort). good (Some s)) h ∙ minus | inr h ↦ ap (λ (s : SetSort). good (Some s)) h ∙ plus ]

pub after_mark : {Q : List SetPiece → Type 0} (m : SetMark) (front : List SetPiece) (n : Option SetPiece) → Joined (IsMark m) Q front → sort_of (first_or front n) ≡ Some (sorts.Fixed m)
after_mark m front n l = ap sort_of (next_of front n l) ∙ mark_next m l.a (first_or l.b n) l.left

pub after_name : {Q : List SetPiece → Type 0} (w : SetWord) (front : List SetPiece) (n : Option SetPiece) → Joined (IsName w) Q front → sort_of (first_or front n) ≡ Some sorts.Name
after_name w front n l = ap sort_of (next_of front n l) ∙ name_next w l.a (first_or l.b n) l.left

pub after_number : {Q : List SetPiece → Type 0} (k : ℕ) (front : List SetPiece) (n : Option SetPiece) → Joined (IsNumber k) Q front → sort_of (first_or front n) ≡ Some (sorts.Number k)
after_number k front n l = ap sort_of (next_of front n l) ∙ number_next k l.a (first_or l.b n) l.left

-- the next token before what may be left out
pub optional_then : {A : Type 0} {K : A → List SetPiece → Type 0} {Q : List SetPiece → Type 0} (good : Option SetSort → Bool) (value : Bool) → ((x : A) (front : List SetPiece) (n : Option SetPiece) → K x front → good (sort_of (first_or front n)) ≡ value) → (o : Option A) (front : List SetPiece) (n : Option SetPiece) (l : Joined (IsOptional K o) Q front) → good (sort_of (first_or l.b n)) ≡ value → good (sort_of (first_or front n)) ≡ value
optional_then good value h None front n l e = ap (λ (f : List SetPiece). good (sort_of (first_or f n))) (l.parts ∙ ap (λ (f : List SetPiece). f ++ l.b) l.left) ∙ e
optional_then good value h (Some x) front n l e = ap (λ o. good (sort_of o)) (next_of front n l) ∙ h x l.a (first_or l.b n) l.left
