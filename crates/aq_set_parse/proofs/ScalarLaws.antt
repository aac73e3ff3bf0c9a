-- The readers of coefficients read their rules of the grammar.
use Rattle.std.proofs.Common.{◌≡◌, ℕ, List, [], ◌++◌, Option, Some, None, Bool, true, false, refl, sym, ap, subst, ◌∙◌, inl, inr}
use Rattle.std.specs.Prelude.{◌||◌, is_some}
use Rattle.std.proofs.lemmas.List.{append-nil}
use Rattle.aq_grammar.specs.Words.{◌⨾◌, first_or, IsOptional}
use Rattle.aq_grammar.specs.Laws.{Both}
use Rattle.aq_grammar.proofs.Reading.{Mapped, Either}
use Rattle.aq_grammar.proofs.Parts.{Part, nothing, not_right, renamed_part, stricter, mapped_part, same_part, both_part, after_part, before_part, optional_part, then_optional_part, choice_part, next_of}
use Rattle.aq_set_parse.specs.Piece.{SetPiece}
use Rattle.aq_set_parse.specs.Tokens.{sort_of, shows, begins, begins_number, shows_number, IsMark, IsNumber}
use Rattle.aq_set_parse.specs.SetGrammar.{IsSign, IsInt, IsNextInt, or_one, IsExponent, IsScalar, IsRoots, IsCoef}
use Rattle.aq_set_parse.specs.Reading.{sign_at, int_of, int_at, exponent_at, maybe_exponent_at, omega_of, omega_at, imaginary_of, imaginary_at, turn_at, begins_turn, counted_of, counted_at, turned_of, next_int_at, quadruple_of, quadruple_at, uncounted_at, scalar_at, roots_at, coef_of, coef_at}
use Rattle.aq_set_parse.specs.declared.mark.SetMark.TheVariants as marks
use Rattle.aq_set_parse.specs.declared.lexeme.SetSort.{SetSort}
use Rattle.aq_set_parse.specs.declared.lexeme.SetSort.TheVariants as sorts
use Rattle.aq_set_parse.specs.declared.tree.SetInt.{SetInt}
use Rattle.aq_set_parse.specs.declared.tree.SetTurn.{SetTurn}
use Rattle.aq_set_parse.specs.declared.tree.SetTurn.TheVariants as turns
use Rattle.aq_set_parse.specs.declared.tree.SetScalar.{SetScalar}
use Rattle.aq_set_parse.specs.declared.tree.SetScalar.TheVariants as scalars
use Rattle.aq_set_parse.specs.declared.tree.SetCoef.{SetCoef}
use Rattle.aq_set_parse.proofs.Marks.{Others, last, mark_part, number_part, mark_next, after_mark, after_number}

-- ---- numbers with signs, exponents

sign_to : (b : Bool) (front : List SetPiece) → Mapped is_some (IsOptional (λ (u : Unit {0}). IsMark marks.Minus)) b front → IsSign b front
sign_to b front l = subst (λ (c : Bool). IsSign c front) l.is (sign_to_at l.from front l.spelled) where
  sign_to_at : (o : Option (Unit {0})) (front : List SetPiece) → IsOptional (λ (u : Unit {0}). IsMark marks.Minus) o front → IsSign (is_some o) front
  sign_to_at None front l = l
  sign_to_at (Some u) front l = l

sign_from : (b : Bool) (front : List SetPiece) → IsSign b front → Mapped is_some (IsOptional (λ (u : Unit {0}). IsMark marks.Minus)) b front
sign_from true front l = record { from = Some tt; is = refl; spelled = l }
sign_from false front l = record { from = None; is = refl; spelled = l }

abbrev pub sign_goes_on : Option SetSort → Bool
sign_goes_on s = shows marks.Minus s || false

pub sign_part : Part Others last sign_at IsSign (λ n. sign_goes_on (sort_of n))
unfolding sign_at
sign_part = renamed_part (mapped_part is_some (optional_part (begins marks.Minus) (mark_part marks.Minus refl) (λ x front n l. ap (shows marks.Minus) (mark_next marks.Minus front n l)))) sign_to sign_from

int_part : Part Others last int_at IsInt nothing
unfolding int_at
int_part = same_part int_of (λ x. (x.minus, x.number)) (λ x. refl) (λ y. refl) (both_part sign_part number_part (λ k front n l e. ap sign_goes_on (number_first k front n l))) where
  number_first : (k : ℕ) (front : List SetPiece) (n : Option SetPiece) → IsNumber k front → sort_of (first_or front n) ≡ Some (sorts.Number k)
  number_first k front n l = after_number {Q = λ f. f ≡ []} k front n (record { a = front; b = []; parts = sym (append-nil front); left = l; right = refl })

next_int_part : Part Others last next_int_at IsNextInt nothing
unfolding next_int_at
next_int_part = after_part (mark_part marks.Comma refl) int_part

pub exponent_part : Part Others last exponent_at IsExponent nothing
unfolding exponent_at
exponent_part = after_part (mark_part marks.Caret refl) number_part

abbrev pub exponent_goes_on : Option SetSort → Bool
exponent_goes_on s = shows marks.Caret s || false

abbrev pub exponent_go : Option SetPiece → Bool
exponent_go n = exponent_goes_on (sort_of n)

abbrev MaybeExponent : ℕ → List SetPiece → Type 0
MaybeExponent = Mapped or_one (IsOptional IsExponent)

maybe_exponent_part : Part Others last maybe_exponent_at MaybeExponent exponent_go
unfolding maybe_exponent_at
maybe_exponent_part = mapped_part or_one (optional_part (begins marks.Caret) exponent_part (λ x front n l. ap (shows marks.Caret) (after_mark marks.Caret front n l)))

-- ---- `w` and `i`

abbrev IsOmega : ℕ → List SetPiece → Type 0
IsOmega n = IsMark marks.Omega ⨾ MaybeExponent n

omega_part : Part Others last omega_at (Mapped omega_of IsOmega) exponent_go
unfolding omega_at
omega_part = mapped_part omega_of (after_part (mark_part marks.Omega refl) maybe_exponent_part)

abbrev IsImaginary : Unit {0} → List SetPiece → Type 0
IsImaginary u = IsMark marks.Imaginary

imaginary_part : Part Others last imaginary_at (Mapped imaginary_of IsImaginary) exponent_go
unfolding imaginary_at
imaginary_part = stricter exponent_go (mapped_part imaginary_of (mark_part marks.Imaginary refl)) (λ n e. refl)

abbrev IsTurn : SetTurn → List SetPiece → Type 0
IsTurn = Either (Mapped omega_of IsOmega) (Mapped imaginary_of IsImaginary)

turn_part : Part Others last turn_at IsTurn exponent_go
unfolding turn_at
turn_part = choice_part (begins marks.Omega) omega_part imaginary_part
    (λ x front n l. ap (shows marks.Omega) (after_mark marks.Omega front n l.spelled))
    (λ x front n l. ap (shows marks.Omega) (mark_next marks.Imaginary front n l.spelled))

turn_next : (good : Option SetSort → Bool) (value : Bool) → good (Some (sorts.Fixed marks.Omega)) ≡ value → good (Some (sorts.Fixed marks.Imaginary)) ≡ value → (x : SetTurn) (front : List SetPiece) (n : Option SetPiece) → IsTurn x front → good (sort_of (first_or front n)) ≡ value
turn_next good value omega imaginary x front n l = elim l [ inl h ↦ ap good (after_mark marks.Omega front n h.spelled) ∙ omega | inr h ↦ ap good (mark_next marks.Imaginary front n h.spelled) ∙ imaginary ]

-- ---- scalars

abbrev turn_shows : Option SetSort → Bool
turn_shows s = shows marks.Omega s || shows marks.Imaginary s

abbrev pub scalar_goes_on : Option SetSort → Bool
scalar_goes_on s = turn_shows s || exponent_goes_on s

abbrev pub scalar_go : Option SetPiece → Bool
scalar_go n = scalar_goes_on (sort_of n)

abbrev IsCounted : ℕ × Option SetTurn → List SetPiece → Type 0
IsCounted = Both IsNumber (IsOptional IsTurn)

counted_part : Part Others last counted_at (Mapped counted_of IsCounted) scalar_go
unfolding counted_at
counted_part = mapped_part counted_of (both_part number_part (optional_part begins_turn turn_part (λ x front n l. turn_next turn_shows true refl refl x front n l)) (λ y front n l e. refl))

abbrev IsFour : SetInt × (SetInt × (SetInt × SetInt)) → List SetPiece → Type 0
IsFour v = IsMark marks.ParenOpen ⨾ IsInt v.0 ⨾ IsNextInt v.1.0 ⨾ IsNextInt v.1.1.0 ⨾ IsNextInt v.1.1.1 ⨾ IsMark marks.ParenClose

quadruple_part : Part Others last quadruple_at (Mapped quadruple_of IsFour) nothing
unfolding quadruple_at
quadruple_part = mapped_part quadruple_of (after_part (mark_part marks.ParenOpen refl) (both_part int_part (both_part next_int_part (both_part next_int_part (before_part next_int_part (mark_part marks.ParenClose refl) (λ front n z. refl)) (λ v front n l e. refl)) (λ v front n l e. refl)) (λ v front n l e. refl)))

abbrev IsUncounted : SetScalar → List SetPiece → Type 0
IsUncounted = Either (Mapped quadruple_of IsFour) (Mapped turned_of IsTurn)

uncounted_part : Part Others last uncounted_at IsUncounted exponent_go
unfolding uncounted_at
uncounted_part = choice_part (begins marks.ParenOpen) (stricter exponent_go quadruple_part (λ n e. refl)) (mapped_part turned_of turn_part)
    (λ x front n l. ap (shows marks.ParenOpen) (after_mark marks.ParenOpen front n l.spelled))
    (λ x front n l. turn_next (shows marks.ParenOpen) false refl refl l.from front n l.spelled)

turn_to : (times : Option ℕ) (turn : SetTurn) (a b front : List SetPiece) → front ≡ a ++ b → IsOptional IsNumber times a → IsTurn turn b → IsScalar (scalars.Turned (or_one times) turn) front
turn_to times turn a b front parts left l =
    elim l [
      | inl h ↦
          let s = h.spelled in
          subst (λ (t : SetTurn). IsScalar (scalars.Turned (or_one times) t) front) (ap omega_of s.right.is ∙ h.is)
          (IsScalar.omega times s.right.from front (record { a = a; b = b; parts = parts; left = left; right = record { a = s.a; b = s.b; parts = s.parts; left = s.left; right = s.right.spelled } }))
      | inr h ↦ subst (λ (t : SetTurn). IsScalar (scalars.Turned (or_one times) t) front) h.is (IsScalar.imaginary times front (record { a = a; b = b; parts = parts; left = left; right = h.spelled }))
    ]

counted_to : (v : ℕ × Option SetTurn) (front : List SetPiece) → IsCounted v front → IsScalar (counted_of v) front
counted_to (k, None) front l = IsScalar.number k front (subst (IsNumber k) (sym (l.parts ∙ ap (λ (f : List SetPiece). l.a ++ f) l.right ∙ append-nil l.a)) l.left)
counted_to (k, Some turn) front l = turn_to (Some k) turn l.a l.b front l.parts l.left l.right

scalar_to : (x : SetScalar) (front : List SetPiece) → Either (Mapped counted_of IsCounted) IsUncounted x front → IsScalar x front
scalar_to x front l =
    elim l [
      | inl h ↦ subst (λ (y : SetScalar). IsScalar y front) h.is (counted_to h.from front h.spelled)
      | inr h ↦ elim h [
        | inl h ↦ subst (λ (y : SetScalar). IsScalar y front) h.is (IsScalar.quadruple h.from.0 h.from.1.0 h.from.1.1.0 h.from.1.1.1 front h.spelled)
        | inr h ↦ subst (λ (y : SetScalar). IsScalar y front) h.is (turn_to None h.from [] front front refl refl h.spelled)
      ]
    ]

omega_in : (exponent : Option ℕ) (front : List SetPiece) → (IsMark marks.Omega ⨾ IsOptional IsExponent exponent) front → IsTurn (turns.Omega (or_one exponent)) front
omega_in exponent front l = inl (record { from = or_one exponent; is = refl; spelled = record { a = l.a; b = l.b; parts = l.parts; left = l.left; right = record { from = exponent; is = refl; spelled = l.right } } })

turn_from : (times : Option ℕ) (turn : SetTurn) (a b front : List SetPiece) → front ≡ a ++ b → IsOptional IsNumber times a → IsTurn turn b → Either (Mapped counted_of IsCounted) IsUncounted (scalars.Turned (or_one times) turn) front
turn_from (Some k) turn a b front parts left l = inl (record { from = (k, Some turn); is = refl; spelled = record { a = a; b = b; parts = parts; left = left; right = l } })
turn_from None turn a b front parts left l = inr (inr (record { from = turn; is = refl; spelled = subst (IsTurn turn) (sym (parts ∙ ap (λ (f : List SetPiece). f ++ b) left)) l }))

scalar_from : (x : SetScalar) (front : List SetPiece) → IsScalar x front → Either (Mapped counted_of IsCounted) IsUncounted x front
scalar_from _ _ (IsScalar.number k front l) = inl (record { from = (k, None); is = refl; spelled = record { a = front; b = []; parts = sym (append-nil front); left = l; right = refl } })
scalar_from _ _ (IsScalar.omega times exponent front l) = turn_from times (turns.Omega (or_one exponent)) l.a l.b front l.parts l.left (omega_in exponent l.b l.right)
scalar_from _ _ (IsScalar.imaginary times front l) = turn_from times turns.Imaginary l.a l.b front l.parts l.left (inr (record { from = tt; is = refl; spelled = l.right }))
scalar_from _ _ (IsScalar.quadruple a b c d front l) = inr (inl (record { from = (a, (b, (c, d))); is = refl; spelled = l }))

uncounted_next : (good : Option SetSort → Bool) (value : Bool) → good (Some (sorts.Fixed marks.Omega)) ≡ value → good (Some (sorts.Fixed marks.Imaginary)) ≡ value → good (Some (sorts.Fixed marks.ParenOpen)) ≡ value → (x : SetScalar) (front : List SetPiece) (n : Option SetPiece) → IsUncounted x front → good (sort_of (first_or front n)) ≡ value
uncounted_next good value omega imaginary paren x front n l = elim l [ inl h ↦ ap good (after_mark marks.ParenOpen front n h.spelled) ∙ paren | inr h ↦ turn_next good value omega imaginary h.from front n h.spelled ]

pub scalar_part : Part Others last scalar_at IsScalar scalar_go
unfolding scalar_at
scalar_part = renamed_part (choice_part begins_number counted_part (stricter scalar_go uncounted_part (λ n e. not_right (turn_shows (sort_of n)) (exponent_goes_on (sort_of n)) e))
    (λ x front n l. ap shows_number (after_number l.from.0 front n l.spelled))
    (λ x front n l. uncounted_next shows_number false refl refl refl x front n l)) scalar_to scalar_from

-- how a coefficient begins
pub scalar_next : (good : Option SetSort → Bool) (value : Bool) → ((k : ℕ) → good (Some (sorts.Number k)) ≡ value) → good (Some (sorts.Fixed marks.Omega)) ≡ value → good (Some (sorts.Fixed marks.Imaginary)) ≡ value → good (Some (sorts.Fixed marks.ParenOpen)) ≡ value → (x : SetScalar) (front : List SetPiece) (n : Option SetPiece) → IsScalar x front → good (sort_of (first_or front n)) ≡ value
scalar_next good value number omega imaginary paren x front n l =
    elim (scalar_from x front l) [
      | inl h ↦ ap good (after_number h.from.0 front n h.spelled) ∙ number h.from.0
      | inr h ↦ uncounted_next good value omega imaginary paren x front n h
    ]

-- ---- coefficients

abbrev IsDivision : ℕ → List SetPiece → Type 0
IsDivision n = IsMark marks.Slash ⨾ IsMark marks.Root ⨾ MaybeExponent n

roots_to : (x : ℕ) (front : List SetPiece) → IsDivision x front → IsRoots x front
roots_to x front l =
    let r = l.right in
    let m = r.right in
    subst (λ (y : ℕ). IsRoots y front) m.is (IsRoots.roots m.from front (record { a = l.a; b = l.b; parts = l.parts; left = l.left; right = record { a = r.a; b = r.b; parts = r.parts; left = r.left; right = m.spelled } }))

roots_from : (x : ℕ) (front : List SetPiece) → IsRoots x front → IsDivision x front
roots_from _ _ (IsRoots.roots exponent front l) =
    let r = l.right in
    record { a = l.a; b = l.b; parts = l.parts; left = l.left; right = record { a = r.a; b = r.b; parts = r.parts; left = r.left; right = record { from = exponent; is = refl; spelled = r.right } } }

roots_part : Part Others last roots_at IsRoots exponent_go
unfolding roots_at
roots_part = renamed_part (after_part (mark_part marks.Slash refl) (after_part (mark_part marks.Root refl) maybe_exponent_part)) roots_to roots_from

roots_next : (x : ℕ) (front : List SetPiece) (n : Option SetPiece) → IsRoots x front → sort_of (first_or front n) ≡ Some (sorts.Fixed marks.Slash)
roots_next x front n l = after_mark marks.Slash front n (roots_from x front l)

abbrev pub coef_goes_on : Option SetSort → Bool
coef_goes_on s = (shows marks.Slash s || exponent_goes_on s) || scalar_goes_on s

abbrev pub coef_go : Option SetPiece → Bool
coef_go n = coef_goes_on (sort_of n)

abbrev IsDivided : SetScalar × Option ℕ → List SetPiece → Type 0
IsDivided = Both IsScalar (IsOptional IsRoots)

coef_to : (v : SetScalar × Option ℕ) (front : List SetPiece) → IsDivided v front → IsCoef (coef_of v) front
coef_to (s, None) front l = IsCoef.whole s front (subst (IsScalar s) (sym (l.parts ∙ ap (λ (f : List SetPiece). l.a ++ f) l.right ∙ append-nil l.a)) l.left)
coef_to (s, Some n) front l = IsCoef.divided s n front l

coef_from : (x : SetCoef) (front : List SetPiece) → IsCoef x front → Mapped coef_of IsDivided x front
coef_from _ _ (IsCoef.whole s front l) = record { from = (s, None); is = refl; spelled = record { a = front; b = []; parts = sym (append-nil front); left = l; right = refl } }
coef_from _ _ (IsCoef.divided s n front l) = record { from = (s, Some n); is = refl; spelled = l }

pub coef_part : Part Others last coef_at IsCoef coef_go
unfolding coef_at
coef_part = renamed_part (mapped_part coef_of (then_optional_part (begins marks.Slash) scalar_part roots_part
    (λ x front n l. ap (shows marks.Slash) (roots_next x front n l))
    (λ x front n l. ap scalar_goes_on (roots_next x front n l))))
    (λ x front l. subst (λ (y : SetCoef). IsCoef y front) l.is (coef_to l.from front l.spelled)) coef_from

pub coef_next : (good : Option SetSort → Bool) (value : Bool) → ((k : ℕ) → good (Some (sorts.Number k)) ≡ value) → good (Some (sorts.Fixed marks.Omega)) ≡ value → good (Some (sorts.Fixed marks.Imaginary)) ≡ value → good (Some (sorts.Fixed marks.ParenOpen)) ≡ value → (x : SetCoef) (front : List SetPiece) (n : Option SetPiece) → IsCoef x front → good (sort_of (first_or front n)) ≡ value
coef_next good value number omega imaginary paren x front n l =
    let h = coef_from x front l in
    let d = h.spelled in
    ap (λ o. good (sort_of o)) (next_of front n d) ∙ scalar_next good value number omega imaginary paren h.from.0 d.a (first_or d.b n) d.left
