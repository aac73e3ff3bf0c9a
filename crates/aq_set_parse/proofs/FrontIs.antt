-- What is found at the front is what the rules say.
use Rattle.std.proofs.Common.{◌≡◌, ℕ, ◌+◌, ◌^◌, ◌==◌, ◌<◌, List, [], ◌∷◌, length, take, drop, refl, sym, ap, ◌∙◌, subst, Bool, true, false, ◌&&◌, cond, arith, eqb-true, ltb, Option, Some, None}
use Rattle.std.specs.List.{prefix_len}
use Rattle.std.proofs.lemmas.Bool.Decides.{nat_tests}
use Rattle.aq_lex.specs.Bytes.{is_letter, is_digit, is_word, is_blank, is_inline, is_number, begins, value}
use Rattle.aq_lex.specs.Places.{is_line_clear}
use Rattle.aq_lex.specs.Rules as program_rules
use Rattle.aq_lex.specs.Fronts as program_fronts
use Rattle.aq_lex.specs.Fronts.{body_len, block_front, slash_front, sign_front, front}
use Rattle.aq_lex.specs.declared.token.Class.{Class}
use Rattle.aq_lex.specs.declared.token.Class.TheVariants as program
use Rattle.aq_lex.specs.declared.token.Kind.{Kind}
use Rattle.aq_lex.specs.declared.token.Kind.TheVariants as program_kind
use Rattle.aq_lex.specs.declared.token.Symbol.TheVariants as program_symbol
use Rattle.aq_lex.specs.declared.token.Found.{Found}
use Rattle.aq_lex.proofs.Runs.{both, is_and, run-all, take_one, one_take, begins-at}
use Rattle.aq_lex.proofs.FrontFinds as lex
use Rattle.aq_lex.proofs.FrontIs as lex_is
use Rattle.aq_set_parse.specs.Rules.{symbol_text, is_bit, is_bits, Is}
use Rattle.aq_set_parse.specs.Fronts.{found, slash_class, comment_front, ket_front, number_class, number_front, equals_front, symbol_alone, alone, set_sign_front, set_front}
use Rattle.aq_set_parse.specs.declared.token.SetSymbol.{SetSymbol}
use Rattle.aq_set_parse.specs.declared.token.SetSymbol.TheVariants as symbol
use Rattle.aq_set_parse.specs.declared.token.SetKind.TheVariants as kind
use Rattle.aq_set_parse.specs.declared.token.SetClass.{SetClass}
use Rattle.aq_set_parse.specs.declared.token.SetClass.TheVariants as «class»
use Rattle.aq_set_parse.specs.declared.token.SetFound.{SetFound}
use Rattle.aq_set_parse.proofs.FrontFinds.{is_bad, class_good, slash_class-good}

-- What is found in the bytes is by the rules, or the first byte is bad.
pub record Sound (before : List ℕ) (b : ℕ) (bs : List ℕ) (f : SetFound) : Type 0 where
  pub good : is_bad f.class ≡ false → Is before f.class (take f.len (b ∷ bs))
  pub bad : is_bad f.class ≡ true → f ≡ found («class».BadByte b) 1

pub chosen : (P : SetFound → Type 0) (v : Bool) (x y : SetFound) → (v ≡ true → P x) → (v ≡ false → P y) → P (cond v x y)
chosen P true x y p q = p refl
chosen P false x y p q = q refl

sound : (before : List ℕ) (b : ℕ) (bs : List ℕ) (c : SetClass) (n : ℕ) → is_bad c ≡ false → Is before c (take n (b ∷ bs)) → Sound before b bs (found c n)
sound before b bs c n g h = record { good = λ _. h; bad = λ e. cc }

name-Sound : (before : List ℕ) (b : ℕ) (bs : List ℕ) → is_letter b ≡ true → Sound before b bs (found («class».Token kind.Name) (prefix_len is_word bs + 1))
name-Sound before b bs h = sound _ _ _ _ _ refl (rw (take_one (prefix_len is_word bs) b bs) (is_and (is_letter b) _ h (run-all is_word bs)))

blank-Sound : (before : List ℕ) (b : ℕ) (bs : List ℕ) → is_blank b ≡ true → Sound before b bs (found «class».Blank 1)
blank-Sound before b bs h = sound _ _ _ _ _ refl (b, refl, h)

-- numbers

digits_taken : (b : ℕ) (bs : List ℕ) → is_digit b ≡ true → is_number (take (prefix_len is_digit (b ∷ bs)) (b ∷ bs)) ≡ true
digits_taken b bs h = rw (h, one_take (prefix_len is_digit bs) b bs) (is_and (is_digit b) _ h (run-all is_digit bs))

number_class-Is : (before text : List ℕ) → is_number text ≡ true → Is before (number_class (value text)) text
number_class-Is before text h = class_of (ltb (value text) (2 ^ 127)) refl
  where
    class_of : (v : Bool) → ltb (value text) (2 ^ 127) ≡ v → Is before (cond v («class».Token (kind.Number (value text))) «class».LongNumber) text
    class_of true e = (h, refl, grind (arith, nat_tests))
    class_of false e = (h, grind (arith, nat_tests))

number-Sound : (before : List ℕ) (b : ℕ) (bs : List ℕ) → is_digit b ≡ true → Sound before b bs (number_front (b ∷ bs))
number-Sound before b bs h =
    let n = prefix_len is_digit (b ∷ bs) in
    let digits = take n (b ∷ bs) in
    sound before b bs (number_class (value digits)) n (class_good _) (number_class-Is before digits (digits_taken b bs h))

-- comments, as they are found in programs

-- what may be found behind `/` in a program
abbrev IsSlash : Class → Type 0
IsSlash program.Blank = ⊥
IsSlash program.Comment = Unit {0}
IsSlash (program.Token k) = k ≡ program_kind.Symbol program_symbol.Slash
IsSlash program.OpenComment = Unit {0}
IsSlash program.OpenText = ⊥
IsSlash program.LongNumber = ⊥
IsSlash (program.BadByte b) = ⊥

slash-IsSlash : (bs : List ℕ) → IsSlash (slash_front bs).class
slash-IsSlash bs =
    let P : Found → Type 0 = λ f. IsSlash f.class in
    lex_is.chosen P (begins 47 bs) (program_fronts.found program.Comment (prefix_len is_inline (drop 1 bs) + 2)) (cond (begins 42 bs) (block_front (drop 1 bs)) (program_fronts.found (program.Token (program_kind.Symbol program_symbol.Slash)) 1))
    (λ _. tt)
    (λ _. lex_is.chosen P (begins 42 bs) (block_front (drop 1 bs)) (program_fronts.found (program.Token (program_kind.Symbol program_symbol.Slash)) 1)
    (λ _. lex_is.chosen P (ltb (body_len (drop 1 bs)) (length (drop 1 bs))) (program_fronts.found program.Comment (body_len (drop 1 bs) + 4)) (program_fronts.found program.OpenComment (length (drop 1 bs) + 2)) (λ _. tt) (λ _. tt))
    (λ _. refl))

slash_good : (c : Class) → IsSlash c → lex.is_bad c ≡ false
slash_good program.Blank h = absurd h
slash_good program.Comment h = refl
slash_good (program.Token k) h = refl
slash_good program.OpenComment h = refl
slash_good program.OpenText h = absurd h
slash_good program.LongNumber h = absurd h
slash_good (program.BadByte b) h = absurd h

-- what it is in a program it is here
slash-Is : (before : List ℕ) (c : Class) (text : List ℕ) → IsSlash c → program_rules.Is before c text → Is before (slash_class c) text
slash-Is before program.Blank text s h = absurd s
slash-Is before program.Comment text s h = h
slash-Is before (program.Token k) text s h = let P : Kind → Type 0 = λ x. program_rules.IsToken before x text in subst P s h
slash-Is before program.OpenComment text s h = h
slash-Is before program.OpenText text s h = absurd s
slash-Is before program.LongNumber text s h = absurd s
slash-Is before (program.BadByte b) text s h = absurd s

program-slash : (clear : Bool) (bs : List ℕ) → front clear 47 bs ≡ slash_front bs
unfolding front sign_front
program-slash clear bs = refl

comment-Sound : (before bs : List ℕ) → Sound before 47 bs (comment_front bs)
comment-Sound before bs =
    let f = slash_front bs in
    let s = slash-IsSlash bs in
    let P : Found → Type 0 = λ x. lex_is.Sound before 47 bs x in
    let h : lex_is.Sound before 47 bs f = subst P (program-slash (is_line_clear before) bs) (lex_is.front-Sound before 47 bs) in
    sound before 47 bs (slash_class f.class) f.len (slash_class-good f.class) (slash-Is before f.class (take f.len (47 ∷ bs)) s (h.good (slash_good f.class s)))

-- kets

some_bits : (bs : List ℕ) → 0 < prefix_len is_bit bs → is_bits (take (prefix_len is_bit bs) bs) ≡ true
some_bits [] h = absurd (omega arith)
some_bits (b ∷ bs) h = some_bits_at (is_bit b) refl
  where
    some_bits_at : (v : Bool) → is_bit b ≡ v → is_bits (take (prefix_len is_bit (b ∷ bs)) (b ∷ bs)) ≡ true
    some_bits_at true e = rw (e, one_take (prefix_len is_bit bs) b bs) (is_and (is_bit b) _ e (run-all is_bit bs))
    some_bits_at false e = absurd (let z : prefix_len is_bit (b ∷ bs) ≡ 0 = rw e refl in omega arith)

ket-Sound : (before bs : List ℕ) → Sound before 124 bs (ket_front bs)
ket-Sound before bs =
    let n = prefix_len is_bit bs in
    chosen (Sound before 124 bs) (ltb 0 n && begins 62 (drop n bs)) (found («class».Token kind.Ket) (n + 2)) (found «class».BadKet 1)
    (λ e. let s = both (ltb 0 n) (begins 62 (drop n bs)) e in
    let k : n + 2 ≡ (n + 1) + 1 = omega arith in
    sound before 124 bs («class».Token kind.Ket) (n + 2) refl (
      take n bs,
      ap (λ j. take j (124 ∷ bs)) k ∙ take_one (n + 1) 124 bs ∙ ap (λ t. 124 ∷ t) (begins-at 62 bs n s.1),
      some_bits bs (lex_is.ltb_is 0 n s.0),
    ))
    (λ _. sound before 124 bs «class».BadKet 1 refl refl)

-- symbols and the rest

two-Sound : (before : List ℕ) (b y : ℕ) (bs : List ℕ) (c : SetClass) → is_bad c ≡ false → begins y bs ≡ true → Is before c (b ∷ y ∷ []) → Sound before b bs (found c 2)
two-Sound before b y [] c g h i = cc
two-Sound before b y (x ∷ xs) c g h i = let P : ℕ → Type 0 = λ z. Is before c (b ∷ z ∷ []) in sound before b (x ∷ xs) c 2 g (subst P (sym (eqb-true x y h)) i)

equals-Sound : (before bs : List ℕ) → Sound before 61 bs (equals_front bs)
equals-Sound before bs = chosen (Sound before 61 bs) (begins 61 bs) (found («class».Token (kind.Symbol symbol.Equals)) 2) (found («class».Token (kind.Symbol symbol.Assign)) 1)
    (λ e. two-Sound before 61 61 bs («class».Token (kind.Symbol symbol.Equals)) refl e refl)
    (λ _. sound before 61 bs («class».Token (kind.Symbol symbol.Assign)) 1 refl refl)

-- a symbol that is b alone
abbrev IsAlone : ℕ → Option SetSymbol → Type 0
IsAlone b None = Unit {0}
IsAlone b (Some s) = b ∷ [] ≡ symbol_text s

picked : (b n : ℕ) (x y : Option SetSymbol) → (b ∷ [] ≡ n ∷ [] → IsAlone b x) → IsAlone b y → IsAlone b (cond (b == n) x y)
picked b n x y p q = picked_at (b == n) refl
  where
    picked_at : (v : Bool) → (b == n) ≡ v → IsAlone b (cond v x y)
    picked_at true e = p (ap (λ z. z ∷ []) (eqb-true b n e))
    picked_at false e = q

symbol-alone : (b : ℕ) → IsAlone b (symbol_alone b)
symbol-alone b =
    picked b 59 _ _ (λ e. e) (
    picked b 44 _ _ (λ e. e) (
    picked b 91 _ _ (λ e. e) (
    picked b 93 _ _ (λ e. e) (
    picked b 40 _ _ (λ e. e) (
    picked b 41 _ _ (λ e. e) (
    picked b 42 _ _ (λ e. e) (
    picked b 94 _ _ (λ e. e) (
    picked b 43 _ _ (λ e. e) (
    picked b 45 _ _ (λ e. e) tt)))))))))

alone-Sound : (before : List ℕ) (b : ℕ) (bs : List ℕ) (o : Option SetSymbol) → IsAlone b o → Sound before b bs (alone b o)
alone-Sound before b bs None h = record { good = λ e. cc; bad = λ _. refl }
alone-Sound before b bs (Some s) h = sound before b bs («class».Token (kind.Symbol s)) 1 refl h

at_byte : (before : List ℕ) (b n : ℕ) (bs : List ℕ) (f : SetFound) → (b == n) ≡ true → Sound before n bs f → Sound before b bs f
at_byte before b n bs f e h = let P : ℕ → Type 0 = λ z. Sound before z bs f in subst P (sym (eqb-true b n e)) h

sign-Sound : (before : List ℕ) (b : ℕ) (bs : List ℕ) → Sound before b bs (set_sign_front b bs)
unfolding set_sign_front
sign-Sound before b bs =
    chosen (Sound before b bs) (b == 47) _ _ (λ e. at_byte before b 47 bs _ e (comment-Sound before bs)) (λ _.
    chosen (Sound before b bs) (b == 124) _ _ (λ e. at_byte before b 124 bs _ e (ket-Sound before bs)) (λ _.
    chosen (Sound before b bs) (b == 61) _ _ (λ e. at_byte before b 61 bs _ e (equals-Sound before bs)) (λ _.
    alone-Sound before b bs (symbol_alone b) (symbol-alone b))))

pub front-Sound : (before : List ℕ) (b : ℕ) (bs : List ℕ) → Sound before b bs (set_front b bs)
unfolding set_front
front-Sound before b bs =
    chosen (Sound before b bs) (is_letter b) _ _ (name-Sound before b bs) (λ _.
    chosen (Sound before b bs) (is_digit b) _ _ (number-Sound before b bs) (λ _.
    chosen (Sound before b bs) (is_blank b) _ _ (blank-Sound before b bs) (λ _.
    sign-Sound before b bs)))
