-- A text that a rule takes is found at the front, and nothing shorter is.
use Rattle.std.proofs.Common.{◌≡◌, ℕ, ◌+◌, ◌^◌, ◌<◌, ◌≤◌, ◌⊎◌, inl, inr, List, [], ◌∷◌, ◌++◌, length, take, drop, refl, sym, ap, ◌∙◌, append_assoc, subst, Bool, true, false, ◌&&◌, cond, arith, ltb}
use Rattle.std.specs.List.{prefix_len, list_all}
use Rattle.std.proofs.lemmas.List.{drop_at, take_all, append-nil, length-append}
use Rattle.std.proofs.lemmas.Bool.Decides.{nat_tests}
use Rattle.aq_lex.specs.Bytes.{is_letter, is_digit, is_word, is_blank, is_number, begins, value}
use Rattle.aq_lex.specs.Rules.{is_name, IsLineComment, IsBlockComment, IsOpenComment}
use Rattle.aq_lex.specs.Fronts.{slash_front, sign_front, front}
use Rattle.aq_lex.specs.declared.token.Class.{Class}
use Rattle.aq_lex.specs.declared.token.Class.TheVariants as program
use Rattle.aq_lex.specs.declared.token.Kind.TheVariants as program_kind
use Rattle.aq_lex.specs.declared.token.Symbol.TheVariants as program_symbol
use Rattle.aq_lex.proofs.Runs.{both, is_and, run-append, run-whole, run-stop}
use Rattle.aq_lex.proofs.FrontFinds as lex
use Rattle.aq_set_parse.specs.Rules.{symbol_text, is_bit, is_bits, IsToken, Is}
use Rattle.aq_set_parse.specs.Fronts.{found, slash_class, comment_front, ket_front, number_class, number_front, equals_front, set_sign_front, set_front}
use Rattle.aq_set_parse.specs.declared.token.SetSymbol.{SetSymbol}
use Rattle.aq_set_parse.specs.declared.token.SetSymbol.TheVariants.{Assign, Equals, Semicolon, Comma, BracketOpen, BracketClose, ParenOpen, ParenClose, Star, Caret, Plus, Minus, Slash}
use Rattle.aq_set_parse.specs.declared.token.SetKind.{SetKind}
use Rattle.aq_set_parse.specs.declared.token.SetKind.TheVariants as kind
use Rattle.aq_set_parse.specs.declared.token.SetClass.{SetClass}
use Rattle.aq_set_parse.specs.declared.token.SetClass.TheVariants as «class»
use Rattle.aq_set_parse.specs.declared.token.SetFound.{SetFound}

abbrev pub is_bad : SetClass → Bool
is_bad «class».Blank = false
is_bad «class».Comment = false
is_bad («class».Token k) = false
is_bad «class».OpenComment = false
is_bad «class».LongNumber = false
is_bad «class».BadKet = false
is_bad («class».BadByte b) = true

-- the front of a list; of none, anything
abbrev pub front_of : List ℕ → SetFound
front_of [] = found «class».Blank 0
front_of (b ∷ bs) = set_front b bs

-- at least n bytes are found, which are something
pub record Has (f : SetFound) (n : ℕ) : Type 0 where
  pub most : n ≤ f.len
  pub good : is_bad f.class ≡ false

pub record Finds (c : SetClass) (text : List ℕ) : Type 0 where
  pub has : (tail : List ℕ) → Has (front_of (text ++ tail)) (length text)
  pub exact : front_of text ≡ found c (length text)

has_cond : (v : Bool) (x y : SetFound) (n : ℕ) → Has x n → Has y n → Has (cond v x y) n
has_cond true x y n p q = p
has_cond false x y n p q = q

has_at : (f g : SetFound) (n : ℕ) → f ≡ g → Has g n → Has f n
has_at f g n e h = let P : SetFound → Type 0 = λ x. Has x n in subst P (sym e) h

simple : (c : SetClass) (m n : ℕ) → is_bad c ≡ false → n ≤ m → Has (found c m) n
simple c m n g l = record { most = l; good = g }

yes_cond : (v : Bool) (x y : SetFound) → v ≡ true → cond v x y ≡ x
yes_cond v x y e = rw e refl

no_cond : (v : Bool) (x y : SetFound) → v ≡ false → cond v x y ≡ y
no_cond v x y e = rw e refl

same_found : (c : SetClass) (m n : ℕ) → m ≡ n → found c m ≡ found c n
same_found c m n e = ap (found c) e

-- what the first byte chooses

front-letter : (b : ℕ) (bs : List ℕ) → is_letter b ≡ true → set_front b bs ≡ found («class».Token kind.Name) (prefix_len is_word bs + 1)
unfolding set_front
front-letter b bs h = yes_cond _ _ _ h

no_letter : (b : ℕ) → is_digit b ≡ true → is_letter b ≡ false
no_letter b h = grind (arith, nat_tests)

front-digit : (b : ℕ) (bs : List ℕ) → is_digit b ≡ true → set_front b bs ≡ number_front (b ∷ bs)
unfolding set_front
front-digit b bs h = no_cond _ _ _ (no_letter b h) ∙ yes_cond _ _ _ h

blank-neither : (b : ℕ) → is_blank b ≡ true → (is_letter b ≡ false) × (is_digit b ≡ false)
blank-neither b h = (grind (arith, nat_tests), grind (arith, nat_tests))

front-blank : (b : ℕ) (bs : List ℕ) → is_blank b ≡ true → set_front b bs ≡ found «class».Blank 1
unfolding set_front
front-blank b bs h = let n = blank-neither b h in no_cond _ _ _ n.0 ∙ no_cond _ _ _ n.1 ∙ yes_cond _ _ _ h

front-slash : (bs : List ℕ) → set_front 47 bs ≡ comment_front bs
unfolding set_front set_sign_front
front-slash bs = refl

front-ket : (bs : List ℕ) → set_front 124 bs ≡ ket_front bs
unfolding set_front set_sign_front
front-ket bs = refl

-- names and blanks

name-Finds : (text : List ℕ) → is_name text ≡ true → Finds («class».Token kind.Name) text
name-Finds [] h = cc
name-Finds (b ∷ bs) h =
    let s = both (is_letter b) (list_all is_word bs) h in record {
      has = λ tail. has_at _ _ _ (front-letter b (bs ++ tail) s.0) (simple _ _ _ refl (let l = run-append is_word bs tail s.1 in omega arith));
      exact = front-letter b bs s.0 ∙ same_found _ _ _ (let l = run-whole is_word bs s.1 in omega arith);
    }

blank-Finds : (b : ℕ) → is_blank b ≡ true → Finds «class».Blank (b ∷ [])
blank-Finds b h = record {
  has = λ tail. has_at _ _ _ (front-blank b tail h) (simple _ _ _ refl (omega arith));
  exact = front-blank b [] h;
}

-- comments, as they are found in programs

pub slash_class-good : (c : Class) → is_bad (slash_class c) ≡ false
slash_class-good program.Blank = refl
slash_class-good program.Comment = refl
slash_class-good (program.Token k) = refl
slash_class-good program.OpenComment = refl
slash_class-good program.OpenText = refl
slash_class-good program.LongNumber = refl
slash_class-good (program.BadByte b) = refl

program-slash : (bs : List ℕ) → front true 47 bs ≡ slash_front bs
unfolding front sign_front
program-slash bs = refl

comment-has : (n : ℕ) (bs : List ℕ) → n ≤ (front true 47 bs).len → Has (set_front 47 bs) n
comment-has n bs h =
    let e : (front true 47 bs).len ≡ (slash_front bs).len = ap (λ f. f.len) (program-slash bs) in
    has_at _ _ _ (front-slash bs) (simple (slash_class (slash_front bs).class) (slash_front bs).len n (slash_class-good _) (omega arith))

comment-exact : (c : Class) (n : ℕ) (bs : List ℕ) → front true 47 bs ≡ record { class = c; len = n } → set_front 47 bs ≡ found (slash_class c) n
comment-exact c n bs e = front-slash bs ∙ ap (λ f. found (slash_class f.class) f.len) (sym (program-slash bs) ∙ e)

-- what is found behind `/` in a program is found here
taken-Finds : (c : Class) (bs : List ℕ) → lex.Finds true c (47 ∷ bs) → Finds (slash_class c) (47 ∷ bs)
taken-Finds c bs h = record {
  has = λ tail. comment-has (length (47 ∷ bs)) (bs ++ tail) (h.has tail).most;
  exact = comment-exact c (length (47 ∷ bs)) bs h.exact;
}

finds_at : (c : SetClass) (s t : List ℕ) → s ≡ t → Finds c t → Finds c s
finds_at c s t e h = let P : List ℕ → Type 0 = λ x. Finds c x in subst P (sym e) h

comment-Finds : (text : List ℕ) → IsLineComment text ⊎ IsBlockComment text → Finds «class».Comment text
comment-Finds text (inl h) = finds_at _ _ _ h.1 (taken-Finds program.Comment (47 ∷ h.0) (lex.rule-Finds [] program.Comment (47 ∷ 47 ∷ h.0) (inl (h.0, refl, h.2))))
comment-Finds text (inr h) = finds_at _ _ _ h.1 (taken-Finds program.Comment (42 ∷ (h.0 ++ 42 ∷ 47 ∷ [])) (lex.rule-Finds [] program.Comment (47 ∷ 42 ∷ (h.0 ++ 42 ∷ 47 ∷ [])) (inr (h.0, refl, h.2))))

open-Finds : (text : List ℕ) → IsOpenComment text → Finds «class».OpenComment text
open-Finds text h = finds_at _ _ _ h.1 (taken-Finds program.OpenComment (42 ∷ h.0) (lex.rule-Finds [] program.OpenComment (47 ∷ 42 ∷ h.0) (h.0, refl, h.2)))

-- symbols

slash-has : (bs : List ℕ) → Has (set_front 47 bs) 1
slash-has bs =
    let h = lex.rule-Finds [] (program.Token (program_kind.Symbol program_symbol.Slash)) (47 ∷ []) refl in
    comment-has 1 bs (h.has bs).most

equals-has : (bs : List ℕ) → Has (equals_front bs) 1
equals-has bs = has_cond (begins 61 bs) (found («class».Token (kind.Symbol Equals)) 2) (found («class».Token (kind.Symbol Assign)) 1) 1 (simple _ 2 1 refl (omega arith)) (simple _ 1 1 refl (omega arith))

symbol-Finds : (s : SetSymbol) → Finds («class».Token (kind.Symbol s)) (symbol_text s)
unfolding set_front set_sign_front
symbol-Finds Assign = record { has = λ tail. equals-has tail; exact = refl }
symbol-Finds Equals = record { has = λ tail. simple _ _ _ refl (omega arith); exact = refl }
symbol-Finds Semicolon = record { has = λ tail. simple _ _ _ refl (omega arith); exact = refl }
symbol-Finds Comma = record { has = λ tail. simple _ _ _ refl (omega arith); exact = refl }
symbol-Finds BracketOpen = record { has = λ tail. simple _ _ _ refl (omega arith); exact = refl }
symbol-Finds BracketClose = record { has = λ tail. simple _ _ _ refl (omega arith); exact = refl }
symbol-Finds ParenOpen = record { has = λ tail. simple _ _ _ refl (omega arith); exact = refl }
symbol-Finds ParenClose = record { has = λ tail. simple _ _ _ refl (omega arith); exact = refl }
symbol-Finds Star = record { has = λ tail. simple _ _ _ refl (omega arith); exact = refl }
symbol-Finds Caret = record { has = λ tail. simple _ _ _ refl (omega arith); exact = refl }
symbol-Finds Plus = record { has = λ tail. simple _ _ _ refl (omega arith); exact = refl }
symbol-Finds Minus = record { has = λ tail. simple _ _ _ refl (omega arith); exact = refl }
symbol-Finds Slash = record { has = λ tail. slash-has tail; exact = refl }

-- kets

bits_is : (bits : List ℕ) → is_bits bits ≡ true → list_all is_bit bits ≡ true
bits_is [] h = refl
bits_is (b ∷ bs) h = h

bits_some : (bits : List ℕ) → is_bits bits ≡ true → ltb 0 (length bits) ≡ true
bits_some [] h = cc
bits_some (b ∷ bs) h = let l : 0 < length (b ∷ bs) = omega arith in grind (arith, nat_tests)

ket_at : (bits tail : List ℕ) → is_bits bits ≡ true → ket_front (bits ++ 62 ∷ tail) ≡ found («class».Token kind.Ket) (length bits + 2)
ket_at bits tail h =
    let n = run-stop is_bit bits 62 tail (bits_is bits h) refl in
    let P : ℕ → Type 0 = λ k. cond (ltb 0 k && begins 62 (drop k (bits ++ 62 ∷ tail))) (found («class».Token kind.Ket) (k + 2)) (found «class».BadKet 1) ≡ found («class».Token kind.Ket) (length bits + 2) in
    subst P (sym n) (yes_cond _ _ _ (is_and _ _ (bits_some bits h) (ap (begins 62) (drop_at bits (62 ∷ tail) (length bits) refl))))

ket-Finds : (bits : List ℕ) → is_bits bits ≡ true → Finds («class».Token kind.Ket) (124 ∷ (bits ++ 62 ∷ []))
ket-Finds bits h =
    let l = length-append bits (62 ∷ []) in record {
      has = λ tail. has_at _ _ _ (front-ket ((bits ++ 62 ∷ []) ++ tail) ∙ ap ket_front (append_assoc bits (62 ∷ []) tail) ∙ ket_at bits tail h) (simple _ _ _ refl (omega arith));
      exact = front-ket (bits ++ 62 ∷ []) ∙ ket_at bits [] h ∙ same_found _ _ _ (omega arith);
    }

ket-has : (bs : List ℕ) → Has (ket_front bs) 1
ket-has bs =
    let n = prefix_len is_bit bs in
    has_cond (ltb 0 n && begins 62 (drop n bs)) (found («class».Token kind.Ket) (n + 2)) (found «class».BadKet 1) 1 (simple _ (n + 2) 1 refl (omega arith)) (simple _ 1 1 refl (omega arith))

bad-Finds : Finds «class».BadKet (124 ∷ [])
bad-Finds = record {
  has = λ tail. has_at _ _ _ (front-ket tail) (ket-has tail);
  exact = front-ket [];
}

-- numbers

number_is : (text : List ℕ) → is_number text ≡ true → list_all is_digit text ≡ true
number_is [] h = refl
number_is (b ∷ bs) h = h

front-number : (text tail : List ℕ) → is_number text ≡ true → front_of (text ++ tail) ≡ number_front (text ++ tail)
front-number [] tail h = cc
front-number (b ∷ bs) tail h = front-digit b (bs ++ tail) (both (is_digit b) (list_all is_digit bs) h).0

pub class_good : (n : ℕ) → is_bad (number_class n) ≡ false
class_good n = elim (ltb n (2 ^ 127)) as (λ v. is_bad (cond v («class».Token (kind.Number n)) «class».LongNumber) ≡ false) [ true ↦ refl | false ↦ refl ]

number-has : (n : ℕ) (bs : List ℕ) → n ≤ prefix_len is_digit bs → Has (number_front bs) n
number-has n bs h = simple _ (prefix_len is_digit bs) n (class_good (value (take (prefix_len is_digit bs) bs))) h

number_alone : (text : List ℕ) → is_number text ≡ true → number_front text ≡ found (number_class (value text)) (length text)
number_alone text h =
    let n = run-whole is_digit text (number_is text h) in
    let P : ℕ → Type 0 = λ k. found (number_class (value (take k text))) k ≡ found (number_class (value text)) (length text) in
    subst P (sym n) (ap (λ t. found (number_class (value t)) (length text)) (take_all (length text) text (omega arith)))

number-Finds : (c : SetClass) (text : List ℕ) → is_number text ≡ true → number_class (value text) ≡ c → Finds c text
number-Finds c text h e = record {
  has = λ tail. has_at _ _ _ (front-number text tail h) (number-has (length text) (text ++ tail) (run-append is_digit text tail (number_is text h)));
  exact =
      let Q : List ℕ → Type 0 = λ t. front_of t ≡ number_front t in
      subst Q (append-nil text) (front-number text [] h) ∙ number_alone text h ∙ ap (λ d. found d (length text)) e;
}

short_class : (n v : ℕ) → n ≡ v → n < 2 ^ 127 → number_class v ≡ «class».Token (kind.Number n)
short_class n v e h =
    let P : ℕ → Type 0 = λ k. number_class k ≡ «class».Token (kind.Number n) in
    let t : ltb n (2 ^ 127) ≡ true = grind (arith, nat_tests) in
    subst P e (ap (λ b. cond b («class».Token (kind.Number n)) «class».LongNumber) t)

long_class : (v : ℕ) → 2 ^ 127 ≤ v → number_class v ≡ «class».LongNumber
long_class v h =
    let t : ltb v (2 ^ 127) ≡ false = grind (arith, nat_tests) in
    ap (λ b. cond b («class».Token (kind.Number v)) «class».LongNumber) t

-- every rule

token-Finds : (k : SetKind) (text : List ℕ) → IsToken k text → Finds («class».Token k) text
token-Finds kind.Name text h = name-Finds text h
token-Finds (kind.Number n) text h = number-Finds _ text h.0 (short_class n (value text) h.1 h.2)
token-Finds kind.Ket text h = finds_at _ _ _ h.1 (ket-Finds h.0 h.2)
token-Finds (kind.Symbol s) text h = finds_at _ _ _ h (symbol-Finds s)
token-Finds kind.End text h = absurd h

pub rule-Finds : (before : List ℕ) (c : SetClass) (text : List ℕ) → Is before c text → Finds c text
rule-Finds before «class».Blank text h = finds_at _ _ _ h.1 (blank-Finds h.0 h.2)
rule-Finds before «class».Comment text h = comment-Finds text h
rule-Finds before («class».Token k) text h = token-Finds k text h
rule-Finds before «class».OpenComment text h = open-Finds text h
rule-Finds before «class».LongNumber text h = number-Finds _ text h.0 (long_class (value text) h.1)
rule-Finds before «class».BadKet text h = finds_at _ _ _ h bad-Finds
rule-Finds before («class».BadByte b) text h = absurd h
