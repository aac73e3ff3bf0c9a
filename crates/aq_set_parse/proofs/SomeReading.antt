-- Each text has tokens, or a first fault of them that isn't want of memory.
use Rattle.std.proofs.Common.{◌≡◌, ◌⊎◌, inl, inr, ℕ, zero, suc, ◌<◌, List, [], ◌∷◌, ◌++◌, length, Some, Result, Ok, Err, IfErr, refl, subst, take, nat_lt, Bool, true, false, arith}
use Rattle.std.specs.Prelude.{IsUtf8}
use Rattle.std.specs.Str.{IsValidUpTo, is_utf8}
use Rattle.std.proofs.lemmas.Bool.{ltb-true, ltb-false}
use Rattle.std.proofs.lemmas.List.{take_all}
use Rattle.std.proofs.lemmas.Str.{IsUtf8-from_is_utf8, is_utf8-from_IsUtf8}
use Rattle.aq_lex.specs.Cutting.{followed}
use Rattle.aq_lex.specs.Places.{place_after}
use Rattle.aq_set_parse.specs.Cuts.{Lexeme, Reads, token, tokens_of, reading}
use Rattle.aq_set_parse.specs.Told.{FaultOf}
use Rattle.aq_set_parse.specs.declared.token.SetClass.{SetClass}
use Rattle.aq_set_parse.specs.declared.token.SetClass.TheVariants as «class»
use Rattle.aq_set_parse.specs.declared.token.SetToken.{SetToken}
use Rattle.aq_set_parse.specs.declared.fault.SetLexFault.{SetLexFault}
use Rattle.aq_set_parse.specs.declared.fault.SetLexFault.TheVariants as fault
use Rattle.aq_set_parse.proofs.SomeCut.{some_cut}

-- ---- bytes

-- where no front of more than k bytes is UTF-8, a shorter one is the longest that is
longest_front : (text : List ℕ) (k : ℕ) → k < length text → ((m : ℕ) → k < m → IsUtf8 (take m text) → ⊥) → (n : ℕ) × IsValidUpTo text n
longest_front text zero lt none = (0, record { short = lt; front = ([], (refl, refl)); longest = none })
longest_front text (suc k) lt none = by (is_utf8 (take (suc k) text)) refl (longest_front text k (omega (arith, lt)))
  where
    past : is_utf8 (take (suc k) text) ≡ false → (m : ℕ) → k < m → IsUtf8 (take m text) → ⊥
    past e m above u = at (nat_lt (suc k) m) refl
      where
        at : (b : Bool) → nat_lt (suc k) m ≡ b → ⊥
        at true is = none m (ltb-true (suc k) m is) u
        at false is =
            let le = ltb-false (suc k) m is in
            let same : m ≡ suc k = omega (arith, above, le) in
            let t = is_utf8-from_IsUtf8 (take (suc k) text) (subst (λ (j : ℕ). IsUtf8 (take j text)) same u) in cc

    by : (b : Bool) → is_utf8 (take (suc k) text) ≡ b → (((m : ℕ) → k < m → IsUtf8 (take m text) → ⊥) → (n : ℕ) × IsValidUpTo text n) → (n : ℕ) × IsValidUpTo text n
    by true e shorter = (suc k, record { short = lt; front = IsUtf8-from_is_utf8 (take (suc k) text) e; longest = none })
    by false e shorter = shorter (past e)

front_of : (text : List ℕ) → is_utf8 text ≡ false → (n : ℕ) × IsValidUpTo text n
front_of [] e = let t = is_utf8-from_IsUtf8 [] ([], (refl, refl)) in absurd cc
front_of (b ∷ bs) e =
    longest_front (b ∷ bs) (length bs) (omega arith) (λ m above u.
    let t = is_utf8-from_IsUtf8 (b ∷ bs) (subst IsUtf8 (take_all m (b ∷ bs) (omega (arith, above))) u) in cc)

-- a text is UTF-8, or a front of it is the longest that is
utf8_or_front : (text : List ℕ) → IsUtf8 text ⊎ ((n : ℕ) × IsValidUpTo text n)
utf8_or_front text = by (is_utf8 text) refl
  where
    by : (b : Bool) → is_utf8 text ≡ b → IsUtf8 text ⊎ ((n : ℕ) × IsValidUpTo text n)
    by true e = inl (IsUtf8-from_is_utf8 text e)
    by false e = inr (front_of text e)

-- ---- tokens

-- a fault that a piece of a cut has
abbrev IsOfCut : SetLexFault → Type 0
IsOfCut (fault.NotUtf8 at) = ⊥
IsOfCut (fault.BadByte at byte) = Unit {0}
IsOfCut (fault.OpenComment at) = Unit {0}
IsOfCut (fault.LongNumber at) = Unit {0}
IsOfCut (fault.BadKet at) = Unit {0}
IsOfCut fault.Memory = ⊥

cons-of_cut : (t : SetToken) (more : Result (List SetToken) SetLexFault) → IfErr more IsOfCut → IfErr (followed (Ok (Some t)) more) IsOfCut
cons-of_cut t (Ok ts) h = tt
cons-of_cut t (Err f) h = h

piece-of_cut : (before : List ℕ) (c : SetClass) (text : List ℕ) (more : Result (List SetToken) SetLexFault) → IfErr more IsOfCut → IfErr (followed (reading before c text) more) IsOfCut
piece-of_cut before «class».Blank text more h = h
piece-of_cut before «class».Comment text more h = h
piece-of_cut before («class».Token k) text more h = cons-of_cut (token k before text) more h
piece-of_cut before «class».OpenComment text more h = tt
piece-of_cut before «class».LongNumber text more h = tt
piece-of_cut before «class».BadKet text more h = tt
piece-of_cut before («class».BadByte b) text more h = tt

tokens-of_cut : (before : List ℕ) (ls : List Lexeme) → IfErr (tokens_of before ls) IsOfCut
tokens-of_cut before [] = tt
tokens-of_cut before (l ∷ ls) = piece-of_cut before l.kind l.text (tokens_of (before ++ l.text) ls) (tokens-of_cut (before ++ l.text) ls)

abbrev pub Answer : List ℕ → Type 0
Answer text = ((ts : List SetToken) × Reads text (Ok ts)) ⊎ ((f : SetLexFault) × FaultOf text f × (f ≡ fault.Memory → ⊥))

of_cut : (text : List ℕ) (r : Result (List SetToken) SetLexFault) → Reads text r → IfErr r IsOfCut → Answer text
of_cut text (Ok ts) reads h = inl (ts, reads)
of_cut text (Err (fault.NotUtf8 at)) reads h = absurd h
of_cut text (Err (fault.BadByte at byte)) reads h = inr (fault.BadByte at byte, reads, λ e. cc)
of_cut text (Err (fault.OpenComment at)) reads h = inr (fault.OpenComment at, reads, λ e. cc)
of_cut text (Err (fault.LongNumber at)) reads h = inr (fault.LongNumber at, reads, λ e. cc)
of_cut text (Err (fault.BadKet at)) reads h = inr (fault.BadKet at, reads, λ e. cc)
of_cut text (Err fault.Memory) reads h = absurd h

pub some_reading : (text : List ℕ) → Answer text
some_reading text = by (utf8_or_front text)
  where
    by : IsUtf8 text ⊎ ((n : ℕ) × IsValidUpTo text n) → Answer text
    by (inl u) = let c = some_cut [] text in of_cut text (tokens_of [] c.0) (u, c.0, c.1, refl) (tokens-of_cut [] c.0)
    by (inr (n, valid)) = inr (fault.NotUtf8 (place_after (take n text)), (n, valid, refl), λ e. cc)
