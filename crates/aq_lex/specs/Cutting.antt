-- How a text is cut into pieces by rules, for any rules. A reader of another language takes these words with
-- rules of its own.
use Rattle.std.specs.Prelude.{◌≡◌, ℕ, ◌≤◌, Bool, true, false, ◌⊎◌, List, [], ◌∷◌, ◌++◌, length, Option, Some, None, Result, Ok, Err}

-- a piece of a text, and the class that it is of
pub record Piece (C : Type 0) : Type 0 where
  pub kind : C
  pub text : List ℕ

-- Is before c text: the text, as a whole, is of the class c, where these bytes stand before it.
-- bad b: the class of a byte that begins nothing. stops c: a piece of the class c ends the cut.
module _ {C : Type 0} (Is : List ℕ → C → List ℕ → Type 0) (bad : ℕ → C) (stops : C → Bool) where
  -- The text stands at the front of the bytes, is of the class, and no longer front is of any class.
  pub record IsLongest (before bytes : List ℕ) (c : C) (text : List ℕ) : Type 0 where
    pub at_front : (tail : List ℕ) × (bytes ≡ text ++ tail)
    pub of_class : Is before c text
    pub longest : (d : C) (other tail : List ℕ) → bytes ≡ other ++ tail → Is before d other → length other ≤ length text

  -- No front of the bytes is of any class, and the text is their first byte.
  pub record IsBad (before bytes : List ℕ) (c : C) (text : List ℕ) : Type 0 where
    pub at_front : (b : ℕ) × (tail : List ℕ) × (bytes ≡ b ∷ tail) × (text ≡ b ∷ []) × (c ≡ bad b)
    pub none : (d : C) (other tail : List ℕ) → bytes ≡ other ++ tail → Is before d other → ⊥

  -- what stands at the front of the bytes: the longest front of a class, or a bad byte
  abbrev pub IsFront : List ℕ → List ℕ → Piece C → Type 0
  IsFront before bytes l = IsLongest before bytes l.kind l.text ⊎ IsBad before bytes l.kind l.text

  -- The bytes behind `before` are cut into these pieces, up to their end or to the first that stops the cut.
  abbrev pub Cut : List ℕ → List ℕ → List (Piece C) → Type 0
  Cut before bytes [] = bytes ≡ []
  Cut before bytes (l ∷ ls) = IsFront before bytes l × (tail : List ℕ) × (bytes ≡ l.text ++ tail) × (stops l.kind ≡ true → ls ≡ []) × (stops l.kind ≡ false → Cut (before ++ l.text) tail ls)

-- what one piece gives, and then what the rest gives: the first fault is that of the whole
abbrev pub followed : {T E : Type 0} → Result (Option T) E → Result (List T) E → Result (List T) E
followed (Err e) more = Err e
followed (Ok None) more = more
followed (Ok (Some t)) (Ok ts) = Ok (t ∷ ts)
followed (Ok (Some t)) (Err e) = Err e

-- reading before c text: what a piece gives, which is no token, a token or a fault. last before: the token at the end.
module _ {C T E : Type 0} (reading : List ℕ → C → List ℕ → Result (Option T) E) (last : List ℕ → T) where
  -- the tokens of pieces, or the first fault
  abbrev pub tokens_of : List ℕ → List (Piece C) → Result (List T) E
  tokens_of before [] = Ok (last before ∷ [])
  tokens_of before (l ∷ ls) = followed (reading before l.kind l.text) (tokens_of (before ++ l.text) ls)
