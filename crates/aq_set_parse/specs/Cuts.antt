-- How a set file is cut, and its tokens.
use Rattle.std.specs.Prelude.{◌≡◌, ℕ, ◌+◌, Bool, true, false, List, [], ◌∷◌, length, Option, None, Some, Result, Ok, Err, IsUtf8, slice_range}
use Rattle.aq_lex.specs.Cutting as cutting
use Rattle.aq_lex.specs.Places.{place_after}
use Rattle.aq_set_parse.specs.Rules.{Is}
use Rattle.aq_set_parse.specs.declared.token.SetKind.{SetKind}
use Rattle.aq_set_parse.specs.declared.token.SetKind.TheVariants as kind
use Rattle.aq_set_parse.specs.declared.token.SetClass.{SetClass}
use Rattle.aq_set_parse.specs.declared.token.SetClass.TheVariants as «class»
use Rattle.aq_set_parse.specs.declared.token.SetToken.{SetToken}
use Rattle.aq_set_parse.specs.declared.fault.SetLexFault.{SetLexFault}
use Rattle.aq_set_parse.specs.declared.fault.SetLexFault.TheVariants as fault

-- a piece of a set file, and what it is
abbrev pub Lexeme : Type 0
Lexeme = cutting.Piece SetClass

-- what stops the cut: a fault
abbrev pub stops : SetClass → Bool
stops «class».Blank = false
stops «class».Comment = false
stops («class».Token k) = false
stops «class».OpenComment = true
stops «class».LongNumber = true
stops «class».BadKet = true
stops («class».BadByte b) = true

-- the piece at the front of the bytes, by the rules: no longer front is of any class
abbrev pub IsFront : List ℕ → List ℕ → Lexeme → Type 0
IsFront = cutting.IsFront Is «class».BadByte stops

-- The bytes behind `before` are cut into these pieces by the rules, each as long as possible.
abbrev pub Cut : List ℕ → List ℕ → List Lexeme → Type 0
Cut = cutting.Cut Is «class».BadByte stops

-- a token of this kind with this text, where these bytes stand before it
abbrev pub token : SetKind → List ℕ → List ℕ → SetToken
token k before text = record { kind = k; start = length before; end = length before + length text; at = place_after before }

-- the token at the end of a text
abbrev pub last_token : List ℕ → SetToken
last_token before = token kind.End before []

-- what a piece gives: no token, a token, or a fault
abbrev pub reading : List ℕ → SetClass → List ℕ → Result (Option SetToken) SetLexFault
reading before «class».Blank text = Ok None
reading before «class».Comment text = Ok None
reading before («class».Token k) text = Ok (Some (token k before text))
reading before «class».OpenComment text = Err (fault.OpenComment (place_after before))
reading before «class».LongNumber text = Err (fault.LongNumber (place_after before))
reading before «class».BadKet text = Err (fault.BadKet (place_after before))
reading before («class».BadByte b) text = Err (fault.BadByte (place_after before) b)

-- the tokens of pieces, or the first fault
abbrev pub tokens_of : List ℕ → List Lexeme → Result (List SetToken) SetLexFault
tokens_of = cutting.tokens_of reading last_token

-- What the text says: its cut gives this.
abbrev pub Reads : List ℕ → Result (List SetToken) SetLexFault → Type 0
Reads source told = IsUtf8 source × (ls : List Lexeme) × Cut [] source ls × (tokens_of [] ls ≡ told)

-- the texts with that of one piece in front, where the piece is a token
abbrev pub with_text : SetClass → List ℕ → List (List ℕ) → List (List ℕ)
with_text («class».Token k) text more = text ∷ more
with_text «class».Blank text more = more
with_text «class».Comment text more = more
with_text «class».OpenComment text more = more
with_text «class».LongNumber text more = more
with_text «class».BadKet text more = more
with_text («class».BadByte b) text more = more

-- the bytes of each token, of which End has none
abbrev pub texts_of : List Lexeme → List (List ℕ)
texts_of [] = [] ∷ []
texts_of (l ∷ ls) = with_text l.kind l.text (texts_of ls)

-- a token's slice of the source
abbrev pub slice_of : List ℕ → SetToken → List ℕ
slice_of source t = slice_range source t.start t.end
