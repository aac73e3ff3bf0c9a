-- What has been read of a set file, whatever the rest gives.
use Rattle.std.proofs.Common.{◌≡◌, ℕ, List, [], ◌∷◌, ◌++◌, refl, true, false, Option, Ok, Err}
use Rattle.aq_set_parse.specs.Rules.{Is}
use Rattle.aq_set_parse.specs.Cuts.{Lexeme, Cut, stops, reading, last_token, tokens_of}
use Rattle.aq_set_parse.specs.declared.token.SetClass.{SetClass}
use Rattle.aq_set_parse.specs.declared.token.SetClass.TheVariants as «class»
use Rattle.aq_set_parse.specs.declared.token.SetToken.{SetToken}
use Rattle.aq_set_parse.specs.declared.fault.SetLexFault.{SetLexFault}
use Rattle.aq_lex.proofs.CuttingSteps as steps

-- However the bytes behind `before` are cut, the source is cut so that these tokens come first.
abbrev pub Carries : List ℕ → List ℕ → List ℕ → List SetToken → Type 0
Carries = steps.Carries Is «class».BadByte stops reading last_token

pub Carries-start : (source : List ℕ) → Carries source [] source []
Carries-start = steps.Carries-start Is «class».BadByte stops reading last_token

pub Carries-end : (source before bytes : List ℕ) (ts : List SetToken) → Carries source before bytes ts → bytes ≡ [] → (all : List Lexeme) × Cut [] source all × (tokens_of [] all ≡ Ok (ts ++ last_token before ∷ []))
Carries-end = steps.Carries-end Is «class».BadByte stops reading last_token

-- what gives no fault goes on
pub goes_on : (before text : List ℕ) (c : SetClass) (r : Option SetToken) → reading before c text ≡ Ok r → stops c ≡ false
goes_on before text «class».Blank r e = refl
goes_on before text «class».Comment r e = refl
goes_on before text («class».Token k) r e = refl
goes_on before text «class».OpenComment r e = cc
goes_on before text «class».BadKet r e = cc
goes_on before text «class».LongNumber r e = cc
goes_on before text («class».BadByte b) r e = cc

-- what gives a fault stops the cut
pub stops_there : (before text : List ℕ) (c : SetClass) (f : SetLexFault) → reading before c text ≡ Err f → stops c ≡ true
stops_there before text «class».Blank f e = cc
stops_there before text «class».Comment f e = cc
stops_there before text («class».Token k) f e = cc
stops_there before text «class».OpenComment f e = refl
stops_there before text «class».BadKet f e = refl
stops_there before text «class».LongNumber f e = refl
stops_there before text («class».BadByte b) f e = refl
