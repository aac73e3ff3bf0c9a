-- One turn of the loop over the pieces of a set file.
use Rattle.std.proofs.Common.{◌≡◌, ℕ, ◌+◌, ◌<◌, ◌≤◌, List, [], ◌∷◌, ◌++◌, length, take, drop, get_or, sym, ap, ◌∙◌, subst, arith, Some, None, Ok, Err, IsUtf8}
use Rattle.std.proofs.lemmas.List.{length-drop, drop_all}
use Rattle.aq_lex.specs.Stands.{Stands}
use Rattle.aq_set_parse.specs.Fronts.{set_front}
use Rattle.aq_set_parse.specs.Rules.{Is}
use Rattle.aq_set_parse.specs.Cuts.{IsFront, stops, reading, token, last_token, Reads}
use Rattle.aq_set_parse.specs.Told.{FaultOf}
use Rattle.aq_lex.specs.declared.cursor.Cursor.{Cursor}
use Rattle.aq_lex.specs.declared.place.Place.{Place}
use Rattle.aq_set_parse.specs.declared.token.SetKind.TheVariants as kind
use Rattle.aq_set_parse.specs.declared.token.SetClass.{SetClass}
use Rattle.aq_set_parse.specs.declared.token.SetClass.TheVariants as «class»
use Rattle.aq_set_parse.specs.declared.token.SetFound.{SetFound}
use Rattle.aq_set_parse.specs.declared.token.SetToken.{SetToken}
use Rattle.aq_set_parse.specs.declared.fault.SetLexFault.{SetLexFault}
use Rattle.aq_set_parse.specs.declared.fault.SetLexFault.TheVariants as fault
use Rattle.aq_set_parse.proofs.CutLaws.{front-IsFront}
use Rattle.aq_lex.proofs.CutSteps.{stands_step}
use Rattle.aq_lex.proofs.CuttingSteps as steps
use Rattle.aq_set_parse.proofs.CutLemmas.{Carries, Carries-end, goes_on, stops_there}

front_step : (source : List ℕ) (off : ℕ) (f : SetFound) → off < length source → f ≡ set_front (get_or (drop off source) 0 0) (drop 1 (drop off source)) → f.len ≤ length (drop off source) → IsFront (take off source) (drop off source) (record { kind = f.class; text = take f.len (drop off source) })
front_step source off f h e l = front-IsFront (take off source) (drop off source) f (omega (arith, length-drop off source)) e l

never_utf8 : (before text : List ℕ) (c : SetClass) (p : Place) → reading before c text ≡ Err (fault.NotUtf8 p) → ⊥
never_utf8 before text «class».Blank p e = cc
never_utf8 before text «class».Comment p e = cc
never_utf8 before text («class».Token k) p e = cc
never_utf8 before text «class».OpenComment p e = cc
never_utf8 before text «class».BadKet p e = cc
never_utf8 before text «class».LongNumber p e = cc
never_utf8 before text («class».BadByte b) p e = cc

pub told_fault : (source before text : List ℕ) (c : SetClass) (f : SetLexFault) → reading before c text ≡ Err f → Reads source (Err f) → FaultOf source f
told_fault source before text c (fault.NotUtf8 p) e h = absurd (never_utf8 before text c p e)
told_fault source before text c (fault.BadByte p b) e h = h
told_fault source before text c (fault.OpenComment p) e h = h
told_fault source before text c (fault.BadKet p) e h = h
told_fault source before text c (fault.LongNumber p) e h = h
told_fault source before text c fault.Memory e h = tt

-- One turn: what is left, what is found at its front, and where the cursor stands then.
pub record Turn (source : List ℕ) (c next : Cursor) (f : SetFound) (rest : List ℕ) : Type 0 where
  pub rest_is : rest ≡ drop c.offset source
  pub inside : c.offset < length source
  pub stands : Stands c (take c.offset source)
  pub found : f ≡ set_front (get_or rest 0 0) (drop 1 rest)
  pub within : f.len ≤ length rest
  pub after : Stands next (take c.offset source ++ take f.len rest)
  pub offset : next.offset ≡ c.offset + f.len

-- the turn as the rules of cutting see it
turn_of : (source : List ℕ) (c next : Cursor) (f : SetFound) (rest : List ℕ) → Turn source c next f rest → steps.Turn Is «class».BadByte stops source c.offset next.offset f.class f.len
turn_of source c next f rest t =
    let P : List ℕ → Type 0 = λ r. f ≡ set_front (get_or r 0 0) (drop 1 r) in
    let Q : List ℕ → Type 0 = λ r. f.len ≤ length r in
    record { front = front_step source c.offset f t.inside (subst P t.rest_is t.found) (subst Q t.rest_is t.within); offset = t.offset }

pub turn_stands : (source : List ℕ) (c next : Cursor) (f : SetFound) (rest : List ℕ) → Turn source c next f rest → Stands next (take next.offset source)
turn_stands source c next f rest t =
    let P : List ℕ → Type 0 = λ r. Stands next (take c.offset source ++ take f.len r) in
    stands_step source next c.offset f.len t.offset (subst P t.rest_is t.after)

pub turn_none : (source : List ℕ) (c next : Cursor) (f : SetFound) (rest : List ℕ) (ts : List SetToken) → Turn source c next f rest → Carries source (take c.offset source) (drop c.offset source) ts → reading (take c.offset source) f.class (take f.len rest) ≡ Ok None → Carries source (take next.offset source) (drop next.offset source) ts
turn_none source c next f rest ts t h r =
    let P : List ℕ → Type 0 = λ x. reading (take c.offset source) f.class (take f.len x) ≡ Ok None in
    steps.turn_none Is «class».BadByte stops reading last_token goes_on stops_there source c.offset next.offset f.class f.len ts (turn_of source c next f rest t) h (subst P t.rest_is r)

pub turn_some : (source : List ℕ) (c next : Cursor) (f : SetFound) (rest : List ℕ) (ts us : List SetToken) (k : SetToken) → Turn source c next f rest → Carries source (take c.offset source) (drop c.offset source) ts → reading (take c.offset source) f.class (take f.len rest) ≡ Ok (Some k) → us ≡ ts ++ k ∷ [] → Carries source (take next.offset source) (drop next.offset source) us
turn_some source c next f rest ts us k t h r e =
    let P : List ℕ → Type 0 = λ x. reading (take c.offset source) f.class (take f.len x) ≡ Ok (Some k) in
    let Q : List SetToken → Type 0 = λ x. Carries source (take next.offset source) (drop next.offset source) x in
    subst Q (sym e) (steps.turn_some Is «class».BadByte stops reading last_token goes_on stops_there source c.offset next.offset f.class f.len ts k (turn_of source c next f rest t) h (subst P t.rest_is r))

pub turn_fault : (source : List ℕ) (c next : Cursor) (f : SetFound) (rest : List ℕ) (ts : List SetToken) (e : SetLexFault) → IsUtf8 source → Turn source c next f rest → Carries source (take c.offset source) (drop c.offset source) ts → reading (take c.offset source) f.class (take f.len rest) ≡ Err e → FaultOf source e
turn_fault source c next f rest ts e u t h r =
    let P : List ℕ → Type 0 = λ x. reading (take c.offset source) f.class (take f.len x) ≡ Err e in
    let all = steps.turn_fault Is «class».BadByte stops reading last_token goes_on stops_there source c.offset next.offset f.class f.len ts e (turn_of source c next f rest t) h (subst P t.rest_is r) in
    told_fault source (take c.offset source) (take f.len rest) f.class e r (u, all.0, all.1, all.2)

pub at_end : (source : List ℕ) (c : Cursor) (ts us : List SetToken) (k : SetToken) → IsUtf8 source → length source ≤ c.offset → Carries source (take c.offset source) (drop c.offset source) ts → k ≡ token kind.End (take c.offset source) [] → us ≡ ts ++ k ∷ [] → Reads source (Ok us)
at_end source c ts us k u l h e w =
    let all = Carries-end source (take c.offset source) (drop c.offset source) ts h (drop_all c.offset source l) in
    (u, all.0, all.1, all.2 ∙ ap (λ x. Ok (ts ++ x ∷ [])) (sym e) ∙ ap Ok (sym w))
