-- The front that is found is the one front, and a set file has at most one cut.
use Rattle.std.proofs.Common.{◌≡◌, ℕ, ◌+◌, ◌-◌, ◌<◌, ◌≤◌, inl, inr, List, [], ◌∷◌, ◌++◌, length, take, drop, get_or, refl, sym, ap, ◌∙◌, append_assoc, subst, ap₂, Bool, true, false, arith, Result, Ok, Err, map, slice_range}
use Rattle.std.proofs.lemmas.List.{take_at, drop_at, length-take-le, take-append-drop}
use Rattle.aq_set_parse.specs.Rules.{Is}
use Rattle.aq_set_parse.specs.Fronts.{found, set_front}
use Rattle.aq_lex.specs.Cutting.{followed}
use Rattle.aq_set_parse.specs.Cuts.{Lexeme, IsFront, Cut, stops, Reads, tokens_of, token, reading, with_text, texts_of, slice_of}
use Rattle.aq_set_parse.specs.declared.token.SetKind.TheVariants as kind
use Rattle.aq_set_parse.specs.declared.token.SetClass.{SetClass}
use Rattle.aq_set_parse.specs.declared.token.SetClass.TheVariants as «class»
use Rattle.aq_set_parse.specs.declared.token.SetFound.{SetFound}
use Rattle.aq_set_parse.specs.declared.token.SetToken.{SetToken}
use Rattle.aq_set_parse.specs.declared.fault.SetLexFault.{SetLexFault}
use Rattle.aq_lex.proofs.CuttingLaws as laws
use Rattle.aq_set_parse.proofs.FrontFinds.{is_bad, front_of, Has, rule-Finds}
use Rattle.aq_set_parse.proofs.FrontIs.{Sound, front-Sound}

not_both : {P : Type 0} (b : Bool) → b ≡ true → b ≡ false → P
not_both b p q = cc

-- any front that a rule takes is no longer than what is found, and then what is found isn't bad
any_front : (before bytes : List ℕ) (d : SetClass) (other tail : List ℕ) → bytes ≡ other ++ tail → Is before d other → Has (front_of bytes) (length other)
any_front before bytes d other tail e h =
    let P : List ℕ → Type 0 = λ t. Has (front_of t) (length other) in
    subst P (sym e) ((rule-Finds before d other h).has tail)

front_at : (before : List ℕ) (b : ℕ) (bs : List ℕ) (f : SetFound) → set_front b bs ≡ f → f.len ≤ length (b ∷ bs) → (v : Bool) → is_bad f.class ≡ v → IsFront before (b ∷ bs) (record { kind = f.class; text = take f.len (b ∷ bs) })
front_at before b bs f e l false g =
    let P : SetFound → Type 0 = λ x. Sound before b bs x in
    let s : Sound before b bs f = subst P e (front-Sound before b bs) in
    inl (record {
      at_front = (drop f.len (b ∷ bs), sym (take-append-drop f.len (b ∷ bs)));
      of_class = s.good g;
      longest = λ d other tail w h.
          let has = any_front before (b ∷ bs) d other tail w h in
          let len : (set_front b bs).len ≡ f.len = ap (λ x. x.len) e in
          let text = length-take-le f.len (b ∷ bs) l in
          omega (arith, has.most);
    })
front_at before b bs f e l true g =
    let P : SetFound → Type 0 = λ x. Sound before b bs x in
    let s : Sound before b bs f = subst P e (front-Sound before b bs) in
    let is : f ≡ found («class».BadByte b) 1 = s.bad g in
    inr (record {
      at_front = (b, bs, refl, ap (λ x. take x.len (b ∷ bs)) is, ap (λ x. x.class) is);
      none = λ d other tail w h.
          let has = any_front before (b ∷ bs) d other tail w h in
          not_both _ (ap (λ x. is_bad x.class) e ∙ g) has.good;
    })

pub front-IsFront : (before : List ℕ) (bytes : List ℕ) (f : SetFound) → 0 < length bytes → f ≡ set_front (get_or bytes 0 0) (drop 1 bytes) → f.len ≤ length bytes → IsFront before bytes (record { kind = f.class; text = take f.len bytes })
front-IsFront before [] f h e l = absurd (omega arith)
front-IsFront before (b ∷ bs) f h e l = front_at before b bs f (sym e) l (is_bad f.class) refl

-- no empty text is of a class, and a text is of one class

pub not_empty : (before : List ℕ) (c : SetClass) → Is before c [] → ⊥
not_empty before c h =
    let e : «class».Blank ≡ c = ap (λ x. x.class) (rule-Finds before c [] h).exact in
    let P : SetClass → Type 0 = λ x. Is before x [] in
    let b = subst P (sym e) h in
    no_blank b.0 b.1
  where
    no_blank : (b : ℕ) → [] ≡ b ∷ [] → ⊥
    no_blank b e = cc

pub one_class : (before : List ℕ) (c d : SetClass) (text : List ℕ) → Is before c text → Is before d text → c ≡ d
one_class before c d text h k =
    ap (λ x. x.class) (sym (rule-Finds before c text h).exact ∙ (rule-Finds before d text k).exact)

pub one_cut : (before bytes : List ℕ) (ls ms : List Lexeme) → Cut before bytes ls → Cut before bytes ms → ls ≡ ms
one_cut = laws.one_cut Is «class».BadByte stops not_empty one_class

pub one_reading : (source : List ℕ) (a b : Result (List SetToken) SetLexFault) → Reads source a → Reads source b → a ≡ b
one_reading source a b h k = sym h.3 ∙ ap (tokens_of []) (one_cut [] source h.1 k.1 h.2 k.2) ∙ k.3

-- each token's span has the bytes that were cut

slice_is : (source before text tail : List ℕ) → source ≡ before ++ (text ++ tail) → slice_range source (length before) (length before + length text) ≡ text
slice_is source before text tail e =
    let n : length before + length text - length before ≡ length text = omega arith in
    ap (λ k. take k (drop (length before) source)) n ∙ ap (take (length text)) (ap (drop (length before)) e ∙ drop_at before (text ++ tail) (length before) refl) ∙ take_at text tail (length text) refl

pub no_stop : (before text : List ℕ) (c : SetClass) (m : Result (List SetToken) SetLexFault) (ts : List SetToken) → followed (reading before c text) m ≡ Ok ts → stops c ≡ false
no_stop before text «class».Blank m ts e = refl
no_stop before text «class».Comment m ts e = refl
no_stop before text («class».Token k) m ts e = refl
no_stop before text «class».OpenComment m ts e = cc
no_stop before text «class».BadKet m ts e = cc
no_stop before text «class».LongNumber m ts e = cc
no_stop before text («class».BadByte b) m ts e = cc

slices_at : (source before text tail : List ℕ) (c : SetClass) (m : Result (List SetToken) SetLexFault) (texts : List (List ℕ)) (ts : List SetToken) → source ≡ before ++ (text ++ tail) → ((us : List SetToken) → m ≡ Ok us → map (slice_of source) us ≡ texts) → followed (reading before c text) m ≡ Ok ts → map (slice_of source) ts ≡ with_text c text texts
slices_at source before text tail «class».Blank m texts ts e h w = h ts w
slices_at source before text tail «class».Comment m texts ts e h w = h ts w
slices_at source before text tail («class».Token k) (Ok us) texts ts e h w =
    let is : token k before text ∷ us ≡ ts = cc in
    ap (map (slice_of source)) (sym is) ∙ ap₂ (λ x xs. x ∷ xs) (slice_is source before text tail e) (h us refl)
slices_at source before text tail («class».Token k) (Err f) texts ts e h w = cc
slices_at source before text tail «class».OpenComment m texts ts e h w = cc
slices_at source before text tail «class».BadKet m texts ts e h w = cc
slices_at source before text tail «class».LongNumber m texts ts e h w = cc
slices_at source before text tail («class».BadByte b) m texts ts e h w = cc

slices_from : (source before bytes : List ℕ) (ls : List Lexeme) (ts : List SetToken) → source ≡ before ++ bytes → Cut before bytes ls → tokens_of before ls ≡ Ok ts → map (slice_of source) ts ≡ texts_of ls
slices_from source before bytes [] ts e h w =
    let is : token kind.End before [] ∷ [] ≡ ts = cc in
    ap (map (slice_of source)) (sym is) ∙ ap (λ x. x ∷ []) (slice_is source before [] bytes e)
slices_from source before bytes (l ∷ ls) ts e h w =
    let parts : source ≡ before ++ (l.text ++ h.1) = e ∙ ap (λ t. before ++ t) h.2 in
    let on = no_stop before l.text l.kind (tokens_of (before ++ l.text) ls) ts w in
    slices_at source before l.text h.1 l.kind (tokens_of (before ++ l.text) ls) (texts_of ls) ts parts
    (λ us v. slices_from source (before ++ l.text) h.1 ls us (parts ∙ sym (append_assoc before l.text h.1)) (h.4 on) v) w

pub slices : (source : List ℕ) (ls : List Lexeme) (ts : List SetToken) → Cut [] source ls → tokens_of [] ls ≡ Ok ts → map (slice_of source) ts ≡ texts_of ls
slices source ls ts h e = slices_from source [] source ls ts refl h e
