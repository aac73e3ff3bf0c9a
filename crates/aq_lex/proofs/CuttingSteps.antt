-- What has been read, whatever the rest gives: the invariant of a loop over the pieces of a text, for any rules.
use Rattle.std.proofs.Common.{◌≡◌, ℕ, ◌+◌, List, [], ◌∷◌, ◌++◌, take, drop, refl, sym, ap, ◌∙◌, append_assoc, subst, Bool, true, false, Option, None, Some, Result, Ok, Err}
use Rattle.std.proofs.lemmas.List.{take-append-drop, drop-drop}
use Rattle.aq_lex.specs.Cutting.{Piece, IsFront, Cut, followed, tokens_of}
use Rattle.std.proofs.Math.Seq.{take-add}

-- these tokens, and then what the rest gives
abbrev pub prefixed : {T E : Type 0} → List T → Result (List T) E → Result (List T) E
prefixed ts (Ok us) = Ok (ts ++ us)
prefixed ts (Err e) = Err e

prefixed_none : {T E : Type 0} (r : Result (List T) E) → r ≡ prefixed [] r
prefixed_none (Ok us) = refl
prefixed_none (Err e) = refl

prefixed-more : {T E : Type 0} (ts : List T) (t : T) (r : Result (List T) E) → prefixed ts (followed (Ok (Some t)) r) ≡ prefixed (ts ++ t ∷ []) r
prefixed-more ts t (Ok us) = ap Ok (sym (append_assoc ts (t ∷ []) us))
prefixed-more ts t (Err e) = refl

not_both : {P : Type 0} (b : Bool) → b ≡ true → b ≡ false → P
not_both b p q = cc

module _ {C T E : Type 0} (Is : List ℕ → C → List ℕ → Type 0) (bad : ℕ → C) (stops : C → Bool)
    (reading : List ℕ → C → List ℕ → Result (Option T) E) (last : List ℕ → T) where
  -- However the bytes behind `before` are cut, the source is cut so that these tokens come first.
  pub record Carries (source before bytes : List ℕ) (ts : List T) : Type 0 where
    pub go : (ls : List (Piece C)) → Cut Is bad stops before bytes ls → (all : List (Piece C)) × Cut Is bad stops [] source all × (tokens_of reading last [] all ≡ prefixed ts (tokens_of reading last before ls))

  pub Carries-start : (source : List ℕ) → Carries source [] source []
  Carries-start source = record { go = λ ls cut. (ls, cut, prefixed_none (tokens_of reading last [] ls)) }

  pub Carries-end : (source before bytes : List ℕ) (ts : List T) → Carries source before bytes ts → bytes ≡ [] → (all : List (Piece C)) × Cut Is bad stops [] source all × (tokens_of reading last [] all ≡ Ok (ts ++ last before ∷ []))
  Carries-end source before bytes ts h e = h.go [] e

  -- at another offset
  Carries-at : (source : List ℕ) (off n next : ℕ) (ts : List T) → next ≡ off + n → Carries source (take off source ++ take n (drop off source)) (drop n (drop off source)) ts → Carries source (take next source) (drop next source) ts
  Carries-at source off n next ts e h =
      let P : List ℕ → Type 0 = λ t. Carries source t (drop n (drop off source)) ts in
      let Q : List ℕ → Type 0 = λ t. Carries source (take next source) t ts in
      subst Q (drop-drop n off source ∙ sym (ap (λ k. drop k source) e)) (subst P (sym (ap (λ k. take k source) e ∙ take-add off n source)) h)

-- One turn of the loop: the next piece stands at the front of what is left behind an offset, and the next offset is behind it.
pub record Turn {C : Type 0} (Is : List ℕ → C → List ℕ → Type 0) (bad : ℕ → C) (stops : C → Bool) (source : List ℕ) (off next : ℕ) (c : C) (n : ℕ) : Type 0 where
  pub front : IsFront Is bad stops (take off source) (drop off source) (record { kind = c; text = take n (drop off source) })
  pub offset : next ≡ off + n

-- goes: what gives no fault goes on. halts: what gives a fault stops the cut.
module _ {C T E : Type 0} (Is : List ℕ → C → List ℕ → Type 0) (bad : ℕ → C) (stops : C → Bool)
    (reading : List ℕ → C → List ℕ → Result (Option T) E) (last : List ℕ → T)
    (goes : (before text : List ℕ) (c : C) (r : Option T) → reading before c text ≡ Ok r → stops c ≡ false)
    (halts : (before text : List ℕ) (c : C) (e : E) → reading before c text ≡ Err e → stops c ≡ true) where
  Carries-none : (source before bytes : List ℕ) (ts : List T) (c : C) (text tail : List ℕ) → Carries Is bad stops reading last source before bytes ts → IsFront Is bad stops before bytes (record { kind = c; text = text }) → bytes ≡ text ++ tail → reading before c text ≡ Ok None → Carries Is bad stops reading last source (before ++ text) tail ts
  Carries-none source before bytes ts c text tail h front e r = record {
    go = λ ls cut.
        let on = goes before text c None r in
        let all = h.go (record { kind = c; text = text } ∷ ls) (front, tail, e, (λ s. not_both (stops c) s on), (λ _. cut)) in
        (all.0, all.1, all.2 ∙ ap (λ x. prefixed ts (followed x (tokens_of reading last (before ++ text) ls))) r);
  }

  Carries-some : (source before bytes : List ℕ) (ts : List T) (c : C) (text tail : List ℕ) (t : T) → Carries Is bad stops reading last source before bytes ts → IsFront Is bad stops before bytes (record { kind = c; text = text }) → bytes ≡ text ++ tail → reading before c text ≡ Ok (Some t) → Carries Is bad stops reading last source (before ++ text) tail (ts ++ t ∷ [])
  Carries-some source before bytes ts c text tail t h front e r = record {
    go = λ ls cut.
        let on = goes before text c (Some t) r in
        let all = h.go (record { kind = c; text = text } ∷ ls) (front, tail, e, (λ s. not_both (stops c) s on), (λ _. cut)) in
        (all.0, all.1, all.2 ∙ ap (λ x. prefixed ts (followed x (tokens_of reading last (before ++ text) ls))) r ∙ prefixed-more ts t (tokens_of reading last (before ++ text) ls));
  }

  Carries-fault : (source before bytes : List ℕ) (ts : List T) (c : C) (text tail : List ℕ) (f : E) → Carries Is bad stops reading last source before bytes ts → IsFront Is bad stops before bytes (record { kind = c; text = text }) → bytes ≡ text ++ tail → reading before c text ≡ Err f → (all : List (Piece C)) × Cut Is bad stops [] source all × (tokens_of reading last [] all ≡ Err f)
  Carries-fault source before bytes ts c text tail f h front e r =
      let on = halts before text c f r in
      let all = h.go (record { kind = c; text = text } ∷ []) (front, tail, e, (λ _. refl), (λ s. not_both (stops c) on s)) in
      (all.0, all.1, all.2 ∙ ap (λ x. prefixed ts (followed x (tokens_of reading last (before ++ text) []))) r)

  -- a turn whose piece gives no token
  pub turn_none : (source : List ℕ) (off next : ℕ) (c : C) (n : ℕ) (ts : List T) → Turn Is bad stops source off next c n → Carries Is bad stops reading last source (take off source) (drop off source) ts → reading (take off source) c (take n (drop off source)) ≡ Ok None → Carries Is bad stops reading last source (take next source) (drop next source) ts
  turn_none source off next c n ts t h r =
      Carries-at Is bad stops reading last source off n next ts t.offset
      (Carries-none source (take off source) (drop off source) ts c (take n (drop off source)) (drop n (drop off source)) h t.front (sym (take-append-drop n (drop off source))) r)

  -- a turn whose piece gives a token
  pub turn_some : (source : List ℕ) (off next : ℕ) (c : C) (n : ℕ) (ts : List T) (k : T) → Turn Is bad stops source off next c n → Carries Is bad stops reading last source (take off source) (drop off source) ts → reading (take off source) c (take n (drop off source)) ≡ Ok (Some k) → Carries Is bad stops reading last source (take next source) (drop next source) (ts ++ k ∷ [])
  turn_some source off next c n ts k t h r =
      Carries-at Is bad stops reading last source off n next (ts ++ k ∷ []) t.offset
      (Carries-some source (take off source) (drop off source) ts c (take n (drop off source)) (drop n (drop off source)) k h t.front (sym (take-append-drop n (drop off source))) r)

  -- a turn whose piece gives a fault
  pub turn_fault : (source : List ℕ) (off next : ℕ) (c : C) (n : ℕ) (ts : List T) (f : E) → Turn Is bad stops source off next c n → Carries Is bad stops reading last source (take off source) (drop off source) ts → reading (take off source) c (take n (drop off source)) ≡ Err f → (all : List (Piece C)) × Cut Is bad stops [] source all × (tokens_of reading last [] all ≡ Err f)
  turn_fault source off next c n ts f t h r =
      Carries-fault source (take off source) (drop off source) ts c (take n (drop off source)) (drop n (drop off source)) f h t.front (sym (take-append-drop n (drop off source))) r
