-- A text has one cut, for any rules that suit one another.
use Rattle.std.proofs.Common.{◌≡◌, ℕ, zero, suc, ◌<◌, ◌≤◌, inl, inr, List, [], ◌∷◌, ◌++◌, length, take, refl, sym, ap, ◌∙◌, subst, ap₂, Bool, true, false, arith}
use Rattle.std.proofs.lemmas.List.{nil_from_length, take_at, append_cancel_left, length-append}
use Rattle.aq_lex.specs.Cutting.{Piece, IsFront, Cut}

same_fronts : (s t u v : List ℕ) → s ++ u ≡ t ++ v → length s ≡ length t → s ≡ t
same_fronts s t u v e l = sym (take_at s u (length s) refl) ∙ ap (take (length s)) e ∙ take_at t v (length s) (sym l)

same_rest : {X : Type 0} (v : Bool) (ls ms : List X) → (v ≡ true → ls ≡ []) → (v ≡ true → ms ≡ []) → (v ≡ false → ls ≡ ms) → ls ≡ ms
same_rest true ls ms p q r = p refl ∙ sym (q refl)
same_rest false ls ms p q r = r refl

same_piece : {C : Type 0} (l m : Piece C) → l.kind ≡ m.kind → l.text ≡ m.text → l ≡ m
same_piece l m p q = λ i. record { kind = p i; text = q i }

-- some: no empty text is of a class. one: a text is of one class.
module _ {C : Type 0} (Is : List ℕ → C → List ℕ → Type 0) (bad : ℕ → C) (stops : C → Bool)
    (some : (before : List ℕ) (c : C) → Is before c [] → ⊥)
    (one : (before : List ℕ) (c d : C) (text : List ℕ) → Is before c text → Is before d text → c ≡ d) where
  -- one piece stands at the front
  pub one_front : (before bytes : List ℕ) (l m : Piece C) → IsFront Is bad stops before bytes l → IsFront Is bad stops before bytes m → (l.kind ≡ m.kind) × (l.text ≡ m.text)
  one_front before bytes l m (inl h) (inl k) =
      let a = h.longest m.kind m.text k.at_front.0 k.at_front.1 k.of_class in
      let b = k.longest l.kind l.text h.at_front.0 h.at_front.1 h.of_class in
      let e = same_fronts l.text m.text h.at_front.0 k.at_front.0 (sym h.at_front.1 ∙ k.at_front.1) (omega arith) in
      let P : List ℕ → Type 0 = λ x. Is before l.kind x in
      (one before l.kind m.kind m.text (subst P e h.of_class) k.of_class, e)
  one_front before bytes l m (inl h) (inr k) = absurd (k.none l.kind l.text h.at_front.0 h.at_front.1 h.of_class)
  one_front before bytes l m (inr h) (inl k) = absurd (h.none m.kind m.text k.at_front.0 k.at_front.1 k.of_class)
  one_front before bytes l m (inr h) (inr k) =
      let e : h.at_front.0 ∷ h.at_front.1 ≡ k.at_front.0 ∷ k.at_front.1 = sym h.at_front.2 ∙ k.at_front.2 in
      let b : h.at_front.0 ≡ k.at_front.0 = cc in
      (h.at_front.4 ∙ ap bad b ∙ sym k.at_front.4, h.at_front.3 ∙ ap (λ x. x ∷ []) b ∙ sym k.at_front.3)

  -- no piece stands at the end
  front_some : (before bytes : List ℕ) (l : Piece C) → bytes ≡ [] → IsFront Is bad stops before bytes l → ⊥
  front_some before bytes l e (inl h) =
      let P : List ℕ → Type 0 = λ t. Is before l.kind t in
      let z : l.text ≡ [] = nil_from_length l.text (let k = length-append l.text h.at_front.0 in let q : length (l.text ++ h.at_front.0) ≡ 0 = ap length (sym h.at_front.1 ∙ e) in omega arith) in
      some before l.kind (subst P z h.of_class)
  front_some before bytes l e (inr h) = let q : [] ≡ h.at_front.0 ∷ h.at_front.1 = sym e ∙ h.at_front.2 in cc

  -- a text has at most one cut
  pub one_cut : (before bytes : List ℕ) (ls ms : List (Piece C)) → Cut Is bad stops before bytes ls → Cut Is bad stops before bytes ms → ls ≡ ms
  one_cut before bytes [] [] h k = refl
  one_cut before bytes [] (m ∷ ms) h k = absurd (front_some before bytes m h k.0)
  one_cut before bytes (l ∷ ls) [] h k = absurd (front_some before bytes l k h.0)
  one_cut before bytes (l ∷ ls) (m ∷ ms) h k =
      let e = one_front before bytes l m h.0 k.0 in
      let tails : h.1 ≡ k.1 = append_cancel_left l.text h.1 k.1 (sym h.2 ∙ k.2 ∙ ap (λ t. t ++ k.1) (sym e.1)) in
      let P : List ℕ → Type 0 = λ t. Cut Is bad stops (before ++ t) h.1 ms in
      let Q : List ℕ → Type 0 = λ t. Cut Is bad stops (before ++ m.text) t ms in
      ap₂ (λ x xs. x ∷ xs) (same_piece l m e.0 e.1) (same_rest (stops l.kind) ls ms h.3
      (λ s. k.3 (ap stops (sym e.0) ∙ s))
      (λ s. one_cut (before ++ l.text) h.1 ls ms (h.4 s) (subst P (sym e.1) (subst Q (sym tails) (k.4 (ap stops (sym e.0) ∙ s))))))

-- A piece that a reader finds at the front of bytes, and what is behind it.
pub record Found {C : Type 0} (Is : List ℕ → C → List ℕ → Type 0) (bad : ℕ → C) (stops : C → Bool) (before bytes : List ℕ) : Type 0 where
  pub piece : Piece C
  pub tail : List ℕ
  pub front : IsFront Is bad stops before bytes piece
  pub parts : bytes ≡ piece.text ++ tail
  pub some : 0 < length piece.text

-- find: something is found at the front of any bytes.
module _ {C : Type 0} (Is : List ℕ → C → List ℕ → Type 0) (bad : ℕ → C) (stops : C → Bool)
    (find : (before : List ℕ) (b : ℕ) (bs : List ℕ) → Found Is bad stops before (b ∷ bs)) where
  cut_by : (before bytes tail : List ℕ) (l : Piece C) (v : Bool) → stops l.kind ≡ v → IsFront Is bad stops before bytes l → bytes ≡ l.text ++ tail → (ls : List (Piece C)) × Cut Is bad stops (before ++ l.text) tail ls → (ls : List (Piece C)) × Cut Is bad stops before bytes ls
  cut_by before bytes tail l true e piece parts rest = (l ∷ [], (piece, tail, parts, (λ _. refl), (λ f. let no : true ≡ false = sym e ∙ f in cc)))
  cut_by before bytes tail l false e piece parts rest = (l ∷ rest.0, (piece, tail, parts, (λ f. let no : true ≡ false = sym f ∙ e in cc), (λ _. rest.1)))

  cut_within : (n : ℕ) (before bytes : List ℕ) → length bytes ≤ n → (ls : List (Piece C)) × Cut Is bad stops before bytes ls
  cut_within n before [] l = ([], refl)
  cut_within zero before (b ∷ bs) l = absurd (omega arith)
  cut_within (suc n) before (b ∷ bs) l =
      let f = find before b bs in
      cut_by before (b ∷ bs) f.tail f.piece (stops f.piece.kind) refl f.front f.parts
      (cut_within n (before ++ f.piece.text) f.tail (let e : length (b ∷ bs) ≡ length (f.piece.text ++ f.tail) = ap length f.parts in omega (arith, f.some, length-append f.piece.text f.tail)))

  -- each text has a cut
  pub some_cut : (before bytes : List ℕ) → (ls : List (Piece C)) × Cut Is bad stops before bytes ls
  some_cut before bytes = cut_within (length bytes) before bytes (omega arith)
