-- Each set file has a cut.
use Rattle.std.proofs.Common.{◌≡◌, ℕ, ◌+◌, ◌==◌, ◌<◌, ◌≤◌, List, [], ◌∷◌, ◌++◌, length, take, drop, refl, sym, ap, true, ◌&&◌, cond, arith, ltb, Option, Some, None}
use Rattle.std.specs.List.{prefix_len}
use Rattle.std.proofs.lemmas.List.{length-take, length-drop, length-append, take-append-drop}
use Rattle.aq_lex.specs.Bytes.{is_letter, is_digit, is_word, is_blank, is_inline, begins}
use Rattle.aq_lex.specs.Fronts as program_fronts
use Rattle.aq_lex.specs.Fronts.{body_len, block_front, slash_front}
use Rattle.aq_lex.specs.declared.token.Class.TheVariants as program
use Rattle.aq_lex.specs.declared.token.Kind.TheVariants as program_kind
use Rattle.aq_lex.specs.declared.token.Symbol.TheVariants as program_symbol
use Rattle.aq_lex.specs.declared.token.Found.{Found}
use Rattle.aq_lex.proofs.Runs.{both, run-within}
use Rattle.aq_lex.proofs.FrontIs as lex_is
use Rattle.aq_lex.proofs.CuttingLaws as laws
use Rattle.aq_set_parse.specs.Rules.{is_bit, Is}
use Rattle.aq_set_parse.specs.Fronts.{found, comment_front, ket_front, number_front, equals_front, symbol_alone, alone, set_sign_front, set_front}
use Rattle.aq_set_parse.specs.Cuts.{Lexeme, Cut, stops}
use Rattle.aq_set_parse.specs.declared.token.SetSymbol.{SetSymbol}
use Rattle.aq_set_parse.specs.declared.token.SetSymbol.TheVariants as symbol
use Rattle.aq_set_parse.specs.declared.token.SetKind.TheVariants as kind
use Rattle.aq_set_parse.specs.declared.token.SetClass.TheVariants as «class»
use Rattle.aq_set_parse.specs.declared.token.SetFound.{SetFound}
use Rattle.aq_set_parse.proofs.FrontIs.{chosen}
use Rattle.aq_set_parse.proofs.CutLaws.{front-IsFront}

-- some bytes are found, and no more than are there
record Fits (bs : List ℕ) (n : ℕ) : Type 0 where
  some : 0 < n
  within : n ≤ length bs

abbrev FitsIn : List ℕ → SetFound → Type 0
FitsIn bs f = Fits bs f.len

fits : (bs : List ℕ) (n : ℕ) → 0 < n → n ≤ length bs → Fits bs n
fits bs n s l = record { some = s; within = l }

begins-some : (b : ℕ) (bs : List ℕ) → begins b bs ≡ true → 0 < length bs
begins-some b [] h = cc
begins-some b (x ∷ xs) h = omega arith

begins-inside : (b n : ℕ) (bs : List ℕ) → begins b (drop n bs) ≡ true → n < length bs
begins-inside b n bs h = let k = begins-some b (drop n bs) h in omega (arith, length-drop n bs)

number-Fits : (b : ℕ) (bs : List ℕ) → is_digit b ≡ true → FitsIn (b ∷ bs) (number_front (b ∷ bs))
number-Fits b bs h =
    let l = run-within is_digit (b ∷ bs) in
    let some : 0 < prefix_len is_digit (b ∷ bs) = rw h (omega arith) in
    fits (b ∷ bs) (prefix_len is_digit (b ∷ bs)) some l

closed-room : (bs : List ℕ) → body_len bs < length bs → body_len bs + 2 ≤ length bs
closed-room bs h =
    let n = body_len bs in
    let c = lex_is.closes bs h in
    let e : length (take (n + 2) bs) ≡ length (take n bs ++ 42 ∷ 47 ∷ []) = ap length c.text in
    omega (arith, length-take (n + 2) bs, length-take n bs, length-append (take n bs) (42 ∷ 47 ∷ []))

comment-Fits : (b : ℕ) (bs : List ℕ) → FitsIn (b ∷ bs) (comment_front bs)
comment-Fits b bs =
    let P : Found → Type 0 = λ f. Fits (b ∷ bs) f.len in
    let slash = program_fronts.found (program.Token (program_kind.Symbol program_symbol.Slash)) 1 in
    lex_is.chosen P (begins 47 bs) (program_fronts.found program.Comment (prefix_len is_inline (drop 1 bs) + 2)) (cond (begins 42 bs) (block_front (drop 1 bs)) slash)
    (λ e. let k = begins-some 47 bs e in let l = run-within is_inline (drop 1 bs) in fits (b ∷ bs) (prefix_len is_inline (drop 1 bs) + 2) (omega arith) (omega (arith, length-drop 1 bs)))
    (λ _. lex_is.chosen P (begins 42 bs) (block_front (drop 1 bs)) slash
    (λ e. let k = begins-some 42 bs e in
    lex_is.chosen P (ltb (body_len (drop 1 bs)) (length (drop 1 bs))) (program_fronts.found program.Comment (body_len (drop 1 bs) + 4)) (program_fronts.found program.OpenComment (length (drop 1 bs) + 2))
    (λ f. let r = closed-room (drop 1 bs) (lex_is.ltb_is _ _ f) in fits (b ∷ bs) (body_len (drop 1 bs) + 4) (omega arith) (omega (arith, length-drop 1 bs)))
    (λ _. fits (b ∷ bs) (length (drop 1 bs) + 2) (omega arith) (omega (arith, length-drop 1 bs))))
    (λ _. fits (b ∷ bs) 1 (omega arith) (omega arith)))

ket-Fits : (b : ℕ) (bs : List ℕ) → FitsIn (b ∷ bs) (ket_front bs)
ket-Fits b bs =
    let n = prefix_len is_bit bs in
    chosen (FitsIn (b ∷ bs)) (ltb 0 n && begins 62 (drop n bs)) (found («class».Token kind.Ket) (n + 2)) (found «class».BadKet 1)
    (λ e. let s = both (ltb 0 n) (begins 62 (drop n bs)) e in
    let k = begins-inside 62 n bs s.1 in
    fits (b ∷ bs) (n + 2) (omega arith) (omega arith))
    (λ _. fits (b ∷ bs) 1 (omega arith) (omega arith))

equals-Fits : (b : ℕ) (bs : List ℕ) → FitsIn (b ∷ bs) (equals_front bs)
equals-Fits b bs = chosen (FitsIn (b ∷ bs)) (begins 61 bs) (found («class».Token (kind.Symbol symbol.Equals)) 2) (found («class».Token (kind.Symbol symbol.Assign)) 1)
    (λ e. let k = begins-some 61 bs e in fits (b ∷ bs) 2 (omega arith) (omega arith))
    (λ _. fits (b ∷ bs) 1 (omega arith) (omega arith))

alone-Fits : (b : ℕ) (bs : List ℕ) (o : Option SetSymbol) → FitsIn (b ∷ bs) (alone b o)
alone-Fits b bs None = fits (b ∷ bs) 1 (omega arith) (omega arith)
alone-Fits b bs (Some s) = fits (b ∷ bs) 1 (omega arith) (omega arith)

sign-Fits : (b : ℕ) (bs : List ℕ) → FitsIn (b ∷ bs) (set_sign_front b bs)
unfolding set_sign_front
sign-Fits b bs =
    chosen (FitsIn (b ∷ bs)) (b == 47) _ _ (λ _. comment-Fits b bs) (λ _.
    chosen (FitsIn (b ∷ bs)) (b == 124) _ _ (λ _. ket-Fits b bs) (λ _.
    chosen (FitsIn (b ∷ bs)) (b == 61) _ _ (λ _. equals-Fits b bs) (λ _.
    alone-Fits b bs (symbol_alone b))))

front-Fits : (b : ℕ) (bs : List ℕ) → FitsIn (b ∷ bs) (set_front b bs)
unfolding set_front
front-Fits b bs =
    chosen (FitsIn (b ∷ bs)) (is_letter b) _ _ (λ _. let l = run-within is_word bs in fits (b ∷ bs) (prefix_len is_word bs + 1) (omega arith) (omega arith)) (λ _.
    chosen (FitsIn (b ∷ bs)) (is_digit b) _ _ (number-Fits b bs) (λ _.
    chosen (FitsIn (b ∷ bs)) (is_blank b) _ _ (λ _. fits (b ∷ bs) 1 (omega arith) (omega arith)) (λ _.
    sign-Fits b bs)))

-- what the lexer finds at the front of some bytes
found_at : (before : List ℕ) (b : ℕ) (bs : List ℕ) → laws.Found Is «class».BadByte stops before (b ∷ bs)
found_at before b bs =
    let f = set_front b bs in
    let h = front-Fits b bs in
    record {
      piece = record { kind = f.class; text = take f.len (b ∷ bs) };
      tail = drop f.len (b ∷ bs);
      front = front-IsFront before (b ∷ bs) f (omega arith) refl h.within;
      parts = sym (take-append-drop f.len (b ∷ bs));
      some = omega (arith, h.some, h.within, length-take f.len (b ∷ bs));
    }

pub some_cut : (before bytes : List ℕ) → (ls : List Lexeme) × Cut before bytes ls
some_cut = laws.some_cut Is «class».BadByte stops found_at
