-- All words of a shape.
use Rattle.std.proofs.Common.{◌≡◌, ℕ, zero, suc, ◌<◌, ◌≤◌, ◌⊎◌, inl, inr, List, [], ◌∷◌, ◌++◌, map, All, Contains, refl, arith}
use Rattle.std.specs.List.{flat_map}
use Rattle.std.proofs.lemmas.Bool.{cases_lt}
use Rattle.std.proofs.lemmas.List.Elements.{All-nil, All-cons, All-append, All-head, All-map, All-tail, All-weaker, Contains-append_left, Contains-append_right}
use Rattle.aq_store.specs.Words.{IsWord}
use Rattle.aq_decide.proofs.Elements.{contains_map, flat_contains}

-- the numbers below n
pub upto : ℕ → List ℕ
upto zero = []
upto (suc n) = upto n ++ n ∷ []

pub upto_has : (n c : ℕ) → c < n → Contains (upto n) c
unfolding upto
upto_has zero c lt = absurd (omega (arith, lt))
upto_has (suc n) c lt = by (cases_lt c n) (upto_has n c)
  where
    by : (c < n) ⊎ (n ≤ c) → (c < n → Contains (upto n) c) → Contains (upto n ++ n ∷ []) c
    by (inl less) rest = Contains-append_left (upto n) (n ∷ []) c (rest less)
    by (inr le) rest =
        let e : n ≡ c = omega (arith, le, lt) in
        Contains-append_right (upto n) (n ∷ []) c (0, omega arith, e)

pub upto_below : (n : ℕ) → All (λ c. c < n) (upto n)
unfolding upto
upto_below zero = All-nil (λ c. c < 0)
upto_below (suc n) =
    All-append (λ c. c < suc n) (upto n) (n ∷ [])
    (All-weaker (λ c. c < n) (λ c. c < suc n) (λ c lt. omega (arith, lt)) (upto n) (upto_below n))
    (All-cons (λ c. c < suc n) n [] (omega arith) (All-nil (λ c. c < suc n)))

-- the words that begin with a choice
abbrev pub under : ℕ → List (List ℕ) → List (List ℕ)
under c ws = map (λ w. c ∷ w) ws

pub all_words : List ℕ → List (List ℕ)
all_words [] = [] ∷ []
all_words (n ∷ shape) = flat_map (λ c. under c (all_words shape)) (upto n)

pub has_word : (shape word : List ℕ) → IsWord shape word → Contains (all_words shape) word
unfolding all_words
has_word [] [] h = (0, omega arith, refl)
has_word [] (c ∷ word) h = absurd h
has_word (n ∷ shape) [] h = absurd h
has_word (n ∷ shape) (c ∷ word) h =
    flat_contains (λ d. under d (all_words shape)) (upto n) c (c ∷ word) (upto_has n c h.0) (contains_map (λ w. c ∷ w) (all_words shape) word (has_word shape word h.1))

each_under : (n : ℕ) (shape : List ℕ) (ws : List (List ℕ)) → All (IsWord shape) ws → (cs : List ℕ) → All (λ c. c < n) cs → All (IsWord (n ∷ shape)) (flat_map (λ c. under c ws) cs)
each_under n shape ws all [] h = All-nil (IsWord (n ∷ shape))
each_under n shape ws all (c ∷ cs) h =
    All-append (IsWord (n ∷ shape)) (under c ws) (flat_map (λ d. under d ws) cs)
    (All-map (IsWord (n ∷ shape)) (λ w. c ∷ w) ws (All-weaker (IsWord shape) (λ w. IsWord (n ∷ shape) (c ∷ w)) (λ w i. (All-head (λ d. d < n) c cs h, i)) ws all))
    (each_under n shape ws all cs (All-tail (λ d. d < n) c cs h))

pub each_word : (shape : List ℕ) → All (IsWord shape) (all_words shape)
unfolding all_words
each_word [] = All-cons (IsWord []) [] [] tt (All-nil (IsWord []))
each_word (n ∷ shape) = each_under n shape (all_words shape) (each_word shape) (upto n) (upto_below n)
