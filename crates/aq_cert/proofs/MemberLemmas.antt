-- Members of lists, and items of rows.
use Rattle.std.proofs.Common.{◌≡◌, ℕ, zero, suc, ◌<◌, ◌⊎◌, inl, inr, List, [], ◌∷◌, length, map, slice_get, get_or, Option, Some, None, Contains, refl, sym, subst, ◌∙◌, arith}
use Rattle.std.proofs.lemmas.Option.{slice_get_within}
use Rattle.aq_store.proofs.TableLemmas.{slice_get-some}
use Rattle.aq_cert.specs.Rows.{item_of, item_at, row_of, row_length}

module _ {X : Type 0} where
  pub in-head : (x : X) (xs : List X) → Contains (x ∷ xs) x
  in-head x xs = (0, omega arith, refl)

  pub in-tail : (x : X) (xs : List X) (y : X) → Contains xs y → Contains (x ∷ xs) y
  in-tail x xs y h = (suc h.0, omega (arith, h.1), h.2)

  pub of-two : (a b y : X) → Contains (a ∷ b ∷ []) y → (y ≡ a) ⊎ (y ≡ b)
  of-two a b y h = at h.0 h.1 h.2
    where
      at : (k : ℕ) → k < length (a ∷ b ∷ []) → get_or (a ∷ b ∷ []) k y ≡ y → (y ≡ a) ⊎ (y ≡ b)
      at zero less e = inl (sym e)
      at (suc zero) less e = inr (sym e)
      at (suc (suc k)) less e = absurd (omega arith)

  pub of-none : (y : X) → ¬ (Contains [] y)
  of-none y h = absurd (omega (arith, h.1))

  pub of-cons : (x : X) (xs : List X) (y : X) → Contains (x ∷ xs) y → (y ≡ x) ⊎ Contains xs y
  of-cons x xs y h = at h.0 h.1 h.2
    where
      at : (k : ℕ) → k < length (x ∷ xs) → get_or (x ∷ xs) k y ≡ y → (y ≡ x) ⊎ Contains xs y
      at zero less e = inl (sym e)
      at (suc k) less e = inr (k, omega arith, e)

  pub of-get : (xs : List X) (k : ℕ) (x : X) → slice_get xs k ≡ Some x → Contains xs x
  of-get [] k x e = cc
  of-get (y ∷ xs) zero x e = let s : y ≡ x = cc in subst (λ z. Contains (y ∷ xs) z) s (in-head y xs)
  of-get (y ∷ xs) (suc k) x e = in-tail y xs x (of-get xs k x e)

  -- one item stands at a place
  pub same_item : (o : Option X) (x y : X) → o ≡ Some x → o ≡ Some y → x ≡ y
  same_item o x y a b = let e : Some x ≡ Some y = sym a ∙ b in cc

  -- an item is within its row, and within a row is an item
  pub item-within : (rows : List (List X)) (k i : ℕ) (x : X) → item_at rows k i ≡ Some x → i < row_length rows k
  item-within rows k i x e = by (slice_get rows k) e
    where
      by : (o : Option (List X)) → item_of o i ≡ Some x → i < row_of o
      by None h = cc
      by (Some xs) h = slice_get_within xs i x h

  pub item-some : (rows : List (List X)) (k i : ℕ) → i < row_length rows k → (x : X) × (item_at rows k i ≡ Some x)
  item-some rows k i less = by (slice_get rows k) less
    where
      by : (o : Option (List X)) → i < row_of o → (x : X) × (item_of o i ≡ Some x)
      by None h = absurd (omega arith)
      by (Some xs) h = slice_get-some xs i h

  pub row-within : (rows : List (List X)) (k i : ℕ) (x : X) → item_at rows k i ≡ Some x → k < length rows
  row-within rows k i x e = by (slice_get rows k) refl e
    where
      by : (o : Option (List X)) → slice_get rows k ≡ o → item_of o i ≡ Some x → k < length rows
      by None at h = cc
      by (Some xs) at h = slice_get_within rows k xs at

module _ {A B : Type 0} (f : A → B) where
  pub in-map : (xs : List A) (x : A) → Contains xs x → Contains (map f xs) (f x)
  in-map [] x h = absurd (of-none x h)
  in-map (y ∷ xs) x h = elim (of-cons y xs x h) [
    | inl e ↦ subst (λ z. Contains (f y ∷ map f xs) (f z)) (sym e) (in-head (f y) (map f xs))
    | inr t ↦ in-tail (f y) (map f xs) (f x) (in-map xs x t)
  ]

  pub of-map : (xs : List A) (y : B) → Contains (map f xs) y → (x : A) × Contains xs x × (y ≡ f x)
  of-map [] y h = absurd (of-none y h)
  of-map (x ∷ xs) y h = elim (of-cons (f x) (map f xs) y h) [
    | inl e ↦ (x, in-head x xs, e)
    | inr t ↦ (let r = of-map xs y t in (r.0, in-tail x xs r.0 r.1, r.2))
  ]

  pub get-map : (xs : List A) (k : ℕ) (y : B) → slice_get (map f xs) k ≡ Some y → (x : A) × (slice_get xs k ≡ Some x) × (y ≡ f x)
  get-map [] k y e = cc
  get-map (x ∷ xs) zero y e = let s : f x ≡ y = cc in (x, refl, sym s)
  get-map (x ∷ xs) (suc k) y e = get-map xs k y e
