-- Shapes and words. A shape has a number of choices for each level, from the root down. A word has a choice for each level.
use Rattle.std.specs.Prelude.{ℕ, ◌+◌, ◌-◌, ◌*◌, ◌<◌, ◌≤◌, List, [], ◌∷◌, drop, min, max}
use Rattle.std.specs.List.{AllZip, fold}

-- how many words a shape has
abbrev pub words : List ℕ → ℕ
words shape = fold (λ product n. product * n) 1 shape

-- a word of a shape: one choice for each level, below the level's number
abbrev pub IsWord : List ℕ → List ℕ → Type 0
IsWord shape word = AllZip (λ number choice. choice < number) shape word

-- the second shape has as many levels, and none with fewer choices
abbrev pub IsWider : List ℕ → List ℕ → Type 0
IsWider shape wider = AllZip (λ number more. number ≤ more) shape wider

-- the word in which a choice past its level's number means that level's last one
abbrev pub shortened : List ℕ → List ℕ → List ℕ
shortened [] word = word
shortened (n ∷ shape) [] = []
shortened (n ∷ shape) (choice ∷ word) = min choice (n - 1) ∷ shortened shape word

-- how many choices the root has
abbrev pub first_number : List ℕ → ℕ
first_number [] = 0
first_number (n ∷ shape) = n

-- the larger number of each two
abbrev pub larger : List ℕ → List ℕ → List ℕ
larger [] ys = ys
larger (x ∷ xs) [] = x ∷ xs
larger (x ∷ xs) (y ∷ ys) = max x y ∷ larger xs ys

-- the choices of a union: at the root those of both sides, and below the larger number
abbrev pub united_shape : List ℕ → List ℕ → List ℕ
united_shape [] ys = ys
united_shape (x ∷ xs) [] = x ∷ xs
united_shape (x ∷ xs) (y ∷ ys) = (x + y) ∷ larger xs ys

-- the choices below the root
abbrev pub lower : List ℕ → List ℕ
lower shape = drop 1 shape

-- the choices of a union of many, from the left
abbrev pub united_shapes : List (List ℕ) → List ℕ
united_shapes shapes = fold united_shape [] shapes
