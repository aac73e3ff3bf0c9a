-- What is left of a file, from what its reads gave.
use Rattle.std.proofs.Common.{◌≡◌, ℕ, ◌+◌, ◌<◌, ◌≤◌, List, ◌++◌, length, take, drop, Option, Some, None, IfSome, sym, ap, ◌∙◌, arith, length-append}
use Rattle.std.proofs.Math.Seq.{take-append-add}
use Rattle.std.proofs.lemmas.List.{take-append-le, take-append-drop, length-take-le}
use Rattle.std.specs.Io.KnownBytes.{Consumes}

-- the first n of the first k
take-first : (n k : ℕ) (xs : List ℕ) → n ≤ k → k ≤ length xs → take n (take k xs) ≡ take n xs
take-first n k xs h i =
    let e : n ≤ length (take k xs) = rw (length-take-le k xs i) h in
    sym (take-append-le n (take k xs) (drop k xs) e) ∙ ap (λ t. take n t) (take-append-drop k xs)

-- bytes that came, and more bytes of the buffer than there is room for: the first of all, one more than there was room for
pub first-and-one : (a b c : Option (List ℕ)) (bytes buf new : List ℕ) (k n most : ℕ) → Consumes a b bytes → Consumes b c (take k buf) → new ≡ bytes ++ take n buf
    → n ≤ k → k ≤ length buf → length bytes + n ≡ most + 1
    → (length new ≡ most + 1) × IfSome a (λ xs. (most < length xs) × (new ≡ take (most + 1) xs))
first-and-one None b c bytes buf new k n most p q e h i s =
    (ap length e ∙ length-append bytes (take n buf) ∙ omega (arith, length-take-le n buf (omega arith)), tt)
first-and-one (Some xs) None c bytes buf new k n most p q e h i s = absurd p
first-and-one (Some xs) (Some ys) None bytes buf new k n most p q e h i s = absurd q
first-and-one (Some xs) (Some ys) (Some zs) bytes buf new k n most p q e h i s =
    let size : length new ≡ most + 1 = ap length e ∙ length-append bytes (take n buf) ∙ omega (arith, length-take-le n buf (omega arith)) in
    let all : xs ≡ bytes ++ (take k buf ++ zs) = p ∙ ap (λ t. bytes ++ t) q in
    let room : n ≤ length (take k buf) = rw (length-take-le k buf i) h in
    let first : take (most + 1) xs ≡ new =
    ap (λ t. take (most + 1) t) all ∙ ap (λ m. take m (bytes ++ (take k buf ++ zs))) (sym s) ∙ take-append-add bytes (take k buf ++ zs) n
    ∙ ap (λ t. bytes ++ t) (take-append-le n (take k buf) zs room ∙ take-first n k buf h i) ∙ sym e in
    (size, (omega (arith, ap length all, length-append bytes (take k buf ++ zs), length-append (take k buf) zs, length-take-le k buf i), sym first))
