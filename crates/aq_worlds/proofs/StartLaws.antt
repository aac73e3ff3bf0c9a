-- The bits that are fixed at the start.
use Rattle.std.proofs.Common.{◌≡◌, ℕ, Bool, true, false, cond, List, [], ◌∷◌, ◌++◌, length, slice_get, Option, Some, None, IfSome, option_and_then, refl, ap, ◌∙◌}
use Rattle.std.proofs.lemmas.List.{length-set, length-replicate}
use Rattle.aq_prog.specs.declared.stmt.Guard.{Guard}
use Rattle.aq_obligations.specs.Worlds.{Partial, agrees, fixing, fixing_as, given_guards}
use Rattle.aq_worlds.specs.Starting.{bits_before}

pub fixing-append : (gs hs : List Guard) (p : Partial) → fixing (gs ++ hs) p ≡ option_and_then (fixing hs) (fixing gs p)
fixing-append [] hs p = refl
fixing-append (g ∷ gs) hs p = by_first (fixing_as (slice_get p g.bit) g p) (λ q. fixing-append gs hs q)
  where
    by_first : (x : Option Partial) → ((q : Partial) → fixing (gs ++ hs) q ≡ option_and_then (fixing hs) (fixing gs q))
        → option_and_then (fixing (gs ++ hs)) x ≡ option_and_then (fixing hs) (option_and_then (fixing gs) x)
    by_first None next = refl
    by_first (Some q) next = next q

-- the first guards contradict
pub fixing_none : (gs hs : List Guard) (p : Partial) → fixing gs p ≡ None → fixing (gs ++ hs) p ≡ None
fixing_none gs hs p e = fixing-append gs hs p ∙ ap (option_and_then (fixing hs)) e

itself : (x : Option Partial) → option_and_then (fixing []) x ≡ x
itself None = refl
itself (Some p) = refl

-- the first guards leave these bits, and one more is fixed
pub fixing_given : (gs : List Guard) (g : Guard) (p q : Partial) → fixing gs p ≡ Some q → fixing (gs ++ given_guards (Some g)) p ≡ fixing_as (slice_get q g.bit) g q
fixing_given gs g p q e = fixing-append gs (g ∷ []) p ∙ ap (option_and_then (fixing (g ∷ []))) e ∙ itself (fixing_as (slice_get q g.bit) g q)

-- ---- as many bits as before

fix-length : (m : ℕ) (g : Guard) (x : Option (Option Bool)) (p : Partial) → length p ≡ m → IfSome (fixing_as x g p) (λ b. length b ≡ m)
fix-length m g None p e = tt
fix-length m g (Some None) p e = length-set p g.bit (Some g.value) ∙ e
fix-length m g (Some (Some b)) p e = by_test (agrees g b)
  where
    by_test : (t : Bool) → IfSome (cond t (Some p) None) (λ b. length b ≡ m)
    by_test true = e
    by_test false = tt

pub fixing-length : (m : ℕ) (gs : List Guard) (p : Partial) → length p ≡ m → IfSome (fixing gs p) (λ b. length b ≡ m)
fixing-length m [] p e = e
fixing-length m (g ∷ gs) p e = by_first (fixing_as (slice_get p g.bit) g p) (fix-length m g (slice_get p g.bit) p e) (λ q d. fixing-length m gs q d)
  where
    by_first : (x : Option Partial) → IfSome x (λ b. length b ≡ m) → ((q : Partial) → length q ≡ m → IfSome (fixing gs q) (λ b. length b ≡ m)) → IfSome (option_and_then (fixing gs) x) (λ b. length b ≡ m)
    by_first None h next = tt
    by_first (Some q) h next = next q h

pub before-length : (start : Bool) (m : ℕ) → length (bits_before start m) ≡ m
before-length true m = length-replicate m (Some false)
before-length false m = length-replicate m None
