-- The bits that are fixed at the start, and the world that begins with them.
use Rattle.std.proofs.Common.{◌≡◌, ℕ, ◌≤◌, Bool, true, false, cond, List, [], ◌∷◌, ◌++◌, length, slice_get, Option, Some, None, IfSome, option_and_then, All, refl, sym, ap, ◌∙◌, subst, arith}
use Rattle.std.proofs.lemmas.List.{length-set, length-replicate}
use Rattle.std.proofs.lemmas.List.Elements.{All-nil, All-cons}
use Rattle.aq_prog.specs.declared.stmt.Guard.{Guard}
use Rattle.aq_store.specs.Nodes.{FitsStore, HasShape}
use Rattle.aq_store.specs.declared.lsta.Lsta.{Lsta}
use Rattle.aq_store.specs.declared.node.Node.{Node}
use Rattle.aq_obligations.specs.Worlds.{Partial, agrees, fixing, fixing_as, given_guards}
use Rattle.aq_decide.specs.Starting.{bits_before}
use Rattle.aq_symbolic.specs.Worlds.{IsSized}
use Rattle.aq_symbolic.specs.declared.kept.World.{World}
use Rattle.aq_decide.specs.Starting.{BeginsIf}

fixing-append : (gs hs : List Guard) (p : Partial) → fixing (gs ++ hs) p ≡ option_and_then (fixing hs) (fixing gs p)
fixing-append [] hs p = refl
fixing-append (g ∷ gs) hs p = by_first (fixing_as (slice_get p g.bit) g p) (λ q. fixing-append gs hs q)
  where
    by_first : (x : Option Partial) → ((q : Partial) → fixing (gs ++ hs) q ≡ option_and_then (fixing hs) (fixing gs q))
        → option_and_then (fixing (gs ++ hs)) x ≡ option_and_then (fixing hs) (option_and_then (fixing gs) x)
    by_first None next = refl
    by_first (Some q) next = next q

-- the first guards contradict
pub fixing_none : (gs hs : List Guard) (p : Partial) → fixing gs p ≡ None → fixing (gs ++ hs) p ≡ None
fixing_none gs hs p e = fixing-append gs hs p ∙ ap (option_and_then (fixing hs)) e

itself : (x : Option Partial) → option_and_then (fixing []) x ≡ x
itself None = refl
itself (Some p) = refl

-- the first guards leave these bits, and one more is fixed
pub fixing_given : (gs : List Guard) (g : Guard) (p q : Partial) → fixing gs p ≡ Some q → fixing (gs ++ given_guards (Some g)) p ≡ fixing_as (slice_get q g.bit) g q
fixing_given gs g p q e = fixing-append gs (g ∷ []) p ∙ ap (option_and_then (fixing (g ∷ []))) e ∙ itself (fixing_as (slice_get q g.bit) g q)

-- ---- as many bits as before
fix-length : (m : ℕ) (g : Guard) (x : Option (Option Bool)) (p : Partial) → length p ≡ m → IfSome (fixing_as x g p) (λ b. length b ≡ m)
fix-length m g None p e = tt
fix-length m g (Some None) p e = length-set p g.bit (Some g.value) ∙ e
fix-length m g (Some (Some b)) p e = by_test (agrees g b)
  where
    by_test : (t : Bool) → IfSome (cond t (Some p) None) (λ b. length b ≡ m)
    by_test true = e
    by_test false = tt

pub fixing-length : (m : ℕ) (gs : List Guard) (p : Partial) → length p ≡ m → IfSome (fixing gs p) (λ b. length b ≡ m)
fixing-length m [] p e = e
fixing-length m (g ∷ gs) p e = by_first (fixing_as (slice_get p g.bit) g p) (fix-length m g (slice_get p g.bit) p e) (λ q d. fixing-length m gs q d)
  where
    by_first : (x : Option Partial) → IfSome x (λ b. length b ≡ m) → ((q : Partial) → length q ≡ m → IfSome (fixing gs q) (λ b. length b ≡ m)) → IfSome (option_and_then (fixing gs) x) (λ b. length b ≡ m)
    by_first None h next = tt
    by_first (Some q) h next = next q h

pub before-length : (start : Bool) (m : ℕ) → length (bits_before start m) ≡ m
before-length true m = length-replicate m (Some false)
before-length false m = length-replicate m None

-- ---- the world that begins
pub record IsBegun (m number : ℕ) (lsta : Lsta) (w : World) : Type 0 where
  pub case : w.case ≡ number
  pub start : length w.start ≡ m
  pub bits : length w.bits ≡ m
  pub root : w.lsta.root ≡ lsta.root
  pub shape : w.lsta.shape.items ≡ lsta.shape.items

pub begun : (m number : ℕ) (lsta : Lsta) (x : Option Partial) (first : List World) → IfSome x (λ b. length b ≡ m) → BeginsIf number lsta x first → All (IsBegun m number lsta) first × (length first ≤ 1)
begun m number lsta None first e b = subst (λ (l : List World). All (IsBegun m number lsta) l × (length l ≤ 1)) (sym b) (All-nil (IsBegun m number lsta), omega arith)
begun m number lsta (Some bits) first e b =
    let here : IsBegun m number lsta b.0 = record { case = b.2.case; start = ap length b.2.start ∙ e; bits = ap length b.2.now ∙ e; root = b.2.root; shape = b.2.shape } in
    subst (λ (l : List World). All (IsBegun m number lsta) l × (length l ≤ 1)) (sym b.1) (All-cons (IsBegun m number lsta) b.0 [] here (All-nil (IsBegun m number lsta)), omega arith)

pub begun_sized : {L : Type 0} (n m number : ℕ) (table : List (Node L)) (lsta : Lsta) (w : World) → length lsta.shape.items ≡ n → FitsStore table lsta → IsBegun m number lsta w → IsSized n m table w
begun_sized n m number table lsta w levels fits h = record {
  start = h.start;
  bits = h.bits;
  levels = ap length h.shape ∙ levels;
  fits = subst (λ (u : List ℕ). HasShape table u w.lsta.root) (sym h.shape) (subst (λ (k : ℕ). HasShape table lsta.shape.items k) (sym h.root) fits);
}
