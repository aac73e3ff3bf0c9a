-- Four exact answers make one.
use Rattle.std.proofs.Common.{◌≡◌, ℤ, ◌*ℤ◌, ◌+ℤ◌, ◌-ℤ◌, neg_ℤ, Option, Some, None, refl, sym, ◌∙◌, subst}
use Rattle.std.specs.Option.{SomeIff}
use Rattle.aq_ring.proofs.QuadLaws.{same_quad}
use Rattle.aq_ring.specs.Quads.{Quad, quad, quad_product}
use Rattle.aq_ring.specs.Gathered.{gathered}
use Rattle.aq_ring.specs.Fractions.{InRange, IsInRange, FitsTerms, FitsProduct}

-- the same answer, said by another fact and another value
pub SomeIff-map : {T : Type 0} (r : Option T) (P Q : Type 0) (v w : T) → SomeIff r P v → (P → Q) → (Q → P) → v ≡ w → SomeIff r Q w
SomeIff-map None P Q v w h f g e = λ q. h (g q)
SomeIff-map (Some x) P Q v w h f g e = (f h.0, h.1 ∙ e)

exact : (ra rb rc rd : Option ℤ) (A B C D : Type 0) (a b c d : ℤ) → SomeIff ra A a → SomeIff rb B b → SomeIff rc C c → SomeIff rd D d
    → SomeIff (gathered ra rb rc rd) (A × B × C × D) (quad a b c d)
exact None rb rc rd A B C D a b c d p q r s = λ h. p h.0
exact (Some x) None rc rd A B C D a b c d p q r s = λ h. q h.1
exact (Some x) (Some y) None rd A B C D a b c d p q r s = λ h. r h.2
exact (Some x) (Some y) (Some z) None A B C D a b c d p q r s = λ h. s h.3
exact (Some x) (Some y) (Some z) (Some w) A B C D a b c d p q r s = ((p.0, q.0, r.0, s.0), same_quad _ _ p.1 q.1 r.1 s.1)

-- each coefficient is in range
pub gathered-exact : (ra rb rc rd : Option ℤ) (a b c d : ℤ) (r : Option Quad) → SomeIff ra (InRange a) a → SomeIff rb (InRange b) b → SomeIff rc (InRange c) c → SomeIff rd (InRange d) d
    → r ≡ gathered ra rb rc rd → SomeIff r (IsInRange (quad a b c d)) (quad a b c d)
gathered-exact ra rb rc rd a b c d r p q s t e =
    let h = exact ra rb rc rd (InRange a) (InRange b) (InRange c) (InRange d) a b c d p q s t in
    subst (λ o. SomeIff o (IsInRange (quad a b c d)) (quad a b c d)) (sym e)
    (SomeIff-map _ _ _ _ _ h (λ h. record { a = h.0; b = h.1; c = h.2; d = h.3 }) (λ h. (h.a, h.b, h.c, h.d)) refl)

-- each coefficient of a product fits
pub gathered-product : (ra rb rc rd : Option ℤ) (x y : Quad) (r : Option Quad)
    → SomeIff ra (FitsTerms (x.a *ℤ y.a) (neg_ℤ (x.b *ℤ y.d)) (neg_ℤ (x.c *ℤ y.c)) (neg_ℤ (x.d *ℤ y.b))) (x.a *ℤ y.a -ℤ x.b *ℤ y.d -ℤ x.c *ℤ y.c -ℤ x.d *ℤ y.b)
    → SomeIff rb (FitsTerms (x.a *ℤ y.b) (x.b *ℤ y.a) (neg_ℤ (x.c *ℤ y.d)) (neg_ℤ (x.d *ℤ y.c))) (x.a *ℤ y.b +ℤ x.b *ℤ y.a -ℤ x.c *ℤ y.d -ℤ x.d *ℤ y.c)
    → SomeIff rc (FitsTerms (x.a *ℤ y.c) (x.b *ℤ y.b) (x.c *ℤ y.a) (neg_ℤ (x.d *ℤ y.d))) (x.a *ℤ y.c +ℤ x.b *ℤ y.b +ℤ x.c *ℤ y.a -ℤ x.d *ℤ y.d)
    → SomeIff rd (FitsTerms (x.a *ℤ y.d) (x.b *ℤ y.c) (x.c *ℤ y.b) (x.d *ℤ y.a)) (x.a *ℤ y.d +ℤ x.b *ℤ y.c +ℤ x.c *ℤ y.b +ℤ x.d *ℤ y.a)
    → r ≡ gathered ra rb rc rd → SomeIff r (FitsProduct x y) (quad_product x y)
unfolding quad_product
gathered-product ra rb rc rd x y r p q s t e =
    let h = exact ra rb rc rd _ _ _ _ _ _ _ _ p q s t in
    subst (λ o. SomeIff o (FitsProduct x y) (quad_product x y)) (sym e)
    (SomeIff-map _ _ _ _ _ h (λ h. record { a = h.0; b = h.1; c = h.2; d = h.3 }) (λ h. (h.a, h.b, h.c, h.d)) refl)
