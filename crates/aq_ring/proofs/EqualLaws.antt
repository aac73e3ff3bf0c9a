-- What `==` tells of two amplitudes: it compares their five integers.
use Rattle.std.proofs.Common.{◌≡◌, ◌↔◌, ap, IsTrue, ◌&&◌, nat_eq}
use Rattle.std.specs.Ordering.{int_eq}
use Rattle.std.proofs.lemmas.Bool.Decides.{Decides-and, Decides-like, Decides-int_eq, Decides-eqb}
use Rattle.aq_ring.proofs.QuadLaws.{same_quad}
use Rattle.aq_ring.proofs.AmplitudeLaws.{same_amplitude}
use Rattle.aq_ring.specs.Fractions.{Amplitude}

pub equal-amplitudes : (x y : Amplitude) → IsTrue ((int_eq x.num.a y.num.a && (int_eq x.num.b y.num.b && (int_eq x.num.c y.num.c && int_eq x.num.d y.num.d))) && nat_eq x.power y.power) ↔ (x ≡ y)
equal-amplitudes x y =
    Decides-like _
    (λ h. same_amplitude x y (same_quad _ _ h.0.0 h.0.1.0 h.0.1.1.0 h.0.1.1.1) h.1)
    (λ e. ((ap (λ (p : Amplitude). p.num.a) e, (ap (λ (p : Amplitude). p.num.b) e, (ap (λ (p : Amplitude). p.num.c) e, ap (λ (p : Amplitude). p.num.d) e))), ap (λ (p : Amplitude). p.power) e))
    (Decides-and _ _ (Decides-and _ _ (Decides-int_eq _ _) (Decides-and _ _ (Decides-int_eq _ _) (Decides-and _ _ (Decides-int_eq _ _) (Decides-int_eq _ _)))) (Decides-eqb _ _))
