-- Proportional vectors.
use Rattle.std.proofs.Common.{◌≡◌, ◌≢◌, List, [], ◌∷◌, refl, sym, ap, ◌∙◌, length, ⊎_elim, pos}
use Rattle.std.proofs.lemmas.List.{length-map}
use Rattle.std.proofs.lemmas.List.Elements.{All-cons, All-head, All-tail}
use Rattle.aq_ring.specs.Fractions.{Amplitude}
use Rattle.aq_ring.specs.Amplitudes.{product, amplitude_zero, amplitude_one}
use Rattle.aq_ring.specs.Vectors.{IsZeroVector, scaled}
use Rattle.aq_ring.specs.Laws.{ProportionalEquivalence, ProportionalKeeps}
use Rattle.aq_ring.proofs.AmplitudeLaws.{product_comm, product_assoc, product_without_zero}
use Rattle.aq_ring.proofs.MoreLaws.{product-zero_right}

pub scaled-scaled : (s t : Amplitude) (u : List Amplitude) → scaled s (scaled t u) ≡ scaled (product s t) u
scaled-scaled s t [] = refl
scaled-scaled s t (p ∷ u) = (λ i. sym (product_assoc s t p) i ∷ scaled-scaled s t u i)

pub scaled-swap : (s t : Amplitude) (u : List Amplitude) → scaled s (scaled t u) ≡ scaled t (scaled s u)
scaled-swap s t u = scaled-scaled s t u ∙ ap (λ r. scaled r u) (product_comm s t) ∙ sym (scaled-scaled t s u)

pub product-nonzero : (s t : Amplitude) → s ≢ amplitude_zero → t ≢ amplitude_zero → product s t ≢ amplitude_zero
product-nonzero s t a b e = ⊎_elim a b (product_without_zero s t e)

pub one-nonzero : amplitude_one ≢ amplitude_zero
one-nonzero e = let f : pos 1 ≡ pos 0 = ap (λ (p : Amplitude). p.num.a) e in absurd (cc)

pub proportional-equivalence : ProportionalEquivalence
proportional-equivalence = record {
  reflexive = λ u. record { left = amplitude_one; right = amplitude_one; left_nonzero = one-nonzero; right_nonzero = one-nonzero; same = refl };
  symmetric = λ u v h. record { left = h.right; right = h.left; left_nonzero = h.right_nonzero; right_nonzero = h.left_nonzero; same = sym h.same };
  transitive = λ u v w h k. record {
    left = product k.left h.left;
    right = product h.right k.right;
    left_nonzero = product-nonzero _ _ k.left_nonzero h.left_nonzero;
    right_nonzero = product-nonzero _ _ h.right_nonzero k.right_nonzero;
    same = sym (scaled-scaled k.left h.left u) ∙ ap (scaled k.left) h.same ∙ scaled-swap k.left h.right v ∙ ap (scaled h.right) k.same ∙ scaled-scaled h.right k.right w;
  };
}

first : Amplitude → List Amplitude → Amplitude
first d [] = d
first d (p ∷ u) = p

rest : List Amplitude → List Amplitude
rest [] = []
rest (p ∷ u) = u

zero_from : (s t : Amplitude) (u v : List Amplitude) → t ≢ amplitude_zero → scaled s u ≡ scaled t v → IsZeroVector u → IsZeroVector v
unfolding first rest
zero_from s t [] [] h e z = z
zero_from s t [] (q ∷ v) h e z = absurd (cc e)
zero_from s t (p ∷ u) [] h e z = absurd (cc e)
zero_from s t (p ∷ u) (q ∷ v) h e z =
    let is_zero : Amplitude → Type 0 = λ r. r ≡ amplitude_zero in
    All-cons is_zero q v
    (⊎_elim (λ n. absurd (h n)) (λ n. n) (product_without_zero t q (sym (ap (first amplitude_zero) e) ∙ ap (product s) (All-head is_zero p u z) ∙ product-zero_right s)))
    (zero_from s t u v h (ap rest e) (All-tail is_zero p u z))

pub proportional-keeps : ProportionalKeeps
proportional-keeps = record {
  same_length = λ u v h. sym (length-map u (product h.left)) ∙ ap length h.same ∙ length-map v (product h.right);
  zero_together = λ u v h z. zero_from h.left h.right u v h.right_nonzero h.same z;
}
