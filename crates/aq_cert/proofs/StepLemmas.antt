-- One choice more: what it does to the vectors at a place.
use Rattle.std.proofs.Common.{◌≡◌, ℕ, ◌<◌, ◌≤◌, List, [], ◌∷◌, ◌++◌, length, take, drop, slice_get, Some, None, refl, sym, ap, ap₂, subst, ◌∙◌, arith}
use Rattle.std.specs.List.{flat_map}
use Rattle.std.proofs.lemmas.List.{map-append, take_at, drop_at}
use Rattle.std.proofs.lemmas.List.Concat.{flat_map-append}
use Rattle.std.proofs.lemmas.List.Elements.{All-nil, All-append, All-take, All-drop}
use Rattle.std.proofs.lemmas.Option.{slice_get_past}
use Rattle.aq_ring.specs.Fractions.{Amplitude}
use Rattle.aq_ring.specs.Amplitudes.{amplitude_zero, product}
use Rattle.aq_ring.specs.Vectors.{IsZeroVector, scaled}
use Rattle.aq_store.specs.declared.node.Node.{Node}
use Rattle.aq_store.specs.Nodes.{HasShape, tree, joined, labels_of, pairs_of, labels_at, pairs_at}
use Rattle.aq_store.proofs.TableLemmas.{slice_get-some}
use Rattle.aq_cert.specs.Meaning.{amplitudes}

abbrev IsNothing : Amplitude → Type 0
IsNothing p = p ≡ amplitude_zero

pub zero-append : (u v : List Amplitude) → IsZeroVector u → IsZeroVector v → IsZeroVector (u ++ v)
zero-append u v a b = All-append IsNothing u v a b

pub zero-left : (u v : List Amplitude) → IsZeroVector (u ++ v) → IsZeroVector u
zero-left u v z = subst IsZeroVector (take_at u v (length u) refl) (All-take IsNothing (length u) (u ++ v) z)

pub zero-right : (u v : List Amplitude) → IsZeroVector (u ++ v) → IsZeroVector v
zero-right u v z = subst IsZeroVector (drop_at u v (length u) refl) (All-drop IsNothing (length u) (u ++ v) z)

-- two joined lists are equal part by part where the first parts have one length
pub append-split : (u v a b : List Amplitude) → length u ≡ length a → u ++ v ≡ a ++ b → (u ≡ a) × (v ≡ b)
append-split u v a b n e = (
  sym (take_at u v (length u) refl) ∙ ap₂ (λ i l. take i l) n e ∙ take_at a b (length a) refl,
  sym (drop_at u v (length u) refl) ∙ ap₂ (λ i l. drop i l) n e ∙ drop_at a b (length a) refl,
)

pub scaled-append : (s : Amplitude) (u v : List Amplitude) → scaled s (u ++ v) ≡ scaled s u ++ scaled s v
scaled-append s u v = map-append (product s) u v

module _ {L : Type 0} where
  -- the children of a place under a choice
  pub record AreChildren (table : List (Node L)) (shape : List ℕ) (c x : ℕ) (p : ℕ × ℕ) : Type 0 where
    pub here : slice_get (pairs_at table x) c ≡ Some p
    pub left : HasShape table shape p.0
    pub right : HasShape table shape p.1

  pub children : (table : List (Node L)) (n : ℕ) (shape : List ℕ) (c x : ℕ) → HasShape table (n ∷ shape) x → c < n → (p : ℕ × ℕ) × AreChildren table shape c x p
  unfolding HasShape
  children table n shape c x h less =
      let q = slice_get-some h.0 c (omega (arith, h.2)) in
      (q.0, record { here = ap (λ o. slice_get (pairs_of o) c) h.1.here ∙ q.1; left = h.3.left c q.0 q.1; right = h.3.right c q.0 q.1 })

  -- a place has as many pairs as its shape says
  pub pairs-length : (table : List (Node L)) (n : ℕ) (shape : List ℕ) (x : ℕ) → HasShape table (n ∷ shape) x → length (pairs_at table x) ≡ n
  unfolding HasShape
  pairs-length table n shape x h = ap (λ o. length (pairs_of o)) h.1.here ∙ h.2

  pub no-pairs : (table : List (Node L)) (x : ℕ) → HasShape table [] x → pairs_at table x ≡ []
  unfolding HasShape
  no-pairs table x h = ap pairs_of h.here

  pub no-label : (table : List (Node L)) (n : ℕ) (shape : List ℕ) (x : ℕ) → HasShape table (n ∷ shape) x → labels_at table x ≡ []
  unfolding HasShape
  no-label table n shape x h = ap labels_of h.1.here

  module _ (parts : L → List Amplitude) (table : List (Node L)) where
    pub amplitudes-step : (c x : ℕ) (p : ℕ × ℕ) (word : List ℕ) → slice_get (pairs_at table x) c ≡ Some p
        → amplitudes parts table (c ∷ word) x ≡ amplitudes parts table word p.0 ++ amplitudes parts table word p.1
    unfolding tree
    amplitudes-step c x p word e = ap (λ o. flat_map parts (joined (tree table word) o)) e ∙ flat_map-append parts (tree table word p.0) (tree table word p.1)

    -- a choice that isn't there gives no amplitude
    pub amplitudes-none : (c x : ℕ) (word : List ℕ) → slice_get (pairs_at table x) c ≡ None → amplitudes parts table (c ∷ word) x ≡ []
    unfolding tree
    amplitudes-none c x word e = ap (λ o. flat_map parts (joined (tree table word) o)) e

    pub amplitudes-past : (n c x : ℕ) (shape word : List ℕ) → HasShape table (n ∷ shape) x → n ≤ c → amplitudes parts table (c ∷ word) x ≡ []
    amplitudes-past n c x shape word h past = amplitudes-none c x word (slice_get_past (pairs_at table x) c (omega (arith, pairs-length table n shape x h)))

    -- a word that is too long or too short gives none
    pub amplitudes-long : (c x : ℕ) (word : List ℕ) → HasShape table [] x → amplitudes parts table (c ∷ word) x ≡ []
    amplitudes-long c x word h = amplitudes-none c x word (ap (λ ps. slice_get ps c) (no-pairs table x h))

    pub amplitudes-short : (n x : ℕ) (shape : List ℕ) → HasShape table (n ∷ shape) x → amplitudes parts table [] x ≡ []
    unfolding tree
    amplitudes-short n x shape h = ap (flat_map parts) (no-label table n shape x h)

    pub zero-none : (x : ℕ) (word : List ℕ) → amplitudes parts table word x ≡ [] → IsZeroVector (amplitudes parts table word x)
    zero-none x word e = subst IsZeroVector (sym e) (All-nil IsNothing)
