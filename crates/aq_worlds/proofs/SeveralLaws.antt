-- The worlds that a step leaves of one.
use Rattle.std.proofs.Common.{◌≡◌, ℕ, Bool, true, false, cond, List, [], ◌∷◌, map, filter, length, slice_get, Option, Some, None, refl, ap, sym, ◌∙◌, subst}
use Rattle.std.proofs.lemmas.List.{length-set}
use Rattle.std.proofs.lemmas.List.Elements.{All-map, All-nil}
use Rattle.aq_prog.specs.Gates.{apply_gate}
use Rattle.aq_prog.specs.declared.gate.Gate.{Gate}
use Rattle.aq_prog.specs.declared.stmt.Guard.{Guard}
use Rattle.aq_plain.specs.Vectors.{StateVector}
use Rattle.aq_obligations.specs.Claims.{ClaimCase}
use Rattle.aq_obligations.specs.Worlds.{World, split, either, is_known, decided, assumed_worlds, measured_world, reset_world, with_vectors}
use Rattle.aq_correct.specs.WorldLaws.{is_alive}
use Rattle.aq_worlds.specs.Playing.{AreOn, world_of, lives, is_unknown, with_gate, with_half, with_reset, IsSized, Gives}
use Rattle.aq_worlds.specs.declared.world.PlainWorld.{PlainWorld}
use Rattle.aq_worlds.proofs.SpreadLaws.{gives_one, gives_two, gives_same, gives_alive, length-stored}

sized_from : (n m : ℕ) (c : ClaimCase) (w u : PlainWorld) (x : World) → IsSized n m w → world_of c u ≡ x → length x.start ≡ length w.start → length x.bits ≡ length w.bits → AreOn n u.vectors.items → IsSized n m u
sized_from n m c w u x s e st bi on = record {
  start = ap (λ (y : World). length y.start) e ∙ st ∙ s.start;
  bits = ap (λ (y : World). length y.bits) e ∙ bi ∙ s.bits;
  vectors = on;
}

same_on : (n : ℕ) (vs us : List StateVector) → us ≡ vs → AreOn n vs → AreOn n us
same_on n vs us e on = subst (AreOn n) (sym e) on

pub sized_decided : (n m bit : ℕ) (b : Bool) (c : ClaimCase) (w u : PlainWorld) → IsSized n m w → world_of c u ≡ decided bit b (world_of c w) → u.vectors.items ≡ w.vectors.items → IsSized n m u
sized_decided n m bit b c w u s e vs =
    sized_from n m c w u (decided bit b (world_of c w)) s e (length-set w.start bit (Some b)) (length-set w.bits bit (Some b)) (same_on n w.vectors.items u.vectors.items vs s.vectors)

pub sized_copy : (n m : ℕ) (c : ClaimCase) (w u : PlainWorld) → IsSized n m w → world_of c u ≡ world_of c w → u.vectors.items ≡ w.vectors.items → IsSized n m u
sized_copy n m c w u s e vs = sized_from n m c w u (world_of c w) s e refl refl (same_on n w.vectors.items u.vectors.items vs s.vectors)

half_on : (n qubit : ℕ) (b : Bool) (vs : List StateVector) → AreOn n vs → AreOn n (map (with_half qubit b) vs)
half_on n qubit b vs on = All-map (λ (v : StateVector). v.qubits ≡ n) (with_half qubit b) vs on

reset_on : (n qubit : ℕ) (b : Bool) (vs : List StateVector) → AreOn n vs → AreOn n (map (with_reset qubit b) vs)
reset_on n qubit b vs on = All-map (λ (v : StateVector). v.qubits ≡ n) (with_reset qubit b) vs on

-- ---- a bit that is split

either_open : (bit : ℕ) (x : Option (Option Bool)) (w : World) → is_unknown x ≡ true → either bit x w ≡ decided bit false w ∷ decided bit true w ∷ []
either_open bit None w e = cc
either_open bit (Some None) w e = refl
either_open bit (Some (Some b)) w e = cc

either_closed : (bit : ℕ) (x : Option (Option Bool)) (w : World) → is_unknown x ≡ false → either bit x w ≡ w ∷ []
either_closed bit None w e = refl
either_closed bit (Some None) w e = cc
either_closed bit (Some (Some b)) w e = refl

pub halves_given : (n m bit : ℕ) (c : ClaimCase) (w k z o : PlainWorld) (list : List PlainWorld) → is_unknown (slice_get w.bits bit) ≡ true → IsSized n m w
    → world_of c k ≡ world_of c w → k.vectors.items ≡ w.vectors.items → world_of c z ≡ decided bit false (world_of c k) → z.vectors.items ≡ k.vectors.items
    → world_of c o ≡ decided bit true (world_of c w) → o.vectors.items ≡ w.vectors.items → list ≡ z ∷ o ∷ [] → Gives n m c list (split bit (world_of c w))
halves_given n m bit c w k z o list unknown s ek vk ez vz eo vo el =
    gives_same n m c list (z ∷ o ∷ []) (decided bit false (world_of c w) ∷ decided bit true (world_of c w) ∷ []) (split bit (world_of c w)) el (sym (either_open bit (slice_get w.bits bit) (world_of c w) unknown))
    (gives_two n m c z o _ _ (ez ∙ ap (decided bit false) ek) eo (sized_decided n m bit false c k z (sized_copy n m c w k s ek vk) ez vz) (sized_decided n m bit true c w o s eo vo))

pub same_given : (n m bit : ℕ) (c : ClaimCase) (w : PlainWorld) (list : List PlainWorld) → is_unknown (slice_get w.bits bit) ≡ false → IsSized n m w → list ≡ w ∷ [] → Gives n m c list (split bit (world_of c w))
same_given n m bit c w list closed s el =
    gives_same n m c list (w ∷ []) (world_of c w ∷ []) (split bit (world_of c w)) el (sym (either_closed bit (slice_get w.bits bit) (world_of c w) closed)) (gives_one n m c w (world_of c w) refl s)

-- ---- outcomes

alive_given : (n m : ℕ) (c : ClaimCase) (both list : List PlainWorld) (us : List World) → list ≡ filter lives both → Gives n m c both us → Gives n m c list (filter is_alive us)
alive_given n m c both list us e g = gives_same n m c list (filter lives both) (filter is_alive us) (filter is_alive us) e refl (gives_alive n m c both us g)

pub measured_given : (n m qubit : ℕ) (bit : Option ℕ) (c : ClaimCase) (w k z o : PlainWorld) (both list : List PlainWorld) → IsSized n m w
    → world_of c k ≡ world_of c w → k.vectors.items ≡ w.vectors.items
    → (AreOn n k.vectors.items → world_of c z ≡ measured_world n qubit bit false (world_of c k)) → z.vectors.items ≡ map (with_half qubit false) k.vectors.items
    → (AreOn n w.vectors.items → world_of c o ≡ measured_world n qubit bit true (world_of c w)) → o.vectors.items ≡ map (with_half qubit true) w.vectors.items
    → both ≡ z ∷ o ∷ [] → list ≡ filter lives both
    → Gives n m c list (filter is_alive (measured_world n qubit bit false (world_of c w) ∷ measured_world n qubit bit true (world_of c w) ∷ []))
measured_given n m qubit bit c w k z o both list s ek vk fz vz fo vo eb el =
    let sk = sized_copy n m c w k s ek vk in
    let ez = fz sk.vectors in
    let eo = fo s.vectors in
    let sz = sized_from n m c k z (measured_world n qubit bit false (world_of c k)) sk ez refl (length-stored bit false k.bits) (same_on n _ z.vectors.items vz (half_on n qubit false k.vectors.items sk.vectors)) in
    let so = sized_from n m c w o (measured_world n qubit bit true (world_of c w)) s eo refl (length-stored bit true w.bits) (same_on n _ o.vectors.items vo (half_on n qubit true w.vectors.items s.vectors)) in
    alive_given n m c both list _ el
    (gives_same n m c both (z ∷ o ∷ []) _ _ eb refl (gives_two n m c z o _ _ (ez ∙ ap (measured_world n qubit bit false) ek) eo sz so))

pub reset_given : (n m qubit : ℕ) (c : ClaimCase) (w k z o : PlainWorld) (both list : List PlainWorld) → IsSized n m w
    → world_of c k ≡ world_of c w → k.vectors.items ≡ w.vectors.items
    → (AreOn n k.vectors.items → world_of c z ≡ reset_world n qubit false (world_of c k)) → z.vectors.items ≡ map (with_reset qubit false) k.vectors.items
    → (AreOn n w.vectors.items → world_of c o ≡ reset_world n qubit true (world_of c w)) → o.vectors.items ≡ map (with_reset qubit true) w.vectors.items
    → both ≡ z ∷ o ∷ [] → list ≡ filter lives both
    → Gives n m c list (filter is_alive (reset_world n qubit false (world_of c w) ∷ reset_world n qubit true (world_of c w) ∷ []))
reset_given n m qubit c w k z o both list s ek vk fz vz fo vo eb el =
    let sk = sized_copy n m c w k s ek vk in
    let ez = fz sk.vectors in
    let eo = fo s.vectors in
    let sz = sized_from n m c k z (reset_world n qubit false (world_of c k)) sk ez refl refl (same_on n _ z.vectors.items vz (reset_on n qubit false k.vectors.items sk.vectors)) in
    let so = sized_from n m c w o (reset_world n qubit true (world_of c w)) s eo refl refl (same_on n _ o.vectors.items vo (reset_on n qubit true w.vectors.items s.vectors)) in
    alive_given n m c both list _ el
    (gives_same n m c both (z ∷ o ∷ []) _ _ eb refl (gives_two n m c z o _ _ (ez ∙ ap (reset_world n qubit false) ek) eo sz so))

-- ---- an assumption

assumed_open : (g : Guard) (x : Option (Option Bool)) (w : World) → is_unknown x ≡ true → assumed_worlds g x w ≡ decided g.bit g.value w ∷ []
assumed_open g None w e = cc
assumed_open g (Some None) w e = refl
assumed_open g (Some (Some b)) w e = cc

assumed_holds : (g : Guard) (x : Option (Option Bool)) (w : World) → is_known g x ≡ true → assumed_worlds g x w ≡ w ∷ []
assumed_holds g None w e = cc
assumed_holds g (Some None) w e = cc
assumed_holds g (Some (Some b)) w e = ap (λ t. cond t (w ∷ []) []) e

assumed_fails : (g : Guard) (x : Option (Option Bool)) (w : World) → is_unknown x ≡ false → is_known g x ≡ false → assumed_worlds g x w ≡ []
assumed_fails g None w u e = refl
assumed_fails g (Some None) w u e = cc
assumed_fails g (Some (Some b)) w u e = ap (λ t. cond t (w ∷ []) []) e

pub decided_given : (n m : ℕ) (g : Guard) (c : ClaimCase) (w d : PlainWorld) (left list : List PlainWorld) → is_unknown (slice_get w.bits g.bit) ≡ true → IsSized n m w
    → world_of c d ≡ decided g.bit g.value (world_of c w) → d.vectors.items ≡ w.vectors.items → left ≡ d ∷ [] → list ≡ filter lives left
    → Gives n m c list (filter is_alive (assumed_worlds g (slice_get w.bits g.bit) (world_of c w)))
decided_given n m g c w d left list unknown s e vs el ea =
    alive_given n m c left list _ ea
    (gives_same n m c left (d ∷ []) (decided g.bit g.value (world_of c w) ∷ []) _ el (sym (assumed_open g (slice_get w.bits g.bit) (world_of c w) unknown))
    (gives_one n m c d _ e (sized_decided n m g.bit g.value c w d s e vs)))

pub held_given : (n m : ℕ) (g : Guard) (c : ClaimCase) (w : PlainWorld) (left list : List PlainWorld) → is_known g (slice_get w.bits g.bit) ≡ true → IsSized n m w
    → left ≡ w ∷ [] → list ≡ filter lives left → Gives n m c list (filter is_alive (assumed_worlds g (slice_get w.bits g.bit) (world_of c w)))
held_given n m g c w left list holds s el ea =
    alive_given n m c left list _ ea
    (gives_same n m c left (w ∷ []) (world_of c w ∷ []) _ el (sym (assumed_holds g (slice_get w.bits g.bit) (world_of c w) holds)) (gives_one n m c w (world_of c w) refl s))

pub none_given : (n m : ℕ) (g : Guard) (c : ClaimCase) (w : PlainWorld) (list : List PlainWorld) → is_unknown (slice_get w.bits g.bit) ≡ false → is_known g (slice_get w.bits g.bit) ≡ false
    → list ≡ [] → Gives n m c list (filter is_alive (assumed_worlds g (slice_get w.bits g.bit) (world_of c w)))
none_given n m g c w list closed fails el =
    gives_same n m c list [] (filter is_alive []) _ el (ap (filter is_alive) (sym (assumed_fails g (slice_get w.bits g.bit) (world_of c w) closed fails)))
    (record { worlds = refl; sized = All-nil (IsSized n m) })

-- ---- a gate

pub played_given : (n m : ℕ) (g : Gate) (c : ClaimCase) (w u : PlainWorld) (left list : List PlainWorld) → IsSized n m w
    → (AreOn n w.vectors.items → world_of c u ≡ with_vectors (apply_gate n g) (world_of c w)) → u.vectors.items ≡ map (with_gate g) w.vectors.items
    → left ≡ u ∷ [] → list ≡ filter lives left → Gives n m c list (filter is_alive (with_vectors (apply_gate n g) (world_of c w) ∷ []))
played_given n m g c w u left list s fu vu el ea =
    let eu = fu s.vectors in
    let on = All-map (λ (v : StateVector). v.qubits ≡ n) (with_gate g) w.vectors.items s.vectors in
    let su = sized_from n m c w u (with_vectors (apply_gate n g) (world_of c w)) s eu refl refl (same_on n _ u.vectors.items vu on) in
    alive_given n m c left list _ ea (gives_same n m c left (u ∷ []) _ _ el refl (gives_one n m c u _ eu su))
