-- What the calls on a statement ask for, and what they tell.
use Rattle.std.proofs.Common.{◌≡◌, ℕ, zero, suc, ◌<◌, List, [], ◌∷◌, ◌++◌, map, All, Contains, length, get_or, Option, IfSome, refl, ap, sym, subst, arith}
use Rattle.std.specs.List.{flat_map}
use Rattle.std.proofs.lemmas.List.Elements.{All-contains, Contains-append_right}
use Rattle.aq_prog.specs.Gates.{FitsGate, IsValidGate}
use Rattle.aq_prog.specs.declared.gate.Gate.{Gate}
use Rattle.aq_prog.specs.declared.stmt.Guard.{Guard}
use Rattle.aq_prog.specs.declared.stmt.Stmt.{Stmt}
use Rattle.aq_prog.specs.declared.stmt.Stmt.TheVariants as stmt
use Rattle.aq_plain.specs.Vectors.{StateVector}
use Rattle.aq_plain.specs.Replaying.{ArePlayable}
use Rattle.aq_plain.proofs.PlayLaws.{gate_valid, measure_valid, reset_valid, next_playable}
use Rattle.aq_obligations.specs.Claims.{ClaimCase}
use Rattle.aq_obligations.specs.Covering.{Met, meets}
use Rattle.aq_obligations.specs.Worlds.{split}
use Rattle.aq_worlds.specs.Playing.{world_of, HasUnfit, IsSized, Gives, AreUnfit, StopsFor, CanPlay, CanPlayStmt}
use Rattle.aq_worlds.specs.declared.stop.Stop.{Stop}
use Rattle.aq_worlds.specs.declared.stop.Stop.TheVariants as stop
use Rattle.aq_worlds.specs.declared.world.PlainWorld.{PlainWorld}
use Rattle.aq_worlds.proofs.SpreadLaws.{meets_gate, branch_bit, assume_bit, alone, no_case, LeadsOn}

pub stops_gives : {P Q : Type 0} (e : Stop) → StopsFor P e → (P → Q) → StopsFor Q e
stops_gives stop.Width h f = f h
stops_gives stop.Memory h f = tt

pub valid_on_all : (w : PlainWorld) (x : Stmt) (g : Gate) → x ≡ stmt.Gate g → CanPlayStmt (w ∷ []) x → All (λ v. IsValidGate v.qubits g) w.vectors.items
valid_on_all w x g e p =
    let s = alone p.qubits p.bits w p.sized in
    λ k d h. subst (λ (q : ℕ). IsValidGate q g) (sym (s.vectors k d h)) (gate_valid p.qubits p.bits x g e p.playable)

below_all : (n m : ℕ) (w : PlainWorld) (qubit : ℕ) → IsSized n m w → qubit < n → All (λ v. qubit < v.qubits) w.vectors.items
below_all n m w qubit s lt = λ k d h. subst (λ (q : ℕ). qubit < q) (sym (s.vectors k d h)) lt

pub measured_qubit : (w : PlainWorld) (x : Stmt) (qubit : ℕ) (bit : Option ℕ) → x ≡ stmt.Measure qubit bit → CanPlayStmt (w ∷ []) x → All (λ v. qubit < v.qubits) w.vectors.items
measured_qubit w x qubit bit e p = below_all p.qubits p.bits w qubit (alone p.qubits p.bits w p.sized) (measure_valid p.qubits p.bits x qubit bit e p.playable).0

pub measured_bit : (w : PlainWorld) (x : Stmt) (qubit : ℕ) (bit : Option ℕ) → x ≡ stmt.Measure qubit bit → CanPlayStmt (w ∷ []) x → IfSome bit (λ b. b < length w.bits)
measured_bit w x qubit bit e p =
    subst (λ (k : ℕ). IfSome bit (λ b. b < k)) (sym (alone p.qubits p.bits w p.sized).bits) (measure_valid p.qubits p.bits x qubit bit e p.playable).1

pub reset_qubit : (w : PlainWorld) (x : Stmt) (qubit : ℕ) → x ≡ stmt.Reset qubit → CanPlayStmt (w ∷ []) x → All (λ v. qubit < v.qubits) w.vectors.items
reset_qubit w x qubit e p = below_all p.qubits p.bits w qubit (alone p.qubits p.bits w p.sized) (reset_valid p.qubits p.bits x qubit e p.playable)

pub if_bits : (w : PlainWorld) (x : Stmt) (g : Guard) (a b : List Stmt) → x ≡ stmt.If g a b → CanPlayStmt (w ∷ []) x → (g.bit < length w.start) × (g.bit < length w.bits)
if_bits w x g a b e p =
    let s = alone p.qubits p.bits w p.sized in
    let lt = branch_bit p.qubits p.bits x g a b e p.playable in
    (subst (λ (k : ℕ). g.bit < k) (sym s.start) lt, subst (λ (k : ℕ). g.bit < k) (sym s.bits) lt)

pub assume_bits : (w : PlainWorld) (x : Stmt) (g : Guard) → x ≡ stmt.Assume g → CanPlayStmt (w ∷ []) x → (g.bit < length w.start) × (g.bit < length w.bits)
assume_bits w x g e p =
    let s = alone p.qubits p.bits w p.sized in
    let lt = assume_bit p.qubits p.bits x g e p.playable in
    (subst (λ (k : ℕ). g.bit < k) (sym s.start) lt, subst (λ (k : ℕ). g.bit < k) (sym s.bits) lt)

-- the halves of a world can be played on as it can
pub halves_play : (w : PlainWorld) (x : Stmt) (halves : List PlainWorld) (bit : ℕ) (l : List Stmt)
    → ((n m : ℕ) (c : ClaimCase) → IsSized n m w → Gives n m c halves (split bit (world_of c w))) → (p : CanPlayStmt (w ∷ []) x) → ArePlayable p.qubits p.bits l → CanPlay halves l
halves_play w x halves bit l made p q = record {
  qubits = p.qubits;
  bits = p.bits;
  sized = (made p.qubits p.bits no_case (alone p.qubits p.bits w p.sized)).sized;
  playable = q;
}

-- the next statement can be played
pub stmt_plays : (body : List Stmt) (worlds : List PlainWorld) (i : ℕ) (x : Stmt) (rest : List Stmt) (now : List PlainWorld) → i < length body → x ≡ get_or body i x → LeadsOn body worlds rest now
    → CanPlay worlds body → CanPlayStmt now x
stmt_plays body worlds i x rest now lt e on p = record {
  qubits = p.qubits;
  bits = p.bits;
  sized = on.sized p.qubits p.bits p.sized;
  playable = next_playable p.qubits p.bits p.qubits p.bits i body x x lt e refl refl p.playable;
}

pub contains_map : {A B : Type 0} (f : A → B) (xs : List A) (x : A) → Contains xs x → Contains (map f xs) (f x)
contains_map f [] x h = absurd (omega (arith, h.1))
contains_map f (y ∷ ys) x h = by_place h.0 h.1 h.2 (λ g. contains_map f ys x g)
  where
    by_place : (k : ℕ) → k < length (y ∷ ys) → get_or (y ∷ ys) k x ≡ x → (Contains ys x → Contains (map f ys) (f x)) → Contains (map f (y ∷ ys)) (f x)
    by_place zero h e next = (0, omega arith, ap f e)
    by_place (suc k) h e next = Contains-append_right (f y ∷ []) (map f ys) (f x) (next (k, omega (arith, h), e))

-- a gate that doesn't fit is met
pub gate_unfit : (w : PlainWorld) (x : Stmt) (g : Gate) → x ≡ stmt.Gate g → HasUnfit g w.vectors.items → AreUnfit (λ n. meets n x) (w ∷ [])
gate_unfit w x g e h = λ n m c s.
    let here = alone n m w s in
    let met : Met = record { gate = g; world = world_of c w } in
    let there : Contains (flat_map (meets n x) (world_of c w ∷ [])) met
    = subst (λ (l : List Met). Contains (l ++ []) met) (sym (meets_gate n x g (world_of c w) e)) (0, omega arith, refl) in
    let same = All-contains (λ (v : StateVector). v.qubits ≡ n) w.vectors.items h.vector here.vectors h.listed in
    record {
      met = met;
      is_met = there;
      vector = h.vector.amps;
      there = contains_map (λ (v : StateVector). v.amps) w.vectors.items h.vector h.listed;
      wide = λ f. h.wide (subst (λ (q : ℕ). FitsGate q g h.vector.amps) (sym same) f);
    }
