-- What every run keeps: the number of bits, and a zero vector. And what a run of statements without a cut depends on.
use Rattle.std.proofs.Common.{◌≡◌, ℕ, zero, suc, Bool, true, false, cond, List, [], ◌∷◌, ◌++◌, map, length, Option, Some, None, refl, ap, sym, ◌∙◌, subst, append_assoc, length-set}
use Rattle.std.specs.List.{AllByRecursion}
use Rattle.aq_ring.specs.Fractions.{Amplitude}
use Rattle.aq_ring.specs.Vectors.{IsZeroVector, Proportional}
use Rattle.aq_prog.specs.Gates.{project, flip_gate}
use Rattle.aq_prog.specs.Runs.{State, Run, How, Passed, Played, Meaning, ended, stopped, joined, then_go, in_order, has_bit, with_bit, flipped, measured, was_reset, played_gate, passing, one_turn, looped, meaning, meaning_step}
use Rattle.aq_prog.specs.declared.gate.Gate.{Gate}
use Rattle.aq_prog.specs.declared.stmt.Guard.{Guard}
use Rattle.aq_prog.specs.declared.stmt.Stmt.{Stmt}
use Rattle.aq_prog.proofs.VectorLaws.{apply_gate-zero, project-zero, apply_gate-proportional, project-proportional}
use Rattle.aq_prog.specs.Cuts.{AreUncut}
use Rattle.aq_correct.proofs.StmtLaws.{fold-gate, fold-measure, fold-reset, fold-if, fold-while, fold-assert, fold-assume, by_induction, all_by_uncut_induction}
use Rattle.aq_correct.proofs.CoverLaws.{each_append}

-- ---- what every run keeps
abbrev pub IsZeroPassed : Passed → Type 0
IsZeroPassed p = IsZeroVector p.vector

pub record TameRun (s : State) (r : Run) : Type 0 where
  pub bits : length r.last.bits ≡ length s.bits
  pub zero_end : IsZeroVector s.vector → IsZeroVector r.last.vector
  pub zero_passed : IsZeroVector s.vector → AllByRecursion IsZeroPassed r.passed

abbrev pub Tame : Meaning → Type 0
Tame m = (s : State) → TameRun s (m s)

tame-joined : (s : State) (first second : Run) → TameRun s first → TameRun first.last second → TameRun s (joined first second)
tame-joined s first second f g = record {
  bits = g.bits ∙ f.bits;
  zero_end = λ z. g.zero_end (f.zero_end z);
  zero_passed = λ z. each_append IsZeroPassed first.passed second.passed (f.zero_passed z) (g.zero_passed (f.zero_end z));
}

tame-then_run : (s : State) (next : Meaning) → Tame next → (how : How) (last : State) (ps : List Passed) (gs : List Played) → TameRun s (record { how = how; last = last; passed = ps; played = gs })
    → TameRun s (then_go (record { how = how; last = last; passed = ps; played = gs }) next)
tame-then_run s next t How.Ended last ps gs f = tame-joined s (record { how = How.Ended; last = last; passed = ps; played = gs }) (next last) f (t last)
tame-then_run s next t How.Blocked last ps gs f = f
tame-then_run s next t How.NoOutcome last ps gs f = f
tame-then_run s next t How.NoTurn last ps gs f = f

pub tame-then : (s : State) (r : Run) (next : Meaning) → TameRun s r → Tame next → TameRun s (then_go r next)
tame-then s r next f t = tame-then_run s next t r.how r.last r.passed r.played f

pub tame-stopped : (how : How) (s : State) → TameRun s (stopped how s)
tame-stopped how s = record { bits = refl; zero_end = λ z. z; zero_passed = λ z. tt }

pub tame-order : (ms : List Meaning) → AllByRecursion Tame ms → Tame (in_order ms)
tame-order [] h s = tame-stopped How.Ended s
tame-order (m ∷ ms) h s = tame-then s (m s) (in_order ms) (h.0 s) (tame-order ms h.1)

tame-cond : (s : State) (b : Bool) (r q : Run) → TameRun s r → TameRun s q → TameRun s (cond b r q)
tame-cond s true r q f g = f
tame-cond s false r q f g = g

tame-passing : (claim : ℕ) (s : State) (r : Run) → TameRun s r → TameRun s (passing claim s r)
tame-passing claim s r f = record { bits = f.bits; zero_end = f.zero_end; zero_passed = λ z. (z, f.zero_passed z) }

tame-turn : (turns : ℕ) (body again : Meaning) → Tame body → Tame again → (s : State) → TameRun s (one_turn turns body again s)
tame-turn zero body again b a s = tame-stopped How.NoTurn s
tame-turn (suc turns) body again b a s =
    let f = tame-then (record { bits = s.bits; vector = s.vector; outcomes = s.outcomes; turns = turns }) (body (record { bits = s.bits; vector = s.vector; outcomes = s.outcomes; turns = turns })) again (b _) a in
    record { bits = f.bits; zero_end = f.zero_end; zero_passed = f.zero_passed }

pub tame-looped : (most : ℕ) (guard : Guard) (claim : ℕ) (body : Meaning) → Tame body → Tame (looped most guard claim body)
tame-looped zero guard claim body b s = tame-passing claim s _ (tame-cond s (has_bit guard s.bits) (stopped How.NoTurn s) (ended s) (tame-stopped How.NoTurn s) (tame-stopped How.Ended s))
tame-looped (suc most) guard claim body b s = tame-passing claim s _
    (tame-cond s (has_bit guard s.bits) (one_turn s.turns body (looped most guard claim body) s) (ended s) (tame-turn s.turns body (looped most guard claim body) b (tame-looped most guard claim body b) s) (tame-stopped How.Ended s))

flipped-zero : (n qubit : ℕ) (b : Bool) (v : List Amplitude) → IsZeroVector v → IsZeroVector (flipped n qubit b v)
flipped-zero n qubit true v z = apply_gate-zero n (flip_gate qubit) v z
flipped-zero n qubit false v z = z

with_bit-sized : (bit : Option ℕ) (b : Bool) (bits : List Bool) → length (with_bit bit b bits) ≡ length bits
with_bit-sized None b bits = refl
with_bit-sized (Some k) b bits = length-set bits k b

tame-measured : (n qubit : ℕ) (bit : Option ℕ) (outs : List Bool) (s : State) → TameRun s (measured n qubit bit outs s)
tame-measured n qubit bit [] s = tame-stopped How.NoOutcome s
tame-measured n qubit bit (o ∷ rest) s = record { bits = with_bit-sized bit o s.bits; zero_end = λ z. project-zero n qubit o s.vector z; zero_passed = λ z. tt }

tame-reset : (n qubit : ℕ) (outs : List Bool) (s : State) → TameRun s (was_reset n qubit outs s)
tame-reset n qubit [] s = tame-stopped How.NoOutcome s
tame-reset n qubit (o ∷ rest) s = record { bits = refl; zero_end = λ z. flipped-zero n qubit o (project n qubit o s.vector) (project-zero n qubit o s.vector z); zero_passed = λ z. tt }

-- the meanings of a body
pub each_map : (n : ℕ) (P : Meaning → Type 0) (body : List Stmt) → AllByRecursion (λ s. P (meaning n s)) body → AllByRecursion P (map (meaning n) body)
each_map n P [] h = tt
each_map n P (s ∷ body) h = (h.0, each_map n P body h.1)

abbrev IsTame : ℕ → Stmt → Type 0
IsTame n s = Tame (meaning n s)

pub tame : (n : ℕ) (s : Stmt) → Tame (meaning n s)
tame n = by_induction (IsTame n) (record {
  gate = λ g. subst Tame (sym (fold-gate Meaning (meaning_step n) g)) (λ s. record { bits = refl; zero_end = λ z. apply_gate-zero n g s.vector z; zero_passed = λ z. tt });
  measure = λ qubit bit. subst Tame (sym (fold-measure Meaning (meaning_step n) qubit bit)) (λ s. tame-measured n qubit bit s.outcomes s);
  reset = λ qubit. subst Tame (sym (fold-reset Meaning (meaning_step n) qubit)) (λ s. tame-reset n qubit s.outcomes s);
  branch = λ g y z h k. subst Tame (sym (fold-if Meaning (meaning_step n) g y z))
      (λ s. tame-cond s (has_bit g s.bits) (in_order (map (meaning n) y) s) (in_order (map (meaning n) z) s) (tame-order _ (each_map n Tame y h) s) (tame-order _ (each_map n Tame z k) s));
  loop = λ g claim body line h. subst Tame (sym (fold-while Meaning (meaning_step n) g claim body line))
      (λ s. tame-looped s.turns g claim (in_order (map (meaning n) body)) (tame-order _ (each_map n Tame body h)) s);
  claim = λ claim line. subst Tame (sym (fold-assert Meaning (meaning_step n) claim line)) (λ s. tame-passing claim s (ended s) (tame-stopped How.Ended s));
  assuming = λ g. subst Tame (sym (fold-assume Meaning (meaning_step n) g)) (λ s. tame-cond s (has_bit g s.bits) (ended s) (stopped How.Blocked s) (tame-stopped How.Ended s) (tame-stopped How.Blocked s));
})

pub tame-body : (n : ℕ) (body : List Stmt) → Tame (in_order (map (meaning n) body))
tame-body n body = tame-order _ (each_map n Tame body (each body))
  where
    each : (body : List Stmt) → AllByRecursion (λ s. Tame (meaning n s)) body
    each [] = tt
    each (s ∷ body) = (tame n s, each body)

-- ---- a run without a cut that has ended
-- It took some outcomes, and comes out alike from a proportional vector, and whatever outcomes stand behind those and
-- whatever turns are left.
pub record AgainRun (m : Meaning) (s : State) (r : Run) (taken : List Bool) (s' : State) (behind : List Bool) : Type 0 where
  pub how : (m s').how ≡ How.Ended
  pub bits : (m s').last.bits ≡ r.last.bits
  pub vector : Proportional r.last.vector (m s').last.vector
  pub outcomes : (m s').last.outcomes ≡ behind

pub record Repeats (m : Meaning) (s : State) (r : Run) : Type 0 where
  pub taken : List Bool
  pub outcomes : s.outcomes ≡ taken ++ r.last.outcomes
  pub again : (s' : State) (behind : List Bool) → s'.bits ≡ s.bits → Proportional s.vector s'.vector → s'.outcomes ≡ taken ++ behind → AgainRun m s r taken s' behind

abbrev pub Local : Meaning → Type 0
Local m = (s : State) → (m s).how ≡ How.Ended → Repeats m s (m s)

-- where a run in two parts has ended, each part has
pub record BothEnded (r : Run) (next : Meaning) : Type 0 where
  pub first : r.how ≡ How.Ended
  pub second : (next r.last).how ≡ How.Ended
  pub is : then_go r next ≡ joined r (next r.last)

both_ended_run : (next : Meaning) (how : How) (last : State) (ps : List Passed) (gs : List Played) → (then_go (record { how = how; last = last; passed = ps; played = gs }) next).how ≡ How.Ended
    → BothEnded (record { how = how; last = last; passed = ps; played = gs }) next
both_ended_run next How.Ended last ps gs e = record { first = refl; second = e; is = refl }
both_ended_run next How.Blocked last ps gs e = cc
both_ended_run next How.NoOutcome last ps gs e = cc
both_ended_run next How.NoTurn last ps gs e = cc

pub both_ended : (r : Run) (next : Meaning) → (then_go r next).how ≡ How.Ended → BothEnded r next
both_ended r next e = both_ended_run next r.how r.last r.passed r.played e

pub go_on_run : (next : Meaning) (how : How) (last : State) (ps : List Passed) (gs : List Played) → how ≡ How.Ended
    → then_go (record { how = how; last = last; passed = ps; played = gs }) next ≡ joined (record { how = how; last = last; passed = ps; played = gs }) (next last)
go_on_run next How.Ended last ps gs e = refl
go_on_run next How.Blocked last ps gs e = cc
go_on_run next How.NoOutcome last ps gs e = cc
go_on_run next How.NoTurn last ps gs e = cc

pub go_on : (r : Run) (next : Meaning) → r.how ≡ How.Ended → then_go r next ≡ joined r (next r.last)
go_on r next e = go_on_run next r.how r.last r.passed r.played e

pub local-then : (m next : Meaning) → Local m → Local next → Local (λ s. then_go (m s) next)
local-then m next f g s e =
    let b = both_ended (m s) next e in
    let p = f s b.first in
    let q = g (m s).last b.second in
    record {
      taken = p.taken ++ q.taken;
      outcomes = p.outcomes ∙ ap (λ (l : List Bool). p.taken ++ l) q.outcomes ∙ sym (append_assoc p.taken q.taken _) ∙ ap (λ (r : Run). (p.taken ++ q.taken) ++ r.last.outcomes) (sym b.is);
      again = λ s' behind same prop outs.
          let a = p.again s' (q.taken ++ behind) same prop (outs ∙ append_assoc p.taken q.taken behind) in
          let c = q.again (m s').last behind a.bits a.vector a.outcomes in
          let is : then_go (m s') next ≡ joined (m s') (next (m s').last) = go_on (m s') next a.how in
          record {
            how = ap (λ (r : Run). r.how) is ∙ c.how;
            bits = ap (λ (r : Run). r.last.bits) is ∙ c.bits ∙ ap (λ (r : Run). r.last.bits) (sym b.is);
            vector = subst (λ (r : Run). Proportional (then_go (m s) next).last.vector r.last.vector) (sym is) (subst (λ (r : Run). Proportional r.last.vector (next (m s').last).last.vector) (sym b.is) c.vector);
            outcomes = ap (λ (r : Run). r.last.outcomes) is ∙ c.outcomes;
          };
    }

-- nothing is taken
local-ended : Local ended
local-ended s e = record { taken = []; outcomes = refl; again = λ s' behind same prop outs. record { how = refl; bits = same; vector = prop; outcomes = outs } }

pub local-order : (ms : List Meaning) → AllByRecursion Local ms → Local (in_order ms)
local-order [] h = local-ended
local-order (m ∷ ms) h = local-then m (in_order ms) h.0 (local-order ms h.1)

local-gate : (n : ℕ) (g : Gate) → Local (played_gate n g)
local-gate n g s e = record { taken = []; outcomes = refl; again = λ s' behind same prop outs. record { how = refl; bits = same; vector = apply_gate-proportional n g s.vector s'.vector prop; outcomes = outs } }

flipped-proportional : (n qubit : ℕ) (b : Bool) (u v : List Amplitude) → Proportional u v → Proportional (flipped n qubit b u) (flipped n qubit b v)
flipped-proportional n qubit true u v p = apply_gate-proportional n (flip_gate qubit) u v p
flipped-proportional n qubit false u v p = p

again-measured : (n qubit : ℕ) (bit : Option ℕ) (s s' : State) (o : Bool) (rest behind : List Bool) (outs : List Bool) → s'.bits ≡ s.bits → Proportional s.vector s'.vector → outs ≡ o ∷ behind
    → ((measured n qubit bit outs s').how ≡ How.Ended) × ((measured n qubit bit outs s').last.bits ≡ with_bit bit o s.bits) × Proportional (project n qubit o s.vector) (measured n qubit bit outs s').last.vector
    × ((measured n qubit bit outs s').last.outcomes ≡ behind)
again-measured n qubit bit s s' o rest behind outs same prop e =
    subst (λ (l : List Bool). ((measured n qubit bit l s').how ≡ How.Ended) × ((measured n qubit bit l s').last.bits ≡ with_bit bit o s.bits) × Proportional (project n qubit o s.vector) (measured n qubit bit l s').last.vector
    × ((measured n qubit bit l s').last.outcomes ≡ behind)) (sym e)
    (refl, ap (with_bit bit o) same, project-proportional n qubit o s.vector s'.vector prop, refl)

stopped_short : {A : Type 0} → How.NoOutcome ≡ How.Ended → A
stopped_short e = cc

abbrev measuring : ℕ → ℕ → Option ℕ → Meaning
measuring n qubit bit t = measured n qubit bit t.outcomes t

repeat-measured : (n qubit : ℕ) (bit : Option ℕ) (s : State) (o : Bool) (rest : List Bool) (s' : State) (behind : List Bool) → s'.bits ≡ s.bits → Proportional s.vector s'.vector → s'.outcomes ≡ o ∷ behind
    → AgainRun (measuring n qubit bit) s (measured n qubit bit (o ∷ rest) s) (o ∷ []) s' behind
repeat-measured n qubit bit s o rest s' behind same prop outs =
    let a = again-measured n qubit bit s s' o rest behind s'.outcomes same prop outs in
    record { how = a.0; bits = a.1; vector = a.2; outcomes = a.3 }

repeats-measured : (n qubit : ℕ) (bit : Option ℕ) (s : State) (o : Bool) (rest : List Bool) → s.outcomes ≡ o ∷ rest → Repeats (measuring n qubit bit) s (measured n qubit bit (o ∷ rest) s)
repeats-measured n qubit bit s o rest is = record { taken = o ∷ []; outcomes = is; again = repeat-measured n qubit bit s o rest }

local-measured : (n qubit : ℕ) (bit : Option ℕ) (s : State) (outs : List Bool) → s.outcomes ≡ outs → (measured n qubit bit outs s).how ≡ How.Ended → Repeats (measuring n qubit bit) s (measured n qubit bit outs s)
local-measured n qubit bit s [] is e = stopped_short e
local-measured n qubit bit s (o ∷ rest) is e = repeats-measured n qubit bit s o rest is

again-reset : (n qubit : ℕ) (s s' : State) (o : Bool) (behind : List Bool) (outs : List Bool) → s'.bits ≡ s.bits → Proportional s.vector s'.vector → outs ≡ o ∷ behind
    → ((was_reset n qubit outs s').how ≡ How.Ended) × ((was_reset n qubit outs s').last.bits ≡ s.bits) × Proportional (flipped n qubit o (project n qubit o s.vector)) (was_reset n qubit outs s').last.vector
    × ((was_reset n qubit outs s').last.outcomes ≡ behind)
again-reset n qubit s s' o behind outs same prop e =
    subst (λ (l : List Bool). ((was_reset n qubit l s').how ≡ How.Ended) × ((was_reset n qubit l s').last.bits ≡ s.bits) × Proportional (flipped n qubit o (project n qubit o s.vector)) (was_reset n qubit l s').last.vector
    × ((was_reset n qubit l s').last.outcomes ≡ behind)) (sym e)
    (refl, same, flipped-proportional n qubit o (project n qubit o s.vector) (project n qubit o s'.vector) (project-proportional n qubit o s.vector s'.vector prop), refl)

abbrev resetting : ℕ → ℕ → Meaning
resetting n qubit t = was_reset n qubit t.outcomes t

repeat-reset : (n qubit : ℕ) (s : State) (o : Bool) (rest : List Bool) (s' : State) (behind : List Bool) → s'.bits ≡ s.bits → Proportional s.vector s'.vector → s'.outcomes ≡ o ∷ behind
    → AgainRun (resetting n qubit) s (was_reset n qubit (o ∷ rest) s) (o ∷ []) s' behind
repeat-reset n qubit s o rest s' behind same prop outs =
    let a = again-reset n qubit s s' o behind s'.outcomes same prop outs in
    record { how = a.0; bits = a.1; vector = a.2; outcomes = a.3 }

repeats-reset : (n qubit : ℕ) (s : State) (o : Bool) (rest : List Bool) → s.outcomes ≡ o ∷ rest → Repeats (resetting n qubit) s (was_reset n qubit (o ∷ rest) s)
repeats-reset n qubit s o rest is = record { taken = o ∷ []; outcomes = is; again = repeat-reset n qubit s o rest }

local-reset : (n qubit : ℕ) (s : State) (outs : List Bool) → s.outcomes ≡ outs → (was_reset n qubit outs s).how ≡ How.Ended → Repeats (resetting n qubit) s (was_reset n qubit outs s)
local-reset n qubit s [] is e = stopped_short e
local-reset n qubit s (o ∷ rest) is e = repeats-reset n qubit s o rest is

-- by the bit's value, which is the same in both runs
abbrev choice : Guard → Meaning → Meaning → Meaning
choice g y z s = cond (has_bit g s.bits) (y s) (z s)

local-choice : (g : Guard) (y z : Meaning) → Local y → Local z → Local (choice g y z)
local-choice g y z f h s e = by_bit (has_bit g s.bits) refl e
  where
    taken_by : (b : Bool) → has_bit g s.bits ≡ b → (s' : State) → s'.bits ≡ s.bits → choice g y z s' ≡ cond b (y s') (z s')
    taken_by b is s' same = ap (λ (l : List Bool). cond (has_bit g l) (y s') (z s')) same ∙ ap (λ (c : Bool). cond c (y s') (z s')) is

    repeats : (b : Bool) → has_bit g s.bits ≡ b → Repeats (λ t. cond b (y t) (z t)) s (cond b (y s) (z s)) → Repeats (choice g y z) s (cond b (y s) (z s))
    repeats b is r = record {
      taken = r.taken;
      outcomes = r.outcomes;
      again = λ s' behind same prop outs.
          let a = r.again s' behind same prop outs in
          let t = taken_by b is s' same in
          record {
            how = ap (λ (q : Run). q.how) t ∙ a.how;
            bits = ap (λ (q : Run). q.last.bits) t ∙ a.bits;
            vector = subst (λ (q : Run). Proportional (cond b (y s) (z s)).last.vector q.last.vector) (sym t) a.vector;
            outcomes = ap (λ (q : Run). q.last.outcomes) t ∙ a.outcomes;
          };
    }

    by_bit : (b : Bool) → has_bit g s.bits ≡ b → (cond (has_bit g s.bits) (y s) (z s)).how ≡ How.Ended → Repeats (choice g y z) s (choice g y z s)
    by_bit true is k = subst (λ (c : Bool). Repeats (choice g y z) s (cond c (y s) (z s))) (sym is) (repeats true is (f s (subst (λ (c : Bool). (cond c (y s) (z s)).how ≡ How.Ended) is k)))
    by_bit false is k = subst (λ (c : Bool). Repeats (choice g y z) s (cond c (y s) (z s))) (sym is) (repeats false is (h s (subst (λ (c : Bool). (cond c (y s) (z s)).how ≡ How.Ended) is k)))

local-blocked : Local (stopped How.Blocked)
local-blocked s e = cc

abbrev IsLocal : ℕ → Stmt → Type 0
IsLocal n s = Local (meaning n s)

pub local-body : (n : ℕ) (body : List Stmt) → AreUncut body → Local (in_order (map (meaning n) body))
local-body n body u = local-order _ (each_map n Local body (all_by_uncut_induction (IsLocal n) (record {
  gate = λ g. subst Local (sym (fold-gate Meaning (meaning_step n) g)) (local-gate n g);
  measure = λ qubit bit. subst Local (sym (fold-measure Meaning (meaning_step n) qubit bit)) (λ s e. local-measured n qubit bit s s.outcomes refl e);
  reset = λ qubit. subst Local (sym (fold-reset Meaning (meaning_step n) qubit)) (λ s e. local-reset n qubit s s.outcomes refl e);
  branch = λ g y z h k. subst Local (sym (fold-if Meaning (meaning_step n) g y z))
      (local-choice g (in_order (map (meaning n) y)) (in_order (map (meaning n) z)) (local-order _ (each_map n Local y h)) (local-order _ (each_map n Local z k)));
  assuming = λ g. subst Local (sym (fold-assume Meaning (meaning_step n) g)) (local-choice g ended (stopped How.Blocked) local-ended local-blocked);
}) body u))
