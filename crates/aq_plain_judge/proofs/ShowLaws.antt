-- What is shown of a world's vector is of the run that leads to it.
use Rattle.std.proofs.Common.{◌≡◌, ℕ, ◌<◌, Bool, List, Contains, length, Some, refl, ap, sym, ◌∙◌, subst, arith, inl}
use Rattle.std.specs.Prelude.{slice_get}
use Rattle.std.proofs.lemmas.List.{length-map}
use Rattle.std.proofs.lemmas.List.Elements.{All-contains}
use Rattle.std.proofs.lemmas.Option.{slice_get_within}
use Rattle.aq_ring.specs.Vectors.{IsZeroVector}
use Rattle.aq_prog.specs.Runs.{State}
use Rattle.aq_prog.specs.declared.program.Program.{Program}
use Rattle.aq_prog.specs.declared.stmt.Stmt.{Stmt}
use Rattle.aq_sets.specs.Vectors.{vectors_of, products_of}
use Rattle.aq_sets.specs.declared.sets.Sets.{Sets}
use Rattle.aq_plain.specs.Replaying.{ArePlayable, start_of}
use Rattle.aq_plain.specs.Vectors.{StateVector}
use Rattle.aq_plain.specs.declared.replay_stop.Played.{Played as Reached}
use Rattle.aq_obligations.specs.Asking.{case_of, meaning_of}
use Rattle.aq_obligations.specs.Bound.{IsBoundCase}
use Rattle.aq_obligations.specs.Obligations.{IsStart}
use Rattle.aq_obligations.specs.Wide.{IsWide}
use Rattle.aq_obligations.specs.Worlds.{filled, worlds}
use Rattle.aq_obligations.specs.declared.bound.BoundCase.{BoundCase}
use Rattle.aq_obligations.specs.declared.bound.Obligation.{Obligation}
use Rattle.aq_correct.specs.WorldLaws.{HasEnd}
use Rattle.aq_correct.proofs.WorldProofs.{worlds_cover_runs}
use Rattle.aq_worlds.specs.Asked.{CanBeJudged}
use Rattle.aq_worlds.specs.Playing.{world_of}
use Rattle.aq_worlds.specs.declared.world.PlainWorld.{PlainWorld}
use Rattle.aq_plain_judge.specs.Listing.{HasWide, case_states}
use Rattle.aq_plain_judge.specs.Refuting.{EndsAlive, HasWideStep, IsAliveAt, IsEndOf, Shows}
use Rattle.aq_plain_judge.proofs.ListingLaws.{some_is, state_there, matches_filled, wide_in, wide_before}

at_run : (P : ℕ → List Stmt → State → Type 0) (n q : ℕ) (body b : List Stmt) (s t : State) → n ≡ q → body ≡ b → s ≡ t → P n body s → P q b t
at_run P n q body b s t e f g h = subst (P q b) g (subst (λ (l : List Stmt). P q l s) f (subst (λ (k : ℕ). P k body s) e h))

-- the case is one of those that were looked up
pub case_bound : (p : Program) (s : Sets) (o : Obligation) (c : BoundCase) → CanBeJudged p s o → Contains o.from c → IsBoundCase p s c
case_bound p s o c can m = All-contains (IsBoundCase p s) o.from c can.bound.from m

-- the case lists a vector for each of the world's
pub within_case : (p : Program) (s : Sets) (o : Obligation) (c : BoundCase) (w : PlainWorld) (place : ℕ) → CanBeJudged p s o → Contains (worlds (meaning_of p s o)) (world_of (case_of s c) w) → IsAliveAt (world_of (case_of s c) w) place
    → place < length (vectors_of s.exprs c.set)
within_case p s o c w place can there alive =
    let long = (worlds_cover_runs.sized (meaning_of p s o) (world_of (case_of s c) w) can.bound.uncut there).1 in
    let h = slice_get_within (world_of (case_of s c) w).vectors place alive.vector alive.there in
    omega (arith, long, h)

-- ---- a run of the world
-- the statements, bits, state and outcomes are those of the run to the world's vector at this place
pub record IsRunOf (p : Program) (s : Sets) (o : Obligation) (c : BoundCase) (w : PlainWorld) (place : ℕ) (body : List Stmt) (bits : List Bool) (state : StateVector) (outcomes : List Bool) : Type 0 where
  pub asked : CanBeJudged p s o
  pub listed : Contains o.from c
  pub played : Contains (worlds (meaning_of p s o)) (world_of (case_of s c) w)
  pub body_is : body ≡ o.fragment
  pub bits_are : bits ≡ filled w.start
  pub state_is : slice_get (case_states s c) place ≡ Some state
  pub outcomes_are : outcomes ≡ w.outcomes

module _ (p : Program) (s : Sets) (o : Obligation) (c : BoundCase) (w : PlainWorld) (place : ℕ) (body : List Stmt) (bits : List Bool) (state : StateVector) (outcomes : List Bool) (r : IsRunOf p s o c w place body bits state outcomes) where
  on_qubits : state.qubits ≡ p.qubits
  on_qubits = (state_there s c place state r.state_is).1 ∙ (case_bound p s o c r.asked r.listed).qubits

  start_is : start_of bits state.amps outcomes ≡ start_of (filled w.start) state.amps w.outcomes
  start_is = λ i. start_of (r.bits_are i) state.amps (r.outcomes_are i)

  ends : IsStart (meaning_of p s o) (filled w.start) state.amps × HasEnd (meaning_of p s o) (world_of (case_of s c) w) place (filled w.start) state.amps
  ends =
      worlds_cover_runs.ends (meaning_of p s o) (world_of (case_of s c) w) (filled w.start) place state.amps r.asked.bound.uncut r.played (matches_filled w.start)
      (state_there s c place state r.state_is).0

  pub run_playable : length w.start ≡ p.bits → ArePlayable state.qubits (length bits) body
  run_playable long =
      let many : length bits ≡ p.bits = ap length r.bits_are ∙ length-map w.start _ ∙ long in
      let here : ArePlayable p.qubits p.bits o.fragment = record { claims = length p.claims; valid = r.asked.bound.fragment } in
      subst (λ (l : List Stmt). ArePlayable state.qubits (length bits) l) (sym r.body_is)
      (subst (λ (m : ℕ). ArePlayable state.qubits m o.fragment) (sym many) (subst (λ (n : ℕ). ArePlayable n p.bits o.fragment) (sym on_qubits) here))

  pub run_ends : IsAliveAt (world_of (case_of s c) w) place → EndsAlive state.qubits body (start_of bits state.amps outcomes)
  run_ends alive =
      let here : EndsAlive p.qubits o.fragment (start_of (filled w.start) state.amps w.outcomes)
      = record {
        uncut = r.asked.bound.uncut;
        whole = ends.1.whole;
        alive = λ z. alive.nonzero (subst IsZeroVector (some_is _ alive.vector (sym ends.1.vector ∙ alive.there)) z);
      } in
      at_run EndsAlive p.qubits state.qubits o.fragment body (start_of (filled w.start) state.amps w.outcomes) (start_of bits state.amps outcomes) (sym on_qubits) (sym r.body_is) (sym start_is) here

  pub run_wide : HasWideStep state.qubits body (start_of bits state.amps outcomes) → IsWide (meaning_of p s o)
  run_wide h =
      let g = at_run HasWideStep state.qubits p.qubits body o.fragment (start_of bits state.amps outcomes) (start_of (filled w.start) state.amps w.outcomes) on_qubits r.body_is start_is h in
      inl (record { bits = filled w.start; vector = state.amps; outcomes = w.outcomes; start = ends.0; step = g.step; played = g.played; wide = g.wide })

  pub run_shown : (e : Reached) → IsEndOf state.qubits body (start_of bits state.amps outcomes) e
      → Shows (meaning_of p s o) (world_of (case_of s c) w) place (record { bits = bits; state = state; outcomes = outcomes; end_bits = e.bits; end = e.vector })
  run_shown e h =
      let g = at_run (λ n l t. IsEndOf n l t e) state.qubits p.qubits body o.fragment (start_of bits state.amps outcomes) (start_of bits state.amps outcomes) on_qubits r.body_is refl h in
      record {
        state_qubits = on_qubits;
        end_qubits = g.qubits;
        bits_are = r.bits_are;
        state_is = (state_there s c place state r.state_is).0;
        outcomes_are = r.outcomes_are;
        end_bits_are = g.bits;
        end_is = g.vector;
      }

pub state_wide : (p : Program) (s : Sets) (o : Obligation) (c : BoundCase) → Contains o.from c → HasWide (products_of s.exprs c.set) → IsWide (meaning_of p s o)
state_wide p s o c m w = wide_before p s o (wide_in s o.from c m w)
