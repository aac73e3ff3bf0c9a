-- Why a replay is refused, part by part.
use Rattle.std.proofs.Common.{◌≡◌, ℕ, ◌≤◌, Bool, List, Option, Err, inl, inr, subst, arith}
use Rattle.aq_ring.specs.Fractions.{Amplitude}
use Rattle.aq_world.specs.Held.{Held}
use Rattle.aq_world.specs.Shelves.{ShelfMeaning}
use Rattle.aq_prog.specs.declared.program.Program.{Program}
use Rattle.aq_sets.specs.declared.sets.Sets.{Sets}
use Rattle.aq_plain.specs.Replaying.{Replays}
use Rattle.aq_plain.specs.declared.replay_stop.ReplayStop.{ReplayStop}
use Rattle.aq_report.specs.declared.refusal.Refusal.{Refusal}
use Rattle.aq_top.specs.Reads.{ReadFailedOf, ReadsProgram, ReadsSets, SetsCause}
use Rattle.aq_words.specs.Commands.{ReplayWords}
use Rattle.aq_top.specs.Replay.{ReplayCause, ReadsStart, begins, HasStateFault, IsStateOf, OutcomesFaultOf, TellsOfReplay, TellsOfSet, outcomes_fault_name, state_fault_name, stop_name}
use Rattle.aq_top.specs.declared.outcomes.OutcomesFault.{OutcomesFault}
use Rattle.aq_top.specs.declared.state.StateFault.{StateFault}
use Rattle.aq_top.proofs.ReadsLemmas.{SetsCause-later}

-- a read that failed in the later part of a run failed in the run
pub failed_later : {S : Type 0} (shelf : ShelfMeaning S) (a b c : S) (name : List ℕ) → shelf.faults a ≤ shelf.faults b → ReadFailedOf shelf b c name → ReadFailedOf shelf a c name
failed_later shelf a b c name h f = (omega (arith, h, f.0), f.1)

pub no_sets : {S : Type 0} (shelf : ShelfMeaning S) (a b c : S) (told : Option Held) (w : ReplayWords) (p : Program) (r : Refusal) → ReadsProgram told w.program p
    → shelf.faults a ≤ shelf.faults b → SetsCause told (ReadFailedOf shelf b c) w.sets r → ReplayCause told (ReadFailedOf shelf a c) w r
no_sets shelf a b c told w p r read h cause =
    inr (inl (record { program = p; read = read; cause = SetsCause-later told (ReadFailedOf shelf b c) (ReadFailedOf shelf a c) w.sets r (failed_later shelf a b c w.sets h) cause }))

pub no_state : (told : Option Held) (RF : List ℕ → Type 0) (w : ReplayWords) (p : Program) (s : Sets) (f : StateFault) (set : List ℕ) (name : Option (List ℕ)) (r : Refusal)
    → ReadsProgram told w.program p → ReadsSets told w.sets s → HasStateFault p s w.state f → set ≡ w.state → name ≡ state_fault_name f → TellsOfSet set name r
    → ReplayCause told RF w r
no_state told RF w p s f set name r read sets cause same e tells =
    inr (inr (inl (record {
      program = p;
      read = read;
      sets = s;
      sets_read = sets;
      fault = f;
      cause = cause;
      tells = subst (λ (a : List ℕ). TellsOfSet a (state_fault_name f) r) same (subst (λ (n : Option (List ℕ)). TellsOfSet set n r) e tells);
    })))

pub no_outcomes : (told : Option Held) (RF : List ℕ → Type 0) (w : ReplayWords) (p : Program) (s : Sets) (v : List Amplitude) (f : OutcomesFault) (name : Option (List ℕ)) (r : Refusal)
    → ReadsProgram told w.program p → ReadsSets told w.sets s → IsStateOf p s w.state v → OutcomesFaultOf w.outcomes f → name ≡ outcomes_fault_name f → TellsOfReplay name r
    → ReplayCause told RF w r
no_outcomes told RF w p s v f name r read sets state cause e tells =
    inr (inr (inr (inl (record {
      program = p;
      read = read;
      sets = s;
      sets_read = sets;
      vector = v;
      state = state;
      fault = f;
      cause = cause;
      tells = subst (λ (n : Option (List ℕ)). TellsOfReplay n r) e tells;
    }))))

pub halted : (told : Option Held) (RF : List ℕ → Type 0) (w : ReplayWords) (p : Program) (v : List Amplitude) (outcomes : List Bool) (f : ReplayStop) (name : Option (List ℕ)) (r : Refusal)
    → ReadsStart told w p v outcomes → Replays p.qubits p.body (begins p v outcomes) (Err f) → name ≡ stop_name f → TellsOfReplay name r → ReplayCause told RF w r
halted told RF w p v outcomes f name r read cause e tells =
    inr (inr (inr (inr (record {
      program = p;
      vector = v;
      outcomes = outcomes;
      read = read;
      fault = f;
      cause = cause;
      tells = subst (λ (n : Option (List ℕ)). TellsOfReplay n r) e tells;
    }))))
