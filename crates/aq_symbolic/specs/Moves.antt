-- What is played on worlds: what it makes of them, which gates they meet on the way, and what it counts.
use Rattle.std.specs.Prelude.{ℕ, ◌+◌, true, false, Option, List, [], ◌∷◌, ◌++◌, map, slice_get}
use Rattle.aq_prog.specs.Gates.{apply_gate}
use Rattle.aq_prog.specs.declared.gate.Gate.{Gate}
use Rattle.aq_prog.specs.declared.stmt.Guard.{Guard}
use Rattle.aq_prog.specs.declared.stmt.Stmt.{Stmt, fold-Stmt}
use Rattle.aq_obligations.specs.Counting.{guards_of}
use Rattle.aq_obligations.specs.Covering.{Meets, branch_meets, meets, meets_of}
use Rattle.aq_obligations.specs.Enough.{guards, outcomes, outcomes_step, statements, statements_step}
use Rattle.aq_obligations.specs.Worlds.{Spread, assumed_worlds, branch, in_worlds, measured_world, reset_world, spread, with_vectors}

pub record Move : Type 0 where
  pub spread : ℕ → Spread  -- what it makes of a world of so many qubits
  pub meets : ℕ → Meets  -- the gates that the world meets
  pub outcomes : ℕ  -- measurements and resets
  pub statements : ℕ  -- statements, inner ones included
  pub guards : List Guard  -- those of branches and assumptions

-- a statement
abbrev pub of_stmt : Stmt → Move
of_stmt s = record {
  spread = λ n. spread n s;
  meets = λ n. meets n s;
  outcomes = fold-Stmt ℕ outcomes_step s;
  statements = fold-Stmt ℕ statements_step s;
  guards = guards_of s;
}

-- statements in order
abbrev pub of_body : List Stmt → Move
of_body body = record {
  spread = λ n. in_worlds (map (spread n) body);
  meets = λ n. meets_of n body;
  outcomes = outcomes body;
  statements = statements body;
  guards = guards body;
}

-- one of two branches, by what is known of the guard's bit
abbrev pub of_branch : Guard → List Stmt → List Stmt → Move
of_branch guard when_true when_false = record {
  spread = λ n. branch guard (in_worlds (map (spread n) when_true)) (in_worlds (map (spread n) when_false));
  meets = λ n. branch_meets guard (meets_of n when_true) (meets_of n when_false);
  outcomes = outcomes when_true + outcomes when_false;
  statements = statements when_true + statements when_false;
  guards = guards when_true ++ guards when_false;
}

abbrev pub of_gate : Gate → Move
of_gate gate = record {
  spread = λ n w. with_vectors (apply_gate n gate) w ∷ [];
  meets = λ n w. record { gate = gate; world = w } ∷ [];
  outcomes = 0;
  statements = 1;
  guards = [];
}

abbrev pub of_measurement : ℕ → Option ℕ → Move
of_measurement qubit bit = record {
  spread = λ n w. measured_world n qubit bit false w ∷ measured_world n qubit bit true w ∷ [];
  meets = λ n w. [];
  outcomes = 1;
  statements = 1;
  guards = [];
}

abbrev pub of_reset : ℕ → Move
of_reset qubit = record {
  spread = λ n w. reset_world n qubit false w ∷ reset_world n qubit true w ∷ [];
  meets = λ n w. [];
  outcomes = 1;
  statements = 1;
  guards = [];
}

abbrev pub of_assumption : Guard → Move
of_assumption guard = record {
  spread = λ n w. assumed_worlds guard (slice_get w.bits guard.bit) w;
  meets = λ n w. [];
  outcomes = 0;
  statements = 1;
  guards = guard ∷ [];
}
