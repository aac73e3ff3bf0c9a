-- Runs of a program on a vector of n qubits and a list of bits.
--
-- A run is named by its outcomes, which stand for the measurements to come, and by how many turns its loops may make in
-- all. So every run of a program with measurements and loops is one value, and a statement about all outcomes and all
-- numbers of turns is one about all runs.
use Rattle.std.specs.Prelude.{ℕ, zero, suc, Bool, false, not, List, [], ◌∷◌, ◌++◌, map, Option, Some, None, slice_get, slice_set, if◌then◌else◌}
use Rattle.std.specs.Option.{option_map_or}
use Rattle.aq_ring.specs.Fractions.{Amplitude}
use Rattle.aq_prog.specs.Gates.{apply_gate, project, flip_gate}
use Rattle.aq_prog.specs.declared.gate.Gate.{Gate}
use Rattle.aq_prog.specs.declared.stmt.Guard.{Guard}
use Rattle.aq_prog.specs.declared.stmt.Stmt.{Stmt, fold-Stmt}
use Rattle.aq_prog.specs.declared.stmt.Stmt.TheOpen.{Stmt-F}

-- where a run stands: the bits, the vector, the outcomes that are left, and the turns that are left
pub record State : Type 0 where
  pub bits : List Bool
  pub vector : List Amplitude
  pub outcomes : List Bool
  pub turns : ℕ

-- how a run came out: at its end, at a false assumption, or for want of an outcome or a turn
pub data How : Type 0 where
  Ended : How
  Blocked : How
  NoOutcome : How
  NoTurn : How

-- a claim that a run passed, with the bits and the vector there
pub record Passed : Type 0 where
  pub claim : ℕ
  pub bits : List Bool
  pub vector : List Amplitude

-- a gate that a run played, with the vector before it
pub record Played : Type 0 where
  pub gate : Gate
  pub before : List Amplitude

-- a whole run
pub record Run : Type 0 where
  pub how : How
  pub last : State
  pub passed : List Passed
  pub played : List Played

-- what a statement means: the run from each state
abbrev pub Meaning : Type 0
Meaning = State → Run

abbrev pub stopped : How → State → Run
stopped how s = record { how = how; last = s; passed = []; played = [] }

abbrev pub ended : State → Run
ended s = stopped How.Ended s

-- the second run behind the first
abbrev pub joined : Run → Run → Run
joined first second = record { how = second.how; last = second.last; passed = first.passed ++ second.passed; played = first.played ++ second.played }

abbrev pub going_on : How → Run → Run → Run
going_on How.Ended first second = joined first second
going_on How.Blocked first second = first
going_on How.NoOutcome first second = first
going_on How.NoTurn first second = first

-- a run goes on where it has ended
abbrev pub then_go : Run → Meaning → Run
then_go first next = going_on first.how first (next first.last)

-- statements one after the other
abbrev pub in_order : List Meaning → Meaning
in_order [] s = ended s
in_order (m ∷ rest) s = then_go (m s) (in_order rest)

-- the bit has the guard's value
abbrev pub has_bit : Guard → List Bool → Bool
has_bit guard bits = option_map_or (λ b. if guard.value then b else not b) (slice_get bits guard.bit) false

abbrev pub with_bit : Option ℕ → Bool → List Bool → List Bool
with_bit None b bits = bits
with_bit (Some bit) b bits = slice_set bits bit b

abbrev pub flipped : ℕ → ℕ → Bool → List Amplitude → List Amplitude
flipped n qubit outcome v = if outcome then apply_gate n (flip_gate qubit) v else v

-- a measurement by the outcomes that are left
abbrev pub measured : ℕ → ℕ → Option ℕ → List Bool → Meaning
measured n qubit bit [] s = stopped How.NoOutcome s
measured n qubit bit (o ∷ rest) s =
    ended (record { bits = with_bit bit o s.bits; vector = project n qubit o s.vector; outcomes = rest; turns = s.turns })

abbrev pub was_reset : ℕ → ℕ → List Bool → Meaning
was_reset n qubit [] s = stopped How.NoOutcome s
was_reset n qubit (o ∷ rest) s =
    ended (record { bits = s.bits; vector = flipped n qubit o (project n qubit o s.vector); outcomes = rest; turns = s.turns })

abbrev pub played_gate : ℕ → Gate → Meaning
played_gate n gate s = record {
  how = How.Ended;
  last = record { bits = s.bits; vector = apply_gate n gate s.vector; outcomes = s.outcomes; turns = s.turns };
  passed = [];
  played = record { gate = gate; before = s.vector } ∷ [];
}

-- a run that passes a claim first
abbrev pub passing : ℕ → State → Run → Run
passing claim s r = record { how = r.how; last = r.last; passed = record { claim = claim; bits = s.bits; vector = s.vector } ∷ r.passed; played = r.played }

-- one turn of a loop from the number of turns that are left: spent, and then the loop again
abbrev pub one_turn : ℕ → Meaning → Meaning → Meaning
one_turn zero body again s = stopped How.NoTurn s
one_turn (suc turns) body again s =
    then_go (body (record { bits = s.bits; vector = s.vector; outcomes = s.outcomes; turns = turns })) again

-- a loop of at most this many turns: its claim is passed at each evaluation of its guard
abbrev pub looped : ℕ → Guard → ℕ → Meaning → Meaning
looped zero guard claim body s = passing claim s (if has_bit guard s.bits then stopped How.NoTurn s else ended s)
looped (suc most) guard claim body s =
    passing claim s (if has_bit guard s.bits then one_turn s.turns body (looped most guard claim body) s else ended s)

-- one level of a statement, in which the statements inside already stand as their meanings
abbrev pub meaning_step : ℕ → Stmt-F Meaning → Meaning
meaning_step n (Stmt-F.Gate gate) s = played_gate n gate s
meaning_step n (Stmt-F.Measure qubit bit) s = measured n qubit bit s.outcomes s
meaning_step n (Stmt-F.Reset qubit) s = was_reset n qubit s.outcomes s
meaning_step n (Stmt-F.If guard when_true when_false) s =
    if has_bit guard s.bits then in_order when_true s else in_order when_false s
meaning_step n (Stmt-F.While guard claim body line) s = looped s.turns guard claim (in_order body) s
meaning_step n (Stmt-F.Assert claim line) s = passing claim s (ended s)
meaning_step n (Stmt-F.Assume guard) s = if has_bit guard s.bits then ended s else stopped How.Blocked s

abbrev pub meaning : ℕ → Stmt → Meaning
meaning n = fold-Stmt Meaning (meaning_step n)

-- the run of statements on n qubits
abbrev pub run : ℕ → List Stmt → Meaning
run n body = in_order (map (meaning n) body)

-- gates played in this order, each with the vector before it
abbrev pub played_gates : ℕ → List Gate → List Amplitude → List Played
played_gates n [] v = []
played_gates n (gate ∷ rest) v = record { gate = gate; before = v } ∷ played_gates n rest (apply_gate n gate v)
