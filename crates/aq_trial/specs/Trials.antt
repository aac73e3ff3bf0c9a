-- The two texts of a trial.
use Rattle.std.specs.Prelude.{ℕ, zero, suc, ◌+◌, ◌-◌, ◌*◌, ◌/◌, ◌%◌, ◌^◌, ◌==◌, List, [], ◌∷◌, ◌++◌, drop, replicate, codes, min, max, nat_lt, if◌then◌else◌}
use Rattle.std.specs.Fmt.{decimal}
use Rattle.aq_trial.specs.declared.draws.Step.{Step}
use Rattle.aq_trial.specs.declared.gates.Gate.{Gate}
use Rattle.aq_trial.specs.declared.gates.Gate.TheVariants as gate

-- ---- draws

-- the number behind x
abbrev pub next : ℕ → ℕ
next x = (1103515245 * x + 12345) % 2 ^ 31

-- what x says below m
abbrev pub drawn : ℕ → ℕ → ℕ
drawn m x = x / 65536 % m

-- number r, from 0, of the numbers other than a
abbrev pub other : ℕ → ℕ → ℕ
other a r = if nat_lt r a then r else r + 1

-- number r, from 0, of the numbers other than a and b
abbrev pub third : ℕ → ℕ → ℕ → ℕ
third a b r = other (max a b) (other (min a b) r)

-- ---- gates

abbrev pub on_three : ℕ → ℕ → ℕ → ℕ → Step
on_three qubits a b x = record { gate = gate.Ccx a b (third a b (drawn (qubits - 2) x)); at = x }

abbrev pub on_two : ℕ → ℕ → ℕ → ℕ → Step
on_two qubits kind a x =
    let b = other a (drawn (qubits - 1) x) in
    if kind == 3 then record { gate = gate.Cx a b; at = x } else on_three qubits a b (next x)

abbrev pub on_one : ℕ → ℕ → ℕ → Step
on_one qubits kind x =
    let a = drawn qubits x in
    if kind == 0 then record { gate = gate.H a; at = x }
    else (if kind == 1 then record { gate = gate.T a; at = x }
    else (if kind == 2 then record { gate = gate.X a; at = x } else on_two qubits kind a (next x)))

-- the gate that the numbers behind x say
abbrev pub step_from : ℕ → ℕ → Step
step_from qubits x = on_one qubits (drawn 5 (next x)) (next (next x))

-- so many gates, one after the other
unfoldable pub gates_from : ℕ → ℕ → ℕ → List Gate
gates_from qubits zero x = []
gates_from qubits (suc n) x = (step_from qubits x).gate ∷ gates_from qubits n (step_from qubits x).at

-- ---- texts

abbrev pub line : Gate → List ℕ
line (gate.H a) = codes "h q[" ++ (decimal a ++ codes "];\n")
line (gate.T a) = codes "t q[" ++ (decimal a ++ codes "];\n")
line (gate.X a) = codes "x q[" ++ (decimal a ++ codes "];\n")
line (gate.Cx a b) = codes "cx q[" ++ (decimal a ++ (codes "], q[" ++ (decimal b ++ codes "];\n")))
line (gate.Ccx a b c) = codes "ccx q[" ++ (decimal a ++ (codes "], q[" ++ (decimal b ++ (codes "], q[" ++ (decimal c ++ codes "];\n")))))

-- the line that undoes a gate; each but `t` undoes itself
abbrev pub undoing : Gate → List ℕ
undoing (gate.T a) = codes "tdg q[" ++ (decimal a ++ codes "];\n")
undoing g = line g

-- the lines of gates
abbrev pub lines : List Gate → List ℕ
lines [] = []
lines (g ∷ gates) = line g ++ lines gates

-- the lines that undo gates, the last one's first
abbrev pub undone : List Gate → List ℕ
undone [] = []
undone (g ∷ gates) = undone gates ++ undoing g

abbrev pub trial_qubits : ℕ → ℕ
trial_qubits n = n + 3

-- the gates of trial n, which are drawn from n on
abbrev pub trial_gates : ℕ → List Gate
trial_gates n = gates_from (trial_qubits n) (20 * trial_qubits n) n

-- the gates, and then what undoes them, but for the first
abbrev pub program_text : ℕ → List Gate → List ℕ
program_text qubits gates = codes "OPENQASM 3.0;\nqubit[" ++ (decimal qubits ++ (codes "] q;\n" ++ (lines gates ++ undone (drop 1 gates))))

-- the digits of all qubits but two
abbrev pub zeros : ℕ → List ℕ
zeros qubits = replicate (qubits - 2) 48

-- both claims are all states of the first two qubits, the others 0
abbrev pub sets_text : ℕ → List ℕ
sets_text qubits = codes "claim pre = all 2 * [|" ++ (zeros qubits ++ (codes ">];\nclaim post = all 2 * [|" ++ (zeros qubits ++ codes ">];\n")))
