-- The limits of programs, set files and judging, under the names that definitions use.
use Rattle.std.specs.Prelude.{ℕ}
use Rattle.aq_base.specs.declared.limits.TheConstants.{MOST_QUBITS, MOST_PLAIN_QUBITS, MOST_BITS, MOST_NESTED, MOST_STATEMENTS, MOST_ANGLE_FACTOR, MOST_NAMES, MOST_NODES, MOST_PROGRAM_BYTES, MOST_SETS_BYTES, MOST_STEPS, MOST_STEPS_ASKED, MOST_OBLIGATIONS, MOST_FRAGMENT_STATEMENTS}

-- qubits of a program, and of an expression of a set file
abbrev pub most_qubits : ℕ
most_qubits = MOST_QUBITS

-- qubits of a vector that is a plain list of amplitudes
abbrev pub most_plain_qubits : ℕ
most_plain_qubits = MOST_PLAIN_QUBITS

-- bits of a program
abbrev pub most_bits : ℕ
most_bits = MOST_BITS

-- bodies, or parentheses, inside one another
abbrev pub most_nested : ℕ
most_nested = MOST_NESTED

-- statements of a program, inner ones included
abbrev pub most_statements : ℕ
most_statements = MOST_STATEMENTS

-- names of sets and claims
abbrev pub most_names : ℕ
most_names = MOST_NAMES

-- nodes of expressions, terms included
abbrev pub most_nodes : ℕ
most_nodes = MOST_NODES

-- bytes of a program's text
abbrev pub most_program_bytes : ℕ
most_program_bytes = MOST_PROGRAM_BYTES

-- bytes of a set file
abbrev pub most_sets_bytes : ℕ
most_sets_bytes = MOST_SETS_BYTES

-- steps of an obligation where nothing else is said
abbrev pub most_steps : ℕ
most_steps = MOST_STEPS

-- steps of an obligation that may be asked for
abbrev pub most_steps_asked : ℕ
most_steps_asked = MOST_STEPS_ASKED

-- obligations of a program
abbrev pub most_obligations : ℕ
most_obligations = MOST_OBLIGATIONS

-- statements of the fragments of all obligations together, inner ones included
abbrev pub most_fragment_statements : ℕ
most_fragment_statements = MOST_FRAGMENT_STATEMENTS
