-- Gate calls: which gates they play, and in which order.
use Rattle.std.specs.Prelude.{ℕ, ◌+◌, ◌==◌, ℤ, pos, Bool, false, not, List, [], ◌∷◌, ◌++◌, map, length, Option, Some, None, unwrap_or, Ok, codes, if◌then◌else◌}
use Rattle.std.specs.List.{list_any, flat_map}
use Rattle.std.specs.Option.{is_some}
use Rattle.std.specs.Str.{bytes_eq}
use Rattle.aq_parse.specs.declared.tree.Word.{Word}
use Rattle.aq_parse.specs.declared.tree.Spot.{Spot}
use Rattle.aq_parse.specs.declared.tree.Angle.{Angle}
use Rattle.aq_prog.specs.Digits.{tabulate}
use Rattle.aq_prog.specs.Table.{rows_named, w, nil}
use Rattle.aq_prog.specs.declared.gate.Entry.{Entry}
use Rattle.aq_prog.specs.declared.gate.Gate.{Gate}
use Rattle.aq_prog.specs.declared.table.Rows.{Rows}
use Rattle.aq_base.specs.Checks.{all_checked, or_refuse, refuse_if, ◌>>=◌, ◌>>◌}
use Rattle.aq_elab.specs.Known.{Known, Checked}
use Rattle.aq_elab.specs.Spots.{span_of, member}
use Rattle.aq_elab.specs.Angles.{eighths_of}
use Rattle.aq_elab.specs.declared.fault.ElabFault.TheVariants as faults
use Rattle.aq_elab.specs.declared.recipe.Recipe.{Recipe}
use Rattle.aq_elab.specs.declared.recipe.Recipe.TheVariants as recipes
use Rattle.aq_elab.specs.declared.scope.Span.{Span}
use Rattle.aq_elab.specs.declared.scope.Role.TheVariants as roles

-- ---- the gate with a name

abbrev pub one_of_table : Option Rows → Option Recipe
one_of_table (Some rows) = Some (recipes.One rows)
one_of_table None = None

-- the gate for an angle of e * pi/4
unfoldable pub recipe_named : List ℕ → ℤ → Option Recipe
recipe_named name e =
    if bytes_eq name (codes "swap") then Some recipes.Swap
    else (if bytes_eq name (codes "cswap") then Some recipes.ControlledSwap else one_of_table (rows_named name e))

-- the gates of an angle
unfoldable pub angled_gates : List (List ℕ)
angled_gates = codes "p" ∷ codes "cp" ∷ codes "rx" ∷ codes "ry" ∷ codes "rz" ∷ []

abbrev pub wants_angle : List ℕ → Bool
wants_angle name = list_any (λ gate. bytes_eq name gate) angled_gates

-- the name has no gate; the rotations have one at the angle 0
abbrev pub is_unknown : List ℕ → Bool
is_unknown name = not (is_some (recipe_named name (pos 0)))

-- an angle stands there exactly where one is wanted
abbrev pub is_angle_missed : Word → Option Angle → Bool
is_angle_missed name None = wants_angle name.text
is_angle_missed name (Some a) = not (wants_angle name.text)

-- the gate at this angle, which is taken where it has its form and the gate is known at it
abbrev pub recipe_at : Word → Option Angle → Checked Recipe
recipe_at name None = or_refuse (faults.UnknownGate name.at) (recipe_named name.text (pos 0))
recipe_at name (Some a) = or_refuse (faults.AngleForm a.at) (eighths_of a) >>= λ e. or_refuse (faults.AngleForm a.at) (recipe_named name.text e)

abbrev pub spots_of : Recipe → ℕ
spots_of (recipes.One rows) = rows.controls + 1
spots_of recipes.Swap = 2
spots_of recipes.ControlledSwap = 3

-- what a call means, but for its spots
unfoldable pub recipe_of : Word → Option Angle → ℕ → Checked Recipe
recipe_of name angle count =
    refuse_if (is_unknown name.text) (faults.UnknownGate name.at)
    >> refuse_if (is_angle_missed name angle) (faults.AngleForm name.at)
    >> (recipe_at name angle >>= λ recipe. refuse_if (not (count == spots_of recipe)) (faults.OperandCount name.at) >> Ok recipe)

-- ---- its gates on qubits: the last one is the target, those before it are controls

abbrev pub all_but_last : List ℕ → List ℕ
all_but_last [] = []
all_but_last (q ∷ []) = []
all_but_last (q ∷ r ∷ rs) = q ∷ all_but_last (r ∷ rs)

abbrev pub last : List ℕ → ℕ
last [] = 0
last (q ∷ []) = q
last (q ∷ r ∷ rs) = last (r ∷ rs)

abbrev pub gate_on : List (List Entry) → List ℕ → Gate
gate_on rows qubits = record { controls = all_but_last qubits; target = last qubits; matrix = record { rows = rows } }

-- the rows of x
abbrev pub flip_rows : List (List Entry)
flip_rows = (nil ∷ w 0 ∷ []) ∷ (w 0 ∷ nil ∷ []) ∷ []

abbrev pub flip_on : List ℕ → Gate
flip_on = gate_on flip_rows

abbrev pub swap_on : List ℕ → List Gate
swap_on (a ∷ b ∷ []) = flip_on (a ∷ b ∷ []) ∷ flip_on (b ∷ a ∷ []) ∷ flip_on (a ∷ b ∷ []) ∷ []
swap_on other = []

abbrev pub cswap_on : List ℕ → List Gate
cswap_on (c ∷ a ∷ b ∷ []) = flip_on (b ∷ a ∷ []) ∷ flip_on (c ∷ a ∷ b ∷ []) ∷ flip_on (b ∷ a ∷ []) ∷ []
cswap_on other = []

abbrev pub gates_on : Recipe → List ℕ → List Gate
gates_on (recipes.One rows) qubits = gate_on rows.rows qubits ∷ []
gates_on recipes.Swap qubits = swap_on qubits
gates_on recipes.ControlledSwap qubits = cswap_on qubits

-- ---- broadcasting

-- how often the call is played: the size of its first register, and once where there is none
abbrev pub times_of : List Span → ℕ
times_of [] = 1
times_of (s ∷ rest) = unwrap_or s.size (times_of rest)

-- a register has another size
abbrev pub differs : ℕ → Option ℕ → Bool
differs n None = false
differs n (Some m) = not (m == n)

-- all registers have the size n; the fault is at the first one that hasn't
abbrev pub same_sizes : ℕ → List Spot → List Span → Checked (Unit {0})
same_sizes n (spot ∷ spots) (span ∷ spans) = refuse_if (differs n span.size) (faults.SizeDiffers spot.name.at) >> same_sizes n spots spans
same_sizes n spots spans = Ok tt

-- the qubits of one instance, spot by spot
abbrev pub instance : List Span → ℕ → List ℕ
instance spans i = map (λ span. member span i) spans

-- the qubits of each instance, in the order of the index
abbrev pub instances : List Span → List (List ℕ)
instances spans = tabulate (times_of spans) (instance spans)

-- no qubit stands twice; the fault is at the first spot whose qubit is one of those before it
abbrev pub no_repeat : List ℕ → List Spot → List ℕ → Checked (Unit {0})
no_repeat before (spot ∷ spots) (q ∷ qs) = refuse_if (list_any (λ p. p == q) before) (faults.RepeatedQubit spot.name.at) >> no_repeat (before ++ q ∷ []) spots qs
no_repeat before spots qs = Ok tt

abbrev pub no_repeats : List Spot → List (List ℕ) → Checked (Unit {0})
no_repeats spots [] = Ok tt
no_repeats spots (qs ∷ rest) = no_repeat [] spots qs >> no_repeats spots rest

-- the gates of the instances: each instance whole before the next
abbrev pub played : Recipe → List Spot → List (List ℕ) → Checked (List Gate)
played recipe spots rows = no_repeats spots rows >> Ok (flat_map (gates_on recipe) rows)

-- the gates of a call
unfoldable pub gates_of_call : Known → Word → Option Angle → List Spot → Checked (List Gate)
gates_of_call known name angle spots =
    recipe_of name angle (length spots) >>= λ recipe.
    all_checked (span_of known roles.Qubit) spots >>= λ spans.
    same_sizes (times_of spans) spots spans
    >> played recipe spots (instances spans)
