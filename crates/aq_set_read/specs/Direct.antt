-- What the items of a set file mean, told directly: an expression stands for vectors in order, and the name of a set for those
-- of its expression. Nothing is said here of limits, faults, or positions in a list of expressions.
use Rattle.std.specs.Prelude.{ℕ, ◌+◌, List, [], ◌∷◌, ◌++◌, map, replicate, Option, Some, None}
use Rattle.std.specs.List.{fold}
use Rattle.std.specs.Map.{lookup}
use Rattle.std.specs.Option.{unwrap_or}
use Rattle.std.specs.Str.{bytes_eq}
use Rattle.aq_set_parse.specs.declared.tree.SetPower.{SetPower}
use Rattle.aq_set_parse.specs.declared.tree.SetExpr.{SetExpr}
use Rattle.aq_set_parse.specs.declared.tree.SetExpr.TheOpen.{SetExpr-F, SetFactor-F, SetPart-F}
use Rattle.aq_set_parse.specs.declared.tree.SetExpr.TheFolds.{fold-SetExpr}
use Rattle.aq_set_parse.specs.declared.tree.SetCase.{SetCase}
use Rattle.aq_set_parse.specs.declared.tree.SetItem.{SetItem}
use Rattle.aq_set_parse.specs.declared.tree.SetItem.TheVariants as items
use Rattle.aq_sets.specs.Vectors.{Vector, kets_vector, basis, tensors}
use Rattle.aq_sets.specs.declared.sets.Cond.{Cond}
use Rattle.aq_set_read.specs.Meaning.{bracket_qubits, term_of, cond_of}

-- Vectors in order, on so many qubits.
pub record Denoted : Type 0 where
  pub qubits : ℕ
  pub vectors : List Vector

-- what an expression means: None where it names a set that isn't known, or joins no operand
abbrev pub Meant : Type 0
Meant = Option Denoted

abbrev pub denoted : ℕ → List Vector → Meant
denoted qubits vectors = Some (record { qubits = qubits; vectors = vectors })

-- ---- expressions

-- each vector of the left times each of the right, the left one outermost
abbrev pub product_of : Meant → Meant → Meant
product_of (Some l) (Some r) = denoted (l.qubits + r.qubits) (tensors l.vectors r.vectors)
product_of (Some l) None = None
product_of None r = None

-- the vectors of the left, and then those of the right
abbrev pub union_of : Meant → Meant → Meant
union_of (Some l) (Some r) = denoted l.qubits (l.vectors ++ r.vectors)
union_of (Some l) None = None
union_of None r = None

-- operands, joined from the left to the right
abbrev pub in_turn : (Meant → Meant → Meant) → List Meant → Meant
in_turn join [] = None
in_turn join (x ∷ xs) = fold join x xs

-- a power is the product of so many copies
abbrev pub power_of : Option SetPower → Meant → Meant
power_of None x = x
power_of (Some p) x = in_turn product_of (replicate p.number x)

-- names of sets, with what they stand for
abbrev pub Known : Type 0
Known = List (List ℕ × Meant)

-- a bracket is the one vector with each term's amplitude at its index; a name is the set before it that has the name
abbrev pub expr_meant : Known → SetExpr-F Meant Meant Meant → Meant
expr_meant known (SetExpr-F.Bracket at terms) = denoted (bracket_qubits terms) (kets_vector (bracket_qubits terms) (map term_of terms) ∷ [])
expr_meant known (SetExpr-F.All at number) = denoted number (basis number)
expr_meant known (SetExpr-F.Name name) = unwrap_or (lookup (bytes_eq name.text) known) None
expr_meant known (SetExpr-F.Tensor factors) = in_turn product_of factors
expr_meant known (SetExpr-F.Union parts) = in_turn union_of parts

abbrev pub factor_meant : SetFactor-F Meant Meant Meant → Meant
factor_meant f = power_of f.power f.expr

abbrev pub part_meant : SetPart-F Meant Meant Meant → Meant
part_meant p = p.expr

-- what an expression means, where these sets are known
abbrev pub meant : Known → SetExpr → Meant
meant known = fold-SetExpr Meant Meant Meant (expr_meant known) factor_meant part_meant

-- ---- items

-- A case of a claim: its conditions, and what its expression means.
pub record MeantCase : Type 0 where
  pub when : List Cond
  pub set : Meant

abbrev pub case_meant : Known → SetCase → MeantCase
case_meant known c = record { when = map cond_of c.when; set = meant known c.expr }

-- what is known behind an item: a set is known to the items behind it
abbrev pub known_behind : Known → SetItem → Known
known_behind known (items.Set name e) = known ++ (name.text, meant known e) ∷ []
known_behind known (items.Claim name cases) = known

-- the sets of a file's items, in order
abbrev pub sets_meant : List SetItem → Known
sets_meant xs = fold known_behind [] xs

-- names of claims, with what their cases mean
abbrev pub Said : Type 0
Said = List (List ℕ × List MeantCase)

-- the claims of items, in order, where these sets are known before them
abbrev pub claims_behind : Known → List SetItem → Said
claims_behind known [] = []
claims_behind known (items.Set name e ∷ xs) = claims_behind (known_behind known (items.Set name e)) xs
claims_behind known (items.Claim name cases ∷ xs) = (name.text, map (case_meant known) cases) ∷ claims_behind known xs

abbrev pub claims_meant : List SetItem → Said
claims_meant xs = claims_behind [] xs
