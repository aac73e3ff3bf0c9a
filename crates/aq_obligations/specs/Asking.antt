-- What an obligation of a program means, by the sets of its file.
use Rattle.std.specs.Prelude.{List, ◌++◌, map}
use Rattle.std.specs.List.{flat_map}
use Rattle.aq_ring.specs.Fractions.{Amplitude}
use Rattle.aq_prog.specs.declared.program.Program.{Program}
use Rattle.aq_sets.specs.Vectors.{vectors_of, products_of}
use Rattle.aq_sets.specs.declared.sets.Sets.{Sets}
use Rattle.aq_obligations.specs.Claims.{ClaimCase}
use Rattle.aq_obligations.specs.Obligations.{Meaning}
use Rattle.aq_obligations.specs.declared.bound.BoundCase.{BoundCase}
use Rattle.aq_obligations.specs.declared.bound.Obligation.{Obligation}

-- the case, with the vectors that its expression lists
abbrev pub case_of : Sets → BoundCase → ClaimCase
case_of s c = record { vectors = vectors_of s.exprs c.set; when = c.when }

abbrev pub cases_of : Sets → List BoundCase → List ClaimCase
cases_of s cases = map (case_of s) cases

-- the products that the tensors and powers of the cases take
abbrev pub products_in : Sets → List BoundCase → List (Amplitude × Amplitude)
products_in s cases = flat_map (λ c. products_of s.exprs c.set) cases

-- what an obligation of the program means: its cases by the vectors that they list
abbrev pub meaning_of : Program → Sets → Obligation → Meaning
meaning_of p s o = record {
  qubits = p.qubits;
  bits = p.bits;
  start = o.start;
  assumed = cases_of s o.from;
  given = o.given;
  fragment = o.fragment;
  goal = cases_of s o.goal.cases;
  products = products_in s o.from ++ products_in s o.goal.cases;
}
