-- What is known of a case once its worlds are played.
use Rattle.std.specs.Prelude.{List, Contains}
use Rattle.std.specs.List.{flat_map}
use Rattle.aq_ring.specs.Fractions.{Amplitude}
use Rattle.aq_prog.specs.Gates.{FitsGate}
use Rattle.aq_prog.specs.declared.program.Program.{Program}
use Rattle.aq_sets.specs.declared.sets.Sets.{Sets}
use Rattle.aq_obligations.specs.Asking.{case_of, meaning_of}
use Rattle.aq_obligations.specs.Covering.{Met, meets_of}
use Rattle.aq_obligations.specs.declared.bound.BoundCase.{BoundCase}
use Rattle.aq_obligations.specs.declared.bound.Obligation.{Obligation}
use Rattle.aq_correct.specs.WorldLaws.{start_of}

-- each gate that the worlds of the case meet fits on each of their vectors there
abbrev pub CaseFits : Program → Sets → Obligation → BoundCase → Type 0
CaseFits p s o c =
    (e : Met) (v : List Amplitude) → Contains (flat_map (meets_of p.qubits o.fragment) (start_of (meaning_of p s o) (case_of s c))) e → Contains e.world.vectors v → FitsGate p.qubits e.gate v
