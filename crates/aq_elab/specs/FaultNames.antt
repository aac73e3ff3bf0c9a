-- The name and the place of a fault of a program.
use Rattle.std.specs.Prelude.{ℕ, List, Option, Some, None, codes}
use Rattle.aq_lex.specs.declared.place.Place.{Place}
use Rattle.aq_elab.specs.declared.fault.ElabFault.{ElabFault}
use Rattle.aq_elab.specs.declared.fault.ElabFault.TheVariants as told

-- its name
unfoldable pub fault_name : ElabFault → List ℕ
fault_name (told.UnknownName at) = codes "UnknownName"
fault_name (told.TwiceDeclared at) = codes "TwiceDeclared"
fault_name (told.EmptyRegister at) = codes "EmptyRegister"
fault_name (told.IndexOut at) = codes "IndexOut"
fault_name (told.SizeDiffers at) = codes "SizeDiffers"
fault_name (told.RepeatedQubit at) = codes "RepeatedQubit"
fault_name (told.UnknownGate at) = codes "UnknownGate"
fault_name (told.OperandCount at) = codes "OperandCount"
fault_name (told.AngleForm at) = codes "AngleForm"
fault_name (told.NoQubits at) = codes "NoQubits"
fault_name (told.TooManyQubits at) = codes "TooManyQubits"
fault_name (told.TooManyBits at) = codes "TooManyBits"
fault_name (told.TooManyStatements at) = codes "TooManyStatements"
fault_name (told.MissingInvariant at) = codes "MissingInvariant"
fault_name (told.StrayAnnotation at) = codes "StrayAnnotation"
fault_name (told.DeclaredInBlock at) = codes "DeclaredInBlock"
fault_name told.Memory = codes "Memory"

-- its place; want of memory has none
abbrev pub fault_place : ElabFault → Option Place
fault_place (told.UnknownName at) = Some at
fault_place (told.TwiceDeclared at) = Some at
fault_place (told.EmptyRegister at) = Some at
fault_place (told.IndexOut at) = Some at
fault_place (told.SizeDiffers at) = Some at
fault_place (told.RepeatedQubit at) = Some at
fault_place (told.UnknownGate at) = Some at
fault_place (told.OperandCount at) = Some at
fault_place (told.AngleForm at) = Some at
fault_place (told.NoQubits at) = Some at
fault_place (told.TooManyQubits at) = Some at
fault_place (told.TooManyBits at) = Some at
fault_place (told.TooManyStatements at) = Some at
fault_place (told.MissingInvariant at) = Some at
fault_place (told.StrayAnnotation at) = Some at
fault_place (told.DeclaredInBlock at) = Some at
fault_place told.Memory = None
