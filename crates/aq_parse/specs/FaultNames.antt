-- The name and the place of a fault of a tree.
use Rattle.std.specs.Prelude.{ℕ, List, Option, Some, None, codes}
use Rattle.aq_lex.specs.declared.place.Place.{Place}
use Rattle.aq_parse.specs.declared.fault.ParseFault.{ParseFault}
use Rattle.aq_parse.specs.declared.fault.ParseFault.TheVariants as told

-- its name
unfoldable pub fault_name : ParseFault → List ℕ
fault_name (told.Unexpected at token) = codes "Unexpected"
fault_name (told.NotTaken at word) = codes "NotTaken"
fault_name (told.TooDeep at) = codes "TooDeep"
fault_name told.Memory = codes "Memory"

-- its place; want of memory has none
abbrev pub fault_place : ParseFault → Option Place
fault_place (told.Unexpected at token) = Some at
fault_place (told.NotTaken at word) = Some at
fault_place (told.TooDeep at) = Some at
fault_place told.Memory = None
