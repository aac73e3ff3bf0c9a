-- The name and the place of a fault of a set file.
use Rattle.std.specs.Prelude.{ℕ, List, Option, Some, None, codes}
use Rattle.aq_lex.specs.declared.place.Place.{Place}
use Rattle.aq_set_read.specs.declared.set_fault.SetFault.{SetFault}
use Rattle.aq_set_read.specs.declared.set_fault.SetFault.TheVariants as told

-- its name
unfoldable pub fault_name : SetFault → List ℕ
fault_name (told.NotUtf8 at) = codes "NotUtf8"
fault_name (told.BadByte at byte) = codes "BadByte"
fault_name (told.OpenComment at) = codes "OpenComment"
fault_name (told.LongNumber at) = codes "LongNumber"
fault_name (told.BadKet at) = codes "BadKet"
fault_name (told.Unexpected at token) = codes "Unexpected"
fault_name (told.TooDeep at) = codes "TooDeep"
fault_name (told.TooManyNames at) = codes "TooManyNames"
fault_name (told.TwiceNamed at) = codes "TwiceNamed"
fault_name (told.UnknownSet at) = codes "UnknownSet"
fault_name (told.QubitCount at) = codes "QubitCount"
fault_name (told.AmpTooWide at) = codes "AmpTooWide"
fault_name (told.KetLength at) = codes "KetLength"
fault_name (told.RepeatedKet at) = codes "RepeatedKet"
fault_name (told.TooManyNodes at) = codes "TooManyNodes"
fault_name told.Memory = codes "Memory"

-- its place; want of memory has none
abbrev pub fault_place : SetFault → Option Place
fault_place (told.NotUtf8 at) = Some at
fault_place (told.BadByte at byte) = Some at
fault_place (told.OpenComment at) = Some at
fault_place (told.LongNumber at) = Some at
fault_place (told.BadKet at) = Some at
fault_place (told.Unexpected at token) = Some at
fault_place (told.TooDeep at) = Some at
fault_place (told.TooManyNames at) = Some at
fault_place (told.TwiceNamed at) = Some at
fault_place (told.UnknownSet at) = Some at
fault_place (told.QubitCount at) = Some at
fault_place (told.AmpTooWide at) = Some at
fault_place (told.KetLength at) = Some at
fault_place (told.RepeatedKet at) = Some at
fault_place (told.TooManyNodes at) = Some at
fault_place told.Memory = None
