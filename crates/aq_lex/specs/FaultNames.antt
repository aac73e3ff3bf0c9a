-- The name and the place of a fault of tokens.
use Rattle.std.specs.Prelude.{ℕ, List, Option, Some, None, codes}
use Rattle.aq_lex.specs.declared.place.Place.{Place}
use Rattle.aq_lex.specs.declared.fault.LexFault.{LexFault}
use Rattle.aq_lex.specs.declared.fault.LexFault.TheVariants as told

-- its name
unfoldable pub fault_name : LexFault → List ℕ
fault_name (told.NotUtf8 at) = codes "NotUtf8"
fault_name (told.BadByte at byte) = codes "BadByte"
fault_name (told.OpenComment at) = codes "OpenComment"
fault_name (told.OpenText at) = codes "OpenText"
fault_name (told.LongNumber at) = codes "LongNumber"
fault_name told.Memory = codes "Memory"

-- its place; want of memory has none
abbrev pub fault_place : LexFault → Option Place
fault_place (told.NotUtf8 at) = Some at
fault_place (told.BadByte at byte) = Some at
fault_place (told.OpenComment at) = Some at
fault_place (told.OpenText at) = Some at
fault_place (told.LongNumber at) = Some at
fault_place told.Memory = None
