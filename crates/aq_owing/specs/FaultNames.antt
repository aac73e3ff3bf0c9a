-- The name and the claim of a fault.
use Rattle.std.specs.Prelude.{ℕ, List, Option, Some, None, codes}
use Rattle.aq_owing.specs.declared.asked.ObligationFault.{ObligationFault}
use Rattle.aq_owing.specs.declared.asked.ObligationFault.TheVariants as told

-- its name
unfoldable pub fault_name : ObligationFault → List ℕ
fault_name (told.UnknownClaim name) = codes "UnknownClaim"
fault_name (told.QubitsDiffer name has) = codes "QubitsDiffer"
fault_name (told.BitUnknown name bit) = codes "BitUnknown"
fault_name told.TooManyObligations = codes "TooManyObligations"
fault_name told.Memory = codes "Memory"

-- the name of its claim, where it is one of a claim
abbrev pub fault_claim : ObligationFault → Option (List ℕ)
fault_claim (told.UnknownClaim name) = Some name
fault_claim (told.QubitsDiffer name has) = Some name
fault_claim (told.BitUnknown name bit) = Some name
fault_claim told.TooManyObligations = None
fault_claim told.Memory = None
