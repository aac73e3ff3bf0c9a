-- Why the sets are refused.
use Rattle.std.proofs.Common.{ℕ, List, Option}
use Rattle.aq_world.specs.Held.{Held}
use Rattle.aq_report.specs.declared.refusal.Refusal.{Refusal}
use Rattle.aq_report.specs.declared.refusal.Refusal.TheVariants as refusal
use Rattle.aq_set_read.specs.declared.set_fault.SetFault.{SetFault}
use Rattle.aq_top.specs.Reads.{HasSetFault, SetsCause, TellsSetFault}

-- a fault that is told
pub told_fault : (told : Option Held) (RF : List ℕ → Type 0) (name : List ℕ) (f : SetFault) (r : Refusal) → HasSetFault told name f → TellsSetFault f r → SetsCause told RF name r
told_fault told RF name f (refusal.Sets at said) h t = (f, h, t)
told_fault told RF name f refusal.OutOfMemory h t = tt
told_fault told RF name f _ h t = absurd t

-- a cause under which a read fails is one under what follows from it
pub SetsCause-later : (told : Option Held) (RF RG : List ℕ → Type 0) (name : List ℕ) (r : Refusal) → (RF name → RG name) → SetsCause told RF name r → SetsCause told RG name r
SetsCause-later told RF RG name (refusal.ReadFault file) f c = (c.0, f c.1)
SetsCause-later told RF RG name _ f c = c
