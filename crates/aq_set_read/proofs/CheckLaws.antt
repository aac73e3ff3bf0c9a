-- Checks that pass, and checks that refuse.
use Rattle.std.proofs.Common.{◌≡◌, Bool, true, false, Ok, refl, ap}
use Rattle.aq_base.specs.Checks.{refuse_if, ◌>>=◌, ◌>>◌}
use Rattle.aq_set_read.specs.Gathered.{Checked}
use Rattle.aq_set_read.specs.declared.set_fault.SetFault.{SetFault}

-- a check that passes says nothing
pub passes : {A : Type 0} (b : Bool) (f : SetFault) (rest : Checked A) → b ≡ false → (refuse_if b f >> rest) ≡ rest
passes b f rest e = ap (λ x. refuse_if x f >> rest) e

-- one that gives something has passed
pub has_passed : {A : Type 0} (b : Bool) (f : SetFault) (x y : A) → (refuse_if b f >> Ok x) ≡ Ok y → b ≡ false
has_passed true f x y e = cc
has_passed false f x y e = refl

-- what follows a check follows what the check gives
pub check_then : {A B : Type 0} (b : Bool) (f : SetFault) (x : A) (rest : A → Checked B) → ((refuse_if b f >> Ok x) >>= rest) ≡ (refuse_if b f >> rest x)
check_then true f x rest = refl
check_then false f x rest = refl
