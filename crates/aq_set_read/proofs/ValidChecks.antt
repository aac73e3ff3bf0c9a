-- What a computation gives that adds to what is gathered or stops at a fault: a value of which something holds, or a fault
-- that an item of a set file can have.
use Rattle.std.proofs.Common.{◌≡◌, Bool, true, false, Ok, Err, refl}
use Rattle.aq_base.specs.Checks.{refuse_if, ◌>>=◌, ◌>>◌}
use Rattle.aq_set_read.specs.Gathered.{Checked}
use Rattle.aq_set_read.specs.declared.set_fault.SetFault.{SetFault}
use Rattle.aq_set_read.specs.declared.set_fault.SetFault.TheVariants as faults

-- a fault of items, and not of bytes, tokens or the grammar
abbrev pub IsOfItems : SetFault → Type 0
IsOfItems (faults.NotUtf8 at) = ⊥
IsOfItems (faults.BadByte at byte) = ⊥
IsOfItems (faults.OpenComment at) = ⊥
IsOfItems (faults.LongNumber at) = ⊥
IsOfItems (faults.BadKet at) = ⊥
IsOfItems (faults.Unexpected at token) = ⊥
IsOfItems (faults.TooDeep at) = ⊥
IsOfItems (faults.TooManyNames at) = Unit {0}
IsOfItems (faults.TwiceNamed at) = Unit {0}
IsOfItems (faults.UnknownSet at) = Unit {0}
IsOfItems (faults.QubitCount at) = Unit {0}
IsOfItems (faults.AmpTooWide at) = Unit {0}
IsOfItems (faults.KetLength at) = Unit {0}
IsOfItems (faults.RepeatedKet at) = Unit {0}
IsOfItems (faults.TooManyNodes at) = Unit {0}
IsOfItems faults.Memory = Unit {0}

abbrev pub Judged : {A : Type 0} → (A → Type 0) → Checked A → Type 0
Judged P (Ok x) = P x
Judged P (Err e) = IsOfItems e

-- what follows a computation holds where it holds of each value
pub follows : {A B : Type 0} (P : A → Type 0) (R : B → Type 0) (c : Checked A) (f : A → Checked B) → Judged P c → ((x : A) → P x → Judged R (f x)) → Judged R (c >>= f)
follows P R (Ok x) f h k = k x h
follows P R (Err e) f h k = h

-- what follows a check, from what the check says
pub ahead : {B : Type 0} (P : Type 0) (R : B → Type 0) (c : Checked (Unit {0})) (next : Checked B) → Judged (λ u. P) c → (P → Judged R next) → Judged R (c >> next)
ahead P R (Ok u) next h k = k h
ahead P R (Err e) next h k = h

pub unless : {B : Type 0} (R : B → Type 0) (test : Bool) (fault : SetFault) (next : Checked B) → IsOfItems fault → (test ≡ false → Judged R next) → Judged R (refuse_if test fault >> next)
unless R true fault next of k = of
unless R false fault next of k = k refl

pub refusal : (test : Bool) (fault : SetFault) → IsOfItems fault → Judged (λ u. test ≡ false) (refuse_if test fault)
refusal true fault of = of
refusal false fault of = refl

pub weaker : {A : Type 0} (P R : A → Type 0) (c : Checked A) → Judged P c → ((x : A) → P x → R x) → Judged R c
weaker P R (Ok x) h k = k x h
weaker P R (Err e) h k = h

-- two things that hold of what is computed hold together
pub both : {A : Type 0} (P R : A → Type 0) (c : Checked A) → Judged P c → Judged R c → Judged (λ x. P x × R x) c
both P R (Ok x) p r = (p, r)
both P R (Err e) p r = p
