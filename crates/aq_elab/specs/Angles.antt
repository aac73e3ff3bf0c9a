-- Angles.
use Rattle.std.specs.Prelude.{ℕ, ◌*◌, ◌/◌, ◌==◌, ℤ, pos, neg_ℤ, Bool, true, false, ◌&&◌, ◌||◌, Option, Some, None, if◌then◌else◌, nat_le}
use Rattle.aq_parse.specs.declared.tree.Angle.{Angle}

-- the factor before pi is at most 1,000,000, and pi is divided by 1, 2 or 4
abbrev pub is_eighths : Angle → Bool
is_eighths a = nat_le a.times 1000000 && (a.over == 1 || (a.over == 2 || a.over == 4))

abbrev pub signed : Bool → ℕ → ℤ
signed true n = neg_ℤ (pos n)
signed false n = pos n

-- The number e of an angle that is e * pi/4. Without pi the angle is to be 0.
abbrev pub eighths_of : Angle → Option ℤ
eighths_of a = if a.pi
    then (if is_eighths a then Some (signed a.minus (4 * a.times / a.over)) else None)
    else (if a.times == 0 then Some (pos 0) else None)
