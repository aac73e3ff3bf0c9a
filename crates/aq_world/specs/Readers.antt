-- What a read gives.
use Rattle.std.specs.Prelude.{◌≡◌, ℕ, ◌<◌, List, length, take, Option, Some, None, Bool, true}
use Rattle.std.specs.Io.KnownBytes.{Consumes, IsAtEnd, Keeps}

-- The file's next bytes came, as many as are told, and none only at its end or where there is no room; or none were taken.
abbrev pub ReadsSome : Option (List ℕ) → Option (List ℕ) → List ℕ → Option ℕ → Type 0
ReadsSome old new buf (Some k) = Consumes old new (take k buf) × (k ≡ 0 → 0 < length buf → IsAtEnd new)
ReadsSome old new buf None = Keeps old new

-- a read that gives nothing is marked, and another changes no mark
abbrev pub FailsAs : Bool → Bool → Option ℕ → Type 0
FailsAs old new (Some k) = new ≡ old
FailsAs old new None = new ≡ true
