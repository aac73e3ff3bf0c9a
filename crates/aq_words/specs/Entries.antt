-- What `clap` finds in the words of a simple command.
use Rattle.std.specs.Prelude.{ℕ, Bool, true, false, List, [], ◌∷◌, Option, Some, None, if◌then◌else◌, unwrap_or, option_and_then}
use Rattle.std.specs.Str.Parse.{digits_value, without_leading_plus}
use Rattle.clap.specs.ValueTests.{accepts}
use Rattle.clap.specs.Words.{App, Kinds, Row, Text, fault_of, first_of, is_simple_and_free, matches_of, one_of}
use Rattle.clap.specs.declared.builder.value_parser.ValueParser.TheVariants as vp

-- a command of which `clap` says what it finds, and what it refuses
unfoldable pub is_simple_parser : App → Bool
is_simple_parser app = is_simple_and_free app

-- there is no fault
abbrev pub has_none : Kinds → Bool
has_none [] = true
has_none (fault ∷ rest) = false

-- the entries that a command finds in words, the first of which is its name; nothing where there is a fault
unfoldable pub entries : App → List Text → Option (List Row)
entries app words = if has_none (fault_of app words) then Some (matches_of app words) else None

-- the text of an entry, empty where there is none
abbrev pub text_of : Text → List Row → Text
text_of id rows = unwrap_or (first_of id rows) []

-- the number that a text spells in digits, a plus sign and zeros in front being allowed, where it is one from 1 to the most
unfoldable pub number_up_to : ℕ → Text → Option ℕ
number_up_to most text =
    if accepts false (vp.Unsigned 1 most) text then Some (digits_value 10 (without_leading_plus text)) else None

-- the number of an entry
abbrev pub number_of : Text → ℕ → List Row → Option ℕ
number_of id most rows = option_and_then (number_up_to most) (one_of id rows)
