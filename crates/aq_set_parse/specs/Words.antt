-- The reserved words of set files, which are no names.
use Rattle.std.specs.Prelude.{ℕ, List, [], ◌∷◌, Option, Some, None, codes, if◌then◌else◌}
use Rattle.std.specs.Str.{bytes_eq}
use Rattle.aq_set_parse.specs.declared.mark.SetMark.{SetMark}
use Rattle.aq_set_parse.specs.declared.mark.SetMark.TheVariants as marks

-- the mark that stands beside a text in a table
abbrev pub lookup : List ℕ → List (List ℕ × SetMark) → Option SetMark
lookup text [] = None
lookup text (row ∷ rows) = if bytes_eq text row.0 then Some row.1 else lookup text rows

unfoldable pub reserved_words : List (List ℕ × SetMark)
reserved_words =
    (codes "set", marks.Set) ∷
    (codes "claim", marks.Claim) ∷
    (codes "when", marks.When) ∷
    (codes "and", marks.And) ∷
    (codes "union", marks.Union) ∷
    (codes "all", marks.All) ∷
    (codes "w", marks.Omega) ∷
    (codes "i", marks.Imaginary) ∷
    (codes "sqrt2", marks.Root) ∷
    []

-- the mark of a word that is reserved
unfoldable pub reserved : List ℕ → Option SetMark
reserved text = lookup text reserved_words
