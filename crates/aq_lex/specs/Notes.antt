-- The parts of a note: an annotation `@name rest`, up to a comment.
use Rattle.std.specs.Prelude.{ℕ, ◌+◌, ◌-◌, ◌==◌, Bool, ◌&&◌, ◌||◌, List, [], ◌∷◌, length, take, drop, if◌then◌else◌}
use Rattle.std.specs.List.{prefix_len, suffix_len}
use Rattle.aq_lex.specs.Bytes.{is_word, is_blank, begins}

-- what a note's name is made of: letters, digits, `_` and `.`
abbrev pub is_note_letter : ℕ → Bool
is_note_letter b = is_word b || b == 46

-- how many bytes stand before the first `//`, or how many bytes there are
abbrev pub uncommented_len : List ℕ → ℕ
uncommented_len [] = 0
uncommented_len (b ∷ bs) = if b == 47 && begins 47 bs then 0 else 1 + uncommented_len bs

-- the bytes without the blanks in front
abbrev pub without_front_blanks : List ℕ → List ℕ
without_front_blanks bytes = drop (prefix_len is_blank bytes) bytes

-- the bytes without the blanks at their end
abbrev pub without_end_blanks : List ℕ → List ℕ
without_end_blanks bytes = take (length bytes - suffix_len is_blank bytes) bytes

-- the bytes without the blanks at both ends
abbrev pub trimmed : List ℕ → List ℕ
trimmed bytes = without_end_blanks (without_front_blanks bytes)

-- the text of a note up to its first `//`, without the blanks at its ends
abbrev pub note_text : List ℕ → List ℕ
note_text text = trimmed (take (uncommented_len text) text)

-- what stands behind the `@`
abbrev pub note_body : List ℕ → List ℕ
note_body text = drop 1 (note_text text)

-- the longest run of letters of a name behind the `@`; it may be empty
abbrev pub note_name : List ℕ → List ℕ
note_name text = take (prefix_len is_note_letter (note_body text)) (note_body text)

-- what stands behind the name, without the blanks at its ends
abbrev pub note_rest : List ℕ → List ℕ
note_rest text = trimmed (drop (prefix_len is_note_letter (note_body text)) (note_body text))
