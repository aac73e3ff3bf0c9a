-- The text of a list of pieces.
use Rattle.std.specs.Prelude.{ℕ, zero, suc, ◌+◌, Bool, List, [], ◌∷◌, ◌++◌, map, if◌then◌else◌}
use Rattle.std.specs.Fmt.{decimal, signed_decimal}
use Rattle.std.specs.Int.{bit_at}
use Rattle.aq_world.specs.declared.pieces.Piece.{Piece}
use Rattle.aq_world.specs.declared.pieces.Piece.TheVariants as piece

-- the digit of a bit: `0` or `1`
abbrev pub bit_digit : Bool → ℕ
bit_digit bit = if bit then 49 else 48

-- the digits of bits in their order, or `-` where there is no bit
abbrev pub bits_text : List Bool → List ℕ
bits_text [] = 45 ∷ []
bits_text (bit ∷ bits) = map bit_digit (bit ∷ bits)

-- so many binary digits of a number, that of the greatest weight first; the last is that of the weight 1
abbrev pub binary_digits : ℕ → ℕ → List ℕ
binary_digits zero number = []
binary_digits (suc places) number = (48 + bit_at number places) ∷ binary_digits places number

-- the ket of a basis state: `|`, a digit for each qubit, `>`
abbrev pub ket_text : ℕ → ℕ → List ℕ
ket_text qubits index = 124 ∷ (binary_digits qubits index ++ 62 ∷ [])

-- the text of a piece: the bytes themselves, a decimal number, a signed one with `-` before a negative one, bits, a ket
abbrev pub piece_text : Piece → List ℕ
piece_text (piece.Text text) = text.now
piece_text (piece.Number number) = decimal number
piece_text (piece.Signed number) = signed_decimal number
piece_text (piece.Bits bits) = bits_text bits.now
piece_text (piece.Ket qubits index) = ket_text qubits index

-- the texts of the pieces, one after the other
abbrev pub pieces_text : List Piece → List ℕ
pieces_text [] = []
pieces_text (p ∷ rest) = piece_text p ++ pieces_text rest
