-- The lines of what is refused by name, and of what could not be had.
use Rattle.std.specs.Prelude.{ℕ, List, ◌++◌, codes}
use Rattle.std.specs.Fmt.{decimal}
use Rattle.aq_lex.specs.declared.place.Place.{Place}
use Rattle.aq_report.specs.Texts.{newline}
use Rattle.aq_report.specs.declared.refusal.Refusal.{Refusal}
use Rattle.aq_report.specs.declared.refusal.Refusal.TheVariants as refusal

-- a line of the program: a place, and what is said of it
unfoldable pub program_line : Place → List ℕ → List ℕ
program_line at said = codes "refused: program " ++ (decimal at.line ++ (codes ":" ++ (decimal at.column ++ (codes ": " ++ (said ++ newline)))))

-- a line of the sets: a place, and what is said of it
unfoldable pub sets_line : Place → List ℕ → List ℕ
sets_line at said = codes "refused: sets " ++ (decimal at.line ++ (codes ":" ++ (decimal at.column ++ (codes ": " ++ (said ++ newline)))))

-- a line of a claim: its name, and what is said of it
unfoldable pub claim_line : List ℕ → List ℕ → List ℕ
claim_line claim said = codes "refused: claim " ++ (claim ++ (codes ": " ++ (said ++ newline)))

-- a line of a set: its name, and what is said of it
unfoldable pub set_line : List ℕ → List ℕ → List ℕ
set_line set said = codes "refused: set " ++ (set ++ (codes ": " ++ (said ++ newline)))

-- a line of a run that isn't replayed: what is said of it
unfoldable pub replay_line : List ℕ → List ℕ
replay_line said = codes "refused: replay: " ++ (said ++ newline)

-- the line of a file that could not be read
unfoldable pub read_fault_line : List ℕ → List ℕ
read_fault_line file = codes "read fault: " ++ (file ++ newline)

-- the line of a refusal
unfoldable pub refusal_text : Refusal → List ℕ
refusal_text (refusal.Program at name) = program_line at name.now
refusal_text (refusal.NotTaken at word) = program_line at (codes "NotTaken " ++ word)
refusal_text refusal.ProgramTooLong = codes "refused: program: TooLong" ++ newline
refusal_text (refusal.Sets at name) = sets_line at name.now
refusal_text refusal.SetsTooLong = codes "refused: sets: TooLong" ++ newline
refusal_text (refusal.Claim claim name) = claim_line claim name.now
refusal_text refusal.TooManyObligations = codes "refused: TooManyObligations" ++ newline
refusal_text (refusal.Set set name) = set_line set.now name.now
refusal_text (refusal.Replay name) = replay_line name.now
refusal_text (refusal.ReadFault file) = read_fault_line file.now
refusal_text refusal.OutOfMemory = codes "out of memory" ++ newline
