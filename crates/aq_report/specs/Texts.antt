-- The bytes of a report.
use Rattle.std.specs.Prelude.{ℕ, ◌+◌, Bool, true, false, List, [], ◌∷◌, ◌++◌, count_by, codes, if◌then◌else◌}
use Rattle.std.specs.Fmt.{decimal, signed_decimal}
use Rattle.aq_ring.specs.Fractions.{Amplitude}
use Rattle.aq_ring.specs.Vectors.{is_zero}
use Rattle.aq_plain.specs.Vectors.{StateVector}
use Rattle.aq_world.specs.Pieces.{bits_text, ket_text}
use Rattle.aq_obligations.specs.declared.bound.Goal.{Goal}
use Rattle.aq_obligations.specs.declared.bound.Obligation.{Obligation}
use Rattle.aq_obligations.specs.declared.kind.Kind.{Kind}
use Rattle.aq_obligations.specs.declared.kind.Kind.TheVariants as kind
use Rattle.aq_report.specs.declared.verdict.Refutation.{Refutation}
use Rattle.aq_report.specs.declared.verdict.Verdict.{Verdict}
use Rattle.aq_report.specs.declared.verdict.Verdict.TheVariants as verdict
use Rattle.aq_report.specs.declared.verdict.Why.{Why}
use Rattle.aq_report.specs.declared.verdict.Why.TheVariants as why

-- a line ends with the byte 10
abbrev pub newline : List ℕ
newline = 10 ∷ []

-- the word of a kind, and the line of its assertion or loop
abbrev pub located : List ℕ → ℕ → List ℕ
located word line = word ++ (decimal line ++ codes ": ")

-- what an obligation ends at
abbrev pub kind_text : Kind → ℕ → List ℕ
kind_text kind.Post line = codes " post: "
kind_text kind.Assert line = located (codes " assert line ") line
kind_text kind.Entry line = located (codes " entry line ") line
kind_text kind.Keep line = located (codes " keep line ") line

-- an amplitude: its four coefficients, and the power of sqrt(2) that divides them
abbrev pub amplitude_text : Amplitude → List ℕ
amplitude_text p = codes "(" ++ (signed_decimal p.num.a ++ (codes "," ++ (signed_decimal p.num.b ++ (codes "," ++ (signed_decimal p.num.c
    ++ (codes "," ++ (signed_decimal p.num.d ++ (codes ")/" ++ (decimal p.power ++ newline)))))))))

-- a line for an entry of a vector: a label, the ket and the amplitude
abbrev pub entry_line : List ℕ → ℕ → ℕ → Amplitude → List ℕ
entry_line label n index p = label ++ (ket_text n index ++ (codes " " ++ amplitude_text p))

-- the line, if the amplitude isn't zero
abbrev pub entry_text : List ℕ → ℕ → ℕ → Amplitude → List ℕ
entry_text label n index p = if is_zero p then [] else entry_line label n index p

-- a line for each entry from this index on that isn't zero
abbrev pub entries_from : List ℕ → ℕ → ℕ → List Amplitude → List ℕ
entries_from label n index [] = []
entries_from label n index (p ∷ rest) = entry_text label n index p ++ entries_from label n (index + 1) rest

abbrev pub entries_text : List ℕ → StateVector → List ℕ
entries_text label v = entries_from label v.qubits 0 v.amps

-- a line for bits
unfoldable pub bits_line : List ℕ → List Bool → List ℕ
bits_line label bits = label ++ (bits_text bits ++ newline)

-- a line of bits and a line for each entry of a vector
unfoldable pub state_text : List ℕ → List ℕ → List Bool → StateVector → List ℕ
state_text bits_label label bits v = bits_line bits_label bits ++ entries_text label v

unfoldable pub ending_text : Refutation → List ℕ
ending_text r = bits_line (codes "  outcomes ") r.outcomes ++ state_text (codes "  end bits ") (codes "  end ") r.end_bits r.end

-- the state, the outcomes and the end
unfoldable pub refutation_text : Refutation → List ℕ
refutation_text r = state_text (codes "  bits ") (codes "  state ") r.bits r.state ++ ending_text r

abbrev pub why_text : Why → List ℕ
why_text why.Width = codes "width"
why_text why.Steps = codes "steps"
why_text why.Memory = codes "memory"

-- the end of a replayed run: its bits and the entries of its vector
abbrev pub replay_text : List Bool → StateVector → List ℕ
replay_text bits v = state_text (codes "bits ") (codes "end ") bits v

-- the line that a refutation begins with
unfoldable pub refuted_line : List ℕ
refuted_line = codes "refuted" ++ newline

-- what stands behind an obligation's head
abbrev pub outcome_text : Verdict → List ℕ
outcome_text verdict.Verified = codes "verified" ++ newline
outcome_text (verdict.GaveUp w) = codes "gave up " ++ (why_text w ++ newline)
outcome_text (verdict.Refuted r) = refuted_line ++ refutation_text r

-- the lines of an obligation's verdict
abbrev pub verdict_text : ℕ → Goal → Verdict → List ℕ
verdict_text number goal v = (decimal number ++ kind_text goal.kind goal.line) ++ outcome_text v

abbrev pub summary_text : ℕ → ℕ → ℕ → List ℕ
summary_text verified refuted gave_up =
    codes "verified " ++ (decimal verified ++ (codes ", refuted " ++ (decimal refuted ++ (codes ", gave up " ++ (decimal gave_up ++ newline)))))

abbrev pub is_verified : Verdict → Bool
is_verified verdict.Verified = true
is_verified (verdict.Refuted r) = false
is_verified (verdict.GaveUp w) = false

abbrev pub is_refuted : Verdict → Bool
is_refuted verdict.Verified = false
is_refuted (verdict.Refuted r) = true
is_refuted (verdict.GaveUp w) = false

abbrev pub is_given_up : Verdict → Bool
is_given_up verdict.Verified = false
is_given_up (verdict.Refuted r) = false
is_given_up (verdict.GaveUp w) = true

-- the lines of the obligations with their verdicts, numbered from this number on
abbrev pub lines_from : ℕ → List Obligation → List Verdict → List ℕ
lines_from number (o ∷ os) (v ∷ vs) = verdict_text number o.goal v ++ lines_from (number + 1) os vs
lines_from number _ _ = []

-- how many are verified, refuted and given up
abbrev pub counts_text : List Verdict → List ℕ
counts_text verdicts = summary_text (count_by is_verified verdicts) (count_by is_refuted verdicts) (count_by is_given_up verdicts)

-- The whole report, where there is a verdict for each obligation: the lines of each in order, and the counts.
abbrev pub report : List Obligation → List Verdict → List ℕ
report obligations verdicts = lines_from 1 obligations verdicts ++ counts_text verdicts
