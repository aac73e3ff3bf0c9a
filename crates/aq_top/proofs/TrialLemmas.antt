-- The line of a trial, and why its texts are refused.
use Rattle.std.proofs.Common.{◌≡◌, ℕ, zero, suc, ◌+◌, ◌-◌, ◌*◌, List, [], ◌∷◌, length, count_by, Result, Ok, Err, IfErr, inr, refl, ap, ap₂, sym, ◌∙◌, subst, arith}
use Rattle.aq_trial.specs.Trials.{gates_from, step_from, trial_gates, trial_qubits}
use Rattle.aq_report.specs.Texts.{is_given_up, is_refuted, is_verified}
use Rattle.aq_report.specs.declared.refusal.Refusal.{Refusal}
use Rattle.aq_report.specs.declared.verdict.Verdict.{Verdict}
use Rattle.aq_top.specs.Judging.{IsTally}
use Rattle.aq_top.specs.Trial.{TextsCause, TrialCause, gate_count, line_text, trial_line, trial_program, trial_sets}
use Rattle.aq_top.specs.declared.judging.Tally.{Tally}

length-gates : (qubits count x : ℕ) → length (gates_from qubits count x) ≡ count
unfolding gates_from
length-gates qubits zero x = refl
length-gates qubits (suc count) x = ap suc (length-gates qubits count (step_from qubits x).at)

pub counted_gates : (n : ℕ) → 40 * (n + 3) - 1 ≡ gate_count n
counted_gates n = let same = length-gates (trial_qubits n) (20 * trial_qubits n) n in omega (arith, same)

-- the line with these numbers is that of the verdicts
pub counted_line : (n qubits gates : ℕ) (t : Tally) (vs : List Verdict) → qubits ≡ trial_qubits n → gates ≡ gate_count n → IsTally t vs
    → line_text n qubits gates t.verified t.refuted t.gave_up ≡ trial_line n vs
counted_line n qubits gates t vs q g h =
    ap₂ (λ k j. line_text n k j t.verified t.refuted t.gave_up) q g
    ∙ ap (λ k. line_text n (trial_qubits n) (gate_count n) k t.refuted t.gave_up) h.verified
    ∙ ap₂ (λ k j. line_text n (trial_qubits n) (gate_count n) (count_by is_verified vs) k j) h.refuted h.gave_up

-- the cause of its texts is that of the trial
pub cause_of_texts : {T : Type 0} (r : Result T Refusal) (n : ℕ) (program sets : List ℕ) → program ≡ trial_program n → sets ≡ trial_sets n
    → IfErr r (TextsCause program sets) → IfErr r (TrialCause n)
cause_of_texts (Ok x) n program sets p s h = tt
cause_of_texts (Err e) n program sets p s h =
    inr (subst (λ (t : List ℕ). TextsCause (trial_program n) t e) s (subst (λ (t : List ℕ). TextsCause t sets e) p h))
