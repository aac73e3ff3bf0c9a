use Rattle.std.proofs.Common.{◌≡◌, ◌∙◌, ◌++◌, ℕ, List, append_assoc, codes}
use Rattle.aq_trial.specs.Trials.{zeros}
use Rattle.aq_trial.proofs.texts.sets_text.Goals as goal

joined : (a z b c : List ℕ) → (((a ++ z) ++ b) ++ z) ++ c ≡ a ++ (z ++ (b ++ (z ++ c)))
joined a z b c = append_assoc ((a ++ z) ++ b) z c ∙ (append_assoc (a ++ z) b (z ++ c) ∙ append_assoc a z (b ++ (z ++ c)))

pub returns : goal.returns
returns c =
    let one = c.in_ok-extend.ensures.ok in
    let two = c.in_ok-extend-2.ensures.ok in
    let three = c.in_ok-extend-3.ensures.ok in
    let four = c.in_ok-extend-4.ensures.ok in
    let first = c.in_ok-text.ensures in
    let nought = c.zeros-zeros.ensures in
    rw (four, three, two, one, first, nought) (joined (codes "claim pre = all 2 * [|") (zeros c.args.qubits) (codes ">];\nclaim post = all 2 * [|") (codes ">];\n"))
