use Rattle.std.proofs.Common.{rules, arith, ◌-◌, ℕ}
use Rattle.std.proofs.lemmas.List.{take-replicate}
use Rattle.aq_trial.proofs.texts.zeros.Goals as goal

pub returns : goal.returns
returns c = search (rules, take-replicate {X = ℕ} (c.args.qubits - 2) 14 48 (omega (arith, c.requires)))
