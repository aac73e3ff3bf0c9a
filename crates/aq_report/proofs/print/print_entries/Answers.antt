use Rattle.std.proofs.Common.{ℕ, List, Err, refl, ap, ◌∙◌, subst}
use Rattle.std.proofs.lemmas.Result.{err_from_is_err_and}
use Rattle.aq_world.specs.Prints.{Prints}
use Rattle.aq_world.proofs.PrintsLemmas.{Prints-none, Prints-then, Prints-stops, part-more}
use Rattle.aq_report.proofs.EntriesLemmas.{entries-at}
use Rattle.aq_report.proofs.print.print_entries.Goals as goal

pub loop-index-init : goal.loop-index-init
loop-index-init g c = (_, Prints-none _ _ tt, refl)

pub loop-index-preserved : goal.loop-index-preserved
loop-index-preserved g c =
    let i = c.loop-index.invariant in
    let split = entries-at c.args.label.now _ _ c.loop-index.index _ _ c.amp-item.result c.qubits-qubits.ensures.value c.amps-amp-items.ensures.value c.loop-index-test.true c.amp-item.is in
    (_, Prints-then i.1 refl (c.in_ok-print_nonzero.ensures), part-more i.0 _ _ _ _ split i.2)

pub returns-in_err-print_nonzero : goal.returns-in_err-print_nonzero
returns-in_err-print_nonzero g c =
    let p = err_from_is_err_and c.from_residual.result c.from_residual.ensures.1 in
    let i = c.loop-index.invariant in
    let split = entries-at c.args.label.now _ _ c.loop-index.index _ _ c.amp-item.result c.qubits-qubits.ensures.value c.amps-amp-items.ensures.value c.loop-index-test.true c.amp-item.is in
    let P : List ℕ → Type 0 = λ t. Prints g.K.Sink.meaning c.args.out.now c.print_nonzero.new.out c.from_residual.result t in
    subst P (part-more i.0 _ _ _ _ split i.2) (Prints-stops _ (Prints-then i.1 refl c.print_nonzero.ensures) c.in_err-print_nonzero.was (p.1 ∙ ap (λ e. Err e) p.2))
