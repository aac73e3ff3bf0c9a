use Rattle.std.proofs.Common.{sym, ◌∙◌}
use Rattle.std.proofs.lemmas.Bool.Decides.{Decides-eqb}
use Rattle.std.proofs.lemmas.Slice.Eq.{slice_eq-Decides}
use Rattle.aq_symbolic.proofs.StockLemmas.{gate_of}
use Rattle.aq_symbolic.proofs.stock.same_gate.Goals as goal

pub returns : goal.returns
returns c = λ t.
    let controls = (slice_eq-Decides Decides-eqb _ _ _ c.eq.ensures).0 t in
    gate_of c.args.one.now c.args.other.now c.if-one-other.false (c.same_rows.ensures c.if-not-same_rows.false) (sym c.as_slice.ensures ∙ controls ∙ c.as_slice-2.ensures)
