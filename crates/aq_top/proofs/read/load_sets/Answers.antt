use Rattle.aq_top.specs.Reads.{ReadFailedOf}
use Rattle.aq_top.proofs.ReadsLemmas.{told_fault}
use Rattle.aq_top.proofs.read.load_sets.Goals as goal

pub returns-in-Ok-clause-cause : goal.returns-in-Ok-clause-cause
returns-in-Ok-clause-cause g c =
    let given = c.in-Ok.ensures.bytes in
    told_fault _ (ReadFailedOf g.S.Shelf.meaning c.args.shelf.now c.read.new.self) _ c.in-Err.fault _
    (record { bytes = c.in-Ok.bytes.items; held = given.1; fits = given.0; fault = rw c.as_slice.ensures.value at c.in-Err.ensures.fault })
    c.refused_sets.ensures
