use Rattle.std.proofs.Common.{List, sym, subst}
use Rattle.aq_store.specs.Levels.{lists_of}
use Rattle.aq_cert.specs.declared.index.Index.{Index}
use Rattle.aq_cert.specs.Rows.{row_at}
use Rattle.aq_cert.specs.Placed.{HasMacroPlaces}
use Rattle.aq_cert.proofs.PlacedLemmas.{row-placed, places-there}
use Rattle.aq_cert.proofs.placed.place_level.Goals as goal

pub place_row-requires : goal.place_row-requires
place_row-requires c = λ i m here.
    subst (λ (z : List Index). HasMacroPlaces c.in_ok-left.left z m) (sym c.as_slice.ensures.value)
    (places-there c.in_ok-left.left c.in_ok-goals.goals.items (row_at (lists_of c.args.left.now) c.args.level) c.args.goals.now c.args.level c.in_ok-left.ensures c.in_ok-goals.ensures m (c.requires i m here))

pub returns : goal.returns
returns c =
    row-placed c.in_ok-left.left c.as_slice.result.now c.in_ok-goals.goals.items (row_at (lists_of c.args.left.now) c.args.level) c.args.goals.now c.args.level c.args.row.now c.place_row.result c.in_ok-left.ensures
    c.in_ok-goals.ensures c.as_slice.ensures.value c.place_row.ensures
