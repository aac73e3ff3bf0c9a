use Rattle.std.proofs.Common.{rules, ◌≡◌, ◌<◌, length, get_or, refl}
use Rattle.std.proofs.lemmas.Option.{slice_get_read}
use Rattle.aq_symbolic.proofs.StockLemmas.{placed_at}
use Rattle.aq_symbolic.proofs.stock.Stock.find.Goals as goal

pub returns-then-same : goal.returns-then-same
returns-then-same c =
    let entries = c.args.self.now.entries.items in
    let place = c.in_ok-place.field-0.now in
    let entry = c.in_ok-entry.entry.now in
    let within : place < length entries = search rules in
    let read : entry ≡ get_or entries place entry = search rules in
    placed_at entries place entry c.args.stmt.now c.args.levels (slice_get_read entries (length entries) place entry refl within read) c.if-entry-levels.true (c.same.ensures c.if-same.true)
