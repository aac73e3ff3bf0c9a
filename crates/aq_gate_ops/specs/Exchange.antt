-- Gates that only exchange two halves.
use Rattle.std.specs.Prelude.{◌≡◌, ℕ, ◌<◌, All}
use Rattle.aq_prog.specs.Gates.{entry_at}
use Rattle.aq_prog.specs.declared.gate.Entry.TheVariants as entry
use Rattle.aq_prog.specs.declared.gate.Gate.{Gate}

-- From depth d on the gate only exchanges the two halves: its rows do, and each of its controls stands above.
pub record IsExchange (d : ℕ) (gate : Gate) : Type 0 where
  pub top_left : entry_at gate.matrix.rows 0 0 ≡ entry.Zero
  pub top_right : entry_at gate.matrix.rows 0 1 ≡ entry.Unit 0 0
  pub bottom_left : entry_at gate.matrix.rows 1 0 ≡ entry.Unit 0 0
  pub bottom_right : entry_at gate.matrix.rows 1 1 ≡ entry.Zero
  pub above : All (λ c. c < d) gate.controls
