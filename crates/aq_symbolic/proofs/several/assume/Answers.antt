use Rattle.std.proofs.Common.{inl, sym, ◌∙◌}
use Rattle.aq_symbolic.proofs.several.assume.Goals as goal

pub returns-then-is_open : goal.returns-then-is_open
returns-then-is_open c = inl (record {
  open_bit = sym c.is_open.ensures ∙ c.if-is_open.true;
  world = c.decided-decided.result;
  list_is = c.in_ok-left.ensures;
  world_is = record { fields = c.decided-decided.ensures.fields; set = c.decided-decided.ensures.set };
})
