use Rattle.std.proofs.Common.{inl, sym, ◌∙◌}
use Rattle.aq_symbolic.proofs.SplitLemmas.{decided_copy}
use Rattle.aq_symbolic.proofs.several.split_world.Goals as goal

pub returns-then-is_open : goal.returns-then-is_open
returns-then-is_open c = inl (record {
  open_bit = sym c.is_open.ensures ∙ c.if-is_open.true;
  zero = c.decided-zero.result;
  other = c.decided-other.result;
  list_is = c.in_ok-halves.ensures;
  zero_is = decided_copy c.args.bit _ c.args.world c.in_ok-copy.copy c.decided-zero.result c.in_ok-copy.ensures.fields c.in_ok-copy.ensures.set (record { fields = c.decided-zero.ensures.fields; set = c.decided-zero.ensures.set });
  other_is = record { fields = c.decided-other.ensures.fields; set = c.decided-other.ensures.set };
})
