use Rattle.aq_store.proofs.TableLemmas.{HasShape-Extends}
use Rattle.aq_measure_ops.proofs.tests.pads.Goals as goal

pub entry-old-requires : goal.entry-old-requires
entry-old-requires c = HasShape-Extends c.drawn.new.store c.pad.new.store c.pad.ensures.keeps c.in_ok-lsta.lsta.shape.items c.in_ok-lsta.lsta.root c.in_ok-lsta.ensures.made
