use Rattle.aq_store.proofs.TableLemmas.{HasShape-Extends}
use Rattle.aq_measure_ops.proofs.tests.projects.Goals as goal

pub entry-old-requires : goal.entry-old-requires
entry-old-requires c = HasShape-Extends c.drawn.new.store c.project.new.store c.project.ensures.keeps c.in_ok-lsta.lsta.shape.items c.in_ok-lsta.lsta.root c.in_ok-lsta.ensures.made
