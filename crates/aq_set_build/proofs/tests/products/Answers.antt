use Rattle.aq_store.proofs.TableLemmas.{HasShape-Extends, Extends-trans}
use Rattle.aq_set_build.proofs.tests.products.Goals as goal

pub tensor-requires-clause-right : goal.tensor-requires-clause-right
tensor-requires-clause-right g c =
    HasShape-Extends c.kets.new.store c.kets-2.new.store c.kets-2.ensures.grows.keeps c.in_ok-pair.pair.shape.items c.in_ok-pair.pair.root c.in_ok-pair.ensures.made.fits_store

pub power-requires-clause-fits : goal.power-requires-clause-fits
power-requires-clause-fits g c =
    HasShape-Extends c.kets.new.store c.tensor.new.store (Extends-trans _ _ _ c.kets-2.ensures.grows.keeps c.tensor.ensures.grows.keeps) c.in_ok-pair.pair.shape.items
    c.in_ok-pair.pair.root c.in_ok-pair.ensures.made.fits_store
