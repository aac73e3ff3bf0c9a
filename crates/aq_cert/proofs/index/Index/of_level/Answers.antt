use Rattle.aq_cert.proofs.PlacedLemmas.{index-at, index-absent}
use Rattle.std.proofs.Common.{◌≤◌, ℕ, Vec, Some, length, refl, sym, ap, ◌∙◌, arith}
use Rattle.std.specs.declared.alloc.Global.{Global}
use Rattle.std.proofs.lemmas.Option.{slice_get-get_or, slice_get_past}
use Rattle.std.proofs.lemmas.Bool.Decides.{nat_tests}
use Rattle.aq_cert.proofs.index.Index.of_level.Goals as goal

pub returns-in-Some : goal.returns-in-Some
returns-in-Some c = index-at c.args.levels.now c.args.level c.in-Some.nodes.now c.as_slice.result.now c.of.result
    (slice_get-get_or c.args.levels.now c.args.level c.in-Some.nodes.now c.in-Some.ensures.lookup.3.0 ∙ ap (λ (v : Vec ℕ Global). Some v) (sym c.in-Some.ensures.lookup.1))
    c.as_slice.ensures.value c.of.ensures

pub returns-in-None : goal.returns-in-None
returns-in-None c =
    let past : length c.args.levels.now ≤ c.args.level = grind (arith, nat_tests, c.in-None.ensures.lookup.0) in
    index-absent c.args.levels.now c.args.level _ c.of-in-None.result (slice_get_past c.args.levels.now c.args.level past) refl c.of-in-None.ensures
