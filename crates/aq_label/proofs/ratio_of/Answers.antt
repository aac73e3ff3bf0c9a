use Rattle.aq_label.specs.Ratios.{lefts, rights}
use Rattle.aq_label.proofs.RatioLemmas.{same-exact, exact-same, different-not}
use Rattle.aq_label.proofs.WalkLemmas.{same_lengths, mismatch-ratio}
use Rattle.aq_label.proofs.ratio_of.Goals as goal

pub returns-in-Ok-clause-same : goal.returns-in-Ok-clause-same
returns-in-Ok-clause-same g c = λ s.
    let e = same_lengths g.L.Label.parts g.L.Label.part_count g.met.L.Label.all_parts c.args.pairs.now in
    (same-exact (lefts g.L.Label.parts c.args.pairs.now) (rights g.L.Label.parts c.args.pairs.now) c.ratio.result e (c.ratio.ensures (lefts g.L.Label.parts c.args.pairs.now) (rights g.L.Label.parts c.args.pairs.now) c.in-Ok.ensures) s).proportional

pub returns-in-Ok-clause-different : goal.returns-in-Ok-clause-different
returns-in-Ok-clause-different g c =
    let e = same_lengths g.L.Label.parts g.L.Label.part_count g.met.L.Label.all_parts c.args.pairs.now in
    different-not (lefts g.L.Label.parts c.args.pairs.now) (rights g.L.Label.parts c.args.pairs.now) c.ratio.result e (c.ratio.ensures (lefts g.L.Label.parts c.args.pairs.now) (rights g.L.Label.parts c.args.pairs.now) c.in-Ok.ensures)

pub returns-in-Ok-clause-exact : goal.returns-in-Ok-clause-exact
returns-in-Ok-clause-exact g c =
    let e = same_lengths g.L.Label.parts g.L.Label.part_count g.met.L.Label.all_parts c.args.pairs.now in
    let r = c.ratio.ensures (lefts g.L.Label.parts c.args.pairs.now) (rights g.L.Label.parts c.args.pairs.now) c.in-Ok.ensures in (same-exact (lefts g.L.Label.parts c.args.pairs.now) (rights g.L.Label.parts c.args.pairs.now) c.ratio.result e r, exact-same (lefts g.L.Label.parts c.args.pairs.now) (rights g.L.Label.parts c.args.pairs.now) c.ratio.result e r)

pub returns-in-Err-clause-different : goal.returns-in-Err-clause-different
returns-in-Err-clause-different g c =
    let e = same_lengths g.L.Label.parts g.L.Label.part_count g.met.L.Label.all_parts c.args.pairs.now in
    different-not (lefts g.L.Label.parts c.args.pairs.now) (rights g.L.Label.parts c.args.pairs.now) c.in-Err.mismatch e (mismatch-ratio (lefts g.L.Label.parts c.args.pairs.now) (rights g.L.Label.parts c.args.pairs.now) _ c.in-Err.ensures)

pub returns-in-Err-clause-exact : goal.returns-in-Err-clause-exact
returns-in-Err-clause-exact g c =
    let e = same_lengths g.L.Label.parts g.L.Label.part_count g.met.L.Label.all_parts c.args.pairs.now in
    let r = mismatch-ratio (lefts g.L.Label.parts c.args.pairs.now) (rights g.L.Label.parts c.args.pairs.now) _ c.in-Err.ensures in (same-exact (lefts g.L.Label.parts c.args.pairs.now) (rights g.L.Label.parts c.args.pairs.now) c.in-Err.mismatch e r, exact-same (lefts g.L.Label.parts c.args.pairs.now) (rights g.L.Label.parts c.args.pairs.now) c.in-Err.mismatch e r)
