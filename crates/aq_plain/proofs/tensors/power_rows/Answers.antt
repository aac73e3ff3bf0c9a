use Rattle.std.proofs.Common.{◌+◌, ◌∙◌, refl, arith}
use Rattle.std.proofs.lemmas.Result.{err_from_is_err_and}
use Rattle.aq_sets.specs.Vectors.{all_pairs, listed, power}
use Rattle.aq_plain.proofs.TakeLaws.{fit_append, fit_same, stops_right, stops_same, stops_power, power_next}
use Rattle.aq_plain.proofs.tensors.power_rows.Goals as goal

pub returns-in_err-rows : goal.returns-in_err-rows
returns-in_err-rows c =
    let p = err_from_is_err_and c.from_residual.result c.from_residual.ensures.1 in
    rw (p.1, p.2) (stops_power (listed c.args.base.now) 2 c.args.times _ (omega arith) c.requires c.in_err-rows.ensures)

pub returns-in_err-rows-2 : goal.returns-in_err-rows-2
returns-in_err-rows-2 c =
    let p = err_from_is_err_and c.from_residual-in_err-rows-2.result c.from_residual-in_err-rows-2.ensures.1 in
    let base = c.args.base.now in
    let i = c.loop-i.i in
    let e = c.as_slice.ensures.value ∙ c.loop-i.invariant.made in
    let h = rw e at c.in_err-rows-2.ensures in
    let next = power_next base i (i + 1) (omega arith) refl in
    rw (p.1, p.2)
    (stops_power (listed base) (i + 1) c.args.times _ (omega arith) (omega arith)
    (stops_same _ _ _ next.1 (stops_right (power i (listed base)).products (all_pairs (power i (listed base)).vectors base) _ h)))

pub loop-i-preserved : goal.loop-i-preserved
loop-i-preserved c =
    let base = c.args.base.now in
    let i = c.loop-i.i in
    let e = c.as_slice.ensures.value ∙ c.loop-i.invariant.made in
    let h = rw e at c.in_ok-rows-2.ensures in
    let next = power_next base i (i + 1) (omega arith) refl in
    record {
      made = h.0 ∙ next.0;
      fits = fit_same _ _ next.1 (fit_append (power i (listed base)).products (all_pairs (power i (listed base)).vectors base) c.loop-i.invariant.fits h.1);
    }
