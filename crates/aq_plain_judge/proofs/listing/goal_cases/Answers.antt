use Rattle.std.proofs.lemmas.Result.{err_from_is_err_and}
use Rattle.aq_sets.specs.Vectors.{products_of}
use Rattle.aq_obligations.specs.Asking.{products_in}
use Rattle.aq_plain_judge.specs.Listing.{HasWide}
use Rattle.aq_plain_judge.proofs.ListingLaws.{stops_too, wide_in}
use Rattle.aq_plain_judge.proofs.SearchLaws.{item_at}
use Rattle.aq_plain_judge.proofs.listing.goal_cases.Goals as goal

pub returns-in_err-listed-clause-err : goal.returns-in_err-listed-clause-err
returns-in_err-listed-clause-err c =
    let p = err_from_is_err_and c.from_residual.result c.from_residual.ensures.1 in
    let s = c.args.sets.now in
    let cases = c.args.cases.now in
    rw (p.1, p.2)
    (stops_too (HasWide (products_of s.exprs c.case-item.result.set)) (HasWide (products_in s cases)) _
    (wide_in s cases c.case-item.result (item_at cases c.loop-case.case-index c.case-item.result c.loop-case-test.true c.case-item.is)) c.in_err-listed.ensures.err)
