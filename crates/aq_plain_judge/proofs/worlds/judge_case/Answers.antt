use Rattle.std.proofs.Common.{◌∙◌}
use Rattle.std.proofs.lemmas.Result.{err_from_is_err_and}
use Rattle.aq_sets.specs.Vectors.{products_of}
use Rattle.aq_obligations.specs.Asking.{meaning_of}
use Rattle.aq_obligations.specs.Wide.{IsWide}
use Rattle.aq_plain_judge.specs.Listing.{HasWide}
use Rattle.aq_plain_judge.proofs.ListingLaws.{listed_by, stops_too}
use Rattle.aq_plain_judge.proofs.ShowLaws.{case_bound, state_wide}
use Rattle.aq_plain_judge.proofs.worlds.judge_case.Goals as goal

pub returns-in_err-list-clause-err : goal.returns-in_err-list-clause-err
returns-in_err-list-clause-err c =
    let p = err_from_is_err_and c.from_residual.result c.from_residual.ensures.1 in
    let s = c.args.sets.now in
    let o = c.args.obligation.now in
    rw (p.1, p.2)
    (stops_too (HasWide (products_of s.exprs c.args.case.now.set)) (IsWide (meaning_of c.args.program.now s o)) _ (state_wide c.args.program.now s o c.args.case.now c.requires.listed) c.in_err-list.ensures.err)

pub worlds_of_case-requires-clause-vectors : goal.worlds_of_case-requires-clause-vectors
worlds_of_case-requires-clause-vectors c =
    listed_by c.args.program.now c.args.sets.now c.args.case.now _ (case_bound c.args.program.now c.args.sets.now c.args.obligation.now c.args.case.now c.requires.asked c.requires.listed) (c.in_ok-vectors.ensures ∙ c.in_ok-list.ensures.ok)
