use Rattle.std.proofs.Common.{Bool, take, ◌+◌, sym, subst, inl, inr, ⊎_elim}
use Rattle.aq_obligations.specs.Claims.{CaseHolds}
use Rattle.aq_obligations.specs.Worlds.{filled}
use Rattle.aq_plain_judge.specs.Finding.{WideCase}
use Rattle.aq_plain_judge.specs.Listing.{claim_of, claims_of}
use Rattle.aq_plain_judge.proofs.SearchLaws.{SoFar, any_at, nothing_here}
use Rattle.aq_plain_judge.proofs.find.find_in_goal.Goals as goal
use Rattle.aq_plain_judge.proofs.find.find_in_goal.Goals.{in-Nothing, in-Unclear}

pub returns-in-Goal : goal.returns-in-Goal
returns-in-Goal c =
    let Is = CaseHolds (filled c.args.bits.now) c.args.end.now.amps in
    ⊎_elim (λ z. inl z) (λ h. inr (any_at Is claim_of c.args.goal.now c.loop-case.case-index c.case-item.result c.loop-case-test.true c.case-item.is h)) c.in-Goal.ensures

pub loop-case-preserved : goal.loop-case-preserved
loop-case-preserved c =
    let Is = CaseHolds (filled c.args.bits.now) c.args.end.now.amps in
    let IsWide = WideCase (filled c.args.bits.now) c.args.end.now.amps in
    let all = claims_of c.args.goal.now in
    let done = claims_of (take (c.loop-case.case-index + 1) c.args.goal.now) in
    let i = c.loop-case.case-index in
    let x = c.case-item.result in
    elim c.match-find_in_case.branch [
      | in-Nothing w ↦ subst (λ (b : Bool). SoFar Is IsWide b all done) (sym w.wide-is)
          (nothing_here Is IsWide claim_of c.args.goal.now c.loop-case.wide i x c.loop-case-test.true c.case-item.is w.in-Nothing.ensures c.loop-case.invariant)
      | in-Unclear w ↦ subst (λ (b : Bool). SoFar Is IsWide b all done) (sym w.wide-is) (any_at IsWide claim_of c.args.goal.now i x c.loop-case-test.true c.case-item.is w.in-Unclear.ensures)
    ]
