use Rattle.std.proofs.Common.{◌+◌, ◌*◌, ◌<◌, ◌++◌, ◌∷◌, [], Some, None, ap, ap₂, sym, ◌∙◌, arith}
use Rattle.aq_prog.specs.declared.stmt.Stmt.TheVariants as stmts
use Rattle.aq_obligations.specs.Owing.{fresh, owed}
use Rattle.aq_obligations.specs.declared.kind.Kind.TheVariants as kinds
use Rattle.aq_owing.specs.Made.{made}
use Rattle.aq_owing.specs.Making.{here_of, owed_from}
use Rattle.aq_owing.proofs.WeightLaws.{weight_of, weight_append, weight_at, branch_weight, loop_weight, below_weight, there}
use Rattle.aq_owing.proofs.OweLaws.{on_ok, assumed, plain_on, asserted_on, looped_on, branched_on}
use Rattle.aq_owing.proofs.owe.+owing.Goals as goal

pub owe_branch-owe_all-requires : goal.owe_branch-owe_all-requires
owe_branch-owe_all-requires t c =
    let same = ap weight_of (c.as_slice.ensures ∙ c.in_ok-body.ensures) in
    let both = weight_append c.args.branch.now c.args.rest.now in
    let less : 3 * weight_of c.as_slice.result.now + 1 < t = omega (arith, c.decreases, same, both) in
    (less, tt)

pub owe_branch-returns : goal.owe_branch-returns
owe_branch-returns t c =
    let r = c.obligations.ensures.rules in
    let body = c.as_slice.ensures ∙ c.in_ok-body.ensures in
    on_ok c.owe_all.result c.owe_all.ensures (λ e. e ∙ ap (λ l. c.args.list.now ++ l)
    (ap₂ (λ b h. owed_from c.args.claims.now c.args.goal.now b h) body c.in_ok-here.ensures
    ∙ sym (assumed r c.args.claims.now c.args.goal.now c.args.guard (c.args.branch.now ++ c.args.rest.now) (here_of c.args.here))))

pub owe_one-owe_turn-requires : goal.owe_one-owe_turn-requires
owe_one-owe_turn-requires t c =
    let x = c.index-body-index.result in
    let below = below_weight c.args.index c.args.body.now x c.requires c.index-body-index.is in
    let inside = loop_weight x _ _ c.in-Loop.inner.now _ c.in-Loop.ensures in
    let less : 3 * weight_of c.in-Loop.inner.now + 2 < t = omega (arith, c.decreases, below, inside) in
    (less, tt)

pub owe_one-owe_branch-requires : goal.owe_one-owe_branch-requires
owe_one-owe_branch-requires t c =
    let x = c.index-body-index.result in
    let below = weight_at c.args.index c.args.body.now x c.requires c.index-body-index.is in
    let inside = branch_weight x _ c.in-Branch.yes.now c.in-Branch.no.now c.in-Branch.ensures.0 in
    let rest = ap weight_of c.behind-rest.ensures in
    let less : 3 * (weight_of c.in-Branch.yes.now + weight_of c.behind-rest.result.now) + 2 < t = omega (arith, c.decreases, below, inside, rest) in
    (less, tt)

pub owe_one-owe_branch-requires-in-Branch : goal.owe_one-owe_branch-requires-in-Branch
owe_one-owe_branch-requires-in-Branch t c =
    let x = c.index-body-index.result in
    let below = weight_at c.args.index c.args.body.now x c.requires c.index-body-index.is in
    let inside = branch_weight x _ c.in-Branch.yes.now c.in-Branch.no.now c.in-Branch.ensures.0 in
    let rest = ap weight_of c.behind-rest.ensures in
    let less : 3 * (weight_of c.in-Branch.no.now + weight_of c.behind-rest.result.now) + 2 < t = omega (arith, c.decreases, below, inside, rest) in
    (less, tt)

pub owe_one-returns-in_ok-append-in-Plain : goal.owe_one-returns-in_ok-append-in-Plain
owe_one-returns-in_ok-append-in-Plain t c =
    let x = c.index-body-index.result in
    let h = here_of c.args.here in
    let copy = c.in_ok-copy-in-Plain.ensures ∙ c.alone.ensures x (there c.args.body.now c.args.index x c.requires c.index-body-index.is) in
    let fragment = c.in_ok-append-in-Plain.ensures ∙ ap (λ l. h.fragment ++ l) copy in
    ap (λ l. c.args.list.now ++ l)
    (plain_on c.obligations.ensures.rules c.args.claims.now c.args.goal.now c.args.body.now c.args.index x h _ c.requires c.index-body-index.is c.in-Plain.ensures
    (ap (λ f. here_of (record { start = h.start; from = h.from; given = h.given; fragment = f })) fragment))

pub owe_one-returns-in_ok-next-in-Assertion : goal.owe_one-returns-in_ok-next-in-Assertion
owe_one-returns-in_ok-next-in-Assertion t c =
    let x = c.index-body-index.result in
    let h = here_of c.args.here in
    let cases = c.claim_at-cases.ensures in
    asserted_on c.obligations.ensures.rules c.args.claims.now c.args.goal.now c.args.body.now c.args.index x h _ c.in-Assertion.claim c.in-Assertion.line c.args.list.now _
    c.requires c.index-body-index.is c.in-Assertion.ensures
    (c.in_ok-next-in-Assertion.ensures ∙ ap (λ l. fresh l None) cases)
    (c.in_ok-owe-in-Assertion.ensures ∙ ap (λ l. c.args.list.now ++ made (owed kinds.Assert c.in-Assertion.line l h) ∷ []) cases)

pub owe_one-returns-in_ok-next-in-Loop : goal.owe_one-returns-in_ok-next-in-Loop
owe_one-returns-in_ok-next-in-Loop t c =
    let x = c.index-body-index.result in
    let h = here_of c.args.here in
    let cases = c.claim_at-cases-in-Loop.ensures in
    looped_on c.obligations.ensures.rules c.args.claims.now c.args.goal.now c.args.body.now c.args.index x h _ c.in-Loop.guard c.in-Loop.claim c.in-Loop.inner.now c.in-Loop.line c.args.list.now _ _
    c.requires c.index-body-index.is c.in-Loop.ensures
    (c.in_ok-next-in-Loop.ensures ∙ ap₂ (λ l g. fresh l (Some g)) cases c.opposite.ensures)
    (c.in_ok-owe-in-Loop.ensures ∙ ap (λ l. c.args.list.now ++ made (owed kinds.Entry c.in-Loop.line l h) ∷ []) cases)
    c.in_ok-owe_turn-in-Loop.ensures

pub owe_one-returns-in_ok-owe_branch-in-Branch-2 : goal.owe_one-returns-in_ok-owe_branch-in-Branch-2
owe_one-returns-in_ok-owe_branch-in-Branch-2 t c =
    let x = c.index-body-index.result in
    let h = here_of c.args.here in
    branched_on c.obligations.ensures.rules c.args.claims.now c.args.goal.now c.args.body.now c.args.index x h _ c.in-Branch.guard c.in-Branch.yes.now c.in-Branch.no.now _ c.args.list.now _ _
    c.requires c.index-body-index.is c.in-Branch.ensures.0 c.in-Branch.ensures.1 c.in_ok-other-in-Branch.ensures c.behind-rest.ensures
    c.in_ok-owe_branch-in-Branch.ensures
    (c.in_ok-owe_branch-in-Branch-2.ensures ∙ ap (λ g. c.owe_branch.new.list ++ owed_from c.args.claims.now c.args.goal.now (stmts.Assume g ∷ (c.in-Branch.no.now ++ c.behind-rest.result.now)) (here_of c.in_ok-other-in-Branch.other)) c.opposite-in-Branch.ensures)
