use Rattle.std.proofs.Common.{◌+◌, List, ◌∙◌, ap}
use Rattle.std.specs.List.{sum_by}
use Rattle.aq_prog.specs.declared.stmt.Stmt.{Stmt}
use Rattle.aq_sets.specs.Caps.{capped}
use Rattle.aq_obligations.specs.Enough.{statements, outcomes, mentioned_bits, words_of, weight_of}
use Rattle.aq_obligations.specs.declared.bound.BoundCase.{BoundCase}
use Rattle.aq_obligations.proofs.StepLaws.{cases_within, sum_told, sum_capped, suc_told, mentioned_told, enough_is}
use Rattle.aq_obligations.proofs.steps.enough_steps.Goals as goal

pub words_in-starts-requires : goal.words_in-starts-requires
words_in-starts-requires c =
    cases_within c.args.program.now c.args.sets.now c.args.obligation.now.from c.as_slice-from.result.now c.args.sizes.now c.as_slice-from.ensures c.requires.told c.requires.bound.from

pub words_in-goal-requires : goal.words_in-goal-requires
words_in-goal-requires c =
    cases_within c.args.program.now c.args.sets.now c.args.obligation.now.goal.cases c.as_slice-allowed.result.now c.args.sizes.now c.as_slice-allowed.ensures c.requires.told c.requires.bound.goal

pub weights_in-requires : goal.weights_in-requires
weights_in-requires c =
    cases_within c.args.program.now c.args.sets.now c.args.obligation.now.from c.as_slice-from.result.now c.args.sizes.now c.as_slice-from.ensures c.requires.told c.requires.bound.from

pub weights_in-requires-2 : goal.weights_in-requires-2
weights_in-requires-2 c =
    cases_within c.args.program.now c.args.sets.now c.args.obligation.now.goal.cases c.as_slice-allowed.result.now c.args.sizes.now c.as_slice-allowed.ensures c.requires.told c.requires.bound.goal

pub returns : goal.returns
returns c =
    let p = c.args.program.now in
    let s = c.args.sets.now in
    let o = c.args.obligation.now in
    let told = c.requires.told in
    let body = c.as_slice-fragment.ensures in
    let from = c.as_slice-from.ensures in
    let allowed = c.as_slice-allowed.ensures in
    let named = c.from.ensures ∙ c.bits_named-named.ensures ∙ mentioned_told p o in
    let drawn = c.outcomes_in.ensures ∙ ap (λ (l : List Stmt). capped (outcomes l)) body in
    let splits = c.capped_sum-splits.ensures ∙ ap (λ k. capped (c.outcomes_in.result + k)) named ∙ ap (λ k. capped (k + mentioned_bits p o)) drawn ∙ sum_capped (outcomes o.fragment) (mentioned_bits p o) in
    let more = suc_told c.statements_in.result c.capped_sum-statements.result (statements o.fragment) (c.statements_in.ensures ∙ ap (λ (l : List Stmt). capped (statements l)) body) c.capped_sum-statements.ensures in
    let starts = c.words_in-starts.ensures s told ∙ ap (λ (l : List BoundCase). capped (sum_by (words_of s) l)) from in
    let goals = c.words_in-goal.ensures s told ∙ ap (λ (l : List BoundCase). capped (sum_by (words_of s) l)) allowed in
    let first = c.weights_in.ensures s told ∙ ap (λ (l : List BoundCase). capped (sum_by (weight_of s) l)) from in
    let second = c.weights_in-2.ensures s told ∙ ap (λ (l : List BoundCase). capped (sum_by (weight_of s) l)) allowed in
    let weights = c.capped_sum-weights.ensures ∙ sum_told c.weights_in.result c.weights_in-2.result (sum_by (weight_of s) o.from) (sum_by (weight_of s) o.goal.cases) first second in
    enough_is p s o c.steps_by.result
    (c.steps_by.ensures (outcomes o.fragment + mentioned_bits p o) (sum_by (words_of s) o.from) _ (sum_by (words_of s) o.goal.cases) (sum_by (weight_of s) o.from + sum_by (weight_of s) o.goal.cases)
    splits starts more goals weights)
