use Rattle.std.proofs.Common.{◌≡◌, ◌<◌, get_or, vec_len, sym, ap, subst, ◌∙◌, arith}
use Rattle.std.proofs.lemmas.List.{get_or_default}
use Rattle.std.proofs.lemmas.Option.{slice_get_within, get_or_from_slice_get}
use Rattle.aq_store.specs.declared.lsta.Lsta.{Lsta}
use Rattle.aq_include.proofs.StepLemmas.{first-of}
use Rattle.aq_include.proofs.step.goal_choices.Goals as goal

pub bounds-goals-goal : goal.bounds-goals-goal
bounds-goals-goal c = slice_get_within c.args.goals.now c.args.goal c.requires.goal c.requires.listed

pub index-requires : goal.index-requires
index-requires c =
    let same : get_or c.args.goals.now c.args.goal c.index-goals-goal.result ≡ c.requires.goal =
    get_or_from_slice_get c.args.goals.now c.args.goal c.requires.goal c.index-goals-goal.result c.requires.listed in
    subst (λ (z : Lsta). c.args.level < vec_len z.shape) (sym same) (omega (arith, c.requires.within, c.requires.goal.shape.ok.0))

pub returns : goal.returns
returns c =
    let same : get_or c.args.goals.now c.args.goal c.index-goals-goal.result ≡ c.requires.goal =
    get_or_from_slice_get c.args.goals.now c.args.goal c.requires.goal c.index-goals-goal.result c.requires.listed in
    c.index.ensures ∙ ap (λ (z : Lsta). get_or z.shape.items c.args.level c.index.result.now) same
    ∙ get_or_default c.requires.goal.shape.items c.args.level c.index.result.now 0 c.requires.within
    ∙ sym (first-of _ _ _ c.requires.shape)
