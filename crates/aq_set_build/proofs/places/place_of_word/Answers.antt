use Rattle.std.proofs.Common.{rules, ◌≡◌, IfOk, length, sym, ap, subst, ◌∙◌}
use Rattle.aq_sets.specs.Sizes.{size_of, place}
use Rattle.aq_sets.specs.Caps.{capped}
use Rattle.aq_sets.proofs.PlaceLaws.{length-word, has_places}
use Rattle.aq_sets.proofs.SizeLaws.{has_shape}
use Rattle.aq_sets.proofs.ToldLaws.{gives_same}
use Rattle.aq_set_build.proofs.CoverLemmas.{valid_exprs}
use Rattle.aq_set_build.proofs.PlaceLemmas.{capped_small}
use Rattle.aq_set_build.proofs.places.place_of_word.Goals as goal

pub place_at-requires-clause-long : goal.place_at-requires-clause-long
place_at-requires-clause-long c =
    let v = valid_exprs c.args.sets.now c.requires.valid in
    let h : length c.args.word.now ≡ (size_of c.args.sets.now.exprs c.args.expr).qubits =
    length-word (size_of c.args.sets.now.exprs c.args.expr).shape c.args.word.now c.requires.word ∙ has_shape c.args.sets.now.exprs v c.args.expr c.requires.there in
    h ∙ ap (λ e. (size_of e c.args.expr).qubits) (sym c.as_slice.ensures)

pub place_at-requires-clause-valid : goal.place_at-requires-clause-valid
place_at-requires-clause-valid c = let v = valid_exprs c.args.sets.now c.requires.valid in search rules

pub returns-clause-exact : goal.returns-clause-exact
returns-clause-exact c = λ few.
    let v = valid_exprs c.args.sets.now c.requires.valid in
    let lt = has_places c.args.sets.now.exprs v c.args.expr c.requires.there c.args.word.now c.requires.word in
    gives_same c.place_at.result _ _ (capped_small (place c.args.sets.now.exprs c.args.expr c.args.word.now) (size_of c.args.sets.now.exprs c.args.expr).count lt few)
    (subst (λ e. IfOk c.place_at.result (λ told. told ≡ capped (place e c.args.expr c.args.word.now))) c.as_slice.ensures c.place_at.ensures.told)
