use Rattle.std.proofs.Common.{◌<◌, ◌≤◌, ◌∙◌, ◌++◌, ◌∷◌, [], length, ap, sym, take, List, ℕ, arith}
use Rattle.std.specs.Prelude.{map}
use Rattle.std.proofs.lemmas.List.{map_more, take_all}
use Rattle.aq_sets.specs.Sizes.{united_shape}
use Rattle.aq_sets.specs.Caps.{capped}
use Rattle.aq_sets.proofs.SizeLaws.{length-united_shape}
use Rattle.aq_sets.proofs.sizes.united.Goals as goal

pub loop-i-preserved : goal.loop-i-preserved
loop-i-preserved c =
    let n = length-united_shape c.args.left.now c.args.right.now c.requires in
    let lt : c.loop-i.i < length (united_shape c.args.left.now c.args.right.now) = omega arith in
    c.in_ok-push.ensures.ok ∙ ap (λ (xs : List ℕ). xs ++ c.united_at.result ∷ []) c.loop-i.invariant
    ∙ ap (λ (x : ℕ). map capped (take c.loop-i.i (united_shape c.args.left.now c.args.right.now)) ++ x ∷ []) c.united_at.ensures
    ∙ sym (map_more capped (united_shape c.args.left.now c.args.right.now) c.loop-i.i 0 lt)

pub returns : goal.returns
returns c =
    let n = length-united_shape c.args.left.now c.args.right.now c.requires in
    let all : length (united_shape c.args.left.now c.args.right.now) ≤ c.loop-i.i = omega arith in
    c.loop-i.invariant ∙ ap (map capped) (take_all c.loop-i.i (united_shape c.args.left.now c.args.right.now) all)
