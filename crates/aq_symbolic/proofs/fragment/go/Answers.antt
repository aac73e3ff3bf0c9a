use Rattle.aq_store.proofs.StopLemmas.{passed_on}
use Rattle.aq_symbolic.specs.Playing.{named_in, steps_for}
use Rattle.aq_symbolic.proofs.GoLemmas.{all_named, ends_fit, goes_from}
use Rattle.aq_symbolic.proofs.StopLemmas.{stopped_memory}
use Rattle.aq_symbolic.proofs.fragment.go.Goals as goal

pub alive-requires : goal.alive-requires
alive-requires g c =
    ends_fit g.L.Label.parts g.L.Label.part_count g.met.L.Label.all_parts c.args.body.now c.args.store.now c.play_through.new.store c.args.steps.now c.play_through.new.steps c.args.worlds.items c.in_ok-ends.ends.items c.requires.playable c.in_ok-ends.ensures.ok

pub returns-clause-worlds : goal.returns-clause-worlds
returns-clause-worlds g c =
    goes_from g.L.Label.parts g.L.Label.part_count g.met.L.Label.all_parts c.args.body.now c.args.store.now c.play_through.new.store c.args.steps.now c.play_through.new.steps c.args.worlds.items c.in_ok-ends.ends.items c.in-Ok.list.items c.in_ok-ends.ensures.ok c.in-Ok.ensures

pub returns-clause-steps : goal.returns-clause-steps
returns-clause-steps g c = c.in_ok-ends.ensures.ok.takes (named_in c.args.body.now) (all_named c.args.body.now)

pub returns-in_default-clause-steps : goal.returns-in_default-clause-steps
returns-in_default-clause-steps g c = c.in_ok-ends.ensures.ok.takes (named_in c.args.body.now) (all_named c.args.body.now)

pub returns-in_default-clause-refused : goal.returns-in_default-clause-refused
returns-in_default-clause-refused g c =
    stopped_memory c.args.steps.now c.play_through.new.steps (steps_for c.args.body.now c.args.worlds.items) (c.in_ok-ends.ensures.ok.takes (named_in c.args.body.now) (all_named c.args.body.now))

pub returns-in_err-ends-clause-steps : goal.returns-in_err-ends-clause-steps
returns-in_err-ends-clause-steps g c = (c.in_err-ends.ensures.err.stopped (named_in c.args.body.now) (all_named c.args.body.now)).cheap

pub returns-in_err-ends-clause-refused : goal.returns-in_err-ends-clause-refused
returns-in_err-ends-clause-refused g c =
    passed_on _ c.from_residual.result c.in_err-ends.field-0.0 c.from_residual.ensures (c.in_err-ends.ensures.err.stopped (named_in c.args.body.now) (all_named c.args.body.now))

pub returns-in_err-ends-clause-cause : goal.returns-in_err-ends-clause-cause
returns-in_err-ends-clause-cause g c = passed_on _ c.from_residual.result c.in_err-ends.field-0.0 c.from_residual.ensures c.in_err-ends.ensures.err.cause
