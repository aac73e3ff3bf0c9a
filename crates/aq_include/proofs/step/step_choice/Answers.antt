use Rattle.std.proofs.Common.{refl, arith}
use Rattle.aq_include.proofs.ChildLemmas.{of-opened, opened-short}
use Rattle.aq_include.proofs.step.step_choice.Goals as goal

pub returns-clause-candidate : goal.returns-clause-candidate
returns-clause-candidate g c = λ d opened. record {
  number_is = refl;
  choice_is = refl;
  same_goal = refl;
  pairs = of-opened c.args.store.now d c.args.choice c.args.rel.now.pairs c.in_ok-pairs.pairs c.args.opened.now opened c.in_ok-pairs.ensures.same c.in_ok-pairs.ensures.short;
}

pub returns-clause-short : goal.returns-clause-short
returns-clause-short g c = omega (arith, c.in_ok-pairs.ensures.short, opened-short c.args.store.now c.args.choice c.args.opened.now, c.requires.count)
