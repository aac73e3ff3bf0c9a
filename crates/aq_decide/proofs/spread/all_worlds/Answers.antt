use Rattle.std.proofs.Common.{rules, ◌≡◌, ◌+◌, ◌≤◌, List, [], slice_get, length, get_or, refl, ap, sym, subst, ◌∙◌, arith}
use Rattle.aq_store.proofs.StopLemmas.{passed_on}
use Rattle.aq_obligations.specs.Asking.{meaning_of}
use Rattle.aq_obligations.specs.Wide.{WideGate}
use Rattle.aq_obligations.specs.declared.bound.BoundCase.{BoundCase}
use Rattle.aq_symbolic.specs.declared.kept.World.{World}
use Rattle.aq_decide.proofs.SpreadLemmas.{IsDone, all_done, as_many, done_fits, done_more, done_none, done_stops, done_within, done_within_more, done_worlds, source_at}
use Rattle.aq_decide.proofs.spread.all_worlds.Goals as goal

pub loop-index-init : goal.loop-index-init
loop-index-init c =
    subst (λ (l : List World). IsDone c.args.program.now c.args.sets.now c.args.obligation.now c.args.store.now c.args.store.now c.args.steps.now c.args.steps.now [] l) (sym c.new-list.ensures.items)
    (done_none c.args.program.now c.args.sets.now c.args.obligation.now c.args.store.now c.args.steps.now c.requires.paid)

pub bounds-cases-index : goal.bounds-cases-index
bounds-cases-index c =
    let long = as_many c.args.sets.now c.args.store.now c.args.obligation.now.from c.args.sources.now c.requires.built in
    let same = ap (λ (l : List BoundCase). length l) c.as_slice-cases.ensures in
    omega (arith, c.loop-index-test.true, long, same)

pub worlds_of_case-requires-clause-listed : goal.worlds_of_case-requires-clause-listed
worlds_of_case-requires-clause-listed c =
    let number : c.in-Ok.number ≡ c.loop-index.index = search rules in
    let at = source_at c.args.sets.now c.args.store.now c.loop-index.store c.loop-index.invariant.grows.keeps c.args.obligation.now.from c.args.sources.now c.loop-index.index c.index-cases-index.result c.index-sources-index.result c.requires.built
    c.loop-index-test.true (subst (λ (l : List BoundCase). c.index-cases-index.result ≡ get_or l c.loop-index.index c.index-cases-index.result) c.as_slice-cases.ensures c.index-cases-index.is) c.index-sources-index.is in
    ap (slice_get c.args.obligation.now.from) number ∙ at.0

pub worlds_of_case-requires-clause-built : goal.worlds_of_case-requires-clause-built
worlds_of_case-requires-clause-built c =
    let at = source_at c.args.sets.now c.args.store.now c.loop-index.store c.loop-index.invariant.grows.keeps c.args.obligation.now.from c.args.sources.now c.loop-index.index c.index-cases-index.result c.index-sources-index.result c.requires.built
    c.loop-index-test.true (subst (λ (l : List BoundCase). c.index-cases-index.result ≡ get_or l c.loop-index.index c.index-cases-index.result) c.as_slice-cases.ensures c.index-cases-index.is) c.index-sources-index.is in
    at.1

pub returns-in_err-more-clause-grows : goal.returns-in_err-more-clause-grows
returns-in_err-more-clause-grows c =
    let at = source_at c.args.sets.now c.args.store.now c.loop-index.store c.loop-index.invariant.grows.keeps c.args.obligation.now.from c.args.sources.now c.loop-index.index c.index-cases-index.result c.index-sources-index.result c.requires.built
    c.loop-index-test.true (subst (λ (l : List BoundCase). c.index-cases-index.result ≡ get_or l c.loop-index.index c.index-cases-index.result) c.as_slice-cases.ensures c.index-cases-index.is) c.index-sources-index.is in
    let long = as_many c.args.sets.now c.args.store.now c.args.obligation.now.from c.args.sources.now c.requires.built in
    done_within_more c.args.program.now c.args.sets.now c.args.obligation.now c.args.store.now c.loop-index.store c.worlds_of_case.new.store c.args.steps.now c.loop-index.steps c.worlds_of_case.new.steps c.args.obligation.now.from
    c.loop-index.index c.index-cases-index.result c.loop-index.list.items (omega (arith, c.loop-index-test.true, long)) at.0 c.loop-index.invariant c.worlds_of_case.ensures.grows

pub returns-in_err-more-clause-stops : goal.returns-in_err-more-clause-stops
returns-in_err-more-clause-stops c =
    let at = source_at c.args.sets.now c.args.store.now c.loop-index.store c.loop-index.invariant.grows.keeps c.args.obligation.now.from c.args.sources.now c.loop-index.index c.index-cases-index.result c.index-sources-index.result c.requires.built
    c.loop-index-test.true (subst (λ (l : List BoundCase). c.index-cases-index.result ≡ get_or l c.loop-index.index c.index-cases-index.result) c.as_slice-cases.ensures c.index-cases-index.is) c.index-sources-index.is in
    let long = as_many c.args.sets.now c.args.store.now c.args.obligation.now.from c.args.sources.now c.requires.built in
    passed_on _ c.from_residual.result c.in_err-more.field-0.0 c.from_residual.ensures
    (done_stops c.args.program.now c.args.sets.now c.args.obligation.now c.args.store.now c.loop-index.store c.args.steps.now c.loop-index.steps c.args.obligation.now.from c.loop-index.index c.index-cases-index.result c.loop-index.list.items
    (WideGate (meaning_of c.args.program.now c.args.sets.now c.args.obligation.now)) c.in_err-more.field-0.0 (omega (arith, c.loop-index-test.true, long)) at.0 c.loop-index.invariant c.in_err-more.ensures.stops)

pub loop-index-preserved : goal.loop-index-preserved
loop-index-preserved c =
    let at = source_at c.args.sets.now c.args.store.now c.loop-index.store c.loop-index.invariant.grows.keeps c.args.obligation.now.from c.args.sources.now c.loop-index.index c.index-cases-index.result c.index-sources-index.result c.requires.built
    c.loop-index-test.true (subst (λ (l : List BoundCase). c.index-cases-index.result ≡ get_or l c.loop-index.index c.index-cases-index.result) c.as_slice-cases.ensures c.index-cases-index.is) c.index-sources-index.is in
    let long = as_many c.args.sets.now c.args.store.now c.args.obligation.now.from c.args.sources.now c.requires.built in
    done_more c.args.program.now c.args.sets.now c.args.obligation.now c.args.store.now c.loop-index.store c.worlds_of_case.new.store c.args.steps.now c.loop-index.steps c.worlds_of_case.new.steps c.args.obligation.now.from
    c.loop-index.index (c.loop-index.index + 1) c.index-cases-index.result c.loop-index.list.items c.in_ok-more.more.items c.append.new.self.items refl c.in-Ok-append.ensures.items (omega (arith, c.loop-index-test.true, long)) at.0
    c.loop-index.invariant c.in_ok-more.ensures.worlds c.in_ok-more.ensures.fits c.in_ok-more.ensures.few c.worlds_of_case.ensures.grows

pub returns-clause-worlds : goal.returns-clause-worlds
returns-clause-worlds c =
    let le : length c.args.sources.now ≤ c.loop-index.index = search rules in
    let ge : c.loop-index.index ≤ length c.args.sources.now = search rules in
    let d = all_done c.args.program.now c.args.sets.now c.args.obligation.now c.args.store.now c.loop-index.store c.args.steps.now c.loop-index.steps c.loop-index.index c.args.sources.now c.loop-index.list.items c.args.store.now c.requires.built le ge c.loop-index.invariant in
    done_worlds c.args.program.now c.args.sets.now c.args.obligation.now c.worlds.ensures.cover c.loop-index.store c.loop-index.list.items d.worlds

pub returns-clause-fits : goal.returns-clause-fits
returns-clause-fits c =
    let le : length c.args.sources.now ≤ c.loop-index.index = search rules in
    let ge : c.loop-index.index ≤ length c.args.sources.now = search rules in
    let d = all_done c.args.program.now c.args.sets.now c.args.obligation.now c.args.store.now c.loop-index.store c.args.steps.now c.loop-index.steps c.loop-index.index c.args.sources.now c.loop-index.list.items c.args.store.now c.requires.built le ge c.loop-index.invariant in
    done_fits c.args.program.now c.args.sets.now c.args.obligation.now c.worlds.ensures.gates c.requires.asked.bound.uncut d.fits

pub returns-clause-few : goal.returns-clause-few
returns-clause-few c =
    let le : length c.args.sources.now ≤ c.loop-index.index = search rules in
    let ge : c.loop-index.index ≤ length c.args.sources.now = search rules in
    (all_done c.args.program.now c.args.sets.now c.args.obligation.now c.args.store.now c.loop-index.store c.args.steps.now c.loop-index.steps c.loop-index.index c.args.sources.now c.loop-index.list.items c.args.store.now c.requires.built le ge c.loop-index.invariant).few

pub returns-clause-grows : goal.returns-clause-grows
returns-clause-grows c =
    done_within c.args.program.now c.args.sets.now c.args.obligation.now c.args.store.now c.loop-index.store c.args.steps.now c.loop-index.steps c.args.obligation.now.from c.loop-index.index c.loop-index.list.items c.loop-index.invariant

pub returns-in_default-clause-grows : goal.returns-in_default-clause-grows
returns-in_default-clause-grows c =
    done_within c.args.program.now c.args.sets.now c.args.obligation.now c.args.store.now c.loop-index.store c.args.steps.now c.loop-index.steps c.args.obligation.now.from c.loop-index.index c.loop-index.list.items c.loop-index.invariant

pub returns-in_default-append-clause-grows : goal.returns-in_default-append-clause-grows
returns-in_default-append-clause-grows c =
    let at = source_at c.args.sets.now c.args.store.now c.loop-index.store c.loop-index.invariant.grows.keeps c.args.obligation.now.from c.args.sources.now c.loop-index.index c.index-cases-index.result c.index-sources-index.result c.requires.built
    c.loop-index-test.true (subst (λ (l : List BoundCase). c.index-cases-index.result ≡ get_or l c.loop-index.index c.index-cases-index.result) c.as_slice-cases.ensures c.index-cases-index.is) c.index-sources-index.is in
    let long = as_many c.args.sets.now c.args.store.now c.args.obligation.now.from c.args.sources.now c.requires.built in
    done_within_more c.args.program.now c.args.sets.now c.args.obligation.now c.args.store.now c.loop-index.store c.worlds_of_case.new.store c.args.steps.now c.loop-index.steps c.worlds_of_case.new.steps c.args.obligation.now.from
    c.loop-index.index c.index-cases-index.result c.loop-index.list.items (omega (arith, c.loop-index-test.true, long)) at.0 c.loop-index.invariant c.worlds_of_case.ensures.grows
