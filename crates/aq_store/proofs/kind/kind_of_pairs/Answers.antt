use Rattle.std.proofs.Common.{◌≡◌, ◌≢◌, ◌∙◌, ap, refl, true, false, true≢false, not, ℕ, length, arith, subst, sym, rules}
use denote.Enum.Bare.{sameb}
use Rattle.aq_store.specs.contracts.kind.Kind.{the_type}
use Rattle.aq_store.specs.declared.kind.Kind.{Kind}
use Rattle.aq_store.specs.declared.kind.Kind.TheVariants.{AlwaysZero, NeverZero, Unknown}
use Rattle.aq_store.specs.Kinds.{IsKindOfPair}
use Rattle.aq_store.proofs.KindLemmas.{before-none, before-more, some-run, run-within, runs-differ, runs-alike}
use Rattle.aq_store.proofs.kind.kind_of_pairs.Goals as goal

alike : (kind : Kind) → not (sameb the_type kind kind) ≡ false
alike AlwaysZero = refl
alike NeverZero = refl
alike Unknown = refl

differs : (a b : Kind) → not (sameb the_type a b) ≡ true → a ≢ b
differs a b e same = (let f = alike b in let g = ap (λ k. not (sameb the_type k b)) same in true≢false (sym e ∙ g ∙ f))

pub run-first-requires : goal.run-first-requires
run-first-requires c = some-run c.args.pairs.now c.requires.some

pub kind_of_pair-kind-requires-clause-left : goal.kind_of_pair-kind-requires-clause-left
kind_of_pair-kind-requires-clause-left c = (run-within (length c.args.kinds.now) c.args.pairs.now 0 c.run-first.result.1 c.run-first.result.0 c.requires.within c.run-first.ensures).0

pub kind_of_pair-kind-requires-clause-right : goal.kind_of_pair-kind-requires-clause-right
kind_of_pair-kind-requires-clause-right c = (run-within (length c.args.kinds.now) c.args.pairs.now 0 c.run-first.result.1 c.run-first.result.0 c.requires.within c.run-first.ensures).1

pub loop-index-init : goal.loop-index-init
loop-index-init c =
    let P = λ (p : ℕ × ℕ). IsKindOfPair c.args.kinds.now p c.kind_of_pair-kind.result in
    before-more P c.args.pairs.now 0 c.run-first.result.1 c.run-first.result.0 c.run-first.ensures c.kind_of_pair-kind.ensures (before-none P c.args.pairs.now)

pub kind_of_pair-requires-clause-left : goal.kind_of_pair-requires-clause-left
kind_of_pair-requires-clause-left c =
    (run-within (length c.args.kinds.now) c.args.pairs.now c.loop-index.index c.run-pair.result.1 c.run-pair.result.0 c.requires.within c.run-pair.ensures).0

pub kind_of_pair-requires-clause-right : goal.kind_of_pair-requires-clause-right
kind_of_pair-requires-clause-right c =
    (run-within (length c.args.kinds.now) c.args.pairs.now c.loop-index.index c.run-pair.result.1 c.run-pair.result.0 c.requires.within c.run-pair.ensures).1

pub returns-then-ne : goal.returns-then-ne
returns-then-ne c =
    runs-differ c.args.kinds.now c.args.pairs.now 0 c.loop-index.index c.run-first.result.1 c.run-pair.result.1 c.run-first.result.0 c.run-pair.result.0 c.kind_of_pair-kind.result c.kind_of_pair.result
    c.run-first.ensures c.run-pair.ensures c.kind_of_pair-kind.ensures c.kind_of_pair.ensures (λ e. differs c.kind_of_pair.result c.kind_of_pair-kind.result (sym c.ne.ensures ∙ c.if-ne.true) e)

pub loop-index-preserved : goal.loop-index-preserved
loop-index-preserved c =
    let P = λ (p : ℕ × ℕ). IsKindOfPair c.args.kinds.now p c.kind_of_pair-kind.result in
    let same : c.kind_of_pair.result ≡ c.kind_of_pair-kind.result = search rules in
    before-more P c.args.pairs.now c.loop-index.index c.run-pair.result.1 c.run-pair.result.0 c.run-pair.ensures
    (subst (IsKindOfPair c.args.kinds.now c.run-pair.result.0) same c.kind_of_pair.ensures) c.loop-index.invariant

pub returns : goal.returns
returns c =
    runs-alike c.args.kinds.now c.args.pairs.now 0 c.run-first.result.1 c.loop-index.index c.run-first.result.0 c.kind_of_pair-kind.result c.run-first.ensures
    (omega (arith, c.run_count-index-end.ensures, c.loop-index-test.false)) c.loop-index.invariant
