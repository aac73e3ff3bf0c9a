use Rattle.std.proofs.Common.{rules, ◌≡◌, ◌∙◌, ◌++◌, List, ◌∷◌, length, sym, ap, subst}
use Rattle.std.proofs.lemmas.List.{append_assoc}
use Rattle.aq_ring.specs.Fractions.{Amplitude}
use Rattle.aq_store.specs.Nodes.{tree}
use Rattle.aq_decide.specs.Reading.{Reads}
use Rattle.aq_decide.proofs.ReadingLemmas.{below, both_entries, leaf, leaf_entry}
use Rattle.aq_decide.proofs.reading.+add_entries.Goals as goal

pub label-requires : goal.label-requires
label-requires t c = leaf c.args.store.now c.args.word.now c.args.id c.in_default.ensures.cases c.requires

pub returns-in_default : goal.returns-in_default
returns-in_default t c =
    let label = leaf_entry c.args.store.now c.args.word.now c.args.id c.label.result c.in_default.ensures.cases c.label.ensures in
    c.in_ok-push.ensures.items ∙ ap (λ (l : List Amplitude). c.args.entries.now.items ++ l) (sym label)

pub pair-left-requires : goal.pair-left-requires
pair-left-requires t c =
    let some : c.args.word.now ≡ c.in-Some.choice.now ∷ c.in-Some.rest.now = search rules in
    (below c.args.store.now c.in-Some.choice.now c.in-Some.rest.now c.args.id (subst (λ w. Reads c.args.store.now w c.args.id) some c.requires)).0

pub add_entries-requires : goal.add_entries-requires
add_entries-requires t c =
    let some : c.args.word.now ≡ c.in-Some.choice.now ∷ c.in-Some.rest.now = search rules in
    let both = (below c.args.store.now c.in-Some.choice.now c.in-Some.rest.now c.args.id (subst (λ w. Reads c.args.store.now w c.args.id) some c.requires)).1 c.pair-left.result c.pair-left.ensures in
    let long = ap length some in
    let reads = both.0 in
    search rules

pub add_entries-requires-2 : goal.add_entries-requires-2
add_entries-requires-2 t c =
    let some : c.args.word.now ≡ c.in-Some.choice.now ∷ c.in-Some.rest.now = search rules in
    let both = (below c.args.store.now c.in-Some.choice.now c.in-Some.rest.now c.args.id (subst (λ w. Reads c.args.store.now w c.args.id) some c.requires)).1 c.pair-left.result c.pair-left.ensures in
    let long = ap length some in
    let reads = both.1 in
    search rules

pub returns : goal.returns
returns t c =
    let some : c.args.word.now ≡ c.in-Some.choice.now ∷ c.in-Some.rest.now = search rules in
    let table = c.args.store.now in
    let both = both_entries table c.in-Some.choice.now c.in-Some.rest.now c.args.id c.pair-left.result c.pair-left.ensures in
    let left = tree table c.in-Some.rest.now c.pair-left.result.0 in
    let right = tree table c.in-Some.rest.now c.pair-left.result.1 in
    c.in_ok-add_entries-2.ensures ∙ ap (λ (l : List Amplitude). l ++ right) c.in_ok-add_entries.ensures ∙ append_assoc c.args.entries.now.items left right
    ∙ ap (λ (l : List Amplitude). c.args.entries.now.items ++ l) (sym both ∙ ap (λ w. tree table w c.args.id) (sym some))
