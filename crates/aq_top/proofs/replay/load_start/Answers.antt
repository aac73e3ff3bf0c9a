use Rattle.std.proofs.Common.{ℕ, List, Option, subst, ◌∙◌}
use Rattle.aq_world.specs.Held.{Held}
use Rattle.aq_words.specs.Commands.{replay_of}
use Rattle.aq_top.specs.Reads.{ReadFailedOf, ReadsProgram, ReadsSets}
use Rattle.aq_top.specs.Replay.{HasStateFault}
use Rattle.aq_top.proofs.ReplayLemmas.{no_state}
use Rattle.aq_top.proofs.replay.load_start.Goals as goal

pub returns-clause-cause : goal.returns-clause-cause
returns-clause-cause g c =
    let told = g.S.Shelf.meaning.holds c.args.shelf.now in
    let failed = ReadFailedOf g.S.Shelf.meaning c.args.shelf.now c.load_sets.new.shelf in
    let w = replay_of c.args.words.now in
    let p = c.in_ok-program.program in
    let s = c.in_ok-sets.sets in
    let program = subst (λ (n : List ℕ). ReadsProgram told n p) c.as_str.ensures.value c.in_ok-program.ensures.read in
    let sets = subst (λ (n : List ℕ). ReadsSets told n s) c.as_str-2.ensures.value (subst (λ (h : Option Held). ReadsSets h c.as_str-2.result.now s) c.load_program.ensures.held c.in_ok-sets.ensures.read) in
    let cause = subst (λ (n : List ℕ). HasStateFault p s n c.in-Err.fault) (c.as_bytes.ensures.value ∙ c.as_str-3.ensures.value) c.in-Err.ensures.fault in
    no_state told failed w p s c.in-Err.fault c.as_str-in-Err.result.now _ c.refused_state.result program sets cause c.as_str-in-Err.ensures.value c.name-in-Err.ensures c.refused_state.ensures
