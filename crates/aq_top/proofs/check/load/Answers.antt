use Rattle.std.proofs.Common.{ℕ, List, Option, inr, ap₂, sym, ◌∙◌, subst}
use Rattle.aq_owing.specs.Made.{made_obligations}
use Rattle.aq_world.specs.Held.{Held}
use Rattle.aq_words.specs.Commands.{check_of}
use Rattle.aq_top.specs.Check.{ObligationFaultOf}
use Rattle.aq_top.specs.Reads.{ReadsProgram, ReadsSets}
use Rattle.aq_top.proofs.MadeLemmas.{loaded}
use Rattle.aq_top.proofs.check.load.Goals as goal

pub returns-in-Ok-clause-read : goal.returns-in-Ok-clause-read
returns-in-Ok-clause-read g c =
    let told = g.S.Shelf.meaning.holds c.args.shelf.now in
    let w = check_of c.args.words.now in
    let p = c.in_ok-program.program in
    let s = c.in_ok-sets.sets in
    let program = subst (λ (n : List ℕ). ReadsProgram told n p) c.as_str.ensures.value c.in_ok-program.ensures.read in
    let sets = subst (λ (n : List ℕ). ReadsSets told n s) c.as_str-2.ensures.value (subst (λ (h : Option Held). ReadsSets h c.as_str-2.result.now s) c.load_program.ensures.held c.in_ok-sets.ensures.read) in
    let names = ap₂ (λ (a b : List ℕ). made_obligations p s a b) (c.as_bytes.ensures.value ∙ c.as_str-3.ensures.value) (c.as_bytes-2.ensures.value ∙ c.as_str-4.ensures.value) in
    loaded told w p s c.in-Ok.obligations program sets (sym names ∙ c.in-Ok.ensures.made)

pub returns-clause-cause : goal.returns-clause-cause
returns-clause-cause g c =
    let told = g.S.Shelf.meaning.holds c.args.shelf.now in
    let w = check_of c.args.words.now in
    let p = c.in_ok-program.program in
    let s = c.in_ok-sets.sets in
    let f = c.in-Err.fault in
    let pre = c.as_bytes.ensures.value ∙ c.as_str-3.ensures.value in
    let post = c.as_bytes-2.ensures.value ∙ c.as_str-4.ensures.value in
    inr (inr (record {
      program = p;
      read = subst (λ (n : List ℕ). ReadsProgram told n p) c.as_str.ensures.value c.in_ok-program.ensures.read;
      sets = s;
      sets_read = subst (λ (n : List ℕ). ReadsSets told n s) c.as_str-2.ensures.value (subst (λ (h : Option Held). ReadsSets h c.as_str-2.result.now s) c.load_program.ensures.held c.in_ok-sets.ensures.read);
      first = f;
      fault = subst (λ (b : List ℕ). ObligationFaultOf p s w.pre b f) post (subst (λ (a : List ℕ). ObligationFaultOf p s a c.as_bytes-2.result.now f) pre c.in-Err.ensures.made);
      tells = c.refused_obligations.ensures;
    }))
