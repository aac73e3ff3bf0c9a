use Rattle.std.proofs.Common.{◌≤◌, ◌-◌, [], arith, length, take, drop, sym, ◌∙◌, ap, Ok, subst, List, ℕ, refl}
use Rattle.std.proofs.lemmas.List.{take_rest, append-nil, length-take-le, length-drop}
use Rattle.std.specs.Prelude.{All}
use Rattle.std.proofs.lemmas.List.Elements.{All-push}
use Rattle.aq_set_parse.specs.declared.token.SetToken.{SetToken}
use Rattle.aq_lex.specs.Stands.{Stands}
use Rattle.aq_set_parse.proofs.CutSteps.{Turn, turn_stands, turn_none, turn_some, turn_fault, at_end}
use Rattle.aq_set_parse.proofs.lexer.tokens_of_sets.Goals as goal

pub returns-in-Err-clause-fault : goal.returns-in-Err-clause-fault
returns-in-Err-clause-fault c = (c.valid_up_to.result, rw c.valid_up_to.ensures c.in-Err.ensures.cases.1, c.place.ensures _ (c.past-cursor.ensures.stands [] c.start.ensures))

pub returns-in-Err-reading-clause-fault : goal.returns-in-Err-reading-clause-fault
returns-in-Err-reading-clause-fault c =
    let source = c.args.source.now in
    let off = c.loop-cursor.cursor.offset in
    let rest = take (length source - off) (drop off source) in
    let after = c.past-next.ensures.stands (take off source) c.loop-cursor.invariant.stands in
    let len = length-take-le c.set_front-found.result.len rest c.set_front-found.ensures.within.1 in
    let turn : Turn source c.loop-cursor.cursor c.past-next.result c.set_front-found.result rest = record {
      rest_is = take_rest source off;
      inside = c.loop-cursor-test.true;
      stands = c.loop-cursor.invariant.stands;
      found = c.set_front-found.ensures.value;
      within = c.set_front-found.ensures.within.1;
      after = after;
      offset = omega arith;
    } in
    turn_fault source _ _ _ rest _ _ c.in_default.ensures.cases.1 turn c.loop-cursor.invariant.carries (sym (c.in-Err-reading.ensures.value _ _ c.loop-cursor.invariant.stands after))

pub loop-cursor-preserved-in-Ok-None : goal.loop-cursor-preserved-in-Ok-None
loop-cursor-preserved-in-Ok-None c =
    let source = c.args.source.now in
    let off = c.loop-cursor.cursor.offset in
    let rest = take (length source - off) (drop off source) in
    let after = c.past-next.ensures.stands (take off source) c.loop-cursor.invariant.stands in
    let len = length-take-le c.set_front-found.result.len rest c.set_front-found.ensures.within.1 in
    let is = take_rest source off in
    let turn : Turn source c.loop-cursor.cursor c.past-next.result c.set_front-found.result rest = record {
      rest_is = is;
      inside = c.loop-cursor-test.true;
      stands = c.loop-cursor.invariant.stands;
      found = c.set_front-found.ensures.value;
      within = c.set_front-found.ensures.within.1;
      after = after;
      offset = omega arith;
    } in record {
      within = omega (arith, ap length is, length-drop off source);
      stands = turn_stands source _ _ _ rest turn;
      spans = c.loop-cursor.invariant.spans;
      carries = turn_none source _ _ _ rest _ turn c.loop-cursor.invariant.carries (sym (c.in-Ok-None.ensures.value _ _ c.loop-cursor.invariant.stands after) ∙ ap Ok c.in-Ok-None.field-0-is);
    }

pub loop-cursor-preserved : goal.loop-cursor-preserved
loop-cursor-preserved c =
    let source = c.args.source.now in
    let off = c.loop-cursor.cursor.offset in
    let rest = take (length source - off) (drop off source) in
    let after = c.past-next.ensures.stands (take off source) c.loop-cursor.invariant.stands in
    let len = length-take-le c.set_front-found.result.len rest c.set_front-found.ensures.within.1 in
    let is = take_rest source off in
    let turn : Turn source c.loop-cursor.cursor c.past-next.result c.set_front-found.result rest = record {
      rest_is = is;
      inside = c.loop-cursor-test.true;
      stands = c.loop-cursor.invariant.stands;
      found = c.set_front-found.ensures.value;
      within = c.set_front-found.ensures.within.1;
      after = after;
      offset = omega arith;
    } in record {
      within = omega (arith, ap length is, length-drop off source);
      stands = turn_stands source _ _ _ rest turn;
      spans =
          let items = rw c.if-is_err.ensures.negation at c.push.ensures.items in
          let span = rw c.in-Ok-Some.field-0-is at c.in-Ok-Some.ensures.span in
          let P : SetToken → Type 0 = λ t. (t.start ≤ t.end) × (t.end ≤ length source) in
          let Q : List SetToken → Type 0 = All P in
          subst Q (sym items) (All-push P c.loop-cursor.list.items c.in-Ok-Some.token c.loop-cursor.invariant.spans (omega (arith, span.0, span.1), omega (arith, span.1, ap length is, length-drop off source)));
      carries = turn_some source _ _ _ rest _ _ c.in-Ok-Some.token turn c.loop-cursor.invariant.carries (sym (c.in-Ok-Some.ensures.value _ _ c.loop-cursor.invariant.stands after) ∙ ap Ok c.in-Ok-Some.field-0-is)
          (rw c.if-is_err.ensures.negation at c.push.ensures.items);
    }

pub returns-clause-tokens : goal.returns-clause-tokens
returns-clause-tokens c =
    let source = c.args.source.now in
    let off = c.loop-cursor.cursor.offset in
    let P : List ℕ → Type 0 = λ t. Stands c.loop-cursor.cursor t in (
      refl,
      at_end source c.loop-cursor.cursor c.loop-cursor.list.items _ c.token.result c.in_default.ensures.cases.1 c.loop-cursor-test.false c.loop-cursor.invariant.carries
          (c.token.ensures.token (take off source) [] c.loop-cursor.invariant.stands (subst P (sym (append-nil (take off source))) c.loop-cursor.invariant.stands))
          (rw c.if-is_err-2.ensures.negation at c.push-2.ensures.items),
    )
