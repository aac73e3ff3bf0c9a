use Rattle.std.proofs.Common.{◌-◌, ◌≤◌, length, take, drop}
use Rattle.std.specs.Prelude.{All}
use Rattle.aq_lex.specs.Stands.{Stands}
use Rattle.aq_set_parse.proofs.CutLemmas.{Carries}
use Rattle.aq_set_parse.proofs.lexer.tokens_of_sets.Given as goal

abbrev pub invariant-loop-cursor : goal.invariant-loop-cursor
invariant-loop-cursor l = record {
  within : l.cursor.offset ≤ length l.source;
  stands : Stands l.cursor (take l.cursor.offset l.source);
  spans : All (λ t. (t.start ≤ t.end) × (t.end ≤ length l.source)) l.list.items;
  carries : Carries l.source (take l.cursor.offset l.source) (drop l.cursor.offset l.source) l.list.items;
}

abbrev pub decreases-loop-cursor : goal.decreases-loop-cursor
decreases-loop-cursor l = length l.source - l.cursor.offset
