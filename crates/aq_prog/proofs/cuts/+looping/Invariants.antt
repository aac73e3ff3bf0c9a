use Rattle.std.proofs.Common.{◌≡◌, drop}
use Rattle.std.specs.List.{list_any}
use Rattle.aq_prog.specs.Cuts.{has_loop}
use Rattle.aq_prog.proofs.cuts.+looping.Given as goal

-- all statements have one where those that are left do
abbrev pub invariant-has_loop-loop-stmt : goal.invariant-has_loop-loop-stmt
invariant-has_loop-loop-stmt l = list_any has_loop (drop l.stmt-index l.body) ≡ list_any has_loop l.body
