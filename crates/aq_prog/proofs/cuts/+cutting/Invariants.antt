use Rattle.std.proofs.Common.{◌≡◌, drop}
use Rattle.std.specs.List.{list_any}
use Rattle.aq_prog.specs.Cuts.{has_cut}
use Rattle.aq_prog.proofs.cuts.+cutting.Given as goal

-- all statements have one where those that are left do
abbrev pub invariant-has_cut-loop-stmt : goal.invariant-has_cut-loop-stmt
invariant-has_cut-loop-stmt l = list_any has_cut (drop l.stmt-index l.body) ≡ list_any has_cut l.body
