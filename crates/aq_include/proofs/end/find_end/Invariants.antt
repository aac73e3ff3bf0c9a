use Rattle.std.proofs.Common.{◌≡◌, ◌<◌, ℕ, [], take, length, sum_by, slice_get, None, Some, IfSome}
use Rattle.aq_cert.specs.declared.cert.Rel.{Rel}
use Rattle.aq_cert.specs.Macros.{IsRelated}
use Rattle.aq_include.specs.Costs.{Takes}
use Rattle.aq_include.specs.Least.{IsWideAt}
use Rattle.aq_include.proofs.end.find_end.Given as goal

abbrev pub invariant-loop-number : goal.invariant-loop-number
invariant-loop-number g l = record {
  none : l.wide ≡ None → (k : ℕ) (rel : Rel) → k < l.number → slice_get l.rels k ≡ Some rel → ¬ (IsRelated g.L.Label.parts l.store rel.pairs [] []);
  wide : IfSome l.wide (λ p. IsWideAt g.L.Label.parts l.store l.fn.here p.0 p.1);
  takes : Takes (sum_by (λ (r : Rel). length r.pairs) (take l.number l.rels)) l.fn.steps l.steps;
}
