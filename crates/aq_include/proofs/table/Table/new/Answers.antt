use Rattle.std.proofs.Common.{◌≡◌, ◌+◌, ℕ, List, [], ◌∷◌, ◌++◌, length, sym, ap, ◌∙◌, arith}
use Rattle.std.proofs.lemmas.List.{length-append}
use Rattle.aq_cert.specs.declared.cert.Macro.{Macro}
use Rattle.aq_cert.specs.declared.cert.Edge.{Edge}
use Rattle.aq_cert.specs.Rows.{row_length}
use Rattle.aq_include.proofs.IncludeLemmas.{empty-push}
use Rattle.aq_include.proofs.table.Table.new.Goals as goal

one-more : {X : Type 0} (xs ys : List (List X)) (row : List X) (n : ℕ) → ys ≡ xs ++ row ∷ [] → length xs ≡ n → length ys ≡ n + 1
one-more xs ys row n e h = ap (λ l. length l) e ∙ length-append xs (row ∷ []) ∙ ap (λ z. z + 1) h

still-empty : {X : Type 0} (xs ys : List (List X)) (row : List X) → ys ≡ xs ++ row ∷ [] → row ≡ [] → ((k : ℕ) → row_length xs k ≡ 0) → (k : ℕ) → row_length ys k ≡ 0
still-empty xs ys row e is f k = ap (λ l. row_length l k) (e ∙ ap (λ r. xs ++ r ∷ []) is) ∙ empty-push xs f k

pub loop-level-preserved : goal.loop-level-preserved
loop-level-preserved c = record {
  macros = one-more {X = Macro} c.loop-level.macros.items c.push.new.self.items c.new.result c.loop-level._level c.in_ok-push.ensures.items c.loop-level.invariant.macros;
  edges = one-more {X = List Edge} c.loop-level.edges.items c.push-in-loop-level.new.self.items c.new-in-loop-level.result c.loop-level._level c.in_ok-push-2.ensures.items c.loop-level.invariant.edges;
  no_macros = still-empty {X = Macro} c.loop-level.macros.items c.push.new.self.items c.new.result c.in_ok-push.ensures.items c.new.ensures c.loop-level.invariant.no_macros;
  no_edges = still-empty {X = List Edge} c.loop-level.edges.items c.push-in-loop-level.new.self.items c.new-in-loop-level.result c.in_ok-push-2.ensures.items c.new-in-loop-level.ensures c.loop-level.invariant.no_edges;
}

pub returns : goal.returns
returns c =
    let done : c.loop-level._level ≡ c.args.levels = omega (arith, c.loop-level-test.false, c.loop-level.auto._level-end) in
    let none = still-empty {X = Macro} c.loop-level.macros.items c.push-2.new.self.items c.new-2.result c.in_ok-push-3.ensures.items c.new-2.ensures c.loop-level.invariant.no_macros in
    record {
      even = record {
        rows = one-more {X = Macro} c.loop-level.macros.items c.push-2.new.self.items c.new-2.result c.loop-level._level c.in_ok-push-3.ensures.items c.loop-level.invariant.macros ∙ ap (λ z. z + 1) done;
        edge_rows = c.loop-level.invariant.edges ∙ done;
        inner = λ k less. none k ∙ sym (c.loop-level.invariant.no_edges k);
        last = none c.args.levels ∙ sym (ap (λ l. length l) c.new-3.ensures);
      };
      none = none;
    }
