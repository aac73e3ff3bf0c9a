-- The statements of a tree are valid for what is known behind them, by induction over the tree.
use Rattle.std.proofs.Common.{List, [], ◌∷◌, map, Ok, IfOk, Bool, sym, subst}
use Rattle.std.specs.List.{AllByRecursion}
use Rattle.aq_parse.specs.declared.tree.Item.{Item}
use Rattle.aq_parse.specs.declared.tree.Node.{Node}
use Rattle.aq_parse.specs.declared.tree.Node.TheOpen.{Node-F, Item-F}
use Rattle.aq_parse.specs.declared.tree.Node.TheFolds.{map-Node, map-Item, fold-Node, fold-roll-Node, fold-roll-Item, ind-Item}
use Rattle.aq_parse.specs.declared.tree.Node.TheViews.{roll-Node, roll-Item}
use Rattle.aq_prog.specs.declared.stmt.Stmt.{Stmt}
use Rattle.aq_prog.specs.declared.stmt.Stmt.TheVariants as stmt
use Rattle.aq_prog.specs.declared.stmt.Stmt.TheOpen.{Stmt-F}
use Rattle.aq_base.specs.Checks.{all_checked, ◌>>=◌}
use Rattle.aq_elab.specs.Known.{Known}
use Rattle.aq_elab.specs.Spots.{span_of}
use Rattle.aq_elab.specs.Calls.{gates_of_call}
use Rattle.aq_elab.specs.Statements.{step, declaring, measured, resets, NodeMeaning, Meaning, bits_declared, node_step, item_step, meaning, statements_of}
use Rattle.aq_elab.specs.declared.scope.Role.TheVariants as roles
use Rattle.aq_elab.proofs.ValidKnown.{IsSound}
use Rattle.aq_elab.proofs.ValidStatements.{IsFine, IsGoodNode, IsGood, plain-good, declaration-good, include-fine, qubits-fine, bits-fine, measured-fine, resets-fine, barrier-fine, call-fine, branching-good, looping-good, in_order-good, item_step-good}

abbrev node_meaning : Node → NodeMeaning
node_meaning = fold-Node NodeMeaning Meaning node_step item_step

module _ (Q : Stmt-F Stmt → Type 0) where
  abbrev GoodNode : Type 0
  GoodNode = (d : Node) × IsGoodNode Q (node_meaning d)

  abbrev GoodItem : Type 0
  GoodItem = (d : Item) × IsGood Q (meaning d)

  body-good : (items : List GoodItem) → AllByRecursion (IsGood Q) (map meaning (map (λ (e : GoodItem). e.0) items))
  body-good [] = tt
  body-good (e ∷ es) = (e.1, body-good es)

  abbrev nodes_of : Node-F GoodNode GoodItem → Node-F Node Item
  nodes_of = map-Node GoodNode GoodItem Node Item (λ (e : GoodNode). e.0) (λ (e : GoodItem). e.0)

  abbrev meanings_of : Node-F Node Item → Node-F NodeMeaning Meaning
  meanings_of = map-Node Node Item NodeMeaning Meaning node_meaning meaning

  node-good : (y : Node-F GoodNode GoodItem) → IsGoodNode Q (node_step (meanings_of (nodes_of y)))
  node-good Node-F.Include = declaration-good Q (λ known. Ok (step known [])) (include-fine Q)
  node-good (Node-F.Qubits name size) = declaration-good Q (λ known. declaring roles.Qubit name size known >>= λ k. Ok (step k [])) (qubits-fine Q name size)
  node-good (Node-F.Bits name size from) = declaration-good Q (bits_declared name size from) (bits-fine Q name size from)
  node-good (Node-F.Measure from into into_first) = plain-good Q (λ known. measured known from into into_first) (λ known sound. measured-fine Q known from into into_first sound)
  node-good (Node-F.Reset spot) = plain-good Q (λ known. resets known spot) (λ known sound. resets-fine Q known spot sound)
  node-good (Node-F.Barrier spots) = plain-good Q (λ known. all_checked (span_of known roles.Qubit) spots >>= λ spans. Ok []) (λ known sound. barrier-fine Q known spots)
  node-good (Node-F.Call name angle spots) = plain-good Q (λ known. gates_of_call known name angle spots >>= λ gates. Ok (map stmt.Gate gates)) (λ known sound. call-fine Q known name angle spots sound)
  node-good (Node-F.If test when_true when_false) =
      let first : List Meaning = map meaning (map (λ (e : GoodItem). e.0) when_true) in
      let second : List Meaning = map meaning (map (λ (e : GoodItem). e.0) when_false) in
      branching-good Q test first second (in_order-good Q first (body-good when_true)) (in_order-good Q second (body-good when_false))
  node-good (Node-F.While test body) =
      let inner : List Meaning = map meaning (map (λ (e : GoodItem). e.0) body) in
      looping-good Q test inner (in_order-good Q inner (body-good body))

  meaning-good : (d : Item) → IsGood Q (meaning d)
  meaning-good =
      ind-Item (λ (d : Node). IsGoodNode Q (node_meaning d)) (λ (d : Item). IsGood Q (meaning d))
      (λ x y is. subst (λ (z : Node-F Node Item). IsGoodNode Q (node_meaning (roll-Node z))) is
      (subst (IsGoodNode Q) (sym (fold-roll-Node NodeMeaning Meaning node_step item_step (nodes_of y))) (node-good y)))
      (λ x y is. subst (λ (z : Item-F Node Item). IsGood Q (meaning (roll-Item z))) is
      (subst (IsGood Q) (sym (fold-roll-Item NodeMeaning Meaning node_step item_step (map-Item GoodNode GoodItem Node Item (λ (e : GoodNode). e.0) (λ (e : GoodItem). e.0) y)))
      (item_step-good Q (record { notes = y.notes; at = y.at; node = node_meaning y.node.0 }) y.node.1)))

  items-good : (items : List Item) → AllByRecursion (IsGood Q) (map meaning items)
  items-good [] = tt
  items-good (item ∷ items) = (meaning-good item, items-good items)

  pub statements-good : (items : List Item) (inside : Bool) (known : Known) → IsSound known → IfOk (statements_of inside items known) (IsFine Q known)
  statements-good items = in_order-good Q (map meaning items) (items-good items)
