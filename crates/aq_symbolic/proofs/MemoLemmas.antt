-- What one statement has made of nodes, as the table grows, and what it is of.
use Rattle.std.proofs.Common.{◌≡◌, ℕ, true, false, List, Option, Result, Ok, Err, OnOk, sym, ap, subst, ◌∙◌}
use Rattle.aq_ring.specs.Fractions.{Amplitude}
use Rattle.aq_prog.specs.Gates.{flip_gate}
use Rattle.aq_prog.specs.declared.gate.Gate.{Gate}
use Rattle.aq_prog.specs.declared.stmt.Guard.{Guard}
use Rattle.aq_prog.specs.declared.stmt.Stmt.{Stmt}
use Rattle.aq_prog.specs.declared.stmt.Stmt.TheVariants as stmt
use Rattle.aq_prog.specs.declared.stmt.Stmt.TheOpen.{Stmt-F}
use Rattle.aq_prog.specs.declared.stmt.Stmt.TheViews.{out-Stmt, out-roll-Stmt}
use Rattle.aq_store.specs.Nodes.{Extends}
use Rattle.aq_store.specs.declared.node.Node.{Node}
use Rattle.aq_gate_ops.proofs.GateLemmas.{acting_later, acting_new}
use Rattle.aq_measure_ops.proofs.ProjectionLemmas.{projecting_later, projecting_new}
use Rattle.aq_symbolic.specs.Memos.{AreFresh, AreLevelMemos, AreMemos, AreOutcomes}
use Rattle.aq_symbolic.specs.declared.memos.Memos.{Memos}

-- what holds at an Ok
pub ok_then : {T E : Type 0} {P Q : Type 0} (r : Result T E) → (P → Q) → OnOk r P → OnOk r Q
ok_then (Ok x) f h = f h
ok_then (Err e) f h = tt

pub ok_always : {T E : Type 0} {P : Type 0} (r : Result T E) → P → OnOk r P
ok_always (Ok x) p = p
ok_always (Err e) p = tt

-- ---- the outermost layer of a statement
pub gate_out : (s : Stmt) (g : Gate) → s ≡ stmt.Gate g → out-Stmt s ≡ Stmt-F.Gate g
gate_out s g e = ap out-Stmt (e ∙ sym (stmt.rolls-Gate g)) ∙ out-roll-Stmt (Stmt-F.Gate g)

pub measure_out : (s : Stmt) (qubit : ℕ) (bit : Option ℕ) → s ≡ stmt.Measure qubit bit → out-Stmt s ≡ Stmt-F.Measure qubit bit
measure_out s qubit bit e = ap out-Stmt (e ∙ sym (stmt.rolls-Measure qubit bit)) ∙ out-roll-Stmt (Stmt-F.Measure qubit bit)

pub reset_out : (s : Stmt) (qubit : ℕ) → s ≡ stmt.Reset qubit → out-Stmt s ≡ Stmt-F.Reset qubit
reset_out s qubit e = ap out-Stmt (e ∙ sym (stmt.rolls-Reset qubit)) ∙ out-roll-Stmt (Stmt-F.Reset qubit)

pub if_out : (s : Stmt) (g : Guard) (a b : List Stmt) → s ≡ stmt.If g a b → out-Stmt s ≡ Stmt-F.If g a b
if_out s g a b e = ap out-Stmt (e ∙ sym (stmt.rolls-If g a b)) ∙ out-roll-Stmt (Stmt-F.If g a b)

pub assume_out : (s : Stmt) (g : Guard) → s ≡ stmt.Assume g → out-Stmt s ≡ Stmt-F.Assume g
assume_out s g e = ap out-Stmt (e ∙ sym (stmt.rolls-Assume g)) ∙ out-roll-Stmt (Stmt-F.Assume g)

module _ {L : Type 0} (parts : L → List Amplitude) (count n : ℕ) where
  -- the memos of a statement, by its outermost layer
  pub memos_in : (table : List (Node L)) (memos : Memos) (s : Stmt) (x : Stmt-F Stmt) → out-Stmt s ≡ x → AreMemos parts count n table memos s → AreLevelMemos parts count n table memos x
  memos_in table memos s x e m = subst (λ (y : Stmt-F Stmt). AreLevelMemos parts count n table memos y) e m

  pub memos_out : (table : List (Node L)) (memos : Memos) (s : Stmt) (x : Stmt-F Stmt) → out-Stmt s ≡ x → AreLevelMemos parts count n table memos x → AreMemos parts count n table memos s
  memos_out table memos s x e m = subst (λ (y : Stmt-F Stmt). AreLevelMemos parts count n table memos y) (sym e) m

  -- ---- nothing is done
  outcomes_new : (table : List (Node L)) (memos : Memos) → AreFresh memos → (qubit : ℕ) → AreOutcomes parts count n table memos qubit
  outcomes_new table memos none qubit = record { zero = projecting_new parts qubit false n table memos.zero none.zero; other = projecting_new parts qubit true n table memos.other none.other }

  level_new : (table : List (Node L)) (memos : Memos) → AreFresh memos → (x : Stmt-F Stmt) → AreLevelMemos parts count n table memos x
  level_new table memos none (Stmt-F.Gate gate) = acting_new parts count gate n table memos.acting none.acting
  level_new table memos none (Stmt-F.Measure qubit bit) = outcomes_new table memos none qubit
  level_new table memos none (Stmt-F.Reset qubit) = record { outcomes = outcomes_new table memos none qubit; flip = acting_new parts count (flip_gate qubit) n table memos.acting none.acting }
  level_new table memos none (Stmt-F.If guard when_true when_false) = tt
  level_new table memos none (Stmt-F.While guard claim body line) = tt
  level_new table memos none (Stmt-F.Assert claim line) = tt
  level_new table memos none (Stmt-F.Assume guard) = tt

  pub memos_new : (table : List (Node L)) (memos : Memos) → AreFresh memos → (s : Stmt) → AreMemos parts count n table memos s
  memos_new table memos none s = level_new table memos none (out-Stmt s)

  -- ---- as the table grows
  outcomes_later : (old new : List (Node L)) → Extends old new → (memos : Memos) (qubit : ℕ) → AreOutcomes parts count n old memos qubit → AreOutcomes parts count n new memos qubit
  outcomes_later old new x memos qubit m = record { zero = projecting_later parts qubit false n old new x memos.zero m.zero; other = projecting_later parts qubit true n old new x memos.other m.other }

  level_later : (old new : List (Node L)) → Extends old new → (memos : Memos) (s : Stmt-F Stmt) → AreLevelMemos parts count n old memos s → AreLevelMemos parts count n new memos s
  level_later old new x memos (Stmt-F.Gate gate) m = acting_later parts count gate n old new x memos.acting m
  level_later old new x memos (Stmt-F.Measure qubit bit) m = outcomes_later old new x memos qubit m
  level_later old new x memos (Stmt-F.Reset qubit) m = record { outcomes = outcomes_later old new x memos qubit m.outcomes; flip = acting_later parts count (flip_gate qubit) n old new x memos.acting m.flip }
  level_later old new x memos (Stmt-F.If guard when_true when_false) m = tt
  level_later old new x memos (Stmt-F.While guard claim body line) m = tt
  level_later old new x memos (Stmt-F.Assert claim line) m = tt
  level_later old new x memos (Stmt-F.Assume guard) m = tt

  pub memos_later : (old new : List (Node L)) → Extends old new → (memos : Memos) (s : Stmt) → AreMemos parts count n old memos s → AreMemos parts count n new memos s
  memos_later old new x memos s m = level_later old new x memos (out-Stmt s) m
