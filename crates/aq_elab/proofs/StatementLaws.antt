-- Statements behind their annotations.
use Rattle.std.proofs.Common.{◌≡◌, Bool, true, false, ◌&&◌, List, [], ◌++◌, None, Ok, Err, ℕ, ◌-◌, ◌≤◌, length, refl, sym, ap, ap₂, ◌∙◌, arith}
use Rattle.std.proofs.lemmas.List.{append_assoc, append-nil, length-append}
use Rattle.aq_lex.specs.declared.place.Place.{Place}
use Rattle.aq_parse.specs.declared.tree.Note.{Note}
use Rattle.aq_parse.specs.declared.tree.Item.{Item}
use Rattle.aq_parse.specs.declared.tree.Node.TheFolds.{fold_out-Item}
use Rattle.aq_prog.specs.declared.stmt.Stmt.{Stmt}
use Rattle.aq_base.specs.Checks.{refuse_if, ◌>>=◌, ◌>>◌}
use Rattle.aq_elab.specs.Known.{Known, Checked}
use Rattle.aq_elab.specs.Annotations.{Annotations, annotations, notes_taken}
use Rattle.aq_elab.specs.Behind.{behind, Noted, noted_by, all_noted}
use Rattle.aq_elab.specs.Nodes.{meaning_of}
use Rattle.aq_elab.specs.Statements.{Step, step, NodeMeaning, Meaning, meaning, node_step, item_step, with_claims}
use Rattle.aq_elab.specs.declared.fault.ElabFault.{ElabFault}
use Rattle.aq_elab.specs.declared.fault.ElabFault.TheVariants as faults
use Rattle.aq_elab.proofs.NoteLaws.{fronted, notes_taken-front}

-- what follows the annotations of a statement
abbrev pub rest_said : NodeMeaning → Place → Bool → Known → Annotations → Checked Step
rest_said m at inside known a =
    refuse_if (inside && m.is_declaration) (faults.DeclaredInBlock at)
    >> (m.run at a.invariant (length a.asserts) (with_claims a.claims known) >>= λ s. Ok (step s.known (a.asserts ++ s.statements)))

-- a statement by its parts
pub meaning_is : (item : Item) (inside : Bool) (known : Known) → meaning item inside known ≡ (annotations (meaning_of item.node).is_loop item.notes known.claims >>= rest_said (meaning_of item.node) item.at inside known)
meaning_is item inside known = ap (λ (m : Meaning). m inside known) (fold_out-Item NodeMeaning Meaning node_step item_step item)

-- annotations behind statements, as they are taken
pub noted_is : (is_loop : Bool) (notes : List Note) (known : Known) (out : List Stmt) → all_noted is_loop notes (record { known = known; statements = out; invariant = None }) ≡ noted_by known (fronted out (annotations is_loop notes known.claims))
noted_is is_loop notes known out =
    ap (λ (xs : List Stmt). noted_by known (notes_taken is_loop notes (record { claims = known.claims; asserts = xs; invariant = None }))) (sym (append-nil out))
    ∙ ap (noted_by known) (notes_taken-front out is_loop notes (record { claims = known.claims; asserts = []; invariant = None }))

behind_more : (out more : List Stmt) (r : Checked Step) → behind out (r >>= λ s. Ok (step s.known (more ++ s.statements))) ≡ behind (out ++ more) r
behind_more out more (Ok s) = ap (λ (xs : List Stmt). Ok (step s.known xs)) (sym (append_assoc out more s.statements))
behind_more out more (Err e) = refl

unrefused : (test : Bool) (fault : ElabFault) (out : List Stmt) (next : Checked Step) → test ≡ false → behind out (refuse_if test fault >> next) ≡ behind out next
unrefused false fault out next e = refl
unrefused true fault out next e = cc

refused : (test : Bool) (fault : ElabFault) (out : List Stmt) (next : Checked Step) → test ≡ true → behind out (refuse_if test fault >> next) ≡ Err fault
refused true fault out next e = refl
refused false fault out next e = cc

-- without a refusal the node follows
goes_on : (m : NodeMeaning) (at : Place) (inside : Bool) (known : Known) (out : List Stmt) (r : Checked Annotations) (n : Noted)
    → noted_by known (fronted out r) ≡ Ok n → (inside && m.is_declaration) ≡ false
    → behind out (r >>= rest_said m at inside known) ≡ behind n.statements (m.run at n.invariant (length n.statements - length out) n.known)
goes_on m at inside known out (Ok a) n e f =
    let h : record { known = with_claims a.claims known; statements = out ++ a.asserts; invariant = a.invariant } ≡ n = cc in
    let l : length (out ++ a.asserts) - length out ≡ length a.asserts = omega (arith, length-append out a.asserts) in
    rw (← h) (unrefused (inside && m.is_declaration) (faults.DeclaredInBlock at) out _ f
    ∙ behind_more out a.asserts (m.run at a.invariant (length a.asserts) (with_claims a.claims known))
    ∙ ap (λ (k : ℕ). behind (out ++ a.asserts) (m.run at a.invariant k (with_claims a.claims known))) (sym l))
goes_on m at inside known out (Err x) n e f = cc

stops : (m : NodeMeaning) (at : Place) (inside : Bool) (known : Known) (out : List Stmt) (r : Checked Annotations) (n : Noted)
    → noted_by known (fronted out r) ≡ Ok n → (inside && m.is_declaration) ≡ true
    → behind out (r >>= rest_said m at inside known) ≡ Err (faults.DeclaredInBlock at)
stops m at inside known out (Ok a) n e f = refused (inside && m.is_declaration) (faults.DeclaredInBlock at) out _ f
stops m at inside known out (Err x) n e f = cc

strays : (m : NodeMeaning) (at : Place) (inside : Bool) (known : Known) (out : List Stmt) (r : Checked Annotations) (fault : ElabFault)
    → noted_by known (fronted out r) ≡ Err fault → behind out (r >>= rest_said m at inside known) ≡ Err fault
strays m at inside known out (Ok a) fault e = cc
strays m at inside known out (Err x) fault e = cc

longer : (known : Known) (out : List Stmt) (r : Checked Annotations) (n : Noted) → noted_by known (fronted out r) ≡ Ok n → length out ≤ length n.statements
longer known out (Ok a) n e =
    let h : record { known = with_claims a.claims known; statements = out ++ a.asserts; invariant = a.invariant } ≡ n = cc in
    rw (← h) (omega (arith, length-append out a.asserts))
longer known out (Err x) n e = absurd (let f : ⊥ = cc in f)

-- what taking the annotations of an item gave
abbrev pub taken : Bool → List Note → Known → List Stmt → Checked Noted
taken is_loop notes known out = all_noted is_loop notes (record { known = known; statements = out; invariant = None })

module _ (item : Item) (inside : Bool) (known : Known) (out : List Stmt) (is_loop : Bool) (notes : List Note)
    (same_loop : is_loop ≡ (meaning_of item.node).is_loop) (same_notes : notes ≡ item.notes) where
  all_taken : taken is_loop notes known out ≡ noted_by known (fronted out (annotations (meaning_of item.node).is_loop item.notes known.claims))
  all_taken = ap₂ (λ b ns. taken b ns known out) same_loop same_notes ∙ noted_is (meaning_of item.node).is_loop item.notes known out

  -- annotations only add statements
  pub statement_longer : (n : Noted) → taken is_loop notes known out ≡ Ok n → length out ≤ length n.statements
  statement_longer n e = longer known out (annotations (meaning_of item.node).is_loop item.notes known.claims) n (sym all_taken ∙ e)

  -- the three ends of a statement: its node follows, it can't stand here, or an annotation can't
  pub statement_goes_on : (n : Noted) (asserts : ℕ) → taken is_loop notes known out ≡ Ok n → (inside && (meaning_of item.node).is_declaration) ≡ false → asserts ≡ length n.statements - length out
      → behind out (meaning item inside known) ≡ behind n.statements ((meaning_of item.node).run item.at n.invariant asserts n.known)
  statement_goes_on n asserts e f l =
      ap (behind out) (meaning_is item inside known)
      ∙ goes_on (meaning_of item.node) item.at inside known out (annotations (meaning_of item.node).is_loop item.notes known.claims) n (sym all_taken ∙ e) f
      ∙ ap (λ (k : ℕ). behind n.statements ((meaning_of item.node).run item.at n.invariant k n.known)) (sym l)

  pub statement_stops : (n : Noted) → taken is_loop notes known out ≡ Ok n → (inside && (meaning_of item.node).is_declaration) ≡ true
      → behind out (meaning item inside known) ≡ Err (faults.DeclaredInBlock item.at)
  statement_stops n e f =
      ap (behind out) (meaning_is item inside known) ∙ stops (meaning_of item.node) item.at inside known out (annotations (meaning_of item.node).is_loop item.notes known.claims) n (sym all_taken ∙ e) f

  pub statement_strays : (fault : ElabFault) → taken is_loop notes known out ≡ Err fault → behind out (meaning item inside known) ≡ Err fault
  statement_strays fault e =
      ap (behind out) (meaning_is item inside known) ∙ strays (meaning_of item.node) item.at inside known out (annotations (meaning_of item.node).is_loop item.notes known.claims) fault (sym all_taken ∙ e)
