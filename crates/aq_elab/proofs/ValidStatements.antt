-- The statements that one statement adds are valid for what is known behind it.
use Rattle.std.proofs.Common.{ℕ, ◌+◌, ◌<◌, Bool, true, false, List, [], ◌∷◌, ◌++◌, map, length, Option, Some, None, IfSome, Ok, Err, IfOk, arith}
use Rattle.std.specs.Prelude.{not, ◌==◌, ◌&&◌, nat_lt}
use Rattle.std.specs.List.{All, AllByRecursion}
use Rattle.std.proofs.lemmas.Bool.{eqb-true, not-false}
use Rattle.std.proofs.lemmas.List.Elements.{All-nil, All-cons, All-append, All-map, All-weaker}
use Rattle.std.proofs.lemmas.Result.{IfOk-weaker}
use Rattle.aq_lex.specs.declared.place.Place.{Place}
use Rattle.aq_parse.specs.declared.tree.Word.{Word}
use Rattle.aq_parse.specs.declared.tree.Spot.{Spot}
use Rattle.aq_parse.specs.declared.tree.Angle.{Angle}
use Rattle.aq_parse.specs.declared.tree.Test.{Test}
use Rattle.aq_parse.specs.declared.tree.Node.TheOpen.{Item-F}
use Rattle.aq_prog.specs.Digits.{tabulate}
use Rattle.aq_prog.specs.Gates.{IsValidGate}
use Rattle.aq_prog.specs.declared.stmt.Guard.{Guard}
use Rattle.aq_prog.specs.declared.stmt.Stmt.{Stmt, every-Stmt}
use Rattle.aq_prog.specs.declared.stmt.Stmt.TheVariants as stmt
use Rattle.aq_prog.specs.declared.stmt.Stmt.TheOpen.{Stmt-F}
use Rattle.aq_base.specs.Checks.{all_checked, or_refuse, refuse_if, ◌>>=◌, ◌>>◌}
use Rattle.aq_base.specs.Limits.{most_statements}
use Rattle.aq_elab.specs.Known.{Known, Checked}
use Rattle.aq_elab.specs.Spots.{span_of, width, member}
use Rattle.aq_elab.specs.Calls.{gates_of_call}
use Rattle.aq_elab.specs.Annotations.{Annotations, annotations}
use Rattle.aq_elab.specs.Statements.{Step, step, declaring, paired, unpaired, measured, measured_into, resets, guard_of, counted, NodeMeaning, Meaning, in_order, flat, plain, declaration, branching, looping, bits_declared, with_claims, item_step}
use Rattle.aq_elab.specs.declared.fault.ElabFault.TheVariants as faults
use Rattle.aq_elab.specs.declared.scope.Span.{Span}
use Rattle.aq_elab.specs.declared.scope.Role.TheVariants as roles
use Rattle.aq_elab.proofs.ValidLists.{follows, unless, given, All-tabulate}
use Rattle.aq_elab.proofs.ValidLevels.{IsGrown, not_less, grown_twice, Allows, Allows-before, every-gate, every-measure, every-reset, every-if, every-while}
use Rattle.aq_elab.proofs.ValidKnown.{IsSound, IsWithin, span_of-within, reaches, member-below, IsDeclared, declaring-sound}
use Rattle.aq_elab.proofs.ValidCalls.{gates_of_call-valid}
use Rattle.aq_elab.proofs.ValidNotes.{AreKnown, annotations-known}

-- ---- counts

-- as much is known, but for the number of statements
pub record IsStill (before after : Known) : Type 0 where
  pub sound : IsSound after
  pub grown : IsGrown before after

counted-still : (at : Place) (n : ℕ) (known : Known) → IsSound known → IfOk (counted at n known) (IsStill known)
counted-still at n known sound =
    unless (IsStill known) (nat_lt most_statements (known.statements + n)) (faults.TooManyStatements at)
    (Ok (record { names = known.names; claims = known.claims; qubits = known.qubits; bits = known.bits; statements = known.statements + n }))
    (λ e. record {
      sound = record { qubits = sound.qubits; bits = sound.bits; spans = sound.spans; names = sound.names; row = sound.row };
      grown = record { qubits = omega arith; bits = omega arith; claims = omega arith };
    })

-- ---- guards

guard_of-below : (known : Known) (test : Test) → IsSound known → IfOk (guard_of known test) (λ (g : Guard). g.bit < known.bits)
unfolding guard_of
guard_of-below known test sound =
    follows (IsWithin known.bits) (λ (g : Guard). g.bit < known.bits) (span_of known roles.Bit test.spot)
    (λ bits. refuse_if (not (width bits == 1)) (faults.SizeDiffers test.spot.name.at) >> Ok (record { bit = member bits 0; value = test.value }))
    (span_of-within known roles.Bit test.spot sound) (λ bits within.
    unless (λ (g : Guard). g.bit < known.bits) (not (width bits == 1)) (faults.SizeDiffers test.spot.name.at) (Ok (record { bit = member bits 0; value = test.value })) (λ e.
    let one = eqb-true (width bits) 1 (not-false (width bits == 1) e) in
    member-below known.bits bits 0 within (reaches 0 bits.size (omega arith))))

-- ---- statements, each of whose levels is to have the property Q

module _ (Q : Stmt-F Stmt → Type 0) where
  abbrev pub AreFine : Known → List Stmt → Type 0
  AreFine known statements = Allows Q known → All (every-Stmt Q) statements

  paired-fine : (known : Known) (at : Place) (qubits bits : Span) → IsWithin known.qubits qubits → IsWithin known.bits bits → IfOk (paired at qubits bits) (AreFine known)
  paired-fine known at qubits bits h k =
      unless (AreFine known) (not (width qubits == width bits)) (faults.SizeDiffers at) (Ok (tabulate (width qubits) (λ i. stmt.Measure (member qubits i) (Some (member bits i))))) (λ e allows.
      let same = eqb-true (width qubits) (width bits) (not-false (width qubits == width bits) e) in
      All-tabulate (every-Stmt Q) (width qubits) (λ i. stmt.Measure (member qubits i) (Some (member bits i))) (λ i lt.
      every-measure Q (member qubits i) (Some (member bits i)) (allows (Stmt-F.Measure (member qubits i) (Some (member bits i)))
      (member-below known.qubits qubits i h (reaches i qubits.size lt), member-below known.bits bits i k (reaches i bits.size (omega arith))) tt)))

  unpaired-fine : (known : Known) (qubits : Span) → IsWithin known.qubits qubits → AreFine known (unpaired qubits)
  unpaired-fine known qubits h allows =
      All-tabulate (every-Stmt Q) (width qubits) (λ i. stmt.Measure (member qubits i) None) (λ i lt.
      every-measure Q (member qubits i) None (allows (Stmt-F.Measure (member qubits i) None) (member-below known.qubits qubits i h (reaches i qubits.size lt), tt) tt))

  pub measured-fine : (known : Known) (from : Spot) (into : Option Spot) (into_first : Bool) → IsSound known → IfOk (measured known from into into_first) (AreFine known)
  unfolding measured
  measured-fine known from None into_first sound =
      follows (IsWithin known.qubits) (AreFine known) (span_of known roles.Qubit from) (λ qubits. Ok (unpaired qubits)) (span_of-within known roles.Qubit from sound) (λ qubits h. unpaired-fine known qubits h)
  measured-fine known from (Some into) false sound =
      follows (IsWithin known.qubits) (AreFine known) (span_of known roles.Qubit from) (λ qubits. span_of known roles.Bit into >>= λ bits. paired into.name.at qubits bits) (span_of-within known roles.Qubit from sound) (λ qubits h.
      follows (IsWithin known.bits) (AreFine known) (span_of known roles.Bit into) (λ bits. paired into.name.at qubits bits) (span_of-within known roles.Bit into sound) (λ bits k. paired-fine known into.name.at qubits bits h k))
  measured-fine known from (Some into) true sound =
      follows (IsWithin known.bits) (AreFine known) (span_of known roles.Bit into) (λ bits. span_of known roles.Qubit from >>= λ qubits. paired from.name.at qubits bits) (span_of-within known roles.Bit into sound) (λ bits k.
      follows (IsWithin known.qubits) (AreFine known) (span_of known roles.Qubit from) (λ qubits. paired from.name.at qubits bits) (span_of-within known roles.Qubit from sound) (λ qubits h. paired-fine known from.name.at qubits bits h k))

  measured_into-fine : (known : Known) (bits : Span) (from : Option Spot) → IsSound known → IsWithin known.bits bits → IfOk (measured_into known bits from) (AreFine known)
  unfolding measured_into
  measured_into-fine known bits None sound k = λ allows. All-nil (every-Stmt Q)
  measured_into-fine known bits (Some from) sound k =
      follows (IsWithin known.qubits) (AreFine known) (span_of known roles.Qubit from) (λ qubits. paired from.name.at qubits bits) (span_of-within known roles.Qubit from sound) (λ qubits h. paired-fine known from.name.at qubits bits h k)

  pub resets-fine : (known : Known) (spot : Spot) → IsSound known → IfOk (resets known spot) (AreFine known)
  unfolding resets
  resets-fine known spot sound =
      follows (IsWithin known.qubits) (AreFine known) (span_of known roles.Qubit spot) (λ qubits. Ok (tabulate (width qubits) (λ i. stmt.Reset (member qubits i)))) (span_of-within known roles.Qubit spot sound) (λ qubits h allows.
      All-tabulate (every-Stmt Q) (width qubits) (λ i. stmt.Reset (member qubits i)) (λ i lt.
      every-reset Q (member qubits i) (allows (Stmt-F.Reset (member qubits i)) (member-below known.qubits qubits i h (reaches i qubits.size lt)) tt)))

  pub barrier-fine : (known : Known) (spots : List Spot) → IfOk (all_checked (span_of known roles.Qubit) spots >>= λ spans. Ok []) (AreFine known)
  barrier-fine known spots = by (all_checked (span_of known roles.Qubit) spots)
    where
      by : (c : Checked (List Span)) → IfOk (c >>= λ spans. Ok []) (AreFine known)
      by (Ok spans) = λ allows. All-nil (every-Stmt Q)
      by (Err e) = tt

  pub call-fine : (known : Known) (name : Word) (angle : Option Angle) (spots : List Spot) → IsSound known → IfOk (gates_of_call known name angle spots >>= λ gates. Ok (map stmt.Gate gates)) (AreFine known)
  call-fine known name angle spots sound =
      follows (All (IsValidGate known.qubits)) (AreFine known) (gates_of_call known name angle spots) (λ gates. Ok (map stmt.Gate gates)) (gates_of_call-valid known name angle spots sound) (λ gates valid allows.
      All-map (every-Stmt Q) stmt.Gate gates (All-weaker (IsValidGate known.qubits) (λ gate. every-Stmt Q (stmt.Gate gate)) (λ gate h. every-gate Q gate (allows (Stmt-F.Gate gate) h tt)) gates valid))

  -- ---- steps

  -- what is known behind it is sound and no less, and its statements are fine there
  pub record IsFine (before : Known) (s : Step) : Type 0 where
    pub sound : IsSound s.known
    pub grown : IsGrown before s.known
    pub statements : AreFine s.known s.statements

  fine-since : (a b : Known) (s : Step) → IsGrown a b → IsFine b s → IsFine a s
  fine-since a b s g fine = record { sound = fine.sound; grown = grown_twice a b s.known g fine.grown; statements = fine.statements }

  flat-fine : (at : Place) (asserts : ℕ) (known : Known) (statements : List Stmt) → IsSound known → AreFine known statements → IfOk (flat at asserts known statements) (IsFine known)
  flat-fine at asserts known statements sound fine =
      follows (IsStill known) (IsFine known) (counted at (asserts + length statements) known) (λ k. Ok (step k statements)) (counted-still at (asserts + length statements) known sound) (λ k still.
      record { sound = still.sound; grown = still.grown; statements = λ allows. fine (Allows-before Q known k still.grown allows) })

  -- a statement without its annotations, whose invariant is a known claim
  abbrev pub IsGoodNode : NodeMeaning → Type 0
  IsGoodNode node = (at : Place) (invariant : Option ℕ) (asserts : ℕ) (known : Known) → IsSound known → IfSome invariant (λ c. c < length known.claims) → IfOk (node.run at invariant asserts known) (IsFine known)

  abbrev pub IsGood : Meaning → Type 0
  IsGood m = (inside : Bool) (known : Known) → IsSound known → IfOk (m inside known) (IsFine known)

  pub plain-good : (own : Known → Checked (List Stmt)) → ((known : Known) → IsSound known → IfOk (own known) (AreFine known)) → IsGoodNode (plain own)
  plain-good own h at invariant asserts known sound claim =
      follows (AreFine known) (IsFine known) (own known) (flat at asserts known) (h known sound) (λ statements fine. flat-fine at asserts known statements sound fine)

  pub declaration-good : (own : Known → Checked Step) → ((known : Known) → IsSound known → IfOk (own known) (IsFine known)) → IsGoodNode (declaration own)
  declaration-good own h at invariant asserts known sound claim =
      follows (IsFine known) (IsFine known) (own known) (λ s. flat at asserts s.known s.statements) (h known sound) (λ s fine.
      IfOk-weaker (flat at asserts s.known s.statements) (IsFine s.known) (IsFine known) (λ t more. fine-since known s.known t fine.grown more) (flat-fine at asserts s.known s.statements fine.sound fine.statements))

  pub include-fine : (known : Known) → IsSound known → IsFine known (step known [])
  include-fine known sound = record { sound = sound; grown = not_less known; statements = λ allows. All-nil (every-Stmt Q) }

  pub qubits-fine : (name : Word) (size : Option ℕ) (known : Known) → IsSound known → IfOk (declaring roles.Qubit name size known >>= λ k. Ok (step k [])) (IsFine known)
  qubits-fine name size known sound =
      follows (IsDeclared roles.Qubit size known) (IsFine known) (declaring roles.Qubit name size known) (λ k. Ok (step k [])) (declaring-sound roles.Qubit name size known sound) (λ k d.
      record { sound = d.sound; grown = d.grown; statements = λ allows. All-nil (every-Stmt Q) })

  pub bits-fine : (name : Word) (size : Option ℕ) (from : Option Spot) (known : Known) → IsSound known → IfOk (bits_declared name size from known) (IsFine known)
  bits-fine name size from known sound =
      let span : Span = record { first = known.bits; size = size } in
      follows (IsDeclared roles.Bit size known) (IsFine known) (declaring roles.Bit name size known) (λ k. measured_into k span from >>= λ statements. Ok (step k statements)) (declaring-sound roles.Bit name size known sound) (λ k d.
      follows (AreFine k) (IsFine known) (measured_into k span from) (λ statements. Ok (step k statements)) (measured_into-fine k span from d.sound d.within) (λ statements fine.
      record { sound = d.sound; grown = d.grown; statements = fine }))

  -- ---- bodies

  pub in_order-good : (ms : List Meaning) → AllByRecursion IsGood ms → IsGood (in_order ms)
  in_order-good [] h inside known sound = include-fine known sound
  in_order-good (m ∷ rest) h inside known sound =
      follows (IsFine known) (IsFine known) (m inside known) (λ s. in_order rest inside s.known >>= λ r. Ok (step r.known (s.statements ++ r.statements))) (h.0 inside known sound) (λ s fine.
      follows (IsFine s.known) (IsFine known) (in_order rest inside s.known) (λ r. Ok (step r.known (s.statements ++ r.statements))) (in_order-good rest h.1 inside s.known fine.sound) (λ r more.
      record {
        sound = more.sound;
        grown = grown_twice known s.known r.known fine.grown more.grown;
        statements = λ allows. All-append (every-Stmt Q) s.statements r.statements (fine.statements (Allows-before Q s.known r.known more.grown allows)) (more.statements allows);
      }))

  if-fine : (known k : Known) (guard : Guard) (first second : Step) → guard.bit < known.bits → IsGrown known k → IsFine k first → IsFine first.known second → IsFine known (step second.known (stmt.If guard first.statements second.statements ∷ []))
  if-fine known k guard first second below g one two =
      let behind = grown_twice known k first.known g one.grown in
      let whole = grown_twice known first.known second.known behind two.grown in
      record {
        sound = two.sound;
        grown = whole;
        statements = λ allows. All-cons (every-Stmt Q) (stmt.If guard first.statements second.statements) []
            (every-if Q guard first.statements second.statements (one.statements (Allows-before Q first.known second.known two.grown allows)) (two.statements allows)
            (allows (Stmt-F.If guard first.statements second.statements) (omega (arith, whole.bits)) tt))
            (All-nil (every-Stmt Q));
      }

  pub branching-good : (test : Test) (when_true when_false : List Meaning) → IsGood (in_order when_true) → IsGood (in_order when_false) → IsGoodNode (branching test when_true when_false)
  branching-good test when_true when_false h k at invariant asserts known sound claim =
      follows (λ (g : Guard). g.bit < known.bits) (IsFine known) (guard_of known test)
      (λ guard. counted at (asserts + 1) known >>= λ k. in_order when_true true k >>= λ first. in_order when_false true first.known >>= λ second. Ok (step second.known (stmt.If guard first.statements second.statements ∷ [])))
      (guard_of-below known test sound) (λ guard below.
      follows (IsStill known) (IsFine known) (counted at (asserts + 1) known)
      (λ k. in_order when_true true k >>= λ first. in_order when_false true first.known >>= λ second. Ok (step second.known (stmt.If guard first.statements second.statements ∷ [])))
      (counted-still at (asserts + 1) known sound) (λ start still.
      follows (IsFine start) (IsFine known) (in_order when_true true start)
      (λ first. in_order when_false true first.known >>= λ second. Ok (step second.known (stmt.If guard first.statements second.statements ∷ [])))
      (h true start still.sound) (λ first one.
      follows (IsFine first.known) (IsFine known) (in_order when_false true first.known)
      (λ second. Ok (step second.known (stmt.If guard first.statements second.statements ∷ [])))
      (k true first.known one.sound) (λ second two.
      if-fine known start guard first second below still.grown one two))))

  while-fine : (known k : Known) (guard : Guard) (claim line : ℕ) (inner : Step) → guard.bit < known.bits → claim < length known.claims → IsGrown known k → IsFine k inner → IsFine known (step inner.known (stmt.While guard claim inner.statements line ∷ []))
  while-fine known k guard claim line inner below named g body =
      let whole = grown_twice known k inner.known g body.grown in
      record {
        sound = body.sound;
        grown = whole;
        statements = λ allows. All-cons (every-Stmt Q) (stmt.While guard claim inner.statements line) []
            (every-while Q guard claim inner.statements line (body.statements allows)
            (allows (Stmt-F.While guard claim inner.statements line) (omega (arith, whole.bits), omega (arith, whole.claims)) tt))
            (All-nil (every-Stmt Q));
      }

  pub looping-good : (test : Test) (body : List Meaning) → IsGood (in_order body) → IsGoodNode (looping test body)
  looping-good test body h at invariant asserts known sound named =
      follows (λ c. c < length known.claims) (IsFine known) (or_refuse (faults.MissingInvariant at) invariant)
      (λ claim. guard_of known test >>= λ guard. counted at (asserts + 1) known >>= λ k. in_order body true k >>= λ inner. Ok (step inner.known (stmt.While guard claim inner.statements at.line ∷ [])))
      (given (λ c. c < length known.claims) (faults.MissingInvariant at) invariant named) (λ claim lt.
      follows (λ (g : Guard). g.bit < known.bits) (IsFine known) (guard_of known test)
      (λ guard. counted at (asserts + 1) known >>= λ k. in_order body true k >>= λ inner. Ok (step inner.known (stmt.While guard claim inner.statements at.line ∷ [])))
      (guard_of-below known test sound) (λ guard below.
      follows (IsStill known) (IsFine known) (counted at (asserts + 1) known)
      (λ k. in_order body true k >>= λ inner. Ok (step inner.known (stmt.While guard claim inner.statements at.line ∷ [])))
      (counted-still at (asserts + 1) known sound) (λ start still.
      follows (IsFine start) (IsFine known) (in_order body true start)
      (λ inner. Ok (step inner.known (stmt.While guard claim inner.statements at.line ∷ [])))
      (h true start still.sound) (λ inner fine.
      while-fine known start guard claim at.line inner below lt still.grown fine))))

  -- ---- a statement behind its annotations

  named-fine : (known : Known) (a : Annotations) (s : Step) → AreKnown Q known.claims a → IsFine (with_claims a.claims known) s → IsFine known (step s.known (a.asserts ++ s.statements))
  named-fine known a s are fine = record {
    sound = fine.sound;
    grown = record { qubits = fine.grown.qubits; bits = fine.grown.bits; claims = omega (arith, are.grown, fine.grown.claims) };
    statements = λ allows. All-append (every-Stmt Q) a.asserts s.statements (are.asserts (λ claim line lt. allows (Stmt-F.Assert claim line) (omega (arith, fine.grown.claims)) tt)) (fine.statements allows);
  }

  pub item_step-good : (item : Item-F NodeMeaning Meaning) → IsGoodNode item.node → IsGood (item_step item)
  item_step-good item h inside known sound =
      follows (AreKnown Q known.claims) (IsFine known) (annotations item.node.is_loop item.notes known.claims)
      (λ a. refuse_if (inside && item.node.is_declaration) (faults.DeclaredInBlock item.at)
      >> (item.node.run item.at a.invariant (length a.asserts) (with_claims a.claims known) >>= λ s. Ok (step s.known (a.asserts ++ s.statements))))
      (annotations-known Q item.node.is_loop item.notes known.claims) (λ a are.
      let start = with_claims a.claims known in
      let run = item.node.run item.at a.invariant (length a.asserts) start in
      unless (IsFine known) (inside && item.node.is_declaration) (faults.DeclaredInBlock item.at) (run >>= λ s. Ok (step s.known (a.asserts ++ s.statements))) (λ e.
      follows (IsFine start) (IsFine known) run (λ s. Ok (step s.known (a.asserts ++ s.statements)))
      (h item.at a.invariant (length a.asserts) start (record { qubits = sound.qubits; bits = sound.bits; spans = sound.spans; names = sound.names; row = sound.row }) are.invariant) (λ s fine.
      named-fine known a s are fine)))
