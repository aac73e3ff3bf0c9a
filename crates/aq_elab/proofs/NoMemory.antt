-- A tree has no want of memory as its fault, by induction over the tree.
use Rattle.std.proofs.Common.{◌≡◌, ℕ, List, [], ◌∷◌, map, length, Option, Some, None, Ok, Err, IfErr, Bool, true, false, refl, sym, subst, ◌++◌}
use Rattle.std.specs.Prelude.{◌+◌, ◌==◌, ◌&&◌, nat_lt, not, pos, codes, if◌then◌else◌}
use Rattle.std.specs.List.{AllByRecursion, flat_map, list_any}
use Rattle.std.specs.Option.{is_some}
use Rattle.std.specs.Str.{bytes_eq}
use Rattle.aq_base.specs.Checks.{all_checked, or_refuse, refuse_if, ◌>>=◌, ◌>>◌}
use Rattle.aq_base.specs.Limits.{most_bits, most_qubits, most_statements}
use Rattle.aq_lex.specs.declared.place.Place.{Place}
use Rattle.aq_parse.specs.declared.tree.Angle.{Angle}
use Rattle.aq_parse.specs.declared.tree.Item.{Item}
use Rattle.aq_parse.specs.declared.tree.Node.{Node}
use Rattle.aq_parse.specs.declared.tree.Node.TheOpen.{Node-F, Item-F}
use Rattle.aq_parse.specs.declared.tree.Node.TheFolds.{map-Node, map-Item, fold-Node, fold-roll-Node, fold-roll-Item, ind-Item}
use Rattle.aq_parse.specs.declared.tree.Node.TheViews.{roll-Node, roll-Item}
use Rattle.aq_parse.specs.declared.tree.Note.{Note}
use Rattle.aq_parse.specs.declared.tree.Spot.{Spot}
use Rattle.aq_parse.specs.declared.tree.Test.{Test}
use Rattle.aq_parse.specs.declared.tree.Tree.{Tree}
use Rattle.aq_parse.specs.declared.tree.Word.{Word}
use Rattle.aq_prog.specs.Digits.{tabulate}
use Rattle.aq_prog.specs.declared.gate.Gate.{Gate}
use Rattle.aq_prog.specs.declared.stmt.Stmt.{Stmt}
use Rattle.aq_prog.specs.declared.stmt.Stmt.TheVariants as stmt
use Rattle.aq_elab.specs.Known.{Known, Checked, declared_as, nothing_known}
use Rattle.aq_elab.specs.Spots.{is_role, member, part_at, part_as, part_of, span_of, width, width_of}
use Rattle.aq_elab.specs.Angles.{eighths_of}
use Rattle.aq_elab.specs.Calls.{recipe_named, recipe_at, recipe_of, differs, is_angle_missed, is_unknown, instances, no_repeat, no_repeats, played, same_sizes, spots_of, times_of, gates_of_call, gates_on}
use Rattle.aq_elab.specs.Annotations.{Annotations, annotations, asserted, kept, note_taken, notes_taken, is_name, is_stray}
use Rattle.aq_elab.specs.Statements.{Step, step, registered, declaring, is_none_of, paired, unpaired, measured, measured_into, resets, guard_of, counted, flat, NodeMeaning, Meaning, plain, declaration, bits_declared, branching, looping, in_order, node_step, item_step, meaning, statements_of, with_claims}
use Rattle.aq_elab.specs.Elaborated.{elaborated, program_of}
use Rattle.aq_elab.specs.declared.fault.ElabFault.{ElabFault}
use Rattle.aq_elab.specs.declared.fault.ElabFault.TheVariants as faults
use Rattle.aq_elab.specs.declared.recipe.Recipe.{Recipe}
use Rattle.aq_elab.specs.declared.scope.Declared.{Declared}
use Rattle.aq_elab.specs.declared.scope.Role.{Role}
use Rattle.aq_elab.specs.declared.scope.Role.TheVariants as roles
use Rattle.aq_elab.specs.declared.scope.Span.{Span}

-- ---- checks

abbrev IsNamed : ElabFault → Type 0
IsNamed f = f ≡ faults.Memory → ⊥

-- the check's fault isn't want of memory
abbrev Told : {A : Type 0} → Checked A → Type 0
Told c = IfErr c IsNamed

then-told : {A B : Type 0} (c : Checked A) (f : A → Checked B) → Told c → ((x : A) → Told (f x)) → Told (c >>= f)
then-told (Ok x) f h k = k x
then-told (Err e) f h k = h

behind-told : {A : Type 0} (c : Checked (Unit {0})) (next : Checked A) → Told c → Told next → Told (c >> next)
behind-told (Ok u) next h k = k
behind-told (Err e) next h k = h

refuse-told : (test : Bool) (f : ElabFault) → IsNamed f → Told (refuse_if test f)
refuse-told true f h = h
refuse-told false f h = tt

given-told : {A : Type 0} (f : ElabFault) (o : Option A) → IsNamed f → Told (or_refuse f o)
given-told f (Some x) h = tt
given-told f None h = h

each-told : {A B : Type 0} (f : A → Checked B) → ((x : A) → Told (f x)) → (xs : List A) → Told (all_checked f xs)
each-told f h [] = tt
each-told f h (x ∷ xs) = then-told (f x) (λ y. all_checked f xs >>= λ ys. Ok (y ∷ ys)) (h x) (λ y. then-told (all_checked f xs) (λ ys. Ok (y ∷ ys)) (each-told f h xs) (λ ys. tt))

test-told : {A : Type 0} (test : Bool) (c d : Checked A) → Told c → Told d → Told (if test then c else d)
test-told true c d h k = h
test-told false c d h k = k

-- a test that refuses, and then a value
passing-told : {A : Type 0} (test : Bool) (f : ElabFault) (x : A) → IsNamed f → Told (refuse_if test f >> Ok x)
passing-told test f x h = behind-told (refuse_if test f) (Ok x) (refuse-told test f h) tt

-- ---- spots

part-told : (spot : Spot) (span : Span) (i : ℕ) (size : Option ℕ) → Told (part_at spot span i size)
part-told spot span i None = λ e. cc
part-told spot span i (Some n) = test-told (nat_lt i n) (Ok (record { first = span.first + i; size = None })) (Err (faults.IndexOut spot.name.at)) tt (λ e. cc)

whole-told : (spot : Spot) (span : Span) (index : Option ℕ) → Told (part_of spot span index)
whole-told spot span None = tt
whole-told spot span (Some i) = part-told spot span i span.size

spot-told : (role : Role) (spot : Spot) (d : Option Declared) → Told (part_as role spot d)
spot-told role spot None = λ e. cc
spot-told role spot (Some d) = test-told (is_role role d.role) (part_of spot d.span spot.index) (Err (faults.UnknownName spot.name.at)) (whole-told spot d.span spot.index) (λ e. cc)

span-told : (known : Known) (role : Role) (spot : Spot) → Told (span_of known role spot)
span-told known role spot = spot-told role spot (declared_as known.names spot.name.text)

-- ---- calls

angle-told : (name : Word) (angle : Option Angle) → Told (recipe_at name angle)
angle-told name None = given-told (faults.UnknownGate name.at) (recipe_named name.text (pos 0)) (λ e. cc)
angle-told name (Some a) =
    then-told (or_refuse (faults.AngleForm a.at) (eighths_of a)) (λ e. or_refuse (faults.AngleForm a.at) (recipe_named name.text e))
    (given-told (faults.AngleForm a.at) (eighths_of a) (λ e. cc)) (λ n. given-told (faults.AngleForm a.at) (recipe_named name.text n) (λ e. cc))

recipe-told : (name : Word) (angle : Option Angle) (count : ℕ) → Told (recipe_of name angle count)
unfolding recipe_of
recipe-told name angle count =
    let check : Recipe → Checked Recipe = λ recipe. refuse_if (not (count == spots_of recipe)) (faults.OperandCount name.at) >> Ok recipe in
    behind-told (refuse_if (is_unknown name.text) (faults.UnknownGate name.at)) (refuse_if (is_angle_missed name angle) (faults.AngleForm name.at) >> (recipe_at name angle >>= check))
    (refuse-told (is_unknown name.text) (faults.UnknownGate name.at) (λ e. cc))
    (behind-told (refuse_if (is_angle_missed name angle) (faults.AngleForm name.at)) (recipe_at name angle >>= check)
    (refuse-told (is_angle_missed name angle) (faults.AngleForm name.at) (λ e. cc))
    (then-told (recipe_at name angle) check (angle-told name angle) (λ r. passing-told (not (count == spots_of r)) (faults.OperandCount name.at) r (λ e. cc))))

sizes-told : (n : ℕ) (spots : List Spot) (spans : List Span) → Told (same_sizes n spots spans)
sizes-told n [] spans = tt
sizes-told n (spot ∷ spots) [] = tt
sizes-told n (spot ∷ spots) (span ∷ spans) =
    behind-told (refuse_if (differs n span.size) (faults.SizeDiffers spot.name.at)) (same_sizes n spots spans)
    (refuse-told (differs n span.size) (faults.SizeDiffers spot.name.at) (λ e. cc)) (sizes-told n spots spans)

repeat-told : (before : List ℕ) (spots : List Spot) (qs : List ℕ) → Told (no_repeat before spots qs)
repeat-told before [] qs = tt
repeat-told before (spot ∷ spots) [] = tt
repeat-told before (spot ∷ spots) (q ∷ qs) =
    behind-told (refuse_if (list_any (λ p. p == q) before) (faults.RepeatedQubit spot.name.at)) (no_repeat (before ++ q ∷ []) spots qs)
    (refuse-told (list_any (λ p. p == q) before) (faults.RepeatedQubit spot.name.at) (λ e. cc)) (repeat-told (before ++ q ∷ []) spots qs)

repeats-told : (spots : List Spot) (rows : List (List ℕ)) → Told (no_repeats spots rows)
repeats-told spots [] = tt
repeats-told spots (qs ∷ rows) = behind-told (no_repeat [] spots qs) (no_repeats spots rows) (repeat-told [] spots qs) (repeats-told spots rows)

call-told : (known : Known) (name : Word) (angle : Option Angle) (spots : List Spot) → Told (gates_of_call known name angle spots)
unfolding gates_of_call
call-told known name angle spots =
    let play : Recipe → List Span → Checked (List Gate) = λ recipe spans. same_sizes (times_of spans) spots spans >> played recipe spots (instances spans) in
    then-told (recipe_of name angle (length spots)) (λ recipe. all_checked (span_of known roles.Qubit) spots >>= play recipe)
    (recipe-told name angle (length spots))
    (λ recipe. then-told (all_checked (span_of known roles.Qubit) spots) (play recipe) (each-told (span_of known roles.Qubit) (span-told known roles.Qubit) spots)
    (λ spans. behind-told (same_sizes (times_of spans) spots spans) (played recipe spots (instances spans)) (sizes-told (times_of spans) spots spans)
    (behind-told (no_repeats spots (instances spans)) (Ok (flat_map (gates_on recipe) (instances spans))) (repeats-told spots (instances spans)) tt)))

-- ---- annotations

note-told : (is_loop : Bool) (note : Note) (a : Annotations) → Told (note_taken is_loop note a)
unfolding note_taken
note-told is_loop note a =
    let stray = faults.StrayAnnotation note.name.at in
    test-told (bytes_eq note.name.text (codes "assert")) (refuse_if (not (is_name note.rest)) stray >> Ok (asserted note a))
    (if bytes_eq note.name.text (codes "invariant") then (refuse_if (is_stray is_loop note a) stray >> Ok (kept note a)) else Ok a)
    (passing-told (not (is_name note.rest)) stray (asserted note a) (λ e. cc))
    (test-told (bytes_eq note.name.text (codes "invariant")) (refuse_if (is_stray is_loop note a) stray >> Ok (kept note a)) (Ok a)
    (passing-told (is_stray is_loop note a) stray (kept note a) (λ e. cc)) tt)

notes-told : (is_loop : Bool) (notes : List Note) (a : Annotations) → Told (notes_taken is_loop notes a)
notes-told is_loop [] a = tt
notes-told is_loop (note ∷ notes) a = then-told (note_taken is_loop note a) (notes_taken is_loop notes) (note-told is_loop note a) (notes-told is_loop notes)

-- ---- statements

registered-told : (role : Role) (name : Word) (size : Option ℕ) (known : Known) → Told (registered role name size known)
registered-told roles.Qubit name size known = passing-told (nat_lt most_qubits (known.qubits + width_of size)) (faults.TooManyQubits name.at) _ (λ e. cc)
registered-told roles.Bit name size known = passing-told (nat_lt most_bits (known.bits + width_of size)) (faults.TooManyBits name.at) _ (λ e. cc)

declaring-told : (role : Role) (name : Word) (size : Option ℕ) (known : Known) → Told (declaring role name size known)
unfolding declaring
declaring-told role name size known =
    let twice = is_some (declared_as known.names name.text) in
    behind-told (refuse_if (is_none_of size) (faults.EmptyRegister name.at)) (refuse_if twice (faults.TwiceDeclared name.at) >> registered role name size known)
    (refuse-told (is_none_of size) (faults.EmptyRegister name.at) (λ e. cc))
    (behind-told (refuse_if twice (faults.TwiceDeclared name.at)) (registered role name size known)
    (refuse-told twice (faults.TwiceDeclared name.at) (λ e. cc)) (registered-told role name size known))

paired-told : (at : Place) (qubits bits : Span) → Told (paired at qubits bits)
paired-told at qubits bits = passing-told (not (width qubits == width bits)) (faults.SizeDiffers at) _ (λ e. cc)

measured-told : (known : Known) (from : Spot) (into : Option Spot) (into_first : Bool) → Told (measured known from into into_first)
unfolding measured
measured-told known from None into_first = then-told (span_of known roles.Qubit from) (λ qubits. Ok (unpaired qubits)) (span-told known roles.Qubit from) (λ qubits. tt)
measured-told known from (Some into) false =
    then-told (span_of known roles.Qubit from) (λ qubits. span_of known roles.Bit into >>= λ bits. paired into.name.at qubits bits) (span-told known roles.Qubit from)
    (λ qubits. then-told (span_of known roles.Bit into) (λ bits. paired into.name.at qubits bits) (span-told known roles.Bit into) (λ bits. paired-told into.name.at qubits bits))
measured-told known from (Some into) true =
    then-told (span_of known roles.Bit into) (λ bits. span_of known roles.Qubit from >>= λ qubits. paired from.name.at qubits bits) (span-told known roles.Bit into)
    (λ bits. then-told (span_of known roles.Qubit from) (λ qubits. paired from.name.at qubits bits) (span-told known roles.Qubit from) (λ qubits. paired-told from.name.at qubits bits))

into-told : (known : Known) (bits : Span) (from : Option Spot) → Told (measured_into known bits from)
unfolding measured_into
into-told known bits None = tt
into-told known bits (Some from) = then-told (span_of known roles.Qubit from) (λ qubits. paired from.name.at qubits bits) (span-told known roles.Qubit from) (λ qubits. paired-told from.name.at qubits bits)

resets-told : (known : Known) (spot : Spot) → Told (resets known spot)
unfolding resets
resets-told known spot = then-told (span_of known roles.Qubit spot) (λ qubits. Ok (tabulate (width qubits) (λ i. stmt.Reset (member qubits i)))) (span-told known roles.Qubit spot) (λ qubits. tt)

guard-told : (known : Known) (test : Test) → Told (guard_of known test)
unfolding guard_of
guard-told known test =
    then-told (span_of known roles.Bit test.spot) (λ bits. refuse_if (not (width bits == 1)) (faults.SizeDiffers test.spot.name.at) >> Ok (record { bit = member bits 0; value = test.value }))
    (span-told known roles.Bit test.spot) (λ bits. passing-told (not (width bits == 1)) (faults.SizeDiffers test.spot.name.at) _ (λ e. cc))

counted-told : (at : Place) (n : ℕ) (known : Known) → Told (counted at n known)
counted-told at n known = passing-told (nat_lt most_statements (known.statements + n)) (faults.TooManyStatements at) _ (λ e. cc)

flat-told : (at : Place) (asserts : ℕ) (known : Known) (statements : List Stmt) → Told (flat at asserts known statements)
flat-told at asserts known statements = then-told (counted at (asserts + length statements) known) (λ k. Ok (step k statements)) (counted-told at (asserts + length statements) known) (λ k. tt)

-- ---- trees

abbrev IsTold : Meaning → Type 0
IsTold m = (inside : Bool) (known : Known) → Told (m inside known)

abbrev IsToldNode : NodeMeaning → Type 0
IsToldNode n = (at : Place) (invariant : Option ℕ) (asserts : ℕ) (known : Known) → Told (n.run at invariant asserts known)

order-told : (ms : List Meaning) → AllByRecursion IsTold ms → IsTold (in_order ms)
order-told [] h inside known = tt
order-told (m ∷ ms) h inside known =
    then-told (m inside known) (λ s. in_order ms inside s.known >>= λ r. Ok (step r.known (s.statements ++ r.statements))) (h.0 inside known)
    (λ s. then-told (in_order ms inside s.known) (λ r. Ok (step r.known (s.statements ++ r.statements))) (order-told ms h.1 inside s.known) (λ r. tt))

plain-told : (own : Known → Checked (List Stmt)) → ((known : Known) → Told (own known)) → IsToldNode (plain own)
plain-told own h at invariant asserts known = then-told (own known) (flat at asserts known) (h known) (flat-told at asserts known)

declaration-told : (own : Known → Checked Step) → ((known : Known) → Told (own known)) → IsToldNode (declaration own)
declaration-told own h at invariant asserts known = then-told (own known) (λ s. flat at asserts s.known s.statements) (h known) (λ s. flat-told at asserts s.known s.statements)

bits-told : (name : Word) (size : Option ℕ) (from : Option Spot) (known : Known) → Told (bits_declared name size from known)
bits-told name size from known =
    let bits : Span = record { first = known.bits; size = size } in
    then-told (declaring roles.Bit name size known) (λ k. measured_into k bits from >>= λ statements. Ok (step k statements)) (declaring-told roles.Bit name size known)
    (λ k. then-told (measured_into k bits from) (λ statements. Ok (step k statements)) (into-told k bits from) (λ statements. tt))

branching-told : (test : Test) (first second : List Meaning) → IsTold (in_order first) → IsTold (in_order second) → IsToldNode (branching test first second)
branching-told test first second h i at invariant asserts known =
    then-told (guard_of known test) _ (guard-told known test)
    (λ guard. then-told (counted at (asserts + 1) known) _ (counted-told at (asserts + 1) known)
    (λ k. then-told (in_order first true k) _ (h true k)
    (λ f. then-told (in_order second true f.known) (λ s. Ok (step s.known (stmt.If guard f.statements s.statements ∷ []))) (i true f.known) (λ s. tt))))

looping-told : (test : Test) (body : List Meaning) → IsTold (in_order body) → IsToldNode (looping test body)
looping-told test body h at invariant asserts known =
    then-told (or_refuse (faults.MissingInvariant at) invariant) _ (given-told (faults.MissingInvariant at) invariant (λ e. cc))
    (λ claim. then-told (guard_of known test) _ (guard-told known test)
    (λ guard. then-told (counted at (asserts + 1) known) _ (counted-told at (asserts + 1) known)
    (λ k. then-told (in_order body true k) (λ inner. Ok (step inner.known (stmt.While guard claim inner.statements at.line ∷ []))) (h true k) (λ inner. tt))))

item-told : (item : Item-F NodeMeaning Meaning) → IsToldNode item.node → IsTold (item_step item)
item-told item h inside known =
    then-told (annotations item.node.is_loop item.notes known.claims) _ (notes-told item.node.is_loop item.notes (record { claims = known.claims; asserts = []; invariant = None }))
    (λ a.
    let run = item.node.run item.at a.invariant (length a.asserts) (with_claims a.claims known) in
    behind-told (refuse_if (inside && item.node.is_declaration) (faults.DeclaredInBlock item.at)) (run >>= λ s. Ok (step s.known (a.asserts ++ s.statements)))
    (refuse-told (inside && item.node.is_declaration) (faults.DeclaredInBlock item.at) (λ e. cc))
    (then-told run (λ s. Ok (step s.known (a.asserts ++ s.statements))) (h item.at a.invariant (length a.asserts) (with_claims a.claims known)) (λ s. tt)))

abbrev node_meaning : Node → NodeMeaning
node_meaning = fold-Node NodeMeaning Meaning node_step item_step

abbrev ToldNode : Type 0
ToldNode = (d : Node) × IsToldNode (node_meaning d)

abbrev ToldItem : Type 0
ToldItem = (d : Item) × IsTold (meaning d)

body-told : (items : List ToldItem) → AllByRecursion IsTold (map meaning (map (λ (e : ToldItem). e.0) items))
body-told [] = tt
body-told (e ∷ es) = (e.1, body-told es)

abbrev nodes_of : Node-F ToldNode ToldItem → Node-F Node Item
nodes_of = map-Node ToldNode ToldItem Node Item (λ (e : ToldNode). e.0) (λ (e : ToldItem). e.0)

abbrev meanings_of : Node-F Node Item → Node-F NodeMeaning Meaning
meanings_of = map-Node Node Item NodeMeaning Meaning node_meaning meaning

node-told : (y : Node-F ToldNode ToldItem) → IsToldNode (node_step (meanings_of (nodes_of y)))
node-told Node-F.Include = declaration-told (λ known. Ok (step known [])) (λ known. tt)
node-told (Node-F.Qubits name size) =
    declaration-told (λ known. declaring roles.Qubit name size known >>= λ k. Ok (step k []))
    (λ known. then-told (declaring roles.Qubit name size known) (λ k. Ok (step k [])) (declaring-told roles.Qubit name size known) (λ k. tt))
node-told (Node-F.Bits name size from) = declaration-told (bits_declared name size from) (bits-told name size from)
node-told (Node-F.Measure from into into_first) = plain-told (λ known. measured known from into into_first) (λ known. measured-told known from into into_first)
node-told (Node-F.Reset spot) = plain-told (λ known. resets known spot) (λ known. resets-told known spot)
node-told (Node-F.Barrier spots) =
    plain-told (λ known. all_checked (span_of known roles.Qubit) spots >>= λ spans. Ok [])
    (λ known. then-told (all_checked (span_of known roles.Qubit) spots) (λ spans. Ok []) (each-told (span_of known roles.Qubit) (span-told known roles.Qubit) spots) (λ spans. tt))
node-told (Node-F.Call name angle spots) =
    plain-told (λ known. gates_of_call known name angle spots >>= λ gates. Ok (map stmt.Gate gates))
    (λ known. then-told (gates_of_call known name angle spots) (λ gates. Ok (map stmt.Gate gates)) (call-told known name angle spots) (λ gates. tt))
node-told (Node-F.If test when_true when_false) =
    let first : List Meaning = map meaning (map (λ (e : ToldItem). e.0) when_true) in
    let second : List Meaning = map meaning (map (λ (e : ToldItem). e.0) when_false) in
    branching-told test first second (order-told first (body-told when_true)) (order-told second (body-told when_false))
node-told (Node-F.While test body) =
    let inner : List Meaning = map meaning (map (λ (e : ToldItem). e.0) body) in
    looping-told test inner (order-told inner (body-told body))

meaning-told : (d : Item) → IsTold (meaning d)
meaning-told =
    ind-Item (λ (d : Node). IsToldNode (node_meaning d)) (λ (d : Item). IsTold (meaning d))
    (λ x y is. subst (λ (z : Node-F Node Item). IsToldNode (node_meaning (roll-Node z))) is
    (subst IsToldNode (sym (fold-roll-Node NodeMeaning Meaning node_step item_step (nodes_of y))) (node-told y)))
    (λ x y is. subst (λ (z : Item-F Node Item). IsTold (meaning (roll-Item z))) is
    (subst IsTold (sym (fold-roll-Item NodeMeaning Meaning node_step item_step (map-Item ToldNode ToldItem Node Item (λ (e : ToldNode). e.0) (λ (e : ToldItem). e.0) y)))
    (item-told (record { notes = y.notes; at = y.at; node = node_meaning y.node.0 }) y.node.1)))

items-told : (items : List Item) → AllByRecursion IsTold (map meaning items)
items-told [] = tt
items-told (item ∷ items) = (meaning-told item, items-told items)

tree-told : (tree : Tree) → Told (elaborated tree)
unfolding elaborated
tree-told tree =
    then-told (statements_of false tree.items nothing_known) (λ s. refuse_if (s.known.qubits == 0) (faults.NoQubits tree.end) >> Ok (program_of s))
    (order-told (map meaning tree.items) (items-told tree.items) false nothing_known)
    (λ s. passing-told (s.known.qubits == 0) (faults.NoQubits tree.end) (program_of s) (λ e. cc))

pub no_memory : (tree : Tree) → elaborated tree ≡ Err faults.Memory → ⊥
no_memory tree e = (subst Told e (tree-told tree)) refl
