-- The gates of a call are valid: their spots are qubits, no one twice.
use Rattle.std.proofs.Common.{◌≡◌, ◌≢◌, ℕ, ◌+◌, ◌<◌, Bool, true, false, List, [], ◌∷◌, ◌++◌, length, Option, Some, None, IfSome, Ok, IfOk, sym, ◌∙◌, arith, ℤ, pos}
use Rattle.std.specs.Prelude.{nat_eq, not, ◌==◌, ◌||◌, if◌then◌else◌}
use Rattle.std.specs.List.{All, AllByRecursion, IsDistinct, list_any, flat_map}
use Rattle.std.specs.Str.{bytes_eq}
use Rattle.std.proofs.lemmas.Bool.{eqb-true, eqb-false, not-false, or_parts}
use Rattle.std.proofs.lemmas.List.{length-map}
use Rattle.std.proofs.lemmas.List.Elements.{All-nil, All-cons, All-from_recursion, recursion_from_All}
use Rattle.std.proofs.lemmas.Result.{IfOk-weaker}
use Rattle.std.proofs.lemmas.Cmp.{nat_eq_equiv}
use Rattle.std.proofs.lemmas.List.Folds.{list_any-append}
use Rattle.std.proofs.lemmas.Map.Keys.{IsDistinct-cons}
use Rattle.aq_parse.specs.declared.tree.Word.{Word}
use Rattle.aq_parse.specs.declared.tree.Spot.{Spot}
use Rattle.aq_parse.specs.declared.tree.Angle.{Angle}
use Rattle.aq_prog.specs.Gates.{IsValidGate, AreEntries}
use Rattle.aq_prog.specs.Table.{rows_named, w, nil}
use Rattle.aq_prog.specs.declared.gate.Entry.{Entry}
use Rattle.aq_prog.specs.declared.gate.Gate.{Gate}
use Rattle.aq_prog.specs.declared.table.Rows.{Rows}
use Rattle.aq_prog.proofs.TableLaws.{rows_named-entries, four}
use Rattle.aq_base.specs.Checks.{all_checked, or_refuse, refuse_if, ◌>>=◌, ◌>>◌}
use Rattle.aq_elab.specs.Known.{Known, Checked}
use Rattle.aq_elab.specs.Spots.{span_of, member}
use Rattle.aq_elab.specs.Angles.{eighths_of}
use Rattle.aq_elab.specs.Calls.{one_of_table, recipe_named, is_unknown, is_angle_missed, recipe_at, spots_of, recipe_of, all_but_last, last, gate_on, flip_rows, flip_on, swap_on, cswap_on, gates_on, times_of, differs, same_sizes, instance, instances, no_repeat, no_repeats, gates_of_call}
use Rattle.aq_elab.specs.declared.fault.ElabFault.TheVariants as faults
use Rattle.aq_elab.specs.declared.recipe.Recipe.{Recipe}
use Rattle.aq_elab.specs.declared.recipe.Recipe.TheVariants as recipes
use Rattle.aq_elab.specs.declared.scope.Span.{Span}
use Rattle.aq_elab.specs.declared.scope.Role.TheVariants as roles
use Rattle.aq_elab.proofs.ValidLists.{follows, ahead, unless, given, Each, each, All-tabulate, All-flat_map, holds-last, holds-all_but_last, IsDistinct-all_but_last, others-differ, both_hold, holds_more}
use Rattle.aq_elab.proofs.ValidKnown.{IsSound, IsWithin, span_of-within, Reaches, member-below}

-- ---- recipes

-- the entries of its matrix keep their bounds
abbrev pub IsBounded : Recipe → Type 0
IsBounded (recipes.One rows) = AreEntries rows.rows
IsBounded recipes.Swap = Unit {0}
IsBounded recipes.ControlledSwap = Unit {0}

of_table : (o : Option Rows) → IfSome o (λ (rows : Rows). AreEntries rows.rows) → IfSome (one_of_table o) IsBounded
of_table None h = tt
of_table (Some rows) h = h

recipe_named-bounded : (name : List ℕ) (e : ℤ) → IfSome (recipe_named name e) IsBounded
unfolding recipe_named
recipe_named-bounded name e = by (bytes_eq name _) (bytes_eq name _)
  where
    by : (b c : Bool) → IfSome (if b then Some recipes.Swap else (if c then Some recipes.ControlledSwap else one_of_table (rows_named name e))) IsBounded
    by true c = tt
    by false true = tt
    by false false = of_table (rows_named name e) (rows_named-entries name e)

recipe_at-bounded : (name : Word) (angle : Option Angle) → IfOk (recipe_at name angle) IsBounded
recipe_at-bounded name None = given IsBounded (faults.UnknownGate name.at) (recipe_named name.text (pos 0)) (recipe_named-bounded name.text (pos 0))
recipe_at-bounded name (Some a) =
    follows (λ (e : ℤ). Unit {0}) IsBounded (or_refuse (faults.AngleForm a.at) (eighths_of a)) (λ e. or_refuse (faults.AngleForm a.at) (recipe_named name.text e))
    (given (λ (e : ℤ). Unit {0}) (faults.AngleForm a.at) (eighths_of a) (anything (eighths_of a)))
    (λ e u. given IsBounded (faults.AngleForm a.at) (recipe_named name.text e) (recipe_named-bounded name.text e))
  where
    anything : (o : Option ℤ) → IfSome o (λ (e : ℤ). Unit {0})
    anything None = tt
    anything (Some e) = tt

-- a recipe for so many spots
pub record IsRecipe (count : ℕ) (recipe : Recipe) : Type 0 where
  pub bounded : IsBounded recipe
  pub spots : count ≡ spots_of recipe

abbrev of_count : Word → ℕ → Recipe → Checked Recipe
of_count name count recipe = refuse_if (not (count == spots_of recipe)) (faults.OperandCount name.at) >> Ok recipe

recipe_of-fits : (name : Word) (angle : Option Angle) (count : ℕ) → IfOk (recipe_of name angle count) (IsRecipe count)
unfolding recipe_of
recipe_of-fits name angle count =
    unless (IsRecipe count) (is_unknown name.text) (faults.UnknownGate name.at) (refuse_if (is_angle_missed name angle) (faults.AngleForm name.at) >> (recipe_at name angle >>= of_count name count)) (λ known.
    unless (IsRecipe count) (is_angle_missed name angle) (faults.AngleForm name.at) (recipe_at name angle >>= of_count name count) (λ formed.
    follows IsBounded (IsRecipe count) (recipe_at name angle) (of_count name count) (recipe_at-bounded name angle) (λ recipe bounded.
    unless (IsRecipe count) (not (count == spots_of recipe)) (faults.OperandCount name.at) (Ok recipe) (λ e.
    record { bounded = bounded; spots = eqb-true count (spots_of recipe) (not-false (count == spots_of recipe) e) }))))

-- ---- gates on different qubits below n

pub record AreQubits (n : ℕ) (qubits : List ℕ) : Type 0 where
  pub below : AllByRecursion (λ q. q < n) qubits
  pub distinct : IsDistinct nat_eq qubits

differs_from : (n target : ℕ) (c : ℕ) → (c < n) × (nat_eq c target ≡ false) → (c < n) × (c ≢ target)
differs_from n target c h = (h.0, eqb-false c target h.1)

gate_on-valid : (n : ℕ) (rows : List (List Entry)) (q : ℕ) (qs : List ℕ) → AreEntries rows → AreQubits n (q ∷ qs) → IsValidGate n (gate_on rows (q ∷ qs))
gate_on-valid n rows q qs entries are =
    let front = all_but_last (q ∷ qs) in
    let target = last (q ∷ qs) in
    let below = holds-all_but_last (λ c. c < n) (q ∷ qs) are.below in
    let differ = others-differ q qs are.distinct in
    record {
      entries = entries;
      target = holds-last (λ c. c < n) q qs are.below;
      controls = All-from_recursion (λ c. (c < n) × (c ≢ target)) front (holds_more _ _ (differs_from n target) front (both_hold _ _ front below differ));
      distinct = IsDistinct-all_but_last (q ∷ qs) are.distinct;
    }

flip-entries : AreEntries flip_rows
flip-entries = four nil (w 0) (w 0) nil tt (omega arith, omega arith) (omega arith, omega arith) tt

flip-valid : (n : ℕ) (q : ℕ) (qs : List ℕ) → AreQubits n (q ∷ qs) → IsValidGate n (flip_on (q ∷ qs))
flip-valid n q qs are = gate_on-valid n flip_rows q qs flip-entries are

two : (n a b : ℕ) → a < n → b < n → nat_eq a b ≡ false → AreQubits n (a ∷ b ∷ [])
unfolding IsDistinct
two n a b h k differ = record { below = (h, (k, tt)); distinct = ((differ, tt), (tt, tt)) }

swap-valid : (n : ℕ) (qs : List ℕ) → AreQubits n qs → All (IsValidGate n) (swap_on qs)
unfolding IsDistinct
swap-valid n [] are = All-nil (IsValidGate n)
swap-valid n (a ∷ []) are = All-nil (IsValidGate n)
swap-valid n (a ∷ b ∷ []) are =
    let forth = flip-valid n a (b ∷ []) are in
    let back = flip-valid n b (a ∷ []) (two n b a are.below.1.0 are.below.0 (nat_eq_equiv.symm b a ∙ are.distinct.0.0)) in
    All-from_recursion (IsValidGate n) (swap_on (a ∷ b ∷ [])) (forth, (back, (forth, tt)))
swap-valid n (a ∷ b ∷ c ∷ qs) are = All-nil (IsValidGate n)

cswap-valid : (n : ℕ) (qs : List ℕ) → AreQubits n qs → All (IsValidGate n) (cswap_on qs)
unfolding IsDistinct
cswap-valid n [] are = All-nil (IsValidGate n)
cswap-valid n (c ∷ []) are = All-nil (IsValidGate n)
cswap-valid n (c ∷ a ∷ []) are = All-nil (IsValidGate n)
cswap-valid n (c ∷ a ∷ b ∷ []) are =
    let whole = flip-valid n c (a ∷ b ∷ []) are in
    let back = flip-valid n b (a ∷ []) (two n b a are.below.1.1.0 are.below.1.0 (nat_eq_equiv.symm b a ∙ are.distinct.1.0.0)) in
    All-from_recursion (IsValidGate n) (cswap_on (c ∷ a ∷ b ∷ [])) (back, (whole, (back, tt)))
cswap-valid n (c ∷ a ∷ b ∷ d ∷ qs) are = All-nil (IsValidGate n)

-- the qubits of one instance, as many as the recipe has spots
pub record IsInstance (n : ℕ) (recipe : Recipe) (qubits : List ℕ) : Type 0 where
  pub are : AreQubits n qubits
  pub as_many : length qubits ≡ spots_of recipe

one-valid : (n : ℕ) (rows : Rows) (qs : List ℕ) → AreEntries rows.rows → AreQubits n qs → length qs ≡ rows.controls + 1 → IsValidGate n (gate_on rows.rows qs)
one-valid n rows [] entries are e = absurd (omega arith)
one-valid n rows (q ∷ qs) entries are e = gate_on-valid n rows.rows q qs entries are

gates_on-valid : (n : ℕ) (recipe : Recipe) → IsBounded recipe → (qs : List ℕ) → IsInstance n recipe qs → All (IsValidGate n) (gates_on recipe qs)
gates_on-valid n (recipes.One rows) bounded qs i = All-cons (IsValidGate n) (gate_on rows.rows qs) [] (one-valid n rows qs bounded i.are i.as_many) (All-nil (IsValidGate n))
gates_on-valid n recipes.Swap bounded qs i = swap-valid n qs i.are
gates_on-valid n recipes.ControlledSwap bounded qs i = cswap-valid n qs i.are

-- ---- no qubit twice

pub record IsApart (before qubits : List ℕ) : Type 0 where
  pub new : AllByRecursion (λ q. list_any (λ p. p == q) before ≡ false) qubits
  pub distinct : IsDistinct nat_eq qubits

apart_more : (before : List ℕ) (q : ℕ) (qs : List ℕ) → list_any (λ p. p == q) before ≡ false → IsApart (before ++ q ∷ []) qs → IsApart before (q ∷ qs)
apart_more before q qs new apart =
    record {
      new = (new, holds_more (λ r. list_any (λ p. p == r) (before ++ q ∷ []) ≡ false) (λ r. list_any (λ p. p == r) before ≡ false) (λ r e. (parts r e).0) qs apart.new);
      distinct = IsDistinct-cons nat_eq q qs
          (holds_more (λ r. list_any (λ p. p == r) (before ++ q ∷ []) ≡ false) (λ r. nat_eq q r ≡ false) (λ r e. (or_parts (q == r) false (parts r e).1).0) qs apart.new) apart.distinct;
    }
  where
    parts : (r : ℕ) → list_any (λ p. p == r) (before ++ q ∷ []) ≡ false → (list_any (λ p. p == r) before ≡ false) × (((q == r) || false) ≡ false)
    parts r e = or_parts (list_any (λ p. p == r) before) ((q == r) || false) (sym (list_any-append (λ p. p == r) before (q ∷ [])) ∙ e)

no_repeat-apart : (before : List ℕ) (spots : List Spot) (qs : List ℕ) → length spots ≡ length qs → IfOk (no_repeat before spots qs) (λ u. IsApart before qs)
unfolding IsDistinct
no_repeat-apart before [] [] e = record { new = tt; distinct = tt }
no_repeat-apart before [] (q ∷ qs) e = absurd (omega arith)
no_repeat-apart before (spot ∷ spots) [] e = absurd (omega arith)
no_repeat-apart before (spot ∷ spots) (q ∷ qs) e =
    let rest = no_repeat (before ++ q ∷ []) spots qs in
    unless (λ u. IsApart before (q ∷ qs)) (list_any (λ p. p == q) before) (faults.RepeatedQubit spot.name.at) rest (λ new.
    IfOk-weaker rest (λ u. IsApart (before ++ q ∷ []) qs) (λ u. IsApart before (q ∷ qs)) (λ u apart. apart_more before q qs new apart) (no_repeat-apart (before ++ q ∷ []) spots qs (omega arith)))

no_repeats-distinct : (spots : List Spot) (lists : List (List ℕ)) → AllByRecursion (λ qs. length spots ≡ length qs) lists → IfOk (no_repeats spots lists) (λ u. AllByRecursion (IsDistinct nat_eq) lists)
no_repeats-distinct spots [] h = tt
no_repeats-distinct spots (qs ∷ rest) h =
    ahead (IsApart [] qs) (λ u. AllByRecursion (IsDistinct nat_eq) (qs ∷ rest)) (no_repeat [] spots qs) (no_repeats spots rest) (no_repeat-apart [] spots qs h.0) (λ apart.
    IfOk-weaker (no_repeats spots rest) (λ u. AllByRecursion (IsDistinct nat_eq) rest) (λ u. AllByRecursion (IsDistinct nat_eq) (qs ∷ rest)) (λ u more. (apart.distinct, more)) (no_repeats-distinct spots rest h.1))

-- ---- instances

same_sizes-same : (n : ℕ) (spots : List Spot) (spans : List Span) → length spots ≡ length spans → IfOk (same_sizes n spots spans) (λ u. AllByRecursion (λ (s : Span). differs n s.size ≡ false) spans)
same_sizes-same n [] [] e = tt
same_sizes-same n [] (span ∷ spans) e = absurd (omega arith)
same_sizes-same n (spot ∷ spots) [] e = absurd (omega arith)
same_sizes-same n (spot ∷ spots) (span ∷ spans) e =
    unless (λ u. AllByRecursion (λ (s : Span). differs n s.size ≡ false) (span ∷ spans)) (differs n span.size) (faults.SizeDiffers spot.name.at) (same_sizes n spots spans) (λ same.
    IfOk-weaker (same_sizes n spots spans) (λ u. AllByRecursion (λ (s : Span). differs n s.size ≡ false) spans) (λ u. AllByRecursion (λ (s : Span). differs n s.size ≡ false) (span ∷ spans)) (λ u more. (same, more)) (same_sizes-same n spots spans (omega arith)))

same-reaches : (n i : ℕ) (size : Option ℕ) → i < n → differs n size ≡ false → Reaches i size
same-reaches n i None lt e = tt
same-reaches n i (Some m) lt e = let same = eqb-true m n (not-false (m == n) e) in omega arith

instance-below : (n times i : ℕ) (spans : List Span) → i < times → AllByRecursion (IsWithin n) spans → AllByRecursion (λ (s : Span). differs times s.size ≡ false) spans → AllByRecursion (λ q. q < n) (instance spans i)
instance-below n times i [] lt h k = tt
instance-below n times i (s ∷ spans) lt h k = (member-below n s i h.0 (same-reaches times i s.size lt k.0), instance-below n times i spans lt h.1 k.1)

instances-below : (n : ℕ) (spans : List Span) → AllByRecursion (IsWithin n) spans → AllByRecursion (λ (s : Span). differs (times_of spans) s.size ≡ false) spans → AllByRecursion (AllByRecursion (λ q. q < n)) (instances spans)
instances-below n spans h k =
    recursion_from_All (AllByRecursion (λ q. q < n)) (instances spans) (All-tabulate (AllByRecursion (λ q. q < n)) (times_of spans) (instance spans) (λ i lt. instance-below n (times_of spans) i spans lt h k))

instances-length : (spans : List Span) → AllByRecursion (λ qs. length spans ≡ length qs) (instances spans)
instances-length spans =
    recursion_from_All (λ qs. length spans ≡ length qs) (instances spans) (All-tabulate (λ qs. length spans ≡ length qs) (times_of spans) (instance spans) (λ i lt. sym (length-map spans (λ span. member span i))))

-- ---- calls

instances-are : (n : ℕ) (recipe : Recipe) (lists : List (List ℕ)) → AllByRecursion (AllByRecursion (λ q. q < n)) lists → AllByRecursion (IsDistinct nat_eq) lists → AllByRecursion (λ qs. spots_of recipe ≡ length qs) lists → AllByRecursion (IsInstance n recipe) lists
instances-are n recipe [] h k e = tt
instances-are n recipe (qs ∷ lists) h k e =
    (record { are = record { below = h.0; distinct = k.0 }; as_many = sym e.0 }, instances-are n recipe lists h.1 k.1 e.1)

gates-valid : (n : ℕ) (recipe : Recipe) (spots : List Spot) (spans : List Span) → IsRecipe (length spots) recipe → Each (IsWithin n) spots spans
    → AllByRecursion (λ (s : Span). differs (times_of spans) s.size ≡ false) spans → AllByRecursion (IsDistinct nat_eq) (instances spans)
    → All (IsValidGate n) (flat_map (gates_on recipe) (instances spans))
gates-valid n recipe spots spans is each_of same distinct =
    let many : AllByRecursion (λ qs. spots_of recipe ≡ length qs) (instances spans) =
    holds_more (λ qs. length spans ≡ length qs) (λ qs. spots_of recipe ≡ length qs) (λ qs e. sym is.spots ∙ each_of.as_many ∙ e) (instances spans) (instances-length spans) in
    All-flat_map (IsValidGate n) (gates_on recipe) (instances spans)
    (holds_more (IsInstance n recipe) (λ qs. All (IsValidGate n) (gates_on recipe qs)) (gates_on-valid n recipe is.bounded) (instances spans)
    (instances-are n recipe (instances spans) (instances-below n spans each_of.all same) distinct many))

abbrev played : Recipe → List Spot → List Span → Checked (List Gate)
played recipe spots spans =
    same_sizes (times_of spans) spots spans
    >> no_repeats spots (instances spans)
    >> Ok (flat_map (gates_on recipe) (instances spans))

played-valid : (n : ℕ) (recipe : Recipe) (spots : List Spot) (spans : List Span) → IsRecipe (length spots) recipe → Each (IsWithin n) spots spans → IfOk (played recipe spots spans) (All (IsValidGate n))
played-valid n recipe spots spans is each_of =
    let lists = instances spans in
    let gates = flat_map (gates_on recipe) lists in
    let lengths : AllByRecursion (λ qs. length spots ≡ length qs) lists =
    holds_more (λ qs. length spans ≡ length qs) (λ qs. length spots ≡ length qs) (λ qs e. each_of.as_many ∙ e) lists (instances-length spans) in
    ahead (AllByRecursion (λ (s : Span). differs (times_of spans) s.size ≡ false) spans) (All (IsValidGate n)) (same_sizes (times_of spans) spots spans) (no_repeats spots lists >> Ok gates)
    (same_sizes-same (times_of spans) spots spans each_of.as_many) (λ same.
    ahead (AllByRecursion (IsDistinct nat_eq) lists) (All (IsValidGate n)) (no_repeats spots lists) (Ok gates) (no_repeats-distinct spots lists lengths) (λ distinct.
    gates-valid n recipe spots spans is each_of same distinct))

pub gates_of_call-valid : (known : Known) (name : Word) (angle : Option Angle) (spots : List Spot) → IsSound known → IfOk (gates_of_call known name angle spots) (All (IsValidGate known.qubits))
unfolding gates_of_call
gates_of_call-valid known name angle spots sound =
    follows (IsRecipe (length spots)) (All (IsValidGate known.qubits)) (recipe_of name angle (length spots)) (λ recipe. all_checked (span_of known roles.Qubit) spots >>= λ spans. played recipe spots spans)
    (recipe_of-fits name angle (length spots)) (λ recipe is.
    follows (Each (IsWithin known.qubits) spots) (All (IsValidGate known.qubits)) (all_checked (span_of known roles.Qubit) spots) (λ spans. played recipe spots spans)
    (each (IsWithin known.qubits) (span_of known roles.Qubit) (λ spot. span_of-within known roles.Qubit spot sound) spots) (λ spans each_of.
    played-valid known.qubits recipe spots spans is each_of))
