-- What is known stays sound: the numbers of qubits and bits are within the limits, and each register within the numbers.
use Rattle.std.proofs.Common.{◌≡◌, ℕ, zero, suc, ◌+◌, ◌<◌, ◌≤◌, Bool, true, false, List, [], ◌∷◌, ◌++◌, map, Option, Some, None, IfSome, Ok, Err, IfOk, refl, sym, ap, subst, ◌∙◌, arith}
use Rattle.std.specs.Prelude.{nat_lt, ◌||◌, if◌then◌else◌}
use Rattle.std.specs.Option.{is_some}
use Rattle.std.specs.List.{IsDistinct, list_any, cons_option}
use Rattle.std.specs.Str.{bytes_eq}
use Rattle.std.proofs.lemmas.List.{map-append, append-nil}
use Rattle.std.proofs.lemmas.Bool.{ltb-true, ltb-false}
use Rattle.std.proofs.lemmas.List.Elements.{filter_map-append}
use Rattle.std.proofs.lemmas.Cmp.{nat_list_eq_equiv}
use Rattle.std.proofs.lemmas.Map.Keys.{IsDistinct-push}
use Rattle.aq_parse.specs.declared.tree.Word.{Word}
use Rattle.aq_parse.specs.declared.tree.Spot.{Spot}
use Rattle.aq_base.specs.Checks.{refuse_if, ◌>>◌}
use Rattle.aq_base.specs.Limits.{most_bits, most_qubits}
use Rattle.aq_prog.specs.Programs.{AreInRow}
use Rattle.aq_prog.specs.declared.program.BitRegister.{BitRegister}
use Rattle.aq_elab.specs.Known.{Known, nothing_known, declared_as}
use Rattle.aq_elab.specs.Spots.{is_role, width_of, width, offset, member, part_at, part_of, part_as, span_of}
use Rattle.aq_elab.specs.Statements.{is_none_of, registered, declaring}
use Rattle.aq_elab.specs.Elaborated.{register_of, registers_of}
use Rattle.aq_elab.specs.declared.fault.ElabFault.TheVariants as faults
use Rattle.aq_elab.specs.declared.scope.Declared.{Declared}
use Rattle.aq_elab.specs.declared.scope.Span.{Span}
use Rattle.aq_elab.specs.declared.scope.Role.{Role}
use Rattle.aq_elab.specs.declared.scope.Role.TheVariants as roles
use Rattle.aq_elab.proofs.ValidLists.{unless, at_test}
use Rattle.aq_elab.proofs.ValidLevels.{IsGrown}

-- so many qubits, or so many bits
abbrev pub count_of : Role → ℕ → ℕ → ℕ
count_of roles.Qubit qubits bits = qubits
count_of roles.Bit qubits bits = bits

abbrev pub counted_as : Role → Known → ℕ
counted_as role known = count_of role known.qubits known.bits

-- all of the span is below n
abbrev pub IsWithin : ℕ → Span → Type 0
IsWithin n span = span.first + width span ≤ n

abbrev pub names_of : List (List ℕ × Declared) → List (List ℕ)
names_of entries = map (λ (r : BitRegister). r.name) (registers_of entries)

pub record IsSound (known : Known) : Type 0 where
  pub qubits : known.qubits ≤ most_qubits
  pub bits : known.bits ≤ most_bits
  pub spans : (name : List ℕ) → IfSome (declared_as known.names name) (λ d. IsWithin (counted_as d.role known) d.span)
  pub names : IsDistinct bytes_eq (names_of known.names)
  pub row : AreInRow 0 known.bits (registers_of known.names)

pub nothing-sound : IsSound nothing_known
unfolding IsDistinct
nothing-sound = record { qubits = omega arith; bits = omega arith; spans = λ name. tt; names = tt; row = refl }

-- ---- spots

role_is : (role other : Role) → is_role role other ≡ true → role ≡ other
role_is roles.Qubit roles.Qubit e = refl
role_is roles.Qubit roles.Bit e = absurd cc
role_is roles.Bit roles.Qubit e = absurd cc
role_is roles.Bit roles.Bit e = refl

part_at-within : (n : ℕ) (spot : Spot) (span : Span) (i : ℕ) (size : Option ℕ) → span.first + width_of size ≤ n → IfOk (part_at spot span i size) (IsWithin n)
part_at-within n spot span i None h = tt
part_at-within n spot span i (Some m) h =
    at_test (IsWithin n) (nat_lt i m) (Ok (record { first = span.first + i; size = None })) (Err (faults.IndexOut spot.name.at))
    (λ e. let lt = ltb-true i m e in omega arith)
    (λ e. tt)

part_of-within : (n : ℕ) (spot : Spot) (span : Span) (index : Option ℕ) → IsWithin n span → IfOk (part_of spot span index) (IsWithin n)
part_of-within n spot span None h = h
part_of-within n spot span (Some i) h = part_at-within n spot span i span.size h

part_as-within : (known : Known) (role : Role) (spot : Spot) (o : Option Declared) → IfSome o (λ d. IsWithin (counted_as d.role known) d.span) → IfOk (part_as role spot o) (IsWithin (counted_as role known))
part_as-within known role spot None h = tt
part_as-within known role spot (Some d) h =
    at_test (IsWithin (counted_as role known)) (is_role role d.role) (part_of spot d.span spot.index) (Err (faults.UnknownName spot.name.at))
    (λ e. part_of-within (counted_as role known) spot d.span spot.index (subst (λ r. IsWithin (counted_as r known) d.span) (sym (role_is role d.role e)) h))
    (λ e. tt)

pub span_of-within : (known : Known) (role : Role) (spot : Spot) → IsSound known → IfOk (span_of known role spot) (IsWithin (counted_as role known))
span_of-within known role spot sound = part_as-within known role spot (declared_as known.names spot.name.text) (sound.spans spot.name.text)

-- the index is one of the span's, and any index is that of a single one
abbrev pub Reaches : ℕ → Option ℕ → Type 0
Reaches i None = Unit {0}
Reaches i (Some m) = i < m

pub reaches : (i : ℕ) (size : Option ℕ) → i < width_of size → Reaches i size
reaches i None h = tt
reaches i (Some m) h = h

offset-below : (i : ℕ) (size : Option ℕ) → Reaches i size → offset size i < width_of size
offset-below i None h = omega arith
offset-below i (Some m) h = h

pub member-below : (n : ℕ) (span : Span) (i : ℕ) → IsWithin n span → Reaches i span.size → member span i < n
member-below n span i within r = let below = offset-below i span.size r in omega arith

-- ---- declarations

widest : (size : Option ℕ) → is_none_of size ≡ false → 0 < width_of size
widest None e = omega arith
widest (Some zero) e = absurd cc
widest (Some (suc n)) e = omega arith

within_more : (known : Known) (qubits bits : ℕ) (o : Option Declared) → known.qubits ≤ qubits → known.bits ≤ bits
    → IfSome o (λ d. IsWithin (counted_as d.role known) d.span) → IfSome o (λ d. IsWithin (count_of d.role qubits bits) d.span)
within_more known qubits bits None g h k = tt
within_more known qubits bits (Some d) g h k = by d.role k
  where
    by : (role : Role) → IsWithin (counted_as role known) d.span → IsWithin (count_of role qubits bits) d.span
    by roles.Qubit w = omega arith
    by roles.Bit w = omega arith

declared_behind : (P : Declared → Type 0) (entries : List (List ℕ × Declared)) (key : List ℕ) (d : Declared) (name : List ℕ)
    → IfSome (declared_as entries name) P → P d → IfSome (declared_as (entries ++ (key, d) ∷ []) name) P
declared_behind P [] key d name h p = by (bytes_eq name key)
  where
    by : (b : Bool) → IfSome (if b then Some d else None) P
    by true = p
    by false = tt
declared_behind P (e ∷ es) key d name h p = by (bytes_eq name e.0) h (λ k. declared_behind P es key d name k p)
  where
    by : (b : Bool) → IfSome (if b then Some e.1 else declared_as es name) P
        → (IfSome (declared_as es name) P → IfSome (declared_as (es ++ (key, d) ∷ []) name) P)
        → IfSome (if b then Some e.1 else declared_as (es ++ (key, d) ∷ []) name) P
    by true k more = k
    by false k more = more k

-- a new name is none of the registers' names
new_name : (entries : List (List ℕ × Declared)) (name : List ℕ) → is_some (declared_as entries name) ≡ false → list_any (bytes_eq name) (names_of entries) ≡ false
new_name [] name e = refl
new_name ((key, d) ∷ es) name e = by (bytes_eq name key) d.role refl e (new_name es name)
  where
    by : (b : Bool) (role : Role) → bytes_eq name key ≡ b → is_some (if b then Some d else declared_as es name) ≡ false
        → (is_some (declared_as es name) ≡ false → list_any (bytes_eq name) (names_of es) ≡ false)
        → list_any (bytes_eq name) (map (λ (r : BitRegister). r.name) (cons_option (register_of key d role) (registers_of es))) ≡ false
    by true role same h more = absurd cc
    by false roles.Qubit same h more = more h
    by false roles.Bit same h more = ap (λ t. t || list_any (bytes_eq name) (names_of es)) same ∙ more h

row_behind : (first end : ℕ) (rs : List BitRegister) (r : BitRegister) → AreInRow first end rs → r.first ≡ end → 0 < r.size → AreInRow first (end + r.size) (rs ++ r ∷ [])
row_behind first end [] r row is some = (is ∙ sym row, some, ap (λ k. k + r.size) row)
row_behind first end (s ∷ rs) r row is some = (row.0, row.1, row_behind (first + s.size) end rs r row.2 is some)

grown_qubits : (known : Known) (name : Word) (size : Option ℕ) → Known
grown_qubits known name size = record {
  names = known.names ++ (name.text, record { role = roles.Qubit; span = record { first = known.qubits; size = size } }) ∷ [];
  claims = known.claims;
  qubits = known.qubits + width_of size;
  bits = known.bits;
  statements = known.statements;
}

grown_bits : (known : Known) (name : Word) (size : Option ℕ) → Known
grown_bits known name size = record {
  names = known.names ++ (name.text, record { role = roles.Bit; span = record { first = known.bits; size = size } }) ∷ [];
  claims = known.claims;
  qubits = known.qubits;
  bits = known.bits + width_of size;
  statements = known.statements;
}

-- what is known after a new name, and that there is no less
pub record IsDeclared (role : Role) (size : Option ℕ) (before after : Known) : Type 0 where
  pub sound : IsSound after
  pub grown : IsGrown before after
  pub within : counted_as role before + width_of size ≤ counted_as role after

qubits-sound : (known : Known) (name : Word) (size : Option ℕ) → IsSound known → known.qubits + width_of size ≤ most_qubits → IsSound (grown_qubits known name size)
unfolding grown_qubits
qubits-sound known name size sound fits =
    let d : Declared = record { role = roles.Qubit; span = record { first = known.qubits; size = size } } in
    let more : registers_of (known.names ++ (name.text, d) ∷ []) ≡ registers_of known.names =
    filter_map-append (λ entry. register_of entry.0 entry.1 entry.1.role) known.names ((name.text, d) ∷ []) ∙ append-nil (registers_of known.names) in
    record {
      qubits = fits;
      bits = sound.bits;
      spans = λ other. declared_behind (λ d. IsWithin (count_of d.role (known.qubits + width_of size) known.bits) d.span) known.names name.text d other
          (within_more known (known.qubits + width_of size) known.bits (declared_as known.names other) (omega arith) (omega arith) (sound.spans other))
          (omega arith);
      names = subst (λ (rs : List BitRegister). IsDistinct bytes_eq (map (λ (r : BitRegister). r.name) rs)) (sym more) sound.names;
      row = subst (AreInRow 0 known.bits) (sym more) sound.row;
    }

bits-sound : (known : Known) (name : Word) (size : Option ℕ) → IsSound known → 0 < width_of size → is_some (declared_as known.names name.text) ≡ false → known.bits + width_of size ≤ most_bits → IsSound (grown_bits known name size)
unfolding grown_bits
bits-sound known name size sound some new fits =
    let d : Declared = record { role = roles.Bit; span = record { first = known.bits; size = size } } in
    let r : BitRegister = record { name = name.text; first = known.bits; size = width_of size; indexed = is_some size } in
    let more : registers_of (known.names ++ (name.text, d) ∷ []) ≡ registers_of known.names ++ r ∷ [] =
    filter_map-append (λ entry. register_of entry.0 entry.1 entry.1.role) known.names ((name.text, d) ∷ []) in
    record {
      qubits = sound.qubits;
      bits = fits;
      spans = λ other. declared_behind (λ d. IsWithin (count_of d.role known.qubits (known.bits + width_of size)) d.span) known.names name.text d other
          (within_more known known.qubits (known.bits + width_of size) (declared_as known.names other) (omega arith) (omega arith) (sound.spans other))
          (omega arith);
      names = subst (λ (rs : List BitRegister). IsDistinct bytes_eq (map (λ (r : BitRegister). r.name) rs)) (sym more)
          (subst (IsDistinct bytes_eq) (sym (map-append (λ (r : BitRegister). r.name) (registers_of known.names) (r ∷ [])))
          (IsDistinct-push nat_list_eq_equiv (names_of known.names) name.text sound.names (new_name known.names name.text new)));
      row = subst (AreInRow 0 (known.bits + width_of size)) (sym more) (row_behind 0 known.bits (registers_of known.names) r sound.row refl some);
    }

registered-sound : (role : Role) (name : Word) (size : Option ℕ) (known : Known) → IsSound known → 0 < width_of size → is_some (declared_as known.names name.text) ≡ false
    → IfOk (registered role name size known) (IsDeclared role size known)
unfolding grown_qubits grown_bits
registered-sound roles.Qubit name size known sound some new =
    unless (IsDeclared roles.Qubit size known) (nat_lt most_qubits (known.qubits + width_of size)) (faults.TooManyQubits name.at) (Ok (grown_qubits known name size)) (λ e.
    let fits = ltb-false most_qubits (known.qubits + width_of size) e in
    record {
      sound = qubits-sound known name size sound fits;
      grown = record { qubits = omega arith; bits = omega arith; claims = omega arith };
      within = omega arith;
    })
registered-sound roles.Bit name size known sound some new =
    unless (IsDeclared roles.Bit size known) (nat_lt most_bits (known.bits + width_of size)) (faults.TooManyBits name.at) (Ok (grown_bits known name size)) (λ e.
    let fits = ltb-false most_bits (known.bits + width_of size) e in
    record {
      sound = bits-sound known name size sound some new fits;
      grown = record { qubits = omega arith; bits = omega arith; claims = omega arith };
      within = omega arith;
    })

pub declaring-sound : (role : Role) (name : Word) (size : Option ℕ) (known : Known) → IsSound known → IfOk (declaring role name size known) (IsDeclared role size known)
unfolding declaring
declaring-sound role name size known sound =
    unless (IsDeclared role size known) (is_none_of size) (faults.EmptyRegister name.at) (refuse_if (is_some (declared_as known.names name.text)) (faults.TwiceDeclared name.at) >> registered role name size known) (λ some.
    unless (IsDeclared role size known) (is_some (declared_as known.names name.text)) (faults.TwiceDeclared name.at) (registered role name size known) (λ new.
    registered-sound role name size known sound (widest size some) new))
