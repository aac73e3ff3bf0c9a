-- Names by a look-up.
use Rattle.std.proofs.Common.{◌+◌, take, slice_get, get_or, unwrap_or, ◌≡◌, ℕ, suc, arith, List, [], ◌∷◌, ◌++◌, Bool, true, false, cond, Option, Some, None, refl, sym, ap, ◌∙◌, if◌then◌else◌}
use Rattle.std.specs.Prelude.{All, IfSome}
use Rattle.std.specs.Map.{lookup}
use Rattle.indexmap.specs.IndexMap.{insert_entry}
use Rattle.indexmap.proofs.MapLemmas.{insert_entry-absent, absent_from_lookup}
use Rattle.std.specs.Str.{bytes_eq}
use Rattle.std.proofs.lemmas.List.{take_more}
use Rattle.std.proofs.lemmas.List.Elements.{filter_map-append}
use Rattle.std.proofs.lemmas.Option.{slice_get_within, unwrap_or-slice_get}
use Rattle.aq_elab.specs.Elaborated.{registers_of, register_of}
use Rattle.aq_elab.specs.Known.{Known, declared_as}
use Rattle.aq_elab.specs.Bounds.{IsShort, with_name}
use Rattle.aq_elab.specs.declared.scope.Declared.{Declared}

-- what a map finds is what the name was declared as
pub lookup_declared : (names : List (List ℕ × Declared)) (name : List ℕ) → lookup (bytes_eq name) names ≡ declared_as names name
lookup_declared [] name = refl
lookup_declared (entry ∷ rest) name = ap (cond (bytes_eq name entry.0) (Some entry.1)) (lookup_declared rest name)

-- and short, where all are
pub declared_short : (names : List (List ℕ × Declared)) (name : List ℕ) → All (λ (entry : List ℕ × Declared). IsShort entry.1.span) names → IfSome (declared_as names name) (λ d. IsShort d.span)
declared_short [] name all = tt
declared_short (entry ∷ rest) name all = short_of (bytes_eq name entry.0) entry.1 (declared_as rest name) (all 0 entry (omega arith)) (declared_short rest name (λ k d lt. all (suc k) d (omega arith)))
  where
    short_of : (b : Bool) (d : Declared) (found : Option Declared) → IsShort d.span → IfSome found (λ e. IsShort e.span) → IfSome (if b then Some d else found) (λ e. IsShort e.span)
    short_of true d found here there = here
    short_of false d found here there = there

-- a new name goes last
pub names_added : (names : List (List ℕ × Declared)) (name : List ℕ) (d : Declared) → declared_as names name ≡ None → insert_entry bytes_eq names name d ≡ names ++ (name, d) ∷ []
names_added names name d absent = insert_entry-absent bytes_eq name d names (absent_from_lookup (bytes_eq name) names (lookup_declared names name ∙ absent))

abbrev pub known_of : List (List ℕ × Declared) → List (List ℕ) → ℕ → ℕ → ℕ → Known
known_of names claims qubits bits statements = record { names = names; claims = claims; qubits = qubits; bits = bits; statements = statements }

-- names that are those before and a new one
pub name_added : (known : Known) (names : List (List ℕ × Declared)) (name : List ℕ) (d : Declared) (qubits bits : ℕ) → names ≡ known.names ++ (name, d) ∷ [] → known_of names known.claims qubits bits known.statements ≡ with_name known name d qubits bits
name_added known names name d qubits bits e = ap (λ (all : List (List ℕ × Declared)). known_of all known.claims qubits bits known.statements) e

-- the registers of one name more
pub registers_more : (names : List (List ℕ × Declared)) (i : ℕ) (entry : List ℕ × Declared) → slice_get names i ≡ Some entry → registers_of (take i names) ++ registers_of (entry ∷ []) ≡ registers_of (take (i + 1) names)
registers_more names i entry e =
    let lt = slice_get_within names i entry e in
    let g : get_or names i entry ≡ entry = sym (unwrap_or-slice_get names i entry) ∙ ap (λ o. unwrap_or o entry) e in
    sym (ap registers_of (take_more names i entry lt ∙ ap (λ (x : List ℕ × Declared). take i names ++ x ∷ []) g) ∙ filter_map-append (λ (entry : List ℕ × Declared). register_of entry.0 entry.1 entry.1.role) (take i names) (entry ∷ []))
