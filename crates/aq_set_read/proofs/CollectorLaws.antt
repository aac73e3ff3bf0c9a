-- Names by a look-up.
use Rattle.std.proofs.Common.{◌≡◌, ℕ, List, [], ◌∷◌, ◌++◌, cond, Option, Some, None, refl, ap, ◌∙◌}
use Rattle.std.specs.Map.{lookup}
use Rattle.std.specs.Str.{bytes_eq}
use Rattle.indexmap.specs.IndexMap.{insert_entry}
use Rattle.indexmap.proofs.MapLemmas.{insert_entry-absent, absent_from_lookup}
use Rattle.aq_set_read.specs.Gathered.{Gathered, named, with_name}
use Rattle.aq_set_read.specs.declared.made.Made.{Made}
use Rattle.aq_sets.specs.declared.sets.Expr.{Expr}
use Rattle.aq_sets.specs.declared.sets.NamedSet.{NamedSet}
use Rattle.aq_sets.specs.declared.sets.NamedClaim.{NamedClaim}

-- what a map finds is what the name has
pub lookup_named : (names : List (List ℕ × Option Made)) (name : List ℕ) → lookup (bytes_eq name) names ≡ named names name
lookup_named [] name = refl
lookup_named (entry ∷ rest) name = ap (cond (bytes_eq name entry.0) (Some entry.1)) (lookup_named rest name)

-- a new name goes last
pub names_added : (names : List (List ℕ × Option Made)) (name : List ℕ) (made : Option Made) → named names name ≡ None → insert_entry bytes_eq names name made ≡ names ++ (name, made) ∷ []
names_added names name made absent = insert_entry-absent bytes_eq name made names (absent_from_lookup (bytes_eq name) names (lookup_named names name ∙ absent))

abbrev pub gathered_of : List Expr → ℕ → List (List ℕ × Option Made) → List NamedSet → List NamedClaim → Gathered
gathered_of exprs nodes names sets claims = record { exprs = exprs; nodes = nodes; names = names; sets = sets; claims = claims }

-- names that are those before and a new one
pub name_added : (g : Gathered) (names : List (List ℕ × Option Made)) (name : List ℕ) (made : Option Made) → names ≡ g.names ++ (name, made) ∷ [] → gathered_of g.exprs g.nodes names g.sets g.claims ≡ with_name name made g
name_added g names name made e = ap (λ (all : List (List ℕ × Option Made)). gathered_of g.exprs g.nodes all g.sets g.claims) e
