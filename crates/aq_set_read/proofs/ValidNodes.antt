-- What is gathered stays sound where an expression is put behind the others.
use Rattle.std.proofs.Common.{◌≡◌, ◌≢◌, ℕ, zero, suc, ◌+◌, ◌<◌, ◌≤◌, ◌==◌, Bool, true, false, nat_lt, List, [], ◌∷◌, ◌++◌, map, length, Option, Some, None, Ok, refl, sym, ap, subst, ◌∙◌, arith}
use Rattle.std.specs.Prelude.{slice_get}
use Rattle.std.specs.List.{AllByRecursion, IsDistinct}
use Rattle.std.specs.Str.{bytes_eq}
use Rattle.std.proofs.lemmas.Bool.{eqb-false, ltb-true, ltb-false, or_parts}
use Rattle.std.proofs.lemmas.List.{length-append, length_push, append_assoc, append-nil}
use Rattle.std.proofs.lemmas.Option.{slice_get_within}
use Rattle.aq_lex.specs.declared.place.Place.{Place}
use Rattle.aq_base.specs.Checks.{◌>>=◌}
use Rattle.aq_base.specs.Limits.{most_names, most_nodes, most_qubits}
use Rattle.aq_set_read.specs.Gathered.{Gathered, Checked, counted, named}
use Rattle.aq_sets.specs.Tables.{table}
use Rattle.aq_sets.specs.Sizes.{Size, size_step, size_of}
use Rattle.aq_set_read.specs.Meaning.{Step, out_of_range, with_expr, node}
use Rattle.aq_sets.specs.Valid.{IsValidExpr}
use Rattle.aq_set_read.specs.declared.made.Made.{Made}
use Rattle.aq_sets.specs.declared.sets.Expr.{Expr}
use Rattle.aq_sets.specs.declared.sets.Case.{Case}
use Rattle.aq_sets.specs.declared.sets.NamedSet.{NamedSet}
use Rattle.aq_sets.specs.declared.sets.NamedClaim.{NamedClaim}
use Rattle.aq_set_read.specs.declared.set_fault.SetFault.TheVariants as faults
use Rattle.aq_set_read.proofs.ValidChecks.{Judged, unless, follows}
use Rattle.aq_sets.proofs.ValidSizes.{size-stays, size-last, slice_get-front, slice_get-last, valid-stays, holds_more}

-- ---- sound

-- an expression that is there, on these qubits
pub record IsMade (exprs : List Expr) (m : Made) : Type 0 where
  pub there : m.expr < length exprs
  pub qubits : (size_of exprs m.expr).qubits ≡ m.qubits

abbrev pub IsFew : ℕ → Type 0
IsFew qubits = (0 < qubits) × (qubits ≤ most_qubits)

pub record AreSound (exprs : List Expr) : Type 0 where
  pub valid : (i : ℕ) (e : Expr) → slice_get exprs i ≡ Some e → IsValidExpr exprs i e
  pub qubits : (i : ℕ) → i < length exprs → IsFew (size_of exprs i).qubits

abbrev pub IsCaseOn : List Expr → ℕ → Case → Type 0
IsCaseOn exprs n c = (c.set < length exprs) × ((size_of exprs c.set).qubits ≡ n)

pub record IsSoundClaim (exprs : List Expr) (claim : NamedClaim) : Type 0 where
  pub some : 0 < length claim.cases
  pub qubits : ℕ
  pub cases_on : AllByRecursion (IsCaseOn exprs qubits) claim.cases

abbrev pub names_of : List NamedSet → List NamedClaim → List (List ℕ)
names_of sets claims = map (λ (s : NamedSet). s.name) sets ++ map (λ (c : NamedClaim). c.name) claims

-- what the names stand for is there; no name is another, and one that isn't known is none of them; each set and each claim
-- has a name
pub record AreNamed (exprs : List Expr) (names : List (List ℕ × Option Made)) (sets : List NamedSet) (claims : List NamedClaim) : Type 0 where
  pub made : (name : List ℕ) (m : Made) → named names name ≡ Some (Some m) → IsMade exprs m
  pub sets_there : AllByRecursion (λ (s : NamedSet). s.expr < length exprs) sets
  pub claims_sound : AllByRecursion (IsSoundClaim exprs) claims
  pub distinct : IsDistinct bytes_eq (names_of sets claims)
  pub new : (name : List ℕ) → named names name ≡ None → AllByRecursion (λ other. bytes_eq name other ≡ false) (names_of sets claims)
  pub counted : length sets + length claims ≤ length names

pub record IsSound (g : Gathered) : Type 0 where
  pub exprs : AreSound g.exprs
  pub counted : length g.exprs ≤ g.nodes
  pub few : g.nodes ≤ most_nodes
  pub names : AreNamed g.exprs g.names g.sets g.claims
  pub few_names : length g.names ≤ most_names

-- ---- grown

-- more expressions, and the same names, sets and claims
pub record IsGrown (before after : Gathered) : Type 0 where
  pub more : List Expr
  pub exprs : after.exprs ≡ before.exprs ++ more
  pub names : after.names ≡ before.names
  pub sets : after.sets ≡ before.sets
  pub claims : after.claims ≡ before.claims

-- more nodes alone
pub not_grown : (g : Gathered) (nodes : ℕ) → IsGrown g (record { exprs = g.exprs; nodes = nodes; names = g.names; sets = g.sets; claims = g.claims })
not_grown g nodes = record { more = []; exprs = sym (append-nil g.exprs); names = refl; sets = refl; claims = refl }

pub grown_twice : (a b c : Gathered) → IsGrown a b → IsGrown b c → IsGrown a c
grown_twice a b c g h = record {
  more = g.more ++ h.more;
  exprs = h.exprs ∙ ap (λ (es : List Expr). es ++ h.more) g.exprs ∙ append_assoc a.exprs g.more h.more;
  names = h.names ∙ g.names;
  sets = h.sets ∙ g.sets;
  claims = h.claims ∙ g.claims;
}

made-behind : (exprs more : List Expr) (m : Made) → IsMade exprs m → IsMade (exprs ++ more) m
made-behind exprs more m made = record {
  there = let long = length-append exprs more in omega (arith, long, made.there);
  qubits = ap (λ (s : Size). s.qubits) (size-stays exprs more m.expr made.there) ∙ made.qubits;
}

pub made-grown : (g h : Gathered) (m : Made) → IsGrown g h → IsMade g.exprs m → IsMade h.exprs m
made-grown g h m grown made = subst (λ (es : List Expr). IsMade es m) (sym grown.exprs) (made-behind g.exprs grown.more m made)

case-behind : (exprs more : List Expr) (n : ℕ) (c : Case) → IsCaseOn exprs n c → IsCaseOn (exprs ++ more) n c
case-behind exprs more n c h =
    let long = length-append exprs more in
    (omega (arith, long, h.0), ap (λ (s : Size). s.qubits) (size-stays exprs more c.set h.0) ∙ h.1)

claim-behind : (exprs more : List Expr) (claim : NamedClaim) → IsSoundClaim exprs claim → IsSoundClaim (exprs ++ more) claim
claim-behind exprs more claim h = record {
  some = h.some;
  qubits = h.qubits;
  cases_on = holds_more (IsCaseOn exprs h.qubits) (IsCaseOn (exprs ++ more) h.qubits) (case-behind exprs more h.qubits) claim.cases h.cases_on;
}

named-behind : (exprs more : List Expr) (names : List (List ℕ × Option Made)) (sets : List NamedSet) (claims : List NamedClaim) → AreNamed exprs names sets claims → AreNamed (exprs ++ more) names sets claims
named-behind exprs more names sets claims h =
    let long = length-append exprs more in
    record {
      made = λ name m e. made-behind exprs more m (h.made name m e);
      sets_there = holds_more (λ (s : NamedSet). s.expr < length exprs) (λ (s : NamedSet). s.expr < length (exprs ++ more)) (λ s lt. omega (arith, long, lt)) sets h.sets_there;
      claims_sound = holds_more (IsSoundClaim exprs) (IsSoundClaim (exprs ++ more)) (claim-behind exprs more) claims h.claims_sound;
      distinct = h.distinct;
      new = h.new;
      counted = h.counted;
    }

-- ---- one expression more

-- an expression that may stand behind these, on so many qubits
pub record IsNext (exprs : List Expr) (e : Expr) (qubits : ℕ) : Type 0 where
  pub valid : IsValidExpr exprs (length exprs) e
  pub is : (size_step (table size_step exprs) e).qubits ≡ qubits
  pub few : IsFew qubits

some_is : {A : Type 0} (x y : A) → Some x ≡ Some y → x ≡ y
some_is x y e = cc

-- what holds at each earlier position, and at the last one, holds at each
at_each : (P : ℕ → Type 0) (n i : ℕ) → (i < n → P i) → P n → i < n + 1 → P i
at_each P n i before last lt = by (nat_lt i n) refl
  where
    by : (b : Bool) → nat_lt i n ≡ b → P i
    by true e = before (ltb-true i n e)
    by false e = let le = ltb-false i n e in let same : n ≡ i = omega (arith, lt, le) in subst P same last

sound-push : (xs : List Expr) (e : Expr) (qubits : ℕ) → AreSound xs → IsNext xs e qubits → AreSound (xs ++ e ∷ [])
sound-push xs e qubits sound next =
    let long = length_push xs e in
    record {
      valid = λ i x at.
          let within = slice_get_within (xs ++ e ∷ []) i x at in
          at_each (λ k. slice_get (xs ++ e ∷ []) k ≡ Some x → IsValidExpr (xs ++ e ∷ []) k x) (length xs) i
          (λ lt is. valid-stays xs (e ∷ []) i x (omega (arith, lt)) (sound.valid i x (sym (slice_get-front xs (e ∷ []) i lt) ∙ is)))
          (λ is. subst (IsValidExpr (xs ++ e ∷ []) (length xs)) (some_is e x (sym (slice_get-last xs e) ∙ is)) (valid-stays xs (e ∷ []) (length xs) e (omega arith) next.valid))
          (omega (arith, within, long)) at;
      qubits = λ i lt.
          at_each (λ k. IsFew (size_of (xs ++ e ∷ []) k).qubits) (length xs) i
          (λ before. subst IsFew (sym (ap (λ (s : Size). s.qubits) (size-stays xs (e ∷ []) i before))) (sound.qubits i before))
          (subst IsFew (sym (ap (λ (s : Size). s.qubits) (size-last xs e) ∙ next.is)) next.few)
          (omega (arith, lt, long));
    }

-- what an expression that is put together gives
pub record IsFine (g : Gathered) (s : Step Made) : Type 0 where
  pub sound : IsSound s.gathered
  pub grown : IsGrown g s.gathered
  pub made : IsMade s.gathered.exprs s.value

abbrev pub one_node_more : Gathered → Gathered
one_node_more g = record { exprs = g.exprs; nodes = suc g.nodes; names = g.names; sets = g.sets; claims = g.claims }

-- a count leaves the rest
pub counted-judged : {A : Type 0} (R : A → Type 0) (at : Place) (g : Gathered) (next : Gathered → Checked A) → (g.nodes + 1 ≤ most_nodes → Judged R (next (one_node_more g))) → Judged R (counted at g >>= next)
counted-judged R at g next k =
    follows (λ h. (h ≡ one_node_more g) × (g.nodes + 1 ≤ most_nodes)) R (counted at g) next
    (unless (λ h. (h ≡ one_node_more g) × (g.nodes + 1 ≤ most_nodes)) (nat_lt most_nodes (suc g.nodes)) (faults.TooManyNodes at) (Ok (one_node_more g)) tt (λ e.
    let le = ltb-false most_nodes (suc g.nodes) e in (refl, omega (arith, le))))
    (λ h is. subst (λ x. Judged R (next x)) (sym is.0) (k is.1))

pub counted-sound : (g : Gathered) → IsSound g → g.nodes + 1 ≤ most_nodes → IsSound (one_node_more g)
counted-sound g sound few = record { exprs = sound.exprs; counted = omega (arith, sound.counted); few = omega (arith, few); names = sound.names; few_names = sound.few_names }

pushed-fine : (g : Gathered) (e : Expr) (qubits : ℕ) → IsSound g → IsNext g.exprs e qubits → g.nodes + 1 ≤ most_nodes → IsFine g (with_expr e qubits (one_node_more g))
pushed-fine g e qubits sound next few =
    let long = length_push g.exprs e in
    record {
      sound = record {
        exprs = sound-push g.exprs e qubits sound.exprs next;
        counted = omega (arith, sound.counted, long);
        few = omega (arith, few);
        names = named-behind g.exprs (e ∷ []) g.names g.sets g.claims sound.names;
        few_names = sound.few_names;
      };
      grown = record { more = e ∷ []; exprs = refl; names = refl; sets = refl; claims = refl };
      made = record { there = omega (arith, long); qubits = ap (λ (s : Size). s.qubits) (size-last g.exprs e) ∙ next.is };
    }

pub node-fine : (at : Place) (refused : Bool) (e : Expr) (qubits : ℕ) (g : Gathered) → IsSound g → (refused ≡ false → IsNext g.exprs e qubits) → Judged (IsFine g) (node at refused e qubits g)
node-fine at refused e qubits g sound next =
    unless (IsFine g) refused (faults.QubitCount at) (counted at g >>= λ h. Ok (with_expr e qubits h)) tt (λ passed.
    counted-judged (IsFine g) at g (λ h. Ok (with_expr e qubits h)) (pushed-fine g e qubits sound (next passed)))

-- ---- numbers of qubits

positive : (n : ℕ) → n ≢ 0 → 0 < n
positive zero h = absurd (h refl)
positive (suc n) h = omega arith

pub few-within : (qubits : ℕ) → out_of_range qubits ≡ false → IsFew qubits
few-within qubits e =
    let parts = or_parts (qubits == 0) (nat_lt most_qubits qubits) e in
    (positive qubits (eqb-false qubits 0 parts.0), ltb-false most_qubits qubits parts.1)
