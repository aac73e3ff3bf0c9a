-- What the items of a set file give is valid.
use Rattle.std.proofs.Common.{◌≡◌, ℕ, suc, ◌+◌, ◌^◌, ◌<◌, ◌≤◌, ◌==◌, Bool, true, false, not, nat_lt, List, [], ◌∷◌, ◌++◌, map, length, All, Option, Some, None, Ok, refl, sym, ap, subst, ◌∙◌, arith}
use Rattle.std.specs.Prelude.{if◌then◌else◌}
use Rattle.std.specs.List.{AllByRecursion, IsDistinct}
use Rattle.std.specs.Option.{is_some}
use Rattle.std.specs.Str.{bytes_eq}
use Rattle.std.proofs.lemmas.Bool.{eqb-true, ltb-false, not-false}
use Rattle.std.proofs.lemmas.List.{length_push, length-map, map-append, append_assoc, append-nil}
use Rattle.std.proofs.lemmas.List.Elements.{All-from_recursion, recursion_from_All}
use Rattle.aq_base.specs.Checks.{refuse_if, ◌>>=◌, ◌>>◌}
use Rattle.aq_base.specs.Limits.{most_names}
use Rattle.aq_set_read.specs.Gathered.{Gathered, named, nothing_gathered}
use Rattle.aq_set_read.specs.Meaning.{Step, meaning, cond_of, cases_made, same_qubits, first_qubits, cases_of, naming, with_set, with_claim, item_taken, items_taken, sets_in, sets_of}
use Rattle.aq_sets.specs.Sizes.{size_of}
use Rattle.aq_sets.specs.Valid.{IsValidClaim, IsShort, IsShortClaim, HasShortLists, IsValidSets}
use Rattle.aq_set_parse.specs.Short.{IsShortCase, IsShortItem, IsShortTree}
use Rattle.aq_set_read.specs.declared.made.Made.{Made}
use Rattle.aq_set_parse.specs.declared.tree.SetWord.{SetWord}
use Rattle.aq_set_parse.specs.declared.tree.SetCase.{SetCase}
use Rattle.aq_set_parse.specs.declared.tree.SetItem.{SetItem}
use Rattle.aq_set_parse.specs.declared.tree.SetItem.TheVariants as items
use Rattle.aq_set_parse.specs.declared.tree.SetTree.{SetTree}
use Rattle.aq_sets.specs.declared.sets.Expr.{Expr}
use Rattle.aq_sets.specs.declared.sets.Case.{Case}
use Rattle.aq_sets.specs.declared.sets.NamedSet.{NamedSet}
use Rattle.aq_sets.specs.declared.sets.NamedClaim.{NamedClaim}
use Rattle.aq_set_read.specs.declared.set_fault.SetFault.TheVariants as faults
use Rattle.aq_set_read.proofs.ValidChecks.{Judged, follows, ahead, unless, refusal, weaker, both}
use Rattle.aq_sets.proofs.ShortLists.{terms-short}
use Rattle.aq_sets.proofs.ValidSizes.{holds_more, holds_behind, holds_between, distinct_between}
use Rattle.aq_set_read.proofs.ValidNodes.{IsMade, IsCaseOn, IsSoundClaim, names_of, AreNamed, IsSound, IsGrown, not_grown, grown_twice, made-grown, IsFine}
use Rattle.aq_set_read.proofs.ValidExprs.{meaning-good}

-- ---- names

none_from : {A : Type 0} (o : Option A) → is_some o ≡ false → o ≡ None
none_from None e = refl
none_from (Some x) e = absurd cc

-- a name that may be given is new, and there is room for it
abbrev IsFree : List ℕ → Gathered → Type 0
IsFree name g = (named g.names name ≡ None) × (length g.names + 1 ≤ most_names)

naming-free : (name : SetWord) (g : Gathered) → Judged (λ u. IsFree name.text g) (naming name g)
unfolding naming
naming-free name g =
    unless (λ u. IsFree name.text g) (nat_lt most_names (suc (length g.names))) (faults.TooManyNames name.at) (refuse_if (is_some (named g.names name.text)) (faults.TwiceNamed name.at)) tt (λ room.
    let le = ltb-false most_names (suc (length g.names)) room in
    weaker (λ u. is_some (named g.names name.text) ≡ false) (λ u. IsFree name.text g) (refuse_if (is_some (named g.names name.text)) (faults.TwiceNamed name.at))
    (refusal (is_some (named g.names name.text)) (faults.TwiceNamed name.at) tt) (λ u e. (none_from (named g.names name.text) e, omega (arith, le))))

pub naming-new : (name : SetWord) (g : Gathered) → Judged (λ u. named g.names name.text ≡ None) (naming name g)
naming-new name g = weaker (λ u. IsFree name.text g) (λ u. named g.names name.text ≡ None) (naming name g) (naming-free name g) (λ u free. free.0)

-- where the names are the same, a name stays free
free-grown : (name : List ℕ) (g h : Gathered) → IsGrown g h → IsFree name g → IsFree name h
free-grown name g h grown free = subst (λ (names : List (List ℕ × Option Made)). (named names name ≡ None) × (length names + 1 ≤ most_names)) (sym grown.names) free

some_is : {A : Type 0} (x y : A) → Some x ≡ Some y → x ≡ y
some_is x y e = cc

-- what holds of what each name has, and of what a name behind them is given, holds of what each name has then
known_behind : (P : Option Made → Type 0) (names : List (List ℕ × Option Made)) (key : List ℕ) (made : Option Made) (name : List ℕ)
    → ((x : Option Made) → named names name ≡ Some x → P x) → P made → (x : Option Made) → named (names ++ (key, made) ∷ []) name ≡ Some x → P x
known_behind P [] key made name h p x = by (bytes_eq name key)
  where
    by : (b : Bool) → (if b then Some made else None) ≡ Some x → P x
    by true e = subst P (some_is made x e) p
    by false e = absurd cc
known_behind P (entry ∷ rest) key made name h p x = by (bytes_eq name entry.0) h (λ k. known_behind P rest key made name k p x)
  where
    by : (b : Bool) → ((y : Option Made) → (if b then Some entry.1 else named rest name) ≡ Some y → P y)
        → (((y : Option Made) → named rest name ≡ Some y → P y) → named (rest ++ (key, made) ∷ []) name ≡ Some x → P x)
        → (if b then Some entry.1 else named (rest ++ (key, made) ∷ []) name) ≡ Some x → P x
    by true k more e = k x e
    by false k more e = more k e

-- a name that isn't known then wasn't known before, and isn't the new one
unknown_behind : (names : List (List ℕ × Option Made)) (key : List ℕ) (made : Option Made) (name : List ℕ) → named (names ++ (key, made) ∷ []) name ≡ None → (named names name ≡ None) × (bytes_eq name key ≡ false)
unknown_behind [] key made name = by (bytes_eq name key)
  where
    by : (b : Bool) → (if b then Some made else None) ≡ None → (named [] name ≡ None) × (b ≡ false)
    by true e = absurd cc
    by false e = (refl, refl)
unknown_behind (entry ∷ rest) key made name = by (bytes_eq name entry.0) (unknown_behind rest key made name)
  where
    by : (b : Bool) → (named (rest ++ (key, made) ∷ []) name ≡ None → (named rest name ≡ None) × (bytes_eq name key ≡ false))
        → (if b then Some entry.1 else named (rest ++ (key, made) ∷ []) name) ≡ None → ((if b then Some entry.1 else named rest name) ≡ None) × (bytes_eq name key ≡ false)
    by true more e = absurd cc
    by false more e = more e

-- ---- a name more

set_names : (sets : List NamedSet) (claims : List NamedClaim) (x : NamedSet) → names_of (sets ++ x ∷ []) claims ≡ map (λ (s : NamedSet). s.name) sets ++ x.name ∷ map (λ (c : NamedClaim). c.name) claims
set_names [] claims x = refl
set_names (s ∷ sets) claims x = ap (λ (ns : List (List ℕ)). s.name ∷ ns) (set_names sets claims x)

claim_names : (sets : List NamedSet) (claims : List NamedClaim) (x : NamedClaim) → names_of sets (claims ++ x ∷ []) ≡ names_of sets claims ++ x.name ∷ []
claim_names sets claims x =
    ap (λ (ns : List (List ℕ)). map (λ (s : NamedSet). s.name) sets ++ ns) (map-append (λ (c : NamedClaim). c.name) claims (x ∷ []))
    ∙ sym (append_assoc (map (λ (s : NamedSet). s.name) sets) (map (λ (c : NamedClaim). c.name) claims) (x.name ∷ []))

abbrev IsMadeOf : List Expr → Option Made → Type 0
IsMadeOf exprs made = (m : Made) → made ≡ Some m → IsMade exprs m

module _ (exprs : List Expr) (names : List (List ℕ × Option Made)) (sets : List NamedSet) (claims : List NamedClaim) (key : List ℕ) (made : Option Made)
    (h : AreNamed exprs names sets claims) (absent : named names key ≡ None) (is_made : IsMadeOf exprs made) where
  made_then : (name : List ℕ) (m : Made) → named (names ++ (key, made) ∷ []) name ≡ Some (Some m) → IsMade exprs m
  made_then name m e = known_behind (IsMadeOf exprs) names key made name (λ x is m same. h.made name m (is ∙ ap Some same)) is_made (Some m) e m refl

  -- the new name stands between the others
  module _ (front back all : List (List ℕ)) (before : front ++ back ≡ names_of sets claims) (after : all ≡ front ++ key ∷ back) where
    distinct_then : IsDistinct bytes_eq all
    distinct_then = subst (IsDistinct bytes_eq) (sym after)
        (distinct_between front back key (subst (IsDistinct bytes_eq) (sym before) h.distinct) (subst (AllByRecursion (λ y. bytes_eq key y ≡ false)) (sym before) (h.new key absent)))

    new_then : (name : List ℕ) → named (names ++ (key, made) ∷ []) name ≡ None → AllByRecursion (λ other. bytes_eq name other ≡ false) all
    new_then name e =
        let un = unknown_behind names key made name e in
        subst (AllByRecursion (λ other. bytes_eq name other ≡ false)) (sym after)
        (holds_between (λ other. bytes_eq name other ≡ false) front back key (subst (AllByRecursion (λ other. bytes_eq name other ≡ false)) (sym before) (h.new name un.0)) un.1)

set-sound : (name : List ℕ) (s : Step Made) → IsSound s.gathered → IsFree name s.gathered → IsMade s.gathered.exprs s.value → IsSound (with_set name s)
set-sound name s sound free made =
    let g = s.gathered in
    let absent = free.0 in
    let x : NamedSet = record { name = name; expr = s.value.expr } in
    let is_made : IsMadeOf g.exprs (Some s.value) = λ m e. subst (IsMade g.exprs) (some_is s.value m e) made in
    let front = map (λ (n : NamedSet). n.name) g.sets in
    let back = map (λ (c : NamedClaim). c.name) g.claims in
    let all = names_of (g.sets ++ x ∷ []) g.claims in
    let long = length_push g.names (name, Some s.value) in
    let more = length_push g.sets x in
    record {
      exprs = sound.exprs;
      counted = sound.counted;
      few = sound.few;
      names = record {
        made = made_then g.exprs g.names g.sets g.claims name (Some s.value) sound.names absent is_made;
        sets_there = holds_behind (λ (n : NamedSet). n.expr < length g.exprs) g.sets x sound.names.sets_there made.there;
        claims_sound = sound.names.claims_sound;
        distinct = distinct_then g.exprs g.names g.sets g.claims name (Some s.value) sound.names absent is_made front back all refl (set_names g.sets g.claims x);
        new = new_then g.exprs g.names g.sets g.claims name (Some s.value) sound.names absent is_made front back all refl (set_names g.sets g.claims x);
        counted = omega (arith, sound.names.counted, long, more);
      };
      few_names = omega (arith, long, free.1);
    }

claim-sound : (name : List ℕ) (cases : List Case) (g : Gathered) → IsSound g → IsFree name g → IsSoundClaim g.exprs (record { name = name; cases = cases }) → IsSound (with_claim name cases g)
claim-sound name cases g sound free is =
    let absent = free.0 in
    let x : NamedClaim = record { name = name; cases = cases } in
    let is_made : IsMadeOf g.exprs None = λ m e. absurd cc in
    let front = names_of g.sets g.claims in
    let all = names_of g.sets (g.claims ++ x ∷ []) in
    let long = length_push g.names (name, None) in
    let more = length_push g.claims x in
    record {
      exprs = sound.exprs;
      counted = sound.counted;
      few = sound.few;
      names = record {
        made = made_then g.exprs g.names g.sets g.claims name None sound.names absent is_made;
        sets_there = sound.names.sets_there;
        claims_sound = holds_behind (IsSoundClaim g.exprs) g.claims x sound.names.claims_sound is;
        distinct = distinct_then g.exprs g.names g.sets g.claims name None sound.names absent is_made front [] all (append-nil front) (claim_names g.sets g.claims x);
        new = new_then g.exprs g.names g.sets g.claims name None sound.names absent is_made front [] all (append-nil front) (claim_names g.sets g.claims x);
        counted = omega (arith, sound.names.counted, long, more);
      };
      few_names = omega (arith, long, free.1);
    }

-- ---- cases

pub record AreMade (g : Gathered) (count : ℕ) (s : Step (List Made)) : Type 0 where
  pub sound : IsSound s.gathered
  pub grown : IsGrown g s.gathered
  pub made : AllByRecursion (IsMade s.gathered.exprs) s.value
  pub long : length s.value ≡ count

pub cases_made-are : (g : Gathered) (made : List Made) (cases : List SetCase) (h : Gathered) → IsSound h → IsGrown g h → AllByRecursion (IsMade h.exprs) made
    → Judged (AreMade g (length made + length cases)) (cases_made made cases h)
cases_made-are g made [] h sound grown are = record { sound = sound; grown = grown; made = are; long = omega arith }
cases_made-are g made (c ∷ cs) h sound grown are =
    follows (IsFine h) (AreMade g (length made + length (c ∷ cs))) (meaning c.expr h) (λ s. cases_made (made ++ s.value ∷ []) cs s.gathered) (meaning-good c.expr h sound) (λ s fine.
    let more = holds_more (IsMade h.exprs) (IsMade s.gathered.exprs) (λ m. made-grown h s.gathered m fine.grown) made are in
    let long = length_push made s.value in
    subst (λ n. Judged (AreMade g n) (cases_made (made ++ s.value ∷ []) cs s.gathered)) (omega (arith, long))
    (cases_made-are g (made ++ s.value ∷ []) cs s.gathered fine.sound (grown_twice g h s.gathered grown fine.grown) (holds_behind (IsMade s.gathered.exprs) made s.value more fine.made)))

pub same_qubits-same : (n : ℕ) (cases : List SetCase) (made : List Made) → length made ≡ length cases → Judged (λ u. AllByRecursion (λ (m : Made). m.qubits ≡ n) made) (same_qubits n cases made)
same_qubits-same n [] [] e = tt
same_qubits-same n [] (m ∷ ms) e = absurd (omega arith)
same_qubits-same n (c ∷ cs) [] e = absurd (omega arith)
same_qubits-same n (c ∷ cs) (m ∷ ms) e =
    let R : Unit {0} → Type 0 = λ u. AllByRecursion (λ (m : Made). m.qubits ≡ n) (m ∷ ms) in
    unless R (not (m.qubits == n)) (faults.QubitCount c.at) (same_qubits n cs ms) tt (λ same.
    weaker (λ u. AllByRecursion (λ (m : Made). m.qubits ≡ n) ms) R (same_qubits n cs ms) (same_qubits-same n cs ms (omega arith)) (λ u rest. (eqb-true m.qubits n (not-false (m.qubits == n) same), rest)))

cases_of-on : (exprs : List Expr) (n : ℕ) (cases : List SetCase) (made : List Made) → AllByRecursion (IsMade exprs) made → AllByRecursion (λ (m : Made). m.qubits ≡ n) made → AllByRecursion (IsCaseOn exprs n) (cases_of cases made)
cases_of-on exprs n [] made h k = tt
cases_of-on exprs n (c ∷ cs) [] h k = tt
cases_of-on exprs n (c ∷ cs) (m ∷ ms) h k = ((h.0.there, h.0.qubits ∙ k.0), cases_of-on exprs n cs ms h.1 k.1)

some_cases : (cases : List SetCase) (made : List Made) → length made ≡ length cases → 0 < length made → 0 < length (cases_of cases made)
some_cases [] made e lt = absurd (omega (arith, e, lt))
some_cases (c ∷ cs) [] e lt = lt
some_cases (c ∷ cs) (m ∷ ms) e lt = omega arith

-- no more cases than are written, each with the conditions that are written
cases_of-few : (cases : List SetCase) (made : List Made) → length (cases_of cases made) ≤ length cases
cases_of-few [] made = omega arith
cases_of-few (c ∷ cs) [] = omega arith
cases_of-few (c ∷ cs) (m ∷ ms) = let le = cases_of-few cs ms in omega (arith, le)

conditions-short : (n : ℕ) → n < 2 ^ 32 → (cases : List SetCase) (made : List Made) → AllByRecursion (IsShortCase n) cases → AllByRecursion (λ (c : Case). IsShort c.when) (cases_of cases made)
conditions-short n lt [] made h = tt
conditions-short n lt (c ∷ cs) [] h = tt
conditions-short n lt (c ∷ cs) (m ∷ ms) h =
    let long = length-map c.when cond_of in
    (omega (arith, lt, long, h.0), conditions-short n lt cs ms h.1)

claim-short : (n : ℕ) → n < 2 ^ 32 → (name : List ℕ) (cases : List SetCase) (made : List Made) → (length cases ≤ n) × All (IsShortCase n) cases → IsShortClaim (record { name = name; cases = cases_of cases made })
claim-short n lt name cases made h =
    let le = cases_of-few cases made in
    record {
      cases = omega (arith, lt, le, h.0);
      conditions = All-from_recursion (λ (c : Case). IsShort c.when) (cases_of cases made) (conditions-short n lt cases made (recursion_from_All (IsShortCase n) cases h.1));
    }

pub first_qubits-some : (made : List Made) → Judged (λ n. 0 < length made) (first_qubits made)
first_qubits-some [] = tt
first_qubits-some (m ∷ ms) = omega arith

-- ---- items

claim-taken : (name : SetWord) (cases : List SetCase) (g : Gathered) (s : Step (List Made)) → IsFree name.text g → AreMade g (length cases) s
    → Judged IsSound (first_qubits s.value >>= λ n. same_qubits n cases s.value >> Ok (with_claim name.text (cases_of cases s.value) s.gathered))
claim-taken name cases g s free are =
    let whole = Ok (with_claim name.text (cases_of cases s.value) s.gathered) in
    follows (λ n. 0 < length s.value) IsSound (first_qubits s.value) (λ n. same_qubits n cases s.value >> whole) (first_qubits-some s.value) (λ n some.
    ahead (AllByRecursion (λ (m : Made). m.qubits ≡ n) s.value) IsSound (same_qubits n cases s.value) whole (same_qubits-same n cases s.value are.long) (λ same.
    claim-sound name.text (cases_of cases s.value) s.gathered are.sound (free-grown name.text g s.gathered are.grown free) (record {
      some = some_cases cases s.value are.long some;
      qubits = n;
      cases_on = cases_of-on s.gathered.exprs n cases s.value are.made same;
    })))

pub item-sound : (x : SetItem) (g : Gathered) → IsSound g → Judged IsSound (item_taken x g)
item-sound (items.Set name e) g sound =
    ahead (IsFree name.text g) IsSound (naming name g) (meaning e g >>= λ s. Ok (with_set name.text s)) (naming-free name g) (λ free.
    follows (IsFine g) IsSound (meaning e g) (λ s. Ok (with_set name.text s)) (meaning-good e g sound) (λ s fine.
    set-sound name.text s fine.sound (free-grown name.text g s.gathered fine.grown free) fine.made))
item-sound (items.Claim name cases) g sound =
    let rest = λ (s : Step (List Made)). first_qubits s.value >>= λ n. same_qubits n cases s.value >> Ok (with_claim name.text (cases_of cases s.value) s.gathered) in
    ahead (IsFree name.text g) IsSound (naming name g) (cases_made [] cases g >>= rest) (naming-free name g) (λ free.
    follows (AreMade g (0 + length cases)) IsSound (cases_made [] cases g) rest (cases_made-are g [] cases g sound (not_grown g g.nodes) tt) (λ s are.
    claim-taken name cases g s free (record { sound = are.sound; grown = are.grown; made = are.made; long = omega (arith, are.long) })))

-- ---- short items

abbrev AreShort : Gathered → Type 0
AreShort g = AllByRecursion IsShortClaim g.claims

-- of items that are short
module _ (n : ℕ) (small : n < 2 ^ 32) where
  item-short : (x : SetItem) (g : Gathered) → IsShortItem n x → IsSound g → AreShort g → Judged AreShort (item_taken x g)
  item-short (items.Set name e) g short sound few =
      ahead (IsFree name.text g) AreShort (naming name g) (meaning e g >>= λ s. Ok (with_set name.text s)) (naming-free name g) (λ free.
      follows (IsFine g) AreShort (meaning e g) (λ s. Ok (with_set name.text s)) (meaning-good e g sound) (λ s fine.
      subst (AllByRecursion IsShortClaim) (sym fine.grown.claims) few))
  item-short (items.Claim name cases) g short sound few =
      let last = λ (s : Step (List Made)). Ok (with_claim name.text (cases_of cases s.value) s.gathered) in
      let rest = λ (s : Step (List Made)). first_qubits s.value >>= λ q. same_qubits q cases s.value >> last s in
      ahead (IsFree name.text g) AreShort (naming name g) (cases_made [] cases g >>= rest) (naming-free name g) (λ free.
      follows (AreMade g (0 + length cases)) AreShort (cases_made [] cases g) rest (cases_made-are g [] cases g sound (not_grown g g.nodes) tt) (λ s are.
      follows (λ q. 0 < length s.value) AreShort (first_qubits s.value) (λ q. same_qubits q cases s.value >> last s) (first_qubits-some s.value) (λ q some.
      ahead (AllByRecursion (λ (m : Made). m.qubits ≡ q) s.value) AreShort (same_qubits q cases s.value) (last s) (same_qubits-same q cases s.value (omega (arith, are.long))) (λ same.
      holds_behind IsShortClaim s.gathered.claims (record { name = name.text; cases = cases_of cases s.value })
      (subst (AllByRecursion IsShortClaim) (sym are.grown.claims) few) (claim-short n small name.text cases s.value short)))))

  items-fine : (xs : List SetItem) (g : Gathered) → AllByRecursion (IsShortItem n) xs → IsSound g → AreShort g
      → Judged (λ h. IsSound h × AreShort h) (items_taken xs g)
  items-fine [] g short sound few = (sound, few)
  items-fine (x ∷ xs) g short sound few =
      follows (λ h. IsSound h × AreShort h) (λ h. IsSound h × AreShort h) (item_taken x g) (items_taken xs)
      (both IsSound AreShort (item_taken x g) (item-sound x g sound) (item-short x g short.0 sound few))
      (λ h is. items-fine xs h short.1 is.0 is.1)

-- ---- the whole

pub nothing-sound : IsSound nothing_gathered
unfolding IsDistinct
nothing-sound = record {
  exprs = record { valid = λ i e at. absurd cc; qubits = λ i lt. absurd (omega (arith, lt)) };
  counted = omega arith;
  few = omega arith;
  names = record { made = λ name m e. absurd cc; sets_there = tt; claims_sound = tt; distinct = tt; new = λ name e. tt; counted = omega arith };
  few_names = omega arith;
}

claim-valid : (exprs : List Expr) (claim : NamedClaim) → IsSoundClaim exprs claim → IsValidClaim exprs claim
claim-valid exprs claim h = record {
  some = h.some;
  there = All-from_recursion (λ (c : Case). c.set < length exprs) claim.cases (holds_more (IsCaseOn exprs h.qubits) (λ (c : Case). c.set < length exprs) (λ c on. on.0) claim.cases h.cases_on);
  equal = (h.qubits, All-from_recursion (λ (c : Case). (size_of exprs c.set).qubits ≡ h.qubits) claim.cases (holds_more (IsCaseOn exprs h.qubits) (λ (c : Case). (size_of exprs c.set).qubits ≡ h.qubits) (λ c on. on.1) claim.cases h.cases_on));
}

-- sets and claims have names, of which there are few
gathered-short : (g : Gathered) → IsSound g → AreShort g → HasShortLists (sets_in g)
gathered-short g sound few = record {
  terms = terms-short g.exprs sound.exprs.valid sound.exprs.qubits;
  sets = omega (arith, sound.names.counted, sound.few_names);
  claims = omega (arith, sound.names.counted, sound.few_names);
  each_claim = All-from_recursion IsShortClaim g.claims few;
}

gathered-valid : (g : Gathered) → IsSound g → AreShort g → IsValidSets (sets_in g)
gathered-valid g sound few = record {
  exprs = sound.exprs.valid;
  qubits = sound.exprs.qubits;
  sets = All-from_recursion (λ (n : NamedSet). n.expr < length g.exprs) g.sets sound.names.sets_there;
  claims = All-from_recursion (IsValidClaim g.exprs) g.claims (holds_more (IsSoundClaim g.exprs) (IsValidClaim g.exprs) (claim-valid g.exprs) g.claims sound.names.claims_sound);
  names = sound.names.distinct;
  short = omega (arith, sound.counted, sound.few);
  lists = gathered-short g sound few;
}

-- a tree that is short means sets that are valid
pub sets_of-valid : (n : ℕ) (tree : SetTree) → n < 2 ^ 32 → IsShortTree n tree → Judged IsValidSets (sets_of tree)
unfolding sets_of
sets_of-valid n tree small short =
    follows (λ g. IsSound g × AreShort g) IsValidSets (items_taken tree.items nothing_gathered) (λ g. Ok (sets_in g))
    (items-fine n small tree.items nothing_gathered (recursion_from_All (IsShortItem n) tree.items short) nothing-sound tt) (λ g is. gathered-valid g is.0 is.1)
