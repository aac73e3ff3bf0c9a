-- What the items of a set file give stands for what they mean directly.
use Rattle.std.proofs.Common.{◌≡◌, ℕ, ◌+◌, ◌<◌, Bool, true, false, List, [], ◌∷◌, ◌++◌, map, length, cond, Option, Some, None, Ok, refl, sym, ap, ap₂, subst, ◌∙◌, arith}
use Rattle.std.specs.Prelude.{if◌then◌else◌}
use Rattle.std.specs.List.{AllByRecursion, fold}
use Rattle.std.specs.Map.{lookup}
use Rattle.std.specs.Str.{bytes_eq}
use Rattle.std.proofs.lemmas.Cmp.{nat_list_eq_equiv}
use Rattle.std.proofs.lemmas.List.{map-append, append_assoc, append-nil}
use Rattle.aq_base.specs.Checks.{◌>>=◌, ◌>>◌}
use Rattle.aq_set_read.specs.Gathered.{Gathered, named, nothing_gathered}
use Rattle.aq_set_read.specs.Meaning.{Step, meaning, cases_made, same_qubits, first_qubits, cases_of, cond_of, naming, with_set, with_claim, item_taken, items_taken, sets_in, sets_of}
use Rattle.aq_set_read.specs.Direct.{Meant, Known, meant, MeantCase, case_meant, known_behind, sets_meant, Said, claims_behind, claims_meant}
use Rattle.aq_set_read.specs.Standing.{denoted_at, case_at, sets_at, claims_at}
use Rattle.aq_set_read.specs.declared.made.Made.{Made}
use Rattle.aq_set_parse.specs.declared.tree.SetCase.{SetCase}
use Rattle.aq_set_parse.specs.declared.tree.SetItem.{SetItem}
use Rattle.aq_set_parse.specs.declared.tree.SetItem.TheVariants as items
use Rattle.aq_set_parse.specs.declared.tree.SetTree.{SetTree}
use Rattle.aq_sets.specs.declared.sets.Expr.{Expr}
use Rattle.aq_sets.specs.declared.sets.Case.{Case}
use Rattle.aq_sets.specs.declared.sets.Sets.{Sets}
use Rattle.aq_sets.specs.declared.sets.NamedSet.{NamedSet}
use Rattle.aq_sets.specs.declared.sets.NamedClaim.{NamedClaim}
use Rattle.aq_sets.proofs.ValidSizes.{holds_more, holds_behind}
use Rattle.aq_set_read.proofs.ValidChecks.{Judged, follows, ahead, weaker, both}
use Rattle.aq_set_read.proofs.ValidNodes.{IsMade, IsCaseOn, IsSoundClaim, IsSound, IsGrown, not_grown, made-grown}
use Rattle.aq_set_read.proofs.ValidItems.{naming-new, AreMade, cases_made-are, same_qubits-same, first_qubits-some, item-sound, nothing-sound}
use Rattle.aq_set_read.proofs.DirectNodes.{denoted-stays, made_at, made-stays, StandsFor}
use Rattle.aq_set_read.proofs.DirectExprs.{made_known, Knows, knows-grown, IsMeant, meaning-direct}

-- ---- names

abbrev or_else : {A : Type 0} → Option A → Option A → Option A
or_else None y = y
or_else (Some x) y = Some x

lookup-push : (known : Known) (key : List ℕ) (d : Meant) (name : List ℕ)
    → lookup (bytes_eq name) (known ++ (key, d) ∷ []) ≡ or_else (lookup (bytes_eq name) known) (cond (bytes_eq name key) (Some d) None)
lookup-push [] key d name = refl
lookup-push (entry ∷ rest) key d name = by (bytes_eq name entry.0) (lookup-push rest key d name)
  where
    by : (b : Bool) → lookup (bytes_eq name) (rest ++ (key, d) ∷ []) ≡ or_else (lookup (bytes_eq name) rest) (cond (bytes_eq name key) (Some d) None)
        → cond b (Some entry.1) (lookup (bytes_eq name) (rest ++ (key, d) ∷ [])) ≡ or_else (cond b (Some entry.1) (lookup (bytes_eq name) rest)) (cond (bytes_eq name key) (Some d) None)
    by true e = refl
    by false e = e

named-push : (names : List (List ℕ × Option Made)) (key : List ℕ) (made : Option Made) (name : List ℕ)
    → named (names ++ (key, made) ∷ []) name ≡ or_else (named names name) (cond (bytes_eq name key) (Some made) None)
named-push [] key made name = refl
named-push (entry ∷ rest) key made name = by (bytes_eq name entry.0) (named-push rest key made name)
  where
    by : (b : Bool) → named (rest ++ (key, made) ∷ []) name ≡ or_else (named rest name) (cond (bytes_eq name key) (Some made) None)
        → (if b then Some entry.1 else named (rest ++ (key, made) ∷ []) name) ≡ or_else (if b then Some entry.1 else named rest name) (cond (bytes_eq name key) (Some made) None)
    by true e = refl
    by false e = e

-- a name is found as an equal one is
named-equal : (names : List (List ℕ × Option Made)) (name other : List ℕ) → bytes_eq name other ≡ true → named names name ≡ named names other
named-equal [] name other e = refl
named-equal (entry ∷ rest) name other e =
    ap₂ (λ (b : Bool) (o : Option (Option Made)). if b then Some entry.1 else o) (nat_list_eq_equiv.congr name other entry.0 e) (named-equal rest name other e)

knows-set : (known : Known) (name : List ℕ) (d : Meant) (s : Step Made) → Knows known s.gathered → named s.gathered.names name ≡ None → StandsFor d s
    → Knows (known ++ (name, d) ∷ []) (with_set name s)
knows-set known name d s knows absent is other =
    let g = s.gathered in
    lookup-push known name d other
    ∙ ap (λ (o : Option Meant). or_else o (cond (bytes_eq other name) (Some d) None)) (knows other)
    ∙ by (named g.names other) (bytes_eq other name) (λ b. named-equal g.names other name b ∙ absent)
    ∙ ap (made_known g.exprs) (sym (named-push g.names name (Some s.value) other))
  where
    by : (o : Option (Option Made)) (b : Bool) → (b ≡ true → o ≡ None)
        → or_else (made_known s.gathered.exprs o) (cond b (Some d) None) ≡ made_known s.gathered.exprs (or_else o (cond b (Some (Some s.value)) None))
    by None true h = ap Some (sym is)
    by None false h = refl
    by (Some None) true h = absurd (let e = h refl in cc)
    by (Some None) false h = refl
    by (Some (Some m)) b h = refl

knows-claim : (known : Known) (name : List ℕ) (cases : List Case) (g : Gathered) → Knows known g → Knows known (with_claim name cases g)
knows-claim known name cases g knows other =
    knows other ∙ by (named g.names other) (bytes_eq other name) ∙ ap (made_known g.exprs) (sym (named-push g.names name None other))
  where
    by : (o : Option (Option Made)) (b : Bool) → made_known g.exprs o ≡ made_known g.exprs (or_else o (cond b (Some None) None))
    by None true = refl
    by None false = refl
    by (Some None) b = refl
    by (Some (Some m)) b = refl

-- ---- what is told stays

abbrev set_at : List Expr → NamedSet → List ℕ × Meant
set_at exprs n = (n.name, denoted_at exprs n.expr)

abbrev claim_at : List Expr → NamedClaim → List ℕ × List MeantCase
claim_at exprs n = (n.name, map (case_at exprs) n.cases)

sets-stay : (xs ys : List Expr) (sets : List NamedSet) → AllByRecursion (λ (s : NamedSet). s.expr < length xs) sets → map (set_at (xs ++ ys)) sets ≡ map (set_at xs) sets
sets-stay xs ys [] h = refl
sets-stay xs ys (s ∷ sets) h = ap₂ (λ (d : Meant) (rest : Known). (s.name, d) ∷ rest) (denoted-stays xs ys s.expr h.0) (sets-stay xs ys sets h.1)

abbrev case_with : Case → Meant → MeantCase
case_with c d = record { when = c.when; set = d }

cases-stay : (xs ys : List Expr) (n : ℕ) (cases : List Case) → AllByRecursion (IsCaseOn xs n) cases → map (case_at (xs ++ ys)) cases ≡ map (case_at xs) cases
cases-stay xs ys n [] h = refl
cases-stay xs ys n (c ∷ cases) h = ap₂ (λ (d : Meant) (rest : List MeantCase). case_with c d ∷ rest) (denoted-stays xs ys c.set h.0.0) (cases-stay xs ys n cases h.1)

claims-stay : (xs ys : List Expr) (claims : List NamedClaim) → AllByRecursion (IsSoundClaim xs) claims → map (claim_at (xs ++ ys)) claims ≡ map (claim_at xs) claims
claims-stay xs ys [] h = refl
claims-stay xs ys (c ∷ claims) h =
    ap₂ (λ (cases : List MeantCase) (rest : Said). (c.name, cases) ∷ rest) (cases-stay xs ys h.0.qubits c.cases h.0.cases_on) (claims-stay xs ys claims h.1)

-- the sets that are known, and the claims that are told, are those that are gathered
pub record IsTold (known : Known) (said : Said) (g : Gathered) : Type 0 where
  pub knows : Knows known g
  pub sets : map (set_at g.exprs) g.sets ≡ known
  pub claims : map (claim_at g.exprs) g.claims ≡ said

told-grown : (known : Known) (said : Said) (g h : Gathered) → IsSound g → IsGrown g h → IsTold known said g → IsTold known said h
told-grown known said g h sound grown told = record {
  knows = knows-grown known g h sound grown told.knows;
  sets = ap₂ (λ (es : List Expr) (xs : List NamedSet). map (set_at es) xs) grown.exprs grown.sets ∙ sets-stay g.exprs grown.more g.sets sound.names.sets_there ∙ told.sets;
  claims = ap₂ (λ (es : List Expr) (xs : List NamedClaim). map (claim_at es) xs) grown.exprs grown.claims ∙ claims-stay g.exprs grown.more g.claims sound.names.claims_sound ∙ told.claims;
}

set-told : (known : Known) (said : Said) (name : List ℕ) (d : Meant) (s : Step Made) → IsTold known said s.gathered → named s.gathered.names name ≡ None → StandsFor d s
    → IsTold (known ++ (name, d) ∷ []) said (with_set name s)
set-told known said name d s told absent is =
    let g = s.gathered in
    record {
      knows = knows-set known name d s told.knows absent is;
      sets = map-append (set_at g.exprs) g.sets (record { name = name; expr = s.value.expr } ∷ []) ∙ ap₂ (λ (xs : Known) (x : Meant). xs ++ (name, x) ∷ []) told.sets is;
      claims = told.claims;
    }

claim-told : (known : Known) (said : Said) (name : List ℕ) (cases : List Case) (means : List MeantCase) (g : Gathered) → IsTold known said g → map (case_at g.exprs) cases ≡ means
    → IsTold known (said ++ (name, means) ∷ []) (with_claim name cases g)
claim-told known said name cases means g told is = record {
  knows = knows-claim known name cases g told.knows;
  sets = told.sets;
  claims = map-append (claim_at g.exprs) g.claims (record { name = name; cases = cases } ∷ [])
      ∙ ap₂ (λ (xs : Said) (x : List MeantCase). xs ++ (name, x) ∷ []) told.claims is;
}

-- ---- cases

-- what expressions mean that were made
abbrev mades_at : List Expr → List Made → List Meant
mades_at exprs made = map (made_at exprs) made

mades-stay : (g h : Gathered) → IsGrown g h → (made : List Made) → AllByRecursion (IsMade g.exprs) made → mades_at h.exprs made ≡ mades_at g.exprs made
mades-stay g h grown [] are = refl
mades-stay g h grown (m ∷ made) are = ap₂ (λ (d : Meant) (rest : List Meant). d ∷ rest) (made-stays g h m grown are.0) (mades-stay g h grown made are.1)

-- what the expressions of cases mean
abbrev cases_told : Known → List SetCase → List Meant
cases_told known cases = map (λ (c : SetCase). meant known c.expr) cases

cases_made-stand : (known : Known) (made : List Made) (cases : List SetCase) (g : Gathered) → IsSound g → Knows known g → AllByRecursion (IsMade g.exprs) made
    → Judged (λ s. mades_at s.gathered.exprs s.value ≡ mades_at g.exprs made ++ cases_told known cases) (cases_made made cases g)
cases_made-stand known made [] g sound knows are = sym (append-nil (mades_at g.exprs made))
cases_made-stand known made (c ∷ cs) g sound knows are =
    let R = λ (s : Step (List Made)). mades_at s.gathered.exprs s.value ≡ mades_at g.exprs made ++ cases_told known (c ∷ cs) in
    follows (IsMeant (meant known c.expr) g) R (meaning c.expr g) (λ s. cases_made (made ++ s.value ∷ []) cs s.gathered) (meaning-direct known c.expr g sound knows) (λ s m.
    let h = s.gathered in
    let stay = holds_more (IsMade g.exprs) (IsMade h.exprs) (λ x. made-grown g h x m.fine.grown) made are in
    let both : mades_at h.exprs (made ++ s.value ∷ []) ≡ mades_at g.exprs made ++ meant known c.expr ∷ [] =
    map-append (made_at h.exprs) made (s.value ∷ []) ∙ ap₂ (λ (xs : List Meant) (x : Meant). xs ++ x ∷ []) (mades-stay g h m.fine.grown made are) m.is in
    weaker (λ r. mades_at r.gathered.exprs r.value ≡ mades_at h.exprs (made ++ s.value ∷ []) ++ cases_told known cs) R (cases_made (made ++ s.value ∷ []) cs h)
    (cases_made-stand known (made ++ s.value ∷ []) cs h m.fine.sound (knows-grown known g h sound m.fine.grown knows) (holds_behind (IsMade h.exprs) made s.value stay m.fine.made))
    (λ r e. e ∙ ap (λ (xs : List Meant). xs ++ cases_told known cs) both ∙ append_assoc (mades_at g.exprs made) (meant known c.expr ∷ []) (cases_told known cs)))

heads : {A : Type 0} (x y : A) (xs ys : List A) → x ∷ xs ≡ y ∷ ys → (x ≡ y) × (xs ≡ ys)
heads x y xs ys e = (cc, cc)

abbrev told_with : SetCase → Meant → MeantCase
told_with c d = record { when = map cond_of c.when; set = d }

cases_of-stand : (exprs : List Expr) (known : Known) (cases : List SetCase) (made : List Made) → mades_at exprs made ≡ cases_told known cases
    → map (case_at exprs) (cases_of cases made) ≡ map (case_meant known) cases
cases_of-stand exprs known [] [] e = refl
cases_of-stand exprs known [] (m ∷ ms) e = refl
cases_of-stand exprs known (c ∷ cs) [] e = absurd cc
cases_of-stand exprs known (c ∷ cs) (m ∷ ms) e =
    let parts = heads (made_at exprs m) (meant known c.expr) (mades_at exprs ms) (cases_told known cs) e in
    ap₂ (λ (d : Meant) (rest : List MeantCase). told_with c d ∷ rest) parts.0 (cases_of-stand exprs known cs ms parts.1)

-- ---- items

-- the claims that are told behind an item
abbrev said_behind : Known → Said → SetItem → Said
said_behind known said (items.Set name e) = said
said_behind known said (items.Claim name cases) = said ++ (name.text, map (case_meant known) cases) ∷ []

absent_then : (g h : Gathered) (name : List ℕ) → IsGrown g h → named g.names name ≡ None → named h.names name ≡ None
absent_then g h name grown absent = ap (λ (names : List (List ℕ × Option Made)). named names name) grown.names ∙ absent

item-told : (x : SetItem) (known : Known) (said : Said) (g : Gathered) → IsSound g → IsTold known said g
    → Judged (IsTold (known_behind known x) (said_behind known said x)) (item_taken x g)
item-told (items.Set name e) known said g sound told =
    let d = meant known e in
    let R = IsTold (known ++ (name.text, d) ∷ []) said in
    ahead (named g.names name.text ≡ None) R (naming name g) (meaning e g >>= λ s. Ok (with_set name.text s)) (naming-new name g) (λ absent.
    follows (IsMeant d g) R (meaning e g) (λ s. Ok (with_set name.text s)) (meaning-direct known e g sound told.knows) (λ s m.
    set-told known said name.text d s (told-grown known said g s.gathered sound m.fine.grown told) (absent_then g s.gathered name.text m.fine.grown absent) m.is))
item-told (items.Claim name cases) known said g sound told =
    let means = map (case_meant known) cases in
    let R = IsTold known (said ++ (name.text, means) ∷ []) in
    let last = λ (s : Step (List Made)). Ok (with_claim name.text (cases_of cases s.value) s.gathered) in
    let rest = λ (s : Step (List Made)). first_qubits s.value >>= λ n. same_qubits n cases s.value >> last s in
    let Are = AreMade g (0 + length cases) in
    let Stand = λ (s : Step (List Made)). mades_at s.gathered.exprs s.value ≡ cases_told known cases in
    ahead (named g.names name.text ≡ None) R (naming name g) (cases_made [] cases g >>= rest) (naming-new name g) (λ absent.
    follows (λ s. Are s × Stand s) R (cases_made [] cases g) rest
    (both Are Stand (cases_made [] cases g) (cases_made-are g [] cases g sound (not_grown g g.nodes) tt) (cases_made-stand known [] cases g sound told.knows tt)) (λ s are.
    let long : length s.value ≡ length cases = omega (arith, are.0.long) in
    follows (λ n. 0 < length s.value) R (first_qubits s.value) (λ n. same_qubits n cases s.value >> last s) (first_qubits-some s.value) (λ n some.
    ahead (AllByRecursion (λ (m : Made). m.qubits ≡ n) s.value) R (same_qubits n cases s.value) (last s) (same_qubits-same n cases s.value long) (λ equal.
    claim-told known said name.text (cases_of cases s.value) means s.gathered (told-grown known said g s.gathered sound are.0.grown told)
    (cases_of-stand s.gathered.exprs known cases s.value are.1)))))

said-on : (known : Known) (said : Said) (x : SetItem) (xs : List SetItem) → said_behind known said x ++ claims_behind (known_behind known x) xs ≡ said ++ claims_behind known (x ∷ xs)
said-on known said (items.Set name e) xs = refl
said-on known said (items.Claim name cases) xs = append_assoc said ((name.text, map (case_meant known) cases) ∷ []) (claims_behind known xs)

items-told : (xs : List SetItem) (known : Known) (said : Said) (g : Gathered) → IsSound g → IsTold known said g
    → Judged (IsTold (fold known_behind known xs) (said ++ claims_behind known xs)) (items_taken xs g)
items-told [] known said g sound told = record { knows = told.knows; sets = told.sets; claims = told.claims ∙ sym (append-nil said) }
items-told (x ∷ xs) known said g sound told =
    let next = known_behind known x in
    let later = said_behind known said x in
    let R = IsTold (fold known_behind known (x ∷ xs)) (said ++ claims_behind known (x ∷ xs)) in
    follows (λ h. IsSound h × IsTold next later h) R (item_taken x g) (items_taken xs)
    (both IsSound (IsTold next later) (item_taken x g) (item-sound x g sound) (item-told x known said g sound told)) (λ h is.
    subst (λ (all : Said). Judged (IsTold (fold known_behind known (x ∷ xs)) all) (items_taken xs h)) (said-on known said x xs)
    (items-told xs next later h is.0 is.1))

-- ---- the whole

nothing-told : IsTold [] [] nothing_gathered
nothing-told = record { knows = λ name. refl; sets = refl; claims = refl }

-- the sets and the claims are as the items say
abbrev pub AreDirect : List SetItem → Sets → Type 0
AreDirect xs s = (sets_at s ≡ sets_meant xs) × (claims_at s ≡ claims_meant xs)

sets_of-direct : (tree : SetTree) → Judged (AreDirect tree.items) (sets_of tree)
unfolding sets_of
sets_of-direct tree =
    follows (IsTold (sets_meant tree.items) (claims_meant tree.items)) (AreDirect tree.items) (items_taken tree.items nothing_gathered) (λ g. Ok (sets_in g))
    (items-told tree.items [] [] nothing_gathered nothing-sound nothing-told) (λ g told. (told.sets, told.claims))

pub direct_given : (tree : SetTree) (s : Sets) → sets_of tree ≡ Ok s → AreDirect tree.items s
direct_given tree s e = subst (Judged (AreDirect tree.items)) e (sets_of-direct tree)
