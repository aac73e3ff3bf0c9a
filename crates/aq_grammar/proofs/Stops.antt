-- Where a reader stops with a fault of one kind, and that it does stop there.
use Rattle.std.proofs.Common.{◌≡◌, ℕ, zero, suc, ◌<◌, List, [], ◌∷◌, ◌++◌, length, Result, Ok, Err, true, false, refl, sym, ap, subst, ◌∙◌, append_assoc, arith, Option, Some, None, ◌⊎◌, inl, inr}
use Rattle.aq_grammar.specs.Words.{first, first_or}
use Rattle.aq_grammar.specs.Readers.{Reader, ◌>>=◌, along, see_at, or_fault, token_at, both, mapped, after, before, Test, switch, choice, optional, several, many, then_maybe, placed, refuse}
use Rattle.aq_grammar.specs.Laws.{In, Reads, JoinedIn}
use Rattle.aq_grammar.proofs.Reading.{bind_err, along_err, chosen, err_pair, ok_no_err, first-append, taken_err, many_err, many_stops, many_stops_later, test_or, some_is}

-- ---- readers that never stop with a fault

abbrev pub Never : {T F A : Type 0} → F → Reader T F A → Type 0
Never {T = T} fault p = (ts rest : List T) → p ts ≡ Err (fault, rest) → ⊥

pub seen_never : {T F A : Type 0} (fault none : F) (view : T → Result A F) → (none ≡ fault → ⊥) → ((t : T) → view t ≡ Err fault → ⊥) → Never fault (see_at none view)
seen_never {A = A} fault none view other apart [] rest e = other (err_pair {A = A} none fault [] rest e).0
seen_never fault none view other apart (t ∷ ts) rest e = apart t (taken_err (view t) t ts rest fault e).0

or_fault_err : {F A : Type 0} (k l : F) (o : Option A) → or_fault k o ≡ Err l → k ≡ l
or_fault_err k l (Some x) e = absurd cc
or_fault_err k l None e = cc

pub token_never : {T F A : Type 0} (fault none : F) (view : T → Option A) → (none ≡ fault → ⊥) → Never fault (token_at none view)
token_never fault none view other = seen_never fault none (λ t. or_fault none (view t)) other (λ t e. other (or_fault_err none fault (view t) e))

pub both_never : {T F A B : Type 0} (fault : F) (p : Reader T F A) (q : Reader T F B) → Never fault p → Never fault q → Never fault (both p q)
unfolding both
both_never fault p q h k ts rest e = elim (bind_err (p ts) (λ x. along (λ y. (x.0, y)) (q x.1)) (fault, rest) e) [ inl e ↦ h ts rest e | inr s ↦ k s.0.1 rest (along_err (λ y. (s.0.0, y)) (q s.0.1) (fault, rest) s.2) ]

pub mapped_never : {T F A B : Type 0} (fault : F) (f : A → B) (p : Reader T F A) → Never fault p → Never fault (mapped f p)
unfolding mapped
mapped_never fault f p h ts rest e = h ts rest (along_err f (p ts) (fault, rest) e)

pub choice_never : {T F A : Type 0} (fault : F) (test : Test T) (p q : Reader T F A) → Never fault p → Never fault q → Never fault (choice test p q)
unfolding choice
choice_never fault test p q h k ts rest e = elim (chosen (test (first ts)) (p ts) (q ts) (Err (fault, rest)) e) [ inl e ↦ h ts rest e.1 | inr e ↦ k ts rest e.1 ]

pub optional_never : {T F A : Type 0} (fault : F) (test : Test T) (p : Reader T F A) → Never fault p → Never fault (optional test p)
unfolding optional
optional_never fault test p h ts rest e = elim (chosen (test (first ts)) (along Some (p ts)) (Ok (None, ts)) (Err (fault, rest)) e) [ inl e ↦ h ts rest (along_err Some (p ts) (fault, rest) e.1) | inr e ↦ absurd (ok_no_err _ _ e.1) ]

pub after_never : {T F A : Type 0} (fault : F) (s : Reader T F (Unit {0})) (p : Reader T F A) → Never fault s → Never fault p → Never fault (after s p)
unfolding after
after_never fault s p never h ts rest e = elim (bind_err (s ts) (λ x. p x.1) (fault, rest) e) [ inl e ↦ never ts rest e | inr s ↦ h s.0.1 rest s.2 ]

pub before_never : {T F A : Type 0} (fault : F) (p : Reader T F A) (s : Reader T F (Unit {0})) → Never fault p → Never fault s → Never fault (before p s)
unfolding before
before_never fault p s h never ts rest e = elim (bind_err (p ts) (λ x. along (λ _. x.0) (s x.1)) (fault, rest) e) [ inl e ↦ h ts rest e | inr r ↦ never r.0.1 rest (along_err (λ _. r.0.0) (s r.0.1) (fault, rest) r.2) ]

pub then_maybe_never : {T F A B : Type 0} (fault : F) (test : Test T) (p : Reader T F A) (q : Reader T F B) → Never fault p → Never fault q → Never fault (then_maybe test p q)
unfolding then_maybe
then_maybe_never fault test p q h k ts rest e = elim (bind_err (p ts) (λ x. along (λ y. (x.0, y)) (optional test q x.1)) (fault, rest) e) [ inl e ↦ h ts rest e | inr s ↦ optional_never fault test q k s.0.1 rest (along_err (λ y. (s.0.0, y)) (optional test q s.0.1) (fault, rest) s.2) ]

pub switch_never : {T F A K : Type 0} (fault : F) (key : Option T → K) (reader : K → Reader T F A) → ((k : K) → Never fault (reader k)) → Never fault (switch key reader)
unfolding switch
switch_never fault key reader h ts rest e = h (key (first ts)) ts rest e

pub placed_never : {T F A P : Type 0} (fault : F) (place : Option T → P) (p : Reader T F A) → Never fault p → Never fault (placed place p)
unfolding placed
placed_never fault place p h ts rest e = h ts rest (along_err (λ x. (place (first ts), x)) (p ts) (fault, rest) e)

pub refuse_never : {T F A : Type 0} (fault other : F) → (other ≡ fault → ⊥) → Never {T = T} {A = A} fault (refuse other)
refuse_never {A = A} fault other apart ts rest e = apart (err_pair {A = A} other fault ts rest e).0

several_never : {T F A : Type 0} (fault : F) (n : ℕ) (test : Test T) (p : Reader T F A) → Never fault p → Never fault (several n test p)
several_never fault zero test p h ts rest e = absurd (ok_no_err _ _ e)
several_never fault (suc n) test p h ts rest e =
    elim (chosen (test (first ts)) (p ts >>= λ x. along (λ xs. x.0 ∷ xs) (several n test p x.1)) (Ok ([], ts)) (Err (fault, rest)) e) [
      | inl e ↦ elim (bind_err (p ts) (λ x. along (λ xs. x.0 ∷ xs) (several n test p x.1)) (fault, rest) e.1) [ inl e ↦ h ts rest e | inr s ↦ several_never fault n test p h s.0.1 rest (along_err (λ xs. s.0.0 ∷ xs) (several n test p s.0.1) (fault, rest) s.2) ]
      | inr e ↦ absurd (ok_no_err _ _ e.1)
    ]

pub many_never : {T F A : Type 0} (fault : F) (test : Test T) (p : Reader T F A) → Never fault p → Never fault (many test p)
unfolding many
many_never fault test p h ts rest e = several_never fault (suc (length ts)) test p h ts rest e

-- ---- readers that stop with a fault exactly behind some fronts

abbrev pub Place : Type 0 → Type 1
Place T = List T → Option T → Type 0

pub record Sunk {T : Type 0} (ts rest : List T) (D : List T → Option T → Type 0) : Type 0 where
  pub front : List T
  pub parts : ts ≡ front ++ rest
  pub leads : D front (first rest)

-- p stops with the fault exactly behind the fronts in D, which may know the token behind
pub record Sinks {T F A : Type 0} (fault : F) (p : List T → Result (A × List T) (F × List T)) (D : List T → Option T → Type 0) : Type 0 where
  pub found : (ts rest : List T) → p ts ≡ Err (fault, rest) → Sunk ts rest D
  pub back : (front rest : List T) → D front (first rest) → p (front ++ rest) ≡ Err (fault, rest)

abbrev pub Nowhere : {T : Type 0} → Place T
Nowhere front n = ⊥

pub never-Sinks : {T F A : Type 0} (fault : F) (p : Reader T F A) → Never fault p → Sinks fault p Nowhere
never-Sinks fault p h = record { found = λ ts rest e. absurd (h ts rest e); back = λ front rest d. absurd d }

abbrev pub Here : {T : Type 0} → Place T
Here front n = front ≡ []

-- stops at once, with the fault
pub refuse-Sinks : {T F A : Type 0} (fault : F) → Sinks {T = T} {A = A} fault (refuse fault) Here
refuse-Sinks {T = T} {F = F} {A = A} fault = record {
  found = λ ts rest e. record { front = []; parts = (err_pair {A = A} fault fault ts rest e).1; leads = refl };
  back = λ front rest d. ap (λ (f : List T). Err (fault, f ++ rest)) d;
}

-- a token in which the view sees this fault
abbrev pub FaultNext : {T F A : Type 0} → F → (T → Result A F) → Place T
FaultNext {T = T} fault view front n = (front ≡ []) × (t : T) × (n ≡ Some t) × (view t ≡ Err fault)

seen_back : {T F A : Type 0} (fault none : F) (view : T → Result A F) (t : T) (rest : List T) → first rest ≡ Some t → view t ≡ Err fault → see_at none view rest ≡ Err (fault, rest)
seen_back fault none view t [] e f = absurd cc
seen_back {T = T} fault none view t (u ∷ us) e f = let g : view u ≡ Err fault = ap view (some_is u t e) ∙ f in rw g refl

seen_found : {T F A : Type 0} (fault none : F) (view : T → Result A F) → (none ≡ fault → ⊥) → (ts rest : List T) → see_at none view ts ≡ Err (fault, rest) → Sunk ts rest (FaultNext fault view)
seen_found {A = A} fault none view apart [] rest e = absurd (apart (err_pair {A = A} none fault [] rest e).0)
seen_found fault none view apart (t ∷ ts) rest e =
    let s = taken_err (view t) t ts rest fault e in
    record { front = []; parts = s.1; leads = (refl, t, ap first (sym s.1), s.0) }

pub seen-Sinks : {T F A : Type 0} (fault none : F) (view : T → Result A F) → (none ≡ fault → ⊥) → Sinks fault (see_at none view) (FaultNext fault view)
seen-Sinks {T = T} {F = F} {A = A} fault none view apart = record {
  found = seen_found fault none view apart;
  back = λ front rest d. ap (λ (f : List T). see_at none view (f ++ rest)) d.0 ∙ seen_back fault none view d.1 rest d.2 d.3;
}

pub mapped-Sinks : {T F A B : Type 0} (fault : F) (f : A → B) (p : Reader T F A) (D : Place T) → Sinks fault p D → Sinks fault (mapped f p) D
unfolding mapped
mapped-Sinks fault f p D sinks = record { found = λ ts rest e. sinks.found ts rest (along_err f (p ts) (fault, rest) e); back = λ front rest d. ap (along f) (sinks.back front rest d) }

pub record Behind {T A : Type 0} (L : A → List T → Option T → Type 0) (D : List T → Option T → Type 0) (front : List T) (n : Option T) : Type 0 where
  pub value : A
  pub whole : JoinedIn (L value) D front n

-- behind a whole first part, where a reader goes on
behind_found : {T F A : Type 0} (p : Reader T F A) (L : In T A) (H : A → List T → Type 0) (D : Place T) → Reads p L H → (ts middle rest : List T) (x : A) → p ts ≡ Ok (x, middle) → Sunk middle rest D → Sunk ts rest (Behind L D)
behind_found {T = T} p L H D reads ts middle rest x e s =
    let f = reads.sound ts middle x e in
    let next-is : first middle ≡ first_or s.front (first rest) = ap first s.parts ∙ first-append s.front rest in
    record {
      front = f.front ++ s.front;
      parts = f.parts ∙ ap (λ (r : List T). f.front ++ r) s.parts ∙ sym (append_assoc f.front s.front rest);
      leads = record { value = x; whole = record { a = f.front; b = s.front; parts = refl; left = subst (λ (n : Option T). L x f.front n) next-is f.spelled; right = s.leads } };
    }

pub record Reached {T F A : Type 0} (p : List T → Result (A × List T) (F × List T)) (D : List T → Option T → Type 0) (ts rest : List T) : Type 0 where
  pub value : A
  pub b : List T
  pub leads : D b (first rest)
  pub one : p ts ≡ Ok (value, b ++ rest)

behind_back : {T F A : Type 0} (p : Reader T F A) (L : In T A) (H : A → List T → Type 0) (D : Place T) → Reads p L H → (front rest : List T) → Behind L D front (first rest) → Reached p D (front ++ rest) rest
behind_back {T = T} p L H D reads front rest d =
    let l = d.whole in
    let regrouped : front ++ rest ≡ l.a ++ (l.b ++ rest) = ap (λ (f : List T). f ++ rest) l.parts ∙ append_assoc l.a l.b rest in
    let next-is : first_or l.b (first rest) ≡ first (l.b ++ rest) = sym (first-append l.b rest) in
    record { value = d.value; b = l.b; leads = l.right; one = ap p regrouped ∙ reads.complete l.a (l.b ++ rest) d.value (subst (λ (n : Option T). L d.value l.a n) next-is l.left) }

-- where both parts may stop
pub both-Sinks : {T F A B : Type 0} (fault : F) (p : Reader T F A) (q : Reader T F B) (L : In T A) (H : A → List T → Type 0) (D E : Place T) → Reads p L H → Sinks fault p D → Sinks fault q E → Sinks fault (both p q) (λ front n. D front n ⊎ Behind L E front n)
unfolding both
both-Sinks fault p q L H D E reads sinks-p sinks = record {
  found = λ ts rest e. elim (bind_err (p ts) (λ x. along (λ y. (x.0, y)) (q x.1)) (fault, rest) e) [
    | inl h ↦ let s = sinks-p.found ts rest h in record { front = s.front; parts = s.parts; leads = inl s.leads }
    | inr s ↦
        let v = behind_found p L H E reads ts s.0.1 rest s.0.0 s.1 (sinks.found s.0.1 rest (along_err (λ y. (s.0.0, y)) (q s.0.1) (fault, rest) s.2)) in
        record { front = v.front; parts = v.parts; leads = inr v.leads }
  ];
  back = λ front rest d. elim d [
    | inl h ↦ rw (sinks-p.back front rest h) refl
    | inr h ↦ let r = behind_back p L H E reads front rest h in rw (r.one, sinks.back r.b rest r.leads) refl
  ];
}

-- where the second part never stops with the fault
pub ahead-Sinks : {T F A B : Type 0} (fault : F) (p : Reader T F A) (q : Reader T F B) (D : Place T) → Sinks fault p D → Never fault q → Sinks fault (both p q) D
unfolding both
ahead-Sinks fault p q D sinks never = record {
  found = λ ts rest e. elim (bind_err (p ts) (λ x. along (λ y. (x.0, y)) (q x.1)) (fault, rest) e) [
    | inl h ↦ sinks.found ts rest h
    | inr s ↦ absurd (never s.0.1 rest (along_err (λ y. (s.0.0, y)) (q s.0.1) (fault, rest) s.2))
  ];
  back = λ front rest d. rw (sinks.back front rest d) refl;
}

-- where the first part never stops with the fault
pub behind-Sinks : {T F A B : Type 0} (fault : F) (p : Reader T F A) (q : Reader T F B) (L : In T A) (H : A → List T → Type 0) (E : Place T) → Reads p L H → Never fault p → Sinks fault q E → Sinks fault (both p q) (Behind L E)
unfolding both
behind-Sinks fault p q L H E reads never sinks = record {
  found = λ ts rest e. elim (bind_err (p ts) (λ x. along (λ y. (x.0, y)) (q x.1)) (fault, rest) e) [
    | inl h ↦ absurd (never ts rest h)
    | inr s ↦ behind_found p L H E reads ts s.0.1 rest s.0.0 s.1 (sinks.found s.0.1 rest (along_err (λ y. (s.0.0, y)) (q s.0.1) (fault, rest) s.2))
  ];
  back = λ front rest d. let r = behind_back p L H E reads front rest d in rw (r.one, sinks.back r.b rest r.leads) refl;
}

pub after-Sinks : {T F A : Type 0} (fault : F) (s : Reader T F (Unit {0})) (p : Reader T F A) (S : In T (Unit {0})) (Z : Unit {0} → List T → Type 0) (D : Place T) → Reads s S Z → Never fault s → Sinks fault p D → Sinks fault (after s p) (Behind S D)
unfolding after
after-Sinks fault s p S Z D reads never sinks = record {
  found = λ ts rest e. elim (bind_err (s ts) (λ x. p x.1) (fault, rest) e) [
    | inl h ↦ absurd (never ts rest h)
    | inr r ↦ behind_found s S Z D reads ts r.0.1 rest r.0.0 r.1 (sinks.found r.0.1 rest r.2)
  ];
  back = λ front rest d. let r = behind_back s S Z D reads front rest d in rw (r.one, sinks.back r.b rest r.leads) refl;
}

-- where what stands before may stop, too
pub after_both-Sinks : {T F A : Type 0} (fault : F) (s : Reader T F (Unit {0})) (p : Reader T F A) (S : In T (Unit {0})) (Z : Unit {0} → List T → Type 0) (D E : Place T) → Reads s S Z → Sinks fault s D → Sinks fault p E → Sinks fault (after s p) (λ front n. D front n ⊎ Behind S E front n)
unfolding after
after_both-Sinks fault s p S Z D E reads sinks-s sinks = record {
  found = λ ts rest e. elim (bind_err (s ts) (λ x. p x.1) (fault, rest) e) [
    | inl h ↦ let r = sinks-s.found ts rest h in record { front = r.front; parts = r.parts; leads = inl r.leads }
    | inr r ↦
        let v = behind_found s S Z E reads ts r.0.1 rest r.0.0 r.1 (sinks.found r.0.1 rest r.2) in
        record { front = v.front; parts = v.parts; leads = inr v.leads }
  ];
  back = λ front rest d. elim d [
    | inl h ↦ rw (sinks-s.back front rest h) refl
    | inr h ↦ let r = behind_back s S Z E reads front rest h in rw (r.one, sinks.back r.b rest r.leads) refl
  ];
}

pub before-Sinks : {T F A : Type 0} (fault : F) (p : Reader T F A) (s : Reader T F (Unit {0})) (D : Place T) → Sinks fault p D → Never fault s → Sinks fault (before p s) D
unfolding before
before-Sinks fault p s D sinks never = record {
  found = λ ts rest e. elim (bind_err (p ts) (λ x. along (λ _. x.0) (s x.1)) (fault, rest) e) [
    | inl h ↦ sinks.found ts rest h
    | inr r ↦ absurd (never r.0.1 rest (along_err (λ _. r.0.0) (s r.0.1) (fault, rest) r.2))
  ];
  back = λ front rest d. rw (sinks.back front rest d) refl;
}

abbrev pub SwitchPlace : {T K : Type 0} → (Option T → K) → (K → Place T) → Place T
SwitchPlace key D front n = D (key (first_or front n)) front n

pub switch-Sinks : {T F A K : Type 0} (fault : F) (key : Option T → K) (reader : K → Reader T F A) (D : K → Place T) → ((k : K) → Sinks fault (reader k) (D k)) → Sinks fault (switch key reader) (SwitchPlace key D)
unfolding switch
switch-Sinks {T = T} fault key reader D sinks = record {
  found = λ ts rest e.
      let s = (sinks (key (first ts))).found ts rest e in
      let next-is : first ts ≡ first_or s.front (first rest) = ap first s.parts ∙ first-append s.front rest in
      record { front = s.front; parts = s.parts; leads = subst (λ (o : Option T). D (key o) s.front (first rest)) next-is s.leads };
  back = λ front rest d. ap (λ (o : Option T). reader (key o) (front ++ rest)) (first-append front rest) ∙ (sinks (key (first_or front (first rest)))).back front rest d;
}

pub placed-Sinks : {T F A P : Type 0} (fault : F) (place : Option T → P) (p : Reader T F A) (D : Place T) → Sinks fault p D → Sinks fault (placed place p) D
unfolding placed
placed-Sinks fault place p D sinks = record {
  found = λ ts rest e. sinks.found ts rest (along_err (λ x. (place (first ts), x)) (p ts) (fault, rest) e);
  back = λ front rest d. ap (along (λ x. (place (first (front ++ rest)), x))) (sinks.back front rest d);
}

abbrev pub ChoicePlace : {T : Type 0} → Test T → Place T → Place T → Place T
ChoicePlace test D E front n = ((test (first_or front n) ≡ true) × D front n) ⊎ ((test (first_or front n) ≡ false) × E front n)

pub choice-Sinks : {T F A : Type 0} (fault : F) (test : Test T) (p q : Reader T F A) (D E : Place T) → Sinks fault p D → Sinks fault q E → Sinks fault (choice test p q) (ChoicePlace test D E)
unfolding choice
choice-Sinks fault test p q D E sinks-p sinks-q = record {
  found = λ ts rest e. elim (chosen (test (first ts)) (p ts) (q ts) (Err (fault, rest)) e) [
    | inl h ↦ let s = sinks-p.found ts rest h.1 in record { front = s.front; parts = s.parts; leads = inl (test_or test true ts s.front rest h.0 s.parts, s.leads) }
    | inr h ↦ let s = sinks-q.found ts rest h.1 in record { front = s.front; parts = s.parts; leads = inr (test_or test false ts s.front rest h.0 s.parts, s.leads) }
  ];
  back = λ front rest d. elim d [
    | inl h ↦ let t : test (first (front ++ rest)) ≡ true = ap test (first-append front rest) ∙ h.0 in rw (t, sinks-p.back front rest h.1) refl
    | inr h ↦ let t : test (first (front ++ rest)) ≡ false = ap test (first-append front rest) ∙ h.0 in rw (t, sinks-q.back front rest h.1) refl
  ];
}

abbrev pub Passing : {T : Type 0} → Test T → Place T → Place T
Passing test D front n = (test (first_or front n) ≡ true) × D front n

pub optional-Sinks : {T F A : Type 0} (fault : F) (test : Test T) (p : Reader T F A) (D : Place T) → Sinks fault p D → Sinks fault (optional test p) (Passing test D)
unfolding optional
optional-Sinks fault test p D sinks = record {
  found = λ ts rest e. elim (chosen (test (first ts)) (along Some (p ts)) (Ok (None, ts)) (Err (fault, rest)) e) [
    | inl h ↦ let s = sinks.found ts rest (along_err Some (p ts) (fault, rest) h.1) in record { front = s.front; parts = s.parts; leads = (test_or test true ts s.front rest h.0 s.parts, s.leads) }
    | inr h ↦ absurd (ok_no_err _ _ h.1)
  ];
  back = λ front rest d. let t : test (first (front ++ rest)) ≡ true = ap test (first-append front rest) ∙ d.0 in rw (t, sinks.back front rest d.1) refl;
}

pub then_maybe-Sinks : {T F A B : Type 0} (fault : F) (test : Test T) (p : Reader T F A) (q : Reader T F B) (L : In T A) (H : A → List T → Type 0) (D E : Place T) → Reads p L H → Sinks fault p D → Sinks fault q E → Sinks fault (then_maybe test p q) (λ front n. D front n ⊎ Behind L (Passing test E) front n)
unfolding then_maybe optional
then_maybe-Sinks fault test p q L H D E reads sinks-p sinks-q = record {
  found = λ ts rest e. elim (bind_err (p ts) (λ x. along (λ y. (x.0, y)) (optional test q x.1)) (fault, rest) e) [
    | inl h ↦ let s = sinks-p.found ts rest h in record { front = s.front; parts = s.parts; leads = inl s.leads }
    | inr s ↦ elim (chosen (test (first s.0.1)) (along Some (q s.0.1)) (Ok (None, s.0.1)) (Err (fault, rest)) (along_err (λ y. (s.0.0, y)) (optional test q s.0.1) (fault, rest) s.2)) [
      | inl h ↦
          let u = sinks-q.found s.0.1 rest (along_err Some (q s.0.1) (fault, rest) h.1) in
          let v = behind_found p L H (Passing test E) reads ts s.0.1 rest s.0.0 s.1 (record { front = u.front; parts = u.parts; leads = (test_or test true s.0.1 u.front rest h.0 u.parts, u.leads) }) in
          record { front = v.front; parts = v.parts; leads = inr v.leads }
      | inr h ↦ absurd (ok_no_err _ _ h.1)
    ]
  ];
  back = λ front rest d. elim d [
    | inl h ↦ rw (sinks-p.back front rest h) refl
    | inr h ↦
        let r = behind_back p L H (Passing test E) reads front rest h in
        let t : test (first (r.b ++ rest)) ≡ true = ap test (first-append r.b rest) ∙ r.leads.0 in
        rw (r.one, t, sinks-q.back r.b rest r.leads.1) refl
  ];
}

-- behind so many items
abbrev pub ManyPlace : {T A : Type 0} → Test T → In T A → Place T → List A → Place T
ManyPlace test L D [] front n = (test (first_or front n) ≡ true) × D front n
ManyPlace test L D (x ∷ xs) front n = JoinedIn (L x) (ManyPlace test L D xs) front n

module _ {T F A : Type 0} (fault : F) (test : Test T) (p : Reader T F A) (L : A → List T → Option T → Type 0) (H : A → List T → Type 0) (D : List T → Option T → Type 0) (reads : Reads p L H) (begins-p : (x : A) (front : List T) (n : Option T) → L x front n → test (first_or front n) ≡ true) (goes : (ts : List T) (x : A × List T) → p ts ≡ Ok x → length x.1 < length ts) (sinks : Sinks fault p D) where
  many_found : (n : ℕ) (ts rest : List T) → length ts < n → many test p ts ≡ Err (fault, rest) → Sunk ts rest (λ front m. (xs : List A) × ManyPlace test L D xs front m)
  many_found zero ts rest lt e = absurd (omega arith)
  many_found (suc n) ts rest lt e =
      let m = many_err test p goes ts (fault, rest) e in
      elim m.is [
        | inl h ↦ let s = sinks.found ts rest h in record { front = s.front; parts = s.parts; leads = ([], (test_or test true ts s.front rest m.goes_on s.parts, s.leads)) }
        | inr h ↦
            let lt2 = goes ts (h.0, h.1) h.2 in
            let s = many_found n h.1 rest (omega arith) h.3 in
            let v = behind_found p L H (ManyPlace test L D s.leads.0) reads ts h.1 rest h.0 h.2 (record { front = s.front; parts = s.parts; leads = s.leads.1 }) in
            record { front = v.front; parts = v.parts; leads = (v.leads.value ∷ s.leads.0, v.leads.whole) }
      ]

  many_back : (xs : List A) (front rest : List T) → ManyPlace test L D xs front (first rest) → many test p (front ++ rest) ≡ Err (fault, rest)
  many_back [] front rest d = many_stops test p goes (front ++ rest) (fault, rest) (ap test (first-append front rest) ∙ d.0) (sinks.back front rest d.1)
  many_back (x ∷ xs) front rest l =
      let regrouped : front ++ rest ≡ l.a ++ (l.b ++ rest) = ap (λ (f : List T). f ++ rest) l.parts ∙ append_assoc l.a l.b rest in
      let next-is : first_or l.b (first rest) ≡ first (l.b ++ rest) = sym (first-append l.b rest) in
      let left : L x l.a (first (l.b ++ rest)) = subst (λ (n : Option T). L x l.a n) next-is l.left in
      ap (many test p) regrouped
      ∙ many_stops_later test p goes (l.a ++ (l.b ++ rest)) (l.b ++ rest) x (fault, rest)
      (ap test (first-append l.a (l.b ++ rest)) ∙ begins-p x l.a (first (l.b ++ rest)) left)
      (reads.complete l.a (l.b ++ rest) x left)
      (many_back xs l.b rest l.right)

  pub many-Sinks : Sinks fault (many test p) (λ front m. (xs : List A) × ManyPlace test L D xs front m)
  many-Sinks = record { found = λ ts rest e. many_found (suc (length ts)) ts rest (omega arith) e; back = λ front rest d. many_back d.0 front rest d.1 }

pub renamed-Sinks : {T F A : Type 0} (fault : F) (p : Reader T F A) (D E : Place T) → Sinks fault p D → ((front : List T) (n : Option T) → D front n → E front n) → ((front : List T) (n : Option T) → E front n → D front n) → Sinks fault p E
renamed-Sinks fault p D E sinks to from = record {
  found = λ ts rest e. let s = sinks.found ts rest e in record { front = s.front; parts = s.parts; leads = to s.front (first rest) s.leads };
  back = λ front rest d. sinks.back front rest (from front (first rest) d);
}
