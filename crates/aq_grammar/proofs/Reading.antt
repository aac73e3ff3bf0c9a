-- Each way to put readers together keeps the laws: what is put together reads what is put together of the languages.
use Rattle.std.proofs.Common.{◌≡◌, ℕ, zero, suc, ◌<◌, List, [], ◌∷◌, ◌++◌, length, Result, Ok, Err, Bool, true, false, cond, refl, sym, ap, subst, ◌∙◌, append_assoc, arith, length-append, Option, Some, None, ◌⊎◌, inl, inr}
use Rattle.std.proofs.lemmas.List.{append-nil}
use Rattle.aq_grammar.specs.Words.{first, first_or, Joined, ◌⨾◌, IsOptional, IsMany, IsOne, IsToken, IsSeen, IsPlaced}
use Rattle.aq_grammar.specs.Readers.{Answer, Reader, ◌>>=◌, along, taken, see_at, or_fault, token_at, one_at, both, mapped, after, before, Test, switch, choice, optional, several, many, then_maybe, placed, refuse, with_front}
use Rattle.aq_grammar.specs.Laws.{In, Found, Stopped, Reads, IsFirst, JoinedIn, BothIn, Both, OptionalIn, ManyIn}

-- ---- tools

pub ok_pair : {T F A : Type 0} (x y : A) (a b : List T) → (let r : Answer T F A = Ok (x, a) in r) ≡ Ok (y, b) → (x ≡ y) × (a ≡ b)
ok_pair {T = T} {A = A} x y a b e = let h : (let v : A × List T = (x, a) in v) ≡ (y, b) = cc in (ap (λ (w : A × List T). w.0) h, ap (λ (w : A × List T). w.1) h)

ok_of : {T F A : Type 0} (x y : A) (a b : List T) → x ≡ y → a ≡ b → (let r : Answer T F A = Ok (x, a) in r) ≡ Ok (y, b)
ok_of x y a b e f = cc

pub err_pair : {T F A : Type 0} (k l : F) (a b : List T) → (let r : Answer T F A = Err (k, a) in r) ≡ Err (l, b) → (k ≡ l) × (a ≡ b)
err_pair {T = T} {F = F} {A = A} k l a b e = let h : (let v : F × List T = (k, a) in v) ≡ (l, b) = cc in (ap (λ (w : F × List T). w.0) h, ap (λ (w : F × List T). w.1) h)

pub bind_ok : {T F A B : Type 0} (r : Result A (F × List T)) (f : A → Result B (F × List T)) (y : B) → (r >>= f) ≡ Ok y → (x : A) × (r ≡ Ok x) × (f x ≡ Ok y)
bind_ok (Ok x) f y e = (x, refl, e)
bind_ok (Err d) f y e = absurd cc

pub bind_err : {T F A B : Type 0} (r : Result A (F × List T)) (f : A → Result B (F × List T)) (d : F × List T) → (r >>= f) ≡ Err d → (r ≡ Err d) ⊎ ((x : A) × (r ≡ Ok x) × (f x ≡ Err d))
bind_err (Ok x) f d e = inr (x, refl, e)
bind_err (Err c) f d e = inl cc

pub ok_no_err : {T F A : Type 0} (x : A × List T) (d : F × List T) → (let r : Answer T F A = Ok x in r) ≡ Err d → ⊥
ok_no_err x d e = cc

pub along_ok : {T F A B : Type 0} (f : A → B) (r : Answer T F A) (y : B) (rest : List T) → along f r ≡ Ok (y, rest) → (x : A) × (r ≡ Ok (x, rest)) × (f x ≡ y)
along_ok f (Ok x) y rest e = let h = ok_pair (f x.0) y x.1 rest e in (x.0, ok_of x.0 x.0 x.1 rest refl h.1, h.0)
along_ok f (Err d) y rest e = absurd cc

pub along_err : {T F A B : Type 0} (f : A → B) (r : Answer T F A) (d : F × List T) → along f r ≡ Err d → r ≡ Err d
along_err f (Ok x) d e = absurd cc
along_err f (Err c) d e = cc

pub chosen : {A : Type 0} (b : Bool) (x y z : A) → cond b x y ≡ z → ((b ≡ true) × (x ≡ z)) ⊎ ((b ≡ false) × (y ≡ z))
chosen true x y z e = inl (refl, e)
chosen false x y z e = inr (refl, e)

pub first-append : {T : Type 0} (a b : List T) → first (a ++ b) ≡ first_or a (first b)
first-append [] b = refl
first-append (t ∷ a) b = refl

pub first_or-append : {T : Type 0} (a b : List T) (n : Option T) → first_or (a ++ b) n ≡ first_or a (first_or b n)
first_or-append [] b n = refl
first_or-append (t ∷ a) b n = refl

-- the same next token, behind the same front
pub same_first : {T : Type 0} (a b c : List T) → first b ≡ first c → first (a ++ b) ≡ first (a ++ c)
same_first [] b c e = e
same_first (t ∷ a) b c e = refl

-- what was read is read again before any other rest with the same next token
pub again : {T F A : Type 0} (p : Reader T F A) (L : A → List T → Option T → Type 0) (H : A → List T → Type 0) → Reads p L H → (front rest other : List T) (x : A) → L x front (first rest) → first other ≡ first rest → p (front ++ other) ≡ Ok (x, other)
again {T = T} p L H reads front rest other x l e = reads.complete front other x (subst (λ (n : Option T). L x front n) (sym e) l)

-- ---- one reader after the other

both_is : {T F A B : Type 0} (p : Reader T F A) (q : Reader T F B) (ts middle rest : List T) (x : A) (y : B) → p ts ≡ Ok (x, middle) → q middle ≡ Ok (y, rest) → both p q ts ≡ Ok ((x, y), rest)
unfolding both
both_is p q ts middle rest x y e f = rw (e, f) refl

both_stops : {T F A B : Type 0} (p : Reader T F A) (q : Reader T F B) (ts rest : List T) (k : F) → p ts ≡ Err (k, rest) → both p q ts ≡ Err (k, rest)
unfolding both
both_stops p q ts rest k e = rw e refl

both_stops_later : {T F A B : Type 0} (p : Reader T F A) (q : Reader T F B) (ts middle rest : List T) (x : A) (k : F) → p ts ≡ Ok (x, middle) → q middle ≡ Err (k, rest) → both p q ts ≡ Err (k, rest)
unfolding both
both_stops_later p q ts middle rest x k e f = rw (e, f) refl

pub record BothOk {T F A B : Type 0} (p : Reader T F A) (q : Reader T F B) (ts rest : List T) (z : A × B) : Type 0 where
  pub middle : List T
  pub one : p ts ≡ Ok (z.0, middle)
  pub two : q middle ≡ Ok (z.1, rest)

both_ok : {T F A B : Type 0} (p : Reader T F A) (q : Reader T F B) (ts rest : List T) (z : A × B) → both p q ts ≡ Ok (z, rest) → BothOk p q ts rest z
unfolding both
both_ok {T = T} {F = F} {A = A} {B = B} p q ts rest z e =
    let s = bind_ok (p ts) (λ x. along (λ y. (x.0, y)) (q x.1)) (z, rest) e in
    let t = along_ok (λ y. (s.0.0, y)) (q s.0.1) z rest s.2 in
    record {
      middle = s.0.1;
      one = s.1 ∙ ok_of s.0.0 z.0 s.0.1 s.0.1 (ap (λ (w : A × B). w.0) t.2) refl;
      two = t.1 ∙ ok_of t.0 z.1 rest rest (ap (λ (w : A × B). w.1) t.2) refl;
    }

-- where a reader after the other stops
pub record StopsLater {T F A B : Type 0} (p : Reader T F A) (q : Reader T F B) (ts rest : List T) (k : F) : Type 0 where
  pub middle : List T
  pub value : A
  pub one : p ts ≡ Ok (value, middle)
  pub two : q middle ≡ Err (k, rest)

both_err : {T F A B : Type 0} (p : Reader T F A) (q : Reader T F B) (ts rest : List T) (k : F) → both p q ts ≡ Err (k, rest) → (p ts ≡ Err (k, rest)) ⊎ StopsLater p q ts rest k
unfolding both
both_err p q ts rest k e =
    elim (bind_err (p ts) (λ x. along (λ y. (x.0, y)) (q x.1)) (k, rest) e) [
      | inl h ↦ inl h
      | inr s ↦ inr (record { middle = s.0.1; value = s.0.0; one = s.1; two = along_err (λ y. (s.0.0, y)) (q s.0.1) (k, rest) s.2 })
    ]

both_sound : {T F A B : Type 0} (p : Reader T F A) (q : Reader T F B) (L : In T A) (M : In T B) (H : A → List T → Type 0) (K : B → List T → Type 0) → Reads p L H → Reads q M K
    → (ts rest : List T) (z : A × B) → both p q ts ≡ Ok (z, rest) → Found ts rest (BothIn L M z)
both_sound {T = T} p q L M H K reads-p reads-q ts rest z e =
    let s = both_ok p q ts rest z e in
    let f = reads-p.sound ts s.middle z.0 s.one in
    let g = reads-q.sound s.middle rest z.1 s.two in
    let next-is : first s.middle ≡ first_or g.front (first rest) = ap first g.parts ∙ first-append g.front rest in
    record {
      front = f.front ++ g.front;
      parts = f.parts ∙ ap (λ (r : List T). f.front ++ r) g.parts ∙ sym (append_assoc f.front g.front rest);
      spelled = record { a = f.front; b = g.front; parts = refl; left = subst (λ (n : Option T). L z.0 f.front n) next-is f.spelled; right = g.spelled };
    }

both_complete : {T F A B : Type 0} (p : Reader T F A) (q : Reader T F B) (L : In T A) (M : In T B) (H : A → List T → Type 0) (K : B → List T → Type 0) → Reads p L H → Reads q M K
    → (front rest : List T) (z : A × B) → BothIn L M z front (first rest) → both p q (front ++ rest) ≡ Ok (z, rest)
both_complete {T = T} p q L M H K reads-p reads-q front rest z l =
    let regrouped : front ++ rest ≡ l.a ++ (l.b ++ rest) = ap (λ (f : List T). f ++ rest) l.parts ∙ append_assoc l.a l.b rest in
    let next-is : first_or l.b (first rest) ≡ first (l.b ++ rest) = sym (first-append l.b rest) in
    ap (both p q) regrouped ∙ both_is p q (l.a ++ (l.b ++ rest)) (l.b ++ rest) rest z.0 z.1
    (reads-p.complete l.a (l.b ++ rest) z.0 (subst (λ (n : Option T). L z.0 l.a n) next-is l.left))
    (reads-q.complete l.b rest z.1 l.right)

both_fails : {T F A B : Type 0} (p : Reader T F A) (q : Reader T F B) (L : In T A) (M : In T B) (H : A → List T → Type 0) (K : B → List T → Type 0) → Reads p L H → Reads q M K
    → (ts rest : List T) (k : F) → both p q ts ≡ Err (k, rest) → Stopped (both p q) (Both H K) k ts rest
both_fails {T = T} p q L M H K reads-p reads-q ts rest k e =
    elim (both_err p q ts rest k e) [
      | inl h ↦
          let s = reads-p.fails ts rest k h in
          record {
            front = s.front;
            parts = s.parts;
            ending = s.ending ++ reads-q.some_text;
            value = (s.value, reads-q.some);
            spelled = record { a = s.front ++ s.ending; b = reads-q.some_text; parts = sym (append_assoc s.front s.ending reads-q.some_text); left = s.spelled; right = reads-q.some_is };
            local = λ other same. both_stops p q (s.front ++ other) other k (s.local other same);
          }
      | inr t ↦
          let f = reads-p.sound ts t.middle t.value t.one in
          let s = reads-q.fails t.middle rest k t.two in
          record {
            front = f.front ++ s.front;
            parts = f.parts ∙ ap (λ (r : List T). f.front ++ r) s.parts ∙ sym (append_assoc f.front s.front rest);
            ending = s.ending;
            value = (t.value, s.value);
            spelled = record { a = f.front; b = s.front ++ s.ending; parts = append_assoc f.front s.front s.ending; left = reads-p.forget f.front (first t.middle) t.value f.spelled; right = s.spelled };
            local = λ other same.
                ap (both p q) (append_assoc f.front s.front other)
                ∙ both_stops_later p q (f.front ++ (s.front ++ other)) (s.front ++ other) other t.value k
                (again p L H reads-p f.front t.middle (s.front ++ other) t.value f.spelled (same_first s.front other rest same ∙ ap first (sym s.parts)))
                (s.local other same);
          }
    ]

pub both-Reads : {T F A B : Type 0} (p : Reader T F A) (q : Reader T F B) (L : In T A) (M : In T B) (H : A → List T → Type 0) (K : B → List T → Type 0) → Reads p L H → Reads q M K → Reads (both p q) (BothIn L M) (Both H K)
both-Reads p q L M H K reads-p reads-q = record {
  sound = both_sound p q L M H K reads-p reads-q;
  complete = both_complete p q L M H K reads-p reads-q;
  fails = both_fails p q L M H K reads-p reads-q;
  forget = λ front n z l. record { a = l.a; b = l.b; parts = l.parts; left = reads-p.forget l.a _ z.0 l.left; right = reads-q.forget l.b n z.1 l.right };
  some = (reads-p.some, reads-q.some);
  some_text = reads-p.some_text ++ reads-q.some_text;
  some_is = record { a = reads-p.some_text; b = reads-q.some_text; parts = refl; left = reads-p.some_is; right = reads-q.some_is };
}

-- ---- a reader whose value is changed

pub record MappedIn {T A B : Type 0} (f : A → B) (L : In T A) (y : B) (front : List T) (n : Option T) : Type 0 where
  pub from : A
  pub is : f from ≡ y
  pub spelled : L from front n

pub record Mapped {T A B : Type 0} (f : A → B) (H : A → List T → Type 0) (y : B) (front : List T) : Type 0 where
  pub from : A
  pub is : f from ≡ y
  pub spelled : H from front

pub mapped-Reads : {T F A B : Type 0} (f : A → B) (p : Reader T F A) (L : In T A) (H : A → List T → Type 0) → Reads p L H → Reads (mapped f p) (MappedIn f L) (Mapped f H)
unfolding mapped
mapped-Reads f p L H reads = record {
  sound = λ ts rest y e. let s = along_ok f (p ts) y rest e in let found = reads.sound ts rest s.0 s.1 in record { front = found.front; parts = found.parts; spelled = record { from = s.0; is = s.2; spelled = found.spelled } };
  complete = λ front rest y l. ap (along f) (reads.complete front rest l.from l.spelled) ∙ ok_of (f l.from) y rest rest l.is refl;
  fails = λ ts rest k e. let s = reads.fails ts rest k (along_err f (p ts) (k, rest) e) in record { front = s.front; parts = s.parts; ending = s.ending; value = f s.value; spelled = record { from = s.value; is = refl; spelled = s.spelled }; local = λ other same. ap (along f) (s.local other same) };
  forget = λ front n y l. record { from = l.from; is = l.is; spelled = reads.forget front n l.from l.spelled };
  some = f reads.some;
  some_text = reads.some_text;
  some_is = record { from = reads.some; is = refl; spelled = reads.some_is };
}

-- ---- the same reader, by other words for what it reads

pub renamed : {T F A : Type 0} (p : Reader T F A) (L M : In T A) (H K : A → List T → Type 0) → Reads p L H
    → ((x : A) (front : List T) (n : Option T) → L x front n → M x front n)
    → ((x : A) (front : List T) (n : Option T) → M x front n → L x front n)
    → ((x : A) (front : List T) → H x front → K x front)
    → Reads p M K
renamed p L M H K reads to from whole = record {
  sound = λ ts rest x e. let s = reads.sound ts rest x e in record { front = s.front; parts = s.parts; spelled = to x s.front (first rest) s.spelled };
  complete = λ front rest x l. reads.complete front rest x (from x front (first rest) l);
  fails = λ ts rest k e. let s = reads.fails ts rest k e in record { front = s.front; parts = s.parts; ending = s.ending; value = s.value; spelled = whole s.value _ s.spelled; local = s.local };
  forget = λ front n x l. whole x front (reads.forget front n x (from x front n l));
  some = reads.some;
  some_text = reads.some_text;
  some_is = whole reads.some _ reads.some_is;
}

-- ---- what may be left out

-- each text begins with a token that passes the test
abbrev pub Begins : {T A : Type 0} → Test T → In T A → Type 0
Begins {T = T} {A = A} test L = (x : A) (front : List T) (n : Option T) → L x front n → test (first_or front n) ≡ true

optional_sound : {T F A : Type 0} (test : Test T) (p : Reader T F A) (L : In T A) (H : A → List T → Type 0) → Reads p L H → (ts rest : List T) (x : Option A) → optional test p ts ≡ Ok (x, rest) → Found ts rest (OptionalIn test L x)
unfolding optional
optional_sound {T = T} {F = F} {A = A} test p L H reads ts rest x e =
    elim (chosen (test (first ts)) (along Some (p ts)) (Ok (None, ts)) (Ok (x, rest)) e) [
      | inl h ↦
          let s = along_ok Some (p ts) x rest h.1 in
          let found = reads.sound ts rest s.0 s.1 in
          subst (λ (o : Option A). Found ts rest (OptionalIn test L o)) s.2 (record { front = found.front; parts = found.parts; spelled = found.spelled })
      | inr h ↦
          let s = ok_pair None x ts rest h.1 in
          subst (λ (o : Option A). Found ts rest (OptionalIn test L o)) s.0 (record { front = []; parts = s.1; spelled = (refl, ap (λ (r : List T). test (first r)) (sym s.1) ∙ h.0) })
    ]

optional_complete : {T F A : Type 0} (test : Test T) (p : Reader T F A) (L : In T A) (H : A → List T → Type 0) → Reads p L H → Begins test L → (front rest : List T) (x : Option A) → OptionalIn test L x front (first rest) → optional test p (front ++ rest) ≡ Ok (x, rest)
unfolding optional
optional_complete {T = T} test p L H reads begins front rest None l = ap (λ (f : List T). optional test p (f ++ rest)) l.0 ∙ rw l.1 refl
optional_complete {T = T} test p L H reads begins front rest (Some x) l =
    let t : test (first (front ++ rest)) ≡ true = ap test (first-append front rest) ∙ begins x front (first rest) l in
    rw (t, reads.complete front rest x l) refl

optional_fails : {T F A : Type 0} (test : Test T) (p : Reader T F A) (L : In T A) (H : A → List T → Type 0) → Reads p L H → (ts rest : List T) (k : F) → optional test p ts ≡ Err (k, rest) → Stopped (optional test p) (IsOptional H) k ts rest
unfolding optional
optional_fails {T = T} {F = F} {A = A} test p L H reads ts rest k e =
    elim (chosen (test (first ts)) (along Some (p ts)) (Ok (None, ts)) (Err (k, rest)) e) [
      | inl h ↦
          let s = reads.fails ts rest k (along_err Some (p ts) (k, rest) h.1) in
          record {
            front = s.front;
            parts = s.parts;
            ending = s.ending;
            value = Some s.value;
            spelled = s.spelled;
            local = λ other same.
                let t : test (first (s.front ++ other)) ≡ true = ap test (same_first s.front other rest same ∙ ap first (sym s.parts)) ∙ h.0 in
                rw (t, s.local other same) refl;
          }
      | inr h ↦ absurd (ok_no_err (None, ts) (k, rest) h.1)
    ]

optional_forget : {T F A : Type 0} (test : Test T) (p : Reader T F A) (L : In T A) (H : A → List T → Type 0) → Reads p L H → (front : List T) (n : Option T) (x : Option A) → OptionalIn test L x front n → IsOptional H x front
optional_forget test p L H reads front n None l = l.0
optional_forget test p L H reads front n (Some x) l = reads.forget front n x l

pub optional-Reads : {T F A : Type 0} (test : Test T) (p : Reader T F A) (L : In T A) (H : A → List T → Type 0) → Reads p L H → Begins test L → Reads (optional test p) (OptionalIn test L) (IsOptional H)
optional-Reads test p L H reads begins = record {
  sound = optional_sound test p L H reads;
  complete = optional_complete test p L H reads begins;
  fails = optional_fails test p L H reads;
  forget = optional_forget test p L H reads;
  some = None;
  some_text = [];
  some_is = refl;
}

-- ---- one reader or the other

abbrev pub ChoiceIn : {T A : Type 0} → Test T → In T A → In T A → In T A
ChoiceIn test L M x front n = ((test (first_or front n) ≡ true) × L x front n) ⊎ ((test (first_or front n) ≡ false) × M x front n)

abbrev pub Either : {T A : Type 0} → (A → List T → Type 0) → (A → List T → Type 0) → A → List T → Type 0
Either H K x front = H x front ⊎ K x front

choice_true : {T F A : Type 0} (test : Test T) (p q : Reader T F A) (ts : List T) → test (first ts) ≡ true → choice test p q ts ≡ p ts
unfolding choice
choice_true test p q ts t = rw t refl

choice_false : {T F A : Type 0} (test : Test T) (p q : Reader T F A) (ts : List T) → test (first ts) ≡ false → choice test p q ts ≡ q ts
unfolding choice
choice_false test p q ts t = rw t refl

choice_is : {T F A : Type 0} (test : Test T) (p q : Reader T F A) (ts : List T) (r : Answer T F A) → choice test p q ts ≡ r → ((test (first ts) ≡ true) × (p ts ≡ r)) ⊎ ((test (first ts) ≡ false) × (q ts ≡ r))
unfolding choice
choice_is test p q ts r e = chosen (test (first ts)) (p ts) (q ts) r e

-- the test of the next token stays the same behind the same front
test_at : {T : Type 0} (test : Test T) (b : Bool) (ts front rest other : List T) → test (first ts) ≡ b → ts ≡ front ++ rest → first other ≡ first rest → test (first (front ++ other)) ≡ b
test_at test b ts front rest other t parts same = ap test (same_first front other rest same ∙ ap first (sym parts)) ∙ t

pub test_or : {T : Type 0} (test : Test T) (b : Bool) (ts front rest : List T) → test (first ts) ≡ b → ts ≡ front ++ rest → test (first_or front (first rest)) ≡ b
test_or test b ts front rest t parts = ap test (sym (first-append front rest) ∙ ap first (sym parts)) ∙ t

module _ {T F A : Type 0} (test : Test T) (p q : Reader T F A) (L M : A → List T → Option T → Type 0) (H K : A → List T → Type 0) (reads-p : Reads p L H) (reads-q : Reads q M K) where
  choice_sound : (ts rest : List T) (x : A) → choice test p q ts ≡ Ok (x, rest) → Found ts rest (ChoiceIn test L M x)
  choice_sound ts rest x e =
      elim (choice_is test p q ts (Ok (x, rest)) e) [
        | inl h ↦ let s = reads-p.sound ts rest x h.1 in record { front = s.front; parts = s.parts; spelled = inl (test_or test true ts s.front rest h.0 s.parts, s.spelled) }
        | inr h ↦ let s = reads-q.sound ts rest x h.1 in record { front = s.front; parts = s.parts; spelled = inr (test_or test false ts s.front rest h.0 s.parts, s.spelled) }
      ]

  choice_complete : (front rest : List T) (x : A) → ChoiceIn test L M x front (first rest) → choice test p q (front ++ rest) ≡ Ok (x, rest)
  choice_complete front rest x l =
      elim l [
        | inl h ↦ choice_true test p q (front ++ rest) (ap test (first-append front rest) ∙ h.0) ∙ reads-p.complete front rest x h.1
        | inr h ↦ choice_false test p q (front ++ rest) (ap test (first-append front rest) ∙ h.0) ∙ reads-q.complete front rest x h.1
      ]

  choice_fails : (ts rest : List T) (k : F) → choice test p q ts ≡ Err (k, rest) → Stopped (choice test p q) (Either H K) k ts rest
  choice_fails ts rest k e =
      elim (choice_is test p q ts (Err (k, rest)) e) [
        | inl h ↦ let s = reads-p.fails ts rest k h.1 in record { front = s.front; parts = s.parts; ending = s.ending; value = s.value; spelled = inl s.spelled; local = λ other same. choice_true test p q (s.front ++ other) (test_at test true ts s.front rest other h.0 s.parts same) ∙ s.local other same }
        | inr h ↦ let s = reads-q.fails ts rest k h.1 in record { front = s.front; parts = s.parts; ending = s.ending; value = s.value; spelled = inr s.spelled; local = λ other same. choice_false test p q (s.front ++ other) (test_at test false ts s.front rest other h.0 s.parts same) ∙ s.local other same }
      ]

  choice_forget : (front : List T) (n : Option T) (x : A) → ChoiceIn test L M x front n → Either H K x front
  choice_forget front n x l = elim l [ inl h ↦ inl (reads-p.forget front n x h.1) | inr h ↦ inr (reads-q.forget front n x h.1) ]

  pub choice-Reads : Reads (choice test p q) (ChoiceIn test L M) (Either H K)
  choice-Reads = record {
    sound = choice_sound;
    complete = choice_complete;
    fails = choice_fails;
    forget = choice_forget;
    some = reads-p.some;
    some_text = reads-p.some_text;
    some_is = inl reads-p.some_is;
  }

-- ---- any number of them

swap_later : {T F A B : Type 0} (b : Bool) (r : Answer T F A) (f g : A × List T → Answer T F B) (d : Answer T F B) → ((x : A × List T) → r ≡ Ok x → f x ≡ g x) → cond b (r >>= f) d ≡ cond b (r >>= g) d
swap_later false r f g d h = refl
swap_later true (Ok x) f g d h = h x refl
swap_later true (Err e) f g d h = refl

module _ {T F A : Type 0} (test : Test T) (p : Reader T F A) (goes : (ts : List T) (x : A × List T) → p ts ≡ Ok x → length x.1 < length ts) where
  several_more : (n m : ℕ) (ts : List T) → length ts < n → length ts < m → several n test p ts ≡ several m test p ts
  several_more zero m ts h k = absurd (omega arith)
  several_more (suc n) zero ts h k = absurd (omega arith)
  several_more (suc n) (suc m) ts h k =
      swap_later (test (first ts)) (p ts) (λ x. along (λ xs. x.0 ∷ xs) (several n test p x.1)) (λ x. along (λ xs. x.0 ∷ xs) (several m test p x.1)) (Ok ([], ts))
      (λ x e. let lt = goes ts x e in ap (along (λ xs. x.0 ∷ xs)) (several_more n m x.1 (omega arith) (omega arith)))

  many_unrolled : (ts : List T) → many test p ts ≡ cond (test (first ts)) (p ts >>= λ x. along (λ xs. x.0 ∷ xs) (many test p x.1)) (Ok ([], ts))
  unfolding many
  many_unrolled ts =
      swap_later (test (first ts)) (p ts) (λ x. along (λ xs. x.0 ∷ xs) (several (length ts) test p x.1)) (λ x. along (λ xs. x.0 ∷ xs) (several (suc (length x.1)) test p x.1)) (Ok ([], ts))
      (λ x e. let lt = goes ts x e in ap (along (λ xs. x.0 ∷ xs)) (several_more (length ts) (suc (length x.1)) x.1 lt (omega arith)))

  pub many_ends : (ts : List T) → test (first ts) ≡ false → many test p ts ≡ Ok ([], ts)
  many_ends ts t = many_unrolled ts ∙ rw t refl

  pub many_goes_on : (ts middle rest : List T) (x : A) (xs : List A) → test (first ts) ≡ true → p ts ≡ Ok (x, middle) → many test p middle ≡ Ok (xs, rest) → many test p ts ≡ Ok (x ∷ xs, rest)
  many_goes_on ts middle rest x xs t e f = many_unrolled ts ∙ rw (t, e, f) refl

  pub many_stops : (ts : List T) (d : F × List T) → test (first ts) ≡ true → p ts ≡ Err d → many test p ts ≡ Err d
  many_stops ts d t e = many_unrolled ts ∙ rw (t, e) refl

  pub many_stops_later : (ts middle : List T) (x : A) (d : F × List T) → test (first ts) ≡ true → p ts ≡ Ok (x, middle) → many test p middle ≡ Err d → many test p ts ≡ Err d
  many_stops_later ts middle x d t e f = many_unrolled ts ∙ rw (t, e, f) refl

  pub record ManyOk (ts rest : List T) (xs : List A) : Type 0 where
    pub is : ((xs ≡ []) × (ts ≡ rest) × (test (first ts) ≡ false)) ⊎ ((x : A) × (more : List A) × (middle : List T) × (xs ≡ x ∷ more) × (test (first ts) ≡ true) × (p ts ≡ Ok (x, middle)) × (many test p middle ≡ Ok (more, rest)))

  many_ok : (ts rest : List T) (xs : List A) → many test p ts ≡ Ok (xs, rest) → ManyOk ts rest xs
  many_ok ts rest xs e =
      elim (chosen (test (first ts)) (p ts >>= λ x. along (λ more. x.0 ∷ more) (many test p x.1)) (Ok ([], ts)) (Ok (xs, rest)) (sym (many_unrolled ts) ∙ e)) [
        | inl h ↦
            let s = bind_ok (p ts) (λ x. along (λ more. x.0 ∷ more) (many test p x.1)) (xs, rest) h.1 in
            let t = along_ok (λ more. s.0.0 ∷ more) (many test p s.0.1) xs rest s.2 in
            record { is = inr (s.0.0, t.0, s.0.1, sym t.2, h.0, s.1, t.1) }
        | inr h ↦ let s = ok_pair [] xs ts rest h.1 in record { is = inl (sym s.0, s.1, h.0) }
      ]

  pub record ManyErr (ts : List T) (d : F × List T) : Type 0 where
    pub goes_on : test (first ts) ≡ true
    pub is : (p ts ≡ Err d) ⊎ ((x : A) × (middle : List T) × (p ts ≡ Ok (x, middle)) × (many test p middle ≡ Err d))

  pub many_err : (ts : List T) (d : F × List T) → many test p ts ≡ Err d → ManyErr ts d
  many_err ts d e =
      elim (chosen (test (first ts)) (p ts >>= λ x. along (λ more. x.0 ∷ more) (many test p x.1)) (Ok ([], ts)) (Err d) (sym (many_unrolled ts) ∙ e)) [
        | inl h ↦
            record {
              goes_on = h.0;
              is = elim (bind_err (p ts) (λ x. along (λ more. x.0 ∷ more) (many test p x.1)) d h.1) [
                | inl b ↦ inl b
                | inr s ↦ inr (s.0.0, s.0.1, s.1, along_err (λ more. s.0.0 ∷ more) (many test p s.0.1) d s.2)
              ];
            }
        | inr h ↦ absurd (ok_no_err ([], ts) d h.1)
      ]

-- each text has a token
abbrev pub Grows : {T A : Type 0} → In T A → Type 0
Grows {T = T} {A = A} L = (x : A) (front : List T) (n : Option T) → L x front n → 0 < length front

module _ {T F A : Type 0} (test : Test T) (p : Reader T F A) (L : A → List T → Option T → Type 0) (H : A → List T → Type 0) (reads : Reads p L H) (begins : (x : A) (front : List T) (n : Option T) → L x front n → test (first_or front n) ≡ true) (grows : (x : A) (front : List T) (n : Option T) → L x front n → 0 < length front) where
  pub goes_of : (ts : List T) (x : A × List T) → p ts ≡ Ok x → length x.1 < length ts
  goes_of ts x e =
      let s = reads.sound ts x.1 x.0 e in
      let g = grows x.0 s.front (first x.1) s.spelled in
      omega (arith, g, ap length s.parts, length-append s.front x.1)

  many_sound : (n : ℕ) (ts rest : List T) (xs : List A) → length ts < n → many test p ts ≡ Ok (xs, rest) → Found ts rest (ManyIn test L xs)
  many_sound zero ts rest xs lt e = absurd (omega arith)
  many_sound (suc n) ts rest xs lt e =
      elim (many_ok test p goes_of ts rest xs e).is [
        | inl h ↦ subst (λ (v : List A). Found ts rest (ManyIn test L v)) (sym h.0) (record { front = []; parts = h.1; spelled = (refl, ap (λ (r : List T). test (first r)) (sym h.1) ∙ h.2) })
        | inr h ↦
            let f = reads.sound ts h.2 h.0 h.5 in
            let lt2 = goes_of ts (h.0, h.2) h.5 in
            let g = many_sound n h.2 rest h.1 (omega arith) h.6 in
            let next-is : first h.2 ≡ first_or g.front (first rest) = ap first g.parts ∙ first-append g.front rest in
            subst (λ (v : List A). Found ts rest (ManyIn test L v)) (sym h.3)
            (record {
              front = f.front ++ g.front;
              parts = f.parts ∙ ap (λ (r : List T). f.front ++ r) g.parts ∙ sym (append_assoc f.front g.front rest);
              spelled = record { a = f.front; b = g.front; parts = refl; left = subst (λ (m : Option T). L h.0 f.front m) next-is f.spelled; right = g.spelled };
            })
      ]

  many_complete : (front rest : List T) (xs : List A) → ManyIn test L xs front (first rest) → many test p (front ++ rest) ≡ Ok (xs, rest)
  many_complete front rest [] l = ap (λ (f : List T). many test p (f ++ rest)) l.0 ∙ many_ends test p goes_of rest l.1
  many_complete front rest (x ∷ xs) l =
      let regrouped : front ++ rest ≡ l.a ++ (l.b ++ rest) = ap (λ (f : List T). f ++ rest) l.parts ∙ append_assoc l.a l.b rest in
      let next-is : first_or l.b (first rest) ≡ first (l.b ++ rest) = sym (first-append l.b rest) in
      let left : L x l.a (first (l.b ++ rest)) = subst (λ (n : Option T). L x l.a n) next-is l.left in
      ap (many test p) regrouped ∙ many_goes_on test p goes_of (l.a ++ (l.b ++ rest)) (l.b ++ rest) rest x xs
      (ap test (first-append l.a (l.b ++ rest)) ∙ begins x l.a (first (l.b ++ rest)) left)
      (reads.complete l.a (l.b ++ rest) x left)
      (many_complete l.b rest xs l.right)

  many_fails : (n : ℕ) (ts rest : List T) (k : F) → length ts < n → many test p ts ≡ Err (k, rest) → Stopped (many test p) (IsMany H) k ts rest
  many_fails zero ts rest k lt e = absurd (omega arith)
  many_fails (suc n) ts rest k lt e =
      let m = many_err test p goes_of ts (k, rest) e in
      elim m.is [
        | inl h ↦
            let s = reads.fails ts rest k h in
            record {
              front = s.front;
              parts = s.parts;
              ending = s.ending;
              value = s.value ∷ [];
              spelled = record { a = s.front ++ s.ending; b = []; parts = sym (append-nil (s.front ++ s.ending)); left = s.spelled; right = refl };
              local = λ other same. many_stops test p goes_of (s.front ++ other) (k, other) (test_at test true ts s.front rest other m.goes_on s.parts same) (s.local other same);
            }
        | inr h ↦
            let f = reads.sound ts h.1 h.0 h.2 in
            let lt2 = goes_of ts (h.0, h.1) h.2 in
            let s = many_fails n h.1 rest k (omega arith) h.3 in
            record {
              front = f.front ++ s.front;
              parts = f.parts ∙ ap (λ (r : List T). f.front ++ r) s.parts ∙ sym (append_assoc f.front s.front rest);
              ending = s.ending;
              value = h.0 ∷ s.value;
              spelled = record { a = f.front; b = s.front ++ s.ending; parts = append_assoc f.front s.front s.ending; left = reads.forget f.front (first h.1) h.0 f.spelled; right = s.spelled };
              local = λ other same.
                  let both-same : first (s.front ++ other) ≡ first h.1 = same_first s.front other rest same ∙ ap first (sym s.parts) in
                  ap (many test p) (append_assoc f.front s.front other)
                  ∙ many_stops_later test p goes_of (f.front ++ (s.front ++ other)) (s.front ++ other) h.0 (k, other)
                  (test_at test true ts f.front h.1 (s.front ++ other) m.goes_on f.parts both-same)
                  (again p L H reads f.front h.1 (s.front ++ other) h.0 f.spelled both-same)
                  (s.local other same);
            }
      ]

  many_forget : (front : List T) (n : Option T) (xs : List A) → ManyIn test L xs front n → IsMany H xs front
  many_forget front n [] l = l.0
  many_forget front n (x ∷ xs) l = record { a = l.a; b = l.b; parts = l.parts; left = reads.forget l.a _ x l.left; right = many_forget l.b n xs l.right }

  pub many-Reads : Reads (many test p) (ManyIn test L) (IsMany H)
  many-Reads = record {
    sound = λ ts rest xs e. many_sound (suc (length ts)) ts rest xs (omega arith) e;
    complete = many_complete;
    fails = λ ts rest k e. many_fails (suc (length ts)) ts rest k (omega arith) e;
    forget = many_forget;
    some = [];
    some_text = [];
    some_is = refl;
  }

-- ---- one token

pub no_ok : {T F A : Type 0} (d : F × List T) (x : A × List T) → (let r : Answer T F A = Err d in r) ≡ Ok x → ⊥
no_ok d x e = cc

pub some_is : {T : Type 0} (u t : T) → (let o : Option T = Some u in o) ≡ Some t → u ≡ t
some_is u t e = cc

-- what begins with a token, and stops at its first token
cons_is : {T : Type 0} (t : T) (ts rest : List T) → ts ≡ rest → t ∷ ts ≡ (t ∷ []) ++ rest
cons_is {T = T} t ts rest e = ap (λ (r : List T). t ∷ r) e

abbrev pub SeenIn : {T F A : Type 0} → (T → Result A F) → In T A
SeenIn view x front n = IsSeen view x front

taken_ok : {T F A : Type 0} (o : Result A F) (t : T) (ts rest : List T) (x : A) → taken o t ts ≡ Ok (x, rest) → (o ≡ Ok x) × (ts ≡ rest)
taken_ok {F = F} (Ok y) t ts rest x e = let s = ok_pair {F = F} y x ts rest e in (ap Ok s.0, s.1)
taken_ok (Err k) t ts rest x e = absurd (no_ok _ _ e)

pub taken_err : {T F A : Type 0} (o : Result A F) (t : T) (ts rest : List T) (k : F) → taken o t ts ≡ Err (k, rest) → (o ≡ Err k) × (t ∷ ts ≡ rest)
taken_err (Ok y) t ts rest k e = absurd (ok_no_err _ _ e)
taken_err {A = A} (Err l) t ts rest k e = let s = err_pair {A = A} l k (t ∷ ts) rest e in (ap Err s.0, s.1)

module _ {T F A : Type 0} (none : F) (view : T → Result A F) where
  seen_sound : (ts rest : List T) (x : A) → see_at none view ts ≡ Ok (x, rest) → Found ts rest (SeenIn view x)
  seen_sound [] rest x e = absurd (no_ok _ _ e)
  seen_sound (t ∷ ts) rest x e = let s = taken_ok (view t) t ts rest x e in record { front = t ∷ []; parts = cons_is t ts rest s.1; spelled = (t, refl, s.0) }

  seen_complete : (front rest : List T) (x : A) → SeenIn view x front (first rest) → see_at none view (front ++ rest) ≡ Ok (x, rest)
  seen_complete front rest x l = ap (λ (f : List T). see_at none view (f ++ rest)) l.1 ∙ rw l.2 refl

  seen_fails_nil : (other : List T) (k : F) → none ≡ k → first other ≡ None → see_at none view other ≡ Err (k, other)
  seen_fails_nil [] k e same = cc
  seen_fails_nil (u ∷ us) k e same = absurd cc

  seen_fails_cons : (t : T) (other : List T) (k : F) → view t ≡ Err k → first other ≡ Some t → see_at none view other ≡ Err (k, other)
  seen_fails_cons t [] k f same = absurd cc
  seen_fails_cons t (u ∷ us) k f same = let g : view u ≡ Err k = ap view (some_is u t same) ∙ f in rw g refl

  seen_fails : (like : T) (y : A) → view like ≡ Ok y → (ts rest : List T) (k : F) → see_at none view ts ≡ Err (k, rest) → Stopped (see_at none view) (IsSeen view) k ts rest
  seen_fails like y is [] rest k e =
      let s = err_pair {A = A} none k [] rest e in
      record { front = []; parts = s.1; ending = like ∷ []; value = y; spelled = (like, refl, is); local = λ other same. seen_fails_nil other k s.0 (same ∙ ap first (sym s.1)) }
  seen_fails like y is (t ∷ ts) rest k e =
      let s = taken_err (view t) t ts rest k e in
      record { front = []; parts = s.1; ending = like ∷ []; value = y; spelled = (like, refl, is); local = λ other same. seen_fails_cons t other k s.0 (same ∙ ap first (sym s.1)) }

  pub seen-Reads : (like : T) (y : A) → view like ≡ Ok y → Reads (see_at none view) (SeenIn view) (IsSeen view)
  seen-Reads like y is = record {
    sound = seen_sound;
    complete = seen_complete;
    fails = seen_fails like y is;
    forget = λ front n x l. l;
    some = y;
    some_text = like ∷ [];
    some_is = (like, refl, is);
  }

-- the same, where a view or a test says nothing of the fault
abbrev pub TokenIn : {T A : Type 0} → (T → Option A) → In T A
TokenIn view x front n = IsToken view x front

or_fault_ok : {F A : Type 0} (k : F) (o : Option A) (x : A) → or_fault k o ≡ Ok x → o ≡ Some x
or_fault_ok k (Some y) x e = cc
or_fault_ok k None x e = absurd cc

pub token-Reads : {T F A : Type 0} (k : F) (view : T → Option A) (like : T) (y : A) → view like ≡ Some y → Reads (token_at k view) (TokenIn view) (IsToken view)
token-Reads {T = T} {F = F} {A = A} k view like y is =
    renamed (token_at k view) (SeenIn (λ t. or_fault k (view t))) (TokenIn view) (IsSeen (λ t. or_fault k (view t))) (IsToken view)
    (seen-Reads k (λ t. or_fault k (view t)) like y (ap (or_fault k) is))
    (λ x front n l. (l.0, l.1, or_fault_ok k (view l.0) x l.2))
    (λ x front n l. (l.0, l.1, ap (or_fault k) l.2))
    (λ x front l. (l.0, l.1, or_fault_ok k (view l.0) x l.2))

abbrev pub OneIn : {T : Type 0} → (T → Bool) → In T (Unit {0})
OneIn test x front n = IsOne test front

abbrev pub passed : {F : Type 0} → F → Bool → Result (Unit {0}) F
passed k b = cond b (Ok tt) (Err k)

passed_ok : {F : Type 0} (k : F) (b : Bool) → passed k b ≡ Ok tt → b ≡ true
passed_ok k true e = refl
passed_ok k false e = absurd cc

pub one-Reads : {T F : Type 0} (k : F) (test : T → Bool) (like : T) → test like ≡ true → Reads (one_at k test) (OneIn test) (λ _. IsOne test)
one-Reads {T = T} {F = F} k test like is =
    renamed (one_at k test) (SeenIn (λ t. passed k (test t))) (OneIn test) (IsSeen (λ t. passed k (test t))) (λ _. IsOne test)
    (seen-Reads k (λ t. passed k (test t)) like tt (ap (passed k) is))
    (λ x front n l. (l.0, l.1, passed_ok k (test l.0) l.2))
    (λ x front n l. (l.0, l.1, ap (passed k) l.2))
    (λ x front l. (l.0, l.1, passed_ok k (test l.0) l.2))

-- ---- behind something that has no value, and before it

abbrev pub AfterIn : {T A : Type 0} → In T (Unit {0}) → In T A → In T A
AfterIn S L x = JoinedIn (S tt) (L x)

abbrev pub BeforeIn : {T A : Type 0} → In T A → In T (Unit {0}) → In T A
BeforeIn L S x = JoinedIn (L x) (S tt)

pub along_along : {T F A B C : Type 0} (f : A → B) (g : B → C) (r : Answer T F A) → along g (along f r) ≡ along (λ x. g (f x)) r
along_along f g (Ok x) = refl
along_along f g (Err d) = refl

along_bind : {T F A B C : Type 0} (g : B → C) (r : Answer T F A) (f : A × List T → Answer T F B) → along g (r >>= f) ≡ r >>= λ x. along g (f x)
along_bind g (Ok x) f = refl
along_bind g (Err d) f = refl

bind_same : {T F A B : Type 0} (r : Answer T F A) (f g : A × List T → Answer T F B) → ((x : A × List T) → f x ≡ g x) → (r >>= f) ≡ (r >>= g)
bind_same (Ok x) f g h = h x
bind_same (Err d) f g h = refl

along_same : {T F A : Type 0} (r : Answer T F A) → along (λ x. x) r ≡ r
along_same (Ok x) = refl
along_same (Err d) = refl

after_is : {T F A : Type 0} (s : Reader T F (Unit {0})) (p : Reader T F A) (ts : List T) → mapped (λ (v : Unit {0} × A). v.1) (both s p) ts ≡ after s p ts
unfolding mapped both after
after_is {A = A} s p ts =
    along_bind (λ (v : Unit {0} × A). v.1) (s ts) (λ x. along (λ y. (x.0, y)) (p x.1))
    ∙ bind_same (s ts) (λ x. along (λ (v : Unit {0} × A). v.1) (along (λ y. (x.0, y)) (p x.1))) (λ x. p x.1) (λ x. along_along (λ y. (x.0, y)) (λ (v : Unit {0} × A). v.1) (p x.1) ∙ along_same (p x.1))

before_is : {T F A : Type 0} (p : Reader T F A) (s : Reader T F (Unit {0})) (ts : List T) → mapped (λ (v : A × Unit {0}). v.0) (both p s) ts ≡ before p s ts
unfolding mapped both before
before_is {A = A} p s ts =
    along_bind (λ (v : A × Unit {0}). v.0) (p ts) (λ x. along (λ y. (x.0, y)) (s x.1))
    ∙ bind_same (p ts) (λ x. along (λ (v : A × Unit {0}). v.0) (along (λ y. (x.0, y)) (s x.1))) (λ x. along (λ _. x.0) (s x.1)) (λ x. along_along (λ y. (x.0, y)) (λ (v : A × Unit {0}). v.0) (s x.1))

-- the same reader at each list
pub same_reader : {T F A : Type 0} (p q : Reader T F A) (L : In T A) (H : A → List T → Type 0) → ((ts : List T) → p ts ≡ q ts) → Reads p L H → Reads q L H
same_reader p q L H is reads = record {
  sound = λ ts rest x e. reads.sound ts rest x (is ts ∙ e);
  complete = λ front rest x l. sym (is (front ++ rest)) ∙ reads.complete front rest x l;
  fails = λ ts rest k e. let s = reads.fails ts rest k (is ts ∙ e) in record { front = s.front; parts = s.parts; ending = s.ending; value = s.value; spelled = s.spelled; local = λ other same. sym (is (s.front ++ other)) ∙ s.local other same };
  forget = reads.forget;
  some = reads.some;
  some_text = reads.some_text;
  some_is = reads.some_is;
}

pub after-Reads : {T F A : Type 0} (s : Reader T F (Unit {0})) (p : Reader T F A) (S : In T (Unit {0})) (L : In T A) (Z : Unit {0} → List T → Type 0) (H : A → List T → Type 0) → Reads s S Z → Reads p L H → Reads (after s p) (AfterIn S L) (λ x. Z tt ⨾ H x)
after-Reads {T = T} {A = A} s p S L Z H reads-s reads =
    let f : Unit {0} × A → A = λ v. v.1 in
    renamed (after s p) (MappedIn f (BothIn S L)) (AfterIn S L) (Mapped f (Both Z H)) (λ x. Z tt ⨾ H x)
    (same_reader (mapped f (both s p)) (after s p) (MappedIn f (BothIn S L)) (Mapped f (Both Z H)) (after_is s p)
    (mapped-Reads f (both s p) (BothIn S L) (Both Z H) (both-Reads s p S L Z H reads-s reads)))
    (λ x front n l. subst (λ (y : A). AfterIn S L y front n) l.is l.spelled)
    (λ x front n l. record { from = (tt, x); is = refl; spelled = l })
    (λ x front l. subst (λ (y : A). Joined (Z tt) (H y) front) l.is l.spelled)

pub before-Reads : {T F A : Type 0} (p : Reader T F A) (s : Reader T F (Unit {0})) (L : In T A) (S : In T (Unit {0})) (H : A → List T → Type 0) (Z : Unit {0} → List T → Type 0) → Reads p L H → Reads s S Z → Reads (before p s) (BeforeIn L S) (λ x. H x ⨾ Z tt)
before-Reads {T = T} {A = A} p s L S H Z reads reads-s =
    let f : A × Unit {0} → A = λ v. v.0 in
    renamed (before p s) (MappedIn f (BothIn L S)) (BeforeIn L S) (Mapped f (Both H Z)) (λ x. H x ⨾ Z tt)
    (same_reader (mapped f (both p s)) (before p s) (MappedIn f (BothIn L S)) (Mapped f (Both H Z)) (before_is p s)
    (mapped-Reads f (both p s) (BothIn L S) (Both H Z) (both-Reads p s L S H Z reads reads-s)))
    (λ x front n l. subst (λ (y : A). BeforeIn L S y front n) l.is l.spelled)
    (λ x front n l. record { from = (x, tt); is = refl; spelled = l })
    (λ x front l. subst (λ (y : A). Joined (H y) (Z tt) front) l.is l.spelled)

-- ---- the second reader only where the token behind the first passes the test

abbrev pub ThenMaybeIn : {T A B : Type 0} → Test T → In T A → (A → List T → Type 0) → In T B → A × Option B → List T → Option T → Type 0
ThenMaybeIn test L C M (x, None) front n = L x front n × (test n ≡ false)
ThenMaybeIn test L C M (x, Some y) front n = JoinedIn (λ a m. C x a) (M y) front n

abbrev pub ThenMaybe : {T A B : Type 0} → (A → List T → Type 0) → (A → List T → Type 0) → (B → List T → Type 0) → A × Option B → List T → Type 0
ThenMaybe H D K (x, None) front = H x front
ThenMaybe H D K (x, Some y) front = Joined (D x) (K y) front

module _ {T F A B : Type 0} (test : Test T) (p : Reader T F A) (q : Reader T F B) (L : A → List T → Option T → Type 0) (M : B → List T → Option T → Type 0) (H : A → List T → Type 0) (K : B → List T → Type 0)
    (C D : A → List T → Type 0) (reads-p : Reads p L H) (reads-q : Reads q M K)
    (shut : (x : A) (front : List T) (n : Option T) → L x front n → test n ≡ true → C x front)
    (opened : (x : A) (front : List T) (n : Option T) → C x front → L x front n)
    (whole : (x : A) (front : List T) → C x front → D x front)
    (begins-q : (y : B) (front : List T) (n : Option T) → M y front n → test (first_or front n) ≡ true) where
  second_absent : (ts middle : List T) (x : A) → p ts ≡ Ok (x, middle) → test (first middle) ≡ false → then_maybe test p q ts ≡ Ok ((x, None), middle)
  unfolding then_maybe optional
  second_absent ts middle x e t = rw (e, t) refl

  second_present : (ts middle rest : List T) (x : A) (y : B) → p ts ≡ Ok (x, middle) → test (first middle) ≡ true → q middle ≡ Ok (y, rest) → then_maybe test p q ts ≡ Ok ((x, Some y), rest)
  unfolding then_maybe optional
  second_present ts middle rest x y e t f = rw (e, t, f) refl

  second_stops : (ts middle : List T) (x : A) (d : F × List T) → p ts ≡ Ok (x, middle) → test (first middle) ≡ true → q middle ≡ Err d → then_maybe test p q ts ≡ Err d
  unfolding then_maybe optional
  second_stops ts middle x d e t f = rw (e, t, f) refl

  first_stops : (ts : List T) (d : F × List T) → p ts ≡ Err d → then_maybe test p q ts ≡ Err d
  unfolding then_maybe optional
  first_stops ts d e = rw e refl

  then_maybe_sound : (ts rest : List T) (z : A × Option B) → then_maybe test p q ts ≡ Ok (z, rest) → Found ts rest (ThenMaybeIn test L C M z)
  unfolding then_maybe optional
  then_maybe_sound ts rest z e =
      let s = bind_ok (p ts) (λ x. along (λ y. (x.0, y)) (optional test q x.1)) (z, rest) e in
      let t = along_ok (λ y. (s.0.0, y)) (optional test q s.0.1) z rest s.2 in
      let f = reads-p.sound ts s.0.1 s.0.0 s.1 in
      subst (λ (v : A × Option B). Found ts rest (ThenMaybeIn test L C M v)) t.2
      (elim (chosen (test (first s.0.1)) (along Some (q s.0.1)) (Ok (None, s.0.1)) (Ok (t.0, rest)) t.1) [
        | inl h ↦
            let u = along_ok Some (q s.0.1) t.0 rest h.1 in
            let g = reads-q.sound s.0.1 rest u.0 u.1 in
            subst (λ (o : Option B). Found ts rest (ThenMaybeIn test L C M (s.0.0, o))) u.2
            (record {
              front = f.front ++ g.front;
              parts = f.parts ∙ ap (λ (r : List T). f.front ++ r) g.parts ∙ sym (append_assoc f.front g.front rest);
              spelled = record { a = f.front; b = g.front; parts = refl; left = shut s.0.0 f.front (first s.0.1) f.spelled h.0; right = g.spelled };
            })
        | inr h ↦
            let u = ok_pair None t.0 s.0.1 rest h.1 in
            subst (λ (o : Option B). Found ts rest (ThenMaybeIn test L C M (s.0.0, o))) u.0
            (record {
              front = f.front;
              parts = f.parts ∙ ap (λ (r : List T). f.front ++ r) u.1;
              spelled = (subst (λ (r : List T). L s.0.0 f.front (first r)) u.1 f.spelled, ap (λ (r : List T). test (first r)) (sym u.1) ∙ h.0);
            })
      ])

  then_maybe_complete : (front rest : List T) (z : A × Option B) → ThenMaybeIn test L C M z front (first rest) → then_maybe test p q (front ++ rest) ≡ Ok (z, rest)
  then_maybe_complete front rest (x, None) l = second_absent (front ++ rest) rest x (reads-p.complete front rest x l.0) l.1
  then_maybe_complete front rest (x, Some y) l =
      let regrouped : front ++ rest ≡ l.a ++ (l.b ++ rest) = ap (λ (f : List T). f ++ rest) l.parts ∙ append_assoc l.a l.b rest in
      ap (then_maybe test p q) regrouped
      ∙ second_present (l.a ++ (l.b ++ rest)) (l.b ++ rest) rest x y
      (reads-p.complete l.a (l.b ++ rest) x (opened x l.a (first (l.b ++ rest)) l.left))
      (ap test (first-append l.b rest) ∙ begins-q y l.b (first rest) l.right)
      (reads-q.complete l.b rest y l.right)

  then_maybe_fails : (ts rest : List T) (k : F) → then_maybe test p q ts ≡ Err (k, rest) → Stopped (then_maybe test p q) (ThenMaybe H D K) k ts rest
  unfolding then_maybe optional
  then_maybe_fails ts rest k e =
      elim (bind_err (p ts) (λ x. along (λ y. (x.0, y)) (optional test q x.1)) (k, rest) e) [
        | inl h ↦
            let s = reads-p.fails ts rest k h in
            record { front = s.front; parts = s.parts; ending = s.ending; value = (s.value, None); spelled = s.spelled; local = λ other same. first_stops (s.front ++ other) (k, other) (s.local other same) }
        | inr s ↦
            elim (chosen (test (first s.0.1)) (along Some (q s.0.1)) (Ok (None, s.0.1)) (Err (k, rest)) (along_err (λ y. (s.0.0, y)) (optional test q s.0.1) (k, rest) s.2)) [
              | inl h ↦
                  let f = reads-p.sound ts s.0.1 s.0.0 s.1 in
                  let t = reads-q.fails s.0.1 rest k (along_err Some (q s.0.1) (k, rest) h.1) in
                  record {
                    front = f.front ++ t.front;
                    parts = f.parts ∙ ap (λ (r : List T). f.front ++ r) t.parts ∙ sym (append_assoc f.front t.front rest);
                    ending = t.ending;
                    value = (s.0.0, Some t.value);
                    spelled = record { a = f.front; b = t.front ++ t.ending; parts = append_assoc f.front t.front t.ending; left = whole s.0.0 f.front (shut s.0.0 f.front (first s.0.1) f.spelled h.0); right = t.spelled };
                    local = λ other same.
                        let both-same : first (t.front ++ other) ≡ first s.0.1 = same_first t.front other rest same ∙ ap first (sym t.parts) in
                        ap (then_maybe test p q) (append_assoc f.front t.front other)
                        ∙ second_stops (f.front ++ (t.front ++ other)) (t.front ++ other) s.0.0 (k, other)
                        (again p L H reads-p f.front s.0.1 (t.front ++ other) s.0.0 f.spelled both-same)
                        (ap test both-same ∙ h.0)
                        (t.local other same);
                  }
              | inr h ↦ absurd (ok_no_err _ _ h.1)
            ]
      ]

  then_maybe_forget : (front : List T) (n : Option T) (z : A × Option B) → ThenMaybeIn test L C M z front n → ThenMaybe H D K z front
  then_maybe_forget front n (x, None) l = reads-p.forget front n x l.0
  then_maybe_forget front n (x, Some y) l = record { a = l.a; b = l.b; parts = l.parts; left = whole x l.a l.left; right = reads-q.forget l.b n y l.right }

  pub then_maybe-Reads : Reads (then_maybe test p q) (ThenMaybeIn test L C M) (ThenMaybe H D K)
  then_maybe-Reads = record {
    sound = then_maybe_sound;
    complete = then_maybe_complete;
    fails = then_maybe_fails;
    forget = then_maybe_forget;
    some = (reads-p.some, None);
    some_text = reads-p.some_text;
    some_is = reads-p.some_is;
  }

-- ---- a value that is another one, and back

pub same-Reads : {T F A B : Type 0} (f : A → B) (g : B → A) (p : Reader T F A) (L : In T A) (H : A → List T → Type 0) → ((x : A) → x ≡ g (f x)) → ((y : B) → f (g y) ≡ y) → Reads p L H → Reads (mapped f p) (λ y. L (g y)) (λ y. H (g y))
same-Reads {T = T} {F = F} {A = A} {B = B} f g p L H back there reads =
    renamed (mapped f p) (MappedIn f L) (λ y. L (g y)) (Mapped f H) (λ y. H (g y)) (mapped-Reads f p L H reads)
    (λ y front n l. subst (λ (v : B). L (g v) front n) l.is (subst (λ (v : A). L v front n) (back l.from) l.spelled))
    (λ y front n l. record { from = g y; is = there y; spelled = l })
    (λ y front l. subst (λ (v : B). H (g v) front) l.is (subst (λ (v : A). H v front) (back l.from) l.spelled))

-- ---- stops at once

pub Stopped-here : {T F A : Type 0} (p : Reader T F A) (H : A → List T → Type 0) (k l : F) (ts rest : List T) (value : A) (text : List T) → H value text → k ≡ l → ts ≡ rest → ((other : List T) → first other ≡ first ts → p other ≡ Err (k, other)) → Stopped p H l ts rest
Stopped-here {F = F} p H k l ts rest value text is e f stops = record { front = []; parts = f; ending = text; value = value; spelled = is; local = λ other same. stops other (same ∙ ap first (sym f)) ∙ ap (λ (c : F). Err (c, other)) e }

-- ---- a loop that reads one after the other

with_front-cons : {T F A : Type 0} (front : List A) (x : A) (r : Answer T F (List A)) → with_front front (along (λ xs. x ∷ xs) r) ≡ with_front (front ++ x ∷ []) r
with_front-cons front x (Ok v) = ok_of _ _ v.1 v.1 (sym (append_assoc front (x ∷ []) v.0)) refl
with_front-cons front x (Err d) = refl

module _ {T F A : Type 0} (test : Test T) (p : Reader T F A) (goes : (ts : List T) (x : A × List T) → p ts ≡ Ok x → length x.1 < length ts) where
  pub loop_goes_on : (front : List A) (ts after : List T) (x : A) (total : Answer T F (List A)) → test (first ts) ≡ true → p ts ≡ Ok (x, after) → with_front front (many test p ts) ≡ total → with_front (front ++ x ∷ []) (many test p after) ≡ total
  loop_goes_on front ts after x total t e so_far =
      let here : many test p ts ≡ along (λ xs. x ∷ xs) (many test p after) = many_unrolled test p goes ts ∙ rw (t, e) refl in
      sym (with_front-cons front x (many test p after)) ∙ ap (with_front front) (sym here) ∙ so_far

  pub loop_stops : (front : List A) (ts : List T) (d : F × List T) (total : Answer T F (List A)) → test (first ts) ≡ true → p ts ≡ Err d → with_front front (many test p ts) ≡ total → total ≡ Err d
  loop_stops front ts d total t e so_far = sym so_far ∙ ap (with_front front) (many_stops test p goes ts d t e)

  pub loop_ends : (front : List A) (ts : List T) (total : Answer T F (List A)) → test (first ts) ≡ false → with_front front (many test p ts) ≡ total → total ≡ Ok (front, ts)
  loop_ends front ts total t so_far = sym so_far ∙ ap (with_front front) (many_ends test p goes ts t) ∙ ok_of _ _ ts ts (append-nil front) refl

  pub loop_begins : (ts : List T) → with_front [] (many test p ts) ≡ many test p ts
  loop_begins ts = along_same (many test p ts)

-- ---- the reader that the next token tells

abbrev pub SwitchIn : {T A K : Type 0} → (Option T → K) → (K → In T A) → In T A
SwitchIn key L x front n = L (key (first_or front n)) x front n

abbrev pub Switched : {T A K : Type 0} → (K → A → List T → Type 0) → A → List T → Type 0
Switched {K = K} H x front = (k : K) × H k x front

module _ {T F A K : Type 0} (key : Option T → K) (reader : K → Reader T F A) (L : K → A → List T → Option T → Type 0) (H : K → A → List T → Type 0) (reads : (k : K) → Reads (reader k) (L k) (H k)) (sample : K) where
  switch_sound : (ts rest : List T) (x : A) → switch key reader ts ≡ Ok (x, rest) → Found ts rest (SwitchIn key L x)
  unfolding switch
  switch_sound ts rest x e =
      let s = (reads (key (first ts))).sound ts rest x e in
      let next-is : first ts ≡ first_or s.front (first rest) = ap first s.parts ∙ first-append s.front rest in
      record { front = s.front; parts = s.parts; spelled = subst (λ (o : Option T). L (key o) x s.front (first rest)) next-is s.spelled }

  switch_complete : (front rest : List T) (x : A) → SwitchIn key L x front (first rest) → switch key reader (front ++ rest) ≡ Ok (x, rest)
  unfolding switch
  switch_complete front rest x l = ap (λ (o : Option T). reader (key o) (front ++ rest)) (first-append front rest) ∙ (reads (key (first_or front (first rest)))).complete front rest x l

  switch_fails : (ts rest : List T) (k : F) → switch key reader ts ≡ Err (k, rest) → Stopped (switch key reader) (Switched H) k ts rest
  unfolding switch
  switch_fails ts rest k e =
      let s = (reads (key (first ts))).fails ts rest k e in
      record {
        front = s.front;
        parts = s.parts;
        ending = s.ending;
        value = s.value;
        spelled = (key (first ts), s.spelled);
        local = λ other same. ap (λ (o : Option T). reader (key o) (s.front ++ other)) (same_first s.front other rest same ∙ ap first (sym s.parts)) ∙ s.local other same;
      }

  pub switch-Reads : Reads (switch key reader) (SwitchIn key L) (Switched H)
  switch-Reads = record {
    sound = switch_sound;
    complete = switch_complete;
    fails = switch_fails;
    forget = λ front n x l. (key (first_or front n), (reads (key (first_or front n))).forget front n x l);
    some = (reads sample).some;
    some_text = (reads sample).some_text;
    some_is = (sample, (reads sample).some_is);
  }

-- ---- with the place where it begins

abbrev pub PlacedIn : {T A P : Type 0} → (Option T → P) → In T A → In T (P × A)
PlacedIn place L z front n = L z.1 front n × (place (first_or front n) ≡ z.0)

abbrev pub Placed : {T A P : Type 0} → (Option T → P) → (A → List T → Type 0) → P × A → List T → Type 0
Placed place H z = IsPlaced place z.0 (H z.1)

pub first_or-long : {T : Type 0} (front : List T) (n : Option T) → 0 < length front → first_or front n ≡ first front
first_or-long [] n lt = absurd (omega arith)
first_or-long (t ∷ ts) n lt = refl

module _ {T F A P : Type 0} (place : Option T → P) (p : List T → Result (A × List T) (F × List T)) (L : A → List T → Option T → Type 0) (H : A → List T → Type 0) (reads : Reads p L H) (grows : (x : A) (front : List T) (n : Option T) → L x front n → 0 < length front) where
  placed_sound : (ts rest : List T) (z : P × A) → placed place p ts ≡ Ok (z, rest) → Found ts rest (PlacedIn place L z)
  unfolding placed
  placed_sound ts rest z e =
      let s = along_ok (λ x. (place (first ts), x)) (p ts) z rest e in
      let f = reads.sound ts rest s.0 s.1 in
      let next-is : first ts ≡ first_or f.front (first rest) = ap first f.parts ∙ first-append f.front rest in
      subst (λ (w : P × A). Found ts rest (PlacedIn place L w)) s.2 (record { front = f.front; parts = f.parts; spelled = (f.spelled, ap place (sym next-is)) })

  placed_complete : (front rest : List T) (z : P × A) → PlacedIn place L z front (first rest) → placed place p (front ++ rest) ≡ Ok (z, rest)
  unfolding placed
  placed_complete front rest z l =
      let same : place (first (front ++ rest)) ≡ z.0 = ap place (first-append front rest) ∙ l.1 in
      ap (along (λ x. (place (first (front ++ rest)), x))) (reads.complete front rest z.1 l.0) ∙ ok_of {F = F} (place (first (front ++ rest)), z.1) z rest rest (ap (λ (at : P). (at, z.1)) same) refl

  placed_fails : (ts rest : List T) (k : F) → placed place p ts ≡ Err (k, rest) → Stopped (placed place p) (Placed place H) k ts rest
  unfolding placed
  placed_fails ts rest k e =
      let s = reads.fails ts rest k (along_err (λ x. (place (first ts), x)) (p ts) (k, rest) e) in
      record {
        front = s.front;
        parts = s.parts;
        ending = s.ending;
        value = (place (first (s.front ++ s.ending)), s.value);
        spelled = (s.spelled, refl);
        local = λ other same. ap (along (λ x. (place (first (s.front ++ other)), x))) (s.local other same);
      }

  pub placed-Reads : Reads (placed place p) (PlacedIn place L) (Placed place H)
  placed-Reads = record {
    sound = placed_sound;
    complete = placed_complete;
    fails = placed_fails;
    forget = λ front n z l. (reads.forget front n z.1 l.0, ap place (sym (first_or-long front n (grows z.1 front n l.0))) ∙ l.1);
    some = (place (first reads.some_text), reads.some);
    some_text = reads.some_text;
    some_is = (reads.some_is, refl);
  }

-- ---- a reader that stops at once, for a language with a text

pub refuse-Reads : {T F A : Type 0} (k : F) (H : A → List T → Type 0) (value : A) (text : List T) → H value text → Reads (refuse k) (λ x front n. ⊥) H
refuse-Reads {T = T} {F = F} {A = A} k H value text is = record {
  sound = λ ts rest x e. absurd (no_ok _ _ e);
  complete = λ front rest x l. absurd l;
  fails = λ ts rest l e. let s = err_pair {A = A} k l ts rest e in Stopped-here {A = A} (refuse k) H k l ts rest value text is s.0 s.1 (λ other same. refl);
  forget = λ front n x l. absurd l;
  some = value;
  some_text = text;
  some_is = is;
}

-- ---- what the laws say together

-- a list stands for one value at most
pub one_value : {T F A : Type 0} (p : Reader T F A) (L : In T A) (H : A → List T → Type 0) → Reads p L H → (x y : A) (front : List T) → L x front None → L y front None → x ≡ y
one_value {F = F} p L H reads x y front l m = (ok_pair {F = F} x y [] [] (sym (reads.complete front [] x l) ∙ reads.complete front [] y m)).0

-- a reader stops at the first token at which its list is no front of a text
pub first_fault : {T F A : Type 0} (p : Reader T F A) (L : In T A) (H : A → List T → Type 0) → Reads p L H → (ts rest : List T) (k : F) → p ts ≡ Err (k, rest) → IsFirst L H k ts rest
first_fault p L H reads ts rest k e =
    let s = reads.fails ts rest k e in
    record {
      front = s.front;
      parts = s.parts;
      before = (s.ending, s.value, s.spelled);
      at_token = λ t more other left x r l.
          ok_no_err (x, left) (k, t ∷ (other ++ left))
          (sym (reads.complete (s.front ++ t ∷ other) left x l) ∙ ap p (append_assoc s.front (t ∷ other) left) ∙ s.local (t ∷ (other ++ left)) (sym (ap first r)));
    }
