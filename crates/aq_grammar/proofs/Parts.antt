-- All that is known of a reader of what doesn't nest, in one record, and how it follows the combinators.
use Rattle.std.proofs.Common.{◌≡◌, ◌<◌, List, [], ◌∷◌, length, Result, Ok, Err, Bool, true, false, refl, sym, ap, subst, ◌∙◌, arith, length-append, Option, Some, None, inl, inr}
use Rattle.std.specs.Prelude.{◌||◌}
use Rattle.aq_grammar.specs.Words.{first_or, Joined, ◌⨾◌, IsOptional, IsMany, IsSeparated, IsOne, IsToken, IsSeen}
use Rattle.aq_grammar.specs.Readers.{Reader, see_at, or_fault, token_at, one_at, both, mapped, after, before, Test, choice, optional, many, front_and_more, separated, placed, switch}
use Rattle.aq_grammar.specs.Laws.{Reads, BothIn, Both, OptionalIn, ManyIn}
use Rattle.aq_grammar.proofs.Reading.{first_or-append, first_or-long, both-Reads, MappedIn, Mapped, mapped-Reads, renamed, optional-Reads, ChoiceIn, Either, choice-Reads, many-Reads, goes_of, SeenIn, seen-Reads, TokenIn, token-Reads, OneIn, one-Reads, passed, AfterIn, BeforeIn, after-Reads, before-Reads, PlacedIn, Placed, placed-Reads, same-Reads, SwitchIn, Switched, switch-Reads}
use Rattle.aq_grammar.proofs.Stops.{Never, seen_never, both_never, mapped_never, choice_never, optional_never, many_never, after_never, before_never, placed_never, switch_never}
use Rattle.aq_grammar.proofs.Ends.{Keeps, seen_keeps, both_keeps, mapped_keeps, choice_keeps, optional_keeps, many_keeps, after_keeps, before_keeps, placed_keeps, switch_keeps}

-- p reads G, where no token comes next with which it would go on. It never stops with a fault of these kinds, and it
-- takes no token that ends a list.
pub record Part {T F A : Type 0} (never : F → Type 0) (last : T → Bool) (p : List T → Result (A × List T) (F × List T)) (G : A → List T → Type 0) (go : Option T → Bool) : Type 1 where
  pub context : A → List T → Option T → Type 0
  pub reads : Reads p context G
  pub enough : (x : A) (front : List T) (n : Option T) → G x front → go n ≡ false → context x front n
  pub calm : (k : F) → never k → Never k p
  pub keeps : Keeps last p

-- no token
abbrev pub nothing : {T : Type 0} → Option T → Bool
nothing n = false

-- one token or another
abbrev pub either : {T : Type 0} → (Option T → Bool) → (Option T → Bool) → Option T → Bool
either go more n = go n || more n

pub not_left : (a b : Bool) → a || b ≡ false → a ≡ false
not_left true b e = e
not_left false b e = refl

pub not_right : (a b : Bool) → a || b ≡ false → b ≡ false
not_right true b e = absurd cc
not_right false b e = e

-- ---- one token

pub seen_part : {T F A : Type 0} {never : F → Type 0} {last : T → Bool} (none : F) (view : T → Result A F) (like : T) (y : A) → view like ≡ Ok y → (never none → ⊥) → ((t : T) (k : F) → never k → view t ≡ Err k → ⊥) → ((t : T) (x : A) → view t ≡ Ok x → last t ≡ false) → Part never last (see_at none view) (IsSeen view) nothing
seen_part {never = never} {last = last} none view like y is other apart ends = record {
  context = SeenIn view;
  reads = seen-Reads none view like y is;
  enough = λ x front n l e. l;
  calm = λ k h. seen_never k none view (λ e. other (subst never (sym e) h)) (λ t e. apart t k h e);
  keeps = seen_keeps last none view ends;
}

or_fault_err : {F A : Type 0} (k l : F) (o : Option A) → or_fault k o ≡ Err l → k ≡ l
or_fault_err k l (Some x) e = absurd cc
or_fault_err k l None e = cc

or_fault_ok : {F A : Type 0} (k : F) (o : Option A) (x : A) → or_fault k o ≡ Ok x → o ≡ Some x
or_fault_ok k (Some y) x e = cc
or_fault_ok k None x e = absurd cc

pub token_part : {T F A : Type 0} {never : F → Type 0} {last : T → Bool} (none : F) (view : T → Option A) (like : T) (y : A) → view like ≡ Some y → (never none → ⊥) → ((t : T) (x : A) → view t ≡ Some x → last t ≡ false) → Part never last (token_at none view) (IsToken view) nothing
token_part {never = never} {last = last} none view like y is other ends = record {
  context = TokenIn view;
  reads = token-Reads none view like y is;
  enough = λ x front n l e. l;
  calm = λ k h. seen_never k none (λ t. or_fault none (view t)) (λ e. other (subst never (sym e) h)) (λ t e. other (subst never (sym (or_fault_err none k (view t) e)) h));
  keeps = seen_keeps last none (λ t. or_fault none (view t)) (λ t x e. ends t x (or_fault_ok none (view t) x e));
}

passed_err : {F : Type 0} (k l : F) (b : Bool) → passed k b ≡ Err l → k ≡ l
passed_err k l true e = absurd cc
passed_err k l false e = cc

passed_ok : {F : Type 0} (k : F) (b : Bool) (x : Unit {0}) → passed k b ≡ Ok x → b ≡ true
passed_ok k true x e = refl
passed_ok k false x e = absurd cc

pub one_part : {T F : Type 0} {never : F → Type 0} {last : T → Bool} (none : F) (test : T → Bool) (like : T) → test like ≡ true → (never none → ⊥) → ((t : T) → test t ≡ true → last t ≡ false) → Part never last (one_at none test) (λ _. IsOne test) nothing
one_part {never = never} {last = last} none test like is other ends = record {
  context = OneIn test;
  reads = one-Reads none test like is;
  enough = λ x front n l e. l;
  calm = λ k h. seen_never k none (λ t. passed none (test t)) (λ e. other (subst never (sym e) h)) (λ t e. other (subst never (sym (passed_err none k (test t) e)) h));
  keeps = seen_keeps last none (λ t. passed none (test t)) (λ t x e. ends t (passed_ok none (test t) x e));
}

-- ---- in other words

pub renamed_part : {T F A : Type 0} {never : F → Type 0} {last : T → Bool} {p : Reader T F A} {G K : A → List T → Type 0} {go : Option T → Bool} → Part never last p G go → ((x : A) (front : List T) → G x front → K x front) → ((x : A) (front : List T) → K x front → G x front) → Part never last p K go
renamed_part {p = p} {G = G} {K = K} part to from = record {
  context = part.context;
  reads = renamed p part.context part.context G K part.reads (λ x front n l. l) (λ x front n l. l) to;
  enough = λ x front n l e. part.enough x front n (from x front l) e;
  calm = part.calm;
  keeps = part.keeps;
}

-- fewer faults are told of
pub weaker : {T F A : Type 0} {never less : F → Type 0} {last : T → Bool} {p : Reader T F A} {G : A → List T → Type 0} {go : Option T → Bool} → Part never last p G go → ((k : F) → less k → never k) → Part less last p G go
weaker part h = record { context = part.context; reads = part.reads; enough = part.enough; calm = λ k l. part.calm k (h k l); keeps = part.keeps }

-- more tokens are told of with which it might go on
pub stricter : {T F A : Type 0} {never : F → Type 0} {last : T → Bool} {p : Reader T F A} {G : A → List T → Type 0} {go : Option T → Bool} (more : Option T → Bool) → Part never last p G go → ((n : Option T) → more n ≡ false → go n ≡ false) → Part never last p G more
stricter more part h = record { context = part.context; reads = part.reads; enough = λ x front n l e. part.enough x front n l (h n e); calm = part.calm; keeps = part.keeps }

pub mapped_part : {T F A B : Type 0} {never : F → Type 0} {last : T → Bool} {p : Reader T F A} {G : A → List T → Type 0} {go : Option T → Bool} (f : A → B) → Part never last p G go → Part never last (mapped f p) (Mapped f G) go
mapped_part {last = last} {p = p} {G = G} f part = record {
  context = MappedIn f part.context;
  reads = mapped-Reads f p part.context G part.reads;
  enough = λ x front n l e. record { from = l.from; is = l.is; spelled = part.enough l.from front n l.spelled e };
  calm = λ k h. mapped_never k f p (part.calm k h);
  keeps = mapped_keeps last f p part.keeps;
}

-- f and g are inverse to each other
pub same_part : {T F A B : Type 0} {never : F → Type 0} {last : T → Bool} {p : Reader T F A} {G : A → List T → Type 0} {go : Option T → Bool} (f : A → B) (g : B → A) → ((x : A) → x ≡ g (f x)) → ((y : B) → f (g y) ≡ y) → Part never last p G go → Part never last (mapped f p) (λ y. G (g y)) go
same_part {last = last} {p = p} {G = G} f g back there part = record {
  context = λ y. part.context (g y);
  reads = same-Reads f g p part.context G back there part.reads;
  enough = λ y front n l e. part.enough (g y) front n l e;
  calm = λ k h. mapped_never k f p (part.calm k h);
  keeps = mapped_keeps last f p part.keeps;
}

-- ---- one after the other

pub both_part : {T F A B : Type 0} {never : F → Type 0} {last : T → Bool} {p : Reader T F A} {q : Reader T F B} {G : A → List T → Type 0} {K : B → List T → Type 0} {go more : Option T → Bool} → Part never last p G go → Part never last q K more → ((y : B) (front : List T) (n : Option T) → K y front → more n ≡ false → go (first_or front n) ≡ false) → Part never last (both p q) (Both G K) more
both_part {last = last} {p = p} {q = q} {G = G} {K = K} one two fits = record {
  context = BothIn one.context two.context;
  reads = both-Reads p q one.context two.context G K one.reads two.reads;
  enough = λ z front n l e. record { a = l.a; b = l.b; parts = l.parts; left = one.enough z.0 l.a (first_or l.b n) l.left (fits z.1 l.b n l.right e); right = two.enough z.1 l.b n l.right e };
  calm = λ k h. both_never k p q (one.calm k h) (two.calm k h);
  keeps = both_keeps last p q one.keeps two.keeps;
}

pub after_part : {T F A : Type 0} {never : F → Type 0} {last : T → Bool} {s : Reader T F (Unit {0})} {p : Reader T F A} {Z : Unit {0} → List T → Type 0} {G : A → List T → Type 0} {go : Option T → Bool} → Part never last s Z nothing → Part never last p G go → Part never last (after s p) (λ x. Z tt ⨾ G x) go
after_part {last = last} {s = s} {p = p} {Z = Z} {G = G} one two = record {
  context = AfterIn one.context two.context;
  reads = after-Reads s p one.context two.context Z G one.reads two.reads;
  enough = λ x front n l e. record { a = l.a; b = l.b; parts = l.parts; left = one.enough tt l.a (first_or l.b n) l.left refl; right = two.enough x l.b n l.right e };
  calm = λ k h. after_never k s p (one.calm k h) (two.calm k h);
  keeps = after_keeps last s p one.keeps two.keeps;
}

pub before_part : {T F A : Type 0} {never : F → Type 0} {last : T → Bool} {p : Reader T F A} {s : Reader T F (Unit {0})} {G : A → List T → Type 0} {Z : Unit {0} → List T → Type 0} {go more : Option T → Bool} → Part never last p G go → Part never last s Z more → ((front : List T) (n : Option T) → Z tt front → go (first_or front n) ≡ false) → Part never last (before p s) (λ x. G x ⨾ Z tt) more
before_part {last = last} {p = p} {s = s} {G = G} {Z = Z} one two fits = record {
  context = BeforeIn one.context two.context;
  reads = before-Reads p s one.context two.context G Z one.reads two.reads;
  enough = λ x front n l e. record { a = l.a; b = l.b; parts = l.parts; left = one.enough x l.a (first_or l.b n) l.left (fits l.b n l.right); right = two.enough tt l.b n l.right e };
  calm = λ k h. before_never k p s (one.calm k h) (two.calm k h);
  keeps = before_keeps last p s one.keeps two.keeps;
}

-- ---- where a text begins

-- a text in parts is longer than its first part
pub longer : {T : Type 0} {P Q : List T → Type 0} (front : List T) (l : Joined P Q front) → 0 < length l.a → 0 < length front
longer front l lt = omega (arith, ap length l.parts, length-append l.a l.b)

pub one_long : {T : Type 0} (test : T → Bool) (front : List T) → IsOne test front → 0 < length front
one_long test front l = omega (arith, ap length l.1)

pub token_long : {T A : Type 0} (view : T → Option A) (x : A) (front : List T) → IsToken view x front → 0 < length front
token_long view x front l = omega (arith, ap length l.1)

-- the next token is that of the first part
pub next_of : {T : Type 0} {P Q : List T → Type 0} (front : List T) (n : Option T) (l : Joined P Q front) → first_or front n ≡ first_or l.a (first_or l.b n)
next_of {T = T} front n l = ap (λ (f : List T). first_or f n) l.parts ∙ first_or-append l.a l.b n

-- ---- by the next token

pub optional_part : {T F A : Type 0} {never : F → Type 0} {last : T → Bool} {p : Reader T F A} {G : A → List T → Type 0} {go : Option T → Bool} (test : Test T) → Part never last p G go → ((x : A) (front : List T) (n : Option T) → G x front → test (first_or front n) ≡ true) → Part never last (optional test p) (IsOptional G) (either test go)
optional_part {last = last} {p = p} {G = G} {go = go} test part begins = record {
  context = OptionalIn test part.context;
  reads = optional-Reads test p part.context G part.reads (λ x front n l. begins x front n (part.reads.forget front n x l));
  enough = λ o front n l e. optional_enough G part.context test go part.enough o front n l e;
  calm = λ k h. optional_never k test p (part.calm k h);
  keeps = optional_keeps last test p part.keeps;
} where
  optional_enough : {T A : Type 0} (G : A → List T → Type 0) (L : A → List T → Option T → Type 0) (test go : Option T → Bool) → ((x : A) (front : List T) (n : Option T) → G x front → go n ≡ false → L x front n) → (o : Option A) (front : List T) (n : Option T) → IsOptional G o front → test n || go n ≡ false → OptionalIn test L o front n
  optional_enough G L test go enough None front n l e = (l, not_left (test n) (go n) e)
  optional_enough G L test go enough (Some x) front n l e = enough x front n l (not_right (test n) (go n) e)

optional_next : {T A : Type 0} {K : A → List T → Type 0} (good : Option T → Bool) → ((x : A) (front : List T) (n : Option T) → K x front → good (first_or front n) ≡ false) → (o : Option A) (front : List T) (n : Option T) → IsOptional K o front → good n ≡ false → good (first_or front n) ≡ false
optional_next {T = T} good h None front n l e = ap (λ (f : List T). good (first_or f n)) l ∙ e
optional_next good h (Some x) front n l e = h x front n l

-- something, and perhaps something behind it
pub then_optional_part : {T F A B : Type 0} {never : F → Type 0} {last : T → Bool} {p : Reader T F A} {q : Reader T F B} {G : A → List T → Type 0} {K : B → List T → Type 0} {go more : Option T → Bool} (test : Test T) → Part never last p G go → Part never last q K more → ((y : B) (front : List T) (n : Option T) → K y front → test (first_or front n) ≡ true) → ((y : B) (front : List T) (n : Option T) → K y front → go (first_or front n) ≡ false) → Part never last (both p (optional test q)) (Both G (IsOptional K)) (either (either test more) go)
then_optional_part {go = go} {more = more} test one two begins apart =
    both_part one (stricter (either (either test more) go) (optional_part test two begins) (λ n e. not_left (test n || more n) (go n) e))
    (λ o front n l e. optional_next go apart o front n l (not_right (test n || more n) (go n) e))

pub switch_part : {T F A K : Type 0} {never : F → Type 0} {last : T → Bool} {go : Option T → Bool} (key : Option T → K) (reader : K → Reader T F A) (G : K → A → List T → Type 0) → ((k : K) → Part never last (reader k) (G k) go) → ((k : K) (x : A) (front : List T) (n : Option T) → G k x front → key (first_or front n) ≡ k) → K → Part never last (switch key reader) (Switched G) go
switch_part {last = last} key reader G parts begins sample = record {
  context = SwitchIn key (λ k. (parts k).context);
  reads = switch-Reads key reader (λ k. (parts k).context) G (λ k. (parts k).reads) sample;
  enough = λ x front n l e. subst (λ k. (parts k).context x front n) (sym (begins l.0 x front n l.1)) ((parts l.0).enough x front n l.1 e);
  calm = λ f h. switch_never f key reader (λ k. (parts k).calm f h);
  keeps = switch_keeps last key reader (λ k. (parts k).keeps);
}

pub choice_part : {T F A : Type 0} {never : F → Type 0} {last : T → Bool} {p q : Reader T F A} {G K : A → List T → Type 0} {go : Option T → Bool} (test : Test T) → Part never last p G go → Part never last q K go → ((x : A) (front : List T) (n : Option T) → G x front → test (first_or front n) ≡ true) → ((x : A) (front : List T) (n : Option T) → K x front → test (first_or front n) ≡ false) → Part never last (choice test p q) (Either G K) go
choice_part {last = last} {p = p} {q = q} {G = G} {K = K} test one two yes_begins no_begins = record {
  context = ChoiceIn test one.context two.context;
  reads = choice-Reads test p q one.context two.context G K one.reads two.reads;
  enough = λ x front n l e. elim l [ inl h ↦ inl (yes_begins x front n h, one.enough x front n h e) | inr h ↦ inr (no_begins x front n h, two.enough x front n h e) ];
  calm = λ k h. choice_never k test p q (one.calm k h) (two.calm k h);
  keeps = choice_keeps last test p q one.keeps two.keeps;
}

-- behind some items the next token is that of an item, or the one behind them all
pub many_next : {T A : Type 0} {G : A → List T → Type 0} (good : Option T → Bool) (value : Bool) → ((x : A) (front : List T) (n : Option T) → G x front → good (first_or front n) ≡ value) → (xs : List A) (front : List T) (n : Option T) → IsMany G xs front → good n ≡ value → good (first_or front n) ≡ value
many_next {T = T} good value again [] front n l e = ap (λ (f : List T). good (first_or f n)) l ∙ e
many_next {T = T} good value again (x ∷ xs) front n l e = ap good (ap (λ (f : List T). first_or f n) l.parts ∙ first_or-append l.a l.b n) ∙ again x l.a (first_or l.b n) l.left

many_enough : {T A : Type 0} (G : A → List T → Type 0) (L : A → List T → Option T → Type 0) (test go : Option T → Bool) → ((x : A) (front : List T) (n : Option T) → G x front → go n ≡ false → L x front n) → ((x : A) (front : List T) (n : Option T) → G x front → go (first_or front n) ≡ false) → (xs : List A) (front : List T) (n : Option T) → IsMany G xs front → test n || go n ≡ false → ManyIn test L xs front n
many_enough G L test go enough again [] front n l e = (l, not_left (test n) (go n) e)
many_enough G L test go enough again (x ∷ xs) front n l e = record {
  a = l.a;
  b = l.b;
  parts = l.parts;
  left = enough x l.a (first_or l.b n) l.left (many_next go false again xs l.b n l.right (not_right (test n) (go n) e));
  right = many_enough G L test go enough again xs l.b n l.right e;
}

module _ {T F A : Type 0} {never : F → Type 0} {last : T → Bool} {p : List T → Result (A × List T) (F × List T)} {G : A → List T → Type 0} {go : Option T → Bool} (test : Option T → Bool) (part : Part never last p G go) (begins : (x : A) (front : List T) (n : Option T) → G x front → test (first_or front n) ≡ true) (grows : (x : A) (front : List T) → G x front → 0 < length front) where
  pub part_goes : (ts : List T) (x : A × List T) → p ts ≡ Ok x → length x.1 < length ts
  part_goes = goes_of test p part.context G part.reads (λ x front n l. begins x front n (part.reads.forget front n x l)) (λ x front n l. grows x front (part.reads.forget front n x l))

  pub many_part : ((x : A) (front : List T) (n : Option T) → G x front → go (first_or front n) ≡ false) → Part never last (many test p) (IsMany G) (either test go)
  many_part again = record {
    context = ManyIn test part.context;
    reads = many-Reads test p part.context G part.reads (λ x front n l. begins x front n (part.reads.forget front n x l)) (λ x front n l. grows x front (part.reads.forget front n x l));
    enough = many_enough G part.context test go part.enough again;
    calm = λ k h. many_never k test p (part.calm k h);
    keeps = many_keeps last test p part.keeps;
  }

module _ {T F A : Type 0} {never : F → Type 0} {last : T → Bool} {s : List T → Result (Unit {0} × List T) (F × List T)} {p : List T → Result (A × List T) (F × List T)} {Z : Unit {0} → List T → Type 0} {G : A → List T → Type 0} {go : Option T → Bool} (test : Option T → Bool) (between : Part never last s Z nothing) (part : Part never last p G go) (begins : (front : List T) (n : Option T) → Z tt front → test (first_or front n) ≡ true) (calm_before : (front : List T) (n : Option T) → Z tt front → go (first_or front n) ≡ false) (long : (front : List T) → Z tt front → 0 < length front) where
  one_more_part : Part never last (after s p) (λ x. Z tt ⨾ G x) go
  one_more_part = after_part between part

  one_more_begins : (x : A) (front : List T) (n : Option T) → Joined (Z tt) (G x) front → test (first_or front n) ≡ true
  one_more_begins x front n l = ap test (next_of front n l) ∙ begins l.a (first_or l.b n) l.left

  one_more_long : (x : A) (front : List T) → Joined (Z tt) (G x) front → 0 < length front
  one_more_long x front l = longer front l (long l.a l.left)

  one_more_calm : (x : A) (front : List T) (n : Option T) → Joined (Z tt) (G x) front → go (first_or front n) ≡ false
  one_more_calm x front n l = ap go (next_of front n l) ∙ calm_before l.a (first_or l.b n) l.left

  more_part : Part never last (many test (after s p)) (IsMany (λ x. Z tt ⨾ G x)) (either test go)
  more_part = many_part test one_more_part one_more_begins one_more_long one_more_calm

  pub one_more_goes : (ts : List T) (x : A × List T) → after s p ts ≡ Ok x → length x.1 < length ts
  one_more_goes = part_goes test one_more_part one_more_begins one_more_long

  separated_to : (xs : List A) (front : List T) → Mapped front_and_more (Both G (IsMany (λ x. Z tt ⨾ G x))) xs front → IsSeparated (Z tt) G xs front
  separated_to xs front l = subst (λ (v : List A). IsSeparated (Z tt) G v front) l.is l.spelled

  separated_from : (xs : List A) (front : List T) → IsSeparated (Z tt) G xs front → Mapped front_and_more (Both G (IsMany (λ x. Z tt ⨾ G x))) xs front
  separated_from [] front l = absurd l
  separated_from (x ∷ xs) front l = record { from = (x, xs); is = refl; spelled = l }

  pub separated_part : Part never last (separated test s p) (IsSeparated (Z tt) G) (either test go)
  unfolding separated
  separated_part = renamed_part (mapped_part front_and_more (both_part part more_part (λ xs front n l e. many_next go false one_more_calm xs front n l (not_right (test n) (go n) e)))) separated_to separated_from

pub placed_part : {T F A P : Type 0} {never : F → Type 0} {last : T → Bool} {p : Reader T F A} {G : A → List T → Type 0} {go : Option T → Bool} (place : Option T → P) → Part never last p G go → ((x : A) (front : List T) → G x front → 0 < length front) → Part never last (placed place p) (Placed place G) go
placed_part {last = last} {p = p} {G = G} place part grows = record {
  context = PlacedIn place part.context;
  reads = placed-Reads place p part.context G part.reads (λ x front n l. grows x front (part.reads.forget front n x l));
  enough = λ z front n l e. (part.enough z.1 front n l.0 e, ap place (first_or-long front n (grows z.1 front l.0)) ∙ l.1);
  calm = λ k h. placed_never k place p (part.calm k h);
  keeps = placed_keeps last place p part.keeps;
}
