-- What is known of a reader of what nests, in one record, and how it follows the combinators.
--
-- G is the rule where it nests at most so deep, and H the same rule, where it may nest one deeper: where the reader stops
-- for depth, what it took can be completed only by H.
use Rattle.std.proofs.Common.{◌≡◌, ◌<◌, List, [], ◌∷◌, length, Result, Ok, Bool, true, false, refl, sym, ap, subst, ◌∙◌, Option, inl, inr}
use Rattle.std.specs.Prelude.{◌||◌}
use Rattle.aq_grammar.specs.Words.{first_or, Joined, ◌⨾◌, IsMany, IsSeparated}
use Rattle.aq_grammar.specs.Readers.{Reader, both, mapped, after, before, Test, choice, many, front_and_more, separated, placed, switch}
use Rattle.aq_grammar.specs.Laws.{Reads, BothIn, Both, ManyIn}
use Rattle.aq_grammar.proofs.Reading.{first_or-long, both-Reads, MappedIn, Mapped, mapped-Reads, renamed, many-Reads, goes_of, AfterIn, BeforeIn, after-Reads, before-Reads, PlacedIn, Placed, placed-Reads, same-Reads, SwitchIn, Switched, switch-Reads, ChoiceIn, Either, choice-Reads}
use Rattle.aq_grammar.proofs.Ends.{Keeps, both_keeps, mapped_keeps, many_keeps, after_keeps, before_keeps, placed_keeps, switch_keeps, choice_keeps}
use Rattle.aq_grammar.proofs.Parts.{Part, nothing, either, not_left, not_right, many_next, next_of, longer}

pub record Layer {T F A : Type 0} (last : T → Bool) (p : List T → Result (A × List T) (F × List T)) (G H : A → List T → Type 0) (go : Option T → Bool) : Type 1 where
  pub context : A → List T → Option T → Type 0
  pub reads : Reads p context H
  pub enough : (x : A) (front : List T) (n : Option T) → G x front → go n ≡ false → context x front n
  pub tight : (x : A) (front : List T) (n : Option T) → context x front n → G x front
  pub keeps : Keeps last p

-- what doesn't nest
pub flat : {T F A : Type 0} {never : F → Type 0} {last : T → Bool} {p : Reader T F A} {G : A → List T → Type 0} {go : Option T → Bool} → Part never last p G go → Layer last p G G go
flat part = record { context = part.context; reads = part.reads; enough = part.enough; tight = λ x front n l. part.reads.forget front n x l; keeps = part.keeps }

pub renamed_layer : {T F A : Type 0} {last : T → Bool} {p : Reader T F A} {G H K L : A → List T → Type 0} {go : Option T → Bool} → Layer last p G H go → ((x : A) (front : List T) → G x front → K x front) → ((x : A) (front : List T) → K x front → G x front) → ((x : A) (front : List T) → H x front → L x front) → Layer last p K L go
renamed_layer {p = p} {H = H} {L = L} layer to from whole = record {
  context = layer.context;
  reads = renamed p layer.context layer.context H L layer.reads (λ x front n l. l) (λ x front n l. l) whole;
  enough = λ x front n l e. layer.enough x front n (from x front l) e;
  tight = λ x front n l. to x front (layer.tight x front n l);
  keeps = layer.keeps;
}

-- more tokens are told of with which it might go on
pub stricter_layer : {T F A : Type 0} {last : T → Bool} {p : Reader T F A} {G H : A → List T → Type 0} {go : Option T → Bool} (more : Option T → Bool) → Layer last p G H go → ((n : Option T) → more n ≡ false → go n ≡ false) → Layer last p G H more
stricter_layer more layer h = record { context = layer.context; reads = layer.reads; enough = λ x front n l e. layer.enough x front n l (h n e); tight = layer.tight; keeps = layer.keeps }

pub mapped_layer : {T F A B : Type 0} {last : T → Bool} {p : Reader T F A} {G H : A → List T → Type 0} {go : Option T → Bool} (f : A → B) → Layer last p G H go → Layer last (mapped f p) (Mapped f G) (Mapped f H) go
mapped_layer {last = last} {p = p} {H = H} f layer = record {
  context = MappedIn f layer.context;
  reads = mapped-Reads f p layer.context H layer.reads;
  enough = λ x front n l e. record { from = l.from; is = l.is; spelled = layer.enough l.from front n l.spelled e };
  tight = λ x front n l. record { from = l.from; is = l.is; spelled = layer.tight l.from front n l.spelled };
  keeps = mapped_keeps last f p layer.keeps;
}

-- f and g are inverse to each other
pub same_layer : {T F A B : Type 0} {last : T → Bool} {p : Reader T F A} {G H : A → List T → Type 0} {go : Option T → Bool} (f : A → B) (g : B → A) → ((x : A) → x ≡ g (f x)) → ((y : B) → f (g y) ≡ y) → Layer last p G H go → Layer last (mapped f p) (λ y. G (g y)) (λ y. H (g y)) go
same_layer {last = last} {p = p} {H = H} f g back there layer = record {
  context = λ y. layer.context (g y);
  reads = same-Reads f g p layer.context H back there layer.reads;
  enough = λ y front n l e. layer.enough (g y) front n l e;
  tight = λ y front n l. layer.tight (g y) front n l;
  keeps = mapped_keeps last f p layer.keeps;
}

pub both_layer : {T F A B : Type 0} {last : T → Bool} {p : Reader T F A} {q : Reader T F B} {G H : A → List T → Type 0} {K L : B → List T → Type 0} {go more : Option T → Bool} → Layer last p G H go → Layer last q K L more → ((y : B) (front : List T) (n : Option T) → K y front → more n ≡ false → go (first_or front n) ≡ false) → Layer last (both p q) (Both G K) (Both H L) more
both_layer {last = last} {p = p} {q = q} {H = H} {L = L} one two fits = record {
  context = BothIn one.context two.context;
  reads = both-Reads p q one.context two.context H L one.reads two.reads;
  enough = λ z front n l e. record { a = l.a; b = l.b; parts = l.parts; left = one.enough z.0 l.a (first_or l.b n) l.left (fits z.1 l.b n l.right e); right = two.enough z.1 l.b n l.right e };
  tight = λ z front n l. record { a = l.a; b = l.b; parts = l.parts; left = one.tight z.0 l.a (first_or l.b n) l.left; right = two.tight z.1 l.b n l.right };
  keeps = both_keeps last p q one.keeps two.keeps;
}

pub after_layer : {T F A : Type 0} {last : T → Bool} {s : Reader T F (Unit {0})} {p : Reader T F A} {Y Z : Unit {0} → List T → Type 0} {G H : A → List T → Type 0} {go more : Option T → Bool} → Layer last s Y Z go → Layer last p G H more → ((y : A) (front : List T) (n : Option T) → G y front → more n ≡ false → go (first_or front n) ≡ false) → Layer last (after s p) (λ x. Y tt ⨾ G x) (λ x. Z tt ⨾ H x) more
after_layer {last = last} {s = s} {p = p} {Z = Z} {H = H} one two fits = record {
  context = AfterIn one.context two.context;
  reads = after-Reads s p one.context two.context Z H one.reads two.reads;
  enough = λ x front n l e. record { a = l.a; b = l.b; parts = l.parts; left = one.enough tt l.a (first_or l.b n) l.left (fits x l.b n l.right e); right = two.enough x l.b n l.right e };
  tight = λ x front n l. record { a = l.a; b = l.b; parts = l.parts; left = one.tight tt l.a (first_or l.b n) l.left; right = two.tight x l.b n l.right };
  keeps = after_keeps last s p one.keeps two.keeps;
}

pub before_layer : {T F A : Type 0} {last : T → Bool} {p : Reader T F A} {s : Reader T F (Unit {0})} {G H : A → List T → Type 0} {Y Z : Unit {0} → List T → Type 0} {go more : Option T → Bool} → Layer last p G H go → Layer last s Y Z more → ((front : List T) (n : Option T) → Y tt front → go (first_or front n) ≡ false) → Layer last (before p s) (λ x. G x ⨾ Y tt) (λ x. H x ⨾ Z tt) more
before_layer {last = last} {p = p} {s = s} {H = H} {Z = Z} one two fits = record {
  context = BeforeIn one.context two.context;
  reads = before-Reads p s one.context two.context H Z one.reads two.reads;
  enough = λ x front n l e. record { a = l.a; b = l.b; parts = l.parts; left = one.enough x l.a (first_or l.b n) l.left (fits l.b n l.right); right = two.enough tt l.b n l.right e };
  tight = λ x front n l. record { a = l.a; b = l.b; parts = l.parts; left = one.tight x l.a (first_or l.b n) l.left; right = two.tight tt l.b n l.right };
  keeps = before_keeps last p s one.keeps two.keeps;
}

pub placed_layer : {T F A P : Type 0} {last : T → Bool} {p : Reader T F A} {G H : A → List T → Type 0} {go : Option T → Bool} (place : Option T → P) → Layer last p G H go → ((x : A) (front : List T) → G x front → 0 < length front) → Layer last (placed place p) (Placed place G) (Placed place H) go
placed_layer {last = last} {p = p} {H = H} place layer grows = record {
  context = PlacedIn place layer.context;
  reads = placed-Reads place p layer.context H layer.reads (λ x front n l. grows x front (layer.tight x front n l));
  enough = λ z front n l e. (layer.enough z.1 front n l.0 e, ap place (first_or-long front n (grows z.1 front l.0)) ∙ l.1);
  tight = λ z front n l. let g = layer.tight z.1 front n l.0 in (g, ap place (sym (first_or-long front n (grows z.1 front g))) ∙ l.1);
  keeps = placed_keeps last place p layer.keeps;
}

pub switch_layer : {T F A K : Type 0} {last : T → Bool} {go : Option T → Bool} (key : Option T → K) (reader : K → Reader T F A) (G H : K → A → List T → Type 0) → ((k : K) → Layer last (reader k) (G k) (H k) go) → ((k : K) (x : A) (front : List T) (n : Option T) → G k x front → key (first_or front n) ≡ k) → K → Layer last (switch key reader) (Switched G) (Switched H) go
switch_layer {last = last} key reader G H layers begins sample = record {
  context = SwitchIn key (λ k. (layers k).context);
  reads = switch-Reads key reader (λ k. (layers k).context) H (λ k. (layers k).reads) sample;
  enough = λ x front n l e. subst (λ k. (layers k).context x front n) (sym (begins l.0 x front n l.1)) ((layers l.0).enough x front n l.1 e);
  tight = λ x front n l. (key (first_or front n), (layers (key (first_or front n))).tight x front n l);
  keeps = switch_keeps last key reader (λ k. (layers k).keeps);
}

pub choice_layer : {T F A : Type 0} {last : T → Bool} {p q : Reader T F A} {G H K L : A → List T → Type 0} {go : Option T → Bool} (test : Test T) → Layer last p G H go → Layer last q K L go → ((x : A) (front : List T) (n : Option T) → G x front → test (first_or front n) ≡ true) → ((x : A) (front : List T) (n : Option T) → K x front → test (first_or front n) ≡ false) → Layer last (choice test p q) (Either G K) (Either H L) go
choice_layer {last = last} {p = p} {q = q} {H = H} {L = L} test one two yes_begins no_begins = record {
  context = ChoiceIn test one.context two.context;
  reads = choice-Reads test p q one.context two.context H L one.reads two.reads;
  enough = λ x front n l e. elim l [ inl h ↦ inl (yes_begins x front n h, one.enough x front n h e) | inr h ↦ inr (no_begins x front n h, two.enough x front n h e) ];
  tight = λ x front n l. elim l [ inl h ↦ inl (one.tight x front n h.1) | inr h ↦ inr (two.tight x front n h.1) ];
  keeps = choice_keeps last test p q one.keeps two.keeps;
}

module _ {T F A : Type 0} {last : T → Bool} {p : List T → Result (A × List T) (F × List T)} {G H : A → List T → Type 0} {go : Option T → Bool} (test : Option T → Bool) (layer : Layer last p G H go) (begins : (x : A) (front : List T) (n : Option T) → G x front → test (first_or front n) ≡ true) (grows : (x : A) (front : List T) → G x front → 0 < length front) where
  pub layer_goes : (ts : List T) (x : A × List T) → p ts ≡ Ok x → length x.1 < length ts
  layer_goes = goes_of test p layer.context H layer.reads (λ x front n l. begins x front n (layer.tight x front n l)) (λ x front n l. grows x front (layer.tight x front n l))

  many_enough : ((x : A) (front : List T) (n : Option T) → G x front → go (first_or front n) ≡ false) → (xs : List A) (front : List T) (n : Option T) → IsMany G xs front → test n || go n ≡ false → ManyIn test layer.context xs front n
  many_enough again [] front n l e = (l, not_left (test n) (go n) e)
  many_enough again (x ∷ xs) front n l e = record {
    a = l.a;
    b = l.b;
    parts = l.parts;
    left = layer.enough x l.a (first_or l.b n) l.left (many_next go false again xs l.b n l.right (not_right (test n) (go n) e));
    right = many_enough again xs l.b n l.right e;
  }

  many_tight : (xs : List A) (front : List T) (n : Option T) → ManyIn test layer.context xs front n → IsMany G xs front
  many_tight [] front n l = l.0
  many_tight (x ∷ xs) front n l = record { a = l.a; b = l.b; parts = l.parts; left = layer.tight x l.a (first_or l.b n) l.left; right = many_tight xs l.b n l.right }

  pub many_layer : ((x : A) (front : List T) (n : Option T) → G x front → go (first_or front n) ≡ false) → Layer last (many test p) (IsMany G) (IsMany H) (either test go)
  many_layer again = record {
    context = ManyIn test layer.context;
    reads = many-Reads test p layer.context H layer.reads (λ x front n l. begins x front n (layer.tight x front n l)) (λ x front n l. grows x front (layer.tight x front n l));
    enough = many_enough again;
    tight = many_tight;
    keeps = many_keeps last test p layer.keeps;
  }

separated_from : {T A : Type 0} {S : List T → Type 0} {G : A → List T → Type 0} (xs : List A) (front : List T) → IsSeparated S G xs front → Mapped front_and_more (Both G (IsMany (λ x. S ⨾ G x))) xs front
separated_from [] front l = absurd l
separated_from (x ∷ xs) front l = record { from = (x, xs); is = refl; spelled = l }

module _ {T F A : Type 0} {last : T → Bool} {s : List T → Result (Unit {0} × List T) (F × List T)} {p : List T → Result (A × List T) (F × List T)} {Z : Unit {0} → List T → Type 0} {G H : A → List T → Type 0} {go : Option T → Bool} (test : Option T → Bool) (between : Layer last s Z Z nothing) (layer : Layer last p G H go) (begins : (front : List T) (n : Option T) → Z tt front → test (first_or front n) ≡ true) (calm_before : (front : List T) (n : Option T) → Z tt front → go (first_or front n) ≡ false) (long : (front : List T) → Z tt front → 0 < length front) where
  pub next_layer : Layer last (after s p) (λ x. Z tt ⨾ G x) (λ x. Z tt ⨾ H x) go
  next_layer = after_layer between layer (λ x front n l e. refl)

  pub next_begins : (x : A) (front : List T) (n : Option T) → Joined (Z tt) (G x) front → test (first_or front n) ≡ true
  next_begins x front n l = ap test (next_of front n l) ∙ begins l.a (first_or l.b n) l.left

  pub next_long : (x : A) (front : List T) → Joined (Z tt) (G x) front → 0 < length front
  next_long x front l = longer front l (long l.a l.left)

  next_calm : (x : A) (front : List T) (n : Option T) → Joined (Z tt) (G x) front → go (first_or front n) ≡ false
  next_calm x front n l = ap go (next_of front n l) ∙ calm_before l.a (first_or l.b n) l.left

  pub next_goes : (ts : List T) (x : A × List T) → after s p ts ≡ Ok x → length x.1 < length ts
  next_goes = layer_goes test next_layer next_begins next_long

  pub separated_layer : Layer last (separated test s p) (IsSeparated (Z tt) G) (IsSeparated (Z tt) H) (either test go)
  unfolding separated
  separated_layer =
      renamed_layer (mapped_layer front_and_more (both_layer layer (many_layer test next_layer next_begins next_long next_calm) (λ xs front n l e. many_next go false next_calm xs front n l (not_right (test n) (go n) e))))
      (λ xs front l. subst (λ (v : List A). IsSeparated (Z tt) G v front) l.is l.spelled) separated_from (λ xs front l. subst (λ (v : List A). IsSeparated (Z tt) H v front) l.is l.spelled)
