-- What a parse and its getters say of entries.
use Rattle.std.proofs.Common.{◌≡◌, ◌≤◌, ◌<◌, ◌^◌, ◌∙◌, ℕ, List, [], ◌∷◌, Bool, true, false, Option, Some, None, refl, sym, ap, inl, inr, Result, Ok, Err, arith}
use Rattle.std.specs.Option.{unwrap_or}
use Rattle.std.specs.Str.Parse.{ParsesUnsigned, digits_value, without_leading_plus}
use Rattle.clap.specs.Values.{Accepts}
use Rattle.clap.specs.ValueTests.{accepts}
use Rattle.clap.proofs.ValueTestLemmas.{Accepts-accepts, accepts-Accepts}
use Rattle.clap.specs.Words.{App, Text, Kinds, IsAmong, HasKind, HasMatchesOf, ReadsOne, is_simple_and_free, fault_of, rows_of, found_of, kind_of}
use Rattle.clap.specs.declared.builder.value_parser.ValueParser.TheVariants as vp
use Rattle.clap.specs.declared.error.Error.{Error}
use Rattle.clap.specs.declared.error.kind.ErrorKind.{ErrorKind}
use Rattle.clap.specs.declared.error.kind.ErrorKind.TheVariants as kind
use Rattle.clap.specs.declared.parser.matches.ArgMatches.{ArgMatches}
use Rattle.clap.proofs.WalkLemmas.{both}
use Rattle.clap.specs.Words.{first_value, one_text}
use Rattle.clap.proofs.WalkLemmas.{first_value-rows, one_text-rows}
use Rattle.clap.specs.declared.parser.matches.Found.{Found}
use Rattle.std.specs.Prelude.{option_and_then}
use Rattle.std.specs.Str.Parse.{IsNumeral}
use Rattle.aq_words.specs.Entries.{entries, has_none, is_simple_parser, number_of, number_up_to, text_of}

pub found_entries : (app : App) (words : List Text) (m : ArgMatches) → is_simple_parser app ≡ true → HasMatchesOf app words m
    → (is_simple_and_free app ≡ true → fault_of app words ≡ []) → entries app words ≡ Some (rows_of (found_of m))
unfolding entries is_simple_parser
found_entries app words m simple found kinds =
    let none : has_none (fault_of app words) ≡ true = ap has_none (kinds simple) in
    rw none (ap Some (sym (found (both _ _ simple).0).0))

among_some : (k : ErrorKind) (ks : Kinds) → IsAmong k ks → has_none ks ≡ false
among_some k [] h = absurd h
among_some k (x ∷ xs) h = refl

pub no_entries : (app : App) (words : List Text) (e : Error) → is_simple_parser app ≡ true
    → (is_simple_and_free app ≡ true → HasKind (fault_of app words) e) → (kind_of e ≡ kind.OutOfMemory → ⊥) → entries app words ≡ None
unfolding entries is_simple_parser
no_entries app words e simple kinds other = elim (kinds simple) [
  | inl memory ↦ absurd (other memory)
  | inr among ↦
      let some : has_none (fault_of app words) ≡ false = among_some _ _ among in
      rw some refl
]

-- a text that is no such number
no_number : (most : ℕ) (text : Text) → (Accepts false (vp.Unsigned 1 most) text → ⊥) → number_up_to most text ≡ None
unfolding number_up_to
no_number most text bad = go (accepts false (vp.Unsigned 1 most) text) refl
  where
    go : (b : Bool) → accepts false (vp.Unsigned 1 most) text ≡ b → number_up_to most text ≡ None
    go true e = absurd (bad (accepts-Accepts false (vp.Unsigned 1 most) text e))
    go false e = rw e refl

some_number : (most : ℕ) (text : Text) → Accepts false (vp.Unsigned 1 most) text
    → number_up_to most text ≡ Some (digits_value 10 (without_leading_plus text))
unfolding number_up_to
some_number most text h = rw (Accepts-accepts false (vp.Unsigned 1 most) text h) refl

-- ---- getters

pub text_in_rows : (f : Found) (id : Text) (o : Option Text) → o ≡ first_value f id → text_of id (rows_of f) ≡ unwrap_or o []
text_in_rows f id o e = ap (λ x. unwrap_or x []) (sym (first_value-rows f id) ∙ sym e)

up_to_some : (most v : ℕ) (t : Text) → IsNumeral 10 (without_leading_plus t) → digits_value 10 (without_leading_plus t) < 2 ^ 64
    → v ≡ digits_value 10 (without_leading_plus t) → 1 ≤ v → v ≤ most → number_up_to most t ≡ Some v
up_to_some most v t numeral fits e low high = some_number most t (numeral, fits, omega arith, omega arith) ∙ ap Some (sym e)

up_to_out : (most v : ℕ) (t : Text) → v ≡ digits_value 10 (without_leading_plus t) → (1 ≤ v → v ≤ most → ⊥) → number_up_to most t ≡ None
up_to_out most v t e out = no_number most t (λ a. let low = a.2 in let high = a.3 in out (omega arith) (omega arith))

-- what the getter of a number reads
abbrev GetsOne : (E : Type 0) → (List ℕ → Result ℕ E → Type 0) → Found → Text → Option ℕ → Type 0
GetsOne E G f id r = (one_text f id ≡ None → r ≡ None) × ((t : List ℕ) → one_text f id ≡ Some t → ReadsOne G t r)

abbrev ParsesNumbers : (E : Type 0) → (List ℕ → Result ℕ E → Type 0) → Type 0
ParsesNumbers E G = (u : List ℕ) (x : Result ℕ E) → G u x → ParsesUnsigned 64 10 u x

by_text : (f : Found) (id : Text) (most : ℕ) (wanted : Option ℕ) → (one_text f id ≡ None → None ≡ wanted)
    → ((t : Text) → one_text f id ≡ Some t → number_up_to most t ≡ wanted) → number_of id most (rows_of f) ≡ wanted
by_text f id most wanted none some = ap (option_and_then (number_up_to most)) (sym (one_text-rows f id)) ∙ go (one_text f id) refl
  where
    go : (o : Option Text) → one_text f id ≡ o → option_and_then (number_up_to most) o ≡ wanted
    go None e = none e
    go (Some t) e = some t e

pub number_some : (E : Type 0) (G : List ℕ → Result ℕ E → Type 0) (f : Found) (id : Text) (most n : ℕ) → ParsesNumbers E G → GetsOne E G f id (Some n)
    → 1 ≤ n → n ≤ most → number_of id most (rows_of f) ≡ Some n
number_some E G f id most n only gets low high = by_text f id most (Some n) (λ e. sym (gets.0 e)) (λ t e.
    let p = only t (Ok n) (gets.1 t e) in up_to_some most n t p.0.0 p.0.1 p.1 low high)

pub number_out : (E : Type 0) (G : List ℕ → Result ℕ E → Type 0) (f : Found) (id : Text) (most n : ℕ) → ParsesNumbers E G → GetsOne E G f id (Some n)
    → (1 ≤ n → n ≤ most → ⊥) → number_of id most (rows_of f) ≡ None
number_out E G f id most n only gets out = by_text f id most None (λ e. refl) (λ t e.
    let p = only t (Ok n) (gets.1 t e) in up_to_out most n t p.1 out)

pub number_none : (E : Type 0) (G : List ℕ → Result ℕ E → Type 0) (f : Found) (id : Text) (most : ℕ) → ParsesNumbers E G → GetsOne E G f id None
    → number_of id most (rows_of f) ≡ None
number_none E G f id most only gets = by_text f id most None (λ e. refl) (λ t e.
    let h = gets.1 t e in no_number most t (λ a. only t (Err h.0) h.1 (a.0, a.1)))
