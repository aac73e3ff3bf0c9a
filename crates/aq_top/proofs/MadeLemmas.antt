-- Obligations that were made: their claims, and that they are few.
use Rattle.std.proofs.Common.{◌≡◌, ℕ, suc, ◌≤◌, Bool, true, false, ◌||◌, nat_lt, List, [], ◌∷◌, length, map, codes, Option, Ok, Err, refl, ap, sym, subst, arith}
use Rattle.std.proofs.lemmas.Bool.Decides.{nat_tests}
use Rattle.aq_base.specs.Checks.{refuse_if, ◌>>=◌, ◌>>◌}
use Rattle.aq_base.specs.Limits.{most_fragment_statements, most_obligations}
use Rattle.aq_prog.specs.declared.program.Program.{Program}
use Rattle.aq_sets.specs.declared.sets.Sets.{Sets}
use Rattle.aq_obligations.specs.Owing.{Owed}
use Rattle.aq_obligations.specs.declared.bound.BoundCase.{BoundCase}
use Rattle.aq_obligations.specs.declared.bound.Obligation.{Obligation}
use Rattle.aq_owing.specs.Asking.{Asked, Checked, asked}
use Rattle.aq_owing.specs.Made.{are_too_many, fragment_statements, made, made_obligations, obligations_of, owed_by}
use Rattle.aq_owing.specs.declared.asked.ObligationFault.TheVariants as faults
use Rattle.aq_world.specs.Held.{Held}
use Rattle.aq_words.specs.Commands.{CheckWords}
use Rattle.aq_elab.specs.Texts.{SaysProgram}
use Rattle.aq_set_read.specs.Texts.{SaysSets}
use Rattle.aq_top.specs.Check.{ReadsObligations}
use Rattle.aq_top.specs.Trial.{OwesBetween}
use Rattle.aq_top.specs.Reads.{ReadsProgram, ReadsSets}

-- between which claims they are made
record IsMade (p : Program) (s : Sets) (pre post : List ℕ) (os : List Obligation) : Type 0 where
  claims : Asked
  claims_are : asked p s pre post ≡ Ok claims
  few : are_too_many (owed_by p claims) ≡ false
  owed : os ≡ obligations_of p claims

made_from : (p : Program) (s : Sets) (pre post : List ℕ) (os : List Obligation) → made_obligations p s pre post ≡ Ok os → IsMade p s pre post os
made_from p s pre post os e = by_claims (asked p s pre post) refl e
  where
    by_test : (a : Asked) → asked p s pre post ≡ Ok a → (b : Bool) → are_too_many (owed_by p a) ≡ b
        → (refuse_if b faults.TooManyObligations >> Ok (obligations_of p a)) ≡ Ok os → IsMade p s pre post os
    by_test a h true k l = absurd (cc l)
    by_test a h false k l = let same : obligations_of p a ≡ os = cc in record { claims = a; claims_are = h; few = k; owed = sym same }

    by_claims : (r : Checked Asked) → asked p s pre post ≡ r
        → (r >>= λ a. refuse_if (are_too_many (owed_by p a)) faults.TooManyObligations >> Ok (obligations_of p a)) ≡ Ok os → IsMade p s pre post os
    by_claims (Err f) h l = absurd (cc l)
    by_claims (Ok a) h l = by_test a h (are_too_many (owed_by p a)) refl l

neither : (a b : Bool) → (a || b) ≡ false → a ≡ false
neither true b e = absurd (cc e)
neither false b e = refl

length-made : (ds : List (Owed BoundCase)) → length (map made ds) ≡ length ds
length-made [] = refl
length-made (d ∷ ds) = ap suc (length-made ds)

within_limit : (n : ℕ) → nat_lt most_obligations n ≡ false → n ≤ most_obligations
within_limit n e = grind (arith, nat_tests)

few_made : (p : Program) (a : Asked) → are_too_many (owed_by p a) ≡ false → length (obligations_of p a) ≤ most_obligations
few_made p a e =
    let ds = owed_by p a in
    let few = within_limit (length ds) (neither (nat_lt most_obligations (length ds)) (nat_lt most_fragment_statements (fragment_statements ds)) e) in
    let same = length-made ds in
    omega (arith, few, same)

-- what was read, and the obligations that were made of it
pub loaded : (told : Option Held) (w : CheckWords) (p : Program) (s : Sets) (os : List Obligation) → ReadsProgram told w.program p → ReadsSets told w.sets s
    → made_obligations p s w.pre w.post ≡ Ok os → ReadsObligations told w p s os
loaded told w p s os r q e =
    let m = made_from p s w.pre w.post os e in
    record {
      claims = m.claims;
      read = record {
        program = r.bytes;
        program_held = r.held;
        program_fits = r.fits;
        sets = q.bytes;
        sets_held = q.held;
        sets_fit = q.fits;
        says = record { program_is = r.says; sets_are = q.says; claims_are = m.claims_are; few = m.few };
      };
      owed = m.owed;
      few = subst (λ (l : List Obligation). length l ≤ most_obligations) (sym m.owed) (few_made p m.claims m.few);
    }

-- what two texts say, and the obligations that were made of it
pub owes_between : (program sets : List ℕ) (p : Program) (s : Sets) (os : List Obligation) → SaysProgram program p → SaysSets sets s
    → made_obligations p s (codes "pre") (codes "post") ≡ Ok os → OwesBetween program sets p s os
owes_between program sets p s os says named e =
    let m = made_from p s (codes "pre") (codes "post") os e in
    record {
      claims = m.claims;
      says = record { program_is = says; sets_are = named; claims_are = m.claims_are; few = m.few };
      owed = m.owed;
      few = subst (λ (l : List Obligation). length l ≤ most_obligations) (sym m.owed) (few_made p m.claims m.few);
    }
