-- What statements owe, step by step.
use Rattle.std.proofs.Common.{◌≡◌, Bool, ℕ, ◌+◌, ◌<◌, true, false, List, [], ◌∷◌, ◌++◌, map, length, drop, get_or, drop-cons, add-one, append_assoc, refl, ap, ap₂, sym, ◌∙◌, Some, None}
use Rattle.std.specs.Prelude.{Result, Ok, Err, OnOk}
use Rattle.aq_prog.specs.Cuts.{has_cut, cut_step}
use Rattle.aq_prog.specs.declared.stmt.Guard.{Guard}
use Rattle.aq_prog.specs.declared.stmt.Stmt.{Stmt}
use Rattle.aq_prog.specs.declared.stmt.Stmt.TheVariants as stmt
use Rattle.aq_prog.proofs.StmtLaws.{fold-assume}
use Rattle.aq_obligations.specs.Owing.{Here, Owed, opposite, fresh, further, owed, at_end, claim_at, owes_all}
use Rattle.aq_obligations.specs.declared.bound.BoundCase.{BoundCase}
use Rattle.aq_obligations.specs.declared.bound.Goal.{Goal}
use Rattle.aq_obligations.specs.declared.bound.Obligation.{Obligation}
use Rattle.aq_obligations.specs.declared.kind.Kind.TheVariants as kinds
use Rattle.aq_correct.specs.OwingLaws.{OwesByRule}
use Rattle.aq_owing.specs.Made.{made}
use Rattle.aq_owing.specs.Making.{owed_from}

pub on_ok : {A E : Type 0} {P Q : Type 0} (r : Result A E) → OnOk r P → (P → Q) → OnOk r Q
on_ok (Ok x) p f = f p
on_ok (Err e) p f = tt

made_append : (xs ys : List (Owed BoundCase)) → map made (xs ++ ys) ≡ map made xs ++ map made ys
made_append [] ys = refl
made_append (x ∷ xs) ys = ap (λ l. made x ∷ l) (made_append xs ys)

-- the statement at a position, and those behind it
cut_at : (body : List Stmt) (i : ℕ) (x : Stmt) → i < length body → x ≡ get_or body i x → drop i body ≡ x ∷ drop (i + 1) body
cut_at body i x h e = drop-cons body i x h ∙ ap₂ (λ s (k : ℕ). s ∷ drop k body) (sym e) (sym (add-one i))

module _ (r : OwesByRule BoundCase) (claims : List (List BoundCase)) (goal : Goal) where
  abbrev rest : Here BoundCase → List (Owed BoundCase)
  rest = at_end goal.kind goal.line goal.cases

  pub assumed : (g : Guard) (body : List Stmt) (h : Here BoundCase) → owed_from claims goal (stmt.Assume g ∷ body) h ≡ owed_from claims goal body (further (stmt.Assume g) h)
  assumed g body h = ap (map made) (r.plain (claim_at claims) (stmt.Assume g) body rest h (fold-assume Bool cut_step g))

  pub at_last : (h : Here BoundCase) → owed_from claims goal [] h ≡ made (owed goal.kind goal.line goal.cases h) ∷ []
  at_last h = ap (map made) (r.none (claim_at claims) rest h)

  pub plain_on : (body : List Stmt) (i : ℕ) (x : Stmt) (h next : Here BoundCase) → i < length body → x ≡ get_or body i x → has_cut x ≡ false → next ≡ further x h
      → owed_from claims goal (drop (i + 1) body) next ≡ owed_from claims goal (drop i body) h
  plain_on body i x h next lt e c n =
      ap (owed_from claims goal (drop (i + 1) body)) n
      ∙ sym (ap (λ l. owed_from claims goal l h) (cut_at body i x lt e) ∙ ap (map made) (r.plain (claim_at claims) x (drop (i + 1) body) rest h c))

  pub asserted_on : (body : List Stmt) (i : ℕ) (x : Stmt) (h next : Here BoundCase) (claim line : ℕ) (old new : List Obligation) → i < length body → x ≡ get_or body i x
      → x ≡ stmt.Assert claim line → next ≡ fresh (claim_at claims claim) None → new ≡ old ++ made (owed kinds.Assert line (claim_at claims claim) h) ∷ []
      → new ++ owed_from claims goal (drop (i + 1) body) next ≡ old ++ owed_from claims goal (drop i body) h
  asserted_on body i x h next claim line old new lt e is n made_is =
      ap₂ (λ (l : List Obligation) k. l ++ owed_from claims goal (drop (i + 1) body) k) made_is n
      ∙ append_assoc old (made (owed kinds.Assert line (claim_at claims claim) h) ∷ []) (owed_from claims goal (drop (i + 1) body) (fresh (claim_at claims claim) None))
      ∙ ap (λ (l : List Obligation). old ++ l) (sym (ap (λ l. owed_from claims goal l h) (cut_at body i x lt e ∙ ap (λ s. s ∷ drop (i + 1) body) is)
      ∙ ap (map made) (r.asserted (claim_at claims) claim line (drop (i + 1) body) rest h)))

  pub looped_on : (body : List Stmt) (i : ℕ) (x : Stmt) (h next : Here BoundCase) (g : Guard) (claim : ℕ) (inner : List Stmt) (line : ℕ) (old mid new : List Obligation)
      → i < length body → x ≡ get_or body i x → x ≡ stmt.While g claim inner line → next ≡ fresh (claim_at claims claim) (Some (opposite g))
      → mid ≡ old ++ made (owed kinds.Entry line (claim_at claims claim) h) ∷ []
      → new ≡ mid ++ map made (owes_all (claim_at claims) inner (at_end kinds.Keep line (claim_at claims claim)) (fresh (claim_at claims claim) (Some g)))
      → new ++ owed_from claims goal (drop (i + 1) body) next ≡ old ++ owed_from claims goal (drop i body) h
  looped_on body i x h next g claim inner line old mid new lt e is n entry_is turn_is =
      let turn = owes_all (claim_at claims) inner (at_end kinds.Keep line (claim_at claims claim)) (fresh (claim_at claims claim) (Some g)) in
      let later = owes_all (claim_at claims) (drop (i + 1) body) rest (fresh (claim_at claims claim) (Some (opposite g))) in
      let first = made (owed kinds.Entry line (claim_at claims claim) h) in
      ap₂ (λ (l : List Obligation) k. l ++ owed_from claims goal (drop (i + 1) body) k) (turn_is ∙ ap (λ (l : List Obligation). l ++ map made turn) entry_is) n
      ∙ append_assoc (old ++ first ∷ []) (map made turn) (map made later)
      ∙ append_assoc old (first ∷ []) (map made turn ++ map made later)
      ∙ ap (λ (l : List Obligation). old ++ first ∷ l) (sym (made_append turn later))
      ∙ ap (λ (l : List Obligation). old ++ l) (sym (ap (λ l. owed_from claims goal l h) (cut_at body i x lt e ∙ ap (λ s. s ∷ drop (i + 1) body) is)
      ∙ ap (map made) (r.looped (claim_at claims) g claim inner line (drop (i + 1) body) rest h)))

  pub branched_on : (body : List Stmt) (i : ℕ) (x : Stmt) (h other : Here BoundCase) (g : Guard) (y z behind : List Stmt) (old mid new : List Obligation)
      → i < length body → x ≡ get_or body i x → x ≡ stmt.If g y z → has_cut x ≡ true → other ≡ h → behind ≡ drop (i + 1) body
      → mid ≡ old ++ owed_from claims goal (stmt.Assume g ∷ (y ++ behind)) h
      → new ≡ mid ++ owed_from claims goal (stmt.Assume (opposite g) ∷ (z ++ behind)) other
      → new ≡ old ++ owed_from claims goal (drop i body) h
  branched_on body i x h other g y z behind old mid new lt e is c same b first_is second_is =
      let first = owes_all (claim_at claims) (stmt.Assume g ∷ (y ++ behind)) rest h in
      let second = owes_all (claim_at claims) (stmt.Assume (opposite g) ∷ (z ++ behind)) rest h in
      second_is
      ∙ ap₂ (λ (l : List Obligation) k. l ++ owed_from claims goal (stmt.Assume (opposite g) ∷ (z ++ behind)) k) first_is same
      ∙ append_assoc old (map made first) (map made second)
      ∙ ap (λ (l : List Obligation). old ++ l) (sym (made_append first second)
      ∙ sym (ap (λ l. owed_from claims goal l h) (cut_at body i x lt e ∙ ap₂ (λ s l. s ∷ l) is (sym b))
      ∙ ap (map made) (r.branched (claim_at claims) g y z behind rest h (ap has_cut (sym is) ∙ c))))
