-- The obligations of a program by their rules.
use Rattle.std.proofs.Common.{◌≡◌, ℕ, Bool, true, false, cond, ◌||◌, List, [], ◌∷◌, ◌++◌, map, Some, None, refl, ap, sym, ◌∙◌, subst}
use Rattle.std.specs.List.{AllByRecursion, list_any}
use Rattle.std.proofs.lemmas.List.Elements.{All-from_recursion}
use Rattle.aq_prog.specs.declared.stmt.Guard.{Guard}
use Rattle.aq_prog.specs.declared.stmt.Stmt.{Stmt}
use Rattle.aq_prog.specs.declared.stmt.Stmt.TheVariants as stmt
use Rattle.aq_prog.specs.Cuts.{has_cut, cut_step, AreUncut}
use Rattle.aq_obligations.specs.Owing.{Here, Owed, Debt, Owes, opposite, fresh, further, owed, at_end, bodies, owed_by_branch, owed_by_loop, owes_step, owes, owes_all, claim_at}
use Rattle.aq_correct.specs.OwingLaws.{OwesByRule, OwesFragments}
use Rattle.aq_obligations.specs.declared.kind.Kind.TheVariants as kinds
use Rattle.aq_correct.proofs.StmtLaws.{para-gate, para-measure, para-reset, para-if, para-while, para-assert, para-assume, fold-gate, fold-measure, fold-reset, fold-while, fold-assert, fold-assume, by_induction, all_by_induction, uncut_head, uncut_tail}
use Rattle.aq_correct.proofs.CoverLaws.{each_append}

module _ (B : Type 0) (claims : ℕ → List B) where
  abbrev with_owes : Stmt → Stmt × Owes B
  with_owes s = (s, owes claims s)

  bodies_are : (body : List Stmt) → bodies {B = B} (map with_owes body) ≡ body
  bodies_are [] = refl
  bodies_are (s ∷ body) = ap (λ (l : List Stmt). s ∷ l) (bodies_are body)

  pub owes-loop : (guard : Guard) (claim : ℕ) (inner : List Stmt) (line : ℕ) (rest : Debt B) (here : Here B)
      → owes claims (stmt.While guard claim inner line) rest here ≡ owed_by_loop (claims claim) line guard (owes_all claims inner) rest here
  owes-loop guard claim inner line rest here = ap (λ (o : Owes B). o rest here) (para-while (Owes B) (owes_step claims) guard claim inner line)

  pub owes-assert : (claim line : ℕ) (rest : Debt B) (here : Here B) → owes claims (stmt.Assert claim line) rest here ≡ owed kinds.Assert line (claims claim) here ∷ rest (fresh (claims claim) None)
  owes-assert claim line rest here = ap (λ (o : Owes B). o rest here) (para-assert (Owes B) (owes_step claims) claim line)

  abbrev by_cut : Guard → List Stmt → List Stmt → Debt B → Here B → Stmt → Bool → List (Owed B)
  by_cut guard when_true when_false rest here s b = cond b (owed_by_branch guard (owes_all claims when_true) (owes_all claims when_false) rest here) (rest (further s here))

  owes-if : (guard : Guard) (when_true when_false : List Stmt) (rest : Debt B) (here : Here B) → owes claims (stmt.If guard when_true when_false) rest here
      ≡ by_cut guard when_true when_false rest here (stmt.If guard when_true when_false) (has_cut (stmt.If guard when_true when_false))
  owes-if guard when_true when_false rest here =
      ap (λ (o : Owes B). o rest here) (para-if (Owes B) (owes_step claims) guard when_true when_false)
      ∙ (λ i. by_cut guard when_true when_false rest here (stmt.If guard (bodies_are when_true i) (bodies_are when_false i)) (has_cut (stmt.If guard (bodies_are when_true i) (bodies_are when_false i))))

  pub owes-branch : (guard : Guard) (when_true when_false : List Stmt) (rest : Debt B) (here : Here B) → has_cut (stmt.If guard when_true when_false) ≡ true
      → owes claims (stmt.If guard when_true when_false) rest here ≡ owed_by_branch guard (owes_all claims when_true) (owes_all claims when_false) rest here
  owes-branch guard when_true when_false rest here e = owes-if guard when_true when_false rest here ∙ ap (by_cut guard when_true when_false rest here (stmt.If guard when_true when_false)) e

  abbrev IsPlain : Stmt → Type 0
  IsPlain s = has_cut s ≡ false → (rest : Debt B) (here : Here B) → owes claims s rest here ≡ rest (further s here)

  true_false : {A : Type 0} → ◌≡◌ {A = Bool} true false → A
  true_false e = cc

  pub owes-plain : (s : Stmt) → IsPlain s
  owes-plain = by_induction IsPlain (record {
    gate = λ g e rest here. ap (λ (o : Owes B). o rest here) (para-gate (Owes B) (owes_step claims) g);
    measure = λ qubit bit e rest here. ap (λ (o : Owes B). o rest here) (para-measure (Owes B) (owes_step claims) qubit bit);
    reset = λ qubit e rest here. ap (λ (o : Owes B). o rest here) (para-reset (Owes B) (owes_step claims) qubit);
    branch = λ g when_true when_false h k e rest here. owes-if g when_true when_false rest here ∙ ap (by_cut g when_true when_false rest here (stmt.If g when_true when_false)) e;
    loop = λ g claim body line h e rest here. true_false (sym (fold-while Bool cut_step g claim body line) ∙ e);
    claim = λ claim line e rest here. true_false (sym (fold-assert Bool cut_step claim line) ∙ e);
    assuming = λ g e rest here. ap (λ (o : Owes B). o rest here) (para-assume (Owes B) (owes_step claims) g);
  })

  pub assume_uncut : (g : Guard) → has_cut (stmt.Assume g) ≡ false
  assume_uncut g = fold-assume Bool cut_step g

  pub owes-append : (xs ys : List Stmt) (rest : Debt B) (here : Here B) → owes_all claims (xs ++ ys) rest here ≡ owes_all claims xs (owes_all claims ys rest) here
  owes-append xs ys rest here = ap (λ (o : Debt B). o here) (appended xs)
    where
      appended : (xs : List Stmt) → owes_all claims (xs ++ ys) rest ≡ owes_all claims xs (owes_all claims ys rest)
      appended [] = refl
      appended (s ∷ xs) = ap (owes claims s) (appended xs)

  branch_rule : (guard : Guard) (inner body : List Stmt) (rest : Debt B) (here : Here B)
      → owes_all claims inner (owes_all claims body rest) (further (stmt.Assume guard) here) ≡ owes_all claims (stmt.Assume guard ∷ (inner ++ body)) rest here
  branch_rule guard inner body rest here =
      sym (owes-append inner body rest (further (stmt.Assume guard) here)) ∙ sym (owes-plain (stmt.Assume guard) (assume_uncut guard) (owes_all claims (inner ++ body) rest) here)

pub owes_by_rule : (B : Type 0) → OwesByRule B
owes_by_rule B = record {
  none = λ claims rest here. refl;
  plain = λ claims s body rest here e. owes-plain B claims s e (owes_all claims body rest) here;
  asserted = λ claims claim line body rest here. owes-assert B claims claim line (owes_all claims body rest) here;
  looped = λ claims guard claim inner line body rest here. owes-loop B claims guard claim inner line (owes_all claims body rest) here;
  branched = λ claims guard when_true when_false body rest here e.
      owes-branch B claims guard when_true when_false (owes_all claims body rest) here e
      ∙ (λ i. branch_rule B claims guard when_true body rest here i ++ branch_rule B claims (opposite guard) when_false body rest here i);
}

-- ---- fragments
any_append : (xs ys : List Stmt) → list_any has_cut xs ≡ false → list_any has_cut ys ≡ false → list_any has_cut (xs ++ ys) ≡ false
any_append [] ys e f = f
any_append (x ∷ xs) ys e f = ap (λ (b : Bool). b || list_any has_cut (xs ++ ys)) (uncut_head x xs e) ∙ any_append xs ys (uncut_tail x xs e) f

pub further_uncut : (xs : List Stmt) (s : Stmt) → AreUncut xs → has_cut s ≡ false → AreUncut (xs ++ s ∷ [])
further_uncut xs s e f = any_append xs (s ∷ []) e (ap (λ (b : Bool). b || false) f)

module _ (B : Type 0) (claims : ℕ → List B) where
  abbrev IsUncutOwed : Owed B → Type 0
  IsUncutOwed d = AreUncut d.here.fragment

  -- the debts behind owe fragments without a cut, if they begin with one, and owe something
  record IsDebt (rest : Debt B) : Type 0 where
    uncut : (here : Here B) → AreUncut here.fragment → AllByRecursion IsUncutOwed (rest here)
    some : (here : Here B) → rest here ≡ [] → ⊥

  abbrev Fragments : Stmt → Type 0
  Fragments s = (rest : Debt B) → IsDebt rest → IsDebt (owes claims s rest)

  all_fragments : (body : List Stmt) → AllByRecursion Fragments body → (rest : Debt B) → IsDebt rest → IsDebt (owes_all claims body rest)
  all_fragments [] h rest d = d
  all_fragments (s ∷ body) h rest d = h.0 (owes_all claims body rest) (all_fragments body h.1 rest d)

  end_is_debt : (kind : _) (line : ℕ) (goal : List B) → IsDebt (at_end kind line goal)
  end_is_debt kind line goal = record { uncut = λ here u. (u, tt); some = λ here e. cc }

  plain_fragments : (s : Stmt) → has_cut s ≡ false → Fragments s
  plain_fragments s e rest d = record {
    uncut = λ here u. subst (AllByRecursion IsUncutOwed) (sym (owes-plain B claims s e rest here)) (d.uncut (further s here) (further_uncut here.fragment s u e));
    some = λ here f. d.some (further s here) (sym (owes-plain B claims s e rest here) ∙ f);
  }

  none_append : (xs ys : List (Owed B)) → xs ++ ys ≡ [] → xs ≡ []
  none_append [] ys e = refl
  none_append (x ∷ xs) ys e = cc

  branch_fragments : (g : Guard) (when_true when_false : List Stmt) → AllByRecursion Fragments when_true → AllByRecursion Fragments when_false → Fragments (stmt.If g when_true when_false)
  branch_fragments g when_true when_false h k rest d = by_test (has_cut (stmt.If g when_true when_false)) refl
    where
      by_test : (b : Bool) → has_cut (stmt.If g when_true when_false) ≡ b → IsDebt (owes claims (stmt.If g when_true when_false) rest)
      by_test false e = plain_fragments (stmt.If g when_true when_false) e rest d
      by_test true e =
          let y = all_fragments when_true h rest d in
          let z = all_fragments when_false k rest d in
          record {
            uncut = λ here u. subst (AllByRecursion IsUncutOwed) (sym (owes-branch B claims g when_true when_false rest here e))
                (each_append IsUncutOwed _ _ (y.uncut (further (stmt.Assume g) here) (further_uncut here.fragment (stmt.Assume g) u (assume_uncut B claims g)))
                (z.uncut (further (stmt.Assume (opposite g)) here) (further_uncut here.fragment (stmt.Assume (opposite g)) u (assume_uncut B claims (opposite g)))));
            some = λ here f. y.some (further (stmt.Assume g) here) (none_append _ _ (sym (owes-branch B claims g when_true when_false rest here e) ∙ f));
          }

  loop_fragments : (g : Guard) (claim : ℕ) (body : List Stmt) (line : ℕ) → AllByRecursion Fragments body → Fragments (stmt.While g claim body line)
  loop_fragments g claim body line h rest d = record {
    uncut = λ here u. subst (AllByRecursion IsUncutOwed) (sym (owes-loop B claims g claim body line rest here)) (
      u,
      each_append IsUncutOwed _ _
          ((all_fragments body h (at_end kinds.Keep line (claims claim)) (end_is_debt kinds.Keep line (claims claim))).uncut (fresh (claims claim) (Some g)) refl)
          (d.uncut (fresh (claims claim) (Some (opposite g))) refl),
    );
    some = λ here f. let e : owed_by_loop (claims claim) line g (owes_all claims body) rest here ≡ [] = sym (owes-loop B claims g claim body line rest here) ∙ f in cc e;
  }

  assert_fragments : (claim line : ℕ) → Fragments (stmt.Assert claim line)
  assert_fragments claim line rest d = record {
    uncut = λ here u. subst (AllByRecursion IsUncutOwed) (sym (owes-assert B claims claim line rest here)) (u, d.uncut (fresh (claims claim) None) refl);
    some = λ here f. let e : owed kinds.Assert line (claims claim) here ∷ rest (fresh (claims claim) None) ≡ [] = sym (owes-assert B claims claim line rest here) ∙ f in cc e;
  }

  each_fragments : (body : List Stmt) → AllByRecursion Fragments body
  each_fragments = all_by_induction Fragments (record {
    gate = λ g. plain_fragments (stmt.Gate g) (fold-gate Bool cut_step g);
    measure = λ qubit bit. plain_fragments (stmt.Measure qubit bit) (fold-measure Bool cut_step qubit bit);
    reset = λ qubit. plain_fragments (stmt.Reset qubit) (fold-reset Bool cut_step qubit);
    branch = branch_fragments;
    loop = loop_fragments;
    claim = assert_fragments;
    assuming = λ g. plain_fragments (stmt.Assume g) (assume_uncut B claims g);
  })

  body_debt : (post : List B) (body : List Stmt) → IsDebt (owes_all claims body (at_end kinds.Post 0 post))
  body_debt post body = all_fragments body (each_fragments body) (at_end kinds.Post 0 post) (end_is_debt kinds.Post 0 post)

pub owes_fragments : (B : Type 0) → OwesFragments B
owes_fragments B = record {
  uncut = λ claims pre post body. All-from_recursion (IsUncutOwed B (claim_at claims)) _ ((body_debt B (claim_at claims) post body).uncut (record { start = true; from = pre; given = None; fragment = [] }) refl);
  some = λ claims pre post body e. (body_debt B (claim_at claims) post body).some (record { start = true; from = pre; given = None; fragment = [] }) e;
}
