-- Memos of automata of expressions.
use Rattle.std.proofs.Common.{◌≡◌, ℕ, Bool, true, false, cond, eqb, eqb-true, List, Option, None, Some, refl, sym, ap, subst, ◌∙◌}
use Rattle.aq_ring.specs.Fractions.{Amplitude}
use Rattle.aq_store.specs.Count.{Count}
use Rattle.aq_store.specs.declared.lsta.Lsta.{Lsta}
use Rattle.aq_store.specs.declared.store.Stop.{Stop}
use Rattle.aq_store.specs.declared.store.Stop.TheVariants.{Memory}
use Rattle.aq_set_build.specs.Growth.{StopsFor}
use Rattle.aq_store.specs.Nodes.{Extends}
use Rattle.aq_sets.specs.Vectors.{vectors_of}
use Rattle.aq_sets.specs.Sizes.{size_of, place}
use Rattle.aq_sets.specs.declared.sets.Expr.{Expr}
use Rattle.aq_set_build.specs.Tensors.{Table}
use Rattle.aq_set_build.specs.Listing.{IsMade}
use Rattle.aq_set_build.specs.Built.{IsCopy, Keeps, IsBuildMemo}
use Rattle.aq_set_build.proofs.ListLemmas.{lists-Extends, lists_copy}

some_one : {x y : Lsta} → Some x ≡ Some y → x ≡ y
some_one e = cc

no : {o : Option Lsta} {made : Lsta} → o ≡ None → o ≡ Some made → ⊥
no n e = cc

-- want of memory is always a cause
pub stops_memory : (P : Amplitude → Amplitude → Type 0) (n : ℕ) (t u : Count) (why : Stop Amplitude) → why ≡ Memory → StopsFor P n t u why
stops_memory P n t u why e = subst (StopsFor P n t u) (sym e) tt

module _ (exprs : List Expr) where
  pub made-Extends : (i : ℕ) (old new : Table) → Extends old new → (made : Lsta) → IsMade exprs i old made → IsMade exprs i new made
  made-Extends i old new x made h = record { built = lists-Extends (vectors_of exprs i) (place exprs i) (size_of exprs i).shape old new x made h.built; fits = h.fits }

  pub made_copy : (i : ℕ) (table : Table) (made copy : Lsta) → IsCopy made copy → IsMade exprs i table made → IsMade exprs i table copy
  made_copy i table made copy same h = record {
    built = lists_copy (vectors_of exprs i) (place exprs i) (size_of exprs i).shape table made copy same.root same.shape h.built;
    fits = h.fits;
  }

  pub build_memo-none : (table : Table) (at : ℕ → Option Lsta) → ((q : ℕ) → at q ≡ None) → IsBuildMemo exprs table at
  build_memo-none table at none = record { each = λ i made e. absurd (let n = none i in no n e) }

  pub build_memo-Extends : (old new : Table) → Extends old new → (at : ℕ → Option Lsta) → IsBuildMemo exprs old at → IsBuildMemo exprs new at
  build_memo-Extends old new x at h = record { each = λ i made e. made-Extends i old new x made (h.each i made e) }

  pub build_memo-put : (table : Table) (old new : ℕ → Option Lsta) (i : ℕ) (made : Lsta) → IsBuildMemo exprs table old → IsMade exprs i table made → Keeps old new i made → IsBuildMemo exprs table new
  build_memo-put table old new i made h m k = record { each = λ q l e. by q l (eqb i q) refl (sym (k.puts q) ∙ e) }
    where
      by : (q : ℕ) (l : Lsta) (b : Bool) → eqb i q ≡ b → cond (eqb i q) (Some k.copy) (old q) ≡ Some l → IsMade exprs q table l
      by q l true is e =
          let same : k.copy ≡ l = some_one (sym (ap (λ t. cond t (Some k.copy) (old q)) is) ∙ e) in
          subst (λ t. IsMade exprs t table l) (eqb-true i q is) (subst (IsMade exprs i table) same (made_copy i table made k.copy k.same m))
      by q l false is e = h.each q l (sym (ap (λ t. cond t (Some k.copy) (old q)) is) ∙ e)
