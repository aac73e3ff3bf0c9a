-- Gates that the worlds of a case meet, and whether they fit.
use Rattle.std.proofs.Common.{◌≡◌, ℕ, zero, suc, ◌<◌, ◌≤◌, ◌⊎◌, inl, inr, true, ◌&&◌, List, [], ◌∷◌, ◌++◌, map, length, slice_get, Option, None, Some, All, Contains, refl, sym, ap, ◌∙◌, subst, arith}
use Rattle.std.specs.List.{AllZip, flat_map}
use Rattle.std.proofs.lemmas.Bool.{cases_lt}
use Rattle.std.proofs.lemmas.Option.{slice_get_within}
use Rattle.std.proofs.lemmas.List.Elements.{All-nil, All-cons, All-weaker, All-contains}
use Rattle.aq_ring.specs.Fractions.{Amplitude}
use Rattle.aq_ring.specs.Vectors.{IsZeroVector, is_zero_vector}
use Rattle.aq_prog.specs.Cuts.{AreUncut}
use Rattle.aq_prog.specs.Gates.{FitsGate}
use Rattle.aq_prog.specs.declared.gate.Gate.{Gate}
use Rattle.aq_prog.specs.declared.program.Program.{Program}
use Rattle.aq_prog.proofs.FitsLaws.{zero-fits}
use Rattle.aq_sets.specs.Sizes.{place, size_of}
use Rattle.aq_sets.specs.Valid.{IsValidSets}
use Rattle.aq_sets.specs.Vectors.{vectors_of}
use Rattle.aq_sets.specs.declared.sets.Sets.{Sets}
use Rattle.aq_sets.proofs.SizeLaws.{has_count}
use Rattle.aq_store.specs.Nodes.{tree, vector_of}
use Rattle.aq_store.specs.Parts.{part_vector}
use Rattle.aq_store.specs.Words.{IsWord}
use Rattle.aq_store.specs.declared.lsta.Lsta.{Lsta}
use Rattle.aq_obligations.specs.Asking.{case_of, meaning_of}
use Rattle.aq_obligations.specs.Claims.{ClaimCase}
use Rattle.aq_obligations.specs.Covering.{Met, met, meets_of}
use Rattle.aq_obligations.specs.Wide.{WideGate}
use Rattle.aq_obligations.specs.Worlds.{Partial, is_nought, start_worlds, starting}
use Rattle.aq_obligations.specs.Worlds as meant
use Rattle.aq_obligations.specs.declared.bound.BoundCase.{BoundCase}
use Rattle.aq_obligations.specs.declared.bound.Obligation.{Obligation}
use Rattle.aq_correct.specs.WorldLaws.{WorldsMeetGates, start_of}
use Rattle.aq_correct.proofs.NoughtLaws.{nought_worlds}
use Rattle.aq_set_build.specs.Tensors.{Table}
use Rattle.aq_set_build.proofs.CoverLemmas.{valid_exprs}
use Rattle.aq_set_build.proofs.ListLemmas.{lists_copy, tree_word}
use Rattle.aq_symbolic.specs.Moves.{of_body}
use Rattle.aq_symbolic.specs.Playing.{AllFit, IsUnfit, MeetsUnfit}
use Rattle.aq_symbolic.specs.Worlds.{AreSized, View, one_word, world_of}
use Rattle.aq_symbolic.specs.declared.kept.World.{World}
use Rattle.aq_decide.specs.Kept.{HasVectors, alone}
use Rattle.aq_decide.specs.Starting.{BeginsIf}
use Rattle.aq_decide.specs.Playing.{CaseFits}
use Rattle.aq_decide.proofs.Elements.{contains_get, contains_map, contains_flat, flat_contains, get_contains, some_is, zip_left, zip_right}
use Rattle.aq_decide.proofs.ShowLemmas.{all_places, map_itself, places}
use Rattle.aq_decide.proofs.StandLemmas.{Stands, stands_closed}
use Rattle.aq_decide.proofs.TwinLemmas.{AreTwins, IsTwin, IsTwinMet, met_twins, zip_flat}

module _ (p : Program) (s : Sets) (o : Obligation) (valid : IsValidSets s) (c : BoundCase) (there : c.set < length s.exprs) where
  abbrev many : ℕ
  many = (size_of s.exprs c.set).count

  abbrev from : List meant.World
  from = start_of (meaning_of p s o) (case_of s c)

  abbrev Meets : meant.World → List Met
  Meets = meets_of p.qubits o.fragment

  met_together : (at : List ℕ) (before : List meant.World) → AreTwins (Stands at many) before from → AllZip (IsTwinMet (Stands at many)) (flat_map Meets before) (flat_map Meets from)
  met_together at before twins = zip_flat (IsTwin (Stands at many)) (IsTwinMet (Stands at many)) Meets Meets (met_twins (Stands at many) (stands_closed at many) p.qubits o.fragment) before from twins

  -- ---- each gate fits
  pub case_fits : (before : List meant.World) → AreTwins (Stands (places s valid c there) many) before from → AllFit p.qubits (flat_map Meets before) → CaseFits p s o c
  case_fits before twins fit e v in_list in_vectors =
      let R = Stands (places s valid c there) many in
      let k = contains_get (flat_map Meets from) e in_list in
      let z = zip_right (IsTwinMet R) (flat_map Meets before) (flat_map Meets from) k.0 e (met_together (places s valid c there) before twins) k.1 in
      let d = z.0 in
      let stand = z.2.world.vectors in
      let j = contains_get e.world.vectors v in_vectors in
      let i = contains_get (places s valid c there) j.0 (all_places s valid c there j.0 (let n = slice_get_within e.world.vectors j.0 v j.1 in let l = stand.long in omega (arith, n, l))) in
      let x = zip_left (λ q u. slice_get e.world.vectors q ≡ Some u) (places s valid c there) d.world.vectors i.0 j.0 stand.each i.1 in
      let same : x.0 ≡ v = some_is x.0 v (sym x.2 ∙ j.1) in
      let all = fit d (get_contains (flat_map Meets before) k.0 d z.1) in
      let one = All-contains (FitsGate p.qubits d.gate) d.world.vectors x.0 all (get_contains d.world.vectors i.0 x.0 x.1) in
      subst (FitsGate p.qubits e.gate) same (subst (λ (g : Gate). FitsGate p.qubits g x.0) z.2.gate one)

  -- ---- a gate that doesn't fit
  is_met : Contains o.from c → (e : Met) → Contains (flat_map Meets from) e → Contains (met (meaning_of p s o)) e
  is_met listed e h =
      let m = meaning_of p s o in
      let a = contains_flat Meets from e h in
      flat_contains Meets (start_worlds m) a.0 e
      (flat_contains (λ (d : ClaimCase). start_of m d) m.assumed (case_of s c) a.0 (contains_map (case_of s) o.from c listed) a.1) a.2

  one_left : (v : List Amplitude) (place : ℕ) (us vs : List (List Amplitude)) → AllZip (λ q u. slice_get us q ≡ Some u) (place ∷ []) vs → (x : List Amplitude) × (vs ≡ x ∷ []) × (slice_get us place ≡ Some x)
  one_left v place us [] h = absurd h
  one_left v place us (x ∷ []) h = (x, refl, h.0)
  one_left v place us (x ∷ y ∷ vs) h = absurd h.1

  met_unfit : WorldsMeetGates → AreUncut o.fragment → Contains o.from c → (at : ℕ) (before : List meant.World) → AreTwins (Stands (at ∷ []) many) before from → MeetsUnfit p.qubits (flat_map Meets before) → WideGate (meaning_of p s o)
  met_unfit law uncut listed at before twins h =
      let R = Stands (at ∷ []) many in
      let k = contains_get (flat_map Meets before) h.met h.is_met in
      let z = zip_left (IsTwinMet R) (flat_map Meets before) (flat_map Meets from) k.0 h.met (met_together (at ∷ []) before twins) k.1 in
      let e = z.0 in
      let one = one_left [] at e.world.vectors h.met.world.vectors z.2.world.vectors.each in
      law.wide_gate (meaning_of p s o) e one.0 uncut (is_met listed e (get_contains (flat_map Meets from) k.0 e z.1))
      (get_contains e.world.vectors at one.0 one.2)
      (λ fit. h.wide (subst (All (FitsGate p.qubits h.met.gate)) (sym one.1)
      (All-cons (FitsGate p.qubits h.met.gate) one.0 [] (subst (λ (g : Gate). FitsGate p.qubits g one.0) (sym z.2.gate) fit) (All-nil (FitsGate p.qubits h.met.gate)))))

  -- worlds whose every vector is zero meet none
  none_unfit : (before : List meant.World) → ((w : meant.World) → Contains before w → is_nought w ≡ true) → MeetsUnfit p.qubits (flat_map Meets before) → ⊥
  none_unfit before nought h =
      let a = contains_flat Meets before h.met h.is_met in
      let all = All-contains (λ (e : Met). All IsZeroVector e.world.vectors) (Meets a.0) h.met (nought_worlds.met_zero p.qubits o.fragment a.0 (nought a.0 a.1)) a.2 in
      h.wide (All-weaker IsZeroVector (FitsGate p.qubits h.met.gate) (zero-fits p.qubits h.met.gate) h.met.world.vectors all)

  -- ---- one word
  abbrev one : List ℕ → View
  one word = one_word 1 (λ k. case_of s c) word

  one_twins : (table : Table) (number : ℕ) (lsta : Lsta) (word : List ℕ) → IsWord (size_of s.exprs c.set).shape word → HasVectors s c table lsta (vectors_of s.exprs c.set) → (x : Option Partial) (first : List World)
      → BeginsIf number lsta x first → AreTwins (Stands (place s.exprs c.set word ∷ []) many) (map (world_of alone (one word) table) first) (starting (case_of s c) x)
  one_twins table number lsta word is h None first b = subst (λ l. AreTwins (Stands (place s.exprs c.set word ∷ []) many) (map (world_of alone (one word) table) l) []) (sym b) tt
  one_twins table number lsta word is h (Some bits) first b =
      subst (λ l. AreTwins (Stands (place s.exprs c.set word ∷ []) many) (map (world_of alone (one word) table) l) (starting (case_of s c) (Some bits))) (sym b.1) (
        record {
          case = refl;
          start = b.2.start;
          bits = b.2.now;
          outcomes = b.2.outcomes;
          vectors = record {
            each = ((lists_copy (vectors_of s.exprs c.set) (place s.exprs c.set) (size_of s.exprs c.set).shape table lsta b.0.lsta b.2.root b.2.shape h).words word is ∙ ap Some (sym (map_itself (vector_of table b.0.lsta word))), tt);
            long = has_count s.exprs (valid_exprs s valid) c.set there;
          };
        },
        tt,
      )

  no_length : {A : Type 0} (xs : List A) → length xs ≤ 0 → xs ≡ []
  no_length [] le = refl
  no_length (x ∷ xs) le = absurd (omega (arith, le))

  nought_one : (table : Table) (number : ℕ) (lsta : Lsta) (word : List ℕ) → length (tree table word lsta.root) ≤ 0 → (x : Option Partial) (first : List World) → BeginsIf number lsta x first
      → (w : meant.World) → Contains (map (world_of alone (one word) table) first) w → is_nought w ≡ true
  nought_one table number lsta word le None first b w h =
      let none = subst (λ (l : List World). Contains (map (world_of alone (one word) table) l) w) b h in absurd (omega (arith, none.1))
  nought_one table number lsta word le (Some bits) first b w h =
      let only = subst (λ (l : List World). Contains (map (world_of alone (one word) table) l) w) b.1 h in
      let g = contains_get (map (world_of alone (one word) table) (b.0 ∷ [])) w only in
      let empty : vector_of table b.0.lsta word ≡ [] = ap (tree table word) b.2.root ∙ no_length (tree table word lsta.root) le in
      by g.0 g.1 (ap (λ (v : List Amplitude). is_zero_vector (part_vector alone 0 v) && true) empty)
    where
      by : (k : ℕ) → slice_get (map (world_of alone (one word) table) (b.0 ∷ [])) k ≡ Some w → is_nought (world_of alone (one word) table b.0) ≡ true → is_nought w ≡ true
      by zero e z = ap is_nought (sym (some_is (world_of alone (one word) table b.0) w e)) ∙ z
      by (suc zero) e z = cc e
      by (suc (suc k)) e z = cc e

  pub case_unfit : WorldsMeetGates → AreUncut o.fragment → Contains o.from c → (table : Table) (number : ℕ) (lsta : Lsta) (first : List World) → HasVectors s c table lsta (vectors_of s.exprs c.set)
      → (x : Option Partial) → x ≡ meant.fixing (c.when ++ meant.given_guards o.given) (meant.first_bits (meaning_of p s o)) → BeginsIf number lsta x first
      → AreSized p.qubits p.bits table first → IsUnfit alone 1 (of_body o.fragment) table first → WideGate (meaning_of p s o)
  case_unfit law uncut listed table number lsta first h x e b sized u = by (cases_lt 0 (length (tree table u.word lsta.root)))
    where
      unfit : MeetsUnfit p.qubits (flat_map Meets (map (world_of alone (one u.word) table) first))
      unfit = u.wide p.qubits p.bits (λ k. case_of s c) sized

      by : (0 < length (tree table u.word lsta.root)) ⊎ (length (tree table u.word lsta.root) ≤ 0) → WideGate (meaning_of p s o)
      by (inl some) =
          let word = subst (λ t. IsWord t u.word) h.shape (tree_word table lsta.shape.items lsta.root h.fits_store u.word some) in
          met_unfit law uncut listed (place s.exprs c.set u.word) (map (world_of alone (one u.word) table) first)
          (subst (λ y. AreTwins (Stands (place s.exprs c.set u.word ∷ []) many) (map (world_of alone (one u.word) table) first) (starting (case_of s c) y)) e (one_twins table number lsta u.word word h x first b)) unfit
      by (inr none) = absurd (none_unfit (map (world_of alone (one u.word) table) first) (nought_one table number lsta u.word none x first b) unfit)
