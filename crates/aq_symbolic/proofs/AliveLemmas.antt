-- Worlds of which those are left that have a vector that isn't zero.
use Rattle.std.proofs.Common.{◌≡◌, ℕ, ◌+◌, ◌<◌, inl, inr, false, cond, List, [], ◌∷◌, ◌++◌, map, filter, Contains, length, take, get_or, refl, sym, ap, ap₂, subst, ◌∙◌, arith, append-nil}
use Rattle.std.proofs.Math.Seq.{take-length}
use Rattle.std.proofs.lemmas.List.{map-append, take_more}
use Rattle.std.proofs.lemmas.List.Elements.{All-nil, All-append, All-cons, All-weaker, Contains-append_left, Contains-append_right, filter-append}
use Rattle.aq_ring.specs.Fractions.{Amplitude}
use Rattle.aq_store.specs.declared.node.Node.{Node}
use Rattle.aq_obligations.specs.Worlds as meant
use Rattle.aq_correct.specs.WorldLaws.{is_alive}
use Rattle.aq_symbolic.specs.Steps.{AddsLive, AreAlive}
use Rattle.aq_symbolic.specs.Worlds.{AreSame, IsLive, View, world_of}
use Rattle.aq_symbolic.specs.declared.kept.World.{World}
use Rattle.aq_symbolic.proofs.WeightLemmas.{weights-append}
use Rattle.aq_symbolic.proofs.WorldLemmas.{nothing_dead}

-- worlds that are the same up to dead ones, one list after the other
pub same_append : (as' bs cs ds : List meant.World) → AreSame as' bs → AreSame cs ds → AreSame (as' ++ cs) (bs ++ ds)
same_append as' bs cs ds e f = filter-append is_alive as' cs ∙ ap₂ (λ (x y : List meant.World). x ++ y) e f ∙ sym (filter-append is_alive bs ds)

dropped : (w : meant.World) → is_alive w ≡ false → filter is_alive (w ∷ []) ≡ []
dropped w e = ap (λ b. cond b (w ∷ []) []) e

module _ {L : Type 0} (parts : L → List Amplitude) (count : ℕ) (table : List (Node L)) where
  pub alive_none : AreAlive parts count table [] []
  alive_none = record {
    same = λ v. refl;
    live = All-nil (IsLive parts table);
    within = All-nil (Contains []);
    lighter = λ named k. (omega arith);
  }

  seen_more : (v : View) (ws : List World) (w : World) → map (world_of parts v table) (ws ++ w ∷ []) ≡ map (world_of parts v table) ws ++ world_of parts v table w ∷ []
  seen_more v ws w = map-append (world_of parts v table) ws (w ∷ [])

  pub alive_more : (ws list new : List World) (w : World) → AreAlive parts count table ws list → AddsLive parts count table w list new → AreAlive parts count table (ws ++ w ∷ []) new
  alive_more ws list new w a (inl h) =
      subst (AreAlive parts count table (ws ++ w ∷ [])) (sym h.0)
      (record {
        same = λ v.
            a.same v ∙ sym (append-nil (filter is_alive (map (world_of parts v table) ws)))
            ∙ ap (λ (l : List meant.World). filter is_alive (map (world_of parts v table) ws) ++ l) (sym (dropped (world_of parts v table w) (nothing_dead parts v table w h.1)))
            ∙ sym (filter-append is_alive (map (world_of parts v table) ws) (world_of parts v table w ∷ []))
            ∙ ap (filter is_alive) (sym (seen_more v ws w));
        live = a.live;
        within = All-weaker (Contains ws) (Contains (ws ++ w ∷ [])) (λ x c. Contains-append_left ws (w ∷ []) x c) list a.within;
        lighter = λ named k. (let h = a.lighter named k in let e = weights-append named k ws (w ∷ []) in omega arith);
      })
  alive_more ws list new w a (inr h) =
      subst (AreAlive parts count table (ws ++ w ∷ [])) (sym h.0)
      (record {
        same = λ v. subst (λ (l : List meant.World). AreSame l (map (world_of parts v table) (ws ++ w ∷ []))) (sym (seen_more v list w))
            (subst (λ (l : List meant.World). AreSame (map (world_of parts v table) list ++ world_of parts v table w ∷ []) l) (sym (seen_more v ws w))
            (same_append (map (world_of parts v table) list) (map (world_of parts v table) ws) (world_of parts v table w ∷ []) (world_of parts v table w ∷ []) (a.same v) refl));
        live = All-append (IsLive parts table) list (w ∷ []) a.live (All-cons (IsLive parts table) w [] h.1 (All-nil (IsLive parts table)));
        within = All-append (Contains (ws ++ w ∷ [])) list (w ∷ []) (All-weaker (Contains ws) (Contains (ws ++ w ∷ [])) (λ x c. Contains-append_left ws (w ∷ []) x c) list a.within)
            (All-cons (Contains (ws ++ w ∷ [])) w [] (Contains-append_right ws (w ∷ []) w (0, omega arith, refl)) (All-nil (Contains (ws ++ w ∷ []))));
        lighter = λ named k. (let h = a.lighter named k in let e = weights-append named k ws (w ∷ []) in let f = weights-append named k list (w ∷ []) in omega arith);
      })

  pub alive_step : (all : List World) (k j : ℕ) (w : World) (list new : List World) → j ≡ k + 1 → k < length all → w ≡ get_or all k w → AreAlive parts count table (take k all) list
      → AddsLive parts count table w list new → AreAlive parts count table (take j all) new
  alive_step all k j w list new ej lt e a h =
      let cut : take j all ≡ take k all ++ w ∷ [] = ap (λ i. take i all) ej ∙ take_more all k w lt ∙ ap (λ (x : World). take k all ++ x ∷ []) (sym e) in
      subst (λ (l : List World). AreAlive parts count table l new) (sym cut) (alive_more (take k all) list new w a h)

  pub alive_end : (all list : List World) (k : ℕ) → k ≡ length all → AreAlive parts count table (take k all) list → AreAlive parts count table all list
  alive_end all list k e h = subst (λ (l : List World). AreAlive parts count table l list) (ap (λ (j : ℕ). take j all) e ∙ take-length all) h
