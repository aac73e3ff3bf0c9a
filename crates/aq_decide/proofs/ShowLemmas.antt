-- From the kept worlds of a case to its worlds.
use Rattle.std.proofs.Common.{◌≡◌, ℕ, ◌<◌, ◌==◌, ◌||◌, List, [], ◌∷◌, map, filter, length, slice_get, Option, None, Some, All, Contains, refl, sym, ap, ◌∙◌, subst, arith}
use Rattle.std.specs.List.{AllZip, flat_map, list_any}
use Rattle.std.proofs.lemmas.List.Elements.{All-head, All-tail, All-map, All-weaker}
use Rattle.aq_ring.specs.Fractions.{Amplitude}
use Rattle.aq_prog.specs.Digits.{tabulate}
use Rattle.aq_prog.specs.declared.program.Program.{Program}
use Rattle.aq_sets.specs.Sizes.{place, size_of}
use Rattle.aq_sets.specs.Valid.{IsValidSets}
use Rattle.aq_sets.specs.Vectors.{vectors_of}
use Rattle.aq_sets.specs.declared.sets.Sets.{Sets}
use Rattle.aq_sets.proofs.SizeLaws.{has_count}
use Rattle.aq_store.specs.Nodes.{FitsStore, tree, vector_of}
use Rattle.aq_store.specs.Parts.{part_vector}
use Rattle.aq_store.specs.Words.{IsWord}
use Rattle.aq_store.specs.declared.lsta.Lsta.{Lsta}
use Rattle.aq_obligations.specs.Asking.{case_of, cases_of, meaning_of}
use Rattle.aq_obligations.specs.Claims.{ClaimCase}
use Rattle.aq_obligations.specs.Worlds.{Partial, in_worlds, mentioned, mentions, spread, split, starting}
use Rattle.aq_obligations.specs.Worlds as meant
use Rattle.aq_obligations.specs.declared.bound.BoundCase.{BoundCase}
use Rattle.aq_obligations.specs.declared.bound.Obligation.{Obligation}
use Rattle.aq_correct.specs.WorldLaws.{is_alive, start_of, worlds_of}
use Rattle.aq_decide.specs.Splitting.{asked_bits, is_asked}
use Rattle.aq_set_build.specs.Tensors.{Table}
use Rattle.aq_set_build.proofs.CoverLemmas.{valid_exprs}
use Rattle.aq_set_build.proofs.ListLemmas.{lists_copy}
use Rattle.aq_symbolic.specs.Playing.{ShowsAll}
use Rattle.aq_symbolic.specs.Worlds.{IsView, Pick, View, vector_at, world_of}
use Rattle.aq_symbolic.specs.declared.kept.World.{World}
use Rattle.aq_decide.specs.Kept.{AreWorlds, HasVectors, IsWorld, alone}
use Rattle.aq_decide.specs.Starting.{Begins, BeginsIf}
use Rattle.aq_decide.specs.Splitting.{AreDecided}
use Rattle.aq_decide.proofs.Elements.{contains_get, contains_map, get_map, zip_left}
use Rattle.aq_decide.proofs.OrderLemmas.{reached}
use Rattle.aq_decide.proofs.StandLemmas.{AreAll, Stands, alive_twins, decided_alive, from_each, stands_closed}
use Rattle.aq_decide.proofs.TwinLemmas.{AreTwins, IsTwin, decisions_twins, played_twins, zip_flat}
use Rattle.aq_decide.proofs.WordLemmas.{all_words, each_word, has_word}

-- ---- views of all words
abbrev pub pick : List ℕ → Pick
pick word = record { word = word; part = 0 }

abbrev pub all_picks : List ℕ → List Pick
all_picks shape = map pick (all_words shape)

-- every word of every case is looked at, and all have one case
abbrev pub whole_view : ClaimCase → List ℕ → View
whole_view c shape = record { case = λ k. c; picks = λ k. all_picks shape }

pub whole_proper : (c : ClaimCase) (shape : List ℕ) → IsView 1 (whole_view c shape)
whole_proper c shape = λ k. All-map (λ (p : Pick). p.part < 1) pick (all_words shape) (All-weaker (IsWord shape) (λ w. 0 < 1) (λ w h. omega arith) (all_words shape) (each_word shape))

pub whole_shows : (c : ClaimCase) (w : World) (shape : List ℕ) → w.lsta.shape.items ≡ shape → ShowsAll 1 (whole_view c shape) w
whole_shows c w shape e = record {
  each = λ p is lt.
      let zero_part : 0 ≡ p.part = omega (arith, lt) in
      let same : pick p.word ≡ p = λ i. record { word = p.word; part = zero_part i } in
      subst (λ q. Contains (all_picks shape) q) same (contains_map pick (all_words shape) p.word (has_word shape p.word (subst (λ s. IsWord s p.word) e is)));
}

pub map_itself : (v : List Amplitude) → part_vector alone 0 v ≡ v
map_itself [] = refl
map_itself (a ∷ v) = ap (λ l. a ∷ l) (map_itself v)

pub vector_is : (table : Table) (lsta : Lsta) (word : List ℕ) → vector_at alone table lsta (pick word) ≡ vector_of table lsta word
vector_is table lsta word = map_itself (vector_of table lsta word)

-- ---- a case
module _ (s : Sets) (valid : IsValidSets s) (c : BoundCase) (there : c.set < length s.exprs) where
  abbrev shape : List ℕ
  shape = (size_of s.exprs c.set).shape

  abbrev leads : List ℕ → ℕ
  leads = place s.exprs c.set

  abbrev many : ℕ
  many = (size_of s.exprs c.set).count

  -- the places of all words
  abbrev pub places : List ℕ
  places = map leads (all_words shape)

  abbrev pub Twin : meant.World → meant.World → Type 0
  Twin = IsTwin (Stands places many)

  pub all_places : AreAll places many
  all_places k lt =
      let r = reached s.exprs (valid_exprs s valid) c.set there k lt in
      subst (λ j. Contains places j) r.2 (contains_map leads (all_words shape) r.0 (has_word shape r.0 r.1))

  -- ---- at the start
  stand_at : (table : Table) (lsta : Lsta) (us : List (List Amplitude)) → HasVectors s c table lsta us → (words : List (List ℕ)) → All (IsWord shape) words
      → AllZip (λ p v. slice_get us p ≡ Some v) (map leads words) (map (vector_at alone table lsta) (map pick words))
  stand_at table lsta us h [] all = tt
  stand_at table lsta us h (w ∷ words) all =
      (h.words w (All-head (IsWord shape) w words all) ∙ ap Some (sym (vector_is table lsta w)), stand_at table lsta us h words (All-tail (IsWord shape) w words all))

  counted : length (vectors_of s.exprs c.set) ≡ many
  counted = has_count s.exprs (valid_exprs s valid) c.set there

  copied : (table : Table) (lsta : Lsta) (w : World) (us : List (List Amplitude)) → w.lsta.root ≡ lsta.root → w.lsta.shape.items ≡ lsta.shape.items → HasVectors s c table lsta us → HasVectors s c table w.lsta us
  copied table lsta w us e i h = lists_copy us leads shape table lsta w.lsta e i h

  begin_twin : (table : Table) (number : ℕ) (lsta : Lsta) (bits : Partial) (w : World) → HasVectors s c table lsta (vectors_of s.exprs c.set) → Begins number lsta bits w
      → Twin (world_of alone (whole_view (case_of s c) shape) table w) (record { case = case_of s c; start = bits; bits = bits; outcomes = []; vectors = vectors_of s.exprs c.set })
  begin_twin table number lsta bits w h b = record {
    case = refl;
    start = b.start;
    bits = b.now;
    outcomes = b.outcomes;
    vectors = record { each = stand_at table w.lsta (vectors_of s.exprs c.set) (copied table lsta w (vectors_of s.exprs c.set) b.root b.shape h) (all_words shape) (each_word shape); long = counted };
  }

  pub start_twins : (table : Table) (number : ℕ) (lsta : Lsta) (x : Option Partial) (first : List World) → HasVectors s c table lsta (vectors_of s.exprs c.set) → BeginsIf number lsta x first
      → AreTwins (Stands places many) (map (world_of alone (whole_view (case_of s c) shape) table) first) (starting (case_of s c) x)
  start_twins table number lsta None first h b =
      subst (λ l. AreTwins (Stands places many) (map (world_of alone (whole_view (case_of s c) shape) table) l) []) (sym b) tt
  start_twins table number lsta (Some bits) first h b =
      subst (λ l. AreTwins (Stands places many) (map (world_of alone (whole_view (case_of s c) shape) table) l) (starting (case_of s c) (Some bits))) (sym b.1)
      (begin_twin table number lsta bits b.0 h b.2, tt)

  -- ---- at the end
  pub record IsKeptOf (table : Table) (number : ℕ) (w : World) : Type 0 where
    pub case : w.case ≡ number
    pub shape_is : w.lsta.shape.items ≡ shape
    pub fits : FitsStore table w.lsta

  end_words : (table : Table) (w : World) (us : List (List Amplitude)) → Stands places many (map (vector_at alone table w.lsta) (all_picks shape)) us → (word : List ℕ) → IsWord shape word
      → slice_get us (leads word) ≡ Some (vector_of table w.lsta word)
  end_words table w us h word is =
      let k = contains_get (all_words shape) word (has_word shape word is) in
      let z = zip_left (λ p v. slice_get us p ≡ Some v) places (map (vector_at alone table w.lsta) (all_picks shape)) k.0 (leads word) h.each (get_map leads (all_words shape) k.0 word k.1) in
      let at = get_map (vector_at alone table w.lsta) (all_picks shape) k.0 (pick word) (get_map pick (all_words shape) k.0 word k.1) in
      z.2 ∙ sym z.1 ∙ at ∙ ap Some (vector_is table w.lsta word)

  end_world : (cases : List BoundCase) (table : Table) (number : ℕ) (w : World) (u : meant.World) → slice_get cases number ≡ Some c → IsKeptOf table number w
      → Twin (world_of alone (whole_view (case_of s c) shape) table w) u → IsWorld s cases table w u
  end_world cases table number w u listed k t = record {
    bound = c;
    number = ap (slice_get cases) k.case ∙ listed;
    is = record {
      case = sym t.case;
      start = sym t.start;
      bits = sym t.bits;
      outcomes = sym t.outcomes;
      vectors = record { shape = k.shape_is; fits_store = k.fits; words = end_words table w u.vectors t.vectors };
    };
  }

  pub end_worlds : (cases : List BoundCase) (table : Table) (number : ℕ) (ws : List World) (us : List meant.World) → slice_get cases number ≡ Some c → All (IsKeptOf table number) ws
      → AreTwins (Stands places many) (map (world_of alone (whole_view (case_of s c) shape) table) ws) us → AreWorlds s cases table ws us
  end_worlds cases table number [] [] listed all h = tt
  end_worlds cases table number [] (u ∷ us) listed all h = absurd h
  end_worlds cases table number (w ∷ ws) [] listed all h = absurd h
  end_worlds cases table number (w ∷ ws) (u ∷ us) listed all h =
      (end_world cases table number w u listed (All-head (IsKeptOf table number) w ws all) h.0, end_worlds cases table number ws us listed (All-tail (IsKeptOf table number) w ws all) h.1)

  -- ---- from the start to the end
  module _ (p : Program) (o : Obligation) where
    any_asks : (bit : ℕ) (cases : List BoundCase) → is_asked cases bit ≡ list_any (mentions bit) (cases_of s cases)
    any_asks bit [] = refl
    any_asks bit (d ∷ cases) = ap (λ b. list_any (λ g. g.bit == bit) d.when || b) (any_asks bit cases)

    asked_are : asked_bits o.goal.cases p.bits ≡ mentioned (meaning_of p s o)
    asked_are = λ i. filter (λ bit. any_asks bit o.goal.cases i) (tabulate p.bits (λ bit. bit))

    pub played_on : (old new : Table) (first ends list : List World) → (n : ℕ) (from : List meant.World) (asked : List ℕ)
        → AreTwins (Stands places many) (map (world_of alone (whole_view (case_of s c) shape) old) first) from
        → map (world_of alone (whole_view (case_of s c) shape) new) ends ≡ filter is_alive (flat_map (in_worlds (map (spread n) o.fragment)) (map (world_of alone (whole_view (case_of s c) shape) old) first))
        → AreDecided asked ends list
        → AreTwins (Stands places many) (map (world_of alone (whole_view (case_of s c) shape) new) list) (filter is_alive (flat_map (in_worlds (map split asked)) (flat_map (in_worlds (map (spread n) o.fragment)) from)))
    played_on old new first ends list n from asked twins went decided =
        let R = Stands places many in
        let v = whole_view (case_of s c) shape in
        let S = in_worlds (map (spread n) o.fragment) in
        let D = in_worlds (map split asked) in
        let before = map (world_of alone v old) first in
        let played : AreTwins R (flat_map S before) (flat_map S from) = zip_flat (IsTwin R) (IsTwin R) S S (played_twins R (stands_closed places many) n o.fragment) before from twins in
        let alive = alive_twins places many all_places (flat_map S before) (flat_map S from) played in
        let split_up : AreTwins R (flat_map D (filter is_alive (flat_map S before))) (flat_map D (filter is_alive (flat_map S from)))
        = zip_flat (IsTwin R) (IsTwin R) D D (decisions_twins R asked) (filter is_alive (flat_map S before)) (filter is_alive (flat_map S from)) alive in
        let is : map (world_of alone v new) list ≡ flat_map D (filter is_alive (flat_map S before))
        = decided.worlds v.case (λ k root shape. map (λ q. part_vector alone q.part (tree new q.word root)) (v.picks k)) ∙ ap (flat_map D) went in
        subst (λ l. AreTwins R l (filter is_alive (flat_map D (flat_map S from)))) (sym is)
        (subst (λ l. AreTwins R (flat_map D (filter is_alive (flat_map S before))) l) (decided_alive asked (flat_map S from)) split_up)

    pub case_worlds : (old new : Table) (first ends list : List World) → AreTwins (Stands places many) (map (world_of alone (whole_view (case_of s c) shape) old) first) (start_of (meaning_of p s o) (case_of s c))
        → map (world_of alone (whole_view (case_of s c) shape) new) ends ≡ filter is_alive (flat_map (in_worlds (map (spread p.qubits) o.fragment)) (map (world_of alone (whole_view (case_of s c) shape) old) first))
        → AreDecided (asked_bits o.goal.cases p.bits) ends list
        → AreTwins (Stands places many) (map (world_of alone (whole_view (case_of s c) shape) new) list) (worlds_of (meaning_of p s o) (case_of s c))
    case_worlds old new first ends list twins went decided =
        let m = meaning_of p s o in
        let from = start_of m (case_of s c) in
        let S = in_worlds (map (spread p.qubits) o.fragment) in
        subst (λ l. AreTwins (Stands places many) (map (world_of alone (whole_view (case_of s c) shape) new) list) l)
        (ap (λ bits. filter is_alive (flat_map (in_worlds (map split bits)) (flat_map S from))) asked_are ∙ from_each (in_worlds (map split (mentioned m))) S from)
        (played_on old new first ends list p.qubits from (asked_bits o.goal.cases p.bits) twins went decided)
