-- What the calls on a statement ask for.
use Rattle.std.proofs.Common.{◌≡◌, ℕ, zero, suc, ◌+◌, ◌<◌, ◌≤◌, Bool, true, false, ◌||◌, List, [], ◌∷◌, filter, length, take, get_or, slice_get, Option, IfSome, refl, sym, ap, subst, ◌∙◌, arith, append-nil}
use Rattle.std.specs.List.{list_any}
use Rattle.std.proofs.lemmas.List.Elements.{All-head}
use Rattle.std.proofs.lemmas.List.Sums.{sum_by-take-le}
use Rattle.aq_ring.specs.Fractions.{Amplitude}
use Rattle.aq_prog.specs.Cuts.{has_cut}
use Rattle.aq_prog.specs.Gates.{IsValidGate}
use Rattle.aq_prog.specs.Programs.{IsValidLevel, IsValidStmt}
use Rattle.aq_prog.specs.declared.gate.Gate.{Gate}
use Rattle.aq_prog.specs.declared.stmt.Guard.{Guard}
use Rattle.aq_prog.specs.declared.stmt.Stmt.{Stmt}
use Rattle.aq_prog.specs.declared.stmt.Stmt.TheVariants as stmt
use Rattle.aq_prog.specs.declared.stmt.Stmt.TheOpen.{Stmt-F}
use Rattle.aq_prog.specs.declared.stmt.Stmt.TheFolds.{every_here-Stmt}
use Rattle.aq_prog.specs.declared.stmt.Stmt.TheViews.{roll-Stmt, out-roll-Stmt}
use Rattle.aq_prog.proofs.CutLaws.{branch_cuts}
use Rattle.aq_plain.specs.Replaying.{ArePlayable, IsPlayableStmt}
use Rattle.aq_plain.proofs.PlayLaws.{gate_valid, measure_valid, reset_valid, branch_valid, next_playable}
use Rattle.aq_store.specs.Count.{Count}
use Rattle.aq_store.specs.Nodes.{Extends, FitsStore}
use Rattle.aq_store.specs.declared.node.Node.{Node}
use Rattle.aq_store.specs.declared.store.Stop.TheVariants.{Memory}
use Rattle.aq_obligations.specs.Worlds.{assumed_worlds}
use Rattle.aq_correct.specs.WorldLaws.{is_alive}
use Rattle.aq_symbolic.specs.Moves.{Move, of_assumption}
use Rattle.aq_symbolic.specs.Playing.{CanPlay, CanPlayStmt, Collects, Leaves, Stops, most_steps}
use Rattle.aq_symbolic.specs.Splitting.{IsAssumed, IsSplit}
use Rattle.aq_symbolic.specs.Weights.{weight, weights}
use Rattle.aq_symbolic.specs.Worlds.{IsSized, world_of}
use Rattle.aq_symbolic.specs.declared.kept.World.{World}
use Rattle.aq_symbolic.proofs.CollectLemmas.{collect_next, sized_at, sized_one}
use Rattle.aq_symbolic.proofs.LeadLemmas.{LeadsOn}
use Rattle.aq_symbolic.proofs.SplitLemmas.{assumed_from, assumed_lighter, assumed_seen, assumed_sized, split_sized}
use Rattle.aq_symbolic.proofs.StopLemmas.{stopped_memory}
use Rattle.aq_symbolic.proofs.WeightLemmas.{spent_le}
use Rattle.aq_symbolic.proofs.WorldLemmas.{sized_kept}

-- ---- statements

level_of : (n m k : ℕ) (x : Stmt-F Stmt) (s : Stmt) → s ≡ roll-Stmt x → IsValidStmt n m k s → IsValidLevel n m k x
level_of n m k x s e v =
    subst (IsValidLevel n m k) (out-roll-Stmt x) (every_here-Stmt (IsValidLevel n m k) (roll-Stmt x) (subst (IsValidStmt n m k) e v))

branch_bit : (n m : ℕ) (s : Stmt) (g : Guard) (a b : List Stmt) → s ≡ stmt.If g a b → IsPlayableStmt n m s → g.bit < m
branch_bit n m s g a b e p = level_of n m p.claims (Stmt-F.If g a b) s (e ∙ sym (stmt.rolls-If g a b)) p.valid

assume_bit : (n m : ℕ) (s : Stmt) (g : Guard) → s ≡ stmt.Assume g → IsPlayableStmt n m s → g.bit < m
assume_bit n m s g e p = level_of n m p.claims (Stmt-F.Assume g) s (e ∙ sym (stmt.rolls-Assume g)) p.valid

neither : (a b : Bool) → (a || b) ≡ false → (a ≡ false) × (b ≡ false)
neither true b e = cc
neither false b e = (refl, e)

branch_uncut : (s : Stmt) (g : Guard) (a b : List Stmt) → s ≡ stmt.If g a b → has_cut s ≡ false → (list_any has_cut a ≡ false) × (list_any has_cut b ≡ false)
branch_uncut s g a b e free = neither _ _ (sym (branch_cuts s g a b e) ∙ free)

pub yes_uncut : (s : Stmt) (g : Guard) (a b l : List Stmt) → s ≡ stmt.If g a b → l ≡ a → has_cut s ≡ false → list_any has_cut l ≡ false
yes_uncut s g a b l e f free = ap (λ (x : List Stmt). list_any has_cut x) f ∙ (branch_uncut s g a b e free).0

pub no_uncut : (s : Stmt) (g : Guard) (a b l : List Stmt) → s ≡ stmt.If g a b → l ≡ b → has_cut s ≡ false → list_any has_cut l ≡ false
no_uncut s g a b l e f free = ap (λ (x : List Stmt). list_any has_cut x) f ∙ (branch_uncut s g a b e free).1

none_at : (i : ℕ) (body : List Stmt) (d : Stmt) → i < length body → list_any has_cut body ≡ false → has_cut (get_or body i d) ≡ false
none_at i [] d h e = absurd (omega (arith, h))
none_at zero (s ∷ body) d h e = (neither (has_cut s) (list_any has_cut body) e).0
none_at (suc i) (s ∷ body) d h e = none_at i body d (omega (arith, h)) (neither (has_cut s) (list_any has_cut body) e).1

pub next_uncut : (i : ℕ) (body : List Stmt) (d x : Stmt) → i < length body → x ≡ get_or body i d → list_any has_cut body ≡ false → has_cut x ≡ false
next_uncut i body d x h e free = ap has_cut e ∙ none_at i body d h free

-- ---- a world and a statement
module _ {L : Type 0} (table : List (Node L)) (w : World) (x : Stmt) where
  alone : (p : CanPlayStmt table (w ∷ []) x) → IsSized p.qubits p.bits table w
  alone p = All-head (IsSized p.qubits p.bits table) w [] p.sized

  pub fits_call : CanPlayStmt table (w ∷ []) x → FitsStore table w.lsta
  fits_call p = (alone p).fits

  pub gate_call : (g : Gate) → x ≡ stmt.Gate g → CanPlayStmt table (w ∷ []) x → IsValidGate (length w.lsta.shape.items) g
  gate_call g e p = subst (λ (q : ℕ). IsValidGate q g) (sym (alone p).levels) (gate_valid p.qubits p.bits x g e p.playable)

  pub measure_qubit : (qubit : ℕ) (bit : Option ℕ) → x ≡ stmt.Measure qubit bit → CanPlayStmt table (w ∷ []) x → qubit < length w.lsta.shape.items
  measure_qubit qubit bit e p = subst (λ (q : ℕ). qubit < q) (sym (alone p).levels) (measure_valid p.qubits p.bits x qubit bit e p.playable).0

  pub measure_bit : (qubit : ℕ) (bit : Option ℕ) → x ≡ stmt.Measure qubit bit → CanPlayStmt table (w ∷ []) x → IfSome bit (λ b. b < length w.bits)
  measure_bit qubit bit e p = subst (λ (k : ℕ). IfSome bit (λ b. b < k)) (sym (alone p).bits) (measure_valid p.qubits p.bits x qubit bit e p.playable).1

  pub reset_qubit : (qubit : ℕ) → x ≡ stmt.Reset qubit → CanPlayStmt table (w ∷ []) x → qubit < length w.lsta.shape.items
  reset_qubit qubit e p = subst (λ (q : ℕ). qubit < q) (sym (alone p).levels) (reset_valid p.qubits p.bits x qubit e p.playable)

  pub if_start : (g : Guard) (a b : List Stmt) → x ≡ stmt.If g a b → CanPlayStmt table (w ∷ []) x → g.bit < length w.start
  if_start g a b e p = subst (λ (k : ℕ). g.bit < k) (sym (alone p).start) (branch_bit p.qubits p.bits x g a b e p.playable)

  pub if_bits : (g : Guard) (a b : List Stmt) → x ≡ stmt.If g a b → CanPlayStmt table (w ∷ []) x → g.bit < length w.bits
  if_bits g a b e p = subst (λ (k : ℕ). g.bit < k) (sym (alone p).bits) (branch_bit p.qubits p.bits x g a b e p.playable)

  pub assume_start : (g : Guard) → x ≡ stmt.Assume g → CanPlayStmt table (w ∷ []) x → g.bit < length w.start
  assume_start g e p = subst (λ (k : ℕ). g.bit < k) (sym (alone p).start) (assume_bit p.qubits p.bits x g e p.playable)

  pub assume_bits : (g : Guard) → x ≡ stmt.Assume g → CanPlayStmt table (w ∷ []) x → g.bit < length w.bits
  assume_bits g e p = subst (λ (k : ℕ). g.bit < k) (sym (alone p).bits) (assume_bit p.qubits p.bits x g e p.playable)

  -- the halves of a world can be played on as it can
  pub yes_plays : (g : Guard) (a b l : List Stmt) (halves : List World) → x ≡ stmt.If g a b → l ≡ a → IsSplit g.bit w halves → CanPlayStmt table (w ∷ []) x → CanPlay table halves l
  yes_plays g a b l halves e f s p = record {
    qubits = p.qubits;
    bits = p.bits;
    sized = split_sized p.qubits p.bits table g.bit w halves s (alone p);
    playable = subst (ArePlayable p.qubits p.bits) (sym f) (branch_valid p.qubits p.bits x g a b e p.playable).0;
  }

  pub no_plays : (g : Guard) (a b l : List Stmt) (halves : List World) → x ≡ stmt.If g a b → l ≡ b → IsSplit g.bit w halves → CanPlayStmt table (w ∷ []) x → CanPlay table halves l
  no_plays g a b l halves e f s p = record {
    qubits = p.qubits;
    bits = p.bits;
    sized = split_sized p.qubits p.bits table g.bit w halves s (alone p);
    playable = subst (ArePlayable p.qubits p.bits) (sym f) (branch_valid p.qubits p.bits x g a b e p.playable).1;
  }

module _ {L : Type 0} where
  -- one of the worlds, in a later table
  pub one_plays : (old new : List (Node L)) (all : List World) (k : ℕ) (w : World) (body : List Stmt) → k < length all → w ≡ get_or all k w → Extends old new → CanPlay old all body → CanPlay new (w ∷ []) body
  one_plays old new all k w body lt e x p = record {
    qubits = p.qubits;
    bits = p.bits;
    sized = sized_one p.qubits p.bits new w (sized_kept p.qubits p.bits old new w x (sized_at p.qubits p.bits old all k w lt e p.sized));
    playable = p.playable;
  }

  pub one_stmt_plays : (old new : List (Node L)) (all : List World) (k : ℕ) (w : World) (s : Stmt) → k < length all → w ≡ get_or all k w → Extends old new → CanPlayStmt old all s → CanPlayStmt new (w ∷ []) s
  one_stmt_plays old new all k w s lt e x p = record {
    qubits = p.qubits;
    bits = p.bits;
    sized = sized_one p.qubits p.bits new w (sized_kept p.qubits p.bits old new w x (sized_at p.qubits p.bits old all k w lt e p.sized));
    playable = p.playable;
  }

  pub list_plays : (table : List (Node L)) (w : World) (worlds : List World) (body : List Stmt) → worlds ≡ w ∷ [] → CanPlay table (w ∷ []) body → CanPlay table worlds body
  list_plays table w worlds body e p = subst (λ (l : List World). CanPlay table l body) (sym e) p

module _ {L : Type 0} (parts : L → List Amplitude) (count : ℕ) where
  -- the next statement can be played
  pub next_plays : (body : List Stmt) (s0 s1 : List (Node L)) (c0 c1 : Count) (worlds : List World) (i : ℕ) (x : Stmt) (rest : List Stmt) (now : List World) → i < length body → x ≡ get_or body i x
      → LeadsOn parts count body s0 c0 worlds rest s1 c1 now → CanPlay s0 worlds body → CanPlayStmt s1 now x
  next_plays body s0 s1 c0 c1 worlds i x rest now lt e on p = record {
    qubits = p.qubits;
    bits = p.bits;
    sized = on.sized p.qubits p.bits p.sized;
    playable = next_playable p.qubits p.bits p.qubits p.bits i body x x lt e refl refl p.playable;
  }

  -- memory is wanting after a world was played
  pub memory_at : (P : Move) (s0 s1 s2 : List (Node L)) (c0 c1 c2 : Count) (all : List World) (k : ℕ) (w : World) (list more : List World) → k < length all → w ≡ get_or all k w → Extends s0 s1 → Extends s1 s2
      → Collects parts count P s0 s1 c0 c1 all (take k all) list → Leaves parts count P s1 s2 c1 c2 (w ∷ []) more → Stops parts count P s0 all c0 c2 Memory
  memory_at P s0 s1 s2 c0 c1 c2 all k w list more lt e x y first second =
      let both = collect_next parts count P s0 s1 s2 c0 c1 c2 all k w list more lt e x y first second in
      record {
        stopped = λ named h. stopped_memory c0 c2 (most_steps named P all) (spent_le c0.taken c2.taken P.statements P.statements (weights named P.outcomes (take (k + 1) all)) (weights named P.outcomes all) (omega arith) (sum_by-take-le (weight named P.outcomes) all (k + 1)) (both.takes named h));
        cause = tt;
      }

  -- memory is wanting after all worlds were played
  pub memory_done : (P : Move) (s0 s1 : List (Node L)) (c0 c1 : Count) (all list : List World) → Leaves parts count P s0 s1 c0 c1 all list → Stops parts count P s0 all c0 c1 Memory
  memory_done P s0 s1 c0 c1 all list made = record { stopped = λ named h. stopped_memory c0 c1 (most_steps named P all) (made.takes named h); cause = tt }

  -- memory is wanting at once
  pub memory_first : (P : Move) (table : List (Node L)) (c : Count) (all : List World) → Stops parts count P table all c c Memory
  memory_first P table c all = record { stopped = λ named h. stopped_memory c c (most_steps named P all) (omega arith); cause = tt }

  -- an assumption
  pub assumed_leaves : (g : Guard) (table : List (Node L)) (c : Count) (w : World) (list : List World) → IsAssumed g w list → Leaves parts count (of_assumption g) table table c c (w ∷ []) list
  assumed_leaves g table c w list h = record {
    gives = λ n m v proper s. record {
      worlds = ap (filter is_alive) (assumed_seen parts v table g w list h ∙ sym (append-nil (assumed_worlds g (slice_get w.bits g.bit) (world_of parts v table w))));
      sized = assumed_sized n m table g w list h (All-head (IsSized n m table) w [] s);
    };
    fits = λ n m v proper s d k. absurd (omega (arith, k.1));
    from = assumed_from g w list h;
    lighter = λ named k a. (let z : 0 + k ≡ k = omega arith in let l = assumed_lighter named k g w list h in subst (λ j. weights named k list ≤ weights named j (w ∷ [])) (sym z) l);
    takes = λ named a. (omega arith);
  }
