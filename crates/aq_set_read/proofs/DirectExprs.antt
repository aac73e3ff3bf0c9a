-- Each expression that is put together stands for what its tree means directly: by induction over the tree.
use Rattle.std.proofs.Common.{◌≡◌, ℕ, ◌+◌, ◌*◌, ◌==◌, not, nat_lt, List, [], ◌∷◌, ◌++◌, map, Option, Some, None, Ok, Err, refl, sym, ap, ap₂, subst, ◌∙◌}
use Rattle.std.specs.List.{fold}
use Rattle.std.specs.Map.{lookup}
use Rattle.std.specs.Option.{unwrap_or}
use Rattle.std.specs.Str.{bytes_eq}
use Rattle.std.proofs.lemmas.List.{append_assoc, append-nil}
use Rattle.aq_lex.specs.declared.place.Place.{Place}
use Rattle.aq_base.specs.Checks.{refuse_if, ◌>>=◌, ◌>>◌}
use Rattle.aq_base.specs.Limits.{most_qubits}
use Rattle.aq_set_read.specs.Gathered.{Gathered, Checked, counted, named}
use Rattle.aq_set_read.specs.Coefs.{roots_of}
use Rattle.aq_set_read.specs.Meaning.{Step, step, out_of_range, node, ket_length, index_of, most_roots, stands_in, term_of, term_behind, term_taken, terms_taken, bracket_qubits, bracket_made, all_made, set_named, name_made, powered, Join, tensored, united, Meaning, Operand, joined, chained, expr_step, factor_step, part_step, meaning, factor_of, part_of}
use Rattle.aq_set_read.specs.Direct.{Meant, denoted, product_of, union_of, in_turn, power_of, Known, expr_meant, factor_meant, part_meant, meant}
use Rattle.aq_set_read.specs.declared.made.Made.{Made}
use Rattle.aq_set_parse.specs.declared.tree.SetWord.{SetWord}
use Rattle.aq_set_parse.specs.declared.tree.SetTerm.{SetTerm}
use Rattle.aq_set_parse.specs.declared.tree.SetPower.{SetPower}
use Rattle.aq_set_parse.specs.declared.tree.SetExpr.{SetExpr}
use Rattle.aq_set_parse.specs.declared.tree.SetFactor.{SetFactor}
use Rattle.aq_set_parse.specs.declared.tree.SetPart.{SetPart}
use Rattle.aq_set_parse.specs.declared.tree.SetExpr.TheOpen.{SetExpr-F, SetFactor-F, SetPart-F}
use Rattle.aq_set_parse.specs.declared.tree.SetExpr.TheFolds.{fold-SetFactor, fold-SetPart, map-SetExpr, map-SetFactor, map-SetPart, fold-roll-SetExpr, fold-roll-SetFactor, fold-roll-SetPart, ind-SetExpr}
use Rattle.aq_set_parse.specs.declared.tree.SetExpr.TheViews.{roll-SetExpr, roll-SetFactor, roll-SetPart}
use Rattle.aq_sets.specs.Vectors.{kets_vector, basis}
use Rattle.aq_sets.specs.declared.sets.Term.{Term}
use Rattle.aq_sets.specs.declared.sets.Expr.{Expr}
use Rattle.aq_sets.specs.declared.sets.Expr.TheVariants as expr
use Rattle.aq_set_read.specs.declared.set_fault.SetFault.TheVariants as faults
use Rattle.aq_set_read.proofs.ValidChecks.{Judged, follows, unless, weaker}
use Rattle.aq_set_read.proofs.ValidNodes.{IsSound, IsGrown, grown_twice, made-grown, IsFine, counted-judged}
use Rattle.aq_set_read.proofs.ValidTerms.{bracket_made-fine}
use Rattle.aq_set_read.proofs.ValidExprs.{all_made-good, name_made-good, powered-fine, IsGoodJoin, tensored-good, united-good}
use Rattle.aq_set_read.proofs.DirectNodes.{made_at, made-stays, StandsFor, node-stands, product-behind, union-behind, power-behind}

-- ---- brackets

term-is : (n : ℕ) (earlier : List Term) (t : SetTerm) (g : Gathered) → Judged (λ s. s.value ≡ earlier ++ term_of t ∷ []) (term_taken n earlier t g)
unfolding term_taken
term-is n earlier t g =
    let R = λ (s : Step (List Term)). s.value ≡ earlier ++ term_of t ∷ [] in
    let last = counted t.ket.at g >>= λ h. Ok (step h (term_behind earlier t)) in
    let third = refuse_if (stands_in earlier (index_of t)) (faults.RepeatedKet t.ket.at) >> last in
    let second = refuse_if (not (ket_length t == n)) (faults.KetLength t.ket.at) >> third in
    unless R (nat_lt most_roots (roots_of t.coef)) (faults.AmpTooWide t.at) (refuse_if (nat_lt most_qubits n) (faults.QubitCount t.ket.at) >> second) tt (λ narrow.
    unless R (nat_lt most_qubits n) (faults.QubitCount t.ket.at) second tt (λ few.
    unless R (not (ket_length t == n)) (faults.KetLength t.ket.at) third tt (λ fits.
    unless R (stands_in earlier (index_of t)) (faults.RepeatedKet t.ket.at) last tt (λ new.
    counted-judged R t.ket.at g (λ h. Ok (step h (term_behind earlier t))) (λ more. refl)))))

terms-are : (n : ℕ) (earlier : List Term) (ts : List SetTerm) (g : Gathered) → Judged (λ s. s.value ≡ earlier ++ map term_of ts) (terms_taken n earlier ts g)
terms-are n earlier [] g = sym (append-nil earlier)
terms-are n earlier (t ∷ ts) g =
    follows (λ s. s.value ≡ earlier ++ term_of t ∷ []) (λ s. s.value ≡ earlier ++ map term_of (t ∷ ts)) (term_taken n earlier t g) (λ s. terms_taken n s.value ts s.gathered)
    (term-is n earlier t g) (λ s is.
    weaker (λ r. r.value ≡ s.value ++ map term_of ts) (λ r. r.value ≡ earlier ++ map term_of (t ∷ ts)) (terms_taken n s.value ts s.gathered)
    (terms-are n s.value ts s.gathered) (λ r more. more ∙ ap (λ (xs : List Term). xs ++ map term_of ts) is ∙ append_assoc earlier (term_of t ∷ []) (map term_of ts)))

bracket-stands : (at : Place) (terms : List SetTerm) (g : Gathered)
    → Judged (StandsFor (denoted (bracket_qubits terms) (kets_vector (bracket_qubits terms) (map term_of terms) ∷ []))) (bracket_made at terms g)
unfolding bracket_made
bracket-stands at terms g =
    let n = bracket_qubits terms in
    let whole : List Term → Meant = λ ts. denoted n (kets_vector n ts ∷ []) in
    follows (λ s. s.value ≡ map term_of terms) (StandsFor (whole (map term_of terms))) (terms_taken n [] terms g) (λ s. node at (out_of_range n) (expr.Kets n s.value) n s.gathered)
    (terms-are n [] terms g) (λ s is.
    node-stands at (out_of_range n) (expr.Kets n s.value) n s.gathered (whole (map term_of terms)) (λ passed. ap whole is))

-- ---- the basis

all-stands : (at : Place) (number : ℕ) (g : Gathered) → Judged (StandsFor (denoted number (basis number))) (all_made at number g)
unfolding all_made
all-stands at number g = node-stands at (out_of_range number) (expr.All number) number g (denoted number (basis number)) (λ passed. refl)

-- ---- names

-- what a name means
abbrev set_known : Known → List ℕ → Meant
set_known known name = unwrap_or (lookup (bytes_eq name) known) None

-- the set that a name has
abbrev pub made_known : List Expr → Option (Option Made) → Option Meant
made_known exprs None = None
made_known exprs (Some None) = None
made_known exprs (Some (Some m)) = Some (made_at exprs m)

-- the sets that are known are those that are gathered
abbrev pub Knows : Known → Gathered → Type 0
Knows known g = (name : List ℕ) → lookup (bytes_eq name) known ≡ made_known g.exprs (named g.names name)

pub knows-grown : (known : Known) (g h : Gathered) → IsSound g → IsGrown g h → Knows known g → Knows known h
knows-grown known g h sound grown knows name =
    knows name ∙ by (named g.names name) refl ∙ ap (λ (names : List (List ℕ × Option Made)). made_known h.exprs (named names name)) (sym grown.names)
  where
    by : (o : Option (Option Made)) → named g.names name ≡ o → made_known g.exprs o ≡ made_known h.exprs o
    by None e = refl
    by (Some None) e = refl
    by (Some (Some m)) e = ap Some (sym (made-stays g h m grown (sound.names.made name m e)))

name-stands : (known : Known) (name : SetWord) (g : Gathered) → Knows known g → Judged (StandsFor (set_known known name.text)) (name_made name g)
unfolding name_made
name-stands known name g knows = by (named g.names name.text) refl
  where
    by : (o : Option (Option Made)) → named g.names name.text ≡ o → Judged (StandsFor (set_known known name.text)) (set_named name g o)
    by None e = tt
    by (Some None) e = tt
    by (Some (Some m)) e = sym (ap (λ (d : Option Meant). unwrap_or d None) (knows name.text ∙ ap (made_known g.exprs) e))

-- ---- what is meant

-- an expression that is put together soundly, and stands for this
pub record IsMeant (d : Meant) (g : Gathered) (s : Step Made) : Type 0 where
  pub fine : IsFine g s
  pub is : StandsFor d s

meant-from : (d : Meant) (g : Gathered) (c : Checked (Step Made)) → Judged (IsFine g) c → Judged (StandsFor d) c → Judged (IsMeant d g) c
meant-from d g (Ok s) fine is = record { fine = fine; is = is }
meant-from d g (Err e) fine is = fine

abbrev IsDirectJoin : Join → (Meant → Meant → Meant) → Type 0
IsDirectJoin join combine = (at : Place) (left right : Made) (g : Gathered) → Judged (StandsFor (combine (made_at g.exprs left) (made_at g.exprs right))) (join at left right g)

tensored-direct : IsDirectJoin tensored product_of
tensored-direct at left right g =
    node-stands at (nat_lt most_qubits (left.qubits + right.qubits)) (expr.Tensor left.expr right.expr) (left.qubits + right.qubits) g
    (product_of (made_at g.exprs left) (made_at g.exprs right)) (λ passed. product-behind g.exprs left.expr right.expr)

united-direct : IsDirectJoin united union_of
united-direct at left right g =
    node-stands at (not (left.qubits == right.qubits)) (expr.Union left.expr right.expr) left.qubits g
    (union_of (made_at g.exprs left) (made_at g.exprs right)) (λ passed. union-behind g.exprs left.expr right.expr)

powered-direct : (power : Option SetPower) (d : Meant) (g : Gathered) (s : Step Made) → IsMeant d g s → Judged (IsMeant (power_of power d) g) (powered power s)
powered-direct None d g s m = m
powered-direct (Some p) d g s m =
    let qubits = s.value.qubits * p.number in
    meant-from (power_of (Some p) d) g (powered (Some p) s) (powered-fine (Some p) g s m.fine)
    (node-stands p.at (out_of_range qubits) (expr.Power s.value.expr p.number) qubits s.gathered (power_of (Some p) d) (λ passed.
    power-behind s.gathered.exprs s.value.expr p.number s.value.qubits passed ∙ ap (power_of (Some p)) m.is))

-- ---- the tree

module _ (known : Known) where
  abbrev pub IsDirect : Meant → Meaning → Type 0
  IsDirect d run = (g : Gathered) → IsSound g → Knows known g → Judged (IsMeant d g) (run g)

  abbrev AreDirect : List Operand → List Meant → Type 0
  AreDirect [] [] = Unit {0}
  AreDirect [] (d ∷ ds) = ⊥
  AreDirect (x ∷ xs) [] = ⊥
  AreDirect (x ∷ xs) (d ∷ ds) = IsDirect d x.run × AreDirect xs ds

  module _ (join : Join) (combine : Meant → Meant → Meant) (good : IsGoodJoin join) (direct : IsDirectJoin join combine) where
    joined-direct : (xs : List Operand) (ds : List Meant) → AreDirect xs ds → (d : Meant) (g : Gathered) (s : Step Made) → IsMeant d g s → Knows known s.gathered
        → Judged (IsMeant (fold combine d ds) g) (joined join xs s)
    joined-direct [] [] h d g s m knows = m
    joined-direct [] (e ∷ ds) h d g s m knows = absurd h
    joined-direct (x ∷ xs) [] h d g s m knows = absurd h
    joined-direct (x ∷ xs) (e ∷ ds) h d g s m knows =
        let whole = fold combine d (e ∷ ds) in
        follows (IsMeant e s.gathered) (IsMeant whole g) (x.run s.gathered) (λ r. join x.at s.value r.value r.gathered >>= joined join xs) (h.0 s.gathered m.fine.sound knows) (λ r next.
        let left = made-grown s.gathered r.gathered s.value next.fine.grown m.fine.made in
        let is : combine (made_at r.gathered.exprs s.value) (made_at r.gathered.exprs r.value) ≡ combine d e =
        ap₂ combine (made-stays s.gathered r.gathered s.value next.fine.grown m.fine.made ∙ m.is) next.is in
        follows (IsMeant (combine d e) r.gathered) (IsMeant whole g) (join x.at s.value r.value r.gathered) (joined join xs)
        (meant-from (combine d e) r.gathered (join x.at s.value r.value r.gathered) (good x.at s.value r.value r.gathered next.fine.sound left next.fine.made)
        (subst (λ (z : Meant). Judged (StandsFor z) (join x.at s.value r.value r.gathered)) is (direct x.at s.value r.value r.gathered))) (λ z both.
        let more = grown_twice s.gathered r.gathered z.gathered next.fine.grown both.fine.grown in
        joined-direct xs ds h.1 (combine d e) g z (record {
          fine = record { sound = both.fine.sound; grown = grown_twice g s.gathered z.gathered m.fine.grown more; made = both.fine.made };
          is = both.is;
        }) (knows-grown known s.gathered z.gathered m.fine.sound more knows)))

    chained-direct : (xs : List Operand) (ds : List Meant) → AreDirect xs ds → IsDirect (in_turn combine ds) (chained join xs)
    chained-direct [] [] h g sound knows = tt
    chained-direct [] (d ∷ ds) h g sound knows = absurd h
    chained-direct (x ∷ xs) [] h g sound knows = absurd h
    chained-direct (x ∷ xs) (d ∷ ds) h g sound knows =
        follows (IsMeant d g) (IsMeant (fold combine d ds) g) (x.run g) (joined join xs) (h.0 g sound knows) (λ s m.
        joined-direct xs ds h.1 d g s m (knows-grown known g s.gathered sound m.fine.grown knows))

  abbrev factor_told : SetFactor → Meant
  factor_told = fold-SetFactor Meant Meant Meant (expr_meant known) factor_meant part_meant

  abbrev part_told : SetPart → Meant
  part_told = fold-SetPart Meant Meant Meant (expr_meant known) factor_meant part_meant

  abbrev DirectExpr : Type 0
  DirectExpr = (d : SetExpr) × IsDirect (meant known d) (meaning d)

  abbrev DirectFactor : Type 0
  DirectFactor = (d : SetFactor) × IsDirect (factor_told d) (factor_of d).run

  abbrev DirectPart : Type 0
  DirectPart = (d : SetPart) × IsDirect (part_told d) (part_of d).run

  abbrev expr_in : DirectExpr → SetExpr
  expr_in e = e.0

  abbrev factor_in : DirectFactor → SetFactor
  factor_in e = e.0

  abbrev part_in : DirectPart → SetPart
  part_in e = e.0

  factors-direct : (xs : List DirectFactor) → AreDirect (map factor_of (map factor_in xs)) (map factor_told (map factor_in xs))
  factors-direct [] = tt
  factors-direct (x ∷ xs) = (x.1, factors-direct xs)

  parts-direct : (xs : List DirectPart) → AreDirect (map part_of (map part_in xs)) (map part_told (map part_in xs))
  parts-direct [] = tt
  parts-direct (x ∷ xs) = (x.1, parts-direct xs)

  -- one level of a tree, and what its parts are made into and mean
  abbrev expr_level : SetExpr-F DirectExpr DirectFactor DirectPart → SetExpr-F SetExpr SetFactor SetPart
  expr_level = map-SetExpr DirectExpr DirectFactor DirectPart SetExpr SetFactor SetPart expr_in factor_in part_in

  abbrev factor_level : SetFactor-F DirectExpr DirectFactor DirectPart → SetFactor-F SetExpr SetFactor SetPart
  factor_level = map-SetFactor DirectExpr DirectFactor DirectPart SetExpr SetFactor SetPart expr_in factor_in part_in

  abbrev part_level : SetPart-F DirectExpr DirectFactor DirectPart → SetPart-F SetExpr SetFactor SetPart
  part_level = map-SetPart DirectExpr DirectFactor DirectPart SetExpr SetFactor SetPart expr_in factor_in part_in

  expr-direct : (y : SetExpr-F DirectExpr DirectFactor DirectPart)
      → IsDirect (expr_meant known (map-SetExpr SetExpr SetFactor SetPart Meant Meant Meant (meant known) factor_told part_told (expr_level y)))
      (expr_step (map-SetExpr SetExpr SetFactor SetPart Meaning Operand Operand meaning factor_of part_of (expr_level y)))
  expr-direct (SetExpr-F.Bracket at terms) g sound knows =
      let d = denoted (bracket_qubits terms) (kets_vector (bracket_qubits terms) (map term_of terms) ∷ []) in
      meant-from d g (bracket_made at terms g) (bracket_made-fine at terms g sound) (bracket-stands at terms g)
  expr-direct (SetExpr-F.All at number) g sound knows =
      meant-from (denoted number (basis number)) g (all_made at number g) (all_made-good at number g sound) (all-stands at number g)
  expr-direct (SetExpr-F.Name name) g sound knows =
      meant-from (set_known known name.text) g (name_made name g) (name_made-good name g sound) (name-stands known name g knows)
  expr-direct (SetExpr-F.Tensor factors) g sound knows =
      chained-direct tensored product_of tensored-good tensored-direct (map factor_of (map factor_in factors)) (map factor_told (map factor_in factors)) (factors-direct factors) g sound knows
  expr-direct (SetExpr-F.Union parts) g sound knows =
      chained-direct united union_of united-good united-direct (map part_of (map part_in parts)) (map part_told (map part_in parts)) (parts-direct parts) g sound knows

  factor-direct : (y : SetFactor-F DirectExpr DirectFactor DirectPart)
      → IsDirect (factor_meant (map-SetFactor SetExpr SetFactor SetPart Meant Meant Meant (meant known) factor_told part_told (factor_level y)))
      (factor_step (map-SetFactor SetExpr SetFactor SetPart Meaning Operand Operand meaning factor_of part_of (factor_level y))).run
  factor-direct y g sound knows =
      let d = meant known y.expr.0 in
      follows (IsMeant d g) (IsMeant (power_of y.power d) g) (meaning y.expr.0 g) (powered y.power) (y.expr.1 g sound knows) (powered-direct y.power d g)

  part-direct : (y : SetPart-F DirectExpr DirectFactor DirectPart)
      → IsDirect (part_meant (map-SetPart SetExpr SetFactor SetPart Meant Meant Meant (meant known) factor_told part_told (part_level y)))
      (part_step (map-SetPart SetExpr SetFactor SetPart Meaning Operand Operand meaning factor_of part_of (part_level y))).run
  part-direct y g sound knows = y.expr.1 g sound knows

  -- the same of equal ones
  same : (d e : Meant) (run next : Meaning) → d ≡ e → run ≡ next → IsDirect e next → IsDirect d run
  same d e run next a b h = subst (λ (x : Meant). IsDirect x run) (sym a) (subst (IsDirect e) (sym b) h)

  pub meaning-direct : (d : SetExpr) → IsDirect (meant known d) (meaning d)
  meaning-direct =
      ind-SetExpr (λ (d : SetExpr). IsDirect (meant known d) (meaning d)) (λ (d : SetFactor). IsDirect (factor_told d) (factor_of d).run) (λ (d : SetPart). IsDirect (part_told d) (part_of d).run)
      (λ x y is. subst (λ (z : SetExpr-F SetExpr SetFactor SetPart). IsDirect (meant known (roll-SetExpr z)) (meaning (roll-SetExpr z))) is
      (same (meant known (roll-SetExpr (expr_level y))) _ (meaning (roll-SetExpr (expr_level y))) _
      (fold-roll-SetExpr Meant Meant Meant (expr_meant known) factor_meant part_meant (expr_level y))
      (fold-roll-SetExpr Meaning Operand Operand expr_step factor_step part_step (expr_level y)) (expr-direct y)))
      (λ x y is. subst (λ (z : SetFactor-F SetExpr SetFactor SetPart). IsDirect (factor_told (roll-SetFactor z)) (factor_of (roll-SetFactor z)).run) is
      (same (factor_told (roll-SetFactor (factor_level y))) _ (factor_of (roll-SetFactor (factor_level y))).run _
      (fold-roll-SetFactor Meant Meant Meant (expr_meant known) factor_meant part_meant (factor_level y))
      (ap (λ (o : Operand). o.run) (fold-roll-SetFactor Meaning Operand Operand expr_step factor_step part_step (factor_level y))) (factor-direct y)))
      (λ x y is. subst (λ (z : SetPart-F SetExpr SetFactor SetPart). IsDirect (part_told (roll-SetPart z)) (part_of (roll-SetPart z)).run) is
      (same (part_told (roll-SetPart (part_level y))) _ (part_of (roll-SetPart (part_level y))).run _
      (fold-roll-SetPart Meant Meant Meant (expr_meant known) factor_meant part_meant (part_level y))
      (ap (λ (o : Operand). o.run) (fold-roll-SetPart Meaning Operand Operand expr_step factor_step part_step (part_level y))) (part-direct y)))
