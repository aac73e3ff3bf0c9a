use Rattle.std.proofs.Common.{◌≡◌, ◌≤◌, ◌<◌, ℕ, zero, suc, List, [], ◌∷◌, ◌++◌, Ok, Err, refl, sym, ap, ◌∙◌, ⊎_elim, arith, append-nil, add-one, rules}
use Rattle.std.specs.List.{flat_map}
use Rattle.std.proofs.lemmas.Bool.{cases_lt}
use Rattle.std.proofs.lemmas.List.Concat.{flat_map-append}
use Rattle.std.proofs.lemmas.Result.{err_from_is_err_and}
use Rattle.aq_parse.specs.declared.tree.Spot.{Spot}
use Rattle.aq_prog.specs.Digits.{tabulate}
use Rattle.aq_prog.specs.declared.gate.Gate.{Gate}
use Rattle.aq_base.specs.Checks.{◌>>◌}
use Rattle.aq_elab.specs.Known.{Checked}
use Rattle.aq_elab.specs.Calls.{no_repeat, no_repeats, played, gates_on, instance}
use Rattle.aq_elab.specs.declared.fault.ElabFault.{ElabFault}
use Rattle.aq_elab.specs.declared.recipe.Recipe.{Recipe}
use Rattle.aq_elab.proofs.calls.play.Goals as goal

-- ---- checks one after the other
check_ok : (c : Checked (Unit {0})) → (c >> Ok tt) ≡ c
check_ok (Ok u) = refl
check_ok (Err e) = refl

check_check : (a b c : Checked (Unit {0})) → (a >> (b >> c)) ≡ ((a >> b) >> c)
check_check (Ok u) b c = refl
check_check (Err e) b c = refl

no_repeats-push : (spots : List Spot) (rows : List (List ℕ)) (row : List ℕ) → no_repeats spots (rows ++ row ∷ []) ≡ (no_repeats spots rows >> no_repeat [] spots row)
no_repeats-push spots [] row = check_ok (no_repeat [] spots row)
no_repeats-push spots (r ∷ rows) row =
    ap (λ c. no_repeat [] spots r >> c) (no_repeats-push spots rows row) ∙ check_check (no_repeat [] spots r) (no_repeats spots rows) (no_repeat [] spots row)

-- ---- one instance more
given : (a b c : Checked (Unit {0})) (xs gates more whole : List Gate) → (a >> Ok xs) ≡ Ok gates → b ≡ Ok tt → c ≡ (a >> b) → whole ≡ xs ++ more → (c >> Ok whole) ≡ Ok (gates ++ more)
given (Ok u) b c xs gates more whole e f g h = cc
given (Err x) b c xs gates more whole e f g h = cc

stopped : (a b c : Checked (Unit {0})) (xs gates whole : List Gate) (e : ElabFault) → (a >> Ok xs) ≡ Ok gates → b ≡ Err e → c ≡ (a >> b) → (c >> Ok whole) ≡ Err e
stopped (Ok u) b c xs gates whole e f g h = rw (h, g)
stopped (Err x) b c xs gates whole e f g h = cc

kept : (a b c : Checked (Unit {0})) (xs whole : List Gate) (e : ElabFault) → (a >> Ok xs) ≡ Err e → c ≡ (a >> b) → (c >> Ok whole) ≡ Err e
kept (Ok u) b c xs whole e f h = cc
kept (Err x) b c xs whole e f h = rw h f

gates_push : (recipe : Recipe) (spots : List Spot) (rows : List (List ℕ)) (row : List ℕ) (gates : List Gate) → played recipe spots rows ≡ Ok gates → no_repeat [] spots row ≡ Ok tt → played recipe spots (rows ++ row ∷ []) ≡ Ok (gates ++ gates_on recipe row)
gates_push recipe spots rows row gates e f =
    let one = append-nil (gates_on recipe row) in
    given (no_repeats spots rows) (no_repeat [] spots row) (no_repeats spots (rows ++ row ∷ [])) (flat_map (gates_on recipe) rows) gates (gates_on recipe row) (flat_map (gates_on recipe) (rows ++ row ∷ [])) e f (no_repeats-push spots rows row) (flat_map-append (gates_on recipe) rows (row ∷ []) ∙ ap (λ more. flat_map (gates_on recipe) rows ++ more) one)

fault_push : (recipe : Recipe) (spots : List Spot) (rows : List (List ℕ)) (row : List ℕ) (gates : List Gate) (e : ElabFault) → played recipe spots rows ≡ Ok gates → no_repeat [] spots row ≡ Err e → played recipe spots (rows ++ row ∷ []) ≡ Err e
fault_push recipe spots rows row gates e f g = stopped (no_repeats spots rows) (no_repeat [] spots row) (no_repeats spots (rows ++ row ∷ [])) _ gates _ e f g (no_repeats-push spots rows row)

kept_push : (recipe : Recipe) (spots : List Spot) (rows : List (List ℕ)) (row : List ℕ) (e : ElabFault) → played recipe spots rows ≡ Err e → played recipe spots (rows ++ row ∷ []) ≡ Err e
kept_push recipe spots rows row e f = kept (no_repeats spots rows) (no_repeat [] spots row) (no_repeats spots (rows ++ row ∷ [])) _ _ e f (no_repeats-push spots rows row)

-- a fault stays the first one, however many instances follow
still : (recipe : Recipe) (spots : List Spot) (f : ℕ → List ℕ) (e : ElabFault) (n m : ℕ) → m ≤ n → played recipe spots (tabulate m f) ≡ Err e → played recipe spots (tabulate n f) ≡ Err e
still recipe spots f e zero m h p = let z : zero ≡ m = omega arith in ap (λ k. played recipe spots (tabulate k f)) z ∙ p
still recipe spots f e (suc n) m h p = ⊎_elim all (λ le. kept_push recipe spots (tabulate n f) (f n) e (still recipe spots f e n m le p)) (cases_lt n m)
  where
    all : n < m → played recipe spots (tabulate (suc n) f) ≡ Err e
    all lt = let z : suc n ≡ m = omega arith in ap (λ k. played recipe spots (tabulate k f)) z ∙ p

pub returns-in_err-check_repeat : goal.returns-in_err-check_repeat
returns-in_err-check_repeat c =
    let p = err_from_is_err_and c.from_residual-in_err-check_repeat.result c.from_residual-in_err-check_repeat.ensures.1 in
    let q : c.deref.result.now ≡ instance c.args.spans.now c.loop-index.index = search rules in
    let e : no_repeat [] c.args.spots.now (instance c.args.spans.now c.loop-index.index) ≡ Err c.in_err-check_repeat.field-0.0 = rw (← q) (sym c.in_err-check_repeat.ensures) in
    let f : played c.args.recipe.now c.args.spots.now (tabulate (suc c.loop-index.index) (instance c.args.spans.now)) ≡ Err c.in_err-check_repeat.field-0.0 = fault_push c.args.recipe.now c.args.spots.now (tabulate c.loop-index.index (instance c.args.spans.now)) _ c.loop-index.gates _ c.loop-index.invariant e in
    rw (p.1, p.2) (λ h. still c.args.recipe.now c.args.spots.now (instance c.args.spans.now) _ c.args.times (suc c.loop-index.index) (omega arith) f)

pub loop-index-preserved : goal.loop-index-preserved
loop-index-preserved c =
    let q : c.deref.result.now ≡ instance c.args.spans.now c.loop-index.index = search rules in
    let r : c.deref-in-loop-index.result.now ≡ instance c.args.spans.now c.loop-index.index = search rules in
    let e : no_repeat [] c.args.spots.now (instance c.args.spans.now c.loop-index.index) ≡ Ok tt = rw (← q) (sym c.in_ok-check_repeat.ensures) in
    let g : c.push_gates.new.gates ≡ c.loop-index.gates ++ gates_on c.args.recipe.now (instance c.args.spans.now c.loop-index.index) = rw (← r) (search rules) in
    rw (add-one, g) (gates_push c.args.recipe.now c.args.spots.now (tabulate c.loop-index.index (instance c.args.spans.now)) _ c.loop-index.gates c.loop-index.invariant e)
