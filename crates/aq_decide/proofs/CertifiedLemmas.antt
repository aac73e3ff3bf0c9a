-- The same automata have the same certificates.
use Rattle.std.proofs.Common.{◌≡◌, ℕ, zero, suc, ◌+◌, ◌*◌, ◌^◌, ◌<◌, ◌≤◌, List, [], ◌∷◌, ◌++◌, map, length, take, drop, get_or, slice_get, slice_index, Option, Some, Result, Ok, Err, IfOk, OnOk, All, refl, sym, ap, ap₂, ◌∙◌, subst, arith}
use Rattle.std.proofs.lemmas.List.{take_all, take_more}
use Rattle.std.proofs.lemmas.List.Elements.{All-contains, All-push, All-weaker}
use Rattle.std.proofs.lemmas.List.Sums.{sum_by-cons}
use Rattle.std.proofs.lemmas.Option.{slice_get_within}
use Rattle.aq_ring.specs.Fractions.{Amplitude}
use Rattle.aq_ring.specs.Vectors.{IsZeroVector, Proportional}
use Rattle.aq_store.specs.Count.{Count, after}
use Rattle.aq_store.specs.Words.{IsWord, words}
use Rattle.aq_store.specs.Levels.{levels_from}
use Rattle.aq_store.specs.declared.lsta.Lsta.{Lsta}
use Rattle.aq_store.specs.declared.store.Stop.{Stop}
use Rattle.aq_cert.specs.Goals.{goal_rest, levels_in, rest_of}
use Rattle.aq_cert.specs.Macros.{IsEdge, IsEnd}
use Rattle.aq_cert.specs.Meaning.{Included, IsMatched, amplitudes}
use Rattle.aq_cert.specs.Rows.{item_at, row_at}
use Rattle.aq_cert.specs.Valid.{HasEdges, HasEnds, HasPlaces, IsShaped, IsValid, goal_level, left_level, read_macro, read_pairs}
use Rattle.aq_cert.specs.declared.cert.Cert.{Cert}
use Rattle.aq_cert.specs.declared.cert.Macro.{Macro}
use Rattle.aq_cert.specs.declared.cert.Rel.{Rel}
use Rattle.aq_include.specs.Answers.{Answers, IsPaid, cert_size, goal_words, search_budget}
use Rattle.aq_include.specs.Costs.{Takes}
use Rattle.aq_include.specs.declared.inclusion.Answer.{Answer}
use Rattle.aq_include.specs.declared.inclusion.Answer.TheVariants as answer
use Rattle.aq_set_build.specs.Tensors.{Table}
use Rattle.aq_symbolic.specs.Steps.{IsSameSet}
use Rattle.aq_decide.specs.Certified.{AreCertified, AreCertifiedAfter, AreSameSets, IsCertifiedBy, IsFound}
use Rattle.aq_decide.specs.Kept.{alone}
use Rattle.aq_decide.specs.declared.certified.Finding.{Finding}
use Rattle.aq_decide.specs.declared.certified.Findings.{Findings}
use Rattle.aq_decide.proofs.Elements.{some_is, zip_left, zip_length, zip_push}

-- one more that is the same
pub sets_more : (xs ys : List Lsta) (i : ℕ) (a b : Lsta) → i < length xs → i < length ys → a ≡ get_or xs i a → b ≡ get_or ys i b → IsSameSet a b → AreSameSets (take i xs) (take i ys) → AreSameSets (take (i + 1) xs) (take (i + 1) ys)
sets_more xs ys i a b m n p q s h =
    let x : take (i + 1) xs ≡ take i xs ++ a ∷ [] = take_more xs i a m ∙ ap (λ (z : Lsta). take i xs ++ z ∷ []) (sym p) in
    let y : take (i + 1) ys ≡ take i ys ++ b ∷ [] = take_more ys i b n ∙ ap (λ (z : Lsta). take i ys ++ z ∷ []) (sym q) in
    subst (λ (l : List Lsta). AreSameSets l (take (i + 1) ys)) (sym x) (subst (λ (l : List Lsta). AreSameSets (take i xs ++ a ∷ []) l) (sym y) (zip_push IsSameSet (take i xs) (take i ys) a b h s))

pub sets_whole : (xs ys : List Lsta) (i : ℕ) → length xs ≤ i → length ys ≤ i → AreSameSets (take i xs) (take i ys) → AreSameSets xs ys
sets_whole xs ys i m n h = subst (λ (l : List Lsta). AreSameSets l ys) (take_all i xs m) (subst (λ (l : List Lsta). AreSameSets (take i xs) l) (take_all i ys n) h)

-- what is made of an automaton's root and shape is the same
zip_option : {X : Type 0} (f : Option Lsta → X) → ((a b : Lsta) → IsSameSet a b → f (Some b) ≡ f (Some a)) → (goals others : List Lsta) → AreSameSets goals others → (g : ℕ) → f (slice_get others g) ≡ f (slice_get goals g)
zip_option f r [] [] h g = refl
zip_option f r [] (y ∷ ys) h g = absurd h
zip_option f r (x ∷ xs) [] h g = absurd h
zip_option f r (x ∷ xs) (y ∷ ys) h zero = r x y h.0
zip_option f r (x ∷ xs) (y ∷ ys) h (suc g) = zip_option f r xs ys h.1 g

same_words : (goals others : List Lsta) → AreSameSets goals others → goal_words others ≡ goal_words goals
same_words [] [] h = refl
same_words [] (y ∷ ys) h = absurd h
same_words (x ∷ xs) [] h = absurd h
same_words (x ∷ xs) (y ∷ ys) h =
    let f : Lsta → ℕ = λ goal. words goal.shape.items in
    let a = sum_by-cons f x xs in
    let b = sum_by-cons f y ys in
    let e = ap words h.0.shape in
    let rest = same_words xs ys h.1 in
    omega (arith, a, b, e, rest)

-- a macro with nodes in place of places, by the levels
abbrev read_with : List ℕ → (ℕ → List ℕ) → Macro → Macro
read_with left right m = record {
  domain = map (slice_index left) m.domain;
  rels = map (λ (rel : Rel). record { goal = rel.goal; pairs = read_pairs left (right rel.goal) rel.pairs }) m.rels;
}

module _ (table : Table) (left made : Lsta) (goals others : List Lsta) (same : IsSameSet left made) (all : AreSameSets goals others) where
  left_same : (k : ℕ) → left_level table made others k ≡ left_level table left goals k
  left_same k = ap₂ (λ (shape : List ℕ) (root : ℕ). row_at (levels_from table shape (root ∷ [])) k) same.shape same.root

  goal_same : (g k : ℕ) → goal_level table made others g k ≡ goal_level table left goals g k
  goal_same g k = ap (λ (levels : List (List ℕ)). row_at levels k)
      (zip_option (λ o. levels_in table o) (λ a b s. ap₂ (λ (shape : List ℕ) (root : ℕ). levels_from table shape (root ∷ [])) s.shape s.root) goals others all g)

  rest_at : (k g : ℕ) → goal_rest others k g ≡ goal_rest goals k g
  rest_at k g = zip_option (λ o. rest_of o k) (λ a b s. ap (λ (shape : List ℕ). drop k shape) s.shape) goals others all g

  rest_same : (k : ℕ) → goal_rest others k ≡ goal_rest goals k
  rest_same k = λ i g. rest_at k g i

  macro_same : (k : ℕ) (m : Macro) → read_macro table made others k m ≡ read_macro table left goals k m
  macro_same k m = λ i. read_with (left_same k i) (λ g. goal_same g k i) m

  pub many : length goals ≡ length others
  many = zip_length IsSameSet goals others all

  places_same : (cert : Cert) → HasPlaces table left goals cert → HasPlaces table made others cert
  places_same cert p = record {
    domain = λ k i x m e c. subst (λ (l : List ℕ). x < length l) (sym (left_same k)) (p.domain k i x m e c);
    goal = λ k i j m rel e c. subst (λ (n : ℕ). rel.goal < n) many (p.goal k i j m rel e c);
    pairs = λ k i j m rel q a b c. (
        let z = p.pairs k i j m rel q a b c in
        (subst (λ (l : List ℕ). q.0 < length l) (sym (left_same k)) z.0, subst (λ (l : List ℕ). q.1 < length l) (sym (goal_same rel.goal k)) z.1)
        );
  }

  edges_same : (cert : Cert) → HasEdges table left goals cert → HasEdges table made others cert
  edges_same cert h = record {
    each = λ k i c m e a b. (
        let z = h.each k i c m e a b in
        let to = subst (λ (x : Macro). IsEdge table c (goal_rest goals k) (read_macro table left goals k m) x e.from) (sym (macro_same (k + 1) z.to)) z.edge in
        let here = subst (λ (x : Macro). IsEdge table c (goal_rest goals k) x (read_macro table made others (k + 1) z.to) e.from) (sym (macro_same k m)) to in
        record {
          to = z.to;
          here = z.here;
          edge = subst (λ (r : ℕ → List ℕ). IsEdge table c r (read_macro table made others k m) (read_macro table made others (k + 1) z.to) e.from) (sym (rest_same k)) here;
        }
        );
  }

  ends_same : (cert : Cert) → HasEnds table left goals alone cert → HasEnds table made others alone cert
  ends_same cert h = record {
    each = λ i m e a b. (
        let n : length made.shape.items ≡ length left.shape.items = ap (λ (l : List ℕ). length l) same.shape in
        let z = h.each i m e (subst (λ (k : ℕ). item_at cert.macros k i ≡ Some m) n a) b in
        subst (λ (x : Macro). IsEnd alone table x e) (sym (ap (λ (k : ℕ). read_macro table made others k m) n ∙ macro_same (length left.shape.items) m)) z
        );
  }

  valid_same : (cert : Cert) → IsValid alone table left goals cert → IsValid alone table made others cert
  valid_same cert v = record {
    shape = subst (λ (s : List ℕ). IsShaped s cert) (sym same.shape) v.shape;
    places = places_same cert v.places;
    root = v.root;
    edges = edges_same cert v.edges;
    ends = ends_same cert v.ends;
  }

  matched_same : (v : List Amplitude) → IsMatched alone table goals v → IsMatched alone table others v
  matched_same v m =
      let other = zip_left IsSameSet goals others m.number m.goal all m.listed in
      record {
        number = m.number;
        goal = other.0;
        listed = other.1;
        word = m.word;
        is_word = subst (λ (s : List ℕ). IsWord s m.word) (sym other.2.shape) m.is_word;
        proportional = subst (λ (r : ℕ). Proportional v (amplitudes alone table m.word r)) (sym other.2.root) m.proportional;
      }

  included_same : Included alone table left goals → Included alone table made others
  included_same h = λ word nonzero.
      let z = h word (subst (λ (r : ℕ). ¬ (IsZeroVector (amplitudes alone table word r))) same.root nonzero) in
      subst (λ (r : ℕ). IsMatched alone table others (amplitudes alone table word r)) (sym same.root) (matched_same (amplitudes alone table word left.root) z)

  pub answers_same : (cert : Cert) → Answers alone table left goals (answer.Included cert) → Answers alone table made others (answer.Included cert)
  answers_same cert h = (valid_same cert h.0, included_same h.1)

  pub budget_same : search_budget made others ≡ search_budget left goals
  budget_same = ap₂ (λ (shape : List ℕ) (n : ℕ). 2 * (words shape * (1 + n) * 2 ^ length shape)) same.shape (same_words goals others all)

-- ---- certificates, by their numbers
slice_get-front : {A : Type 0} (xs : List A) (x y : A) (k : ℕ) → slice_get xs k ≡ Some x → slice_get (xs ++ y ∷ []) k ≡ Some x
slice_get-front [] x y zero e = cc
slice_get-front [] x y (suc k) e = cc
slice_get-front (z ∷ xs) x y zero e = e
slice_get-front (z ∷ xs) x y (suc k) e = slice_get-front xs x y k e

slice_get-last : {A : Type 0} (xs : List A) (y : A) → slice_get (xs ++ y ∷ []) (length xs) ≡ Some y
slice_get-last [] y = refl
slice_get-last (x ∷ xs) y = slice_get-last xs y

pub certified_more : (table : Table) (certs : List Cert) (cert : Cert) (known : Findings) → AreCertified table certs known → AreCertified table (certs ++ cert ∷ []) known
certified_more table certs cert known h =
    All-weaker (IsCertifiedBy table certs) (IsCertifiedBy table (certs ++ cert ∷ []))
    (λ f c. record { cert = c.cert; listed = slice_get-front certs c.cert cert f.cert c.listed; answers = c.answers; paid = c.paid; cheap = c.cheap }) known.entries h

-- ---- a finding
module _ (table : Table) (certs : List Cert) (known : Findings) (left : Lsta) (goals : List Lsta) (f : Finding) (found : IsFound known left goals f) (all : AreCertified table certs known) where
  found_cert : IsCertifiedBy table certs f
  found_cert = All-contains (IsCertifiedBy table certs) known.entries f all found.there

  pub price_within : f.price ≤ search_budget left goals
  price_within =
      let c = found_cert in
      let e = budget_same table f.left left f.goals goals found.same_left found.same_goals in
      omega (arith, c.cheap, e)

  pub number_within : f.cert < length certs
  number_within = let c = found_cert in slice_get_within certs f.cert c.cert c.listed

  module _ (a : Answer) (r : (cert : Cert) × (slice_get certs f.cert ≡ Some cert) × (a ≡ answer.Included cert)) where
    same_cert : found_cert.cert ≡ r.0
    same_cert = some_is found_cert.cert r.0 (sym found_cert.listed ∙ r.1)

    pub recalled_answer : Answers alone table left goals a
    recalled_answer =
        subst (Answers alone table left goals) (sym r.2) (answers_same table f.left left f.goals goals found.same_left found.same_goals r.0 (subst (λ (x : Cert). Answers alone table f.left f.goals (answer.Included x)) same_cert found_cert.answers))

    pub recalled_known : AreCertifiedAfter table certs known a
    recalled_known = subst (AreCertifiedAfter table certs known) (sym r.2) (certified_more table certs r.0 known all)

    pub recalled_paid : (before now : Count) → now ≡ after f.price before → IsPaid goals before now a
    recalled_paid before now e =
        let n = many table f.left left f.goals goals found.same_left found.same_goals in
        let t : now.taken ≡ before.taken + f.price = ap (λ (c : Count). c.taken) e in
        let s : cert_size found_cert.cert ≡ cert_size r.0 = ap cert_size same_cert in
        let p = found_cert.paid in
        let paid : IsPaid goals before now (answer.Included r.0) = omega (arith, n, t, s, p) in
        subst (IsPaid goals before now) (sym r.2) paid

  pub paid_if : (before now : Count) (result : Result Answer (Stop Amplitude)) → IfOk result (λ a. (cert : Cert) × (slice_get certs f.cert ≡ Some cert) × (a ≡ answer.Included cert)) → OnOk result (now ≡ after f.price before)
      → IfOk result (λ a. IsPaid goals before now a)
  paid_if before now (Ok a) r e = recalled_paid a r before now e
  paid_if before now (Err why) r e = tt

-- ---- one that is new
pub noted : (table : Table) (certs : List Cert) (old new : Findings) (left : Lsta) (goals : List Lsta) (f : Finding) (cert : Cert) (before now : Count) → new.entries ≡ old.entries ++ f ∷ [] → IsSameSet left f.left
    → AreSameSets goals f.goals → f.cert ≡ length certs → f.price + before.taken ≡ now.taken → AreCertified table certs old → Answers alone table left goals (answer.Included cert) → IsPaid goals before now (answer.Included cert)
    → Takes (search_budget left goals) before now → AreCertified table (certs ++ cert ∷ []) new
noted table certs old new left goals f cert before now e same all number price known answers paid takes =
    let budget = budget_same table left f.left goals f.goals same all in
    let n = many table left f.left goals f.goals same all in
    let here : IsCertifiedBy table (certs ++ cert ∷ []) f = record {
      cert = cert;
      listed = ap (λ (k : ℕ). slice_get (certs ++ cert ∷ []) k) number ∙ slice_get-last certs cert;
      answers = answers_same table left f.left goals f.goals same all cert answers;
      paid = omega (arith, paid, n, price);
      cheap = omega (arith, budget, takes.cheap, price);
    } in
    subst (λ (l : List Finding). All (IsCertifiedBy table (certs ++ cert ∷ [])) l) (sym e) (All-push (IsCertifiedBy table (certs ++ cert ∷ [])) old.entries f (certified_more table certs cert old known) here)
