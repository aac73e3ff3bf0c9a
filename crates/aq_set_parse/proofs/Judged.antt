-- What reading a set file says of its tokens.
use Rattle.std.proofs.Common.{◌⊎◌, Result, ◌≡◌, ℕ, zero, suc, ◌+◌, List, [], ◌∷◌, ◌++◌, Ok, Err, None, refl, sym, ap, subst, ◌∙◌, append_assoc, arith, inl, inr}
use Rattle.std.proofs.lemmas.List.{append-nil, append_cancel_right}
use Rattle.aq_grammar.specs.Words.{first}
use Rattle.aq_grammar.proofs.Reading.{ok_pair, ok_no_err, bind_ok, bind_err, err_pair}
use Rattle.aq_grammar.proofs.Ends.{EndsIn}
use Rattle.aq_set_parse.specs.Piece.{SetPiece}
use Rattle.aq_set_parse.specs.SetGrammar.{IsFile}
use Rattle.aq_set_parse.specs.Reading.{file_at, ended, whole_at}
use Rattle.aq_set_parse.specs.Places.{IsTooDeep}
use Rattle.aq_set_parse.specs.Verdict.{Viable, EndsInEnd, IsFault, TreeFault, GivesTree, Tells}
use Rattle.aq_set_parse.specs.declared.reader.Fault.{Fault}
use Rattle.aq_set_parse.specs.declared.reader.Fault.TheVariants as faults
use Rattle.aq_set_parse.specs.declared.tree.SetTree.{SetTree}
use Rattle.aq_set_parse.specs.declared.parse_fault.SetParseFault.{SetParseFault}
use Rattle.aq_set_parse.specs.declared.parse_fault.SetParseFault.TheVariants as told
use Rattle.aq_set_parse.proofs.Marks.{last}
use Rattle.aq_set_parse.proofs.FileLaws.{file-Reads}
use Rattle.aq_set_parse.proofs.Deepening.{deeper_fault}
use Rattle.aq_set_parse.proofs.Endings.{has_token}
use Rattle.aq_set_parse.proofs.Ways.{deep-Sinks}

file_deeper : (more deep : ℕ) (tree : SetTree) (ts : List SetPiece) → IsFile deep tree ts → IsFile (more + deep) tree ts
file_deeper zero deep tree ts l = let z : 0 + deep ≡ deep = omega arith in rw z l
file_deeper (suc more) deep tree ts l =
    let z : suc more + deep ≡ suc (more + deep) = omega arith in
    rw z ((file-Reads (more + deep)).forget ts None tree (file_deeper more deep tree ts l))

file_read : (deep : ℕ) (tree : SetTree) (ts : List SetPiece) → IsFile deep tree ts → file_at deep ts ≡ Ok (tree, [])
file_read deep tree ts l = ap (file_at deep) (sym (append-nil ts)) ∙ (file-Reads deep).complete ts [] tree l

-- a token list has at most one tree
pub one_tree : (d e : ℕ) (x y : SetTree) (ts : List SetPiece) → IsFile d x ts → IsFile e y ts → x ≡ y
one_tree d e x y ts l m =
    let z : e + d ≡ d + e = omega arith in
    let p = file_read (e + d) x ts (file_deeper e d x ts l) in
    let q = file_read (d + e) y ts (file_deeper d e y ts m) in
    (ok_pair {F = Fault} x y [] [] (sym p ∙ ap (λ (n : ℕ). file_at n ts) z ∙ q)).0

not_both : (deep : ℕ) (tree : SetTree) (ts rest : List SetPiece) (k : Fault) → IsFile deep tree ts → file_at deep ts ≡ Err (k, rest) → ⊥
not_both deep tree ts rest k l e = ok_no_err {A = SetTree} (tree, []) (k, rest) (sym (file_read deep tree ts l) ∙ e)

unexpected_not_deep : faults.Unexpected ≡ faults.TooDeep → ⊥
unexpected_not_deep e = cc

not_viable : (deep : ℕ) (rest front more : List SetPiece) (t : SetPiece) → ((other : List SetPiece) → first other ≡ first rest → file_at deep (front ++ other) ≡ Err (faults.Unexpected, other)) → rest ≡ t ∷ more → Viable (front ++ t ∷ []) → ⊥
not_viable deep rest front more t local e v =
    let other = t ∷ v.0 in
    let stops = local other (sym (ap first e)) in
    let whole : front ++ other ≡ (front ++ t ∷ []) ++ v.0 = sym (append_assoc front (t ∷ []) v.0) in
    let z : v.1 + deep ≡ deep + v.1 = omega arith in
    let deeply = deeper_fault v.1 deep (front ++ other) other faults.Unexpected unexpected_not_deep stops in
    not_both (deep + v.1) v.2 (front ++ other) other faults.Unexpected
    (subst (λ (us : List SetPiece). IsFile (deep + v.1) v.2 us) (sym whole) (file_deeper deep v.1 v.2 ((front ++ t ∷ []) ++ v.0) v.3))
    (ap (λ (n : ℕ). file_at n (front ++ other)) (sym z) ∙ deeply)

deep_at : (deep : ℕ) (ts front rest : List SetPiece) (k : Fault) → ts ≡ front ++ rest → file_at deep ts ≡ Err (k, rest) → k ≡ faults.TooDeep → IsTooDeep deep front (first rest)
deep_at deep ts front rest k parts e is =
    let s = (deep-Sinks deep).found ts rest (e ∙ ap (λ (c : Fault). Err (c, rest)) is) in
    subst (λ (f : List SetPiece). IsTooDeep deep f (first rest)) (append_cancel_right s.front front rest (sym s.parts ∙ parts)) s.leads

deep_reads : (deep : ℕ) (ts a b : List SetPiece) → ts ≡ a ++ b → IsTooDeep deep a (first b) → file_at deep ts ≡ Err (faults.TooDeep, b)
deep_reads deep ts a b parts d = ap (file_at deep) parts ∙ (deep-Sinks deep).back a b d

ends_in : (ts : List SetPiece) → EndsInEnd ts → EndsIn last ts
ends_in [] e = e
ends_in (t ∷ []) e = e
ends_in (t ∷ u ∷ us) e = ends_in (u ∷ us) e

fault_is : (deep : ℕ) (ts rest : List SetPiece) (k : Fault) → file_at deep ts ≡ Err (k, rest) → IsFault deep ts k rest
fault_is deep ts rest k e =
    let s = (file-Reads deep).fails ts rest k e in
    record {
      front = s.front;
      parts = s.parts;
      before = (s.ending, suc deep, s.value, s.spelled);
      at_token = λ t more r u v. not_viable deep rest s.front more t (λ other same. s.local other same ∙ ap (λ (c : Fault). Err (c, other)) u) r v;
      deep_here = deep_at deep ts s.front rest k s.parts e;
      deep_only = λ a b parts d. let p = err_pair {A = SetTree} k faults.TooDeep rest b (sym e ∙ deep_reads deep ts a b parts d) in (p.0, sym p.1);
      has_token = λ ends none. has_token deep ts k (ends_in ts ends) (e ∙ ap (λ (r : List SetPiece). Err (k, r)) none);
      no_tree = λ tree l. not_both deep tree ts rest k l e;
    }

-- ---- the whole list

ended_ok : (v : SetTree × List SetPiece) (tree : SetTree) → ended v ≡ Ok (tree, []) → (v.0 ≡ tree) × (v.1 ≡ [])
ended_ok (x, []) tree e = ((ok_pair {F = Fault} x tree [] [] e).0, refl)
ended_ok (x, t ∷ ts) tree e = absurd cc

found_is : (deep : ℕ) (ts : List SetPiece) (tree : SetTree) → whole_at deep ts ≡ Ok (tree, []) → IsFile deep tree ts
unfolding whole_at
found_is deep ts tree e =
    let s = bind_ok (file_at deep ts) ended (tree, []) e in
    let t = ended_ok s.0 tree s.2 in
    let f = (file-Reads deep).sound ts s.0.1 s.0.0 s.1 in
    let whole : ts ≡ f.front = f.parts ∙ ap (λ (r : List SetPiece). f.front ++ r) t.1 ∙ append-nil f.front in
    subst (λ (us : List SetPiece). IsFile deep tree us) (sym whole) (subst (λ (x : SetTree). IsFile deep x f.front) t.0 f.spelled)

whole_read : (deep : ℕ) (tree : SetTree) (ts : List SetPiece) → IsFile deep tree ts → whole_at deep ts ≡ Ok (tree, [])
unfolding whole_at
whole_read deep tree ts l = rw (file_read deep tree ts l) refl

no_whole : (deep : ℕ) (tree : SetTree) (ts : List SetPiece) (d : Fault × List SetPiece) → IsFile deep tree ts → whole_at deep ts ≡ Err d → ⊥
no_whole deep tree ts d l e = ok_no_err {A = SetTree} (tree, []) d (sym (whole_read deep tree ts l) ∙ e)

cons_no_nil : (t : SetPiece) (ts : List SetPiece) → t ∷ ts ≡ [] → ⊥
cons_no_nil t ts e = cc

not_deep_here : (k : Fault) → faults.Unexpected ≡ k → k ≡ faults.TooDeep → ⊥
not_deep_here k e f = cc

-- tokens behind the end
behind : (deep : ℕ) (ts : List SetPiece) (v : SetTree × List SetPiece) (k : Fault) (rest : List SetPiece) → file_at deep ts ≡ Ok v → ended v ≡ Err (k, rest) → ((tree : SetTree) → IsFile deep tree ts → ⊥) → IsFault deep ts k rest
behind deep ts (x, []) k rest e g none = absurd cc
behind deep ts (x, t ∷ more) k rest e g none =
    let f = (file-Reads deep).sound ts (t ∷ more) x e in
    let p = err_pair {A = SetTree} faults.Unexpected k (t ∷ more) rest g in
    record {
      front = f.front;
      parts = f.parts ∙ ap (λ (r : List SetPiece). f.front ++ r) p.1;
      before = ([], deep, x, subst (λ (us : List SetPiece). IsFile deep x us) (sym (append-nil f.front)) f.spelled);
      at_token = λ u others r is v.
          let other = u ∷ v.0 in
          let whole : f.front ++ other ≡ (f.front ++ u ∷ []) ++ v.0 = sym (append_assoc f.front (u ∷ []) v.0) in
          let z : v.1 + deep ≡ deep + v.1 = omega arith in
          let one = file_read (deep + v.1) v.2 (f.front ++ other) (subst (λ (us : List SetPiece). IsFile (deep + v.1) v.2 us) (sym whole) (file_deeper deep v.1 v.2 ((f.front ++ u ∷ []) ++ v.0) v.3)) in
          let two = (file-Reads (v.1 + deep)).complete f.front other x (file_deeper v.1 deep x f.front f.spelled) in
          let same = ok_pair {F = Fault} x v.2 other [] (sym two ∙ ap (λ (n : ℕ). file_at n (f.front ++ other)) z ∙ one) in
          cons_no_nil u v.0 same.1;
      deep_here = λ is. absurd (not_deep_here k p.0 is);
      deep_only = λ a b parts d. absurd (ok_no_err {A = SetTree} (x, t ∷ more) (faults.TooDeep, b) (sym e ∙ deep_reads deep ts a b parts d));
      has_token = λ ends nil. cons_no_nil t more (p.1 ∙ nil);
      no_tree = none;
    }

stopped_is : (deep : ℕ) (ts rest : List SetPiece) (k : Fault) → whole_at deep ts ≡ Err (k, rest) → IsFault deep ts k rest
unfolding whole_at
stopped_is deep ts rest k e =
    elim (bind_err (file_at deep ts) ended (k, rest) e) [
      | inl h ↦ fault_is deep ts rest k h
      | inr h ↦ behind deep ts h.0 k rest h.1 h.2 (λ tree l. no_whole deep tree ts (k, rest) l (unfold whole_at in e))
    ]

-- ---- what a function that reads a whole list says

pub tree_found : (deep : ℕ) (ts : List SetPiece) (tree : SetTree) → whole_at deep ts ≡ Ok (tree, []) → IsFile deep tree ts
tree_found = found_is

pub tree_only : (deep : ℕ) (ts : List SetPiece) (found : SetTree) → whole_at deep ts ≡ Ok (found, []) → (tree : SetTree) → IsFile deep tree ts → found ≡ tree
tree_only deep ts found g tree l = one_tree deep deep found tree ts (found_is deep ts found g) l

pub no_other : (deep : ℕ) (ts rest : List SetPiece) (k : Fault) (e : SetParseFault) → whole_at deep ts ≡ Err (k, rest) → (tree : SetTree) → IsFile deep tree ts → GivesTree (Err e) tree
no_other deep ts rest k e g tree l = absurd (no_whole deep tree ts (k, rest) l g)

fault_at : (deep : ℕ) (ts rest : List SetPiece) (k l : Fault) → k ≡ l → whole_at deep ts ≡ Err (k, rest) → IsFault deep ts l rest
fault_at deep ts rest k l e g = subst (λ (c : Fault). IsFault deep ts c rest) e (stopped_is deep ts rest k g)

pub tree_fault : (deep : ℕ) (ts rest : List SetPiece) (k : Fault) (e : SetParseFault) → whole_at deep ts ≡ Err (k, rest) → Tells e k rest → TreeFault deep e ts
tree_fault deep ts rest k (told.Unexpected at token) g t = (rest, fault_at deep ts rest k faults.Unexpected t.0 g, t.1, t.2)
tree_fault deep ts rest k (told.TooDeep at) g t = (rest, fault_at deep ts rest k faults.TooDeep t.0 g, t.1)
tree_fault deep ts rest k told.Memory g t = tt

-- ---- each list has one answer

-- one list, cut at two places
cut_twice : (a b c d : List SetPiece) → a ++ b ≡ c ++ d → ((a ≡ c) × (b ≡ d)) ⊎ ((t : SetPiece) × (m : List SetPiece) × (c ≡ a ++ t ∷ m) × (b ≡ t ∷ (m ++ d))) ⊎ ((t : SetPiece) × (m : List SetPiece) × (a ≡ c ++ t ∷ m) × (d ≡ t ∷ (m ++ b)))
cut_twice [] b [] d e = inl (refl, e)
cut_twice [] b (u ∷ c) d e = inr (inl (u, c, refl, e))
cut_twice (t ∷ a) b [] d e = inr (inr (t, a, refl, sym e))
cut_twice (t ∷ a) b (u ∷ c) d e =
    let heads : t ≡ u = cc in
    let tails : a ++ b ≡ c ++ d = cc in
    elim (cut_twice a b c d tails) [
      | inl h ↦ inl (cc, h.1)
      | inr h ↦ elim h [
        | inl h ↦ inr (inl (h.0, h.1, cc, h.3))
        | inr h ↦ inr (inr (h.0, h.1, cc, h.3))
      ]
    ]

-- what can be completed can be completed after fewer tokens
viable_front : (front m : List SetPiece) (t : SetPiece) (whole : List SetPiece) → whole ≡ front ++ t ∷ m → Viable whole → Viable (front ++ t ∷ [])
viable_front front m t whole e v =
    let same : whole ++ v.0 ≡ (front ++ t ∷ []) ++ (m ++ v.0) =
    ap (λ (f : List SetPiece). f ++ v.0) e ∙ append_assoc front (t ∷ m) v.0 ∙ sym (append_assoc front (t ∷ []) (m ++ v.0)) in
    (m ++ v.0, v.1, v.2, subst (λ (us : List SetPiece). IsFile v.1 v.2 us) same v.3)

unexpected_once : (deep : ℕ) (ts r s : List SetPiece) → IsFault deep ts faults.Unexpected r → IsFault deep ts faults.Unexpected s → r ≡ s
unexpected_once deep ts r s f g =
    elim (cut_twice f.front r g.front s (sym f.parts ∙ g.parts)) [
      | inl h ↦ h.1
      | inr h ↦ elim h [
        | inl h ↦ absurd (f.at_token h.0 (h.1 ++ s) h.3 refl (viable_front f.front h.1 h.0 g.front h.2 g.before))
        | inr h ↦ absurd (g.at_token h.0 (h.1 ++ r) h.3 refl (viable_front g.front h.1 h.0 f.front h.2 f.before))
      ]
    ]

pub one_fault : (deep : ℕ) (ts r s : List SetPiece) (k l : Fault) → IsFault deep ts k r → IsFault deep ts l s → (k ≡ l) × (r ≡ s)
one_fault deep ts r s faults.TooDeep l f g = let p = g.deep_only f.front r f.parts (f.deep_here refl) in (sym p.0, p.1)
one_fault deep ts r s faults.Unexpected faults.TooDeep f g = absurd (unexpected_not_deep (f.deep_only g.front s g.parts (g.deep_here refl)).0)
one_fault deep ts r s faults.Unexpected faults.Unexpected f g = (refl, unexpected_once deep ts r s f g)

ended_rest : (v w : SetTree × List SetPiece) → ended v ≡ Ok w → w.1 ≡ []
ended_rest (x, []) w e = let h : (let u : SetTree × List SetPiece = (x, []) in u) ≡ w = cc in sym (ap (λ (u : SetTree × List SetPiece). u.1) h)
ended_rest (x, t ∷ ts) w e = absurd cc

whole_rest : (deep : ℕ) (ts : List SetPiece) (w : SetTree × List SetPiece) → whole_at deep ts ≡ Ok w → w.1 ≡ []
unfolding whole_at
whole_rest deep ts w e = let s = bind_ok (file_at deep ts) ended w e in ended_rest s.0 w s.2

answered : (deep : ℕ) (ts : List SetPiece) (r : Result (SetTree × List SetPiece) (Fault × List SetPiece)) → whole_at deep ts ≡ r → ((tree : SetTree) × IsFile deep tree ts) ⊎ ((k : Fault) × (rest : List SetPiece) × IsFault deep ts k rest)
answered deep ts (Ok w) e = inl (w.0, found_is deep ts w.0 (e ∙ ap (λ (us : List SetPiece). Ok (w.0, us)) (whole_rest deep ts w e)))
answered deep ts (Err d) e = inr (d.0, d.1, stopped_is deep ts d.1 d.0 e)

-- a list has a tree or a fault
pub some_answer : (deep : ℕ) (ts : List SetPiece) → ((tree : SetTree) × IsFile deep tree ts) ⊎ ((k : Fault) × (rest : List SetPiece) × IsFault deep ts k rest)
some_answer deep ts = answered deep ts (whole_at deep ts) refl
