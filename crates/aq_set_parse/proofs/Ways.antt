-- Reading stops for depth exactly at the places that the ways lead to.
use Rattle.std.proofs.Common.{◌≡◌, ℕ, zero, suc, ◌<◌, List, [], ◌∷◌, ◌++◌, length, Result, Ok, Err, cond, Option, Some, None, Bool, true, false, refl, sym, ap, subst, ◌∙◌, append_assoc, ◌⊎◌, inl, inr}
use Rattle.aq_lex.specs.declared.place.Place.{Place}
use Rattle.aq_grammar.specs.Words.{Joined, ◌⨾◌, first_or, IsMany}
use Rattle.aq_grammar.specs.Readers.{both, mapped, after, before, switch, choice, optional, many, front_and_more, separated, placed}
use Rattle.aq_grammar.specs.Laws.{JoinedIn}
use Rattle.aq_grammar.proofs.Reading.{first_or-append}
use Rattle.aq_grammar.proofs.Parts.{many_next}
use Rattle.aq_grammar.proofs.Stops.{Never, seen_never, Sinks, never-Sinks, refuse-Sinks, Here, mapped-Sinks, Behind, both-Sinks, behind-Sinks, ahead-Sinks, after-Sinks, before-Sinks, ChoicePlace, choice-Sinks, SwitchPlace, switch-Sinks, placed-Sinks, ManyPlace, many-Sinks, renamed-Sinks}
use Rattle.aq_set_parse.specs.Piece.{SetPiece}
use Rattle.aq_set_parse.specs.Tokens.{is_sort, is_mark, sort_of, shows, begins, IsMark, mark_at, place_of}
use Rattle.aq_set_parse.specs.SetGrammar.{IsChain, IsTensor, IsGroup, IsExpr, IsCase, IsCases, IsHead, IsItem}
use Rattle.aq_set_parse.specs.Reading.{opening_at, opening_in, opening_of, atom_by, atom_at, power_at, powered_at, link_at, chain_at, factor_of, factors_at, tensor_of, tensor_at, part_of, parts_at, union_of, union_at, inside_at, group_at, expr_at, when_at, case_of, case_at, cases_at, head_at, set_of, set_at, claim_of, claim_at, item_at, goes_on, tree_of, file_at}
use Rattle.aq_set_parse.specs.Places.{Where, Past, InList, InTensor, InUnion, InGroup, InExpr, InCases, InItem, IsTooDeep}
use Rattle.aq_set_parse.specs.declared.mark.SetMark.{SetMark}
use Rattle.aq_set_parse.specs.declared.mark.SetMark.TheVariants as marks
use Rattle.aq_set_parse.specs.declared.lexeme.SetSort.{SetSort}
use Rattle.aq_set_parse.specs.declared.lexeme.SetSort.TheVariants as sorts
use Rattle.aq_set_parse.specs.declared.reader.Fault.{Fault}
use Rattle.aq_set_parse.specs.declared.reader.Fault.TheVariants as faults
use Rattle.aq_set_parse.specs.declared.reader.Opening.{Opening}
use Rattle.aq_set_parse.specs.declared.reader.Opening.TheVariants as openings
use Rattle.aq_set_parse.specs.declared.tree.SetWord.{SetWord}
use Rattle.aq_set_parse.specs.declared.tree.SetCase.{SetCase}
use Rattle.aq_set_parse.specs.declared.tree.SetItem.{SetItem}
use Rattle.aq_set_parse.proofs.Marks.{Others, last, sort_is, mark_part, mark_next, after_mark}
use Rattle.aq_set_parse.proofs.TermLaws.{when_part, head_part}
use Rattle.aq_set_parse.proofs.Layers.{Layer, next_layer, next_begins, next_long, layer_goes}
use Rattle.aq_set_parse.proofs.ChainLaws.{IsLink, IsNextLink, link_layer, next_link_layer, next_link_begins, next_link_long}
use Rattle.aq_set_parse.proofs.ExprLaws.{IsPowered, maybe_power_part, power_goes_on, tensor_goes_on, powered_long, tensor_long, powered_layer, tensor_layer, group_opens, group_layer, vector_part, basis_part, named_part}
use Rattle.aq_set_parse.proofs.FileLaws.{goes_on_at, case_goes_on, case_layer, comma_begins, comma_calm, comma_long, comma_layer, item_layer, item_begins, item_goes}

deep_is_other : Others faults.TooDeep
deep_is_other e = cc

mark_never : (m : SetMark) → is_sort marks.End (sorts.Fixed m) ≡ false → Never faults.TooDeep (mark_at m)
mark_never m other = (mark_part m other).calm faults.TooDeep deep_is_other

abbrev pub Nowhere : Where
Nowhere front n = ⊥

-- ---- behind a text

-- the next token is that of the first part
past_next : {P : List SetPiece → Type 0} {D : List SetPiece → Option SetPiece → Type 0} (front : List SetPiece) (n : Option SetPiece) (l : JoinedIn (λ f m. P f) D front n) → first_or front n ≡ first_or l.a (first_or l.b n)
past_next front n l = ap (λ (f : List SetPiece). first_or f n) l.parts ∙ first_or-append l.a l.b n

past_mark : {D : List SetPiece → Option SetPiece → Type 0} (m : SetMark) (front : List SetPiece) (n : Option SetPiece) → JoinedIn (λ f k. IsMark m f) D front n → sort_of (first_or front n) ≡ Some (sorts.Fixed m)
past_mark m front n l = ap sort_of (past_next front n l) ∙ mark_next m l.a (first_or l.b n) l.left

past_head : {D : List SetPiece → Option SetPiece → Type 0} (word : SetMark) (w : SetWord) (front : List SetPiece) (n : Option SetPiece) → JoinedIn (λ f k. IsHead word w f) D front n → sort_of (first_or front n) ≡ Some (sorts.Fixed word)
past_head word w front n l = ap sort_of (past_next front n l) ∙ after_mark word l.a (first_or l.b n) l.left

-- behind a mark
mark-Sinks : {A : Type 0} (m : SetMark) (other : is_sort marks.End (sorts.Fixed m) ≡ false) (p : List SetPiece → Result (A × List SetPiece) (Fault × List SetPiece)) (D : Where) → Sinks faults.TooDeep p D → Sinks faults.TooDeep (after (mark_at m) p) (Past (IsMark m) D)
mark-Sinks m other p D sinks =
    renamed-Sinks faults.TooDeep (after (mark_at m) p) (Behind (mark_part m other).context D) (Past (IsMark m) D)
    (after-Sinks faults.TooDeep (mark_at m) p (mark_part m other).context (λ _. IsMark m) D (mark_part m other).reads (mark_never m other) sinks)
    (λ front n d. let l = d.whole in record { a = l.a; b = l.b; parts = l.parts; left = (mark_part m other).reads.forget l.a (first_or l.b n) tt l.left; right = l.right })
    (λ front n l. record { value = tt; whole = record { a = l.a; b = l.b; parts = l.parts; left = (mark_part m other).enough tt l.a (first_or l.b n) l.left refl; right = l.right } })

-- ---- lists

module _ {A : Type 0} {p : List SetPiece → Result (A × List SetPiece) (Fault × List SetPiece)} {G H : A → List SetPiece → Type 0} {go : Option SetPiece → Bool} (test : Option SetPiece → Bool) (layer : Layer last p G H go) (D : List SetPiece → Option SetPiece → Type 0) where
  later_to : (xs : List A) (front : List SetPiece) (n : Option SetPiece) → ManyPlace test layer.context D xs front n → JoinedIn (λ f m. IsMany G xs f) D front n
  later_to [] front n d = record { a = []; b = front; parts = refl; left = refl; right = d.1 }
  later_to (x ∷ xs) front n l =
      let r = later_to xs l.b n l.right in
      record {
        a = l.a ++ r.a;
        b = r.b;
        parts = l.parts ∙ ap (λ (f : List SetPiece). l.a ++ f) r.parts ∙ sym (append_assoc l.a r.a r.b);
        left = record { a = l.a; b = r.a; parts = refl; left = layer.tight x l.a (first_or l.b n) l.left; right = r.left };
        right = r.right;
      }

  later_from : ((front : List SetPiece) (n : Option SetPiece) → D front n → test (first_or front n) ≡ true) → ((front : List SetPiece) (n : Option SetPiece) → D front n → go (first_or front n) ≡ false) → ((x : A) (front : List SetPiece) (n : Option SetPiece) → G x front → go (first_or front n) ≡ false) → (xs : List A) (front : List SetPiece) (n : Option SetPiece) → JoinedIn (λ f m. IsMany G xs f) D front n → ManyPlace test layer.context D xs front n
  later_from passes calm again [] front n l =
      let e : front ≡ l.b = l.parts ∙ ap (λ (f : List SetPiece). f ++ l.b) l.left in
      let here : D front n = subst (λ (f : List SetPiece). D f n) (sym e) l.right in
      (passes front n here, here)
  later_from passes calm again (x ∷ xs) front n l =
      let m = l.left in
      let quiet : go (first_or (m.b ++ l.b) n) ≡ false = ap go (first_or-append m.b l.b n) ∙ many_next go false again xs m.b (first_or l.b n) m.right (calm l.b n l.right) in
      record {
        a = m.a;
        b = m.b ++ l.b;
        parts = l.parts ∙ ap (λ (f : List SetPiece). f ++ l.b) m.parts ∙ append_assoc m.a m.b l.b;
        left = layer.enough x m.a (first_or (m.b ++ l.b) n) m.left quiet;
        right = later_from passes calm again xs (m.b ++ l.b) n (record { a = m.b; b = l.b; parts = refl; left = m.right; right = l.right });
      }

-- one text of G, and more of K
abbrev pub Listed : {A : Type 0} → (A → List SetPiece → Type 0) → (A → List SetPiece → Type 0) → List A → List SetPiece → Type 0
Listed G K [] front = ⊥
Listed G K (x ∷ xs) front = Joined (G x) (IsMany K xs) front

module _ {A : Type 0} (m : SetMark) (goes_on : Option SetSort → Bool) (ends : goes_on (Some (sorts.Fixed m)) ≡ false) (p q : List SetPiece → Result (A × List SetPiece) (Fault × List SetPiece)) (G H K L : A → List SetPiece → Type 0) (one : Layer last p G H (λ n. goes_on (sort_of n))) (two : Layer last q K L (λ n. goes_on (sort_of n))) (begin : (x : A) (front : List SetPiece) (n : Option SetPiece) → K x front → sort_of (first_or front n) ≡ Some (sorts.Fixed m)) (goes : (ts : List SetPiece) (x : A × List SetPiece) → q ts ≡ Ok x → length x.1 < length ts) (shows_itself : shows m (Some (sorts.Fixed m)) ≡ true) (D : List SetPiece → Option SetPiece → Type 0) (sinks-p : Sinks faults.TooDeep p D) (sinks-q : Sinks faults.TooDeep q (Past (IsMark m) D)) where
  abbrev NextPlace : Where
  NextPlace = Past (IsMark m) D

  abbrev LaterPlace : Where
  LaterPlace front n = (xs : List A) × ManyPlace (begins m) two.context NextPlace xs front n

  next_passes : (front : List SetPiece) (n : Option SetPiece) → NextPlace front n → begins m (first_or front n) ≡ true
  next_passes front n d = ap (shows m) (past_mark m front n d) ∙ shows_itself

  next_calm : (front : List SetPiece) (n : Option SetPiece) → NextPlace front n → goes_on (sort_of (first_or front n)) ≡ false
  next_calm front n d = ap goes_on (past_mark m front n d) ∙ ends

  again : (x : A) (front : List SetPiece) (n : Option SetPiece) → K x front → goes_on (sort_of (first_or front n)) ≡ false
  again x front n l = ap goes_on (begin x front n l) ∙ ends

  list_to : (front : List SetPiece) (n : Option SetPiece) → D front n ⊎ Behind one.context LaterPlace front n → InList m (Listed G K) D front n
  list_to front n d =
      elim d [
        | inl h ↦ inl h
        | inr h ↦
            let l = h.whole in
            let r = later_to (begins m) two NextPlace l.right.0 l.b n l.right.1 in
            inr (
              h.value ∷ l.right.0,
              record {
                a = l.a ++ r.a;
                b = r.b;
                parts = l.parts ∙ ap (λ (f : List SetPiece). l.a ++ f) r.parts ∙ sym (append_assoc l.a r.a r.b);
                left = record { a = l.a; b = r.a; parts = refl; left = one.tight h.value l.a (first_or l.b n) l.left; right = r.left };
                right = r.right;
              },
            )
      ]

  list_behind : (xs : List A) (front : List SetPiece) (n : Option SetPiece) → JoinedIn (λ f k. Listed G K xs f) NextPlace front n → Behind one.context LaterPlace front n
  list_behind [] front n l = absurd l.left
  list_behind (x ∷ xs) front n l =
      let k = l.left in
      let quiet : goes_on (sort_of (first_or (k.b ++ l.b) n)) ≡ false = ap (λ o. goes_on (sort_of o)) (first_or-append k.b l.b n) ∙ many_next (λ o. goes_on (sort_of o)) false again xs k.b (first_or l.b n) k.right (next_calm l.b n l.right) in
      record {
        value = x;
        whole = record {
          a = k.a;
          b = k.b ++ l.b;
          parts = l.parts ∙ ap (λ (f : List SetPiece). f ++ l.b) k.parts ∙ append_assoc k.a k.b l.b;
          left = one.enough x k.a (first_or (k.b ++ l.b) n) k.left quiet;
          right = (xs, later_from (begins m) two NextPlace next_passes next_calm again xs (k.b ++ l.b) n (record { a = k.b; b = l.b; parts = refl; left = k.right; right = l.right }));
        };
      }

  pub list-Sinks : Sinks faults.TooDeep (mapped front_and_more (both p (many (begins m) q))) (InList m (Listed G K) D)
  list-Sinks =
      renamed-Sinks faults.TooDeep (mapped front_and_more (both p (many (begins m) q))) (λ front n. D front n ⊎ Behind one.context LaterPlace front n) (InList m (Listed G K) D)
      (mapped-Sinks faults.TooDeep front_and_more (both p (many (begins m) q)) (λ front n. D front n ⊎ Behind one.context LaterPlace front n)
      (both-Sinks faults.TooDeep p (many (begins m) q) one.context H D LaterPlace one.reads sinks-p
      (many-Sinks faults.TooDeep (begins m) q two.context L NextPlace two.reads (λ x front n l. ap (shows m) (begin x front n (two.tight x front n l)) ∙ shows_itself) goes sinks-q)))
      list_to
      (λ front n d. elim d [ inl h ↦ inl h | inr h ↦ inr (list_behind h.0 front n h.1) ])

-- the same list, in other words
list_words : {A : Type 0} (m : SetMark) (P Q : List A → List SetPiece → Type 0) (D : Where) → ((xs : List A) (front : List SetPiece) → P xs front → Q xs front) → (front : List SetPiece) (n : Option SetPiece) → InList m P D front n → InList m Q D front n
list_words m P Q D f front n d = elim d [ inl h ↦ inl h | inr h ↦ inr (h.0, record { a = h.1.a; b = h.1.b; parts = h.1.parts; left = f h.0 h.1.a h.1.left; right = h.1.right }) ]

module _ {A B : Type 0} (m : SetMark) (other : is_sort marks.End (sorts.Fixed m) ≡ false) (shows_itself : shows m (Some (sorts.Fixed m)) ≡ true) (make : Place × A → B) (place : B → Place) (part : B → A) (back : (v : Place × A) → v ≡ (place (make v), part (make v))) (there : (y : B) → make (place y, part y) ≡ y) (p : List SetPiece → Result (A × List SetPiece) (Fault × List SetPiece)) (G H : A → List SetPiece → Type 0) (goes_on : Option SetSort → Bool) (layer : Layer last p G H (λ n. goes_on (sort_of n))) (grows : (x : A) (front : List SetPiece) → G x front → 0 < length front) (ends : goes_on (Some (sorts.Fixed m)) ≡ false) (D : List SetPiece → Option SetPiece → Type 0) (sinks : Sinks faults.TooDeep p D) where
  link-Sinks : Sinks faults.TooDeep (link_at make p) D
  unfolding link_at
  link-Sinks = mapped-Sinks faults.TooDeep make (placed place_of p) D (placed-Sinks faults.TooDeep place_of p D sinks)

  next_link-Sinks : Sinks faults.TooDeep (link_at make (after (mark_at m) p)) (Past (IsMark m) D)
  unfolding link_at
  next_link-Sinks = mapped-Sinks faults.TooDeep make (placed place_of (after (mark_at m) p)) (Past (IsMark m) D) (placed-Sinks faults.TooDeep place_of (after (mark_at m) p) (Past (IsMark m) D) (mark-Sinks m other p D sinks))

  chain_to : (xs : List B) (front : List SetPiece) → Listed (IsLink place part G) (IsNextLink m place part G) xs front → IsChain m place (λ y. G (part y)) xs front
  chain_to [] front l = absurd l
  chain_to (x ∷ xs) front l = l

  chain_back : (xs : List B) (front : List SetPiece) → IsChain m place (λ y. G (part y)) xs front → Listed (IsLink place part G) (IsNextLink m place part G) xs front
  chain_back [] front l = absurd l
  chain_back (x ∷ xs) front l = l

  pub chain-Sinks : Sinks faults.TooDeep (chain_at m make p) (InList m (IsChain m place (λ y. G (part y))) D)
  unfolding chain_at
  chain-Sinks =
      let one = link_layer m other make place part back there p G H goes_on layer grows ends in
      let two = next_link_layer m other make place part back there p G H goes_on layer grows ends in
      renamed-Sinks faults.TooDeep (mapped front_and_more (both (link_at make p) (many (begins m) (link_at make (after (mark_at m) p))))) (InList m (Listed (IsLink place part G) (IsNextLink m place part G)) D) (InList m (IsChain m place (λ y. G (part y))) D)
      (list-Sinks m goes_on ends (link_at make p) (link_at make (after (mark_at m) p)) (IsLink place part G) (IsLink place part H) (IsNextLink m place part G) (IsNextLink m place part H) one two
      (λ y front n l. after_mark m front n l.0)
      (layer_goes (begins m) two (next_link_begins m other make place part back there p G H goes_on layer grows ends) (next_link_long m other make place part back there p G H goes_on layer grows ends))
      shows_itself D link-Sinks next_link-Sinks)
      (list_words m (Listed (IsLink place part G) (IsNextLink m place part G)) (IsChain m place (λ y. G (part y))) D chain_to)
      (list_words m (IsChain m place (λ y. G (part y))) (Listed (IsLink place part G) (IsNextLink m place part G)) D chain_back)

-- ---- atoms

-- where the reader of what stands in parentheses stops, whatever its first token is
abbrev pub GroupPlace : ℕ → Where
GroupPlace zero = Here
GroupPlace (suc deep) = InGroup (suc deep)

abbrev pub AtomPlace : ℕ → Opening → Where
AtomPlace deep openings.Bracket = Nowhere
AtomPlace deep openings.All = Nowhere
AtomPlace deep openings.Group = GroupPlace deep
AtomPlace deep openings.Name = Nowhere

atom_sinks : (deep : ℕ) → Sinks faults.TooDeep (group_at deep) (GroupPlace deep) → (k : Opening) → Sinks faults.TooDeep (atom_by (group_at deep) k) (AtomPlace deep k)
atom_sinks deep sinks openings.Bracket = never-Sinks faults.TooDeep (atom_by (group_at deep) openings.Bracket) (vector_part.calm faults.TooDeep deep_is_other)
atom_sinks deep sinks openings.All = never-Sinks faults.TooDeep (atom_by (group_at deep) openings.All) (basis_part.calm faults.TooDeep deep_is_other)
atom_sinks deep sinks openings.Group = sinks
atom_sinks deep sinks openings.Name = never-Sinks faults.TooDeep (atom_by (group_at deep) openings.Name) (named_part.calm faults.TooDeep deep_is_other)

paren_mark : (m : SetMark) → opening_at m ≡ openings.Group → is_sort marks.ParenOpen (sorts.Fixed m) ≡ true
paren_mark marks.Set e = absurd cc
paren_mark marks.Claim e = absurd cc
paren_mark marks.When e = absurd cc
paren_mark marks.And e = absurd cc
paren_mark marks.Union e = absurd cc
paren_mark marks.All e = absurd cc
paren_mark marks.Omega e = absurd cc
paren_mark marks.Imaginary e = absurd cc
paren_mark marks.Root e = absurd cc
paren_mark marks.Assign e = absurd cc
paren_mark marks.Equals e = absurd cc
paren_mark marks.Semicolon e = absurd cc
paren_mark marks.Comma e = absurd cc
paren_mark marks.BracketOpen e = absurd cc
paren_mark marks.BracketClose e = absurd cc
paren_mark marks.ParenOpen e = refl
paren_mark marks.ParenClose e = absurd cc
paren_mark marks.Star e = absurd cc
paren_mark marks.Caret e = absurd cc
paren_mark marks.Plus e = absurd cc
paren_mark marks.Minus e = absurd cc
paren_mark marks.Slash e = absurd cc
paren_mark marks.End e = absurd cc

paren_next : (o : Option SetSort) → opening_in o ≡ openings.Group → shows marks.ParenOpen o ≡ true
paren_next None e = absurd cc
paren_next (Some (sorts.Fixed m)) e = paren_mark m e
paren_next (Some sorts.Name) e = absurd cc
paren_next (Some (sorts.Number n)) e = absurd cc
paren_next (Some sorts.Ket) e = absurd cc

paren_is : (o : Option SetSort) → shows marks.ParenOpen o ≡ true → o ≡ Some (sorts.Fixed marks.ParenOpen)
paren_is None e = absurd cc
paren_is (Some s) e = ap Some (sort_is marks.ParenOpen s e)

atom_place_to : (deep : ℕ) (k : Opening) (front : List SetPiece) (n : Option SetPiece) → opening_of (first_or front n) ≡ k → AtomPlace deep k front n → InGroup deep front n
atom_place_to deep openings.Bracket front n e d = absurd d
atom_place_to deep openings.All front n e d = absurd d
atom_place_to zero openings.Group front n e d = (d, paren_next (sort_of n) (ap (λ (f : List SetPiece). opening_of (first_or f n)) (sym d) ∙ e))
atom_place_to (suc deep) openings.Group front n e d = d
atom_place_to deep openings.Name front n e d = absurd d

at_key : (deep : ℕ) (k : Opening) (front : List SetPiece) (n : Option SetPiece) → opening_of (first_or front n) ≡ k → AtomPlace deep k front n → SwitchPlace opening_of (AtomPlace deep) front n
at_key deep k front n e d = subst (λ (j : Opening). AtomPlace deep j front n) (sym e) d

atom_place_from : (deep : ℕ) (front : List SetPiece) (n : Option SetPiece) → InGroup deep front n → SwitchPlace opening_of (AtomPlace deep) front n
atom_place_from zero front n d = at_key zero openings.Group front n (ap (λ (f : List SetPiece). opening_of (first_or f n)) d.0 ∙ ap opening_in (paren_is (sort_of n) d.1)) d.0
atom_place_from (suc deep) front n d = at_key (suc deep) openings.Group front n (ap opening_in (past_mark marks.ParenOpen front n d)) d

atom-Sinks : (deep : ℕ) → Sinks faults.TooDeep (group_at deep) (GroupPlace deep) → Sinks faults.TooDeep (atom_at (group_at deep)) (InGroup deep)
unfolding atom_at
atom-Sinks deep sinks =
    renamed-Sinks faults.TooDeep (switch opening_of (atom_by (group_at deep))) (SwitchPlace opening_of (AtomPlace deep)) (InGroup deep)
    (switch-Sinks faults.TooDeep opening_of (atom_by (group_at deep)) (AtomPlace deep) (atom_sinks deep sinks))
    (λ front n d. atom_place_to deep (opening_of (first_or front n)) front n refl d)
    (atom_place_from deep)

-- ---- expressions

powered-Sinks : (deep : ℕ) → Sinks faults.TooDeep (group_at deep) (GroupPlace deep) → Sinks faults.TooDeep (powered_at (group_at deep)) (InGroup deep)
unfolding powered_at
powered-Sinks deep sinks = ahead-Sinks faults.TooDeep (atom_at (group_at deep)) (optional (begins marks.Caret) power_at) (InGroup deep) (atom-Sinks deep sinks) (maybe_power_part.calm faults.TooDeep deep_is_other)

tensor-Sinks : (deep : ℕ) → Sinks faults.TooDeep (group_at deep) (GroupPlace deep) → Sinks faults.TooDeep (tensor_at (group_at deep)) (InTensor (IsGroup deep) (InGroup deep))
unfolding tensor_at factors_at
tensor-Sinks deep sinks =
    mapped-Sinks faults.TooDeep tensor_of (chain_at marks.Star factor_of (powered_at (group_at deep))) (InTensor (IsGroup deep) (InGroup deep))
    (chain-Sinks marks.Star refl refl factor_of (λ x. x.at) (λ x. (x.expr, x.power)) (λ v. refl) (λ y. refl) (powered_at (group_at deep)) (IsPowered (IsGroup deep)) (IsPowered (IsGroup (suc deep))) power_goes_on
    (powered_layer (group_at deep) (IsGroup deep) (IsGroup (suc deep)) (group_layer deep) (group_opens deep)) (powered_long (IsGroup deep) (group_opens deep)) refl (InGroup deep) (powered-Sinks deep sinks))

union-Sinks : (deep : ℕ) → Sinks faults.TooDeep (group_at deep) (GroupPlace deep) → Sinks faults.TooDeep (union_at (group_at deep)) (InUnion (IsGroup deep) (InGroup deep))
unfolding union_at parts_at
union-Sinks deep sinks =
    mapped-Sinks faults.TooDeep union_of (chain_at marks.Union part_of (tensor_at (group_at deep))) (InUnion (IsGroup deep) (InGroup deep))
    (chain-Sinks marks.Union refl refl part_of (λ x. x.at) (λ x. x.expr) (λ v. refl) (λ y. refl) (tensor_at (group_at deep)) (IsTensor (IsGroup deep)) (IsTensor (IsGroup (suc deep))) tensor_goes_on
    (tensor_layer (group_at deep) (IsGroup deep) (IsGroup (suc deep)) (group_layer deep) (group_opens deep)) (tensor_long (IsGroup deep) (group_opens deep)) refl (InTensor (IsGroup deep) (InGroup deep)) (tensor-Sinks deep sinks))

group-Sinks : (deep : ℕ) → Sinks faults.TooDeep (group_at deep) (GroupPlace deep)
unfolding group_at inside_at
group-Sinks zero = refuse-Sinks faults.TooDeep
group-Sinks (suc deep) =
    mark-Sinks marks.ParenOpen refl (before (union_at (group_at deep)) (mark_at marks.ParenClose)) (InUnion (IsGroup deep) (InGroup deep))
    (before-Sinks faults.TooDeep (union_at (group_at deep)) (mark_at marks.ParenClose) (InUnion (IsGroup deep) (InGroup deep)) (union-Sinks deep (group-Sinks deep)) (mark_never marks.ParenClose refl))

expr-Sinks : (deep : ℕ) → Sinks faults.TooDeep (expr_at deep) (InExpr deep)
unfolding expr_at
expr-Sinks deep = union-Sinks deep (group-Sinks deep)

-- ---- cases, items and files

case-Sinks : (deep : ℕ) → Sinks faults.TooDeep (case_at deep) (InExpr deep)
unfolding case_at
case-Sinks deep =
    mapped-Sinks faults.TooDeep case_of (placed place_of (both (expr_at deep) when_at)) (InExpr deep)
    (placed-Sinks faults.TooDeep place_of (both (expr_at deep) when_at) (InExpr deep)
    (ahead-Sinks faults.TooDeep (expr_at deep) when_at (InExpr deep) (expr-Sinks deep) (when_part.calm faults.TooDeep deep_is_other)))

abbrev IsNextCase : ℕ → SetCase → List SetPiece → Type 0
IsNextCase deep x = IsMark marks.Comma ⨾ IsCase (IsExpr deep) x

cases_to : (deep : ℕ) (xs : List SetCase) (front : List SetPiece) → Listed (IsCase (IsExpr deep)) (IsNextCase deep) xs front → IsCases (IsExpr deep) xs front
cases_to deep [] front l = absurd l
cases_to deep (x ∷ xs) front l = l

cases_back : (deep : ℕ) (xs : List SetCase) (front : List SetPiece) → IsCases (IsExpr deep) xs front → Listed (IsCase (IsExpr deep)) (IsNextCase deep) xs front
cases_back deep [] front l = absurd l
cases_back deep (x ∷ xs) front l = l

cases-Sinks : (deep : ℕ) → Sinks faults.TooDeep (cases_at deep) (InCases deep)
unfolding cases_at separated
cases-Sinks deep =
    let two = next_layer (begins marks.Comma) comma_layer (case_layer deep) comma_begins comma_calm comma_long in
    renamed-Sinks faults.TooDeep (mapped front_and_more (both (case_at deep) (many (begins marks.Comma) (after (mark_at marks.Comma) (case_at deep))))) (InList marks.Comma (Listed (IsCase (IsExpr deep)) (IsNextCase deep)) (InExpr deep)) (InCases deep)
    (list-Sinks marks.Comma case_goes_on refl (case_at deep) (after (mark_at marks.Comma) (case_at deep)) (IsCase (IsExpr deep)) (IsCase (IsExpr (suc deep))) (IsNextCase deep) (IsNextCase (suc deep)) (case_layer deep) two
    (λ x front n l. after_mark marks.Comma front n l)
    (layer_goes (begins marks.Comma) two (next_begins (begins marks.Comma) comma_layer (case_layer deep) comma_begins comma_calm comma_long) (next_long (begins marks.Comma) comma_layer (case_layer deep) comma_begins comma_calm comma_long))
    refl (InExpr deep) (case-Sinks deep) (mark-Sinks marks.Comma refl (case_at deep) (InExpr deep) (case-Sinks deep)))
    (list_words marks.Comma (Listed (IsCase (IsExpr deep)) (IsNextCase deep)) (IsCases (IsExpr deep)) (InExpr deep) (cases_to deep))
    (list_words marks.Comma (IsCases (IsExpr deep)) (Listed (IsCase (IsExpr deep)) (IsNextCase deep)) (InExpr deep) (cases_back deep))

-- behind the begin of an item
abbrev HeadPlace : SetMark → Where → Where
HeadPlace word D front n = (name : SetWord) × Past (IsHead word name) D front n

head-Sinks : {A : Type 0} (word : SetMark) (other : is_sort marks.End (sorts.Fixed word) ≡ false) (p : List SetPiece → Result (A × List SetPiece) (Fault × List SetPiece)) (D : Where) → Sinks faults.TooDeep p D → Sinks faults.TooDeep (both (head_at word) p) (HeadPlace word D)
head-Sinks word other p D sinks =
    renamed-Sinks faults.TooDeep (both (head_at word) p) (Behind (head_part word other).context D) (HeadPlace word D)
    (behind-Sinks faults.TooDeep (head_at word) p (head_part word other).context (IsHead word) D (head_part word other).reads ((head_part word other).calm faults.TooDeep deep_is_other) sinks)
    (λ front n d. let l = d.whole in (d.value, record { a = l.a; b = l.b; parts = l.parts; left = (head_part word other).reads.forget l.a (first_or l.b n) d.value l.left; right = l.right }))
    (λ front n d. let l = d.1 in record { value = d.0; whole = record { a = l.a; b = l.b; parts = l.parts; left = (head_part word other).enough d.0 l.a (first_or l.b n) l.left refl; right = l.right } })

item-Sinks : (deep : ℕ) → Sinks faults.TooDeep (item_at deep) (InItem deep)
unfolding item_at set_at claim_at
item-Sinks deep =
    let E : List SetPiece → Option SetPiece → Type 0 = InExpr deep in
    let C : List SetPiece → Option SetPiece → Type 0 = InCases deep in
    renamed-Sinks faults.TooDeep (choice (begins marks.Set) (mapped set_of (both (head_at marks.Set) (before (expr_at deep) (mark_at marks.Semicolon)))) (mapped claim_of (both (head_at marks.Claim) (before (cases_at deep) (mark_at marks.Semicolon))))) (ChoicePlace (begins marks.Set) (HeadPlace marks.Set E) (HeadPlace marks.Claim C)) (InItem deep)
    (choice-Sinks faults.TooDeep (begins marks.Set) (mapped set_of (both (head_at marks.Set) (before (expr_at deep) (mark_at marks.Semicolon)))) (mapped claim_of (both (head_at marks.Claim) (before (cases_at deep) (mark_at marks.Semicolon)))) (HeadPlace marks.Set E) (HeadPlace marks.Claim C)
    (mapped-Sinks faults.TooDeep set_of (both (head_at marks.Set) (before (expr_at deep) (mark_at marks.Semicolon))) (HeadPlace marks.Set E)
    (head-Sinks marks.Set refl (before (expr_at deep) (mark_at marks.Semicolon)) E (before-Sinks faults.TooDeep (expr_at deep) (mark_at marks.Semicolon) E (expr-Sinks deep) (mark_never marks.Semicolon refl))))
    (mapped-Sinks faults.TooDeep claim_of (both (head_at marks.Claim) (before (cases_at deep) (mark_at marks.Semicolon))) (HeadPlace marks.Claim C)
    (head-Sinks marks.Claim refl (before (cases_at deep) (mark_at marks.Semicolon)) C (before-Sinks faults.TooDeep (cases_at deep) (mark_at marks.Semicolon) C (cases-Sinks deep) (mark_never marks.Semicolon refl)))))
    (λ front n d. elim d [ inl h ↦ inl h.1 | inr h ↦ inr h.1 ])
    (λ front n d. elim d [
      | inl h ↦ inl (ap (shows marks.Set) (past_head marks.Set h.0 front n h.1), h)
      | inr h ↦ inr (ap (shows marks.Set) (past_head marks.Claim h.0 front n h.1), h)
    ])

item_place_passes : (deep : ℕ) (front : List SetPiece) (n : Option SetPiece) → InItem deep front n → goes_on (first_or front n) ≡ true
item_place_passes deep front n d = elim d [ inl h ↦ ap goes_on_at (past_head marks.Set h.0 front n h.1) | inr h ↦ ap goes_on_at (past_head marks.Claim h.0 front n h.1) ]

end_never : Never faults.TooDeep (mark_at marks.End)
end_never = seen_never faults.TooDeep faults.Unexpected (λ t. cond (is_mark marks.End t) (Ok tt) (Err faults.Unexpected)) (λ e. cc) (λ t e. unexpected (is_mark marks.End t) e) where
  unexpected : (b : Bool) → (let r : Result (Unit {0}) Fault = cond b (Ok tt) (Err faults.Unexpected) in r) ≡ Err faults.TooDeep → ⊥
  unexpected true e = cc
  unexpected false e = cc

pub deep-Sinks : (deep : ℕ) → Sinks faults.TooDeep (file_at deep) (IsTooDeep deep)
unfolding file_at
deep-Sinks deep =
    let D : List SetPiece → Option SetPiece → Type 0 = InItem deep in
    let L : List SetPiece → Option SetPiece → Type 0 = λ front n. (xs : List SetItem) × ManyPlace goes_on (item_layer deep).context D xs front n in
    renamed-Sinks faults.TooDeep (mapped tree_of (before (many goes_on (item_at deep)) (mark_at marks.End))) L (IsTooDeep deep)
    (mapped-Sinks faults.TooDeep tree_of (before (many goes_on (item_at deep)) (mark_at marks.End)) L
    (before-Sinks faults.TooDeep (many goes_on (item_at deep)) (mark_at marks.End) L
    (many-Sinks faults.TooDeep goes_on (item_at deep) (item_layer deep).context (IsItem (IsExpr (suc deep))) D (item_layer deep).reads (λ x front n l. item_begins x front n ((item_layer deep).tight x front n l)) (item_goes deep) (item-Sinks deep))
    end_never))
    (λ front n d. (d.0, later_to goes_on (item_layer deep) D d.0 front n d.1))
    (λ front n d. (d.0, later_from goes_on (item_layer deep) D (item_place_passes deep) (λ f m e. refl) (λ x f m l. refl) d.0 front n d.1))
