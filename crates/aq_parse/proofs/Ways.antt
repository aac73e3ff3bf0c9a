-- Reading stops for depth, and at what is not taken, exactly at these places. Both faults are found in the same way, so
-- the proof is made once for a fault, the places `Own` at which a statement itself stops with it, and those at which a
-- body that is too deep does.
use Rattle.std.proofs.Common.{◌≡◌, ℕ, zero, suc, List, [], ◌∷◌, ◌++◌, Result, Option, Some, None, Bool, true, false, refl, sym, ap, subst, ◌∙◌, append_assoc, ◌⊎◌, inl, inr}
use Rattle.std.specs.Prelude.{◌||◌}
use Rattle.aq_lex.specs.declared.place.Place.{Place}
use Rattle.aq_grammar.specs.Words.{first_or, IsMany}
use Rattle.aq_grammar.specs.Readers.{both, mapped, after, before, switch, choice, many, then_maybe, placed, refuse}
use Rattle.aq_grammar.specs.Laws.{Reads, JoinedIn}
use Rattle.aq_grammar.proofs.Reading.{first_or-append}
use Rattle.aq_grammar.proofs.Parts.{many_next}
use Rattle.aq_grammar.proofs.Stops.{refuse_never, token_never, Sinks, never-Sinks, refuse-Sinks, mapped-Sinks, Behind, behind-Sinks, ahead-Sinks, after-Sinks, after_both-Sinks, before-Sinks, ChoicePlace, choice-Sinks, Passing, then_maybe-Sinks, SwitchPlace, switch-Sinks, placed-Sinks, ManyPlace, many-Sinks, renamed-Sinks}
use Rattle.aq_parse.specs.Piece.{Piece}
use Rattle.aq_parse.specs.Tokens.{sort_of, is_sort, shows, begins, IsMark, mark_at, IsNote, end_of, end_at, place_of}
use Rattle.aq_parse.specs.Grammar.{IsVersion, IsHead, Statement, Any, IsBody, IsStatement, Maybe}
use Rattle.aq_parse.specs.Reading.{head_at, simple_at, if_of, if_at, while_of, while_at, opening_at, opening_in, opening_of, bare_by, bare_at, item_of, notes_at, item_at, open_inside, open_outside, alone, block_at, inside_at, body_at, maybe_version_at, tree_of, program_at}
use Rattle.aq_parse.specs.Places.{Where, Past, Into, InBare, InStatement, InStatements, InBody, InProgram, Nowhere, Here, IsTooDeep, BadLibrary, BadVersion, Refused, IsNotTaken}
use Rattle.aq_parse.specs.declared.mark.Mark.{Mark}
use Rattle.aq_parse.specs.declared.mark.Mark.TheVariants as marks
use Rattle.aq_parse.specs.declared.lexeme.Sort.{Sort}
use Rattle.aq_parse.specs.declared.lexeme.Sort.TheVariants as sorts
use Rattle.aq_parse.specs.declared.reader.Fault.{Fault}
use Rattle.aq_parse.specs.declared.reader.Fault.TheVariants as faults
use Rattle.aq_parse.specs.declared.reader.Opening.{Opening}
use Rattle.aq_parse.specs.declared.reader.Opening.TheVariants as openings
use Rattle.aq_parse.specs.declared.tree.Note.{Note}
use Rattle.aq_parse.specs.declared.tree.Test.{Test}
use Rattle.aq_parse.specs.declared.tree.Item.{Item}
use Rattle.aq_parse.specs.declared.tree.Node.{Node}
use Rattle.aq_parse.proofs.Marks.{sort_is, mark_next, note_next, after_mark}
use Rattle.aq_parse.proofs.Simples.{simple_part, notes_part, simple_word-Sinks, maybe_version_word-Sinks}
use Rattle.aq_parse.proofs.Bodies.{OpenIn, closed, shut_at, if_head, while_head, else_mark, brace_open, brace_close, not_note, goes_inside, goes_outside, statement_starts, no_else_behind, statement-Reads, statement_goes, body-Reads, deeper, maybe_version_part}

abbrev Inner : Type 0
Inner = List Piece → Result (List Item × List Piece) (Fault × List Piece)

-- the next token is that of the first part
past_next : {P : List Piece → Type 0} {D : List Piece → Option Piece → Type 0} (front : List Piece) (n : Option Piece) (l : JoinedIn (λ f m. P f) D front n) → first_or front n ≡ first_or l.a (first_or l.b n)
past_next front n l = ap (λ (f : List Piece). first_or f n) l.parts ∙ first_or-append l.a l.b n

past_mark : {D : List Piece → Option Piece → Type 0} (m : Mark) (front : List Piece) (n : Option Piece) → JoinedIn (λ f k. IsMark m f) D front n → sort_of (first_or front n) ≡ Some (sorts.Fixed m)
past_mark m front n l = ap sort_of (past_next front n l) ∙ mark_next m l.a (first_or l.b n) l.left

past_head : {D : List Piece → Option Piece → Type 0} (word : Mark) (test : Test) (front : List Piece) (n : Option Piece) → JoinedIn (λ f k. IsHead word test f) D front n → sort_of (first_or front n) ≡ Some (sorts.Fixed word)
past_head word test front n l = ap sort_of (past_next front n l) ∙ after_mark word l.a (first_or l.b n) l.left

into_first : {D : List Piece → Option Piece → Type 0} {B : Bool → List Item → List Piece → Type 0} (good : Option Sort → Bool) (value : Bool) → good (Some (sorts.Fixed marks.If)) ≡ value → good (Some (sorts.Fixed marks.While)) ≡ value → (front : List Piece) (n : Option Piece) → Into D B front n → good (sort_of (first_or front n)) ≡ value
into_first good value branch loop _ _ (Into.in_then test front n l) = ap good (past_head marks.If test front n l) ∙ branch
into_first good value branch loop _ _ (Into.in_else test then front n l) = ap good (past_head marks.If test front n l) ∙ branch
into_first good value branch loop _ _ (Into.in_loop test front n l) = ap good (past_head marks.While test front n l) ∙ loop

-- ---- `if` and `while`

abbrev ElsePlace : (Bool → List Item → List Piece → Type 0) → Where → Where
ElsePlace B D = Behind (OpenIn B) (Passing (begins marks.Else) (Behind else_mark.context D))

abbrev IfPlace : (Bool → List Item → List Piece → Type 0) → Where → Where
IfPlace B D = Behind if_head.context (λ front n. D front n ⊎ ElsePlace B D front n)

abbrev WhilePlace : Where → Where
WhilePlace D = Behind while_head.context D

module _ (fault : Fault) (others : fault ≡ faults.Unexpected → ⊥) (body : List Piece → Result (List Item × List Piece) (Fault × List Piece)) (B C : Bool → List Item → List Piece → Type 0) (D : List Piece → Option Piece → Type 0) (reads : Reads body (OpenIn B) (Any C)) (sinks : Sinks fault body D) where
  if-Sinks : Sinks fault (if_at body) (IfPlace B D)
  unfolding if_at
  if-Sinks =
      mapped-Sinks fault if_of (both (head_at marks.If) (then_maybe (begins marks.Else) body (after (mark_at marks.Else) body))) (IfPlace B D)
      (behind-Sinks fault (head_at marks.If) (then_maybe (begins marks.Else) body (after (mark_at marks.Else) body)) if_head.context (IsHead marks.If) (λ front n. D front n ⊎ ElsePlace B D front n) if_head.reads (if_head.calm fault others)
      (then_maybe-Sinks fault (begins marks.Else) body (after (mark_at marks.Else) body) (OpenIn B) (Any C) D (Behind else_mark.context D) reads sinks
      (after-Sinks fault (mark_at marks.Else) body else_mark.context (λ _. IsMark marks.Else) D else_mark.reads (else_mark.calm fault others) sinks)))

  while-Sinks : Sinks fault (while_at body) (WhilePlace D)
  unfolding while_at
  while-Sinks = mapped-Sinks fault while_of (both (head_at marks.While) body) (WhilePlace D) (behind-Sinks fault (head_at marks.While) body while_head.context (IsHead marks.While) D while_head.reads (while_head.calm fault others) sinks)

module _ (B : Bool → List Item → List Piece → Type 0) (D : List Piece → Option Piece → Type 0) where
  if_into : (front : List Piece) (n : Option Piece) → IfPlace B D front n → Into D B front n
  if_into front n d =
      let l = d.whole in
      let head = if_head.reads.forget l.a (first_or l.b n) d.value l.left in
      elim l.right [
        | inl h ↦ Into.in_then d.value front n (record { a = l.a; b = l.b; parts = l.parts; left = head; right = h })
        | inr h ↦
            let m = h.whole in
            let k = m.right.1.whole in
            Into.in_else d.value h.value front n (record {
              a = l.a;
              b = l.b;
              parts = l.parts;
              left = head;
              right = record {
                a = m.a;
                b = m.b;
                parts = m.parts;
                left = shut_at B h.value m.a (first_or m.b n) m.left.0 m.left.1 m.left.2 m.right.0;
                right = record { a = k.a; b = k.b; parts = k.parts; left = else_mark.reads.forget k.a (first_or k.b n) tt k.left; right = k.right };
              };
            })
      ]

  while_into : (front : List Piece) (n : Option Piece) → WhilePlace D front n → Into D B front n
  while_into front n d = let l = d.whole in Into.in_loop d.value front n (record { a = l.a; b = l.b; parts = l.parts; left = while_head.reads.forget l.a (first_or l.b n) d.value l.left; right = l.right })

  then_place : (test : Test) (front : List Piece) (n : Option Piece) → Past (IsHead marks.If test) D front n → IfPlace B D front n
  then_place test front n l = record { value = test; whole = record { a = l.a; b = l.b; parts = l.parts; left = if_head.enough test l.a (first_or l.b n) l.left refl; right = inl l.right } }

  else_place : (test : Test) (then : List Item) (front : List Piece) (n : Option Piece) → Past (IsHead marks.If test) (Past (B false then) (Past (IsMark marks.Else) D)) front n → IfPlace B D front n
  else_place test then front n l =
      let m = l.right in
      let k = m.right in
      record {
        value = test;
        whole = record {
          a = l.a;
          b = l.b;
          parts = l.parts;
          left = if_head.enough test l.a (first_or l.b n) l.left refl;
          right = inr (record {
            value = then;
            whole = record {
              a = m.a;
              b = m.b;
              parts = m.parts;
              left = (false, m.left, closed (first_or m.b n));
              right = (ap (shows marks.Else) (past_mark marks.Else m.b n k), record { value = tt; whole = record { a = k.a; b = k.b; parts = k.parts; left = else_mark.enough tt k.a (first_or k.b n) k.left refl; right = k.right } });
            };
          });
        };
      }

  loop_place : (test : Test) (front : List Piece) (n : Option Piece) → Past (IsHead marks.While test) D front n → WhilePlace D front n
  loop_place test front n l = record { value = test; whole = record { a = l.a; b = l.b; parts = l.parts; left = while_head.enough test l.a (first_or l.b n) l.left refl; right = l.right } }

-- ---- statements, lists of them, bodies and programs

-- what is said of a statement that stops by itself
pub record OwnIs (fault : Fault) (Own : List Piece → Option Piece → Type 0) : Type 1 where
  pub others : fault ≡ faults.Unexpected → ⊥
  pub foreign : List Piece → Option Piece → Type 0
  pub simple : List Piece → Option Piece → Type 0
  pub foreign_sinks : Sinks {A = Node} fault (refuse faults.NotTaken) foreign
  pub simple_sinks : Sinks fault simple_at simple
  pub of_foreign : (front : List Piece) (n : Option Piece) → opening_of (first_or front n) ≡ openings.Foreign → foreign front n → Own front n
  pub of_simple : (front : List Piece) (n : Option Piece) → simple front n → Own front n
  pub either : (front : List Piece) (n : Option Piece) → Own front n → ((opening_of (first_or front n) ≡ openings.Foreign) × foreign front n) ⊎ ((opening_of (first_or front n) ≡ openings.Simple) × simple front n)
  pub first_is : (good : Option Sort → Bool) (value : Bool) → good (Some (sorts.Fixed marks.Foreign)) ≡ value → good (Some (sorts.Fixed marks.Include)) ≡ value → (front : List Piece) (n : Option Piece) → Own front n → good (sort_of (first_or front n)) ≡ value

module _ (fault : Fault) (Own : List Piece → Option Piece → Type 0) (own : OwnIs fault Own) where
  abbrev BareBy : (Bool → List Item → List Piece → Type 0) → Where → Opening → Where
  BareBy B D openings.If = IfPlace B D
  BareBy B D openings.While = WhilePlace D
  BareBy B D openings.Foreign = own.foreign
  BareBy B D openings.Simple = own.simple

  bare_place_to : (B : Bool → List Item → List Piece → Type 0) (D : Where) (k : Opening) (front : List Piece) (n : Option Piece) → opening_of (first_or front n) ≡ k → BareBy B D k front n → InBare Own D B front n
  bare_place_to B D openings.If front n e d = inr (if_into B D front n d)
  bare_place_to B D openings.While front n e d = inr (while_into B D front n d)
  bare_place_to B D openings.Foreign front n e d = inl (own.of_foreign front n e d)
  bare_place_to B D openings.Simple front n e d = inl (own.of_simple front n d)

  at_key : (B : Bool → List Item → List Piece → Type 0) (D : Where) (k : Opening) (front : List Piece) (n : Option Piece) → opening_of (first_or front n) ≡ k → BareBy B D k front n → SwitchPlace opening_of (BareBy B D) front n
  at_key B D k front n e d = subst (λ (j : Opening). BareBy B D j front n) (sym e) d

  into_place : (B : Bool → List Item → List Piece → Type 0) (D : List Piece → Option Piece → Type 0) (front : List Piece) (n : Option Piece) → Into D B front n → SwitchPlace opening_of (BareBy B D) front n
  into_place B D _ _ (Into.in_then test front n l) = at_key B D openings.If front n (ap opening_in (past_head marks.If test front n l)) (then_place B D test front n l)
  into_place B D _ _ (Into.in_else test then front n l) = at_key B D openings.If front n (ap opening_in (past_head marks.If test front n l)) (else_place B D test then front n l)
  into_place B D _ _ (Into.in_loop test front n l) = at_key B D openings.While front n (ap opening_in (past_head marks.While test front n l)) (loop_place B D test front n l)

  bare_place_from : (B : Bool → List Item → List Piece → Type 0) (D : Where) (front : List Piece) (n : Option Piece) → InBare Own D B front n → SwitchPlace opening_of (BareBy B D) front n
  bare_place_from B D front n d =
      elim d [
        | inl h ↦ elim (own.either front n h) [
          | inl h ↦ at_key B D openings.Foreign front n h.0 h.1
          | inr h ↦ at_key B D openings.Simple front n h.0 h.1
        ]
        | inr h ↦ into_place B D front n h
      ]

  bare_first_at : (B : Bool → List Item → List Piece → Type 0) (D : Where) (good : Option Sort → Bool) (value : Bool) → good (Some (sorts.Fixed marks.Foreign)) ≡ value → good (Some (sorts.Fixed marks.Include)) ≡ value → good (Some (sorts.Fixed marks.If)) ≡ value → good (Some (sorts.Fixed marks.While)) ≡ value
      → (front : List Piece) (n : Option Piece) → InBare Own D B front n → good (sort_of (first_or front n)) ≡ value
  bare_first_at B D good value foreign include branch loop front n d = elim d [ inl h ↦ own.first_is good value foreign include front n h | inr h ↦ into_first good value branch loop front n h ]

  notes_first_at : (D : Where) (good : Option Sort → Bool) (value : Bool) → good (Some sorts.Note) ≡ value → ((front : List Piece) (n : Option Piece) → D front n → good (sort_of (first_or front n)) ≡ value)
      → (notes : List Note) (front : List Piece) (n : Option Piece) → JoinedIn (λ f m. IsMany IsNote notes f) D front n → good (sort_of (first_or front n)) ≡ value
  notes_first_at D good value note rest [] front n l = ap (λ (f : List Piece). good (sort_of (first_or f n))) (l.parts ∙ ap (λ (f : List Piece). f ++ l.b) l.left) ∙ rest l.b n l.right
  notes_first_at D good value note rest (x ∷ notes) front n l =
      let s = l.left in
      ap (λ o. good (sort_of o)) (past_next front n l ∙ (ap (λ (f : List Piece). first_or f (first_or l.b n)) s.parts ∙ first_or-append s.a s.b (first_or l.b n))) ∙ ap good (note_next x s.a (first_or s.b (first_or l.b n)) s.left) ∙ note

  -- how a place in a statement begins
  starts_at : (B : Bool → List Item → List Piece → Type 0) (D : Where) (good : Option Sort → Bool) (value : Bool) → good (Some sorts.Note) ≡ value → good (Some (sorts.Fixed marks.Foreign)) ≡ value → good (Some (sorts.Fixed marks.Include)) ≡ value → good (Some (sorts.Fixed marks.If)) ≡ value → good (Some (sorts.Fixed marks.While)) ≡ value
      → (front : List Piece) (n : Option Piece) → InStatement Own D B front n → good (sort_of (first_or front n)) ≡ value
  starts_at B D good value note foreign include branch loop front n d = notes_first_at (InBare Own D B) good value note (bare_first_at B D good value foreign include branch loop) d.notes front n d.way

  bare_sinks : (body : Inner) (B C : Bool → List Item → List Piece → Type 0) (D : Where) → Reads body (OpenIn B) (Any C) → Sinks fault body D → (k : Opening) → Sinks fault (bare_by body k) (BareBy B D k)
  bare_sinks body B C D reads sinks openings.If = if-Sinks fault own.others body B C D reads sinks
  bare_sinks body B C D reads sinks openings.While = while-Sinks fault own.others body B C D reads sinks
  bare_sinks body B C D reads sinks openings.Foreign = own.foreign_sinks
  bare_sinks body B C D reads sinks openings.Simple = own.simple_sinks

  bare-Sinks : (body : Inner) (B C : Bool → List Item → List Piece → Type 0) (D : Where) → Reads body (OpenIn B) (Any C) → Sinks fault body D → Sinks fault (bare_at body) (InBare Own D B)
  unfolding bare_at
  bare-Sinks body B C D reads sinks =
      renamed-Sinks fault (switch opening_of (bare_by body)) (SwitchPlace opening_of (BareBy B D)) (InBare Own D B)
      (switch-Sinks fault opening_of (bare_by body) (BareBy B D) (bare_sinks body B C D reads sinks))
      (λ front n d. bare_place_to B D (opening_of (first_or front n)) front n refl d)
      (bare_place_from B D)

  statement-Sinks : (body : Inner) (B C : Bool → List Item → List Piece → Type 0) (D : Where) → Reads body (OpenIn B) (Any C) → Sinks fault body D → Sinks fault (item_at body) (InStatement Own D B)
  unfolding item_at
  statement-Sinks body B C D reads sinks =
      renamed-Sinks fault (mapped item_of (both notes_at (placed place_of (bare_at body)))) (Behind notes_part.context (InBare Own D B)) (InStatement Own D B)
      (mapped-Sinks fault item_of (both notes_at (placed place_of (bare_at body))) (Behind notes_part.context (InBare Own D B))
      (behind-Sinks fault notes_at (placed place_of (bare_at body)) notes_part.context (IsMany IsNote) (InBare Own D B) notes_part.reads (notes_part.calm fault own.others)
      (placed-Sinks fault place_of (bare_at body) (InBare Own D B) (bare-Sinks body B C D reads sinks))))
      (λ front n d. let l = d.whole in record { notes = d.value; way = record { a = l.a; b = l.b; parts = l.parts; left = notes_part.reads.forget l.a (first_or l.b n) d.value l.left; right = l.right } })
      (λ front n d. let l = d.way in record { value = d.notes; whole = record { a = l.a; b = l.b; parts = l.parts; left = notes_part.enough d.notes l.a (first_or l.b n) l.left (bare_first_at B D not_note false refl refl refl refl l.b n l.right); right = l.right } })

  -- lists of statements
  abbrev LaterPlace : (Bool → List Item → List Piece → Type 0) → Where → (Option Piece → Bool) → Where
  LaterPlace B D test front n = (xs : List Item) × ManyPlace test (OpenIn (Statement B)) (InStatement Own D B) xs front n

  later_to : (B : Bool → List Item → List Piece → Type 0) (D : Where) (test : Option Piece → Bool) (xs : List Item) (front : List Piece) (n : Option Piece) → ManyPlace test (OpenIn (Statement B)) (InStatement Own D B) xs front n → JoinedIn (λ f m. IsMany (Any (Statement B)) xs f) (InStatement Own D B) front n
  later_to B D test [] front n d = record { a = []; b = front; parts = refl; left = refl; right = d.1 }
  later_to B D test (x ∷ xs) front n l =
      let r = later_to B D test xs l.b n l.right in
      record {
        a = l.a ++ r.a;
        b = r.b;
        parts = l.parts ∙ ap (λ (f : List Piece). l.a ++ f) r.parts ∙ sym (append_assoc l.a r.a r.b);
        left = record { a = l.a; b = r.a; parts = refl; left = (l.left.0, l.left.1); right = r.left };
        right = r.right;
      }

  later_from : (B : Bool → List Item → List Piece → Type 0) (D : Where) (test : Option Piece → Bool) → ((front : List Piece) (n : Option Piece) → InStatement Own D B front n → test (first_or front n) ≡ true) → (xs : List Item) (front : List Piece) (n : Option Piece) → JoinedIn (λ f m. IsMany (Any (Statement B)) xs f) (InStatement Own D B) front n → ManyPlace test (OpenIn (Statement B)) (InStatement Own D B) xs front n
  later_from B D test passes [] front n l =
      let e : front ≡ l.b = l.parts ∙ ap (λ (f : List Piece). f ++ l.b) l.left in
      let here : InStatement Own D B front n = subst (λ (f : List Piece). InStatement Own D B f n) (sym e) l.right in
      (passes front n here, here)
  later_from B D test passes (x ∷ xs) front n l =
      let m = l.left in
      let calm : begins marks.Else (first_or (m.b ++ l.b) n) ≡ false = ap (begins marks.Else) (first_or-append m.b l.b n) ∙ no_else_behind B xs m.b (first_or l.b n) (starts_at B D (shows marks.Else) false refl refl refl refl refl l.b n l.right) m.right in
      record {
        a = m.a;
        b = m.b ++ l.b;
        parts = l.parts ∙ ap (λ (f : List Piece). f ++ l.b) m.parts ∙ append_assoc m.a m.b l.b;
        left = (m.left.0, m.left.1, λ _. calm);
        right = later_from B D test passes xs (m.b ++ l.b) n (record { a = m.b; b = l.b; parts = refl; left = m.right; right = l.right });
      }

module _ (fault : Fault) (Own : List Piece → Option Piece → Type 0) (own : OwnIs fault Own) (Bottom : List Piece → Option Piece → Type 0) (bottom : Sinks {A = List Item} fault (refuse faults.TooDeep) Bottom) where
  items-Sinks : (deep : ℕ) (test : Option Piece → Bool) → ((front : List Piece) (n : Option Piece) → InStatement Own (InBody Own Bottom deep) (IsBody deep) front n → test (first_or front n) ≡ true) → ((x : Item) (front : List Piece) (n : Option Piece) → OpenIn (IsStatement deep) x front n → test (first_or front n) ≡ true)
      → Sinks fault (body_at deep) (InBody Own Bottom deep) → Sinks fault (many test (item_at (body_at deep))) (InStatements deep Own (InBody Own Bottom deep))
  items-Sinks deep test passes begins sinks =
      let D : List Piece → Option Piece → Type 0 = InBody Own Bottom deep in
      renamed-Sinks fault (many test (item_at (body_at deep))) (LaterPlace fault Own own (IsBody deep) D test) (InStatements deep Own D)
      (many-Sinks fault test (item_at (body_at deep)) (OpenIn (IsStatement deep)) (Any (IsStatement (suc deep))) (InStatement Own D (IsBody deep)) (statement-Reads (body_at deep) (IsBody deep) (IsBody (suc deep)) (body-Reads deep) (deeper deep)) begins (statement_goes deep)
      (statement-Sinks fault Own own (body_at deep) (IsBody deep) (IsBody (suc deep)) D (body-Reads deep) sinks))
      (λ front n d. record { items = d.0; way = later_to fault Own own (IsBody deep) D test d.0 front n d.1 })
      (λ front n d. (d.items, later_from fault Own own (IsBody deep) D test passes d.items front n d.way))

  inner-Sinks : (deep : ℕ) → Sinks fault (body_at deep) (InBody Own Bottom deep) → Sinks fault (many open_inside (item_at (body_at deep))) (InStatements deep Own (InBody Own Bottom deep))
  inner-Sinks deep sinks = items-Sinks deep open_inside (starts_at fault Own own (IsBody deep) (InBody Own Bottom deep) goes_inside true refl refl refl refl refl) (λ x front n l. (statement_starts l.0 x front n l.1).inside) sinks

  outer-Sinks : (deep : ℕ) → Sinks fault (body_at deep) (InBody Own Bottom deep) → Sinks fault (many open_outside (item_at (body_at deep))) (InStatements deep Own (InBody Own Bottom deep))
  outer-Sinks deep sinks = items-Sinks deep open_outside (starts_at fault Own own (IsBody deep) (InBody Own Bottom deep) goes_outside true refl refl refl refl refl) (λ x front n l. (statement_starts l.0 x front n l.1).outside) sinks

  abbrev BodyPlace : ℕ → Where
  BodyPlace deep = ChoicePlace (begins marks.BraceOpen) (Behind brace_open.context (InStatements deep Own (InBody Own Bottom deep))) (InStatement Own (InBody Own Bottom deep) (IsBody deep))

  body_place_to : (deep : ℕ) (front : List Piece) (n : Option Piece) → BodyPlace deep front n → InBody Own Bottom (suc deep) front n
  body_place_to deep front n d =
      elim d [
        | inl h ↦ let l = h.1.whole in inr (record { a = l.a; b = l.b; parts = l.parts; left = brace_open.reads.forget l.a (first_or l.b n) tt l.left; right = l.right })
        | inr h ↦ inl h.1
      ]

  body_place_from : (deep : ℕ) (front : List Piece) (n : Option Piece) → InBody Own Bottom (suc deep) front n → BodyPlace deep front n
  body_place_from deep front n d =
      elim d [
        | inl h ↦ inr (starts_at fault Own own (IsBody deep) (InBody Own Bottom deep) (shows marks.BraceOpen) false refl refl refl refl refl front n h, h)
        | inr l ↦ inl (ap (shows marks.BraceOpen) (past_mark marks.BraceOpen front n l), record { value = tt; whole = record { a = l.a; b = l.b; parts = l.parts; left = brace_open.enough tt l.a (first_or l.b n) l.left refl; right = l.right } })
      ]

  body-Sinks : (deep : ℕ) → Sinks fault (body_at deep) (InBody Own Bottom deep)
  unfolding body_at inside_at block_at
  body-Sinks zero = bottom
  body-Sinks (suc deep) =
      let D : List Piece → Option Piece → Type 0 = InBody Own Bottom deep in
      renamed-Sinks fault (choice (begins marks.BraceOpen) (after (mark_at marks.BraceOpen) (before (many open_inside (item_at (body_at deep))) (mark_at marks.BraceClose))) (mapped alone (item_at (body_at deep)))) (BodyPlace deep) (InBody Own Bottom (suc deep))
      (choice-Sinks fault (begins marks.BraceOpen) (after (mark_at marks.BraceOpen) (before (many open_inside (item_at (body_at deep))) (mark_at marks.BraceClose))) (mapped alone (item_at (body_at deep))) (Behind brace_open.context (InStatements deep Own D)) (InStatement Own D (IsBody deep))
      (after-Sinks fault (mark_at marks.BraceOpen) (before (many open_inside (item_at (body_at deep))) (mark_at marks.BraceClose)) brace_open.context (λ _. IsMark marks.BraceOpen) (InStatements deep Own D) brace_open.reads (brace_open.calm fault own.others)
      (before-Sinks fault (many open_inside (item_at (body_at deep))) (mark_at marks.BraceClose) (InStatements deep Own D) (inner-Sinks deep (body-Sinks deep)) (brace_close.calm fault own.others)))
      (mapped-Sinks fault alone (item_at (body_at deep)) (InStatement Own D (IsBody deep)) (statement-Sinks fault Own own (body_at deep) (IsBody deep) (IsBody (suc deep)) D (body-Reads deep) (body-Sinks deep))))
      (body_place_to deep) (body_place_from deep)

  no_version_next : (deep : ℕ) (front : List Piece) (n : Option Piece) → InStatements deep Own (InBody Own Bottom deep) front n → begins marks.Openqasm (first_or front n) ≡ false
  no_version_next deep front n d =
      let l = d.way in
      ap (begins marks.Openqasm) (past_next front n l)
      ∙ many_next (begins marks.Openqasm) false (λ x f m s. (statement_starts s.0 x f m s.1).no_version) d.items l.a (first_or l.b n) l.left
      (starts_at fault Own own (IsBody deep) (InBody Own Bottom deep) (shows marks.Openqasm) false refl refl refl refl refl l.b n l.right)

  -- where the version may stop the reader, too
  program-Sinks : (V : List Piece → Option Piece → Type 0) → Sinks fault maybe_version_at V → (deep : ℕ) → Sinks fault (program_at deep) (λ front n. V front n ⊎ InProgram Own Bottom deep front n)
  unfolding program_at
  program-Sinks V version deep =
      let D : List Piece → Option Piece → Type 0 = InStatements deep Own (InBody Own Bottom deep) in
      let list : List Piece → Result ((List Item × Place) × List Piece) (Fault × List Piece) = both (many open_outside (item_at (body_at deep))) end_at in
      renamed-Sinks fault (mapped tree_of (after maybe_version_at list)) (λ front n. V front n ⊎ Behind maybe_version_part.context D front n) (λ front n. V front n ⊎ InProgram Own Bottom deep front n)
      (mapped-Sinks fault tree_of (after maybe_version_at list) (λ front n. V front n ⊎ Behind maybe_version_part.context D front n)
      (after_both-Sinks fault maybe_version_at list maybe_version_part.context (λ _. Maybe IsVersion) V D maybe_version_part.reads version
      (ahead-Sinks fault (many open_outside (item_at (body_at deep))) end_at D (outer-Sinks deep (body-Sinks deep)) (token_never fault faults.Unexpected end_of (λ e. own.others (sym e))))))
      (λ front n d. elim d [
        | inl h ↦ inl h
        | inr h ↦ let l = h.whole in inr (record { a = l.a; b = l.b; parts = l.parts; left = maybe_version_part.reads.forget l.a (first_or l.b n) h.value l.left; right = l.right })
      ])
      (λ front n d. elim d [
        | inl h ↦ inl h
        | inr l ↦ inr (record { value = tt; whole = record { a = l.a; b = l.b; parts = l.parts; left = maybe_version_part.enough tt l.a (first_or l.b n) l.left (ap (λ b. b || false) (no_version_next deep l.b n l.right)); right = l.right } })
      ])

-- ---- too deep

deep_is_other : faults.TooDeep ≡ faults.Unexpected → ⊥
deep_is_other e = cc

word_not_deep : faults.NotTaken ≡ faults.TooDeep → ⊥
word_not_deep e = cc

deep_own : OwnIs faults.TooDeep Nowhere
deep_own = record {
  others = deep_is_other;
  foreign = Nowhere;
  simple = Nowhere;
  foreign_sinks = never-Sinks {A = Node} faults.TooDeep (refuse faults.NotTaken) (refuse_never {A = Node} faults.TooDeep faults.NotTaken word_not_deep);
  simple_sinks = never-Sinks faults.TooDeep simple_at (simple_part.calm faults.TooDeep refl);
  of_foreign = λ front n e d. d;
  of_simple = λ front n d. d;
  either = λ front n d. absurd d;
  first_is = λ good value foreign include front n d. absurd d;
}

pub deep-Sinks : (deep : ℕ) → Sinks faults.TooDeep (program_at deep) (IsTooDeep deep)
deep-Sinks deep =
    renamed-Sinks faults.TooDeep (program_at deep) (λ front n. Nowhere front n ⊎ IsTooDeep deep front n) (IsTooDeep deep)
    (program-Sinks faults.TooDeep Nowhere deep_own Here (refuse-Sinks faults.TooDeep) Nowhere (never-Sinks faults.TooDeep maybe_version_at (maybe_version_part.calm faults.TooDeep refl)) deep)
    (λ front n d. elim d [ inl h ↦ absurd h | inr h ↦ h ])
    (λ front n d. inr d)

-- ---- not taken

word_is_other : faults.NotTaken ≡ faults.Unexpected → ⊥
word_is_other e = cc

deep_not_word : faults.TooDeep ≡ faults.NotTaken → ⊥
deep_not_word e = cc

foreign_is : (o : Option Sort) → shows marks.Foreign o ≡ true → o ≡ Some (sorts.Fixed marks.Foreign)
foreign_is None e = absurd cc
foreign_is (Some s) e = ap Some (sort_is marks.Foreign s e)

foreign_mark_next : (m : Mark) → opening_at m ≡ openings.Foreign → is_sort marks.Foreign (sorts.Fixed m) ≡ true
foreign_mark_next marks.Openqasm e = absurd cc
foreign_mark_next marks.Include e = absurd cc
foreign_mark_next marks.Qubit e = absurd cc
foreign_mark_next marks.Qreg e = absurd cc
foreign_mark_next marks.Bit e = absurd cc
foreign_mark_next marks.Creg e = absurd cc
foreign_mark_next marks.Measure e = absurd cc
foreign_mark_next marks.Reset e = absurd cc
foreign_mark_next marks.Barrier e = absurd cc
foreign_mark_next marks.If e = absurd cc
foreign_mark_next marks.Else e = absurd cc
foreign_mark_next marks.While e = absurd cc
foreign_mark_next marks.Pi e = absurd cc
foreign_mark_next marks.True e = absurd cc
foreign_mark_next marks.False e = absurd cc
foreign_mark_next marks.Foreign e = refl
foreign_mark_next marks.Semicolon e = absurd cc
foreign_mark_next marks.Comma e = absurd cc
foreign_mark_next marks.ParenOpen e = absurd cc
foreign_mark_next marks.ParenClose e = absurd cc
foreign_mark_next marks.BracketOpen e = absurd cc
foreign_mark_next marks.BracketClose e = absurd cc
foreign_mark_next marks.BraceOpen e = absurd cc
foreign_mark_next marks.BraceClose e = absurd cc
foreign_mark_next marks.Assign e = absurd cc
foreign_mark_next marks.Equals e = absurd cc
foreign_mark_next marks.Bang e = absurd cc
foreign_mark_next marks.Minus e = absurd cc
foreign_mark_next marks.Arrow e = absurd cc
foreign_mark_next marks.Star e = absurd cc
foreign_mark_next marks.Slash e = absurd cc
foreign_mark_next marks.At e = absurd cc
foreign_mark_next marks.PiSign e = absurd cc
foreign_mark_next marks.End e = absurd cc

foreign_next : (o : Option Sort) → opening_in o ≡ openings.Foreign → shows marks.Foreign o ≡ true
foreign_next None e = absurd cc
foreign_next (Some (sorts.Fixed m)) e = foreign_mark_next m e
foreign_next (Some sorts.Name) e = absurd cc
foreign_next (Some (sorts.Number n)) e = absurd cc
foreign_next (Some sorts.Decimal) e = absurd cc
foreign_next (Some sorts.Quoted) e = absurd cc
foreign_next (Some sorts.Note) e = absurd cc

refused_either : (front : List Piece) (n : Option Piece) → Refused front n → ((opening_of (first_or front n) ≡ openings.Foreign) × (front ≡ [])) ⊎ ((opening_of (first_or front n) ≡ openings.Simple) × BadLibrary front n)
refused_either front n d =
    elim d [
      | inl h ↦ inl (ap (λ (f : List Piece). opening_of (first_or f n)) h.0 ∙ ap opening_in (foreign_is (sort_of n) h.1), h.0)
      | inr h ↦ inr (ap opening_in (mark_next marks.Include front n h.0), h)
    ]

refused_first : (good : Option Sort → Bool) (value : Bool) → good (Some (sorts.Fixed marks.Foreign)) ≡ value → good (Some (sorts.Fixed marks.Include)) ≡ value → (front : List Piece) (n : Option Piece) → Refused front n → good (sort_of (first_or front n)) ≡ value
refused_first good value foreign include front n d =
    elim d [
      | inl h ↦ ap (λ (f : List Piece). good (sort_of (first_or f n))) h.0 ∙ ap good (foreign_is (sort_of n) h.1) ∙ foreign
      | inr h ↦ ap good (mark_next marks.Include front n h.0) ∙ include
    ]

word_own : OwnIs faults.NotTaken Refused
word_own = record {
  others = word_is_other;
  foreign = Here;
  simple = BadLibrary;
  foreign_sinks = refuse-Sinks faults.NotTaken;
  simple_sinks = simple_word-Sinks;
  of_foreign = λ front n e d. inl (d, foreign_next (sort_of n) (ap (λ (f : List Piece). opening_of (first_or f n)) (sym d) ∙ e));
  of_simple = λ front n d. inr d;
  either = refused_either;
  first_is = refused_first;
}

pub word-Sinks : (deep : ℕ) → Sinks faults.NotTaken (program_at deep) (IsNotTaken deep)
word-Sinks deep = program-Sinks faults.NotTaken Refused word_own Nowhere (never-Sinks {A = List Item} faults.NotTaken (refuse faults.TooDeep) (refuse_never {A = List Item} faults.NotTaken faults.TooDeep deep_not_word)) BadVersion maybe_version_word-Sinks deep
