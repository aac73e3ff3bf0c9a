-- The readers of statements, bodies and programs read the grammar.
use Rattle.std.proofs.Common.{◌≡◌, ℕ, zero, suc, ◌<◌, List, [], ◌∷◌, ◌++◌, length, Result, Ok, Option, Some, None, Bool, true, false, refl, sym, ap, subst, ◌∙◌, arith, inl, inr}
use Rattle.std.specs.Prelude.{◌||◌, is_some, not}
use Rattle.aq_lex.specs.declared.place.Place.{Place}
use Rattle.aq_grammar.specs.Words.{Joined, ◌⨾◌, first_or, IsMany}
use Rattle.aq_grammar.specs.Readers.{both, mapped, after, before, switch, choice, many, then_maybe, placed, refuse}
use Rattle.aq_grammar.specs.Laws.{In, Reads, BothIn, Both, ManyIn}
use Rattle.aq_grammar.proofs.Reading.{both-Reads, MappedIn, Mapped, mapped-Reads, renamed, same-Reads, Either, ChoiceIn, choice-Reads, many-Reads, goes_of, AfterIn, BeforeIn, after-Reads, before-Reads, ThenMaybeIn, ThenMaybe, then_maybe-Reads, SwitchIn, Switched, switch-Reads, PlacedIn, Placed, placed-Reads, refuse-Reads, TokenIn, token-Reads, first_or-append, first_or-long}
use Rattle.aq_grammar.proofs.Parts.{Part, nothing, either, next_of, many_next, mapped_part, renamed_part, optional_part}
use Rattle.aq_parse.specs.Piece.{Piece}
use Rattle.aq_parse.specs.Tokens.{sort_of, shows, shows_note, begins, IsMark, mark_at, IsNote, IsEnd, end_of, end_at, place_of}
use Rattle.aq_parse.specs.Grammar.{IsVersion, IsHead, Simple, Bare, Statement, Any, Body, IsBody, IsStatement, Maybe, IsProgram}
use Rattle.aq_parse.specs.Reading.{head_at, if_of, if_at, while_of, while_at, opening_in, opening_of, bare_by, bare_at, item_of, notes_at, item_at, open_inside, open_outside, alone, block_at, inside_at, body_at, forgotten, maybe_version_at, tree_of, program_at}
use Rattle.aq_parse.specs.declared.mark.Mark.{Mark}
use Rattle.aq_parse.specs.declared.mark.Mark.TheVariants as marks
use Rattle.aq_parse.specs.declared.lexeme.Sort.{Sort}
use Rattle.aq_parse.specs.declared.lexeme.Sort.TheVariants as sorts
use Rattle.aq_parse.specs.declared.reader.Fault.{Fault}
use Rattle.aq_parse.specs.declared.reader.Fault.TheVariants as faults
use Rattle.aq_parse.specs.declared.reader.Opening.{Opening}
use Rattle.aq_parse.specs.declared.reader.Opening.TheVariants as openings
use Rattle.aq_parse.specs.declared.tree.Note.{Note}
use Rattle.aq_parse.specs.declared.tree.Test.{Test}
use Rattle.aq_parse.specs.declared.tree.Item.{Item}
use Rattle.aq_parse.specs.declared.tree.Tree.{Tree}
use Rattle.aq_parse.specs.declared.tree.Node.{Node}
use Rattle.aq_parse.specs.declared.tree.Node.TheVariants as nodes
use Rattle.aq_parse.proofs.Marks.{like, Others, last, mark_part, mark_next, note_next, end_next, after_mark}
use Rattle.aq_parse.proofs.Simples.{Deep, head_part, simple_part, simple_first, notes_part, version_part}

-- an open statement is not followed by an else
abbrev pub Fits : Bool → Option Piece → Type 0
Fits opened n = opened ≡ true → begins marks.Else n ≡ false

abbrev pub OpenIn : {A : Type 0} → (Bool → A → List Piece → Type 0) → In Piece A
OpenIn S x front n = (opened : Bool) × S opened x front × Fits opened n

pub closed : (n : Option Piece) → Fits false n
closed n e = absurd cc

pub shut_at : {A : Type 0} (S : Bool → A → List Piece → Type 0) (x : A) (front : List Piece) (n : Option Piece) (opened : Bool) → S opened x front → Fits opened n → begins marks.Else n ≡ true → S false x front
shut_at S x front n true s fits e = let f = fits refl in absurd cc
shut_at S x front n false s fits e = s

-- ---- the parts of a statement that have no bodies

pub if_head : Part Others last (head_at marks.If) (IsHead marks.If) nothing
if_head = head_part marks.If refl

pub while_head : Part Others last (head_at marks.While) (IsHead marks.While) nothing
while_head = head_part marks.While refl

pub else_mark : Part Others last (mark_at marks.Else) (λ _. IsMark marks.Else) nothing
else_mark = mark_part marks.Else refl

pub brace_open : Part Others last (mark_at marks.BraceOpen) (λ _. IsMark marks.BraceOpen) nothing
brace_open = mark_part marks.BraceOpen refl

pub brace_close : Part Others last (mark_at marks.BraceClose) (λ _. IsMark marks.BraceClose) nothing
brace_close = mark_part marks.BraceClose refl

-- ---- how a statement begins

pub after_head : {Q : List Piece → Type 0} (word : Mark) (test : Test) (front : List Piece) (n : Option Piece) → Joined (IsHead word test) Q front → sort_of (first_or front n) ≡ Some (sorts.Fixed word)
after_head word test front n l = ap sort_of (next_of front n l) ∙ after_mark word l.a (first_or l.b n) l.left

pub bare_first : {R : Type 0} {B : Bool → List Item → List Piece → Type 0} (good : Option Sort → R) (value : R)
    → good (Some (sorts.Fixed marks.Include)) ≡ value → good (Some (sorts.Fixed marks.Qubit)) ≡ value → good (Some (sorts.Fixed marks.Qreg)) ≡ value → good (Some (sorts.Fixed marks.Bit)) ≡ value → good (Some (sorts.Fixed marks.Creg)) ≡ value
    → good (Some (sorts.Fixed marks.Measure)) ≡ value → good (Some (sorts.Fixed marks.Reset)) ≡ value → good (Some (sorts.Fixed marks.Barrier)) ≡ value → good (Some sorts.Name) ≡ value
    → good (Some (sorts.Fixed marks.If)) ≡ value → good (Some (sorts.Fixed marks.While)) ≡ value
    → (opened : Bool) (x : Node) (front : List Piece) (n : Option Piece) → Bare B opened x front → good (sort_of (first_or front n)) ≡ value
bare_first good value i q r b c m s a w branch loop _ _ _ n (Bare.simple x front l) = simple_first good value i q r b c m s a w x front n l
bare_first good value i q r b c m s a w branch loop _ _ _ n (Bare.branch opened test then front l) = ap good (after_head marks.If test front n l) ∙ branch
bare_first good value i q r b c m s a w branch loop _ _ _ n (Bare.choose opened test then otherwise front l) = ap good (after_head marks.If test front n l) ∙ branch
bare_first good value i q r b c m s a w branch loop _ _ _ n (Bare.repeat opened test body front l) = ap good (after_head marks.While test front n l) ∙ loop

pub some_long : (front : List Piece) → is_some (sort_of (first_or front None)) ≡ true → 0 < length front
some_long [] e = absurd cc
some_long (t ∷ ts) e = omega arith

pub bare_long : {B : Bool → List Item → List Piece → Type 0} (opened : Bool) (x : Node) (front : List Piece) → Bare B opened x front → 0 < length front
bare_long opened x front l = some_long front (bare_first is_some true refl refl refl refl refl refl refl refl refl refl refl opened x front None l)

abbrev pub not_note : Option Sort → Bool
not_note s = shows_note s || false

-- behind the notes comes no note
pub bare_no_note : {B : Bool → List Item → List Piece → Type 0} (opened : Bool) (x : Node) (front : List Piece) (n : Option Piece) → Bare B opened x front → not_note (sort_of (first_or front n)) ≡ false
bare_no_note opened x front n l = bare_first not_note false refl refl refl refl refl refl refl refl refl refl refl opened x front n l

pub notes_first : {R : Type 0} {Q : List Piece → Type 0} (good : Option Sort → R) (value : R) → good (Some sorts.Note) ≡ value → (notes : List Note) (front : List Piece) (n : Option Piece) (l : Joined (IsMany IsNote notes) Q front) → good (sort_of (first_or l.b n)) ≡ value → good (sort_of (first_or front n)) ≡ value
notes_first good value note [] front n l e = ap (λ (f : List Piece). good (sort_of (first_or f n))) (l.parts ∙ ap (λ (f : List Piece). f ++ l.b) l.left) ∙ e
notes_first good value note (x ∷ notes) front n l e = ap (λ o. good (sort_of o)) (next_of front n l ∙ next_of l.a (first_or l.b n) l.left) ∙ ap good (note_next x l.left.a (first_or l.left.b (first_or l.b n)) l.left.left) ∙ note

pub statement_first : {R : Type 0} {B : Bool → List Item → List Piece → Type 0} (good : Option Sort → R) (value : R)
    → good (Some sorts.Note) ≡ value
    → good (Some (sorts.Fixed marks.Include)) ≡ value → good (Some (sorts.Fixed marks.Qubit)) ≡ value → good (Some (sorts.Fixed marks.Qreg)) ≡ value → good (Some (sorts.Fixed marks.Bit)) ≡ value → good (Some (sorts.Fixed marks.Creg)) ≡ value
    → good (Some (sorts.Fixed marks.Measure)) ≡ value → good (Some (sorts.Fixed marks.Reset)) ≡ value → good (Some (sorts.Fixed marks.Barrier)) ≡ value → good (Some sorts.Name) ≡ value
    → good (Some (sorts.Fixed marks.If)) ≡ value → good (Some (sorts.Fixed marks.While)) ≡ value
    → (opened : Bool) (x : Item) (front : List Piece) (n : Option Piece) → Statement B opened x front → good (sort_of (first_or front n)) ≡ value
statement_first good value note i q r b c m s a w branch loop opened x front n l = notes_first good value note x.notes front n l (bare_first good value i q r b c m s a w branch loop opened x.node l.b n l.right.0)

abbrev pub goes_inside : Option Sort → Bool
goes_inside s = not (shows marks.BraceClose s)

abbrev pub goes_outside : Option Sort → Bool
goes_outside s = not (shows marks.End s)

pub record Starts (front : List Piece) (n : Option Piece) : Type 0 where
  pub inside : open_inside (first_or front n) ≡ true
  pub outside : open_outside (first_or front n) ≡ true
  pub no_else : begins marks.Else (first_or front n) ≡ false
  pub no_brace : begins marks.BraceOpen (first_or front n) ≡ false
  pub no_version : begins marks.Openqasm (first_or front n) ≡ false
  pub long : 0 < length front

pub statement_starts : {B : Bool → List Item → List Piece → Type 0} (opened : Bool) (x : Item) (front : List Piece) (n : Option Piece) → Statement B opened x front → Starts front n
statement_starts opened x front n l = record {
  inside = statement_first goes_inside true refl refl refl refl refl refl refl refl refl refl refl refl opened x front n l;
  outside = statement_first goes_outside true refl refl refl refl refl refl refl refl refl refl refl refl opened x front n l;
  no_else = statement_first (shows marks.Else) false refl refl refl refl refl refl refl refl refl refl refl refl opened x front n l;
  no_brace = statement_first (shows marks.BraceOpen) false refl refl refl refl refl refl refl refl refl refl refl refl opened x front n l;
  no_version = statement_first (shows marks.Openqasm) false refl refl refl refl refl refl refl refl refl refl refl refl opened x front n l;
  long = some_long front (statement_first is_some true refl refl refl refl refl refl refl refl refl refl refl refl opened x front None l);
}

-- ---- statements, over what bodies are

abbrev pub IfIn : (Bool → List Item → List Piece → Type 0) → In Piece (Test × (List Item × Option (List Item)))
IfIn B = BothIn if_head.context (ThenMaybeIn (begins marks.Else) (OpenIn B) (B false) (AfterIn else_mark.context (OpenIn B)))

abbrev pub IsIf : (Bool → List Item → List Piece → Type 0) → Test × (List Item × Option (List Item)) → List Piece → Type 0
IsIf B = Both (IsHead marks.If) (ThenMaybe (Any B) (B false) (λ ys. IsMark marks.Else ⨾ Any B ys))

abbrev pub WhileIn : (Bool → List Item → List Piece → Type 0) → In Piece (Test × List Item)
WhileIn B = BothIn while_head.context (OpenIn B)

abbrev pub IsWhile : (Bool → List Item → List Piece → Type 0) → Test × List Item → List Piece → Type 0
IsWhile B = Both (IsHead marks.While) (Any B)

abbrev pub BareIn : (Bool → List Item → List Piece → Type 0) → Opening → In Piece Node
BareIn B openings.If = MappedIn if_of (IfIn B)
BareIn B openings.While = MappedIn while_of (WhileIn B)
BareIn B openings.Foreign = λ x front n. ⊥
BareIn B openings.Simple = simple_part.context

abbrev pub BareIs : (Bool → List Item → List Piece → Type 0) → Opening → Node → List Piece → Type 0
BareIs B openings.If = Mapped if_of (IsIf B)
BareIs B openings.While = Mapped while_of (IsWhile B)
BareIs B openings.Foreign = Any (Bare B)
BareIs B openings.Simple = Simple

module _ (B : Bool → List Item → List Piece → Type 0) where
  if_to : (v : Test × (List Item × Option (List Item))) (front : List Piece) (n : Option Piece) → IfIn B v front n → OpenIn (Bare B) (if_of v) front n
  if_to (test, (then, None)) front n l =
      (true, Bare.branch l.right.0.0 test then front (record { a = l.a; b = l.b; parts = l.parts; left = if_head.reads.forget l.a (first_or l.b n) test l.left; right = l.right.0.1 }), λ _. l.right.1)
  if_to (test, (then, Some otherwise)) front n l =
      let r = l.right in (
        r.right.right.0,
        Bare.choose r.right.right.0 test then otherwise front (record {
          a = l.a;
          b = l.b;
          parts = l.parts;
          left = if_head.reads.forget l.a (first_or l.b n) test l.left;
          right = record { a = r.a; b = r.b; parts = r.parts; left = r.left; right = record { a = r.right.a; b = r.right.b; parts = r.right.parts; left = else_mark.reads.forget r.right.a (first_or r.right.b n) tt r.right.left; right = r.right.right.1 } };
        }),
        r.right.right.2,
      )

  if_whole : (v : Test × (List Item × Option (List Item))) (front : List Piece) → IsIf B v front → Any (Bare B) (if_of v) front
  if_whole (test, (then, None)) front l = (true, Bare.branch l.right.0 test then front (record { a = l.a; b = l.b; parts = l.parts; left = l.left; right = l.right.1 }))
  if_whole (test, (then, Some otherwise)) front l =
      let r = l.right in (
        r.right.right.0,
        Bare.choose r.right.right.0 test then otherwise front (record {
          a = l.a;
          b = l.b;
          parts = l.parts;
          left = l.left;
          right = record { a = r.a; b = r.b; parts = r.parts; left = r.left; right = record { a = r.right.a; b = r.right.b; parts = r.right.parts; left = r.right.left; right = r.right.right.1 } };
        }),
      )

  bare_to : (k : Opening) (x : Node) (front : List Piece) (n : Option Piece) → BareIn B k x front n → OpenIn (Bare B) x front n
  bare_to openings.If x front n l = subst (λ (y : Node). OpenIn (Bare B) y front n) l.is (if_to l.from front n l.spelled)
  bare_to openings.While x front n l =
      let w = l.spelled in
      subst (λ (y : Node). OpenIn (Bare B) y front n) l.is (w.right.0, Bare.repeat w.right.0 l.from.0 l.from.1 front (record { a = w.a; b = w.b; parts = w.parts; left = while_head.reads.forget w.a (first_or w.b n) l.from.0 w.left; right = w.right.1 }), w.right.2)
  bare_to openings.Foreign x front n l = absurd l
  bare_to openings.Simple x front n l = (false, Bare.simple x front (simple_part.reads.forget front n x l), closed n)

  bare_whole : (k : Opening) (x : Node) (front : List Piece) → BareIs B k x front → Any (Bare B) x front
  bare_whole openings.If x front l = subst (λ (y : Node). Any (Bare B) y front) l.is (if_whole l.from front l.spelled)
  bare_whole openings.While x front l =
      let w = l.spelled in
      subst (λ (y : Node). Any (Bare B) y front) l.is (w.right.0, Bare.repeat w.right.0 l.from.0 l.from.1 front (record { a = w.a; b = w.b; parts = w.parts; left = w.left; right = w.right.1 }))
  bare_whole openings.Foreign x front l = l
  bare_whole openings.Simple x front l = (false, Bare.simple x front l)

  at_key : (k : Opening) (x : Node) (front : List Piece) (n : Option Piece) → opening_of (first_or front n) ≡ k → BareIn B k x front n → SwitchIn opening_of (BareIn B) x front n
  at_key k x front n e l = subst (λ (j : Opening). BareIn B j x front n) (sym e) l

  bare_from : (opened : Bool) (x : Node) (front : List Piece) (n : Option Piece) → Bare B opened x front → Fits opened n → SwitchIn opening_of (BareIn B) x front n
  bare_from _ _ _ n (Bare.simple x front l) fits = at_key openings.Simple x front n (simple_first opening_in openings.Simple refl refl refl refl refl refl refl refl refl x front n l) (simple_part.enough x front n l refl)
  bare_from _ _ _ n (Bare.branch opened test then front l) fits =
      at_key openings.If (nodes.If test then []) front n (ap opening_in (after_head marks.If test front n l))
      (record { from = (test, (then, None)); is = refl; spelled = record { a = l.a; b = l.b; parts = l.parts; left = if_head.enough test l.a (first_or l.b n) l.left refl; right = ((opened, l.right, λ _. fits refl), fits refl) } })
  bare_from _ _ _ n (Bare.choose opened test then otherwise front l) fits =
      let r = l.right in
      at_key openings.If (nodes.If test then otherwise) front n (ap opening_in (after_head marks.If test front n l))
      (record {
        from = (test, (then, Some otherwise));
        is = refl;
        spelled = record {
          a = l.a;
          b = l.b;
          parts = l.parts;
          left = if_head.enough test l.a (first_or l.b n) l.left refl;
          right = record { a = r.a; b = r.b; parts = r.parts; left = r.left; right = record { a = r.right.a; b = r.right.b; parts = r.right.parts; left = else_mark.enough tt r.right.a (first_or r.right.b n) r.right.left refl; right = (opened, r.right.right, fits) } };
        };
      })
  bare_from _ _ _ n (Bare.repeat opened test body front l) fits =
      at_key openings.While (nodes.While test body) front n (ap opening_in (after_head marks.While test front n l))
      (record { from = (test, body); is = refl; spelled = record { a = l.a; b = l.b; parts = l.parts; left = while_head.enough test l.a (first_or l.b n) l.left refl; right = (opened, l.right, fits) } })

-- ---- more bodies, more statements

pub bare_map : {B C : Bool → List Item → List Piece → Type 0} → ((opened : Bool) (xs : List Item) (front : List Piece) → B opened xs front → C opened xs front) → (opened : Bool) (x : Node) (front : List Piece) → Bare B opened x front → Bare C opened x front
bare_map f _ _ _ (Bare.simple x front l) = Bare.simple x front l
bare_map f _ _ _ (Bare.branch opened test then front l) = Bare.branch opened test then front (record { a = l.a; b = l.b; parts = l.parts; left = l.left; right = f opened then l.b l.right })
bare_map f _ _ _ (Bare.choose opened test then otherwise front l) =
    let r = l.right in
    Bare.choose opened test then otherwise front (record {
      a = l.a;
      b = l.b;
      parts = l.parts;
      left = l.left;
      right = record { a = r.a; b = r.b; parts = r.parts; left = f false then r.a r.left; right = record { a = r.right.a; b = r.right.b; parts = r.right.parts; left = r.right.left; right = f opened otherwise r.right.b r.right.right } };
    })
bare_map f _ _ _ (Bare.repeat opened test body front l) = Bare.repeat opened test body front (record { a = l.a; b = l.b; parts = l.parts; left = l.left; right = f opened body l.b l.right })

pub statement_map : {B C : Bool → List Item → List Piece → Type 0} → ((opened : Bool) (xs : List Item) (front : List Piece) → B opened xs front → C opened xs front) → (opened : Bool) (x : Item) (front : List Piece) → Statement B opened x front → Statement C opened x front
statement_map f opened x front l = record { a = l.a; b = l.b; parts = l.parts; left = l.left; right = (bare_map f opened x.node l.b l.right.0, l.right.1) }

pub many_map : {A : Type 0} {G H : A → List Piece → Type 0} → ((x : A) (front : List Piece) → G x front → H x front) → (xs : List A) (front : List Piece) → IsMany G xs front → IsMany H xs front
many_map f [] front l = l
many_map f (x ∷ xs) front l = record { a = l.a; b = l.b; parts = l.parts; left = f x l.a l.left; right = many_map f xs l.b l.right }

pub body_map : {S T : Bool → Item → List Piece → Type 0} → ((opened : Bool) (x : Item) (front : List Piece) → S opened x front → T opened x front) → (opened : Bool) (xs : List Item) (front : List Piece) → Body S opened xs front → Body T opened xs front
body_map f _ _ _ (Body.single opened x front s) = Body.single opened x front (f opened x front s)
body_map f _ _ _ (Body.block xs front l) =
    let r = l.right in
    Body.block xs front (record { a = l.a; b = l.b; parts = l.parts; left = l.left; right = record { a = r.a; b = r.b; parts = r.parts; left = many_map (λ x t s. (s.0, f s.0 x t s.1)) xs r.a r.left; right = r.right } })

pub deeper : (deep : ℕ) (opened : Bool) (xs : List Item) (front : List Piece) → IsBody deep opened xs front → IsBody (suc deep) opened xs front
deeper zero opened xs front b = absurd b
deeper (suc deep) opened xs front b = body_map (statement_map (deeper deep)) opened xs front b

-- ---- a text of each kind

pub reset_text : List Piece
reset_text = like (sorts.Fixed marks.Reset) ∷ like sorts.Name ∷ like (sorts.Fixed marks.Semicolon) ∷ []

abbrev pub reset_node : Node
reset_node = nodes.Reset (record { name = record { text = []; at = record { line = 0; column = 0 } }; index = None })

reset_is : Simple reset_node reset_text
unfolding reset_text
reset_is = Simple.reset _ _ (record {
  a = like (sorts.Fixed marks.Reset) ∷ [];
  b = like sorts.Name ∷ like (sorts.Fixed marks.Semicolon) ∷ [];
  parts = refl;
  left = (like (sorts.Fixed marks.Reset), refl, refl);
  right = record {
    a = like sorts.Name ∷ [];
    b = like (sorts.Fixed marks.Semicolon) ∷ [];
    parts = refl;
    left = record { a = like sorts.Name ∷ []; b = []; parts = refl; left = (like sorts.Name, refl, refl); right = refl };
    right = (like (sorts.Fixed marks.Semicolon), refl, refl);
  };
})

-- ---- statements, over a reader of bodies

module _ (body : List Piece → Result (List Item × List Piece) (Fault × List Piece)) (B C : Bool → List Item → List Piece → Type 0) (reads : Reads body (OpenIn B) (Any C)) (whole : (opened : Bool) (xs : List Item) (front : List Piece) → B opened xs front → C opened xs front) where
  branches-Reads : Reads (then_maybe (begins marks.Else) body (after (mark_at marks.Else) body)) (ThenMaybeIn (begins marks.Else) (OpenIn B) (B false) (AfterIn else_mark.context (OpenIn B))) (ThenMaybe (Any C) (C false) (λ ys. IsMark marks.Else ⨾ Any C ys))
  branches-Reads =
      then_maybe-Reads (begins marks.Else) body (after (mark_at marks.Else) body) (OpenIn B) (AfterIn else_mark.context (OpenIn B)) (Any C) (λ ys. IsMark marks.Else ⨾ Any C ys) (B false) (C false) reads
      (after-Reads (mark_at marks.Else) body else_mark.context (OpenIn B) (λ _. IsMark marks.Else) (Any C) else_mark.reads reads)
      (λ x front n l e. shut_at B x front n l.0 l.1 l.2 e)
      (λ x front n b. (false, b, closed n))
      (λ x front b. whole false x front b)
      (λ y front n l. ap (shows marks.Else) (ap sort_of (ap (λ (f : List Piece). first_or f n) l.parts ∙ first_or-append l.a l.b n) ∙ mark_next marks.Else l.a (first_or l.b n) (else_mark.reads.forget l.a (first_or l.b n) tt l.left)))

  if-Reads : Reads (if_at body) (MappedIn if_of (IfIn B)) (Mapped if_of (IsIf C))
  unfolding if_at
  if-Reads = mapped-Reads if_of (both (head_at marks.If) (then_maybe (begins marks.Else) body (after (mark_at marks.Else) body))) (IfIn B) (IsIf C)
      (both-Reads (head_at marks.If) (then_maybe (begins marks.Else) body (after (mark_at marks.Else) body)) if_head.context (ThenMaybeIn (begins marks.Else) (OpenIn B) (B false) (AfterIn else_mark.context (OpenIn B))) (IsHead marks.If) (ThenMaybe (Any C) (C false) (λ ys. IsMark marks.Else ⨾ Any C ys)) if_head.reads branches-Reads)

  while-Reads : Reads (while_at body) (MappedIn while_of (WhileIn B)) (Mapped while_of (IsWhile C))
  unfolding while_at
  while-Reads = mapped-Reads while_of (both (head_at marks.While) body) (WhileIn B) (IsWhile C) (both-Reads (head_at marks.While) body while_head.context (OpenIn B) (IsHead marks.While) (Any C) while_head.reads reads)

  bare_reads : (k : Opening) → Reads (bare_by body k) (BareIn B k) (BareIs C k)
  bare_reads openings.If = if-Reads
  bare_reads openings.While = while-Reads
  bare_reads openings.Foreign = refuse-Reads faults.NotTaken (Any (Bare C)) reset_node reset_text (false, Bare.simple reset_node reset_text reset_is)
  bare_reads openings.Simple = simple_part.reads

  pub bare-Reads : Reads (bare_at body) (OpenIn (Bare B)) (Any (Bare C))
  unfolding bare_at
  bare-Reads = renamed (switch opening_of (bare_by body)) (SwitchIn opening_of (BareIn B)) (OpenIn (Bare B)) (Switched (BareIs C)) (Any (Bare C))
      (switch-Reads opening_of (bare_by body) (BareIn B) (BareIs C) bare_reads openings.Simple)
      (λ x front n l. bare_to B (opening_of (first_or front n)) x front n l)
      (λ x front n l. bare_from B l.0 x front n l.1 l.2)
      (λ x front l. bare_whole C l.0 x front l.1)

  abbrev pub PlacedBareIn : In Piece (Place × Node)
  PlacedBareIn = PlacedIn place_of (OpenIn (Bare B))

  placed_bare-Reads : Reads (placed place_of (bare_at body)) PlacedBareIn (Placed place_of (Any (Bare C)))
  placed_bare-Reads = placed-Reads place_of (bare_at body) (OpenIn (Bare B)) (Any (Bare C)) bare-Reads (λ x front n l. bare_long l.0 x front l.1)

  abbrev parts_of : Item → List Note × (Place × Node)
  parts_of x = (x.notes, (x.at, x.node))

  statement_to : (x : Item) (front : List Piece) (n : Option Piece) → BothIn notes_part.context PlacedBareIn (parts_of x) front n → OpenIn (Statement B) x front n
  statement_to x front n l =
      let r = l.right in (
        r.0.0,
        record {
          a = l.a;
          b = l.b;
          parts = l.parts;
          left = notes_part.reads.forget l.a (first_or l.b n) x.notes l.left;
          right = (r.0.1, ap place_of (sym (first_or-long l.b n (bare_long r.0.0 x.node l.b r.0.1))) ∙ r.1);
        },
        r.0.2,
      )

  statement_from : (x : Item) (front : List Piece) (n : Option Piece) → OpenIn (Statement B) x front n → BothIn notes_part.context PlacedBareIn (parts_of x) front n
  statement_from x front n l =
      let s = l.1 in
      record {
        a = s.a;
        b = s.b;
        parts = s.parts;
        left = notes_part.enough x.notes s.a (first_or s.b n) s.left (bare_no_note l.0 x.node s.b n s.right.0);
        right = ((l.0, s.right.0, l.2), ap place_of (first_or-long s.b n (bare_long l.0 x.node s.b s.right.0)) ∙ s.right.1);
      }

  statement_whole : (x : Item) (front : List Piece) → Both (IsMany IsNote) (Placed place_of (Any (Bare C))) (parts_of x) front → Any (Statement C) x front
  statement_whole x front l = (l.right.0.0, record { a = l.a; b = l.b; parts = l.parts; left = l.left; right = (l.right.0.1, l.right.1) })

  pub statement-Reads : Reads (item_at body) (OpenIn (Statement B)) (Any (Statement C))
  unfolding item_at
  statement-Reads =
      renamed (mapped item_of (both notes_at (placed place_of (bare_at body)))) (λ x. BothIn notes_part.context PlacedBareIn (parts_of x)) (OpenIn (Statement B)) (λ x. Both (IsMany IsNote) (Placed place_of (Any (Bare C))) (parts_of x)) (Any (Statement C))
      (same-Reads item_of parts_of (both notes_at (placed place_of (bare_at body))) (BothIn notes_part.context PlacedBareIn) (Both (IsMany IsNote) (Placed place_of (Any (Bare C)))) (λ v. refl) (λ x. refl)
      (both-Reads notes_at (placed place_of (bare_at body)) notes_part.context PlacedBareIn (IsMany IsNote) (Placed place_of (Any (Bare C))) notes_part.reads placed_bare-Reads))
      statement_to statement_from statement_whole

-- ---- lists of statements, bodies

pub statements_out : (B : Bool → List Item → List Piece → Type 0) (test : Option Piece → Bool) (xs : List Item) (front : List Piece) (n : Option Piece) → ManyIn test (OpenIn (Statement B)) xs front n → IsMany (Any (Statement B)) xs front
statements_out B test [] front n l = l.0
statements_out B test (x ∷ xs) front n l = record { a = l.a; b = l.b; parts = l.parts; left = (l.left.0, l.left.1); right = statements_out B test xs l.b n l.right }

pub no_else_behind : (B : Bool → List Item → List Piece → Type 0) (xs : List Item) (front : List Piece) (n : Option Piece) → begins marks.Else n ≡ false → IsMany (Any (Statement B)) xs front → begins marks.Else (first_or front n) ≡ false
no_else_behind B xs front n e l = many_next (begins marks.Else) false (λ x f m s. (statement_starts s.0 x f m s.1).no_else) xs front n l e

pub statements_in : (B : Bool → List Item → List Piece → Type 0) (test : Option Piece → Bool) (xs : List Item) (front : List Piece) (n : Option Piece) → test n ≡ false → begins marks.Else n ≡ false → IsMany (Any (Statement B)) xs front → ManyIn test (OpenIn (Statement B)) xs front n
statements_in B test [] front n t u l = (l, t)
statements_in B test (x ∷ xs) front n t u l = record { a = l.a; b = l.b; parts = l.parts; left = (l.left.0, l.left.1, λ _. no_else_behind B xs l.b n u l.right); right = statements_in B test xs l.b n t u l.right }

module _ (body : List Piece → Result (List Item × List Piece) (Fault × List Piece)) (B C : Bool → List Item → List Piece → Type 0) (reads : Reads body (OpenIn B) (Any C)) (whole : (opened : Bool) (xs : List Item) (front : List Piece) → B opened xs front → C opened xs front) where
  inner-Reads : Reads (many open_inside (item_at body)) (ManyIn open_inside (OpenIn (Statement B))) (IsMany (Any (Statement C)))
  inner-Reads = many-Reads open_inside (item_at body) (OpenIn (Statement B)) (Any (Statement C)) (statement-Reads body B C reads whole) (λ x front n l. (statement_starts l.0 x front n l.1).inside) (λ x front n l. (statement_starts l.0 x front n l.1).long)

  outer-Reads : Reads (many open_outside (item_at body)) (ManyIn open_outside (OpenIn (Statement B))) (IsMany (Any (Statement C)))
  outer-Reads = many-Reads open_outside (item_at body) (OpenIn (Statement B)) (Any (Statement C)) (statement-Reads body B C reads whole) (λ x front n l. (statement_starts l.0 x front n l.1).outside) (λ x front n l. (statement_starts l.0 x front n l.1).long)

  pub statement_goes_over : (ts : List Piece) (x : Item × List Piece) → item_at body ts ≡ Ok x → length x.1 < length ts
  statement_goes_over = goes_of open_inside (item_at body) (OpenIn (Statement B)) (Any (Statement C)) (statement-Reads body B C reads whole) (λ x front n l. (statement_starts l.0 x front n l.1).inside) (λ x front n l. (statement_starts l.0 x front n l.1).long)

  abbrev BlockIn : In Piece (List Item)
  BlockIn = AfterIn brace_open.context (BeforeIn (ManyIn open_inside (OpenIn (Statement B))) brace_close.context)

  abbrev IsBlock : List Item → List Piece → Type 0
  IsBlock xs = IsMark marks.BraceOpen ⨾ IsMany (Any (Statement C)) xs ⨾ IsMark marks.BraceClose

  block-Reads : Reads (block_at body) BlockIn IsBlock
  unfolding block_at
  block-Reads = after-Reads (mark_at marks.BraceOpen) (before (many open_inside (item_at body)) (mark_at marks.BraceClose)) brace_open.context (BeforeIn (ManyIn open_inside (OpenIn (Statement B))) brace_close.context) (λ _. IsMark marks.BraceOpen) (λ xs. IsMany (Any (Statement C)) xs ⨾ IsMark marks.BraceClose) brace_open.reads
      (before-Reads (many open_inside (item_at body)) (mark_at marks.BraceClose) (ManyIn open_inside (OpenIn (Statement B))) brace_close.context (IsMany (Any (Statement C))) (λ _. IsMark marks.BraceClose) inner-Reads brace_close.reads)

  inside_to : (xs : List Item) (front : List Piece) (n : Option Piece) → ChoiceIn (begins marks.BraceOpen) BlockIn (MappedIn alone (OpenIn (Statement B))) xs front n → OpenIn (Body (Statement B)) xs front n
  inside_to xs front n l =
      elim l [
        | inl h ↦
            let r = h.1.right in (
              false,
              Body.block xs front (record {
                a = h.1.a;
                b = h.1.b;
                parts = h.1.parts;
                left = brace_open.reads.forget h.1.a (first_or h.1.b n) tt h.1.left;
                right = record { a = r.a; b = r.b; parts = r.parts; left = statements_out B open_inside xs r.a (first_or r.b n) r.left; right = brace_close.reads.forget r.b n tt r.right };
              }),
              closed n,
            )
        | inr h ↦ (h.1.spelled.0, subst (λ (ys : List Item). Body (Statement B) h.1.spelled.0 ys front) h.1.is (Body.single h.1.spelled.0 h.1.from front h.1.spelled.1), h.1.spelled.2)
      ]

  inside_from : (opened : Bool) (xs : List Item) (front : List Piece) (n : Option Piece) → Body (Statement B) opened xs front → Fits opened n → ChoiceIn (begins marks.BraceOpen) BlockIn (MappedIn alone (OpenIn (Statement B))) xs front n
  inside_from _ _ _ n (Body.single opened x front s) fits = inr ((statement_starts opened x front n s).no_brace, record { from = x; is = refl; spelled = (opened, s, fits) })
  inside_from _ _ _ n (Body.block xs front l) fits =
      let r = l.right in
      let e = mark_next marks.BraceClose r.b n r.right in
      inl (
        ap (shows marks.BraceOpen) (after_mark marks.BraceOpen front n l),
        record {
          a = l.a;
          b = l.b;
          parts = l.parts;
          left = brace_open.enough tt l.a (first_or l.b n) l.left refl;
          right = record { a = r.a; b = r.b; parts = r.parts; left = statements_in B open_inside xs r.a (first_or r.b n) (ap goes_inside e) (ap (shows marks.Else) e) r.left; right = brace_close.enough tt r.b n r.right refl };
        },
      )

  inside_whole : (xs : List Item) (front : List Piece) → Either IsBlock (Mapped alone (Any (Statement C))) xs front → Any (Body (Statement C)) xs front
  inside_whole xs front l =
      elim l [
        | inl h ↦ (false, Body.block xs front h)
        | inr h ↦ (h.spelled.0, subst (λ (ys : List Item). Body (Statement C) h.spelled.0 ys front) h.is (Body.single h.spelled.0 h.from front h.spelled.1))
      ]

  pub inside-Reads : Reads (inside_at body) (OpenIn (Body (Statement B))) (Any (Body (Statement C)))
  unfolding inside_at
  inside-Reads =
      renamed (choice (begins marks.BraceOpen) (block_at body) (mapped alone (item_at body)))
      (ChoiceIn (begins marks.BraceOpen) BlockIn (MappedIn alone (OpenIn (Statement B)))) (OpenIn (Body (Statement B))) (Either IsBlock (Mapped alone (Any (Statement C)))) (Any (Body (Statement C)))
      (choice-Reads (begins marks.BraceOpen) (block_at body) (mapped alone (item_at body)) BlockIn (MappedIn alone (OpenIn (Statement B))) IsBlock (Mapped alone (Any (Statement C))) block-Reads
      (mapped-Reads alone (item_at body) (OpenIn (Statement B)) (Any (Statement C)) (statement-Reads body B C reads whole)))
      inside_to
      (λ xs front n l. inside_from l.0 xs front n l.1 l.2)
      inside_whole

empty_text : List Piece
empty_text = like (sorts.Fixed marks.BraceOpen) ∷ like (sorts.Fixed marks.BraceClose) ∷ []

empty_body : IsBody 1 false [] empty_text
unfolding empty_text
empty_body = Body.block [] _ (record {
  a = like (sorts.Fixed marks.BraceOpen) ∷ [];
  b = like (sorts.Fixed marks.BraceClose) ∷ [];
  parts = refl;
  left = (like (sorts.Fixed marks.BraceOpen), refl, refl);
  right = record { a = []; b = like (sorts.Fixed marks.BraceClose) ∷ []; parts = refl; left = refl; right = (like (sorts.Fixed marks.BraceClose), refl, refl) };
})

no_body-Reads : Reads {A = List Item} (refuse faults.TooDeep) (OpenIn (IsBody 0)) (Any (IsBody 1))
no_body-Reads =
    renamed (refuse faults.TooDeep) (λ x front n. ⊥) (OpenIn (IsBody 0)) (Any (IsBody 1)) (Any (IsBody 1)) (refuse-Reads faults.TooDeep (Any (IsBody 1)) [] empty_text (false, empty_body))
    (λ x front n l. absurd l) (λ x front n l. l.1) (λ x front l. l)

pub body-Reads : (deep : ℕ) → Reads (body_at deep) (OpenIn (IsBody deep)) (Any (IsBody (suc deep)))
unfolding body_at
body-Reads zero = no_body-Reads
body-Reads (suc deep) = inside-Reads (body_at deep) (IsBody deep) (IsBody (suc deep)) (body-Reads deep) (deeper deep)

pub statement_goes : (deep : ℕ) (ts : List Piece) (x : Item × List Piece) → item_at (body_at deep) ts ≡ Ok x → length x.1 < length ts
statement_goes deep = statement_goes_over (body_at deep) (IsBody deep) (IsBody (suc deep)) (body-Reads deep) (deeper deep)

-- ---- programs

pub maybe_version_part : Part Deep last maybe_version_at (λ _. Maybe IsVersion) (either (begins marks.Openqasm) nothing)
unfolding maybe_version_at
maybe_version_part = renamed_part (mapped_part forgotten (optional_part (begins marks.Openqasm) version_part (λ x front n l. ap (shows marks.Openqasm) (after_mark marks.Openqasm front n l))))
    (λ x front l. (l.from, l.spelled)) (λ x front l. record { from = l.0; is = refl; spelled = l.1 })

pub end-Reads : Reads end_at (TokenIn end_of) IsEnd
end-Reads = token-Reads faults.Unexpected end_of (like (sorts.Fixed marks.End)) (record { line = 0; column = 0 }) refl

abbrev pub ProgramIn : ℕ → In Piece Tree
ProgramIn deep tree front n = IsProgram deep tree front

abbrev pub ListIn : ℕ → In Piece (List Item × Place)
ListIn deep = AfterIn maybe_version_part.context (BothIn (ManyIn open_outside (OpenIn (IsStatement deep))) (TokenIn end_of))

abbrev pub IsList : ℕ → List Item × Place → List Piece → Type 0
IsList deep v = Maybe IsVersion ⨾ Both (IsMany (Any (IsStatement deep))) IsEnd v

list-Reads : (deep : ℕ) → Reads (after maybe_version_at (both (many open_outside (item_at (body_at deep))) end_at)) (ListIn deep) (IsList (suc deep))
list-Reads deep = after-Reads maybe_version_at (both (many open_outside (item_at (body_at deep))) end_at) maybe_version_part.context (BothIn (ManyIn open_outside (OpenIn (IsStatement deep))) (TokenIn end_of)) (λ _. Maybe IsVersion) (Both (IsMany (Any (IsStatement (suc deep)))) IsEnd) maybe_version_part.reads
    (both-Reads (many open_outside (item_at (body_at deep))) end_at (ManyIn open_outside (OpenIn (IsStatement deep))) (TokenIn end_of) (IsMany (Any (IsStatement (suc deep)))) IsEnd
    (outer-Reads (body_at deep) (IsBody deep) (IsBody (suc deep)) (body-Reads deep) (deeper deep)) end-Reads)

abbrev parts_of_tree : Tree → List Item × Place
parts_of_tree tree = (tree.items, tree.end)

program_to : (deep : ℕ) (tree : Tree) (front : List Piece) (n : Option Piece) → ListIn deep (parts_of_tree tree) front n → IsProgram deep tree front
program_to deep tree front n l =
    let r = l.right in
    record {
      a = l.a;
      b = l.b;
      parts = l.parts;
      left = maybe_version_part.reads.forget l.a (first_or l.b n) tt l.left;
      right = record { a = r.a; b = r.b; parts = r.parts; left = statements_out (IsBody deep) open_outside tree.items r.a (first_or r.b n) r.left; right = r.right };
    }

program_from : (deep : ℕ) (tree : Tree) (front : List Piece) (n : Option Piece) → IsProgram deep tree front → ListIn deep (parts_of_tree tree) front n
program_from deep tree front n l =
    let r = l.right in
    let e = end_next tree.end r.b n r.right in
    let v : begins marks.Openqasm (first_or l.b n) || false ≡ false =
    ap (λ o. begins marks.Openqasm o || false) (next_of l.b n r) ∙ ap (λ b. b || false) (many_next (begins marks.Openqasm) false (λ x f m s. (statement_starts s.0 x f m s.1).no_version) tree.items r.a (first_or r.b n) r.left (ap (shows marks.Openqasm) e)) in
    record {
      a = l.a;
      b = l.b;
      parts = l.parts;
      left = maybe_version_part.enough tt l.a (first_or l.b n) l.left v;
      right = record { a = r.a; b = r.b; parts = r.parts; left = statements_in (IsBody deep) open_outside tree.items r.a (first_or r.b n) (ap goes_outside e) (ap (shows marks.Else) e) r.left; right = r.right };
    }

pub program-Reads : (deep : ℕ) → Reads (program_at deep) (ProgramIn deep) (IsProgram (suc deep))
unfolding program_at
program-Reads deep =
    renamed (mapped tree_of (after maybe_version_at (both (many open_outside (item_at (body_at deep))) end_at))) (λ tree. ListIn deep (parts_of_tree tree)) (ProgramIn deep) (λ tree. IsList (suc deep) (parts_of_tree tree)) (IsProgram (suc deep))
    (same-Reads tree_of parts_of_tree (after maybe_version_at (both (many open_outside (item_at (body_at deep))) end_at)) (ListIn deep) (IsList (suc deep)) (λ v. refl) (λ tree. refl) (list-Reads deep))
    (program_to deep) (program_from deep) (λ tree front l. l)
