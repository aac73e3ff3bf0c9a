-- A text has at most one token more than bytes, and a tree by the grammar has no list that is longer than its tokens.
use Rattle.std.proofs.Common.{◌≡◌, ℕ, ◌+◌, ◌<◌, ◌≤◌, inl, inr, List, [], ◌∷◌, ◌++◌, length, All, Result, Ok, Err, refl, ap, ◌∙◌, arith}
use Rattle.std.specs.List.{AllByRecursion}
use Rattle.std.proofs.lemmas.List.{length-append, length-map}
use Rattle.std.proofs.lemmas.List.Elements.{All-from_recursion}
use Rattle.aq_grammar.specs.Words.{Joined, IsMany}
use Rattle.aq_lex.specs.Cutting.{followed}
use Rattle.aq_set_parse.specs.Cuts.{Lexeme, IsFront, Cut, Reads, tokens_of, reading}
use Rattle.aq_set_parse.specs.Piece.{SetPiece}
use Rattle.aq_set_parse.specs.Pieces.{pieces, piece_of}
use Rattle.aq_set_parse.specs.Tokens.{IsMark}
use Rattle.aq_set_parse.specs.SetGrammar.{IsCond, IsWhen, IsCase, IsCases, IsItem, IsExpr, IsFile}
use Rattle.aq_set_parse.specs.Short.{IsShortCase, IsShortItem, IsShortTree}
use Rattle.aq_set_parse.specs.declared.token.SetClass.{SetClass}
use Rattle.aq_set_parse.specs.declared.token.SetClass.TheVariants as «class»
use Rattle.aq_set_parse.specs.declared.token.SetToken.{SetToken}
use Rattle.aq_set_parse.specs.declared.fault.SetLexFault.{SetLexFault}
use Rattle.aq_set_parse.specs.declared.mark.SetMark.{SetMark}
use Rattle.aq_set_parse.specs.declared.mark.SetMark.TheVariants as marks
use Rattle.aq_set_parse.specs.declared.tree.SetCond.{SetCond}
use Rattle.aq_set_parse.specs.declared.tree.SetCase.{SetCase}
use Rattle.aq_set_parse.specs.declared.tree.SetExpr.{SetExpr}
use Rattle.aq_set_parse.specs.declared.tree.SetItem.{SetItem}
use Rattle.aq_set_parse.specs.declared.tree.SetTree.{SetTree}
use Rattle.aq_set_parse.proofs.CutLaws.{not_empty, no_stop}

-- ---- tokens

-- no piece of a cut is empty
some_bytes : (before bytes : List ℕ) (c : SetClass) (text : List ℕ) → IsFront before bytes (record { kind = c; text = text }) → 0 < length text
some_bytes before bytes c [] (inl h) = absurd (not_empty before c h.of_class)
some_bytes before bytes c (b ∷ bs) (inl h) = omega arith
some_bytes before bytes c text (inr h) = let long = ap length h.at_front.3 in omega (arith, long)

one_more : (before text : List ℕ) (c : SetClass) (more : Result (List SetToken) SetLexFault) (ts : List SetToken) (n : ℕ)
    → ((us : List SetToken) → more ≡ Ok us → length us ≤ n) → followed (reading before c text) more ≡ Ok ts → length ts ≤ n + 1
one_more before text «class».Blank more ts n h e = let le = h ts e in omega (arith, le)
one_more before text «class».Comment more ts n h e = let le = h ts e in omega (arith, le)
one_more before text («class».Token k) (Ok us) ts n h e =
    let le = h us refl in
    let long = ap length (ok_is e) in
    omega (arith, le, long)
  where
    ok_is : {xs ys : List SetToken} → ◌≡◌ {A = Result (List SetToken) SetLexFault} (Ok xs) (Ok ys) → xs ≡ ys
    ok_is e = cc
one_more before text («class».Token k) (Err f) ts n h e = cc
one_more before text «class».OpenComment more ts n h e = cc
one_more before text «class».LongNumber more ts n h e = cc
one_more before text «class».BadKet more ts n h e = cc
one_more before text («class».BadByte b) more ts n h e = cc

tokens_of-few : (before bytes : List ℕ) (ls : List Lexeme) (ts : List SetToken) → Cut before bytes ls → tokens_of before ls ≡ Ok ts → length ts ≤ length bytes + 1
tokens_of-few before bytes [] ts cut e = let long = ap length (ok_is e) in omega (arith, long)
  where
    ok_is : {xs ys : List SetToken} → ◌≡◌ {A = Result (List SetToken) SetLexFault} (Ok xs) (Ok ys) → xs ≡ ys
    ok_is e = cc
tokens_of-few before bytes (l ∷ ls) ts cut e =
    let more = tokens_of (before ++ l.text) ls in
    let on = no_stop before l.text l.kind more ts e in
    let some = some_bytes before bytes l.kind l.text cut.0 in
    let long = ap length cut.2 ∙ length-append l.text cut.1 in
    let le = one_more before l.text l.kind more ts (length cut.1 + 1) (λ us is. tokens_of-few (before ++ l.text) cut.1 ls us (cut.4 on) is) e in
    omega (arith, le, some, long)

-- each token but the one at the end has a byte
pub few_tokens : (text : List ℕ) (ts : List SetToken) → Reads text (Ok ts) → length ts ≤ length text + 1
few_tokens text ts h = tokens_of-few [] text h.1 ts h.2 h.3

-- ---- words of the grammar

joined-long : {T : Type 0} (P Q : List T → Type 0) (front : List T) → (h : Joined P Q front) → length front ≡ length h.a + length h.b
joined-long P Q front h = ap length h.parts ∙ length-append h.a h.b

mark-long : (m : SetMark) (front : List SetPiece) → IsMark m front → length front ≡ 1
mark-long m front h = ap length h.1

-- as many as tokens at most, where each has a token
many-short : {T A : Type 0} (G : A → List T → Type 0) → ((x : A) (front : List T) → G x front → 0 < length front) → (xs : List A) (front : List T) → IsMany G xs front → length xs ≤ length front
many-short G some [] front h = omega arith
many-short G some (x ∷ xs) front h =
    let long = joined-long (G x) (IsMany G xs) front h in
    let first = some x h.a h.left in
    let rest = many-short G some xs h.b h.right in
    omega (arith, long, first, rest)

-- what holds of each text of at most n tokens
many-each : {T A : Type 0} (G : A → List T → Type 0) (P : A → Type 0) (n : ℕ) → ((x : A) (front : List T) → length front ≤ n → G x front → P x)
    → (xs : List A) (front : List T) → length front ≤ n → IsMany G xs front → AllByRecursion P xs
many-each G P n each [] front le h = tt
many-each G P n each (x ∷ xs) front le h =
    let long = joined-long (G x) (IsMany G xs) front h in
    (each x h.a (omega (arith, long, le)) h.left, many-each G P n each xs h.b (omega (arith, long, le)) h.right)

-- one behind a mark
abbrev behind : {A : Type 0} → SetMark → (A → List SetPiece → Type 0) → A → List SetPiece → Type 0
behind m G x = Joined (IsMark m) (G x)

behind-some : {A : Type 0} (m : SetMark) (G : A → List SetPiece → Type 0) (x : A) (front : List SetPiece) → behind m G x front → 0 < length front
behind-some m G x front h =
    let long = joined-long (IsMark m) (G x) front h in
    let one = mark-long m h.a h.left in
    omega (arith, long, one)

-- ---- conditions and cases

when-short : (conds : List SetCond) (front : List SetPiece) → IsWhen conds front → length conds ≤ length front
when-short [] front h = omega arith
when-short (x ∷ xs) front h =
    let later = behind marks.And IsCond in
    let long = joined-long (IsMark marks.When) (Joined (IsCond x) (IsMany later xs)) front h in
    let one = mark-long marks.When h.a h.left in
    let parts = joined-long (IsCond x) (IsMany later xs) h.b h.right in
    let rest = many-short later (behind-some marks.And IsCond) xs h.right.b h.right.right in
    omega (arith, long, one, parts, rest)

module _ (E : SetExpr → List SetPiece → Type 0) (n : ℕ) where
  case-short : (x : SetCase) (front : List SetPiece) → length front ≤ n → IsCase E x front → IsShortCase n x
  case-short x front le h =
      let long = joined-long (E x.expr) (IsWhen x.when) front h.0 in
      let short = when-short x.when h.0.b h.0.right in
      omega (arith, le, long, short)

  later-short : (x : SetCase) (front : List SetPiece) → length front ≤ n → behind marks.Comma (IsCase E) x front → IsShortCase n x
  later-short x front le h =
      let long = joined-long (IsMark marks.Comma) (IsCase E x) front h in
      case-short x h.b (omega (arith, le, long)) h.right

  -- behind one token more
  cases-short : (cases : List SetCase) (front : List SetPiece) → length front < n → IsCases E cases front → (length cases ≤ n) × All (IsShortCase n) cases
  cases-short [] front lt h = absurd h
  cases-short (x ∷ xs) front lt h =
      let later = behind marks.Comma (IsCase E) in
      let long = joined-long (IsCase E x) (IsMany later xs) front h in
      let rest = many-short later (behind-some marks.Comma (IsCase E)) xs h.b h.right in (
        omega (arith, lt, long, rest),
        All-from_recursion (IsShortCase n) (x ∷ xs) (
          case-short x h.a (omega (arith, lt, long)) h.left,
          many-each later (IsShortCase n) n later-short xs h.b (omega (arith, lt, long)) h.right,
        ),
      )

  -- ---- items

  item-short : (x : SetItem) (front : List SetPiece) → length front ≤ n → IsItem E x front → IsShortItem n x
  item-short _ front le (IsItem.set name expr _ h) = tt
  item-short _ front le (IsItem.claim name cases _ h) =
      let long = ap length h.parts ∙ length-append h.a h.b in
      let head = ap length h.left.parts ∙ length-append h.left.a h.left.b in
      let one = mark-long marks.Claim h.left.a h.left.left in
      let more = ap length h.right.parts ∙ length-append h.right.a h.right.b in
      cases-short cases h.right.a (omega (arith, le, long, head, one, more)) h.right.left

  file-short : (xs : List SetItem) (ts : List SetPiece) → length ts ≤ n → IsMany (IsItem E) xs ts → All (IsShortItem n) xs
  file-short xs ts le h = All-from_recursion (IsShortItem n) xs (many-each (IsItem E) (IsShortItem n) n item-short xs ts le h)

-- with the token at the end, a file has a token more than its items
tree-short : (deep n : ℕ) (tree : SetTree) (ts : List SetPiece) → length ts ≤ n + 1 → IsFile deep tree ts → IsShortTree n tree
tree-short deep n tree ts le h =
    let long = joined-long (IsMany (IsItem (IsExpr deep)) tree.items) (IsMark marks.End) ts h in
    let one = mark-long marks.End h.b h.right in
    file-short (IsExpr deep) n tree.items h.a (omega (arith, le, long, one)) h.left

pub short_tree : (text : List ℕ) (ts : List SetToken) (deep : ℕ) (tree : SetTree) → Reads text (Ok ts) → IsFile deep tree (pieces (record { source = text; list = ts })) → IsShortTree (length text) tree
short_tree text ts deep tree reads h =
    let few = few_tokens text ts reads in
    let long = length-map ts (piece_of text) in
    tree-short deep (length text) tree (pieces (record { source = text; list = ts })) (omega (arith, few, long)) h
