-- The numbers of a text's tokens are at most 2^127 - 1, and so are those of the coefficients in a tree by the grammar.
use denote.Hole.Carrier.{roll}
use Rattle.std.proofs.Common.{◌≡◌, ℕ, zero, suc, inl, inr, List, [], ◌∷◌, ◌++◌, map, Option, Some, None, Result, Ok, Err, refl, sym, subst, arith}
use Rattle.std.specs.List.{AllByRecursion, flat_map}
use Rattle.std.proofs.lemmas.List.Elements.{All-from_recursion}
use Rattle.aq_grammar.specs.Words.{Joined, IsOptional, IsMany}
use Rattle.aq_lex.specs.Cutting.{followed}
use Rattle.aq_lex.specs.declared.place.Place.{Place}
use Rattle.aq_set_parse.specs.Cuts.{Lexeme, IsFront, Cut, Reads, tokens_of, reading}
use Rattle.aq_set_parse.specs.Numbers.{FitsNumber, FitsScalar, FitsCoef, expr_terms, factor_terms, part_terms, terms_in, terms_of_item, HasFittingCoefs}
use Rattle.aq_set_parse.specs.Piece.{SetPiece}
use Rattle.aq_set_parse.specs.Pieces.{pieces, piece_of, sort_at, word_sort}
use Rattle.aq_set_parse.specs.Tokens.{IsNumber, number_in, number_of}
use Rattle.aq_set_parse.specs.Words.{reserved}
use Rattle.aq_set_parse.specs.Rules.{IsToken}
use Rattle.aq_set_parse.specs.SetGrammar.{IsInt, IsNextInt, or_one, IsScalar, IsCoef, IsTerm, IsTerms, IsLaterTerm, IsAtom, IsPower, IsChain, IsTensor, IsUnion, IsGroup, IsExpr, IsCase, IsCases, IsItem, IsFile}
use Rattle.aq_set_parse.specs.declared.token.SetClass.{SetClass}
use Rattle.aq_set_parse.specs.declared.token.SetClass.TheVariants as «class»
use Rattle.aq_set_parse.specs.declared.token.SetKind.{SetKind}
use Rattle.aq_set_parse.specs.declared.token.SetKind.TheVariants as kinds
use Rattle.aq_set_parse.specs.declared.token.SetToken.{SetToken}
use Rattle.aq_set_parse.specs.declared.fault.SetLexFault.{SetLexFault}
use Rattle.aq_set_parse.specs.declared.mark.SetMark.{SetMark}
use Rattle.aq_set_parse.specs.declared.mark.SetMark.TheVariants as marks
use Rattle.aq_set_parse.specs.declared.tree.SetInt.{SetInt}
use Rattle.aq_set_parse.specs.declared.tree.SetScalar.{SetScalar}
use Rattle.aq_set_parse.specs.declared.tree.SetCoef.{SetCoef}
use Rattle.aq_set_parse.specs.declared.tree.SetTerm.{SetTerm}
use Rattle.aq_set_parse.specs.declared.tree.SetExpr.{SetExpr}
use Rattle.aq_set_parse.specs.declared.tree.SetFactor.{SetFactor}
use Rattle.aq_set_parse.specs.declared.tree.SetPart.{SetPart}
use Rattle.aq_set_parse.specs.declared.tree.SetExpr.TheOpen.{SetExpr-F, SetFactor-F, SetPart-F}
use Rattle.aq_set_parse.specs.declared.tree.SetExpr.TheFolds.{map-SetExpr, fold-SetFactor, fold-SetPart, fold-roll-SetExpr, fold-roll-SetFactor, fold-roll-SetPart}
use Rattle.aq_set_parse.specs.declared.tree.SetExpr.TheViews.{roll-SetExpr}
use Rattle.aq_set_parse.specs.declared.tree.SetCase.{SetCase}
use Rattle.aq_set_parse.specs.declared.tree.SetItem.{SetItem}
use Rattle.aq_set_parse.specs.declared.tree.SetTree.{SetTree}
use Rattle.aq_set_parse.proofs.CutLaws.{no_stop}

-- ---- tokens

abbrev FitsKind : SetKind → Type 0
FitsKind kinds.Name = Unit {0}
FitsKind (kinds.Number n) = FitsNumber n
FitsKind kinds.Ket = Unit {0}
FitsKind (kinds.Symbol s) = Unit {0}
FitsKind kinds.End = Unit {0}

abbrev FitsToken : SetToken → Type 0
FitsToken t = FitsKind t.kind

kind-fits : (k : SetKind) (text : List ℕ) → IsToken k text → FitsKind k
kind-fits kinds.Name text h = tt
kind-fits (kinds.Number n) text h = h.2
kind-fits kinds.Ket text h = tt
kind-fits (kinds.Symbol s) text h = tt
kind-fits kinds.End text h = tt

front-fits : (before bytes : List ℕ) (k : SetKind) (text : List ℕ) → IsFront before bytes (record { kind = «class».Token k; text = text }) → FitsKind k
front-fits before bytes k text (inl h) = kind-fits k text h.of_class
front-fits before bytes k text (inr h) = let bad = h.at_front.4 in absurd cc

one_more : (before bytes text : List ℕ) (c : SetClass) (more : Result (List SetToken) SetLexFault) (ts : List SetToken) → IsFront before bytes (record { kind = c; text = text })
    → ((us : List SetToken) → more ≡ Ok us → AllByRecursion FitsToken us) → followed (reading before c text) more ≡ Ok ts → AllByRecursion FitsToken ts
one_more before bytes text «class».Blank more ts front h e = h ts e
one_more before bytes text «class».Comment more ts front h e = h ts e
one_more before bytes text («class».Token k) (Ok us) ts front h e = subst (AllByRecursion FitsToken) (ok_is e) (front-fits before bytes k text front, h us refl)
  where
    ok_is : {xs ys : List SetToken} → ◌≡◌ {A = Result (List SetToken) SetLexFault} (Ok xs) (Ok ys) → xs ≡ ys
    ok_is e = cc
one_more before bytes text («class».Token k) (Err f) ts front h e = cc
one_more before bytes text «class».OpenComment more ts front h e = cc
one_more before bytes text «class».LongNumber more ts front h e = cc
one_more before bytes text «class».BadKet more ts front h e = cc
one_more before bytes text («class».BadByte b) more ts front h e = cc

tokens-fit : (before bytes : List ℕ) (ls : List Lexeme) (ts : List SetToken) → Cut before bytes ls → tokens_of before ls ≡ Ok ts → AllByRecursion FitsToken ts
tokens-fit before bytes [] ts cut e = subst (AllByRecursion FitsToken) (ok_is e) (tt, tt)
  where
    ok_is : {xs ys : List SetToken} → ◌≡◌ {A = Result (List SetToken) SetLexFault} (Ok xs) (Ok ys) → xs ≡ ys
    ok_is e = cc
tokens-fit before bytes (l ∷ ls) ts cut e =
    let more = tokens_of (before ++ l.text) ls in
    let on = no_stop before l.text l.kind more ts e in
    one_more before bytes l.text l.kind more ts cut.0 (λ us is. tokens-fit (before ++ l.text) cut.1 ls us (cut.4 on) is) e

-- ---- pieces

abbrev FitsPiece : SetPiece → Type 0
FitsPiece t = (n : ℕ) → number_of t ≡ Some n → FitsNumber n

word-fits : (o : Option SetMark) (n : ℕ) → number_in (word_sort o) ≡ Some n → FitsNumber n
word-fits None n e = absurd cc
word-fits (Some m) n e = absurd cc

sort-fits : (k : SetKind) (text : List ℕ) → FitsKind k → (n : ℕ) → number_in (sort_at k text) ≡ Some n → FitsNumber n
sort-fits kinds.Name text h n e = word-fits (reserved text) n e
sort-fits (kinds.Number m) text h n e = let same : m ≡ n = cc in subst FitsNumber same h
sort-fits kinds.Ket text h n e = absurd cc
sort-fits (kinds.Symbol s) text h n e = absurd cc
sort-fits kinds.End text h n e = absurd cc

pieces-fit : (source : List ℕ) (ts : List SetToken) → AllByRecursion FitsToken ts → AllByRecursion FitsPiece (map (piece_of source) ts)
pieces-fit source [] h = tt
pieces-fit source (t ∷ ts) h = (sort-fits t.kind _ h.0, pieces-fit source ts h.1)

-- ---- words of the grammar

abbrev Fit : List SetPiece → Type 0
Fit = AllByRecursion FitsPiece

both_parts : {A : Type 0} (P : A → Type 0) (xs ys : List A) → AllByRecursion P (xs ++ ys) → AllByRecursion P xs × AllByRecursion P ys
both_parts P [] ys h = (tt, h)
both_parts P (x ∷ xs) ys h = let rest = both_parts P xs ys h.1 in ((h.0, rest.0), rest.1)

whole_of : {A : Type 0} (P : A → Type 0) (xs ys : List A) → AllByRecursion P xs → AllByRecursion P ys → AllByRecursion P (xs ++ ys)
whole_of P [] ys h k = k
whole_of P (x ∷ xs) ys h k = (h.0, whole_of P xs ys h.1 k)

each_of : {A B : Type 0} (P : A → Type 0) (f : B → List A) (xs : List B) → AllByRecursion (λ (x : B). AllByRecursion P (f x)) xs → AllByRecursion P (flat_map f xs)
each_of P f [] h = tt
each_of P f (x ∷ xs) h = whole_of P (f x) (flat_map f xs) h.0 (each_of P f xs h.1)

all-mapped : {A B : Type 0} (P : B → Type 0) (f : A → B) (xs : List A) → AllByRecursion (λ (x : A). P (f x)) xs → AllByRecursion P (map f xs)
all-mapped P f [] h = tt
all-mapped P f (x ∷ xs) h = (h.0, all-mapped P f xs h.1)

parts-fit : (P Q : List SetPiece → Type 0) (front : List SetPiece) (h : Joined P Q front) → Fit front → Fit h.a × Fit h.b
parts-fit P Q front h fit = both_parts FitsPiece h.a h.b (subst Fit h.parts fit)

many-fit : {A : Type 0} (G : A → List SetPiece → Type 0) (P : A → Type 0) → ((x : A) (front : List SetPiece) → Fit front → G x front → P x)
    → (xs : List A) (front : List SetPiece) → Fit front → IsMany G xs front → AllByRecursion P xs
many-fit G P each [] front fit h = tt
many-fit G P each (x ∷ xs) front fit h =
    let f = parts-fit (G x) (IsMany G xs) front h fit in
    (each x h.a f.0 h.left, many-fit G P each xs h.b f.1 h.right)

number-fits : (n : ℕ) (front : List SetPiece) → Fit front → IsNumber n front → FitsNumber n
number-fits n front fit h = (subst Fit h.1 fit).0 n h.2

maybe-fits : (o : Option ℕ) (front : List SetPiece) → Fit front → IsOptional IsNumber o front → FitsNumber (or_one o)
maybe-fits None front fit h = omega arith
maybe-fits (Some n) front fit h = number-fits n front fit h

-- ---- coefficients and terms

int-fits : (x : SetInt) (front : List SetPiece) → Fit front → IsInt x front → FitsNumber x.number
int-fits x front fit h = number-fits x.number h.b (parts-fit _ _ front h fit).1 h.right

next_int-fits : (x : SetInt) (front : List SetPiece) → Fit front → IsNextInt x front → FitsNumber x.number
next_int-fits x front fit h = int-fits x h.b (parts-fit _ _ front h fit).1 h.right

scalar-fits : (x : SetScalar) (front : List SetPiece) → Fit front → IsScalar x front → FitsScalar x
scalar-fits _ front fit (IsScalar.number n _ h) = number-fits n front fit h
scalar-fits _ front fit (IsScalar.omega times exponent _ h) = maybe-fits times h.a (parts-fit _ _ front h fit).0 h.left
scalar-fits _ front fit (IsScalar.imaginary times _ h) = maybe-fits times h.a (parts-fit _ _ front h fit).0 h.left
scalar-fits _ front fit (IsScalar.quadruple a b c d _ h) =
    let f = (parts-fit _ _ front h fit).1 in
    let g = parts-fit _ _ h.b h.right f in
    let k = parts-fit _ _ h.right.b h.right.right g.1 in
    let l = parts-fit _ _ h.right.right.b h.right.right.right k.1 in
    let m = parts-fit _ _ h.right.right.right.b h.right.right.right.right l.1 in (
      int-fits a h.right.a g.0 h.right.left,
      next_int-fits b h.right.right.a k.0 h.right.right.left,
      next_int-fits c h.right.right.right.a l.0 h.right.right.right.left,
      next_int-fits d h.right.right.right.right.a m.0 h.right.right.right.right.left,
    )

coef-fits : (x : SetCoef) (front : List SetPiece) → Fit front → IsCoef x front → FitsScalar x.scalar
coef-fits _ front fit (IsCoef.whole scalar _ h) = scalar-fits scalar front fit h
coef-fits _ front fit (IsCoef.divided scalar roots _ h) = scalar-fits scalar h.a (parts-fit _ _ front h fit).0 h.left

maybe_coef-fits : (o : Option SetCoef) (front : List SetPiece) → Fit front → IsOptional IsCoef o front → FitsCoef o
maybe_coef-fits None front fit h = tt
maybe_coef-fits (Some x) front fit h = coef-fits x front fit h

abbrev FitsTerm : SetTerm → Type 0
FitsTerm t = FitsCoef t.coef

term-fits : (x : SetTerm) (front : List SetPiece) → Fit front → IsTerm x front → FitsTerm x
term-fits x front fit h = maybe_coef-fits x.coef h.0.a (parts-fit _ _ front h.0 fit).0 h.0.left

later_term-fits : (x : SetTerm) (front : List SetPiece) → Fit front → IsLaterTerm x front → FitsTerm x
later_term-fits x front fit h = term-fits x h.b (parts-fit _ _ front h fit).1 h.right

terms-fit : (xs : List SetTerm) (front : List SetPiece) → Fit front → IsTerms xs front → AllByRecursion FitsTerm xs
terms-fit [] front fit h = absurd h
terms-fit (x ∷ xs) front fit h =
    let f = parts-fit _ _ front h fit in
    (term-fits x h.left.b (parts-fit _ _ h.a h.left f.0).1 h.left.right, many-fit IsLaterTerm FitsTerm later_term-fits xs h.b f.1 h.right)

-- ---- expressions

abbrev FitsExpr : SetExpr → Type 0
FitsExpr e = AllByRecursion FitsTerm (terms_in e)

abbrev terms_of_factor : SetFactor → List SetTerm
terms_of_factor = fold-SetFactor (List SetTerm) (List SetTerm) (List SetTerm) expr_terms factor_terms part_terms

abbrev terms_of_part : SetPart → List SetTerm
terms_of_part = fold-SetPart (List SetTerm) (List SetTerm) (List SetTerm) expr_terms factor_terms part_terms

level-fits : (y : SetExpr-F SetExpr SetFactor SetPart)
    → AllByRecursion FitsTerm (expr_terms (map-SetExpr SetExpr SetFactor SetPart (List SetTerm) (List SetTerm) (List SetTerm) terms_in terms_of_factor terms_of_part y)) → FitsExpr (roll-SetExpr y)
level-fits y = subst (AllByRecursion FitsTerm) (sym (fold-roll-SetExpr (List SetTerm) (List SetTerm) (List SetTerm) expr_terms factor_terms part_terms y))

-- the terms of a chain's operands
chain-fits : {A : Type 0} (m : SetMark) (at : A → Place) (G : A → List SetPiece → Type 0) (terms : A → List SetTerm)
    → ((x : A) (front : List SetPiece) → Fit front → G x front → AllByRecursion FitsTerm (terms x))
    → (xs : List A) (front : List SetPiece) → Fit front → IsChain m at G xs front → AllByRecursion FitsTerm (flat_map (λ ts. ts) (map terms xs))
chain-fits m at G terms each [] front fit h = absurd h
chain-fits m at G terms each (x ∷ xs) front fit h =
    let f = parts-fit _ _ front h fit in
    let P = λ (ts : List SetTerm). AllByRecursion FitsTerm ts in
    each_of FitsTerm (λ ts. ts) (map terms (x ∷ xs)) (
      each x h.a f.0 h.left.0,
      all-mapped P terms xs (many-fit _ (λ (y : _). P (terms y)) (λ y part fits later. each y later.0.b (parts-fit _ _ part later.0 fits).1 later.0.right) xs h.b f.1 h.right),
    )

module _ (G : SetExpr → List SetPiece → Type 0) (group : (e : SetExpr) (front : List SetPiece) → Fit front → G e front → FitsExpr e) where
  atom-fits : (e : SetExpr) (front : List SetPiece) → Fit front → IsAtom G e front → FitsExpr e
  unfolding roll-SetExpr roll
  atom-fits _ front fit (IsAtom.bracket at terms _ h) =
      let inner = (parts-fit _ _ front h.0 fit).1 in
      level-fits (SetExpr-F.Bracket at terms) (terms-fit terms h.0.right.a (parts-fit _ _ h.0.b h.0.right inner).0 h.0.right.left)
  atom-fits _ front fit (IsAtom.all at number _ h) = level-fits (SetExpr-F.All at number) tt
  atom-fits _ front fit (IsAtom.named name _ h) = level-fits (SetExpr-F.Name name) tt
  atom-fits e front fit (IsAtom.group _ _ h) = group e front fit h

  factor-fits : (x : SetFactor) (front : List SetPiece) → Fit front → IsPower G x front → AllByRecursion FitsTerm (terms_of_factor x)
  factor-fits x front fit h =
      let y : SetFactor-F SetExpr SetFactor SetPart = record { at = x.at; expr = x.expr; power = x.power } in
      subst (AllByRecursion FitsTerm) (sym (fold-roll-SetFactor (List SetTerm) (List SetTerm) (List SetTerm) expr_terms factor_terms part_terms y))
      (atom-fits x.expr h.a (parts-fit _ _ front h fit).0 h.left)

  tensor-fits : (e : SetExpr) (front : List SetPiece) → Fit front → IsTensor G e front → FitsExpr e
  unfolding roll-SetExpr roll
  tensor-fits _ front fit (IsTensor.tensor factors _ h) =
      level-fits (SetExpr-F.Tensor factors) (chain-fits marks.Star (λ x. x.at) (IsPower G) terms_of_factor factor-fits factors front fit h)

  part-fits : (x : SetPart) (front : List SetPiece) → Fit front → IsTensor G x.expr front → AllByRecursion FitsTerm (terms_of_part x)
  part-fits x front fit h =
      let y : SetPart-F SetExpr SetFactor SetPart = record { at = x.at; expr = x.expr } in
      subst (AllByRecursion FitsTerm) (sym (fold-roll-SetPart (List SetTerm) (List SetTerm) (List SetTerm) expr_terms factor_terms part_terms y)) (tensor-fits x.expr front fit h)

  union-fits : (e : SetExpr) (front : List SetPiece) → Fit front → IsUnion G e front → FitsExpr e
  unfolding roll-SetExpr roll
  union-fits _ front fit (IsUnion.union parts _ h) =
      level-fits (SetExpr-F.Union parts) (chain-fits marks.Union (λ x. x.at) (λ (x : SetPart). IsTensor G x.expr) terms_of_part part-fits parts front fit h)

group-fits : (deep : ℕ) (e : SetExpr) (front : List SetPiece) → Fit front → IsGroup deep e front → FitsExpr e
group-fits zero e front fit h = absurd h
group-fits (suc deep) e front fit h =
    let inner = (parts-fit _ _ front h fit).1 in
    union-fits (IsGroup deep) (group-fits deep) e h.right.a (parts-fit _ _ h.b h.right inner).0 h.right.left

-- ---- items

module _ (E : SetExpr → List SetPiece → Type 0) (fits : (e : SetExpr) (front : List SetPiece) → Fit front → E e front → FitsExpr e) where
  abbrev FitsCase : SetCase → Type 0
  FitsCase c = FitsExpr c.expr

  case-fits : (x : SetCase) (front : List SetPiece) → Fit front → IsCase E x front → FitsCase x
  case-fits x front fit h = fits x.expr h.0.a (parts-fit _ _ front h.0 fit).0 h.0.left

  cases-fit : (cases : List SetCase) (front : List SetPiece) → Fit front → IsCases E cases front → AllByRecursion FitsCase cases
  cases-fit [] front fit h = absurd h
  cases-fit (x ∷ xs) front fit h =
      let f = parts-fit _ _ front h fit in
      (case-fits x h.a f.0 h.left, many-fit _ FitsCase (λ y part fine later. case-fits y later.b (parts-fit _ _ part later fine).1 later.right) xs h.b f.1 h.right)

  item-fits : (x : SetItem) (front : List SetPiece) → Fit front → IsItem E x front → AllByRecursion FitsTerm (terms_of_item x)
  item-fits _ front fit (IsItem.set name e _ h) =
      let inner = (parts-fit _ _ front h fit).1 in
      fits e h.right.a (parts-fit _ _ h.b h.right inner).0 h.right.left
  item-fits _ front fit (IsItem.claim name cases _ h) =
      let inner = (parts-fit _ _ front h fit).1 in
      each_of FitsTerm (λ (c : SetCase). terms_in c.expr) cases (cases-fit cases h.right.a (parts-fit _ _ h.b h.right inner).0 h.right.left)

tree-fits : (deep : ℕ) (tree : SetTree) (ts : List SetPiece) → Fit ts → IsFile deep tree ts → HasFittingCoefs tree
tree-fits deep tree ts fit h =
    All-from_recursion FitsTerm (flat_map terms_of_item tree.items) (each_of FitsTerm terms_of_item tree.items
    (many-fit (IsItem (IsExpr deep)) (λ (x : SetItem). AllByRecursion FitsTerm (terms_of_item x)) (item-fits (IsExpr deep) (union-fits (IsGroup deep) (group-fits deep)))
    tree.items h.a (parts-fit _ _ ts h fit).0 h.left))

pub coefs_fit : (text : List ℕ) (ts : List SetToken) (deep : ℕ) (tree : SetTree) → Reads text (Ok ts) → IsFile deep tree (pieces (record { source = text; list = ts })) → HasFittingCoefs tree
coefs_fit text ts deep tree reads h =
    tree-fits deep tree (pieces (record { source = text; list = ts })) (pieces-fit text ts (tokens-fit [] text reads.1 ts reads.2 reads.3)) h
