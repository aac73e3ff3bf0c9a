-- A text says one thing: one program, or one first fault.
use Rattle.std.proofs.Common.{◌≡◌, ◌⊎◌, inl, inr, ℕ, zero, suc, ◌<◌, ◌≤◌, List, [], ◌∷◌, ◌++◌, length, Some, Result, Ok, Err, refl, ap, ap₂, sym, subst, ◌∙◌, take, nat_lt, Bool, true, false, arith}
use Rattle.std.specs.Prelude.{IsUtf8}
use Rattle.std.specs.Str.{IsValidUpTo, is_utf8}
use Rattle.std.proofs.lemmas.Bool.{ltb-true, ltb-false}
use Rattle.std.proofs.lemmas.List.{take_all}
use Rattle.std.proofs.lemmas.Str.{IsUtf8-from_is_utf8, is_utf8-from_IsUtf8}
use Rattle.aq_base.specs.Limits.{most_nested}
use Rattle.aq_lex.specs.Cuts as tokens
use Rattle.aq_lex.specs.Cuts.{Lexeme, Reads, reading, tokens_of}
use Rattle.aq_lex.specs.Cutting.{followed}
use Rattle.aq_lex.specs.Listed as listed
use Rattle.aq_lex.specs.Places.{place_after}
use Rattle.aq_lex.specs.declared.fault.LexFault.{LexFault}
use Rattle.aq_lex.specs.declared.fault.LexFault.TheVariants as token
use Rattle.aq_lex.specs.declared.token.Class.{Class}
use Rattle.aq_lex.specs.declared.token.Class.TheVariants as «class»
use Rattle.aq_lex.specs.declared.token.Token.{Token}
use Rattle.aq_lex.proofs.CutLaws.{one_reading}
use Rattle.aq_lex.proofs.SomeCut.{some_cut}
use Rattle.aq_parse.specs.Piece.{Piece}
use Rattle.aq_parse.specs.Pieces.{pieces}
use Rattle.aq_parse.specs.Grammar.{IsProgram}
use Rattle.aq_parse.specs.Verdict.{IsFault}
use Rattle.aq_parse.specs.declared.fault.ParseFault.TheVariants as parsed
use Rattle.aq_parse.specs.declared.reader.Fault.{Fault}
use Rattle.aq_parse.specs.declared.reader.Fault.TheVariants as tree_faults
use Rattle.aq_parse.specs.declared.tree.Tree.{Tree}
use Rattle.aq_parse.proofs.Judged.{one_tree, one_fault, some_answer}
use Rattle.aq_parse.proofs.Pieces.{pieces_end}
use Rattle.aq_prog.specs.Programs.{IsValidProgram}
use Rattle.aq_prog.specs.declared.program.Program.{Program}
use Rattle.aq_elab.specs.Elaborated.{elaborated}
use Rattle.aq_elab.specs.ProgramFaults.{HasProgramFault, IsMemory}
use Rattle.aq_elab.specs.Texts.{HasTree, SaysProgram, SaysNoProgram}
use Rattle.aq_elab.specs.declared.fault.ElabFault.{ElabFault}
use Rattle.aq_elab.specs.declared.program.ProgramFault.{ProgramFault}
use Rattle.aq_elab.specs.declared.program.ProgramFault.TheVariants as fault
use Rattle.aq_elab.proofs.NoMemory.{no_memory}
use Rattle.aq_elab.proofs.ValidLaws.{elaborated-valid}

-- ---- one tree, one program

ok_is : {A E : Type 0} (x y : A) → ◌≡◌ {A = Result A E} (Ok x) (Ok y) → x ≡ y
ok_is x y e = cc

err_is : {A E : Type 0} (x y : E) → ◌≡◌ {A = Result A E} (Err x) (Err y) → x ≡ y
err_is x y e = cc

ok_no_err : {A E : Type 0} (x : A) (y : E) → ◌≡◌ {A = Result A E} (Ok x) (Err y) → ⊥
ok_no_err x y e = cc

one_tokens : (text : List ℕ) (ts us : List Token) → Reads text (Ok ts) → Reads text (Ok us) → ts ≡ us
one_tokens text ts us h k = ok_is {E = LexFault} ts us (one_reading text (Ok ts) (Ok us) h k)

no_tokens : (text : List ℕ) (ts : List Token) (l : LexFault) → Reads text (Ok ts) → Reads text (Err l) → ⊥
no_tokens text ts l h k = ok_no_err ts l (one_reading text (Ok ts) (Err l) h k)

abbrev pieces_in : List ℕ → List Token → List Piece
pieces_in text ts = pieces (record { source = text; list = ts })

pub one_tree_of_text : (text : List ℕ) (x y : Tree) → HasTree text x → HasTree text y → x ≡ y
one_tree_of_text text x y h k =
    let same = one_tokens text h.tokens k.tokens h.cut k.cut in
    one_tree most_nested most_nested x y (pieces_in text k.tokens)
    (subst (λ (ts : List Token). IsProgram most_nested x (pieces_in text ts)) same h.grammar) k.grammar

pub one_program : (text : List ℕ) (p q : Program) → SaysProgram text p → SaysProgram text q → p ≡ q
one_program text p q s t =
    let tree : s.tree ≡ t.tree = one_tree_of_text text s.tree t.tree s.has_tree t.has_tree in
    ok_is {E = ElabFault} p q (sym s.meaning ∙ ap elaborated tree ∙ t.meaning)

pub text-valid : (text : List ℕ) (p : Program) → SaysProgram text p → IsValidProgram p
text-valid text p says = elaborated-valid says.tree p says.meaning

-- ---- one fault

abbrev told_tree : Fault → Piece → ProgramFault
told_tree tree_faults.Unexpected t = fault.Parse (parsed.Unexpected t.at t.text)
told_tree tree_faults.NotTaken t = fault.Parse (parsed.NotTaken t.at t.text)
told_tree tree_faults.TooDeep t = fault.Parse (parsed.TooDeep t.at)

-- why a text has a fault
data Because (text : List ℕ) (f : ProgramFault) : Type 0 where
  of_bytes : (n : ℕ) → IsValidUpTo text n → f ≡ fault.Lex (token.NotUtf8 (place_after (take n text))) → Because text f
  of_tokens : (l : LexFault) → Reads text (Err l) → f ≡ fault.Lex l → Because text f
  of_tree : (ts : List Token) → Reads text (Ok ts) → (k : Fault) (t : Piece) (more : List Piece) → IsFault most_nested (pieces_in text ts) k (t ∷ more) → f ≡ told_tree k t → Because text f
  of_meaning : (m : ElabFault) → SaysNoProgram text m → f ≡ fault.Elab m → Because text f

because : (text : List ℕ) (f : ProgramFault) → HasProgramFault text f → (IsMemory f → ⊥) → Because text f
because text (fault.Lex (token.NotUtf8 at)) h not = Because.of_bytes h.0 h.1 (ap (λ p. fault.Lex (token.NotUtf8 p)) h.2)
because text (fault.Lex (token.BadByte at byte)) h not = Because.of_tokens (token.BadByte at byte) h refl
because text (fault.Lex (token.OpenComment at)) h not = Because.of_tokens (token.OpenComment at) h refl
because text (fault.Lex (token.OpenText at)) h not = Because.of_tokens (token.OpenText at) h refl
because text (fault.Lex (token.LongNumber at)) h not = Because.of_tokens (token.LongNumber at) h refl
because text (fault.Lex token.Memory) h not = absurd (not refl)
because text (fault.Parse (parsed.Unexpected at word)) h not =
    let f = h.first in Because.of_tree h.tokens h.cut tree_faults.Unexpected f.0 f.1 f.2 (ap₂ (λ p w. fault.Parse (parsed.Unexpected p w)) f.3 f.4)
because text (fault.Parse (parsed.NotTaken at word)) h not =
    let f = h.first in Because.of_tree h.tokens h.cut tree_faults.NotTaken f.0 f.1 f.2 (ap₂ (λ p w. fault.Parse (parsed.NotTaken p w)) f.3 f.4)
because text (fault.Parse (parsed.TooDeep at)) h not =
    let f = h.first in Because.of_tree h.tokens h.cut tree_faults.TooDeep f.0 f.1 f.2 (ap (λ p. fault.Parse (parsed.TooDeep p)) f.3)
because text (fault.Parse parsed.Memory) h not = absurd (not refl)
because text (fault.Elab m) h not = Because.of_meaning m (h not) refl

no_utf8 : (text : List ℕ) (n : ℕ) → IsValidUpTo text n → IsUtf8 text → ⊥
no_utf8 text n h u = h.longest (length text) h.short (subst IsUtf8 (sym (take_all (length text) text (omega arith))) u)

-- the front that is valid is the longest
one_front : (text : List ℕ) (n m : ℕ) → IsValidUpTo text n → IsValidUpTo text m → n ≡ m
one_front text n m h k = by (nat_lt n m) (nat_lt m n) refl refl
  where
    by : (b c : Bool) → nat_lt n m ≡ b → nat_lt m n ≡ c → n ≡ m
    by true c e f = absurd (h.longest m (ltb-true n m e) k.front)
    by false true e f = absurd (k.longest n (ltb-true m n f) h.front)
    by false false e f = let le = ltb-false n m e in let ge = ltb-false m n f in omega (arith, le, ge)

no_tree_here : (text : List ℕ) (ts : List Token) (k : Fault) (rest : List Piece) (tree : Tree) → Reads text (Ok ts) → IsFault most_nested (pieces_in text ts) k rest → HasTree text tree → ⊥
no_tree_here text ts k rest tree cut is has =
    let same = one_tokens text has.tokens ts has.cut cut in
    is.no_tree tree (subst (λ (us : List Token). IsProgram most_nested tree (pieces_in text us)) same has.grammar)

-- a text with a tree has a fault of its meaning alone
no_fault_of_tree : (text : List ℕ) (tree : Tree) (f : ProgramFault) → HasTree text tree → Because text f → (m : ElabFault) × SaysNoProgram text m × (f ≡ fault.Elab m)
no_fault_of_tree text tree f has (Because.of_bytes n h e) = absurd (no_utf8 text n h has.cut.0)
no_fault_of_tree text tree f has (Because.of_tokens l h e) = absurd (no_tokens text has.tokens l has.cut h)
no_fault_of_tree text tree f has (Because.of_tree ts cut k t more h e) = absurd (no_tree_here text ts k (t ∷ more) tree cut h has)
no_fault_of_tree text tree f has (Because.of_meaning m h e) = (m, h, e)

not_both : (text : List ℕ) (p : Program) (m : ElabFault) → SaysProgram text p → SaysNoProgram text m → ⊥
not_both text p m says h = ok_no_err p m (sym says.meaning ∙ ap elaborated (one_tree_of_text text says.tree h.tree says.has_tree h.has_tree) ∙ h.meaning)

pub no_fault : (text : List ℕ) (p : Program) (f : ProgramFault) → SaysProgram text p → HasProgramFault text f → (IsMemory f → ⊥) → ⊥
no_fault text p f says h not = let m = no_fault_of_tree text says.tree f says.has_tree (because text f h not) in not_both text p m.0 says m.1

one_meaning : (text : List ℕ) (m n : ElabFault) → SaysNoProgram text m → SaysNoProgram text n → m ≡ n
one_meaning text m n h k = err_is {A = Program} m n (sym h.meaning ∙ ap elaborated (one_tree_of_text text h.tree k.tree h.has_tree k.has_tree) ∙ k.meaning)

heads_are : (t u : Piece) (ts us : List Piece) → t ∷ ts ≡ u ∷ us → t ≡ u
heads_are t u ts us e = cc

one_tree_fault : (text : List ℕ) (ts us : List Token) (k l : Fault) (t u : Piece) (r s : List Piece) → Reads text (Ok ts) → Reads text (Ok us) → IsFault most_nested (pieces_in text ts) k (t ∷ r) → IsFault most_nested (pieces_in text us) l (u ∷ s) → told_tree k t ≡ told_tree l u
one_tree_fault text ts us k l t u r s cut again h i =
    let same = one_tokens text ts us cut again in
    let both = one_fault most_nested (pieces_in text us) (t ∷ r) (u ∷ s) k l (subst (λ (vs : List Token). IsFault most_nested (pieces_in text vs) k (t ∷ r)) same h) i in
    ap₂ told_tree both.0 (heads_are t u r s both.1)

module _ (text : List ℕ) (e f : ProgramFault) where
  beside_meaning : (m : ElabFault) → SaysNoProgram text m → e ≡ fault.Elab m → Because text f → e ≡ f
  beside_meaning m h z why = let n = no_fault_of_tree text h.tree f h.has_tree why in z ∙ ap fault.Elab (one_meaning text m n.0 h n.1) ∙ sym n.2

  one_because : Because text e → Because text f → e ≡ f
  one_because (Because.of_meaning m h z) why = beside_meaning m h z why
  one_because why (Because.of_meaning m h z) = let n = no_fault_of_tree text h.tree e h.has_tree why in n.2 ∙ ap fault.Elab (one_meaning text n.0 m n.1 h) ∙ sym z
  one_because (Because.of_bytes n h z) (Because.of_bytes m i y) = z ∙ ap (λ (j : ℕ). fault.Lex (token.NotUtf8 (place_after (take j text)))) (one_front text n m h i) ∙ sym y
  one_because (Because.of_bytes n h z) (Because.of_tokens l i y) = absurd (no_utf8 text n h i.0)
  one_because (Because.of_bytes n h z) (Because.of_tree ts cut k t more i y) = absurd (no_utf8 text n h cut.0)
  one_because (Because.of_tokens l i y) (Because.of_bytes n h z) = absurd (no_utf8 text n h i.0)
  one_because (Because.of_tokens l h z) (Because.of_tokens m i y) = z ∙ ap fault.Lex (err_is {A = List Token} l m (one_reading text (Err l) (Err m) h i)) ∙ sym y
  one_because (Because.of_tokens l h z) (Because.of_tree ts cut k t more i y) = absurd (no_tokens text ts l cut h)
  one_because (Because.of_tree ts cut k t more i y) (Because.of_bytes n h z) = absurd (no_utf8 text n h cut.0)
  one_because (Because.of_tree ts cut k t more i y) (Because.of_tokens l h z) = absurd (no_tokens text ts l cut h)
  one_because (Because.of_tree ts cut k t r h z) (Because.of_tree us again l u s i y) = z ∙ one_tree_fault text ts us k l t u r s cut again h i ∙ sym y

pub one_fault_of_text : (text : List ℕ) (e f : ProgramFault) → HasProgramFault text e → HasProgramFault text f → (IsMemory e → ⊥) → (IsMemory f → ⊥) → e ≡ f
one_fault_of_text text e f h k not nor = one_because text e f (because text e h not) (because text f k nor)

-- ---- a program or a fault

decided : (bs : List ℕ) → IsUtf8 bs ⊎ (IsUtf8 bs → ⊥)
decided bs = by (is_utf8 bs) refl
  where
    by : (b : Bool) → is_utf8 bs ≡ b → IsUtf8 bs ⊎ (IsUtf8 bs → ⊥)
    by true e = inl (IsUtf8-from_is_utf8 bs e)
    by false e = inr (λ u. let t = is_utf8-from_IsUtf8 bs u in cc)

-- the longest valid front of at most k bytes
record Front (text : List ℕ) (k : ℕ) : Type 0 where
  n : ℕ
  within : n ≤ k
  front : IsUtf8 (take n text)
  longest : (m : ℕ) → n < m → m ≤ k → IsUtf8 (take m text) → ⊥

front_to : (text : List ℕ) (k : ℕ) → Front text k
front_to text zero = record { n = 0; within = omega arith; front = ([], (refl, refl)); longest = λ m lt le u. absurd (omega (arith, lt, le)) }
front_to text (suc k) = by (decided (take (suc k) text)) (front_to text k)
  where
    past : (f : Front text k) → (IsUtf8 (take (suc k) text) → ⊥) → (m : ℕ) → f.n < m → m ≤ suc k → IsUtf8 (take m text) → ⊥
    past f none m lt le u = at (nat_lt m (suc k)) refl
      where
        at : (b : Bool) → nat_lt m (suc k) ≡ b → ⊥
        at true e = f.longest m lt (let l = ltb-true m (suc k) e in omega (arith, l)) u
        at false e = let is : m ≡ suc k = (let g = ltb-false m (suc k) e in omega (arith, g, le)) in none (subst (λ (j : ℕ). IsUtf8 (take j text)) is u)

    by : IsUtf8 (take (suc k) text) ⊎ (IsUtf8 (take (suc k) text) → ⊥) → Front text k → Front text (suc k)
    by (inl u) f = record { n = suc k; within = omega arith; front = u; longest = λ m lt le v. absurd (omega (arith, lt, le)) }
    by (inr none) f = record { n = f.n; within = let w = f.within in omega (arith, w); front = f.front; longest = past f none }

module _ (text : List ℕ) (none : IsUtf8 text → ⊥) (f : Front text (length text)) where
  short : f.n < length text
  short = at (nat_lt f.n (length text)) refl
    where
      at : (b : Bool) → nat_lt f.n (length text) ≡ b → f.n < length text
      at true e = ltb-true f.n (length text) e
      at false e = absurd (none (subst IsUtf8 (take_all f.n text (ltb-false f.n (length text) e)) f.front))

  none_longer : (m : ℕ) → f.n < m → IsUtf8 (take m text) → ⊥
  none_longer m lt u = at (nat_lt (length text) m) refl
    where
      at : (b : Bool) → nat_lt (length text) m ≡ b → ⊥
      at true e = none (subst IsUtf8 (take_all m text (let l = ltb-true (length text) m e in omega (arith, l))) u)
      at false e = f.longest m lt (ltb-false (length text) m e) u

-- a text is UTF-8, or a front of it is the longest that is
utf8_or_front : (text : List ℕ) → IsUtf8 text ⊎ ((n : ℕ) × IsValidUpTo text n)
utf8_or_front text = by (decided text) (front_to text (length text))
  where
    by : IsUtf8 text ⊎ (IsUtf8 text → ⊥) → Front text (length text) → IsUtf8 text ⊎ ((n : ℕ) × IsValidUpTo text n)
    by (inl u) f = inl u
    by (inr none) f = inr (f.n, record { short = short text none f; front = f.front; longest = none_longer text none f })

-- what a reading tells: a list of tokens that ends in End, or a fault of the text
abbrev IsRead : Result (List Token) LexFault → Type 0
IsRead (Ok ts) = listed.EndsInEnd ts
IsRead (Err (token.NotUtf8 at)) = ⊥
IsRead (Err token.Memory) = ⊥
IsRead (Err (token.BadByte at b)) = Unit {0}
IsRead (Err (token.OpenComment at)) = Unit {0}
IsRead (Err (token.OpenText at)) = Unit {0}
IsRead (Err (token.LongNumber at)) = Unit {0}

cons_read : (t : Token) (r : Result (List Token) LexFault) → IsRead r → IsRead (followed (Ok (Some t)) r)
cons_read t (Ok []) h = absurd cc
cons_read t (Ok (u ∷ us)) h = h
cons_read t (Err (token.NotUtf8 at)) h = h
cons_read t (Err token.Memory) h = h
cons_read t (Err (token.BadByte at b)) h = h
cons_read t (Err (token.OpenComment at)) h = h
cons_read t (Err (token.OpenText at)) h = h
cons_read t (Err (token.LongNumber at)) h = h

piece_read : (before : List ℕ) (c : Class) (text : List ℕ) (r : Result (List Token) LexFault) → IsRead r → IsRead (followed (reading before c text) r)
piece_read before «class».Blank text r h = h
piece_read before «class».Comment text r h = h
piece_read before («class».Token k) text r h = cons_read (tokens.token k before text) r h
piece_read before «class».OpenComment text r h = tt
piece_read before «class».OpenText text r h = tt
piece_read before «class».LongNumber text r h = tt
piece_read before («class».BadByte b) text r h = tt

tokens_read : (before : List ℕ) (ls : List Lexeme) → IsRead (tokens_of before ls)
tokens_read before [] = refl
tokens_read before (l ∷ ls) = piece_read before l.kind l.text (tokens_of (before ++ l.text) ls) (tokens_read (before ++ l.text) ls)

abbrev Answer : List ℕ → Type 0
Answer text = ((p : Program) × SaysProgram text p) ⊎ ((f : ProgramFault) × HasProgramFault text f × (IsMemory f → ⊥))

module _ (text : List ℕ) where
  answer_of_tree : (tree : Tree) → HasTree text tree → (r : Result Program ElabFault) → elaborated tree ≡ r → Answer text
  answer_of_tree tree has (Ok p) e = inl (p, record { tree = tree; has_tree = has; meaning = e })
  answer_of_tree tree has (Err m) e = inr (fault.Elab m, (λ not. record { tree = tree; has_tree = has; meaning = e }), λ is. no_memory tree (e ∙ ap (λ (f : ElabFault). Err f) is))

  of_list : (ts : List Token) → Reads text (Ok ts) → listed.EndsInEnd ts
      → ((tree : Tree) × IsProgram most_nested tree (pieces_in text ts)) ⊎ ((k : Fault) × (rest : List Piece) × IsFault most_nested (pieces_in text ts) k rest) → Answer text
  of_list ts cut ends (inl (tree, grammar)) = answer_of_tree tree (record { tokens = ts; cut = cut; grammar = grammar }) (elaborated tree) refl
  of_list ts cut ends (inr (k, [], is)) = absurd (is.has_token (pieces_end text ts ends) refl)
  of_list ts cut ends (inr (tree_faults.Unexpected, t ∷ more, is)) =
      inr (fault.Parse (parsed.Unexpected t.at t.text), record { tokens = ts; cut = cut; first = (t, more, is, refl, refl) }, λ e. cc)
  of_list ts cut ends (inr (tree_faults.NotTaken, t ∷ more, is)) =
      inr (fault.Parse (parsed.NotTaken t.at t.text), record { tokens = ts; cut = cut; first = (t, more, is, refl, refl) }, λ e. cc)
  of_list ts cut ends (inr (tree_faults.TooDeep, t ∷ more, is)) =
      inr (fault.Parse (parsed.TooDeep t.at), record { tokens = ts; cut = cut; first = (t, more, is, refl) }, λ e. cc)

  of_reading : (r : Result (List Token) LexFault) → Reads text r → IsRead r → Answer text
  of_reading (Ok ts) cut h = of_list ts cut h (some_answer most_nested (pieces_in text ts))
  of_reading (Err (token.NotUtf8 at)) cut h = absurd h
  of_reading (Err token.Memory) cut h = absurd h
  of_reading (Err (token.BadByte at b)) cut h = inr (fault.Lex (token.BadByte at b), cut, λ e. cc)
  of_reading (Err (token.OpenComment at)) cut h = inr (fault.Lex (token.OpenComment at), cut, λ e. cc)
  of_reading (Err (token.OpenText at)) cut h = inr (fault.Lex (token.OpenText at), cut, λ e. cc)
  of_reading (Err (token.LongNumber at)) cut h = inr (fault.Lex (token.LongNumber at), cut, λ e. cc)

  of_front : IsUtf8 text ⊎ ((n : ℕ) × IsValidUpTo text n) → Answer text
  of_front (inl u) = let c = some_cut [] text in of_reading (tokens_of [] c.0) (u, c.0, c.1, refl) (tokens_read [] c.0)
  of_front (inr (n, valid)) = inr (fault.Lex (token.NotUtf8 (place_after (take n text))), (n, valid, refl), λ e. cc)

pub some_saying : (text : List ℕ) → Answer text
some_saying text = of_front text (utf8_or_front text)
