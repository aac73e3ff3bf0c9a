-- A text of a set file says one thing: its sets, which are valid, or its first fault.
use Rattle.std.proofs.Common.{◌≡◌, ◌⊎◌, inl, inr, ◌^◌, ◌<◌, ◌≤◌, ℕ, List, length, Result, Ok, Err, IfOk, IfErr, refl, ap, ap₂, sym, subst, ◌∙◌, take, nat_lt, Bool, true, false, arith}
use Rattle.std.specs.Prelude.{IsUtf8}
use Rattle.std.specs.Str.{IsValidUpTo}
use Rattle.std.proofs.lemmas.Bool.{ltb-true, ltb-false}
use Rattle.std.proofs.lemmas.List.{take_all}
use Rattle.aq_grammar.specs.Words.{first}
use Rattle.aq_lex.specs.Places.{place_after}
use Rattle.aq_set_parse.specs.Cuts.{Reads}
use Rattle.aq_set_parse.specs.Told as lex
use Rattle.aq_set_parse.specs.Piece.{SetPiece}
use Rattle.aq_set_parse.specs.Pieces.{pieces}
use Rattle.aq_set_parse.specs.Tokens.{place_of}
use Rattle.aq_set_parse.specs.SetGrammar.{IsFile}
use Rattle.aq_set_parse.specs.Short.{IsShortTree}
use Rattle.aq_set_parse.specs.Verdict.{IsFault, text_of}
use Rattle.aq_set_read.specs.Gathered.{Gives}
use Rattle.aq_set_read.specs.Meaning.{sets_of}
use Rattle.aq_sets.specs.Valid.{IsValidSets}
use Rattle.aq_base.specs.Limits.{most_nested, most_sets_bytes}
use Rattle.aq_set_read.specs.Texts.{HasSetTree, SaysSets, HasItemFault, SetFaultOf}
use Rattle.aq_set_parse.specs.declared.token.SetToken.{SetToken}
use Rattle.aq_set_parse.specs.declared.tree.SetTree.{SetTree}
use Rattle.aq_sets.specs.declared.sets.Sets.{Sets}
use Rattle.aq_set_parse.specs.declared.fault.SetLexFault.{SetLexFault}
use Rattle.aq_set_parse.specs.declared.fault.SetLexFault.TheVariants as lexed
use Rattle.aq_set_parse.specs.declared.reader.Fault.{Fault}
use Rattle.aq_set_parse.specs.declared.reader.Fault.TheVariants as kinds
use Rattle.aq_set_read.specs.declared.set_fault.SetFault.{SetFault}
use Rattle.aq_set_read.specs.declared.set_fault.SetFault.TheVariants as faults
use Rattle.aq_set_parse.proofs.CutLaws.{one_reading}
use Rattle.aq_set_parse.proofs.Judged.{one_tree, one_fault, some_answer}
use Rattle.aq_set_parse.proofs.ShortTrees.{short_tree}
use Rattle.aq_set_parse.proofs.SomeReading.{some_reading}
use Rattle.aq_set_read.proofs.NoMemory.{IsNamed, Told, tree-told}
use Rattle.aq_set_read.proofs.ValidChecks.{IsOfItems, Judged}
use Rattle.aq_set_read.proofs.ValidItems.{sets_of-valid}

-- ---- what the meaning of a tree gives

pub tree-valid : (n : ℕ) (tree : SetTree) (s : Sets) → n < 2 ^ 32 → IsShortTree n tree → sets_of tree ≡ Ok s → IsValidSets s
tree-valid n tree s small short e = subst (Judged IsValidSets) e (sets_of-valid n tree small short)

-- the lists of a text's tree are no longer than the text
tree-short : (text : List ℕ) (tree : SetTree) → HasSetTree text tree → IsShortTree (length text) tree
tree-short text tree has = short_tree text has.tokens most_nested tree has.cut has.grammar

pub text-valid : (text : List ℕ) (s : Sets) → length text < 2 ^ 32 → SaysSets text s → IsValidSets s
text-valid text s small says = tree-valid (length text) says.tree s small (tree-short text says.tree says.has_tree) says.meaning

pub valid_given : (r : Result Sets SetFault) (text : List ℕ) (tree : SetTree) → length text ≤ most_sets_bytes → HasSetTree text tree → Gives (λ (s : Sets). s) r (sets_of tree) → IfOk r IsValidSets
valid_given (Ok s) text tree few has e = tree-valid (length text) tree s (omega (arith, few)) (tree-short text tree has) e
valid_given (Err f) text tree few has h = tt

-- a fault of items is the first fault of the text; of want of memory nothing is asked
item_told : (text : List ℕ) (f : SetFault) → ((f ≡ faults.Memory → ⊥) → IsOfItems f × HasItemFault text f) → SetFaultOf text f
item_told text (faults.NotUtf8 at) h = absurd (h (λ e. cc)).0
item_told text (faults.BadByte at byte) h = absurd (h (λ e. cc)).0
item_told text (faults.OpenComment at) h = absurd (h (λ e. cc)).0
item_told text (faults.LongNumber at) h = absurd (h (λ e. cc)).0
item_told text (faults.BadKet at) h = absurd (h (λ e. cc)).0
item_told text (faults.Unexpected at token) h = absurd (h (λ e. cc)).0
item_told text (faults.TooDeep at) h = absurd (h (λ e. cc)).0
item_told text (faults.TooManyNames at) h = (h (λ e. cc)).1
item_told text (faults.TwiceNamed at) h = (h (λ e. cc)).1
item_told text (faults.UnknownSet at) h = (h (λ e. cc)).1
item_told text (faults.QubitCount at) h = (h (λ e. cc)).1
item_told text (faults.AmpTooWide at) h = (h (λ e. cc)).1
item_told text (faults.KetLength at) h = (h (λ e. cc)).1
item_told text (faults.RepeatedKet at) h = (h (λ e. cc)).1
item_told text (faults.TooManyNodes at) h = (h (λ e. cc)).1
item_told text faults.Memory h = tt

-- the meaning of a text's tree has no fault of bytes, tokens or the grammar, and not want of memory
named_told : (text : List ℕ) (tree : SetTree) (f : SetFault) → HasSetTree text tree → sets_of tree ≡ Err f → IsNamed f
named_told text tree f has e = subst Told e (tree-told most_nested tree (pieces (record { source = text; list = has.tokens })) has.grammar)

fault_told : (text : List ℕ) (tree : SetTree) (f : SetFault) → HasSetTree text tree → ((f ≡ faults.Memory → ⊥) → sets_of tree ≡ Err f) → SetFaultOf text f
fault_told text tree f has told =
    item_told text f (λ not. ((named_told text tree f has (told not)).0, record { tree = tree; has_tree = has; meaning = told not }))

pub fault_given : (r : Result Sets SetFault) (text : List ℕ) (tree : SetTree) → HasSetTree text tree → Gives (λ (s : Sets). s) r (sets_of tree) → IfErr r (SetFaultOf text)
fault_given (Ok s) text tree has h = tt
fault_given (Err f) text tree has h = fault_told text tree f has h

-- ---- one tree, one list of sets

ok_is : {A E : Type 0} (x y : A) → ◌≡◌ {A = Result A E} (Ok x) (Ok y) → x ≡ y
ok_is x y e = cc

err_is : {A E : Type 0} (x y : E) → ◌≡◌ {A = Result A E} (Err x) (Err y) → x ≡ y
err_is x y e = cc

ok_no_err : {A E : Type 0} (x : A) (y : E) → ◌≡◌ {A = Result A E} (Ok x) (Err y) → ⊥
ok_no_err x y e = cc

one_tokens : (text : List ℕ) (ts us : List SetToken) → Reads text (Ok ts) → Reads text (Ok us) → ts ≡ us
one_tokens text ts us h k = ok_is {E = SetLexFault} ts us (one_reading text (Ok ts) (Ok us) h k)

no_tokens : (text : List ℕ) (ts : List SetToken) (l : SetLexFault) → Reads text (Ok ts) → Reads text (Err l) → ⊥
no_tokens text ts l h k = ok_no_err ts l (one_reading text (Ok ts) (Err l) h k)

abbrev pieces_in : List ℕ → List SetToken → List SetPiece
pieces_in text ts = pieces (record { source = text; list = ts })

one_tree_of_text : (text : List ℕ) (x y : SetTree) → HasSetTree text x → HasSetTree text y → x ≡ y
one_tree_of_text text x y h k =
    let same = one_tokens text h.tokens k.tokens h.cut k.cut in
    one_tree most_nested most_nested x y (pieces_in text k.tokens) (subst (λ (ts : List SetToken). IsFile most_nested x (pieces_in text ts)) same h.grammar) k.grammar

pub one_sets : (text : List ℕ) (a b : Sets) → SaysSets text a → SaysSets text b → a ≡ b
one_sets text a b s t = ok_is {E = SetFault} a b (sym s.meaning ∙ ap sets_of (one_tree_of_text text s.tree t.tree s.has_tree t.has_tree) ∙ t.meaning)

-- ---- one fault

abbrev told_tokens : SetLexFault → SetFault
told_tokens (lexed.NotUtf8 at) = faults.NotUtf8 at
told_tokens (lexed.BadByte at byte) = faults.BadByte at byte
told_tokens (lexed.OpenComment at) = faults.OpenComment at
told_tokens (lexed.LongNumber at) = faults.LongNumber at
told_tokens (lexed.BadKet at) = faults.BadKet at
told_tokens lexed.Memory = faults.Memory

abbrev told_tree : Fault → List SetPiece → SetFault
told_tree kinds.Unexpected rest = faults.Unexpected (place_of (first rest)) (text_of (first rest))
told_tree kinds.TooDeep rest = faults.TooDeep (place_of (first rest))

-- why a text has a fault
data Because (text : List ℕ) (f : SetFault) : Type 0 where
  of_bytes : (n : ℕ) → IsValidUpTo text n → f ≡ faults.NotUtf8 (place_after (take n text)) → Because text f
  of_tokens : (l : SetLexFault) → Reads text (Err l) → f ≡ told_tokens l → Because text f
  of_tree : (ts : List SetToken) → Reads text (Ok ts) → (k : Fault) (rest : List SetPiece) → IsFault most_nested (pieces_in text ts) k rest → f ≡ told_tree k rest → Because text f
  of_items : HasItemFault text f → Because text f
  of_memory : f ≡ faults.Memory → Because text f

because : (text : List ℕ) (f : SetFault) → SetFaultOf text f → Because text f
because text (faults.NotUtf8 at) h = Because.of_bytes h.0 h.1 (ap faults.NotUtf8 h.2)
because text (faults.BadByte at byte) h = Because.of_tokens (lexed.BadByte at byte) h refl
because text (faults.OpenComment at) h = Because.of_tokens (lexed.OpenComment at) h refl
because text (faults.LongNumber at) h = Because.of_tokens (lexed.LongNumber at) h refl
because text (faults.BadKet at) h = Because.of_tokens (lexed.BadKet at) h refl
because text (faults.Unexpected at token) h = Because.of_tree h.tokens h.cut kinds.Unexpected h.first.0 h.first.1 (ap₂ faults.Unexpected h.first.2 h.first.3)
because text (faults.TooDeep at) h = Because.of_tree h.tokens h.cut kinds.TooDeep h.first.0 h.first.1 (ap faults.TooDeep h.first.2)
because text (faults.TooManyNames at) h = Because.of_items h
because text (faults.TwiceNamed at) h = Because.of_items h
because text (faults.UnknownSet at) h = Because.of_items h
because text (faults.QubitCount at) h = Because.of_items h
because text (faults.AmpTooWide at) h = Because.of_items h
because text (faults.KetLength at) h = Because.of_items h
because text (faults.RepeatedKet at) h = Because.of_items h
because text (faults.TooManyNodes at) h = Because.of_items h
because text faults.Memory h = Because.of_memory refl

no_utf8 : (text : List ℕ) (n : ℕ) → IsValidUpTo text n → IsUtf8 text → ⊥
no_utf8 text n h u = h.longest (length text) h.short (subst IsUtf8 (sym (take_all (length text) text (omega arith))) u)

-- the front that is valid is the longest
one_front : (text : List ℕ) (n m : ℕ) → IsValidUpTo text n → IsValidUpTo text m → n ≡ m
one_front text n m h k = by (nat_lt n m) (nat_lt m n) refl refl
  where
    by : (b c : Bool) → nat_lt n m ≡ b → nat_lt m n ≡ c → n ≡ m
    by true c e f = absurd (h.longest m (ltb-true n m e) k.front)
    by false true e f = absurd (k.longest n (ltb-true m n f) h.front)
    by false false e f = let le = ltb-false n m e in let ge = ltb-false m n f in omega (arith, le, ge)

no_tree_here : (text : List ℕ) (ts : List SetToken) (k : Fault) (rest : List SetPiece) (tree : SetTree) → Reads text (Ok ts) → IsFault most_nested (pieces_in text ts) k rest → HasSetTree text tree → ⊥
no_tree_here text ts k rest tree cut fault has =
    let same = one_tokens text has.tokens ts has.cut cut in
    fault.no_tree tree (subst (λ (us : List SetToken). IsFile most_nested tree (pieces_in text us)) same has.grammar)

no_fault_of_tree : (text : List ℕ) (tree : SetTree) (f : SetFault) → HasSetTree text tree → Because text f → ((f ≡ faults.Memory) → ⊥) → HasItemFault text f
no_fault_of_tree text tree f has (Because.of_bytes n h e) not = absurd (no_utf8 text n h has.cut.0)
no_fault_of_tree text tree f has (Because.of_tokens l h e) not = absurd (no_tokens text has.tokens l has.cut h)
no_fault_of_tree text tree f has (Because.of_tree ts cut k rest h e) not = absurd (no_tree_here text ts k rest tree cut h has)
no_fault_of_tree text tree f has (Because.of_items h) not = h
no_fault_of_tree text tree f has (Because.of_memory e) not = absurd (not e)

no_item_fault : (text : List ℕ) (sets : Sets) (f : SetFault) → SaysSets text sets → HasItemFault text f → ⊥
no_item_fault text sets f says h = ok_no_err sets f (sym says.meaning ∙ ap sets_of (one_tree_of_text text says.tree h.tree says.has_tree h.has_tree) ∙ h.meaning)

pub no_fault : (text : List ℕ) (sets : Sets) (f : SetFault) → SaysSets text sets → SetFaultOf text f → ((f ≡ faults.Memory) → ⊥) → ⊥
no_fault text sets f says h not = no_item_fault text sets f says (no_fault_of_tree text says.tree f says.has_tree (because text f h) not)

one_item_fault : (text : List ℕ) (e f : SetFault) → HasItemFault text e → HasItemFault text f → e ≡ f
one_item_fault text e f h k = err_is {A = Sets} e f (sym h.meaning ∙ ap sets_of (one_tree_of_text text h.tree k.tree h.has_tree k.has_tree) ∙ k.meaning)

one_tree_fault : (text : List ℕ) (ts us : List SetToken) (k l : Fault) (r s : List SetPiece) → Reads text (Ok ts) → Reads text (Ok us) → IsFault most_nested (pieces_in text ts) k r → IsFault most_nested (pieces_in text us) l s → told_tree k r ≡ told_tree l s
one_tree_fault text ts us k l r s cut again h i =
    let same = one_tokens text ts us cut again in
    let both = one_fault most_nested (pieces_in text us) r s k l (subst (λ (vs : List SetToken). IsFault most_nested (pieces_in text vs) k r) same h) i in
    ap₂ told_tree both.0 both.1

module _ (text : List ℕ) (e f : SetFault) where
  one_because : Because text e → Because text f → (e ≡ faults.Memory → ⊥) → (f ≡ faults.Memory → ⊥) → e ≡ f
  one_because (Because.of_memory z) why not nor = absurd (not z)
  one_because why (Because.of_memory z) not nor = absurd (nor z)
  one_because (Because.of_items h) why not nor = one_item_fault text e f h (no_fault_of_tree text h.tree f h.has_tree why nor)
  one_because why (Because.of_items h) not nor = one_item_fault text e f (no_fault_of_tree text h.tree e h.has_tree why not) h
  one_because (Because.of_bytes n h z) (Because.of_bytes m i y) not nor = z ∙ ap (λ (j : ℕ). faults.NotUtf8 (place_after (take j text))) (one_front text n m h i) ∙ sym y
  one_because (Because.of_bytes n h z) (Because.of_tokens l i y) not nor = absurd (no_utf8 text n h i.0)
  one_because (Because.of_bytes n h z) (Because.of_tree ts cut k rest i y) not nor = absurd (no_utf8 text n h cut.0)
  one_because (Because.of_tokens l i y) (Because.of_bytes n h z) not nor = absurd (no_utf8 text n h i.0)
  one_because (Because.of_tokens l h z) (Because.of_tokens m i y) not nor = z ∙ ap told_tokens (err_is {A = List SetToken} l m (one_reading text (Err l) (Err m) h i)) ∙ sym y
  one_because (Because.of_tokens l h z) (Because.of_tree ts cut k rest i y) not nor = absurd (no_tokens text ts l cut h)
  one_because (Because.of_tree ts cut k rest i y) (Because.of_bytes n h z) not nor = absurd (no_utf8 text n h cut.0)
  one_because (Because.of_tree ts cut k rest i y) (Because.of_tokens l h z) not nor = absurd (no_tokens text ts l cut h)
  one_because (Because.of_tree ts cut k r h z) (Because.of_tree us again l s i y) not nor = z ∙ one_tree_fault text ts us k l r s cut again h i ∙ sym y

pub one_fault_of_text : (text : List ℕ) (e f : SetFault) → SetFaultOf text e → SetFaultOf text f → (e ≡ faults.Memory → ⊥) → (f ≡ faults.Memory → ⊥) → e ≡ f
one_fault_of_text text e f h k = one_because text e f (because text e h) (because text f k)

-- ---- sets or a fault

abbrev Answer : List ℕ → Type 0
Answer text = ((sets : Sets) × SaysSets text sets) ⊎ ((f : SetFault) × SetFaultOf text f × (f ≡ faults.Memory → ⊥))

module _ (text : List ℕ) where
  answer_of_tree : (tree : SetTree) → HasSetTree text tree → (r : Result Sets SetFault) → sets_of tree ≡ r → Answer text
  answer_of_tree tree has (Ok sets) e = inl (sets, record { tree = tree; has_tree = has; meaning = e })
  answer_of_tree tree has (Err f) e = inr (f, fault_told text tree f has (λ not. e), (named_told text tree f has e).1)

  answer_of_list : (ts : List SetToken) → Reads text (Ok ts)
      → ((tree : SetTree) × IsFile most_nested tree (pieces_in text ts)) ⊎ ((k : Fault) × (rest : List SetPiece) × IsFault most_nested (pieces_in text ts) k rest) → Answer text
  answer_of_list ts cut (inl (tree, grammar)) = answer_of_tree tree (record { tokens = ts; cut = cut; grammar = grammar }) (sets_of tree) refl
  answer_of_list ts cut (inr (kinds.Unexpected, rest, is)) =
      inr (told_tree kinds.Unexpected rest, record { tokens = ts; cut = cut; first = (rest, is, refl, refl) }, λ e. cc)
  answer_of_list ts cut (inr (kinds.TooDeep, rest, is)) =
      inr (told_tree kinds.TooDeep rest, record { tokens = ts; cut = cut; first = (rest, is, refl) }, λ e. cc)

  answer_of_fault : (l : SetLexFault) → lex.FaultOf text l → (l ≡ lexed.Memory → ⊥) → Answer text
  answer_of_fault (lexed.NotUtf8 at) h not = inr (faults.NotUtf8 at, h, λ e. cc)
  answer_of_fault (lexed.BadByte at byte) h not = inr (faults.BadByte at byte, h, λ e. cc)
  answer_of_fault (lexed.OpenComment at) h not = inr (faults.OpenComment at, h, λ e. cc)
  answer_of_fault (lexed.LongNumber at) h not = inr (faults.LongNumber at, h, λ e. cc)
  answer_of_fault (lexed.BadKet at) h not = inr (faults.BadKet at, h, λ e. cc)
  answer_of_fault lexed.Memory h not = absurd (not refl)

pub some_saying : (text : List ℕ) → Answer text
some_saying text = by (some_reading text)
  where
    by : ((ts : List SetToken) × Reads text (Ok ts)) ⊎ ((l : SetLexFault) × lex.FaultOf text l × (l ≡ lexed.Memory → ⊥)) → Answer text
    by (inl (ts, cut)) = answer_of_list text ts cut (some_answer most_nested (pieces_in text ts))
    by (inr (l, fault, not)) = answer_of_fault text l fault not
