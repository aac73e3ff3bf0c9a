use Rattle.std.proofs.Common.{◌≡◌, ◌<◌, ◌≤◌, ◌+◌, ℕ, List, [], ◌∷◌, ◌++◌, length, take, get_or, sym, ap, ap₂, ◌∙◌, arith}
use Rattle.std.proofs.lemmas.List.{take_more, take_all}
use Rattle.aq_cert.specs.declared.cert.Rel.{Rel}
use Rattle.aq_cert.specs.declared.cert.Macro.{Macro}
use Rattle.aq_include.proofs.table.same.Goals as goal

same_rel : (a b : Rel) → a.goal ≡ b.goal → a.pairs ≡ b.pairs → a ≡ b
same_rel a b e f = λ i. record { goal = e i; pairs = f i }

more : (xs ys : List Rel) (i : ℕ) (a b : Rel) → i < length xs → i < length ys → a ≡ get_or xs i a → b ≡ get_or ys i b → a ≡ b → take i xs ≡ take i ys → take (i + 1) xs ≡ take (i + 1) ys
more xs ys i a b m n p q e h =
    take_more xs i a m ∙ ap₂ (λ (l : List Rel) (r : Rel). l ++ r ∷ []) h (sym p ∙ e ∙ q) ∙ sym (take_more ys i b n)

whole : (xs ys : List Rel) (i : ℕ) → length xs ≤ i → length ys ≤ i → take i xs ≡ take i ys → xs ≡ ys
whole xs ys i m n h = sym (take_all i xs m) ∙ h ∙ take_all i ys n

pub loop-i-preserved : goal.loop-i-preserved
loop-i-preserved c =
    let a = c.index-rels-i in
    let b = c.index-others-i in
    let e = c.len.ensures in
    let f = c.len-else-not-same_places.ensures in
    let h = c.if-len.false in
    more c.as_slice-rels.result.now c.as_slice-others.result.now c.loop-i.i a.result b.result c.loop-i-test.true
    (omega (arith, e, f, h, c.loop-i-test.true, ap (λ (l : List Rel). length l) c.as_slice-rels.ensures, ap (λ (l : List Rel). length l) c.as_slice-others.ensures))
    a.is b.is (c.same_rel.ensures c.if-not-same_rel.false) c.loop-i.invariant

pub returns : goal.returns
returns c = λ t.
    let e = c.len.ensures in
    let f = c.len-else-not-same_places.ensures in
    let h = c.if-len.false in
    let rels = whole c.as_slice-rels.result.now c.as_slice-others.result.now c.loop-i.i c.loop-i-test.false
    (omega (arith, e, f, h, c.loop-i-test.false, ap (λ (l : List Rel). length l) c.as_slice-rels.ensures, ap (λ (l : List Rel). length l) c.as_slice-others.ensures)) c.loop-i.invariant in
    let domains = sym c.as_slice.ensures ∙ c.same_places.ensures c.if-not-same_places.false ∙ c.as_slice-2.ensures in
    let both = sym c.as_slice-rels.ensures ∙ rels ∙ c.as_slice-others.ensures in
    macro-of c.args.one.now c.args.other.now domains both
  where
    macro-of : (m n : Macro) → m.domain ≡ n.domain → m.rels ≡ n.rels → m ≡ n
    macro-of m n e f = λ i. record { domain = e i; rels = f i }
