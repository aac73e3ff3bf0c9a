-- The bytes of a report say its verdicts.
use Rattle.std.proofs.Common.{◌≡◌, ℕ, zero, suc, ◌+◌, ◌<◌, ◌≤◌, ◌^◌, Bool, true, false, List, [], ◌∷◌, ◌++◌, length, All, refl, ap, ap₂, sym, ◌∙◌, subst, nat_lt, get_or, append_assoc, arith}
use Rattle.std.specs.Prelude.{codes, if◌then◌else◌}
use Rattle.std.specs.Fmt.{decimal}
use Rattle.std.specs.Int.{bit_at}
use Rattle.std.proofs.lemmas.Bool.{ltb-true, ltb-false}
use Rattle.std.proofs.lemmas.List.{append_cancel_left}
use Rattle.std.proofs.lemmas.List.Elements.{All-head, All-tail}
use Rattle.std.proofs.lemmas.Nat.Bits.{same_from_bits_below}
use Rattle.aq_ring.specs.Quads.{Quad}
use Rattle.aq_ring.specs.Fractions.{Amplitude}
use Rattle.aq_ring.specs.Vectors.{is_zero}
use Rattle.aq_ring.proofs.AmplitudeLaws.{same_amplitude}
use Rattle.aq_ring.proofs.VectorLaws.{is_zero_true}
use Rattle.aq_plain.specs.Vectors.{StateVector}
use Rattle.aq_world.specs.Pieces.{binary_digits, bits_text, ket_text}
use Rattle.aq_obligations.specs.declared.bound.Obligation.{Obligation}
use Rattle.aq_report.specs.Shown.{IsSmall, IsOn, IsVerdictOn}
use Rattle.aq_report.specs.Texts.{newline, kind_text, amplitude_text, entry_line, entries_from, entries_text, bits_line, state_text, ending_text, refutation_text, refuted_line, why_text, outcome_text, verdict_text, lines_from, counts_text, report}
use Rattle.aq_report.specs.declared.verdict.Refutation.{Refutation}
use Rattle.aq_report.specs.declared.verdict.Verdict.{Verdict}
use Rattle.aq_report.specs.declared.verdict.Verdict.TheVariants as verdict
use Rattle.aq_report.specs.declared.verdict.Why.{Why}
use Rattle.aq_report.specs.declared.verdict.Why.TheVariants as why
use Rattle.aq_report.proofs.Splits.{tails, behind_same, IsFrom, decimal_from, decimal_made, number_read, signed_read, bits_read}

-- ---- an amplitude

same_quad : (x y : Quad) → x.a ≡ y.a → x.b ≡ y.b → x.c ≡ y.c → x.d ≡ y.d → x ≡ y
same_quad x y e f g h = λ i. record { a = e i; b = f i; c = g i; d = h i }

amplitude_read : (p q : Amplitude) (r s : List ℕ) → IsSmall p → IsSmall q → amplitude_text p ++ r ≡ amplitude_text q ++ s → (p ≡ q) × (r ≡ s)
amplitude_read p q r s h k e =
    let a = signed_read p.num.a q.num.a _ _ r s 44 h.num.a k.num.a (omega arith) (tails 40 40 _ _ e) in
    let b = signed_read p.num.b q.num.b _ _ r s 44 h.num.b k.num.b (omega arith) a.1 in
    let c = signed_read p.num.c q.num.c _ _ r s 44 h.num.c k.num.c (omega arith) b.1 in
    let d = signed_read p.num.d q.num.d _ _ r s 41 h.num.d k.num.d (omega arith) c.1 in
    let l = h.power in
    let m = k.power in
    let n = number_read p.power q.power [] [] r s 10 (omega (arith, l)) (omega (arith, m)) (omega arith) (tails 47 47 _ _ d.1) in
    (same_amplitude p q (same_quad p.num q.num a.0 b.0 c.0 d.0) n.0, n.1)

-- ---- a line for an entry

same_bits : (places a b : ℕ) (r s : List ℕ) → binary_digits places a ++ r ≡ binary_digits places b ++ s → (i : ℕ) → i < places → bit_at a i ≡ bit_at b i
same_bits zero a b r s e i lt = absurd (omega (arith, lt))
same_bits (suc k) a b r s e i lt = by (same_bits k a b r s (tails _ _ _ _ e) i) (nat_lt i k) refl
  where
    by : (i < k → bit_at a i ≡ bit_at b i) → (t : Bool) → nat_lt i k ≡ t → bit_at a i ≡ bit_at b i
    by below true f = below (ltb-true i k f)
    by below false f =
        let le = ltb-false i k f in
        let is : i ≡ k = omega (arith, le, lt) in
        let top : 48 + bit_at a k ≡ 48 + bit_at b k = ap (λ (l : List ℕ). get_or l 0 0) e in
        subst (λ (j : ℕ). bit_at a j ≡ bit_at b j) (sym is) (omega (arith, top))

ket_read : (n a b : ℕ) (r s : List ℕ) → a < 2 ^ n → b < 2 ^ n → ket_text n a ++ r ≡ ket_text n b ++ s → a ≡ b
ket_read n a b r s p q e =
    same_from_bits_below n a b p q (same_bits n a b (62 ∷ r) (62 ∷ s)
    (sym (append_assoc (binary_digits n a) (62 ∷ []) r) ∙ tails 124 124 _ _ e ∙ append_assoc (binary_digits n b) (62 ∷ []) s))

module _ (label : List ℕ) (n : ℕ) where
  -- what doesn't begin with a line for an entry
  abbrev Ends : List ℕ → Type 0
  Ends r = (t : List ℕ) → r ≡ label ++ 124 ∷ t → ⊥

  entry_read : (i : ℕ) (p q : Amplitude) (r s : List ℕ) → IsSmall p → IsSmall q → entry_line label n i p ++ r ≡ entry_line label n i q ++ s → (p ≡ q) × (r ≡ s)
  entry_read i p q r s h k e =
      let x : List ℕ = codes " " ++ amplitude_text p in
      let y : List ℕ = codes " " ++ amplitude_text q in
      let rest = behind_same (ket_text n i) x y r s (behind_same label (ket_text n i ++ x) (ket_text n i ++ y) r s e) in
      amplitude_read p q r s h k (tails 32 32 _ _ rest)

  -- an entry further on has another line
  other_entry : (i j : ℕ) (p : Amplitude) (r t : List ℕ) → i < j → j < 2 ^ n → entry_line label n j p ++ r ≡ label ++ (ket_text n i ++ t) → ⊥
  other_entry i j p r t lt le e =
      let x : List ℕ = codes " " ++ amplitude_text p in
      let behind = append_cancel_left label ((ket_text n j ++ x) ++ r) (ket_text n i ++ t) (sym (append_assoc label (ket_text n j ++ x) r) ∙ e) in
      let same = ket_read n j i (x ++ r) t le (omega (arith, lt, le)) (sym (append_assoc (ket_text n j) x r) ∙ behind) in
      omega (arith, same, lt)

  no_entry : (i j : ℕ) (ps : List Amplitude) (r t : List ℕ) → i < j → j + length ps ≤ 2 ^ n → Ends r → entries_from label n j ps ++ r ≡ label ++ (ket_text n i ++ t) → ⊥
  no_entry i j [] r t lt le ends e = ends _ e
  no_entry i j (p ∷ ps) r t lt le ends e = by (no_entry i (j + 1) ps r t (omega (arith, lt)) (omega (arith, le)) ends) (is_zero p) e
    where
      rest : List ℕ
      rest = entries_from label n (j + 1) ps

      by : (rest ++ r ≡ label ++ (ket_text n i ++ t) → ⊥) → (b : Bool) → ((if b then [] else entry_line label n j p) ++ rest) ++ r ≡ label ++ (ket_text n i ++ t) → ⊥
      by later true f = later f
      by later false f = other_entry i j p (rest ++ r) t lt (omega (arith, le)) (sym (append_assoc (entry_line label n j p) rest r) ∙ f)

  first_entry : (i : ℕ) (p q : Amplitude) (x r s : List ℕ) (ps : List Amplitude) → i + 1 + length ps ≤ 2 ^ n → Ends s → (entry_line label n i p ++ x) ++ r ≡ entries_from label n (i + 1) ps ++ s → ⊥
  first_entry i p q x r s ps le ends e =
      let y : List ℕ = codes " " ++ amplitude_text p in
      let whole : (entry_line label n i p ++ x) ++ r ≡ label ++ (ket_text n i ++ (y ++ (x ++ r))) =
      append_assoc (entry_line label n i p) x r ∙ append_assoc label (ket_text n i ++ y) (x ++ r) ∙ ap (λ (l : List ℕ). label ++ l) (append_assoc (ket_text n i) y (x ++ r)) in
      no_entry i (i + 1) ps s (y ++ (x ++ r)) (omega arith) le ends (sym e ∙ whole)

  entries_read : (i : ℕ) (ps qs : List Amplitude) (r s : List ℕ) → length ps ≡ length qs → i + length ps ≤ 2 ^ n → All IsSmall ps → All IsSmall qs → Ends r → Ends s
      → entries_from label n i ps ++ r ≡ entries_from label n i qs ++ s → (ps ≡ qs) × (r ≡ s)
  entries_read i [] [] r s len le h k rends sends e = (refl, e)
  entries_read i [] (q ∷ qs) r s len le h k rends sends e = absurd (omega (arith, len))
  entries_read i (p ∷ ps) [] r s len le h k rends sends e = absurd (omega (arith, len))
  entries_read i (p ∷ ps) (q ∷ qs) r s len le h k rends sends e =
      by (entries_read (i + 1) ps qs r s (omega (arith, len)) (omega (arith, le)) (All-tail IsSmall p ps h) (All-tail IsSmall q qs k) rends sends) (is_zero p) (is_zero q) refl refl e
    where
      x : List ℕ
      x = entries_from label n (i + 1) ps

      y : List ℕ
      y = entries_from label n (i + 1) qs

      by : (x ++ r ≡ y ++ s → (ps ≡ qs) × (r ≡ s)) → (b c : Bool) → is_zero p ≡ b → is_zero q ≡ c
          → ((if b then [] else entry_line label n i p) ++ x) ++ r ≡ ((if c then [] else entry_line label n i q) ++ y) ++ s → (p ∷ ps ≡ q ∷ qs) × (r ≡ s)
      by later true true b c f = let rest = later f in (ap₂ (λ (u : Amplitude) (us : List Amplitude). u ∷ us) (is_zero_true p b ∙ sym (is_zero_true q c)) rest.0, rest.1)
      by later false false b c f =
          let both = entry_read i p q (x ++ r) (y ++ s) (All-head IsSmall p ps h) (All-head IsSmall q qs k)
          (sym (append_assoc (entry_line label n i p) x r) ∙ f ∙ append_assoc (entry_line label n i q) y s) in
          let rest = later both.1 in
          (ap₂ (λ (u : Amplitude) (us : List Amplitude). u ∷ us) both.0 rest.0, rest.1)
      by later true false b c f = absurd (first_entry i q p y s r ps (omega (arith, le)) rends (sym f))
      by later false true b c f = absurd (first_entry i p q x r s qs (omega (arith, le, len)) sends f)

  vector_read : (v w : StateVector) (r s : List ℕ) → IsOn n v → IsOn n w → Ends r → Ends s → entries_text label v ++ r ≡ entries_text label w ++ s → (v ≡ w) × (r ≡ s)
  vector_read v w r s h k rends sends e =
      let both = entries_read 0 v.amps w.amps r s (h.size ∙ sym k.size) (let z = h.size in omega (arith, z)) h.entries k.entries rends sends
      (ap (λ (m : ℕ). entries_from label m 0 v.amps ++ r) (sym h.qubits) ∙ e ∙ ap (λ (m : ℕ). entries_from label m 0 w.amps ++ s) k.qubits) in
      let z : v.qubits ≡ w.qubits = h.qubits ∙ sym k.qubits in
      let amps : v.amps ≡ w.amps = both.0 in
      let same : v ≡ w = λ i. record { qubits = z i; amps = amps i } in
      (same, both.1)

-- ---- bits and a vector

line_read : (label : List ℕ) (xs ys : List Bool) (r s : List ℕ) → bits_line label xs ++ r ≡ bits_line label ys ++ s → (xs ≡ ys) × (r ≡ s)
unfolding bits_line
line_read label xs ys r s e = bits_read xs ys r s (behind_same label (bits_text xs ++ newline) (bits_text ys ++ newline) r s e)

state_read : (front label : List ℕ) (n : ℕ) (xs ys : List Bool) (v w : StateVector) (r s : List ℕ) → IsOn n v → IsOn n w → Ends label n r → Ends label n s
    → state_text front label xs v ++ r ≡ state_text front label ys w ++ s → (xs ≡ ys) × (v ≡ w) × (r ≡ s)
unfolding state_text
state_read front label n xs ys v w r s h k rends sends e =
    let line = line_read front xs ys (entries_text label v ++ r) (entries_text label w ++ s)
    (sym (append_assoc (bits_line front xs) (entries_text label v) r) ∙ e ∙ append_assoc (bits_line front ys) (entries_text label w) s) in
    let vector = vector_read label n v w r s h k rends sends line.1 in
    (line.0, vector.0, vector.1)

-- ---- a refutation

-- what doesn't begin with a blank
abbrev IsHead : List ℕ → Type 0
IsHead r = (t : List ℕ) → r ≡ 32 ∷ t → ⊥

head_ends : (n : ℕ) (r : List ℕ) → IsHead r → Ends (codes "  end ") n r
head_ends n r h t e = h _ e

ending_ends : (n : ℕ) (x : Refutation) (r : List ℕ) → Ends (codes "  state ") n (ending_text x ++ r)
unfolding ending_text bits_line
ending_ends n x r t e = let z : 111 ≡ 115 = ap (λ (l : List ℕ). get_or l 2 0) e in omega (arith, z)

ending_read : (n : ℕ) (x y : Refutation) (r s : List ℕ) → IsOn n x.end → IsOn n y.end → IsHead r → IsHead s → ending_text x ++ r ≡ ending_text y ++ s
    → (x.outcomes ≡ y.outcomes) × (x.end_bits ≡ y.end_bits) × (x.end ≡ y.end) × (r ≡ s)
unfolding ending_text
ending_read n x y r s h k rhead shead e =
    let xend : List ℕ = state_text (codes "  end bits ") (codes "  end ") x.end_bits x.end in
    let yend : List ℕ = state_text (codes "  end bits ") (codes "  end ") y.end_bits y.end in
    let outcomes = line_read (codes "  outcomes ") x.outcomes y.outcomes (xend ++ r) (yend ++ s)
    (sym (append_assoc (bits_line (codes "  outcomes ") x.outcomes) xend r) ∙ e ∙ append_assoc (bits_line (codes "  outcomes ") y.outcomes) yend s) in
    let state = state_read (codes "  end bits ") (codes "  end ") n x.end_bits y.end_bits x.end y.end r s h k (head_ends n r rhead) (head_ends n s shead) outcomes.1 in
    (outcomes.0, state.0, state.1, state.2)

refutation_read : (n : ℕ) (x y : Refutation) (r s : List ℕ) → IsOn n x.state × IsOn n x.end → IsOn n y.state × IsOn n y.end → IsHead r → IsHead s → refutation_text x ++ r ≡ refutation_text y ++ s → (x ≡ y) × (r ≡ s)
unfolding refutation_text
refutation_read n x y r s h k rhead shead e =
    let xstart : List ℕ = state_text (codes "  bits ") (codes "  state ") x.bits x.state in
    let ystart : List ℕ = state_text (codes "  bits ") (codes "  state ") y.bits y.state in
    let start = state_read (codes "  bits ") (codes "  state ") n x.bits y.bits x.state y.state (ending_text x ++ r) (ending_text y ++ s) h.0 k.0 (ending_ends n x r) (ending_ends n y s)
    (sym (append_assoc xstart (ending_text x) r) ∙ e ∙ append_assoc ystart (ending_text y) s) in
    let ending = ending_read n x y r s h.1 k.1 rhead shead start.2 in
    let bits : x.bits ≡ y.bits = start.0 in
    let state : x.state ≡ y.state = start.1 in
    let outcomes : x.outcomes ≡ y.outcomes = ending.0 in
    let end_bits : x.end_bits ≡ y.end_bits = ending.1 in
    let end : x.end ≡ y.end = ending.2 in
    let same : x ≡ y = λ i. record { bits = bits i; state = state i; outcomes = outcomes i; end_bits = end_bits i; end = end i } in
    (same, ending.3)

-- ---- a verdict

first_differs : (x y : ℕ) (r s : List ℕ) → (x ≡ y → ⊥) → x ∷ r ≡ y ∷ s → ⊥
first_differs x y r s h e = h (ap (λ (l : List ℕ). get_or l 0 0) e)

why_read : (w z : Why) (r s : List ℕ) → (why_text w ++ newline) ++ r ≡ (why_text z ++ newline) ++ s → (w ≡ z) × (r ≡ s)
why_read why.Width why.Width r s e = (refl, append_cancel_left (codes "width" ++ newline) r s e)
why_read why.Steps why.Steps r s e = (refl, append_cancel_left (codes "steps" ++ newline) r s e)
why_read why.Memory why.Memory r s e = (refl, append_cancel_left (codes "memory" ++ newline) r s e)
why_read why.Width why.Steps r s e = absurd (first_differs 119 115 _ _ (λ z. omega (arith, z)) e)
why_read why.Width why.Memory r s e = absurd (first_differs 119 109 _ _ (λ z. omega (arith, z)) e)
why_read why.Steps why.Width r s e = absurd (first_differs 115 119 _ _ (λ z. omega (arith, z)) e)
why_read why.Steps why.Memory r s e = absurd (first_differs 115 109 _ _ (λ z. omega (arith, z)) e)
why_read why.Memory why.Width r s e = absurd (first_differs 109 119 _ _ (λ z. omega (arith, z)) e)
why_read why.Memory why.Steps r s e = absurd (first_differs 109 115 _ _ (λ z. omega (arith, z)) e)

outcome_read : (n : ℕ) (v w : Verdict) (r s : List ℕ) → IsVerdictOn n v → IsVerdictOn n w → IsHead r → IsHead s → outcome_text v ++ r ≡ outcome_text w ++ s → (v ≡ w) × (r ≡ s)
unfolding refuted_line
outcome_read n verdict.Verified verdict.Verified r s h k rhead shead e = (refl, append_cancel_left (codes "verified" ++ newline) r s e)
outcome_read n (verdict.GaveUp w) (verdict.GaveUp z) r s h k rhead shead e =
    let both = why_read w z r s (behind_same (codes "gave up ") (why_text w ++ newline) (why_text z ++ newline) r s e) in
    (ap verdict.GaveUp both.0, both.1)
outcome_read n (verdict.Refuted x) (verdict.Refuted y) r s h k rhead shead e =
    let both = refutation_read n x y r s h k rhead shead (behind_same refuted_line (refutation_text x) (refutation_text y) r s e) in
    (ap verdict.Refuted both.0, both.1)
outcome_read n verdict.Verified (verdict.GaveUp z) r s h k rhead shead e = absurd (first_differs 118 103 _ _ (λ z. omega (arith, z)) e)
outcome_read n verdict.Verified (verdict.Refuted y) r s h k rhead shead e = absurd (first_differs 118 114 _ _ (λ z. omega (arith, z)) e)
outcome_read n (verdict.GaveUp w) verdict.Verified r s h k rhead shead e = absurd (first_differs 103 118 _ _ (λ z. omega (arith, z)) e)
outcome_read n (verdict.GaveUp w) (verdict.Refuted y) r s h k rhead shead e = absurd (first_differs 103 114 _ _ (λ z. omega (arith, z)) e)
outcome_read n (verdict.Refuted x) verdict.Verified r s h k rhead shead e = absurd (first_differs 114 118 _ _ (λ z. omega (arith, z)) e)
outcome_read n (verdict.Refuted x) (verdict.GaveUp z) r s h k rhead shead e = absurd (first_differs 114 103 _ _ (λ z. omega (arith, z)) e)

-- ---- the lines

number_heads : (number : ℕ) (r : List ℕ) → IsHead (decimal number ++ r)
number_heads number r t e =
    let made = decimal_made number in
    let low = (subst (IsFrom 48) made.2 (decimal_from number)).0 in
    let z : made.0 ≡ 32 = ap (λ (l : List ℕ). get_or l 0 0) (ap (λ (l : List ℕ). l ++ r) (sym made.2) ∙ e) in
    omega (arith, low, z)

lines_head : (number : ℕ) (os : List Obligation) (vs : List Verdict) (c : List ℕ) → IsHead c → IsHead (lines_from number os vs ++ c)
lines_head number [] vs c h = h
lines_head number (o ∷ os) [] c h = h
lines_head number (o ∷ os) (v ∷ vs) c h = λ t e.
    let head = kind_text o.goal.kind o.goal.line in
    let rest = lines_from (number + 1) os vs in
    number_heads number (head ++ (outcome_text v ++ (rest ++ c))) t
    (sym (append_assoc (verdict_text number o.goal v) rest c ∙ append_assoc (decimal number ++ head) (outcome_text v) (rest ++ c) ∙ append_assoc (decimal number) head (outcome_text v ++ (rest ++ c))) ∙ e)

module _ (n : ℕ) where
  lines_read : (number : ℕ) (os : List Obligation) (vs ws : List Verdict) (c d : List ℕ) → length vs ≡ length os → length ws ≡ length os → All (IsVerdictOn n) vs → All (IsVerdictOn n) ws → IsHead c → IsHead d
      → lines_from number os vs ++ c ≡ lines_from number os ws ++ d → vs ≡ ws
  lines_read number [] [] [] c d vlen wlen h k chead dhead e = refl
  lines_read number [] (v ∷ vs) ws c d vlen wlen h k chead dhead e = absurd (omega (arith, vlen))
  lines_read number [] [] (w ∷ ws) c d vlen wlen h k chead dhead e = absurd (omega (arith, wlen))
  lines_read number (o ∷ os) [] ws c d vlen wlen h k chead dhead e = absurd (omega (arith, vlen))
  lines_read number (o ∷ os) (v ∷ vs) [] c d vlen wlen h k chead dhead e = absurd (omega (arith, wlen))
  lines_read number (o ∷ os) (v ∷ vs) (w ∷ ws) c d vlen wlen h k chead dhead e =
      let head : List ℕ = decimal number ++ kind_text o.goal.kind o.goal.line in
      let x = lines_from (number + 1) os vs in
      let y = lines_from (number + 1) os ws in
      let first = outcome_read n v w (x ++ c) (y ++ d) (All-head (IsVerdictOn n) v vs h) (All-head (IsVerdictOn n) w ws k) (lines_head (number + 1) os vs c chead) (lines_head (number + 1) os ws d dhead)
      (behind_same head (outcome_text v) (outcome_text w) (x ++ c) (y ++ d)
      (sym (append_assoc (verdict_text number o.goal v) x c) ∙ e ∙ append_assoc (verdict_text number o.goal w) y d)) in
      let rest = lines_read (number + 1) os vs ws c d (omega (arith, vlen)) (omega (arith, wlen)) (All-tail (IsVerdictOn n) v vs h) (All-tail (IsVerdictOn n) w ws k) chead dhead first.1 in
      ap₂ (λ (u : Verdict) (us : List Verdict). u ∷ us) first.0 rest

counts_head : (vs : List Verdict) → IsHead (counts_text vs)
counts_head vs t e = first_differs 118 32 _ t (λ z. omega (arith, z)) e

pub one_report : (n : ℕ) (os : List Obligation) (vs ws : List Verdict) → length vs ≡ length os → length ws ≡ length os → All (IsVerdictOn n) vs → All (IsVerdictOn n) ws → report os vs ≡ report os ws → vs ≡ ws
one_report n os vs ws vlen wlen h k e = lines_read n 1 os vs ws (counts_text vs) (counts_text ws) vlen wlen h k (counts_head vs) (counts_head ws) e
