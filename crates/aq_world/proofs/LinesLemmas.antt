-- Texts that are added to a line one after another.
use Rattle.std.proofs.Common.{◌≡◌, ℕ, zero, suc, ◌+◌, ◌-◌, ◌/◌, ◌%◌, ◌^◌, ◌<◌, ◌≤◌, ℤ, pos, negsuc, ◌<ℤ◌, ◌≤ℤ◌, unsigned_abs, Bool, List, [], ◌∷◌, ◌++◌, length, drop, map, get_or, Result, Ok, Err, Some, None, refl, sym, ap, ◌∙◌, append_assoc, add-one, drop-cons, arith, subst}
use Rattle.std.proofs.lemmas.List.{append-nil, drop_all}
use Rattle.std.proofs.Math.Nat.{pow-le-pow_right, div-eq_of_lt}
use Rattle.std.specs.Fmt.{decimal, signed_decimal}
use Rattle.std.specs.Int.{bit_at}
use Rattle.std.proofs.lemmas.Int.{ints}
use Rattle.aq_world.specs.Prints.{IsPrefixOf, Prints}
use Rattle.aq_world.specs.Lines.{Added, Stopped, Adds}
use Rattle.aq_world.specs.Sinks.{SinkMeaning, no_calls}
use Rattle.aq_world.specs.Pieces.{bit_digit, binary_digits, piece_text, pieces_text}
use Rattle.aq_world.specs.declared.pieces.Piece.{Piece}
use Rattle.aq_world.specs.declared.sink.SinkFault.{SinkFault}
use Rattle.aq_world.proofs.PrintsLemmas.{Appends-none, Appends-then, Calls-then, IsPrefixOf-append, IsPrefixOf-after, Rose-later, Prints-then, part-more}

-- a line as it is
pub Added-none : {S : Type 0} (sink : SinkMeaning S) (x : S) (held : List ℕ) → Added sink x x held held []
Added-none sink x held = record { put = []; bytes = Appends-none (sink.told x); parts = sym (append-nil held); calls = no_calls x; later = omega arith }

-- one text, and then another
pub Added-then : {S : Type 0} {sink : SinkMeaning S} {x y z : S} {held kept left a b : List ℕ} → Added sink x y held kept a → Added sink y z kept left b → Added sink x z held left (a ++ b)
Added-then {sink = sink} {x = x} {y = y} {z = z} {held = held} {kept = kept} {left = left} {a = a} {b = b} p q = record {
  put = p.put ++ q.put;
  bytes = Appends-then (sink.told x) (sink.told y) (sink.told z) p.put q.put p.bytes q.bytes;
  parts = append_assoc p.put q.put left ∙ ap (λ t. p.put ++ t) q.parts ∙ sym (append_assoc p.put kept b) ∙ ap (λ t. t ++ b) p.parts ∙ append_assoc held a b;
  calls = Calls-then sink x y z None None p.calls refl q.calls;
  later = omega (arith, p.later, q.later);
}

-- one text, and then a call that stops in another
pub Stopped-then : {S : Type 0} {sink : SinkMeaning S} {x y z : S} {held kept a b : List ℕ} {e : SinkFault} → Added sink x y held kept a → Stopped sink y z kept b e → Stopped sink x z held (a ++ b) e
Stopped-then {sink = sink} {x = x} {y = y} {z = z} {held = held} {kept = kept} {a = a} {b = b} {e = e} p q = record {
  put = p.put ++ q.put;
  bytes = Appends-then (sink.told x) (sink.told y) (sink.told z) p.put q.put p.bytes q.bytes;
  front =
      let P : List ℕ → Type 0 = λ t. IsPrefixOf (p.put ++ q.put) t in
      subst P (sym (append_assoc p.put kept b) ∙ ap (λ t. t ++ b) p.parts ∙ append_assoc held a b) (IsPrefixOf-after p.put q.put (kept ++ b) q.front);
  calls = Calls-then sink x y z None (Some e) p.calls refl q.calls;
  later = omega (arith, p.later, q.later);
  failed = λ h. Rose-later (sink.faults x) (sink.faults y) (sink.faults z) p.later (q.failed h);
}

-- a call that stops in the first of two texts
pub Stopped-more : {S : Type 0} {sink : SinkMeaning S} {x y : S} {held a : List ℕ} {e : SinkFault} (b : List ℕ) → Stopped sink x y held a e → Stopped sink x y held (a ++ b) e
Stopped-more {held = held} {a = a} b p = record {
  put = p.put;
  bytes = p.bytes;
  front =
      let P : List ℕ → Type 0 = λ t. IsPrefixOf p.put t in
      subst P (append_assoc held a b) (IsPrefixOf-append p.put (held ++ a) b p.front);
  calls = p.calls;
  later = p.later;
  failed = p.failed;
}

-- one text, and then what a call does with another
pub Adds-then : {S T : Type 0} {sink : SinkMeaning S} {x y : S} {held kept a : List ℕ} (z : S) (left b : List ℕ) (r : Result T SinkFault) → Added sink x y held kept a → Adds sink y z kept left r b → Adds sink x z held left r (a ++ b)
Adds-then z left b (Ok v) p q = Added-then p q
Adds-then z left b (Err e) p q = Stopped-then p q

-- where the call stops, so does the whole
pub Adds-stops : {S T : Type 0} {sink : SinkMeaning S} {x y : S} {held a : List ℕ} {e : SinkFault} {s : Result T SinkFault} (left : List ℕ) → Stopped sink x y held a e → s ≡ Err e → Adds sink x y held left s a
Adds-stops {T = T} {sink = sink} {x = x} {y = y} {held = held} {a = a} left p h =
    let P : Result T SinkFault → Type 0 = λ t. Adds sink x y held left t a in
    subst P (sym h) p

-- a text that was added to an empty line, and then a call that puts what the line holds
pub Prints-line : {S T : Type 0} {sink : SinkMeaning S} {x y z : S} {kept a : List ℕ} (s : Result T SinkFault) → Added sink x y [] kept a → Prints sink y z s kept → Prints sink x z s a
Prints-line {sink = sink} {x = x} {y = y} {z = z} {kept = kept} {a = a} s p q =
    let ok : Result ℕ SinkFault = Ok 0 in
    let first : Prints sink x y ok p.put = record { bytes = p.bytes; calls = p.calls; later = p.later; failed = tt } in
    let P : List ℕ → Type 0 = λ t. Prints sink x z s t in
    subst P p.parts (Prints-then first refl q)

pub Prints-line_stops : {S T : Type 0} {sink : SinkMeaning S} {x y : S} {a : List ℕ} {e : SinkFault} {s : Result T SinkFault} → Stopped sink x y [] a e → s ≡ Err e → Prints sink x y s a
Prints-line_stops {T = T} {sink = sink} {x = x} {y = y} {a = a} {e = e} p h =
    let err : Result T SinkFault = Err e in
    let stopped : Prints sink x y err a = record { bytes = (p.put, p.front, p.bytes); calls = p.calls; later = p.later; failed = p.failed } in
    let P : Result T SinkFault → Type 0 = λ t. Prints sink x y t a in
    subst P (sym h) stopped

-- a call that stops in the next part stops in the whole
pub part-stops : {S : Type 0} {sink : SinkMeaning S} {x y : S} {held : List ℕ} {e : SinkFault} (done part rest left all : List ℕ) → left ≡ part ++ rest → done ++ left ≡ all → Stopped sink x y held (done ++ part) e → Stopped sink x y held all e
part-stops {sink = sink} {x = x} {y = y} {held = held} {e = e} done part rest left all s h p =
    let P : List ℕ → Type 0 = λ t. Stopped sink x y held t e in
    subst P (part-more done part rest left all s h) (Stopped-more rest p)

-- what is left of bytes, of bits, of digits and of pieces begins with the next
pub bytes-left : (xs : List ℕ) (i : ℕ) → i < length xs → drop i xs ≡ (get_or xs i 0 ∷ []) ++ drop (i + 1) xs
bytes-left xs i h = drop-cons xs i 0 h ∙ rw add-one refl

pub bits-left : (bits : List Bool) (i : ℕ) (d : Bool) (digit : ℕ) → i < length bits → digit ≡ bit_digit (get_or bits i d) → map bit_digit (drop i bits) ≡ (digit ∷ []) ++ map bit_digit (drop (i + 1) bits)
bits-left bits i d digit h e = rw e (ap (map bit_digit) (drop-cons bits i d h) ∙ rw add-one refl)

pub digits-left : (places number digit : ℕ) → 0 < places → digit ≡ 48 + bit_at number (places - 1) → binary_digits places number ≡ (digit ∷ []) ++ binary_digits (places - 1) number
digits-left zero number digit h e = absurd (omega arith)
digits-left (suc places) number digit h e =
    let less : suc places - 1 ≡ places = omega arith in
    rw (e, less) refl

pub pieces-left : (pieces : List Piece) (i : ℕ) (d : Piece) → i < length pieces → pieces_text (drop i pieces) ≡ piece_text (get_or pieces i d) ++ pieces_text (drop (i + 1) pieces)
pieces-left pieces i d h = ap pieces_text (drop-cons pieces i d h) ∙ rw add-one refl

-- a number below 2^64 has no bit at the place 64 or above
pub high_bit : (number place : ℕ) → number < 2 ^ 64 → 64 ≤ place → bit_at number place ≡ 0
high_bit number place h k =
    let wide : 2 ^ 64 ≤ 2 ^ place = pow-le-pow_right (omega arith) k in
    let none : number / 2 ^ place ≡ 0 = div-eq_of_lt (omega arith) in
    ap (λ n. n % 2) none

-- the text of a negative number, and of another
pub negative-text : (number : ℤ) → number <ℤ pos 0 → signed_decimal number ≡ 45 ∷ decimal (unsigned_abs number)
negative-text (pos n) h = absurd (omega (arith, ints))
negative-text (negsuc n) h = refl

pub positive-text : (number : ℤ) → pos 0 ≤ℤ number → signed_decimal number ≡ decimal (unsigned_abs number)
positive-text (pos n) h = refl
positive-text (negsuc n) h = absurd (omega (arith, ints))

-- where no piece is left, all is done
pub pieces-done : (pieces : List Piece) (i : ℕ) (done all : List ℕ) → length pieces ≤ i → done ++ pieces_text (drop i pieces) ≡ all → done ≡ all
pieces-done pieces i done all h e =
    sym (append-nil done) ∙ ap (λ t. done ++ pieces_text t) (sym (drop_all i pieces h)) ∙ e
