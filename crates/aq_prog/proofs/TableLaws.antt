-- The entries of the gates by name keep their bounds.
use Rattle.std.proofs.Common.{◌≡◌, ℕ, zero, suc, ◌-◌, ◌%◌, ◌<◌, Bool, true, false, cond, List, [], ◌∷◌, Option, Some, None, IfSome, ℤ, pos, negsuc, eqb, sym, subst, arith}
use Rattle.std.specs.Prelude.{int_div}
use Rattle.std.specs.Option.{option_or}
use Rattle.std.specs.Str.{bytes_eq}
use Rattle.aq_prog.specs.declared.gate.Entry.{Entry}
use Rattle.aq_prog.specs.declared.gate.Entry.TheVariants as entry
use Rattle.aq_prog.specs.declared.table.Rows.{Rows}
use Rattle.aq_prog.specs.Gates.{IsEntry, AreEntries}
use Rattle.aq_prog.specs.Table.{NamedGate, w, w_over_root, nil, fixed_gates, phase_gates, rotation_gates, cosine, sine, entry_turned, gate_among, rest_by, rows_named}

pub four : (a b c d : Entry) → IsEntry a → IsEntry b → IsEntry c → IsEntry d → AreEntries ((a ∷ b ∷ []) ∷ (c ∷ d ∷ []) ∷ [])
four a b c d p q r s zero zero = p
four a b c d p q r s zero (suc zero) = q
four a b c d p q r s zero (suc (suc column)) = tt
four a b c d p q r s (suc zero) zero = r
four a b c d p q r s (suc zero) (suc zero) = s
four a b c d p q r s (suc zero) (suc (suc column)) = tt
four a b c d p q r s (suc (suc row)) column = tt

abbrev AllEntries : List NamedGate → Type 0
AllEntries [] = Unit {0}
AllEntries (x ∷ xs) = AreEntries x.gate.rows × AllEntries xs

among : (xs : List NamedGate) (name : List ℕ) → AllEntries xs → IfSome (gate_among xs name) (λ (g : Rows). AreEntries g.rows)
among [] name h = tt
among (x ∷ xs) name h = elim (bytes_eq x.name name) as (λ b. IfSome (cond b (Some x.gate) (gate_among xs name)) (λ (g : Rows). AreEntries g.rows)) [ true ↦ h.0 | false ↦ among xs name h.1 ]

turn_fits : (j : ℕ) → j < 8 → IsEntry (w j)
turn_fits j h = (h, omega arith)

root_fits : (j : ℕ) → j < 8 → IsEntry (w_over_root j)
root_fits j h = (h, omega arith)

diagonal : (j k : ℕ) → j < 8 → k < 8 → AreEntries ((w j ∷ nil ∷ []) ∷ (nil ∷ w k ∷ []) ∷ [])
diagonal j k h i = four (w j) nil nil (w k) (turn_fits j h) tt tt (turn_fits k i)

across : (j k : ℕ) → j < 8 → k < 8 → AreEntries ((nil ∷ w j ∷ []) ∷ (w k ∷ nil ∷ []) ∷ [])
across j k h i = four nil (w j) (w k) nil tt (turn_fits j h) (turn_fits k i) tt

roots : (i j k l : ℕ) → i < 8 → j < 8 → k < 8 → l < 8 → AreEntries ((w_over_root i ∷ w_over_root j ∷ []) ∷ (w_over_root k ∷ w_over_root l ∷ []) ∷ [])
roots i j k l p q r s = four (w_over_root i) (w_over_root j) (w_over_root k) (w_over_root l) (root_fits i p) (root_fits j q) (root_fits k r) (root_fits l s)

pub fixed-entries : (name : List ℕ) → IfSome (gate_among fixed_gates name) (λ (g : Rows). AreEntries g.rows)
fixed-entries name =
    let x = across 0 0 (omega arith) (omega arith) in
    let y = across 6 2 (omega arith) (omega arith) in
    let z = diagonal 0 4 (omega arith) (omega arith) in
    let h = roots 0 0 0 4 (omega arith) (omega arith) (omega arith) (omega arith) in
    among fixed_gates name (
      diagonal 0 0 (omega arith) (omega arith),
      (
        x,
        (
          x,
          (
            x,
            (
              x,
              (
                y,
                (
                  y,
                  (
                    z,
                    (
                      z,
                      (
                        h,
                        (
                          h,
                          (
                            diagonal 0 2 (omega arith) (omega arith),
                            (
                              diagonal 0 6 (omega arith) (omega arith),
                              (
                                diagonal 0 1 (omega arith) (omega arith),
                                (
                                  diagonal 0 7 (omega arith) (omega arith),
                                  (roots 1 7 7 1 (omega arith) (omega arith) (omega arith) (omega arith), tt),
                                ),
                              ),
                            ),
                          ),
                        ),
                      ),
                    ),
                  ),
                ),
              ),
            ),
          ),
        ),
      ),
    )

pub phase-entries : (r : ℕ) (name : List ℕ) → r < 8 → IfSome (gate_among (phase_gates r) name) (λ (g : Rows). AreEntries g.rows)
phase-entries r name h = among (phase_gates r) name (diagonal 0 r (omega arith) h, (diagonal 0 r (omega arith) h, tt))

pub cosine-entry : (f : ℕ) → IsEntry (cosine f)
cosine-entry zero = turn_fits 0 (omega arith)
cosine-entry (suc zero) = root_fits 0 (omega arith)
cosine-entry (suc (suc zero)) = tt
cosine-entry (suc (suc (suc zero))) = root_fits 4 (omega arith)
cosine-entry (suc (suc (suc (suc zero)))) = turn_fits 4 (omega arith)
cosine-entry (suc (suc (suc (suc (suc zero))))) = root_fits 4 (omega arith)
cosine-entry (suc (suc (suc (suc (suc (suc zero)))))) = tt
cosine-entry (suc (suc (suc (suc (suc (suc (suc zero))))))) = root_fits 0 (omega arith)
cosine-entry (suc (suc (suc (suc (suc (suc (suc (suc f)))))))) = tt

pub sine-entry : (f : ℕ) → IsEntry (sine f)
sine-entry zero = tt
sine-entry (suc zero) = root_fits 0 (omega arith)
sine-entry (suc (suc zero)) = turn_fits 0 (omega arith)
sine-entry (suc (suc (suc zero))) = root_fits 0 (omega arith)
sine-entry (suc (suc (suc (suc zero)))) = tt
sine-entry (suc (suc (suc (suc (suc zero))))) = root_fits 4 (omega arith)
sine-entry (suc (suc (suc (suc (suc (suc zero)))))) = turn_fits 4 (omega arith)
sine-entry (suc (suc (suc (suc (suc (suc (suc zero))))))) = root_fits 4 (omega arith)
sine-entry (suc (suc (suc (suc (suc (suc (suc (suc f)))))))) = tt

pub turned-entry : (k : ℕ) (e : Entry) → IsEntry e → IsEntry (entry_turned k e)
turned-entry k entry.Zero h = tt
turned-entry k (entry.Unit j e) h = (omega arith, h.1)

pub rotation-entries : (f : ℕ) (name : List ℕ) → f < 8 → IfSome (gate_among (rotation_gates f) name) (λ (g : Rows). AreEntries g.rows)
rotation-entries f name h =
    let c = cosine-entry f in
    let s = sine-entry f in
    among (rotation_gates f) name (
      diagonal ((8 - f) % 8) f (omega arith) h,
      (
        four (cosine f) (entry_turned 6 (sine f)) (entry_turned 6 (sine f)) (cosine f) c (turned-entry 6 (sine f) s) (turned-entry 6 (sine f) s) c,
        (four (cosine f) (entry_turned 4 (sine f)) (sine f) (cosine f) c (turned-entry 4 (sine f) s) s c, tt),
      ),
    )

either : (p q : Option Rows) → IfSome p (λ (g : Rows). AreEntries g.rows) → IfSome q (λ (g : Rows). AreEntries g.rows) → IfSome (option_or p q) (λ (g : Rows). AreEntries g.rows)
either None q h k = k
either (Some r) q h k = h

where_even : (b : Bool) (p : Option Rows) → IfSome p (λ (g : Rows). AreEntries g.rows) → IfSome (cond b p None) (λ (g : Rows). AreEntries g.rows)
where_even true p h = h
where_even false p h = tt

rest_below : (m : ℕ) (z : ℤ) → 0 < m → rest_by m z < m
rest_below m (pos a) h = omega arith
rest_below m (negsuc a) h = omega arith

pub rows_named-entries : (name : List ℕ) (eighths : ℤ) → IfSome (rows_named name eighths) (λ (g : Rows). AreEntries g.rows)
rows_named-entries name e =
    either (gate_among fixed_gates name) _ (fixed-entries name)
    (either (gate_among (phase_gates (rest_by 8 e)) name) _ (phase-entries (rest_by 8 e) name (rest_below 8 e (omega arith)))
    (where_even (eqb (rest_by 2 e) 0) (gate_among (rotation_gates (rest_by 8 (int_div e (pos 2)))) name) (rotation-entries _ name (rest_below 8 _ (omega arith)))))

pub named_entries : (r : Option Rows) (name : List ℕ) (eighths : ℤ) → r ≡ rows_named name eighths → IfSome r (λ (g : Rows). AreEntries g.rows)
named_entries r name e same = subst (λ (o : Option Rows). IfSome o (λ (g : Rows). AreEntries g.rows)) (sym same) (rows_named-entries name e)
