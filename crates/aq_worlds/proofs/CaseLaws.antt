-- The worlds of a case, from its start to its end.
use Rattle.std.proofs.Common.{◌≡◌, ℕ, ◌==◌, List, [], ◌∷◌, ◌++◌, ◌||◌, map, filter, Contains, refl, ap, ◌∙◌, subst}
use Rattle.std.specs.List.{flat_map, list_any}
use Rattle.std.proofs.lemmas.List.Concat.{flat_map-append}
use Rattle.std.proofs.lemmas.List.Elements.{filter-append}
use Rattle.aq_prog.specs.Cuts.{AreUncut}
use Rattle.aq_prog.specs.declared.program.Program.{Program}
use Rattle.aq_prog.specs.declared.stmt.Stmt.{Stmt}
use Rattle.aq_sets.specs.declared.sets.Sets.{Sets}
use Rattle.aq_obligations.specs.Asking.{case_of, cases_of, meaning_of}
use Rattle.aq_obligations.specs.Claims.{ClaimCase}
use Rattle.aq_obligations.specs.Covering.{meets_of}
use Rattle.aq_obligations.specs.Wide.{WideGate}
use Rattle.aq_obligations.specs.Worlds.{World, Spread, in_worlds, mentioned, mentions, split, start_worlds}
use Rattle.aq_obligations.specs.declared.bound.BoundCase.{BoundCase}
use Rattle.aq_obligations.specs.declared.bound.Obligation.{Obligation}
use Rattle.aq_prog.specs.Digits.{tabulate}
use Rattle.aq_correct.specs.WorldLaws.{WorldsMeetGates, is_alive, start_of, worlds_of}
use Rattle.aq_correct.proofs.NoughtLaws.{nought_worlds}
use Rattle.aq_worlds.specs.Playing.{AreUnfit, Gives, Leaves, lives, spread_of, world_of}
use Rattle.aq_worlds.specs.Starting.{Decides, asked_bits, is_asked}
use Rattle.aq_worlds.specs.declared.world.PlainWorld.{PlainWorld}
use Rattle.aq_worlds.proofs.SpreadLaws.{contains_flat, flat_contains, gives_alive, gives_same}
use Rattle.aq_worlds.proofs.CallLaws.{contains_map}

-- ---- the bits that the goal asks for

any_asks : (s : Sets) (bit : ℕ) (cases : List BoundCase) → is_asked cases bit ≡ list_any (mentions bit) (cases_of s cases)
any_asks s bit [] = refl
any_asks s bit (c ∷ cases) = ap (λ b. list_any (λ g. g.bit == bit) c.when || b) (any_asks s bit cases)

asked_are : (p : Program) (s : Sets) (o : Obligation) → asked_bits o.goal.cases p.bits ≡ mentioned (meaning_of p s o)
asked_are p s o = λ i. filter (λ bit. any_asks s bit o.goal.cases i) (tabulate p.bits (λ bit. bit))

-- ---- from the start to the end

from_each : (A B : Spread) (ws : List World) → filter is_alive (flat_map A (flat_map B ws)) ≡ flat_map (λ w. filter is_alive (flat_map A (B w))) ws
from_each A B [] = refl
from_each A B (w ∷ ws) =
    ap (filter is_alive) (flat_map-append A (B w) (flat_map B ws)) ∙ filter-append is_alive (flat_map A (B w)) (flat_map A (flat_map B ws))
    ∙ ap (λ (l : List World). filter is_alive (flat_map A (B w)) ++ l) (from_each A B ws)

-- the worlds that are left at the end are those of the start, played and decided
end_given : (n m : ℕ) (c : ClaimCase) (body : List Stmt) (asked : List ℕ) (from : List World) (first ends decided list : List PlainWorld) → Gives n m c first from → Leaves (spread_of body) first ends
    → Decides asked ends decided → list ≡ filter lives decided → Gives n m c list (filter is_alive (flat_map (in_worlds (map split asked)) (flat_map (spread_of body n) from)))
end_given n m c body asked from first ends decided list g l d e =
    let a = l n m c g.sized in
    let b = d n m c a.sized in
    gives_same n m c list (filter lives decided) _ _ e
    (ap (λ (ws : List World). filter is_alive (flat_map (in_worlds (map split asked)) ws)) a.worlds ∙ nought_worlds.dropped_at_end asked (flat_map (spread_of body n) (map (world_of c) first))
    ∙ ap (λ (ws : List World). filter is_alive (flat_map (in_worlds (map split asked)) (flat_map (spread_of body n) ws))) g.worlds)
    (gives_alive n m c decided _ b)

pub case_given : (p : Program) (s : Sets) (o : Obligation) (b : BoundCase) (first ends decided list : List PlainWorld)
    → Gives p.qubits p.bits (case_of s b) first (start_of (meaning_of p s o) (case_of s b)) → Leaves (spread_of o.fragment) first ends → Decides (asked_bits o.goal.cases p.bits) ends decided
    → list ≡ filter lives decided → Gives p.qubits p.bits (case_of s b) list (worlds_of (meaning_of p s o) (case_of s b))
case_given p s o b first ends decided list g l d e =
    let m = meaning_of p s o in
    let c = case_of s b in
    let asked : asked_bits o.goal.cases p.bits ≡ mentioned m = asked_are p s o in
    gives_same p.qubits p.bits c list list _ _ refl
    (ap (λ (bits : List ℕ). filter is_alive (flat_map (in_worlds (map split bits)) (flat_map (spread_of o.fragment p.qubits) (start_of m c)))) asked
    ∙ from_each (in_worlds (map split (mentioned m))) (spread_of o.fragment p.qubits) (start_of m c))
    (end_given p.qubits p.bits c o.fragment (asked_bits o.goal.cases p.bits) (start_of m c) first ends decided list g l d e)

-- ---- a gate that doesn't fit

pub case_unfit : (p : Program) (s : Sets) (o : Obligation) (b : BoundCase) (first : List PlainWorld) → WorldsMeetGates → AreUncut o.fragment → Contains o.from b
    → Gives p.qubits p.bits (case_of s b) first (start_of (meaning_of p s o) (case_of s b)) → AreUnfit (λ n. meets_of n o.fragment) first → WideGate (meaning_of p s o)
case_unfit p s o b first law uncut there g u =
    let m = meaning_of p s o in
    let c = case_of s b in
    let h = u p.qubits p.bits c g.sized in
    let of_start : Contains (flat_map (meets_of p.qubits o.fragment) (start_of m c)) h.met
    = subst (λ (ws : List World). Contains (flat_map (meets_of p.qubits o.fragment) ws) h.met) g.worlds h.is_met in
    let from = contains_flat (meets_of p.qubits o.fragment) (start_of m c) h.met of_start in
    let started : Contains (start_worlds m) from.0 = flat_contains (λ d. start_of m d) m.assumed c from.0 (contains_map (case_of s) o.from b there) from.1 in
    law.wide_gate m h.met h.vector uncut (flat_contains (meets_of p.qubits o.fragment) (start_worlds m) from.0 h.met started from.2) h.there h.wide
