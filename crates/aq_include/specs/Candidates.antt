-- The relations under a choice, before repeats are left out.
use Rattle.std.specs.Prelude.{◌≡◌, ◌⊎◌, ℕ, ◌*◌, ◌<◌, ◌≤◌, List, [], ◌∷◌, length, map, sum_by}
use Rattle.std.specs.Prelude.{slice_get, Option, None, Some, Contains}
use Rattle.aq_ring.specs.Fractions.{Amplitude}
use Rattle.aq_store.specs.declared.node.Node.{Node}
use Rattle.aq_store.specs.Nodes.{pairs_at}
use Rattle.aq_cert.specs.declared.cert.Rel.{Rel}
use Rattle.aq_cert.specs.declared.cert.Macro.{Macro}
use Rattle.aq_cert.specs.Macros.{IsOfLevel, IsEdge}
use Rattle.aq_include.specs.declared.step.Candidate.{Candidate}
use Rattle.aq_include.specs.declared.step.Stepped.{Stepped}
use Rattle.aq_include.specs.declared.own.Own.{Own}
use Rattle.aq_include.specs.Steps.{IsChild, IsPairChild, IsOnly, IsOwn, IsBack, Keeps}
use Rattle.aq_include.specs.Costs.{rel_weight, weight}
use Rattle.aq_include.specs.Hopeless.{AreNull, IsHopeless}

-- the relation asks for no more than the other
pub record IsWithin (r s : Rel) : Type 0 where
  pub same_goal : r.goal ≡ s.goal
  pub pairs : (q : ℕ × ℕ) → Contains r.pairs q → Contains s.pairs q

-- some candidate has the relation
pub record HasRel (list : List Candidate) (r : Rel) : Type 0 where
  pub place : ℕ
  pub candidate : Candidate
  pub here : slice_get list place ≡ Some candidate
  pub is : IsWithin candidate.rel r

-- some candidates are left out, for each of which another stays that asks for no more
pub record Thins (all kept : List Candidate) : Type 0 where
  pub from : (j : ℕ) (x : Candidate) → slice_get kept j ≡ Some x → (i : ℕ) × (slice_get all i ≡ Some x)
  pub covers : (i : ℕ) (x : Candidate) → slice_get all i ≡ Some x → (j : ℕ) × (y : Candidate) × (slice_get kept j ≡ Some y) × IsWithin y.rel x.rel
  pub lighter : (f : Candidate → ℕ) → sum_by f kept ≤ sum_by f all

module _ {L : Type 0} (table : List (Node L)) where
  -- the children of the places, as a list
  pub record AreChildren (c : ℕ) (xs ys : List ℕ) : Type 0 where
    pub from : (y : ℕ) → Contains ys y → IsChild table c xs y
    pub all : (x : ℕ) (p : ℕ × ℕ) → Contains xs x → slice_get (pairs_at table x) c ≡ Some p → Contains ys p.0 × Contains ys p.1
    pub short : length ys ≤ 2 * length xs

  -- the children of the pairs, as a list
  pub record ArePairChildren (c d : ℕ) (ps qs : List (ℕ × ℕ)) : Type 0 where
    pub from : (q : ℕ × ℕ) → Contains qs q → IsPairChild table c d ps q
    pub all : (p l r : ℕ × ℕ) → Contains ps p → slice_get (pairs_at table p.0) c ≡ Some l → slice_get (pairs_at table p.1) d ≡ Some r
        → Contains qs (l.0, r.0) × Contains qs (l.1, r.1)
    pub short : length qs ≤ 2 * length ps

  -- the candidate is the relation with this number under a choice of its goal
  pub record IsCandidate (c : ℕ) (rel : Rel) (number count : ℕ) (x : Candidate) : Type 0 where
    pub number_is : x.number ≡ number
    pub same_goal : x.rel.goal ≡ rel.goal
    pub choice : x.choice < count
    pub pairs : ArePairChildren c x.choice rel.pairs x.rel.pairs

  -- the candidate is the relation with this number under this choice of its goal
  pub record IsCandidateAt (c : ℕ) (rel : Rel) (number d : ℕ) (x : Candidate) : Type 0 where
    pub number_is : x.number ≡ number
    pub choice_is : x.choice ≡ d
    pub same_goal : x.rel.goal ≡ rel.goal
    pub pairs : ArePairChildren c d rel.pairs x.rel.pairs

  -- some candidate is the relation under this choice of its goal
  pub record Offers (c : ℕ) (rel : Rel) (d : ℕ) (list : List Candidate) : Type 0 where
    pub place : ℕ
    pub candidate : Candidate
    pub here : slice_get list place ≡ Some candidate
    pub is : IsOnly table c rel d candidate.rel

  -- the candidate is a relation of these under a choice of its goal
  pub record IsStepOfSome (c : ℕ) (rest : ℕ → List ℕ) (rels : List Rel) (x : Candidate) : Type 0 where
    pub rel : Rel
    pub here : slice_get rels x.number ≡ Some rel
    pub choices : ℕ
    pub later : List ℕ
    pub shape : rest rel.goal ≡ choices ∷ later
    pub is : IsCandidate c rel x.number choices x

  -- a relation with this number leads to the same nodes on both sides under this choice of its goal
  pub record IsOwnOf (c : ℕ) (rest : ℕ → List ℕ) (rels : List Rel) (own : Own) : Type 0 where
    pub rel : Rel
    pub here : slice_get rels own.number ≡ Some rel
    pub choices : ℕ
    pub later : List ℕ
    pub shape : rest rel.goal ≡ choices ∷ later
    pub choice : own.choice < choices
    pub same : IsOwn table c own.choice rel.pairs

-- how many pairs the relation has, if there is one
abbrev pub offer_size : Option Candidate → ℕ
offer_size None = 0
offer_size (Some x) = length x.rel.pairs

-- the relations of candidates, with no places
abbrev pub macro_of : List Candidate → Macro
macro_of list = record { domain = []; rels = map (λ (x : Candidate). x.rel) list }

module _ {L : Type 0} (parts : L → List Amplitude) (table : List (Node L)) where
  -- a relation under this choice of its goal; none where it relates no words
  abbrev pub IsOffer : ℕ → Rel → ℕ → ℕ → Option Candidate → Type 0
  IsOffer c rel number d None = IsHopeless parts table c rel d
  IsOffer c rel number d (Some x) = IsCandidateAt table c rel number d x

  -- the candidates of one relation: one for each choice of its goal, but for those that relate no words
  pub record AreOfRel (c : ℕ) (rel : Rel) (number count done : ℕ) (list : List Candidate) : Type 0 where
    pub each : (j : ℕ) (x : Candidate) → slice_get list j ≡ Some x → IsCandidate table c rel number count x
    pub offers : (d : ℕ) → d < done → Offers table c rel d list ⊎ IsHopeless parts table c rel d
    pub light : (f : ℕ → ℕ) → sum_by (λ (x : Candidate). length x.rel.pairs * f x.rel.goal) list ≤ done * (2 * (length rel.pairs * f rel.goal))

  -- the candidates of the relations
  pub record AreOfRels (c : ℕ) (rest : ℕ → List ℕ) (rels : List Rel) (list : List Candidate) : Type 0 where
    pub each : (j : ℕ) (x : Candidate) → slice_get list j ≡ Some x → IsStepOfSome table c rest rels x
    pub offers : (k : ℕ) (rel : Rel) (d n : ℕ) (later : List ℕ) → slice_get rels k ≡ Some rel → rest rel.goal ≡ n ∷ later
        → d < n → Offers table c rel d list ⊎ IsHopeless parts table c rel d

  -- the candidates are relations under choice c, and nothing of what the macro says is lost with them alone
  pub record Suffice (c : ℕ) (rest below : ℕ → List ℕ) (m : Macro) (list : List Candidate) : Type 0 where
    pub each : (j : ℕ) (x : Candidate) → slice_get list j ≡ Some x → IsStepOfSome table c rest m.rels x
    pub keeps : (n : ℕ) (left : List ℕ) → IsOfLevel table (n ∷ left) rest m → c < n → Keeps parts table c left rest below m (macro_of list)
    pub light : sum_by (λ (x : Candidate). rel_weight below x.rel) list ≤ 2 * sum_by (rel_weight rest) m.rels

  -- the candidates are relations under choice c that leads to these places, and each of these is always zero, or nothing
  -- of what the macro says is lost
  pub record AreEnough (c : ℕ) (rest below : ℕ → List ℕ) (m : Macro) (places : List ℕ) (list : List Candidate) : Type 0 where
    pub each : (j : ℕ) (x : Candidate) → slice_get list j ≡ Some x → IsStepOfSome table c rest m.rels x
    pub keeps : (n : ℕ) (left : List ℕ) → IsOfLevel table (n ∷ left) rest m → c < n → AreNull parts table places ⊎ Keeps parts table c left rest below m (macro_of list)
    pub light : sum_by (λ (x : Candidate). rel_weight below x.rel) list ≤ 2 * sum_by (rel_weight rest) m.rels

  -- the macro under a choice, and where its relations come from
  pub record IsStepped (c : ℕ) (rest below : ℕ → List ℕ) (m : Macro) (s : Stepped) : Type 0 where
    pub edge : IsEdge table c rest m s.to s.from
    pub back : IsBack table c m s.to
    pub keeps : (n : ℕ) (left : List ℕ) → IsOfLevel table (n ∷ left) rest m → c < n → AreNull parts table s.to.domain ⊎ Keeps parts table c left rest below m s.to
    pub light : weight below s.to ≤ 2 * weight rest m
