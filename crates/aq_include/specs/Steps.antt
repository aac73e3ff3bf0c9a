-- The macro under a choice.
use Rattle.std.specs.Prelude.{◌≡◌, ◌⊎◌, ℕ, ◌<◌, List, [], ◌∷◌, length, slice_get, Option, None, Some, Contains, flat_map}
use Rattle.aq_ring.specs.Fractions.{Amplitude}
use Rattle.aq_store.specs.declared.node.Node.{Node}
use Rattle.aq_store.specs.Nodes.{pairs_at}
use Rattle.aq_store.specs.Words.{IsWord}
use Rattle.aq_cert.specs.declared.cert.Rel.{Rel}
use Rattle.aq_cert.specs.declared.cert.Macro.{Macro}
use Rattle.aq_cert.specs.Macros.{IsRelated}
use Rattle.aq_cert.specs.Held.{IsHeldBy}
use Rattle.aq_include.specs.declared.places.Opened.{Opened}

-- both places of a pair
abbrev pub both : Option (ℕ × ℕ) → List ℕ
both None = []
both (Some p) = p.0 ∷ p.1 ∷ []

-- the pair of left places and the pair of right places
abbrev pub across : Option (ℕ × ℕ) → Option (ℕ × ℕ) → List (ℕ × ℕ)
across None r = []
across (Some l) None = []
across (Some l) (Some r) = (l.0, r.0) ∷ (l.1, r.1) ∷ []

module _ {L : Type 0} (table : List (Node L)) where
  -- the children of places under a choice, with repeats
  abbrev pub children_of : ℕ → List ℕ → List ℕ
  children_of c xs = flat_map (λ x. both (slice_get (pairs_at table x) c)) xs

  -- the children of pairs under a choice of the left and one of the goal, with repeats
  abbrev pub pair_children_of : ℕ → ℕ → List (ℕ × ℕ) → List (ℕ × ℕ)
  pair_children_of c d ps = flat_map (λ p. across (slice_get (pairs_at table p.0) c) (slice_get (pairs_at table p.1) d)) ps

  -- y is a child of one of the places under choice c
  pub record IsChild (c : ℕ) (xs : List ℕ) (y : ℕ) : Type 0 where
    pub parent : ℕ
    pub pair : ℕ × ℕ
    pub listed : Contains xs parent
    pub here : slice_get (pairs_at table parent) c ≡ Some pair
    pub is : (y ≡ pair.0) ⊎ (y ≡ pair.1)

  -- q is a pair of children of one of the pairs
  pub record IsPairChild (c d : ℕ) (ps : List (ℕ × ℕ)) (q : ℕ × ℕ) : Type 0 where
    pub parent : ℕ × ℕ
    pub left : ℕ × ℕ
    pub right : ℕ × ℕ
    pub listed : Contains ps parent
    pub left_here : slice_get (pairs_at table parent.0) c ≡ Some left
    pub right_here : slice_get (pairs_at table parent.1) d ≡ Some right
    pub is : (q ≡ (left.0, right.0)) ⊎ (q ≡ (left.1, right.1))

  -- the relation has only pairs of children
  pub record IsOnly (c : ℕ) (rel : Rel) (d : ℕ) (to : Rel) : Type 0 where
    pub same_goal : to.goal ≡ rel.goal
    pub only : (q : ℕ × ℕ) → Contains to.pairs q → IsPairChild c d rel.pairs q

  -- the relation comes from one of these and a choice of its goal
  pub record ComesFrom (c : ℕ) (rels : List Rel) (to : Rel) : Type 0 where
    pub number : ℕ
    pub rel : Rel
    pub choice : ℕ
    pub here : slice_get rels number ≡ Some rel
    pub is : IsOnly c rel choice to

  -- the macro has only children of the other's places and pairs
  pub record IsBack (c : ℕ) (m to : Macro) : Type 0 where
    pub domain : (y : ℕ) → Contains to.domain y → IsChild c m.domain y
    -- each relation comes from one
    pub sources : (j : ℕ) (t : Rel) → slice_get to.rels j ≡ Some t → ComesFrom c m.rels t

  -- the left children of the pair were read
  pub record IsOpened (c : ℕ) (p : ℕ × ℕ) (o : Opened) : Type 0 where
    pub left : slice_get (pairs_at table p.0) c ≡ Some (o.first, o.second)
    pub right : o.right ≡ p.1

  -- the children of opened pairs under a choice of the goal, with repeats
  abbrev pub opened_children_of : ℕ → List Opened → List (ℕ × ℕ)
  opened_children_of d os = flat_map (λ (o : Opened). across (Some (o.first, o.second)) (slice_get (pairs_at table o.right) d)) os

  -- the pairs lead to the same two nodes on both sides, under choice c of the left and choice d of the goal
  pub record IsOwn (c d : ℕ) (pairs : List (ℕ × ℕ)) : Type 0 where
    pub some : 0 < length pairs
    pub same : (p : ℕ × ℕ) → Contains pairs p → slice_get (pairs_at table p.0) c ≡ slice_get (pairs_at table p.1) d

module _ {L : Type 0} (parts : L → List Amplitude) (table : List (Node L)) where
  -- Nothing of what the macro says is lost under choice c, where `left` is what is left of the left's shape: what the
  -- children of a relation's pairs relate under a choice of its goal, a relation of the macro under the choice relates.
  pub record Keeps (c : ℕ) (left : List ℕ) (rest below : ℕ → List ℕ) (m to : Macro) : Type 0 where
    pub related : (k : ℕ) (rel : Rel) (d n : ℕ) (later word other : List ℕ) → slice_get m.rels k ≡ Some rel → rest rel.goal ≡ n ∷ later → d < n → IsWord left word → IsWord later other
        → IsRelated parts table (pair_children_of table c d rel.pairs) word other → IsHeldBy parts table below to word
