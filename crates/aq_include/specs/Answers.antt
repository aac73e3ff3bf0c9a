-- What the search answers.
use Rattle.std.specs.Prelude.{◌≡◌, ◌≤◌, ℕ, ◌+◌, ◌*◌, ◌^◌, List, [], ◌∷◌, length, sum_by, slice_get, Some, Contains}
use Rattle.aq_ring.specs.Fractions.{Amplitude}
use Rattle.aq_ring.specs.Amplitudes.{FitsAmplitudeProduct}
use Rattle.aq_store.specs.declared.node.Node.{Node}
use Rattle.aq_store.specs.declared.lsta.Lsta.{Lsta}
use Rattle.aq_store.specs.Count.{Count}
use Rattle.aq_cert.specs.declared.cert.Rel.{Rel}
use Rattle.aq_cert.specs.declared.cert.Macro.{Macro}
use Rattle.aq_cert.specs.declared.cert.Cert.{Cert}
use Rattle.aq_include.specs.Costs.{size}
use Rattle.aq_cert.specs.Meaning.{amplitudes, Included, IsLeastEscape}
use Rattle.aq_cert.specs.Valid.{IsValid}
use Rattle.aq_include.specs.declared.table.Table.{Table}
use Rattle.aq_store.specs.declared.store.Stop.{Stop}
use Rattle.aq_store.specs.declared.store.Stop.TheVariants as stop
use Rattle.aq_include.specs.declared.inclusion.Answer.{Answer}
use Rattle.aq_include.specs.declared.inclusion.Answer.TheVariants as answer
use Rattle.aq_store.specs.Words.{words}
use Rattle.aq_include.specs.Search.{IsEven}
use Rattle.aq_cert.specs.Rows.{row_length}

-- a table without macros
pub record IsFresh (n : ℕ) (t : Table) : Type 0 where
  pub even : IsEven n t
  pub none : (k : ℕ) → row_length t.macros.items k ≡ 0

-- the relation of a goal's root with the left's
pub record IsRootRel (root : ℕ) (goals : List Lsta) (k : ℕ) (rel : Rel) : Type 0 where
  pub goal : Lsta
  pub listed : slice_get goals k ≡ Some goal
  pub number : rel.goal ≡ k
  pub pairs : rel.pairs ≡ (root, goal.root) ∷ []

-- the words of all goals
abbrev pub goal_words : List Lsta → ℕ
goal_words goals = sum_by (λ (goal : Lsta). words goal.shape.items) goals

-- what the whole search takes at most
abbrev pub search_budget : Lsta → List Lsta → ℕ
search_budget left goals = 2 * (words left.shape.items * (1 + goal_words goals) * 2 ^ length left.shape.items)

-- how many domain members and pairs the macros of a certificate have
abbrev pub cert_size : Cert → ℕ
cert_size cert = sum_by (λ (row : List Macro). sum_by size row) cert.macros

-- a certificate is no larger than the steps allow that were taken for it
abbrev pub IsPaid : List Lsta → Count → Count → Answer → Type 0
IsPaid goals before now (answer.Included cert) = cert_size cert + 2 * before.taken ≤ 2 * now.taken + 1 + length goals
IsPaid goals before now (answer.Escapes word) = Unit {0}

module _ {L : Type 0} (parts : L → List Amplitude) (table : List (Node L)) where
  -- a product of an entry of a left word's vector and one of a goal word's vector doesn't fit
  pub record IsWideInclusion (left : Lsta) (goals : List Lsta) (l r : Amplitude) : Type 0 where
    pub number : ℕ
    pub goal : Lsta
    pub listed : slice_get goals number ≡ Some goal
    pub word : List ℕ
    pub other : List ℕ
    pub left_entry : Contains (amplitudes parts table word left.root) l
    pub right_entry : Contains (amplitudes parts table other goal.root) r
    pub unfit : ¬ (FitsAmplitudeProduct l r)

  abbrev pub Answers : Lsta → List Lsta → Answer → Type 0
  Answers left goals (answer.Included cert) = IsValid parts table left goals cert × Included parts table left goals
  Answers left goals (answer.Escapes word) = IsLeastEscape parts table left goals word

  abbrev pub StopsFor : Lsta → List Lsta → Stop L → Type 0
  StopsFor left goals stop.Spent = Unit {0}
  StopsFor left goals (stop.Wide l r) = ⊥
  StopsFor left goals (stop.WideParts l r) = IsWideInclusion left goals l r
  StopsFor left goals stop.Memory = Unit {0}
