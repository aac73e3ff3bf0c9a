-- Worlds and statements under another name.
use Rattle.std.proofs.Common.{◌≡◌, List, [], ◌∷◌, subst}
use Rattle.aq_prog.specs.declared.stmt.Guard.{Guard}
use Rattle.aq_prog.specs.declared.stmt.Stmt.{Stmt}
use Rattle.aq_obligations.specs.Covering.{meets_of}
use Rattle.aq_worlds.specs.Playing.{Leaves, AreUnfit, branch_of, branch_met, spread_of}
use Rattle.aq_worlds.specs.declared.world.PlainWorld.{PlainWorld}

pub leaves_same : (g : Guard) (a x b y : List Stmt) (worlds list : List PlainWorld) → a ≡ x → b ≡ y → Leaves (branch_of g a b) worlds list → Leaves (branch_of g x y) worlds list
leaves_same g a x b y worlds list e f p =
    subst (λ (l : List Stmt). Leaves (branch_of g x l) worlds list) f (subst (λ (l : List Stmt). Leaves (branch_of g l b) worlds list) e p)

pub met_same : (g : Guard) (a x b y : List Stmt) (worlds : List PlainWorld) → a ≡ x → b ≡ y → AreUnfit (branch_met g a b) worlds → AreUnfit (branch_met g x y) worlds
met_same g a x b y worlds e f p = subst (λ (l : List Stmt). AreUnfit (branch_met g x l) worlds) f (subst (λ (l : List Stmt). AreUnfit (branch_met g l b) worlds) e p)

pub one_leaves : (l : List Stmt) (w : PlainWorld) (worlds list : List PlainWorld) → worlds ≡ w ∷ [] → Leaves (spread_of l) worlds list → Leaves (spread_of l) (w ∷ []) list
one_leaves l w worlds list e p = subst (λ (z : List PlainWorld). Leaves (spread_of l) z list) e p

pub one_unfit : (l : List Stmt) (w : PlainWorld) (worlds : List PlainWorld) → worlds ≡ w ∷ [] → AreUnfit (λ n. meets_of n l) worlds → AreUnfit (λ n. meets_of n l) (w ∷ [])
one_unfit l w worlds e p = subst (AreUnfit (λ n. meets_of n l)) e p
