-- The vectors of an expression, once its size is told.
use Rattle.std.proofs.Common.{◌≡◌, ℕ, ◌^◌, ◌<◌, ◌≤◌, List, Err, length, sym, subst, arith}
use Rattle.std.specs.List.{All}
use Rattle.aq_sets.specs.Vectors.{Vector, vectors_of, products_of}
use Rattle.aq_sets.specs.Sizes.{size_of}
use Rattle.aq_sets.specs.declared.sets.Expr.{Expr}
use Rattle.aq_sets.specs.Caps.{capped}
use Rattle.aq_sets.specs.ValidExprs.{AreValidExprs}
use Rattle.aq_plain.specs.Listing.{StopsAmong, VectorsGive}
use Rattle.aq_plain.specs.declared.stop.VectorStop.{VectorStop}
use Rattle.aq_plain.specs.declared.stop.VectorStop.TheVariants as stop
use Rattle.aq_sets.proofs.SizeLaws.{IsLong, has_count, has_long}

pub too_many : (exprs : List Expr) → AreValidExprs exprs → (i n most : ℕ) → i < length exprs → n ≡ capped (size_of exprs i).count → most < n → most < length (vectors_of exprs i)
too_many exprs valid i n most lt e h = let c = has_count exprs valid i lt in omega arith

pub not_too_many : (exprs : List Expr) → AreValidExprs exprs → (i n most : ℕ) → i < length exprs → n ≡ capped (size_of exprs i).count → most < 2 ^ 64 → n ≤ most
    → length (vectors_of exprs i) ≤ most
not_too_many exprs valid i n most lt e small h = let c = has_count exprs valid i lt in omega arith

pub long_rows : (exprs : List Expr) → AreValidExprs exprs → (i n : ℕ) (rows : List Vector) → i < length exprs → n ≡ (size_of exprs i).qubits → rows ≡ vectors_of exprs i
    → All (IsLong n) rows
long_rows exprs valid i n rows lt e same =
    subst (λ (m : ℕ). All (IsLong m) rows) (sym e) (subst (λ (vs : List Vector). All (IsLong (size_of exprs i).qubits) vs) (sym same) (has_long exprs valid i lt))

-- why the products weren't all taken is why the vectors aren't given
pub gives_stop : (exprs : List Expr) (i most : ℕ) (e : VectorStop) → length (vectors_of exprs i) ≤ most → StopsAmong (products_of exprs i) e → VectorsGive exprs i most (Err e)
gives_stop exprs i most (stop.Wide left right) few h = (few, h)
gives_stop exprs i most stop.TooMany few h = absurd h
gives_stop exprs i most stop.Memory few h = tt
