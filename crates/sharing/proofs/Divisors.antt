-- No call divides by 0: distinct parties have distinct points, of which `divisors` of interpolation speaks, and those of an accepted list are distinct.
-- Assumes nothing.
use mathlib.Core.Logic.{◌≢◌}
use mathlib.Core.List.{List, map}
use Prim.Native.Nat.{ℕ, ◌<◌}
use lib.ListN.{length, get_or, length-map}
use Rattle.lists.proofs.Each.{get_or-map}
use Rattle.gf256.specs.Byte.{◌⊕◌}
use Rattle.interpolation.specs.Divisors.{Divisors, difference}
use Rattle.interpolation.proofs.Laws.{divisors}
use Rattle.scheme.proofs.Laws.{default_accepted, parties_distinct}
use Rattle.staircase.specs.Parameters.{Parameters, AcceptedScheme, default_parameters, point}
use Rattle.staircase.proofs.Points.{points-bytes, points-distinct}
use Rattle.sharing.specs.Divisors.{NeverByZero, DistinctNeverByZero}

two-apart : (p : Parameters) (parties : List ℕ) → Divisors (map (point p) parties) → (i j : ℕ) → i < length parties → j < length parties → i ≢ j
    → point p (get_or parties i 0) ⊕ point p (get_or parties j 0) ≢ 0
two-apart p parties D i j hi hj n =
    rw (← get_or-map (point p) parties i 0 0 hi, ← get_or-map (point p) parties j 0 0 hj)
    (D.nonzero _ (difference i j (rw (length-map parties (point p)) hi) (rw (length-map parties (point p)) hj) n))

pub distinct_never_by_zero : (p : Parameters) → AcceptedScheme p → DistinctNeverByZero p
distinct_never_by_zero p A parties inside apart =
    let D : Divisors (map (point p) parties) = divisors (map (point p) parties) (points-bytes p A parties inside) (points-distinct p A parties inside apart) in
    record { apart = two-apart p parties D; divisors = D }

pub never_by_zero : (p : Parameters) → AcceptedScheme p → NeverByZero p
never_by_zero p A parties rising =
    let right = parties_distinct p.n parties rising in
    distinct_never_by_zero p A parties right.1 right.0

-- the default scheme
pub default_distinct_never_by_zero : DistinctNeverByZero default_parameters
default_distinct_never_by_zero = distinct_never_by_zero default_parameters default_accepted

pub default_never_by_zero : NeverByZero default_parameters
default_never_by_zero = never_by_zero default_parameters default_accepted
