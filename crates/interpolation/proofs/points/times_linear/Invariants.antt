use Rattle.std.proofs.Common.{◌≡◌, ◌+◌, ◌≤◌, ◌<◌, ◌∷◌, get_or}
use Rattle.lists.proofs.Known.{Known}
use Rattle.interpolation.specs.Polynomial.{linear}
use Rattle.interpolation.specs.Interpolation.{side}
use Rattle.interpolation.proofs.points.times_linear.Given as goal

-- the coefficients below e are right, and those above the degree, which stay zero; `lower` is the one of the given polynomial before e, 0 at the start
abbrev pub invariant-loop-e : goal.invariant-loop-e
invariant-loop-e l =
    Known 0 (λ k. get_or (linear l.point 0 l.poly) k 0) (side + 1) (λ k. l.e ≤ k → l.degree < k) l.longer × (l.lower ≡ get_or (0 ∷ l.poly) l.e 0)
