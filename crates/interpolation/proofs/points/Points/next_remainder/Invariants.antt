use Rattle.std.proofs.Common.{◌≡◌, ◌-◌, ◌≤◌, ◌∷◌, get_or, take}
use Rattle.lists.proofs.Known.{Known}
use Rattle.interpolation.specs.Polynomial.{plus, scale}
use Rattle.interpolation.specs.Interpolation.{side}
use Rattle.interpolation.proofs.points.Points.next_remainder.Given as goal

-- the coefficients below e are right, and those from d on, which stay zeros; `lower` is the one of the last remainder before e, 0 at the start
abbrev pub invariant-loop-e : goal.invariant-loop-e
invariant-loop-e l =
    Known 0 (λ k. get_or (take l.d (plus (0 ∷ l.last) (scale (get_or l.last (l.d - 1) 0) l.self.product))) k 0) side (λ k. l.e ≤ k → l.d ≤ k) l.row
    × (l.lower ≡ get_or (0 ∷ l.last) l.e 0)
