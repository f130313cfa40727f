use Rattle.interpolation.specs.Interpolation.{side}
use Rattle.lists.specs.Without.{skipped}
use Rattle.lists.proofs.Fill.{Fill}
use Rattle.staircase.specs.Parameters.{Parameters, point}
use Rattle.std.proofs.Common.{get_or}
use Rattle.reader.proofs.agreeing.first_points.Given as goal

-- the first i points are there
abbrev pub invariant-loop-i : goal.invariant-loop-i
invariant-loop-i l = (p : Parameters) → Fill (λ k. point p (get_or l.parties (skipped l.skip k) 0)) side l.i l.points
