-- All entries are right but those from place i up to the end.
use Rattle.std.proofs.Common.{length, get_or, min}
use Rattle.interpolation.specs.Interpolation.{side}
use Rattle.staircase.specs.Parameters.{Parameters}
use Rattle.lists.proofs.Known.{Written}
use Rattle.rows.specs.Points.{point_at}
use Rattle.rows.proofs.points_of.Given as goal

abbrev pub invariant-loop-i : goal.invariant-loop-i
invariant-loop-i l = (p : Parameters) → Written 0 (point_at p (length l.parties) (λ k. get_or l.parties k 0)) side (min (length l.parties) side) l.i l.points
