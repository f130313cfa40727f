-- All entries are right but those from place i up to the end.
use Rattle.std.proofs.Common.{◌+◌, min}
use Rattle.interpolation.specs.Interpolation.{side}
use Rattle.staircase.specs.Parameters.{Parameters}
use Rattle.lists.proofs.Known.{Written}
use Rattle.rows.specs.Points.{point_at}
use Rattle.rows.proofs.party_points.Given as goal

abbrev pub invariant-loop-i : goal.invariant-loop-i
invariant-loop-i l = (p : Parameters) → Written 0 (point_at p l.n (λ k. k + 1)) side (min l.n side) l.i l.points
