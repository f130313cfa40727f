use Rattle.interpolation.proofs.Rows.{Rows}
use Rattle.interpolation.proofs.points.Points.basis.Given as goal

-- the rows below i are right, and those beyond the points, which stay zero
abbrev pub invariant-loop-i : goal.invariant-loop-i
invariant-loop-i l = Rows l.self.all.now l.i l.table
