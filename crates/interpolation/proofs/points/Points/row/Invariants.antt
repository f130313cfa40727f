use Rattle.interpolation.proofs.Row.{Divided}
use Rattle.interpolation.proofs.points.Points.row.Given as goal

-- the quotient's coefficients from degree e on, and the value of these
abbrev pub invariant-loop-e : goal.invariant-loop-e
invariant-loop-e l = Divided l.self.all.now l.i l.e l.quotient l.above l.value
