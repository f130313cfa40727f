use Rattle.std.proofs.Common.{◌<◌, length}
use Rattle.interpolation.proofs.OpeningRows.{KnownRows}
use Rattle.interpolation.proofs.opening.opening_weights.Given as goal

-- the rows of the known coefficients below i are written, over the basis
abbrev pub invariant-loop-i : goal.invariant-loop-i
invariant-loop-i l = (length l.read.all.now < l.i) × KnownRows l.read.all.now l.top l.end l.i l.table
