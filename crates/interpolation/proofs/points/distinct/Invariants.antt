use Rattle.std.proofs.Common.{◌≡◌, drop}
use Rattle.lists.specs.Each.{distinct}
use Rattle.interpolation.proofs.points.distinct.Given as goal

-- the points are distinct if those from place i on are
abbrev pub invariant-loop-i : goal.invariant-loop-i
invariant-loop-i l = distinct l.points ≡ distinct (drop l.i l.points)
