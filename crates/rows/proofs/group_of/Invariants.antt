-- After i counts, the group is i more than the group among the counts that are left.
use Rattle.std.proofs.Common.{◌≡◌, ◌+◌, drop}
use Rattle.staircase.specs.Coefficients.{group_of}
use Rattle.rows.proofs.group_of.Given as goal

abbrev pub invariant-loop-i : goal.invariant-loop-i
invariant-loop-i l = l.i + group_of l.block l.z (drop l.i l.counts) l.row ≡ group_of l.block l.z l.counts l.row
