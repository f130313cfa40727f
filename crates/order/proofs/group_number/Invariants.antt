-- After i counts that are not d, the number is i more than the number among the counts that are left.
use Rattle.std.proofs.Common.{◌≡◌, ◌+◌, drop}
use Rattle.order.specs.ReadingOrder.{group_number}
use Rattle.order.proofs.group_number.Given as goal

abbrev pub invariant-loop-i : goal.invariant-loop-i
invariant-loop-i l = l.i + group_number l.d (drop l.i l.counts) ≡ group_number l.d l.counts
