use Rattle.std.proofs.Common.{get_or}
use Rattle.lists.proofs.Fill.{Fill}
use Rattle.gf256.specs.Byte.{◌⊗◌}
use Rattle.gf256.specs.Lanes.{lanes}
use Rattle.gf256.proofs.lanes.double_each.Given as goal

-- the first i bytes are doubled
abbrev pub invariant-loop-i : goal.invariant-loop-i
invariant-loop-i l = Fill (λ k. 2 ⊗ get_or l.x k 0) lanes l.i l.r
