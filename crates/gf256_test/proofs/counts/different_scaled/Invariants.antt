-- `gf256_test::counts::different_scaled`: no more differences than places.
use Rattle.std.proofs.Common.{◌≤◌, ◌*◌}
use Rattle.gf256.specs.Lanes.{lanes}
use Rattle.gf256_test.proofs.counts.different_scaled.Given as goal

abbrev pub invariant-loop-i : goal.invariant-loop-i
invariant-loop-i l = l.count ≤ lanes * l.i
