-- `gf256_test::counts::different_products`: no pair is counted.
use Rattle.std.proofs.Common.{◌≡◌}
use Rattle.gf256_test.proofs.counts.different_products.Given as goal

abbrev pub invariant-loop-b : goal.invariant-loop-b
invariant-loop-b l = l.count ≡ 0

abbrev pub invariant-loop-a : goal.invariant-loop-a
invariant-loop-a l = l.count ≡ 0
