use Rattle.std.proofs.Common.{◌≡◌}
use Rattle.interpolation.proofs.Table.{product_from}
use Rattle.interpolation.proofs.points.vanishing.Given as goal

-- the product is that over the points from place j on
abbrev pub invariant-loop-j : goal.invariant-loop-j
invariant-loop-j l = l.product ≡ product_from l.points l.j
