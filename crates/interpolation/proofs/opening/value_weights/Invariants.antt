use Rattle.std.proofs.Common.{◌≡◌}
use Rattle.lists.proofs.Fill.{Fill}
use Rattle.gf256.specs.Byte as byte
use Rattle.interpolation.specs.Interpolation.{side}
use Rattle.interpolation.specs.Opening.{value_weight}
use Rattle.interpolation.proofs.opening.value_weights.Given as goal

-- the weights below i are there, and the power of x is that of degree i
abbrev pub invariant-loop-i : goal.invariant-loop-i
invariant-loop-i l = Fill (value_weight l.weights l.d l.x) side l.i l.chosen × (l.power ≡ byte.power l.x l.i)
