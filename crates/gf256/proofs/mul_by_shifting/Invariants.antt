use Rattle.std.proofs.Common.{◌≡◌, ◌<◌}
use Rattle.gf256.specs.Byte.{◌⊕◌, ◌⊗◌}
use Rattle.gf256.proofs.mul_by_shifting.Given as goal

-- the sum so far, and the product of what is left, is the product
abbrev pub invariant-loop-left : goal.invariant-loop-left
invariant-loop-left l = (l.sum ⊕ l.x ⊗ l.left ≡ l.a ⊗ l.b) × (l.x < 256)

abbrev pub decreases-loop-left : goal.decreases-loop-left
decreases-loop-left l = l.left
