use Rattle.std.proofs.Common.{◌≡◌, ◌<◌, ℕ, get_or}
use Rattle.gf256.specs.Byte.{◌⊗◌}
use Rattle.gf256.specs.Lanes.{lanes}
use Rattle.gf256.proofs.lanes.scale_each.Given as goal

-- what is left is not 0, and at each place it gives with the doubled byte the product
abbrev pub invariant-loop-left : goal.invariant-loop-left
invariant-loop-left l =
    (0 < l.left) × ((i : ℕ) → i < lanes → (get_or l.p i 0 < 256) × (get_or l.p i 0 ⊗ l.left ≡ get_or l.fn.x i 0 ⊗ l.fn.by))

abbrev pub decreases-loop-left : goal.decreases-loop-left
decreases-loop-left l = l.left
