use Rattle.std.proofs.Common.{◌≡◌, ◌<◌, ℕ, length, get_or}
use Rattle.gf256.specs.Byte.{◌⊕◌, ◌⊗◌}
use Rattle.gf256.specs.Lanes.{lanes}
use Rattle.gf256.proofs.lanes.scale_odd.Given as goal

-- at each place the sum so far, and the product of what is left with the next double, is the product
abbrev pub invariant-loop-left : goal.invariant-loop-left
invariant-loop-left l =
    (length l.sum ≡ lanes) × ((i : ℕ) → i < lanes → get_or l.sum i 0 ⊕ (get_or l.p i 0 ⊗ 2) ⊗ l.left ≡ get_or l.fn.x i 0 ⊗ l.fn.by)

abbrev pub decreases-loop-left : goal.decreases-loop-left
decreases-loop-left l = l.left
