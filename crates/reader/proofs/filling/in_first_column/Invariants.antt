use Rattle.std.proofs.Common.{◌≡◌, ◌<◌, ℕ, [], length, get_or}
use Rattle.interpolation.specs.Interpolation.{side}
use Rattle.reader.proofs.filling.in_first_column.Given as goal

-- the first i rows begin with their weights
abbrev pub invariant-loop-i : goal.invariant-loop-i
invariant-loop-i l =
    (length l.table ≡ side)
    × ((j : ℕ) → j < side → length (get_or l.table j []) ≡ side)
    × ((j : ℕ) → j < l.i → get_or (get_or l.table j []) 0 0 ≡ get_or l.chosen j 0)
