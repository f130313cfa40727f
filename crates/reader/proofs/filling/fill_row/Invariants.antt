use Rattle.std.proofs.Common.{◌-◌, ◌≤◌}
use Rattle.reader.specs.Rows.{FillsBlocks}
use Rattle.reader.proofs.filling.fill_row.Given as goal

-- the row's values in the blocks before t are written
abbrev pub invariant-loop-t : goal.invariant-loop-t
invariant-loop-t l = (l.t ≤ l.row.sizes.blocks) × FillsBlocks l.row l.weights l.work l.t l.initial.out l.out

abbrev pub decreases-loop-t : goal.decreases-loop-t
decreases-loop-t l = l.row.sizes.blocks - l.t
