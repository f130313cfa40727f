use Rattle.std.proofs.Common.{◌-◌, ◌≡◌, ◌+◌, ◌*◌, ◌≤◌}
use Rattle.reader.specs.Rows.{SolvesRow}
use Rattle.reader.proofs.decoding.decode_row.Given as goal

-- the blocks before t are solved, and their bytes counted
abbrev pub invariant-loop-t : goal.invariant-loop-t
invariant-loop-t l =
    (l.t ≤ l.row.sizes.blocks) × (l.used ≡ l.initial.used + l.row.sizes.d * l.t) × SolvesRow l.row l.weights 0 l.t l.initial.work l.work

abbrev pub decreases-loop-t : goal.decreases-loop-t
decreases-loop-t l = l.row.sizes.blocks - l.t
