-- The bytes before place k are the table's.
-- Assumes nothing.
use mathlib.Core.List.{[]}
use Prim.Native.Nat.{◌*◌, ◌/◌, ◌%◌}
use lib.ListN.{get_or}
use Rattle.lists.proofs.Fill.{Fill}
use Rattle.interpolation.specs.Interpolation.{side}
use Rattle.exports.proofs.in_one_row.Given as goal

abbrev pub invariant-loop-k : goal.invariant-loop-k
invariant-loop-k l = Fill (λ k. get_or (get_or l.fn.table (k / side) []) (k % side) 0) (side * side) l.k l.weight-items
