-- The row is that of the turns left in the groups left.
use Rattle.std.proofs.Common.{◌≡◌, get_or, Fits, w64}
use Rattle.order.specs.ReadingOrder.{rows_before, groups_down}
use Rattle.order.proofs.row_in_turn.Given as goal

abbrev pub invariant-loop-g : goal.invariant-loop-g
invariant-loop-g l = record {
  end : l.end ≡ rows_before l.block l.z l.counts l.g;
  end_fits : Fits w64 l.end;
  row : get_or (groups_down l.block l.z l.counts l.g) l.left 0 ≡ get_or (groups_down l.block l.z l.counts l.groups) l.turn 0;
}
