use Rattle.std.proofs.Common.{refl}
use Rattle.interpolation.proofs.RowValues.{next_by_lanes}
use Rattle.interpolation.proofs.RowValue.next.Goals as goal

pub returns : goal.returns
returns c = (refl, next_by_lanes _ _ _ c.scale_each-scaled.ensures c.sum_each-sums.ensures)
