use Rattle.std.proofs.Common.{arith}
use Rattle.lists.proofs.Table.{tabulate_is}
use Rattle.gf256.specs.Lanes.{lanes}
use Rattle.columns.specs.Columns.{flat_column}
use Rattle.columns.proofs.flat_column.Goals as goal

pub returns : goal.returns
unfolding flat_column
returns c = tabulate_is _ lanes _ 0 c.loop-k.invariant.long (λ j h. c.loop-k.invariant.first j (omega arith))
