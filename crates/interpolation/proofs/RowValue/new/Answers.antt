use Rattle.std.proofs.Common.{refl}
use Rattle.lists.specs.Table.{tabulate}
use Rattle.interpolation.proofs.RowValue.new.Goals as goal

pub returns : goal.returns
unfolding tabulate
returns c = (refl, refl)
