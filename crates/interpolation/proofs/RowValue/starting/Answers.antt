-- A coefficient is what it makes of zeros.
use Rattle.std.proofs.Common.{refl}
use Rattle.lists.proofs.Arrays.{array_length}
use Rattle.gf256.specs.Lanes.{lanes}
use Rattle.interpolation.proofs.RowValues.{next_of_zeros}
use Rattle.interpolation.proofs.RowValue.starting.Goals as goal

pub returns : goal.returns
returns c = (refl, next_of_zeros _ _ (array_length lanes c.args.coefficient _ c.well_formed.1.0))
