use Rattle.std.proofs.Common.{◌∙◌, sym, arith}
use Rattle.lists.proofs.Arrays.{array_length}
use Rattle.lists.proofs.Parts.{take-tabulate}
use Rattle.gf256.specs.Lanes.{lanes}
use Rattle.interpolation.specs.Interpolation.{side}
use Rattle.interpolation.proofs.points.lowest.Goals as goal

pub returns : goal.returns
returns c =
    c.copy_from_slice.ensures.after
    ∙ sym (take-tabulate side c.args.bytes 0 (omega (arith, array_length lanes c.args.bytes _ c.well_formed.0)))
