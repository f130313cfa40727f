use Rattle.std.proofs.Common.{length, ◌∙◌, arith}
use Rattle.interpolation.specs.Interpolation.{side}
use Rattle.interpolation.proofs.OpeningRows.{taken_over, first-row}
use Rattle.interpolation.proofs.points.Points.first_remainder.Goals as goal

pub returns : goal.returns
returns c =
    let p = c.args.self.now in
    rw c.copy_from_slice.ensures.after (taken_over side (length p.all.now) p.product p.few (omega arith)) ∙ first-row p.all.now p.product p.few p.over_all
