use Rattle.std.proofs.Common.{◌*◌, ◌+◌, ◌≤◌, ℕ, length, get_or, ap, ◌∙◌, arith, length-take, length-drop}
use Rattle.gf256.specs.Lanes.{lanes}
use Rattle.columns.specs.Columns.{strided_for}
use Rattle.reader.proofs.Readings.{known_more}
use Rattle.reader.proofs.row.Row.known.Goals as goal

pub loop-e-preserved : goal.loop-e-preserved
loop-e-preserved c =
    let l = c.loop-e in
    let a = c.args in
    let row = a.self.now in
    let room : l.e * lanes + lanes ≤ length l.columns = omega (arith, l.invariant.long, row.row_fits.top_high) in
    known_more a.work.now row.places.now row.sizes.d a.t row.sizes.block l.e l.columns c.gather_into.new.out l.invariant (omega (arith, row.row_fits.top_high))
    (c.gather_into.auto.out ∙ simp (length-take, length-drop) (omega arith))
    (c.gather_into.ensures ∙ ap (λ (n : ℕ). strided_for n a.work.now (a.t * row.sizes.block + get_or row.places.now l.e 0) row.sizes.block) (simp (length-take, length-drop) (omega arith)))
