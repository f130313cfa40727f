-- The party that is next: its bytes lie inside the prefixes, the first bytes of its column inside the buffer, and the count after them is at most that
-- after all.
use Rattle.std.proofs.Common.{◌≡◌, ◌*◌, ◌+◌, ◌-◌, ◌≤◌, ◌<◌, ℕ, length, take, drop, ap, ◌∙◌, arith}
use native.Mathlib.Nat.{add-mul}
use Rattle.lists.proofs.Parts.{part_length}
use Rattle.lists.proofs.Skipped.{without_room}
use Rattle.lists.specs.Without.{skipped}
use Rattle.gf256.specs.Lanes.{lanes}
use Rattle.interpolation.specs.Interpolation.{side}
use Rattle.reader.specs.declared.row.Row.{Row}
use Rattle.reader.specs.Rows.{read_in}
use Rattle.reader.proofs.Skips.{lent_at}
use Rattle.reader.proofs.Readings.{sent_more}
use Rattle.reader.proofs.row.Row.load_parties.Goals as goal

inside : (row : Row) (t many a place : ℕ) → t + many ≤ row.sizes.blocks → a < row.sizes.d → place ≡ skipped row.sizes.skip a
    → place * row.sizes.prefix + (row.q + t) + many ≤ length row.prefixes.now
inside row t many a place room below is =
    let whole = without_room row.sizes.prefix row.sizes.skip row.prefixes.now row.sizes.d a row.sizes_fit.prefixes_long below in
    omega (arith, rw (← is) at whole, row.row_fits.inside)

pub overflow_mul-at : goal.overflow_mul-at
overflow_mul-at c = omega (arith, inside c.args.self.now c.args.t c.args.many c.loop-a.a c.place_of.result c.requires.1 c.loop-a-test.true c.place_of.ensures)

pub overflow_add-at : goal.overflow_add-at
overflow_add-at c = omega (arith, inside c.args.self.now c.args.t c.args.many c.loop-a.a c.place_of.result c.requires.1 c.loop-a-test.true c.place_of.ensures)

pub overflow_add-after : goal.overflow_add-after
overflow_add-after c = omega (arith, inside c.args.self.now c.args.t c.args.many c.loop-a.a c.place_of.result c.requires.1 c.loop-a-test.true c.place_of.ensures)

pub slice_bounds-load-end : goal.slice_bounds-load-end
slice_bounds-load-end c = omega (arith, inside c.args.self.now c.args.t c.args.many c.loop-a.a c.place_of.result c.requires.1 c.loop-a-test.true c.place_of.ensures)

pub loop-a-preserved : goal.loop-a-preserved
loop-a-preserved c =
    let l = c.loop-a in
    let a = c.args in
    let row = a.self.now in
    let p = row.sizes.prefix in
    let at : ℕ = c.place_of.result * p + (row.q + a.t) in
    let few : l.a < side = omega (arith, row.sizes_fit.d_high) in
    let read : length (take (at + a.many - at) (drop at row.prefixes.now)) ≡ a.many
    = part_length at a.many row.prefixes.now (inside row a.t a.many l.a c.place_of.result c.requires.1 c.loop-a-test.true c.place_of.ensures) in
    let room : l.a * lanes + a.many ≤ length l.columns = omega (arith, l.invariant.1.long, c.requires.0) in (
      c.load.ensures.0 ∙ ap (λ (x : ℕ). l.used + x) read ∙ omega (arith, l.invariant.0, add-mul l.a 1 a.many),
      sent_more (read_in row) p (row.q + a.t) a.many a.columns.now l.a l.columns c.load.new.out l.invariant.1 few c.requires.0
          (c.load.auto.out ∙ part_length _ a.many l.columns room)
          (lent_at p row.sizes.skip row.prefixes.now l.a (row.q + a.t) a.many c.place_of.result c.load.new.out c.place_of.ensures (omega (arith, c.requires.1, row.row_fits.inside)) c.load.ensures.1),
    )
