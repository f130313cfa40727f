use Rattle.std.proofs.Common.{◌≡◌, ℕ, ◌+◌, ◌-◌, ◌≤◌, List, ◌++◌, length, take, drop, refl, ◌∙◌, arith}
use Rattle.lists.proofs.Parts.{part_length}
use Rattle.reader.specs.Rows.{FillsBlocks}
use Rattle.reader.proofs.RowFilling.{fills_none, fills_more}
use Rattle.reader.proofs.filling.fill_row.Goals as goal

pub loop-t-init : goal.loop-t-init
loop-t-init c = (omega arith, fills_none c.args.row.now c.args.weights.now c.args.work.now c.args.out.now)

pub loop-t-preserved : goal.loop-t-preserved
loop-t-preserved c =
    let row = c.args.row.now in
    let l = c.loop-t in
    let many : ℕ = c.batch_of-many.result in
    let y : List ℕ = c.solve_batch.new.work in
    let at : ℕ = row.q + l.t in
    let within : l.t + many ≤ row.sizes.blocks = omega (arith, c.batch_of-many.ensures) in
    let room : at + many ≤ length l.out = omega (arith, c.requires.0, l.auto.out) in
    let filled : FillsBlocks row c.args.weights.now c.args.work.now (l.t + many) c.args.out.now (take at l.out ++ (y ++ drop (at + many - at) (drop at l.out)))
    = fills_more row l.t many (omega (arith, c.batch_of-many.ensures)) within c.known.ensures c.load_parties.ensures.loaded c.args.weights.now _ _ y
    c.args.out.now l.out refl c.solve_batch.ensures (c.solve_batch.auto.work ∙ part_length at many l.out room) c.requires.0 l.invariant.1 in (
      within,
      filled,
    )

pub returns : goal.returns
returns c =
    let all : c.loop-t.t ≡ c.args.row.now.sizes.blocks = omega (arith, c.loop-t.invariant.0) in
    rw all at c.loop-t.invariant.1

pub loop-t-smaller : goal.loop-t-smaller
loop-t-smaller c = omega (arith, c.batch_of-many.ensures)
