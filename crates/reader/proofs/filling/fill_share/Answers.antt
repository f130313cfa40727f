use Rattle.std.proofs.Common.{◌≡◌, ◌∙◌, arith}
use Rattle.lists.proofs.Joined.{row_room}
use Rattle.reader.specs.Prefixes.{read_of}
use Rattle.reader.proofs.CountedScheme.{prefix_few}
use Rattle.reader.proofs.RowFacts.{RowAt, row-written, row_told}
use Rattle.reader.proofs.ShareFilling.{rows_more, rows_all}
use Rattle.reader.proofs.filling.fill_share.Goals as goal

-- the row that is next

pub invariant_of-row : goal.invariant_of-row
invariant_of-row c =
    let a = c.args.prefixes in
    let R : RowAt a.scheme a.scheme.counts.now a.d a.skip a.blocks (read_of a) c.loop-j.j
    = record { input = a.input; inside = omega (arith, c.requires.whole) } in
    let fits = row_told a.bytes.now R (row-written R c.row_origins-top.new.places c.row_origins-top.ensures.1) c.sizes_of-sizes.ensures c.row_origins-top.ensures.0 in
    record { sizes_fit = fits.0; row_fits = fits.1 }

pub fill_row-requires : goal.fill_row-requires
fill_row-requires c =
    let a = c.args.prefixes in
    rw c.sizes_of-sizes.ensures (
      omega (arith, row_room c.loop-j.j a.scheme.rows a.blocks c.loop-j-test.true, c.loop-j.auto.out, c.requires.room),
      omega (arith, c.loop-j.auto.out, c.requires.room, rw c.requires.whole at (prefix_few a.input)),
    )

pub loop-j-preserved : goal.loop-j-preserved
loop-j-preserved c =
    let a = c.args.prefixes in
    let l = c.loop-j in
    let R : RowAt a.scheme a.scheme.counts.now a.d a.skip a.blocks (read_of a) l.j
    = record { input = a.input; inside = omega (arith, c.requires.whole) } in
    rows_more a.bytes.now R (row-written R c.row_origins-top.new.places c.row_origins-top.ensures.1) c.sizes_of-sizes.ensures c.row_origins-top.ensures.0
    c.args.chosen.now c.in_first_column-weights.result c.args.work.now l.out c.fill_row.new.out c.in_first_column-weights.ensures c.fill_row.ensures l.invariant

pub returns : goal.returns
returns c =
    let a = c.args.prefixes in
    let l = c.loop-j in
    let all : l.j ≡ a.scheme.rows = omega (arith, l.auto.j-end) in
    rows_all a.scheme a.scheme.counts.now a.d a.blocks c.args.chosen.now (read_of a) c.args.work.now l.out (l.auto.out ∙ c.requires.room)
    (rw all at l.invariant)
