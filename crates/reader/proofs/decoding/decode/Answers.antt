use Rattle.std.proofs.Common.{◌∙◌, arith}
use Rattle.lists.proofs.Joined.{row_room}
use Rattle.order.proofs.ReadingOrder.{code_turn}
use Rattle.reader.specs.Decoding.{max_usize, sent_rows}
use Rattle.reader.specs.Prefixes.{read_of}
use Rattle.reader.proofs.CountedScheme.{prefix_few, sent_few}
use Rattle.reader.proofs.RowFacts.{row-written, row_told}
use Rattle.reader.proofs.RowOrder.{counted_more, TurnAt, row_at, row_done}
use Rattle.reader.proofs.decoding.decode.Goals as goal

-- the row whose turn it is

pub overflow_mul-row : goal.overflow_mul-row
overflow_mul-row c =
    let a = c.args.prefixes in
    let R : TurnAt a.scheme a.scheme.counts.now a.d a.skip a.blocks (read_of a) c.loop-turn.turn c.row_in_turn-j.result
    = record { input = a.input; here = omega (arith, c.requires.0); row_is = code_turn _ _ _ _ _ _ _ c.group_number-groups.ensures c.row_in_turn-j.ensures } in
    omega (arith, row_room _ _ a.blocks (row_at R).inside, prefix_few R.input)

pub invariant_of-row : goal.invariant_of-row
invariant_of-row c =
    let a = c.args.prefixes in
    let R : TurnAt a.scheme a.scheme.counts.now a.d a.skip a.blocks (read_of a) c.loop-turn.turn c.row_in_turn-j.result
    = record { input = a.input; here = omega (arith, c.requires.0); row_is = code_turn _ _ _ _ _ _ _ c.group_number-groups.ensures c.row_in_turn-j.ensures } in
    let fits = row_told a.bytes.now (row_at R) (row-written (row_at R) c.row_origins-top.new.places c.row_origins-top.ensures.1) c.sizes_of-sizes.ensures c.row_origins-top.ensures.0 in
    record { sizes_fit = fits.0; row_fits = fits.1 }

-- the count after it

pub decode_row-requires-clause-counter : goal.decode_row-requires-clause-counter
decode_row-requires-clause-counter c =
    let a = c.args.prefixes in
    let l = c.loop-turn in
    rw c.sizes_of-sizes.ensures
    (counted_more a.d a.blocks l.used l.turn (sent_rows a.scheme a.d) max_usize (omega (arith, c.requires.0)) l.invariant.0 (omega (arith, sent_few a.input))).1

pub loop-turn-preserved : goal.loop-turn-preserved
loop-turn-preserved c =
    let a = c.args.prefixes in
    let l = c.loop-turn in
    let R : TurnAt a.scheme a.scheme.counts.now a.d a.skip a.blocks (read_of a) l.turn c.row_in_turn-j.result
    = record { input = a.input; here = omega (arith, c.requires.0); row_is = code_turn _ _ _ _ _ _ _ c.group_number-groups.ensures c.row_in_turn-j.ensures } in (
      rw c.sizes_of-sizes.ensures at c.decode_row.ensures.counted
          ∙ (counted_more a.d a.blocks l.used l.turn (sent_rows a.scheme a.d) max_usize R.here l.invariant.0 (omega (arith, sent_few R.input))).0,
      λ B K points W X.
          row_done a.bytes.now R (row-written (row_at R) c.row_origins-top.new.places c.row_origins-top.ensures.1) c.sizes_of-sizes.ensures c.row_origins-top.ensures.0
          l.work c.decode_row.new.work c.args.weights c.decode_row.ensures.solved B K points W X (l.invariant.1 B K points W X),
    )
