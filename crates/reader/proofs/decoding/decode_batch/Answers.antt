-- The columns are those of every B that has these prefixes, so the sums are its coefficients, which is `batch_step`.
use Rattle.std.proofs.Common.{arith}
use native.Mathlib.Nat.{mul-le-mul_right}
use Rattle.reader.proofs.RowStep.{batch_step}
use Rattle.reader.proofs.decoding.decode_batch.Goals as goal

pub solve_batch-requires-clause-blocks : goal.solve_batch-requires-clause-blocks
solve_batch-requires-clause-blocks c =
    let row = c.args.row.now in (
      c.requires.batch.0,
      omega (arith, c.requires.batch.1, row.sizes_fit.blocks_high),
      row.sizes_fit.block_high,
      λ e a b. row.row_fits.places_low e a (omega (arith, row.row_fits.top_low)),
      rw c.requires.room.1 (mul-le-mul_right row.sizes.block c.requires.batch.1),
    )

pub returns-clause-solved : goal.returns-clause-solved
returns-clause-solved c B points W R H =
    let row = c.args.row.now in
    c.solve_batch.ensures B (batch_step row.sizes_fit row.row_fits c.requires.batch.0 c.requires.batch.1 c.known.ensures c.load_parties.ensures.loaded W R H)
