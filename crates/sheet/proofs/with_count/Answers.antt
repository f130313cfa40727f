-- `with_count` meets its contract: the items, the spaces and the end of a count's line are added in order.
use Rattle.std.proofs.Common.{◌≤◌, arith}
use native.Mathlib.Nat.{mul-le-mul}
use Rattle.scheme.specs.Limits.{max_block}
use Rattle.sheet.specs.Sheet.{line, count_line}
use Rattle.sheet.proofs.Written.{adds_then}
use Rattle.sheet.proofs.SheetText.{block_most, rows_most}
use Rattle.sheet.proofs.with_count.Goals as goal

pub overflow_mul-count : goal.overflow_mul-count
overflow_mul-count c =
    let low : c.rows_of_count-rows.result ≤ max_block = omega (arith, rows_most c.args.scheme.block c.args.scheme.z c.from-count.result, block_most c.args.scheme) in
    let small : c.from-count.result ≤ 255 = omega arith in
    omega (arith, mul-le-mul small low)

pub returns : goal.returns
unfolding count_line line
returns c =
    rw (← c.from-count.ensures, ← c.rows_of_count-rows.ensures)
    (adds_then c.number.ensures
    (adds_then c.byte.ensures
    (adds_then c.number-2.ensures
    (adds_then c.byte-2.ensures (adds_then c.number-3.ensures c.byte-3.ensures)))))
