use Rattle.std.proofs.Common.{arith}
use Rattle.reader.proofs.CountedScheme.{prefix_few}
use Rattle.reader.proofs.decoding.sizes_of.Goals as goal

pub overflow_mul-result : goal.overflow_mul-result
overflow_mul-result c = rw c.prefix_rows.ensures (omega (arith, prefix_few c.args.prefixes.input))
