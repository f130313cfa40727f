use Rattle.std.proofs.Common.{arith, ◌≤◌}
use native.Mathlib.Nat.{mul-le-mul}
use Rattle.lengths.proofs.Told.{rows_small}
use Rattle.lengths.proofs.of_blocks.Goals as goal

-- N × z × b
pub overflow_mul-result-2 : goal.overflow_mul-result-2
overflow_mul-result-2 c =
    let byte : c.from.result ≤ 255 = omega arith in
    omega (arith, mul-le-mul (mul-le-mul c.requires byte) (rows_small c.args.s))

pub overflow_mul-result-3 : goal.overflow_mul-result-3
overflow_mul-result-3 c = omega (arith, mul-le-mul c.requires (rows_small c.args.s))

-- n × N × b
pub overflow_mul-result-5 : goal.overflow_mul-result-5
overflow_mul-result-5 c =
    let byte : c.from-2.result ≤ 255 = omega arith in
    omega (arith, mul-le-mul (mul-le-mul byte c.requires) (rows_small c.args.s))
