-- `key_pool::taking::lacks` meets its contract: at each return the tests that led there say which case holds.
-- Assumes nothing.
use Rattle.std.proofs.Common.{arith}
use Rattle.std.proofs.lemmas.Bool.Decides.{nat_tests}
use Rattle.key_pool.specs.Pool.{pool_refused}
use Rattle.key_pool.proofs.taking.lacks.Goals as goal

pub returns-then-pool-bytes : goal.returns-then-pool-bytes
unfolding pool_refused
returns-then-pool-bytes c = grind (arith, nat_tests)

pub returns : goal.returns
unfolding pool_refused
returns c = grind (arith, nat_tests)
