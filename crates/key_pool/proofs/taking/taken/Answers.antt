-- `key_pool::taking::taken` meets its contract: at each return the tests that led there say which case holds.
-- Assumes nothing.
use Rattle.std.proofs.Common.{arith}
use Rattle.std.proofs.lemmas.Bool.Decides.{nat_tests}
use Rattle.key_pool.specs.Pool.{taken}
use Rattle.key_pool.proofs.taking.taken.Goals as goal

pub returns-then-bytes-pool : goal.returns-then-bytes-pool
unfolding taken
returns-then-bytes-pool c = grind (arith, nat_tests)

pub returns : goal.returns
unfolding taken
returns c = grind (arith, nat_tests)
