-- The bytes of a column that is gathered, and the number of blocks of a batch.
-- Assumes nothing.
use mathlib.Core.Path.{◌≡◌}
use mathlib.Core.List.{List}
use Prim.Native.Nat.{ℕ, ◌+◌, ◌*◌, ◌≤◌, ◌<◌, min}
use native.Mathlib.Omega.{arith}
use lib.ListN.{get_or}
use Rattle.gf256.specs.Lanes.{lanes}
use Rattle.columns.specs.Columns.{strided}
use Rattle.columns.proofs.Gathered.{strided_for-at}

pub strided-at : (bytes : List ℕ) (at step k : ℕ) → k < lanes → get_or (strided bytes at step) k 0 ≡ get_or bytes (at + k * step) 0
strided-at bytes at step k h = strided_for-at lanes bytes at step k h

-- a batch is no longer than 64 blocks and than what is left, and there is one while any are left
pub batch_fits : (left many : ℕ) → many ≡ min left lanes → (many ≤ lanes) × (many ≤ left) × (0 < left → 0 < many)
batch_fits left many e = (omega arith, omega arith, λ h. omega arith)
