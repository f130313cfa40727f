-- The first k bytes are there.
use Rattle.std.proofs.Common.{◌≡◌, ℕ, ◌+◌, ◌*◌, ◌<◌, length, get_or}
use Rattle.gf256.specs.Lanes.{lanes}
use Rattle.columns.proofs.flat_column.Given as goal

abbrev pub invariant-loop-k : goal.invariant-loop-k
invariant-loop-k l = record {
  long : length l.column ≡ lanes;
  first : (j : ℕ) → j < l.k → get_or l.column j 0 ≡ get_or l.columns (l.e * lanes + j) 0;
}
