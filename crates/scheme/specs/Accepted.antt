-- What is so of every scheme that the check accepted: the type `Scheme` has it as a ghost field.
-- Assumes nothing.
use Rattle.std.specs.Prelude.{◌≡◌, List, ℕ}
use Rattle.scheme.specs.BlockLength.{block_length}
use Rattle.scheme.specs.Check.{refusal, rows_of_block}

-- no refusal of the scheme's place applies to the parameters, m is their block length and b the rows of a block
pub record IsAccepted (n r z : ℕ) (ds : List ℕ) (m b : ℕ) : Type 0 where
  pub passed : refusal n r z ds ≡ 0
  pub block_is : m ≡ block_length z ds
  pub rows_is : b ≡ rows_of_block n r z (block_length z ds)
